-- The least type of a body that something comes to, and its faults, for types of its variables that hold just what these capture.
use Rattle.std.proofs.Common.{◌≡◌, ℕ, ◌⊎◌, inl, inr, List, [], ◌++◌, Option, Some, None, refl}
use Rattle.cd_sets.specs.declared.node_id.NodeId.{NodeId}
use Rattle.cd_syntax.specs.Name.{Name}
use Rattle.cd_syntax.specs.TypeTree.{Tree}
use Rattle.cd_model.specs.Formula.{Graph}
use Rattle.cd_model.specs.Scope.{Scope}
use Rattle.cd_model.specs.Thing.{Thing}
use Rattle.cd_matching.specs.Captures.{Captures}
use Rattle.cd_program.specs.Expr.{Expr}
use Rattle.cd_meaning.specs.Sets.{Set, ◌⊆◌, elements_of}
use Rattle.cd_typing.specs.Branches.{IsFirst}
use Rattle.cd_typing.specs.Typ.{Types}
use Rattle.cd_typing.specs.declared.rule.Rule.{Rule}
use Rattle.cd_least.specs.Faults.{Fault, Owed}
use Rattle.cd_least.specs.Misses.{AreCaptured, place_of}
use Rattle.cd_check.proofs.KnownTypes.{reports_more, fails_more}
use Rattle.cd_check.proofs.Needed.{breaks}
use Rattle.cd_check.specs.Inner.BodyFaults.{Owes, BodyFault, BodyLeast}
use Rattle.cd_check.specs.Inner.Environment.{Nodes, AreOfTypes}
use Rattle.cd_check.specs.Inner.Failing.{IsBeyond}
use Rattle.cd_check.specs.Inner.Known.{IsKnown, Fails}
use Rattle.cd_check.specs.declared.bodies.Limit.{Limit}
use Rattle.cd_check.specs.declared.fault.CheckError.{CheckError}

-- The types of the variables stand before those of the names outside, and are of the nodes that the body is checked by
module _ (scope : Scope) (old : Graph) (nodes : Nodes) (pattern : Tree) (matched : Set) (e : Thing) (captures : Captures Name)
    (first : IsFirst scope [] pattern matched e captures) (own : Types) (captured : AreCaptured scope own [] pattern matched)
    (middle : Graph) (all : Nodes) (of_all : (types : Types) → AreOfTypes old nodes types → AreOfTypes middle all (own ++ types)) (body : Expr) where
  pub body_known : (new : Graph) (id : NodeId) → IsKnown middle all scope new body id → BodyLeast scope old nodes new matched pattern body (Some id)
  body_known new id known types of = (e, captures, first, own, captured, known (own ++ types) (of_all types of))

  module _ (table : List Thing) (owed : Owed scope) (error : CheckError) where
    -- the body has a fault, or breaks what it owes
    abbrev Reported : Types → ℕ → Rule → Thing → Type 0
    Reported types at reported d = Fault scope types body at reported d ⊎ owed types body at reported d

    reported_fails : Fails middle all table Reported error → Fails old nodes table (λ types. BodyFault scope types pattern matched owed body) error
    reported_fails = reports_more table (λ at reported d. (types : Types) → AreOfTypes middle all types → Reported types at reported d)
        (λ at reported d. (types : Types) → AreOfTypes old nodes types → BodyFault scope types pattern matched owed body at reported d)
        (λ at reported d is types of. (e, captures, first, own, captured, is (own ++ types) (of_all types of))) error

    pub body_fails : Fails middle all table (λ types. Fault scope types body) error
        → Fails old nodes table (λ types. BodyFault scope types pattern matched owed body) error
    body_fails fails = reported_fails (fails_more middle all table (λ types. Fault scope types body) Reported (λ types of at reported d is. inl is) error fails)

    owed_fails : Fails middle all table (λ types. owed types body) error
        → Fails old nodes table (λ types. BodyFault scope types pattern matched owed body) error
    owed_fails fails = reported_fails (fails_more middle all table (λ types. owed types body) Reported (λ types of at reported d is. inr is) error fails)

  -- a known body is beyond the limit
  pub limit_fails : (new : Graph) (id : NodeId) → IsKnown middle all scope new body id → (table : List Thing) (limit : Option Limit)
      → ((is : Limit) → limit ≡ Some is → elements_of old is.node ⊆ elements_of new is.node) → (at : ℕ) → at ≡ place_of body
      → (error : CheckError) → IsBeyond new table id limit at error
      → Fails old nodes table (λ types. BodyFault scope types pattern matched (Owes scope old limit) body) error
  limit_fails new id known table None holds at place error beyond = reports_more table (λ place reported d. ⊥)
      (λ at reported d. (types : Types) → AreOfTypes old nodes types → BodyFault scope types pattern matched (Owes scope old None) body at reported d)
      (λ at reported d never types of. absurd never) error beyond
  limit_fails new id known table (Some limit) holds at place error beyond = owed_fails table (Owes scope old (Some limit)) error
      (breaks scope middle all new body id known limit.node (elements_of old limit.node) (holds limit refl) at place limit.rule table error beyond)
