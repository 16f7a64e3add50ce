-- What errors of a check report: each is a fault of what was checked.
use Rattle.std.specs.Prelude.{◌≡◌, ◌⊎◌, ℕ, Bool, List, [], Option, Some, None}
use Rattle.cd_sets.specs.declared.node_id.NodeId.{NodeId}
use Rattle.cd_syntax.specs.TypeTree.{Tree}
use Rattle.cd_model.specs.Formula.{Graph}
use Rattle.cd_model.specs.Thing.{Thing}
use Rattle.cd_program.specs.Expr.{Expr, Kind, Exprs, Items, AnItem, Item, Fields, Tail, Tails}
use Rattle.cd_program.specs.Expr.{Branches, FunctionTree}
use Rattle.cd_meaning.specs.Sets.{elements_of}
use Rattle.cd_typing.specs.Operators.{truth}
use Rattle.cd_least.specs.Faults.{Fault, KindFault, ExprsFault, ItemsFault, FieldsFault}
use Rattle.cd_least.specs.Faults.{ArgumentsFault, ArgumentFault, TailsFault, TailFault}
use Rattle.cd_least.specs.Faults.{FunctionFault, BranchFault, Nothing, AResult}
use Rattle.cd_least.specs.Misses.{place_of}
use Rattle.cd_check.specs.declared.base.Base.{Base}
use Rattle.cd_check.specs.declared.bodies.Limit.{Limit}
use Rattle.cd_check.specs.declared.fault.CheckError.{CheckError}
use Rattle.cd_check.specs.Faults.{Reports}
use Rattle.cd_check.specs.Inner.BodyFaults.{Owes, BodyFault, CoveringFault}
use Rattle.cd_check.specs.Inner.Environment.{Nodes}
use Rattle.cd_check.specs.Inner.Known.{IsKnown, Fails, IsOutside}
use Rattle.cd_check.specs.Inner.Ready.{scope_of, seen_by}

module _ (base : Base) (old : Graph) (locals : Nodes) (table : List Thing) where
  abbrev pub ExprFails : Expr → CheckError → Type 0
  ExprFails e = Fails old (seen_by base locals) table
      (λ types at reported d. Fault (scope_of base) types e at reported d)

  -- the form begins here
  abbrev pub KindFails : (here : ℕ) → Kind → CheckError → Type 0
  KindFails here kind = Fails old (seen_by base locals) table
      (λ types at reported d. KindFault (scope_of base) types here kind at reported d)

  -- wherever it begins
  abbrev pub FormFails : Kind → CheckError → Type 0
  FormFails kind error = (here : ℕ) → KindFails here kind error

  abbrev pub OperandsFail : Exprs → CheckError → Type 0
  OperandsFail exprs = Fails old (seen_by base locals) table
      (λ types at reported d. ExprsFault (scope_of base) types exprs at reported d)

  abbrev pub ItemsFail : Items → CheckError → Type 0
  ItemsFail items = Fails old (seen_by base locals) table
      (λ types at reported d. ItemsFault (scope_of base) types items at reported d)

  abbrev pub ItemFails : Item → CheckError → Type 0
  ItemFails item error = (rest : Items) → ItemsFail (AnItem item rest) error

  abbrev pub FieldsFail : Fields → CheckError → Type 0
  FieldsFail fields = Fails old (seen_by base locals) table
      (λ types at reported d. FieldsFault (scope_of base) types fields at reported d)

  -- What stands before is an expression at this place whose least type is the node
  module _ (self : NodeId) (from : ℕ) where
    abbrev StandsBefore : Expr → Type 0
    StandsBefore f =
        IsKnown old (seen_by base locals) (scope_of base) old f self × (place_of f ≡ from)

    abbrev pub ArgumentFails : Expr → CheckError → Type 0
    ArgumentFails e error = (f : Expr) → StandsBefore f → Fails old (seen_by base locals) table
        (λ types at reported d. Fault (scope_of base) types e at reported d
        ⊎ ArgumentFault (scope_of base) types f e at reported d) error

    abbrev pub ArgumentsFail : (here : ℕ) → Exprs → CheckError → Type 0
    ArgumentsFail here exprs error = (f : Expr) → StandsBefore f
        → Fails old (seen_by base locals) table
        (λ types at reported d. ArgumentsFault (scope_of base) types here f exprs at reported d)
        error

    abbrev pub TailFails : Tail → CheckError → Type 0
    TailFails tail error = (f : Expr) → StandsBefore f → Fails old (seen_by base locals) table
        (λ types at reported d. TailFault (scope_of base) types f tail at reported d) error

    abbrev pub TailsFail : (here : ℕ) → Tails → CheckError → Type 0
    TailsFail here tails error = (f : Expr) → StandsBefore f → Fails old (seen_by base locals) table
        (λ types at reported d. TailsFault (scope_of base) types here f tails at reported d) error

  -- what is tested may have the truth value
  abbrev pub SideFails : (tested : NodeId) → Bool → Expr → CheckError → Type 0
  SideFails tested value e = Fails old (seen_by base locals) table (λ types at reported d.
      elements_of old tested (truth value) × Fault (scope_of base) types e at reported d)

  -- branches that have to take all of what is in a node, and branches that need not
  abbrev pub CoveringFails : (here : ℕ) → (matched : NodeId) → Branches → CheckError → Type 0
  CoveringFails here matched branches =
      Fails old (seen_by base locals) table (λ types at reported d.
      CoveringFault (scope_of base) types here (elements_of old matched) (Nothing (scope_of base))
      branches at reported d)

  abbrev pub BranchesFail : (matched : NodeId) → Option Limit → Branches → CheckError → Type 0
  BranchesFail matched limit branches =
      Fails old (seen_by base locals) table (λ types at reported d.
      BranchFault (scope_of base) types [] (elements_of old matched)
      (Owes (scope_of base) old limit) branches at reported d)

  abbrev pub BodyFails : (matched : NodeId) → Option Limit → Tree → Expr → CheckError → Type 0
  BodyFails matched limit pattern body =
      Fails old (seen_by base locals) table (λ types at reported d.
      BodyFault (scope_of base) types pattern (elements_of old matched)
      (Owes (scope_of base) old limit) body at reported d)

  -- branches for one arrow of a function that stands here, and for all arrows
  abbrev pub ArrowFails : (here : ℕ) → Branches → NodeId × NodeId → CheckError → Type 0
  ArrowFails here branches arrow = Fails old (seen_by base locals) table (λ types at reported d.
      CoveringFault (scope_of base) types here (elements_of old arrow.0)
      (AResult (scope_of base) (elements_of old arrow.1)) branches at reported d)

  abbrev pub PromiseFails : FunctionTree → CheckError → Type 0
  PromiseFails f = Fails old (seen_by base locals) table
      (λ types at reported d. FunctionFault (scope_of base) types f at reported d)

-- a node that has to be within a limit, if there is one
abbrev pub IsBeyond : Graph → List Thing → (id : NodeId) → Option Limit → (at : ℕ) → CheckError
    → Type 0
IsBeyond graph table id None at = Reports table (λ place reported d. ⊥)
IsBeyond graph table id (Some limit) at =
    IsOutside graph table id limit.node at limit.rule
