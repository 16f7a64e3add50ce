-- What is known of a body, and what its errors report, where its pattern takes an element.
use Rattle.std.proofs.Common.{◌≡◌, ◌++◌, ℕ, [], List, Option, Some, sym, subst}
use Rattle.cd_sets.specs.declared.node_id.NodeId.{NodeId}
use Rattle.cd_model.specs.Formula.{Graph}
use Rattle.cd_model.specs.Thing.{Thing}
use Rattle.cd_program.specs.Expr.{Expr}
use Rattle.cd_meaning.specs.Sets.{elements_of}
use Rattle.cd_typing.specs.Branches.{HoldCaptured}
use Rattle.cd_typing.specs.Later.{IsLater}
use Rattle.cd_typing.specs.Typ.{Types}
use Rattle.cd_typing.proofs.Later.{later_in, later_still}
use Rattle.cd_least.specs.Misses.{AreCaptured, place_of}
use Rattle.cd_coming.specs.CapturedTypes.{types_of, HoldNoMore}
use Rattle.cd_sites.specs.TakenElements.{IsTakenFrom}
use Rattle.cd_check.specs.declared.base.Base.{Base}
use Rattle.cd_check.specs.declared.bodies.Limit.{Limit}
use Rattle.cd_check.specs.declared.fault.CheckError.{CheckError}
use Rattle.cd_check.specs.declared.sites.Sited.{Sited}
use Rattle.cd_check.specs.Inner.BodyFaults.{Owes, BodyLeast}
use Rattle.cd_check.specs.Inner.Divided.{sited_pattern}
use Rattle.cd_check.specs.Inner.Environment.{Nodes, AreOfTypes, AreNodesOf}
use Rattle.cd_check.specs.Inner.Failing.{ExprFails, BodyFails, IsBeyond}
use Rattle.cd_check.specs.Inner.Giving.{ExprGives}
use Rattle.cd_check.specs.Inner.Known.{IsKnown}
use Rattle.cd_check.specs.Inner.LeastNodes.{ExprLeast}
use Rattle.cd_check.specs.Inner.Limits.{IsLimit}
use Rattle.cd_check.specs.Inner.Ready.{IsReady, scope_of, seen_by}
use Rattle.cd_check.proofs.BodiesChecked.{seen_all}
use Rattle.cd_check.proofs.BodyKnown.{body_known, body_fails, limit_fails}
use Rattle.cd_check.proofs.KnownTypes.{known}
use Rattle.cd_check.proofs.OwnTypes.{own_of_types, are_types}
use Rattle.cd_check.proofs.ReadyLater.{ready_later}
use Rattle.cd_check.proofs.TypesLater.{types_later}

module _ (base : Base) (locals own all : Nodes) (same : all ≡ own ++ locals) (old : Graph) (ready : IsReady base old locals) (sited : Sited)
    (matched : NodeId) (middle : Graph) (is : IsLater old middle) (are : AreNodesOf middle own)
    (hold : HoldCaptured (scope_of base) (types_of middle own) [] (sited_pattern sited) (elements_of old matched))
    (only : HoldNoMore (scope_of base) (types_of middle own) (sited_pattern sited) (elements_of old matched)) (e : Thing)
    (taken : IsTakenFrom (scope_of base) (sited_pattern sited) (elements_of old matched) e) (body : Expr) where
  captured : AreCaptured (scope_of base) (types_of middle own) [] (sited_pattern sited) (elements_of old matched)
  captured = let there = ready_later base old middle is locals ready in record {
    are_types = are_types middle there.more there.begins is.sound own are;
    hold = hold;
    only = λ name t is d element inside. only name t d is element inside;
  }

  of_all : (types : Types) → AreOfTypes old (seen_by base locals) types → AreOfTypes middle (seen_by base all) (types_of middle own ++ types)
  of_all types of = subst (λ nodes. AreOfTypes middle nodes (types_of middle own ++ types)) (sym (seen_all base locals own all same))
      (own_of_types middle own (seen_by base locals) types (types_later old middle is ready.sound (seen_by base locals) ready.nodes types of))

  module _ (new : Graph) (id : NodeId) (gives : ExprGives base middle all new body id) (least : ExprLeast base middle all new body id) where
    is_known : IsKnown middle (seen_by base all) (scope_of base) new body id
    is_known = known (scope_of base) middle (seen_by base all) new body id gives least

    pub taken_known : BodyLeast (scope_of base) old (seen_by base locals) new (elements_of old matched) (sited_pattern sited) body (Some id)
    taken_known = body_known (scope_of base) old (seen_by base locals) (sited_pattern sited) (elements_of old matched) e taken.0 taken.1
        (types_of middle own) captured middle (seen_by base all) of_all body new id is_known

    pub beyond_fails : IsLater middle new → (table : List Thing) (limit : Option Limit) → IsLimit old limit → (at : ℕ) → at ≡ place_of body
        → (error : CheckError) → IsBeyond new table id limit at error
        → BodyFails base old locals table matched limit (sited_pattern sited) body error
    beyond_fails further table limit below = limit_fails (scope_of base) old (seen_by base locals) (sited_pattern sited) (elements_of old matched) e
        taken.0 taken.1 (types_of middle own) captured middle (seen_by base all) of_all body new id is_known table limit
        (λ one is_one. later_in old new (later_still old middle new is further) ready.sound one.node
        (subst (λ (found : Option Limit). IsLimit old found) is_one below))

  pub taken_fails : (table : List Thing) (limit : Option Limit) (error : CheckError) → ExprFails base middle all table body error
      → BodyFails base old locals table matched limit (sited_pattern sited) body error
  taken_fails table limit = body_fails (scope_of base) old (seen_by base locals) (sited_pattern sited) (elements_of old matched) e taken.0 taken.1
      (types_of middle own) captured middle (seen_by base all) of_all body table (Owes (scope_of base) old limit)
