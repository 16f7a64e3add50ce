-- What it says of the closures of a function whether all functions in the arrows of its interface are in one more arrow.
use Rattle.std.proofs.Common.{◌≡◌, ◌++◌, ℕ, Bool, true, false, List, [], ◌∷◌, length, sym, subst, Option}
use Rattle.cd_sets.specs.declared.node_id.NodeId.{NodeId}
use Rattle.cd_model.specs.AllOf.{AllOf}
use Rattle.cd_model.specs.Formula.{Graph, Formula, Arrow, IsGraph, IsIn, IsOutside, nodes}
use Rattle.cd_model.specs.Membership.{holds, reader}
use Rattle.cd_model.specs.Scope.{Scope}
use Rattle.cd_model.specs.Thing.{Thing, Function, Pairs, IsElement}
use Rattle.cd_model.proofs.Apart.{element_apart}
use Rattle.cd_model.proofs.ApartAtNodes.{nodes_keep}
use Rattle.cd_model.proofs.Extending.{kept_formulas}
use Rattle.cd_rules.specs.Needs.{question}
use Rattle.cd_elements.specs.Table.{element_at}
use Rattle.cd_elements.specs.declared.shape.ElementId.{ElementId}
use Rattle.cd_verdicts.specs.Verdicts.{IsExact}
use Rattle.cd_verdicts.specs.declared.verdict.Verdict.{Verdict}
use Rattle.cd_verdicts.specs.declared.verdict.Verdict.TheVariants.{Inhabited}
use Rattle.cd_program.specs.Expr.{Signature}
use Rattle.cd_asking.specs.Mappings.{Mappings}
use Rattle.cd_closures.specs.Inner.Asked.{IsAsked, IsBelow, AllIn, Decides}
use Rattle.cd_closures.specs.Inner.Entries.{has, AreDecided, AreRight}
use Rattle.cd_closures.specs.Inner.Wholes.{IsWhole, IsRight}
use Rattle.cd_closures.specs.declared.arrow.NodeArrow.{NodeArrow}
use Rattle.cd_closures.specs.declared.asked.Asked.{Asked}

-- an element of a node that is outside an arrow
module _ (graph : Graph) (whole : NodeId) (one : Asked) (is : IsAsked graph one) where
  not_all : (e : Thing) → IsElement e → IsIn graph e whole → IsOutside graph e one.node → AllIn graph whole one.arrow → ⊥
  not_all e element inside outside all = element_apart (nodes graph) (nodes_keep graph) e one.node
      (subst (λ (f : Formula). holds (reader graph e) f true) (sym is.formula) (all e element inside)) outside

  pub not_within : (table : List Thing) (verdict : Verdict) (id : ElementId) → IsExact graph table (question (whole ∷ []) (one.node ∷ [])) verdict
      → verdict ≡ Inhabited id → AllIn graph whole one.arrow → ⊥
  not_within table verdict id exact same =
      let found = subst (IsExact graph table (question (whole ∷ []) (one.node ∷ []))) same exact in
      not_all (element_at table id) found.1 found.2.0.0 found.2.1.0

-- in a graph that has grown by these formulas
module _ (graph longer more : Graph) (grown : longer ≡ graph ++ more) (sound : IsGraph graph) (scope : Scope) (interface : List Signature)
    (whole : NodeId) (is : IsWhole scope longer interface whole) where
  abbrev InArrow : Graph → Pairs → NodeArrow → Type 0
  InArrow g pairs arrow = holds (reader g (Function pairs)) (Arrow arrow.argument arrow.result) true

  module _ (arrow : NodeArrow) (below : IsBelow (length graph) arrow) where
    earlier : (pairs : Pairs) → InArrow longer pairs arrow → InArrow graph pairs arrow
    earlier pairs inside = (kept_formulas graph more sound (Function pairs) (Arrow arrow.argument arrow.result) true below).1
        (subst (λ (g : Graph). InArrow g pairs arrow) grown inside)

    later : (pairs : Pairs) → InArrow graph pairs arrow → InArrow longer pairs arrow
    later pairs inside = subst (λ (g : Graph). InArrow g pairs arrow) (sym grown)
        ((kept_formulas graph more sound (Function pairs) (Arrow arrow.argument arrow.result) true below).0 inside)

    right : (answer : Bool) → Decides longer whole arrow answer → IsRight scope graph interface arrow.argument arrow.result answer
    right true all = λ count enough pairs element admitted.
        earlier pairs (all (Function pairs) element (is.has count pairs enough element admitted))
    right false not_all = λ count enough all. not_all (λ e element inside.
        let found = is.only e element inside in
        subst (λ (d : Thing). holds (reader longer d) (Arrow arrow.argument arrow.result) true) (sym found.1)
        (later found.0 (all found.0 (subst IsElement found.1 element) (found.2 count enough))))

  pub decided_are_right : (key : Option ℕ) (maps : Mappings) (asked : List Asked) → AllOf (λ one. IsBelow (length graph) one.arrow) asked
      → AreDecided longer whole key asked maps → AreRight graph scope interface key asked maps
  decided_are_right key maps [] below decided = tt
  decided_are_right key maps (one ∷ asked) below decided = (
    right one.arrow below.0 (has maps key one.arrow) decided.0,
    decided_are_right key maps asked below.1 decided.1,
  )
