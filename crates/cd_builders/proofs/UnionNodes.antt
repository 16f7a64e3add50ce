-- A node of a union of questions, from the calls that make it.
use Rattle.std.proofs.Common.{◌≡◌, ◌<◌, ◌↔◌, ◌++◌, true, List, length, sym, subst}
use Rattle.cd_sets.specs.declared.node_id.NodeId.{NodeId}
use Rattle.cd_sets.specs.declared.question.Question.{Question}
use Rattle.cd_model.specs.AllOf.{AllOf}
use Rattle.cd_model.specs.BuiltIns.{built_ins}
use Rattle.cd_model.specs.Formula.{Graph, Formula, IsIn}
use Rattle.cd_model.specs.Membership.{holds, reader, answers}
use Rattle.cd_model.specs.Thing.{Thing, IsElement}
use Rattle.cd_model.proofs.BothWays.{through, turned}
use Rattle.cd_rules.specs.Family.{AsksNodes}
use Rattle.cd_builders.specs.Inner.Outermost.{AskSame}
use Rattle.cd_builders.specs.Unions.{HoldsUnion, IsFormulaOfUnion, IsInOne, IsNodeOfUnion}

module _ (graph more : Graph) (begins : graph ≡ built_ins ++ more) (questions : List Question)
    (asks : AllOf (AsksNodes (length graph)) questions) where
  -- by the form of the questions
  pub union_by_form : (id : NodeId) → IsNodeOfUnion questions id
      → HoldsUnion graph questions graph id
  union_by_form id is = record {
    exact = λ e element. subst (λ (g : Graph). IsIn g e id ↔ IsInOne g questions e) (sym begins)
        (is.exact more e);
    node = subst (λ (g : Graph). id.0 < length g) (sym begins)
        (is.node more (subst (λ (g : Graph). AllOf (AsksNodes (length g)) questions) begins asks));
  }

-- of questions that ask the same
pub union_alike : (graph after : Graph) (questions others shown : List Question)
    → AskSame graph questions others → shown ≡ others → (id : NodeId)
    → HoldsUnion graph shown after id → HoldsUnion graph questions after id
union_alike graph after questions others shown same is id union = record {
  exact = λ e element. through (union.exact e element) (turned
      (subst (λ (all : List Question). IsInOne graph questions e ↔ IsInOne graph all e) (sym is)
      (same.exact e element)));
  node = union.node;
}

-- a node that is put in, and one that holds the same
pub union_as_put : (graph mid after : Graph) (questions : List Question) (f : Formula)
    → IsFormulaOfUnion graph questions f → (made id : NodeId)
    → ((e : Thing) → holds (reader graph e) f true ↔ answers mid e made true)
    → ((e : Thing) → IsElement e → answers mid e made true ↔ answers after e id true)
    → id.0 < length after → HoldsUnion graph questions after id
union_as_put graph mid after questions f union made id put same below = record {
  exact = λ e element.
      turned (through (union.elements e element) (through (put e) (same e element)));
  node = below;
}
