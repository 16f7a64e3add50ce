-- Nodes of equal formulas answer alike; and so does a union of which each member is one of another one, and back.
use Rattle.std.proofs.Common.{◌≡◌, ◌↔◌, Bool, true, false, List, [], ◌∷◌, inl, inr, sym, subst}
use Rattle.cd_sets.specs.declared.node_id.NodeId.{NodeId}
use Rattle.cd_model.specs.AllOf.{AllOf, AnyOf}
use Rattle.cd_model.specs.Formula.{Formula, Graph, Or, formulas_of, formula_at}
use Rattle.cd_model.specs.Membership.{Reader, at_nodes, holds, each_holds, one_holds}
use Rattle.cd_rules.specs.Family.{SameMembers}
use Rattle.cd_rules.proofs.Among.{each_of_among, one_of_among}

pub equal_formulas : (graph : Graph) (reader : Reader) (one other : NodeId) (answer : Bool) → formula_at graph one ≡ formula_at graph other
    → at_nodes graph reader one answer ↔ at_nodes graph reader other answer
equal_formulas graph reader one other answer same =
    (subst (λ is. holds reader is answer) same, subst (λ is. holds reader is answer) (sym same))

module _ (reader : Reader) (answer : Bool) where
  each_of_formulas : (all : List Formula) → each_holds reader (formulas_of all) answer → AllOf (λ is. holds reader is answer) all
  each_of_formulas [] is = tt
  each_of_formulas (first ∷ all) is = (is.0, each_of_formulas all is.1)

  formulas_of_each : (all : List Formula) → AllOf (λ is. holds reader is answer) all → each_holds reader (formulas_of all) answer
  formulas_of_each [] is = tt
  formulas_of_each (first ∷ all) is = (is.0, formulas_of_each all is.1)

  one_of_formulas : (all : List Formula) → one_holds reader (formulas_of all) answer → AnyOf (λ is. holds reader is answer) all
  one_of_formulas [] is = is
  one_of_formulas (first ∷ all) (inl is) = inl is
  one_of_formulas (first ∷ all) (inr later) = inr (one_of_formulas all later)

  formulas_of_one : (all : List Formula) → AnyOf (λ is. holds reader is answer) all → one_holds reader (formulas_of all) answer
  formulas_of_one [] is = is
  formulas_of_one (first ∷ all) (inl is) = inl is
  formulas_of_one (first ∷ all) (inr later) = inr (formulas_of_one all later)

pub unions_alike : (reader : Reader) (some others : List Formula) (answer : Bool) → SameMembers some others
    → holds reader (Or (formulas_of some)) answer ↔ holds reader (Or (formulas_of others)) answer
unions_alike reader some others true same = (
  λ is. formulas_of_one reader true others (one_of_among (λ is. holds reader is true) some others same.0 (one_of_formulas reader true some is)),
  λ is. formulas_of_one reader true some (one_of_among (λ is. holds reader is true) others some same.1 (one_of_formulas reader true others is)),
)
unions_alike reader some others false same = (
  λ is. formulas_of_each reader false others
      (each_of_among (λ is. holds reader is false) others some same.1 (each_of_formulas reader false some is)),
  λ is. formulas_of_each reader false some
      (each_of_among (λ is. holds reader is false) some others same.0 (each_of_formulas reader false others is)),
)
