-- A pattern takes each thing of a sort in one way, if what the things answer is decided.
use Rattle.std.proofs.Common.{◌≡◌, Bool, true, false, ◌⊎◌, inl, inr, Option, refl, sym, ◌∙◌}
use Rattle.cd_sets.specs.declared.node_id.NodeId.{NodeId}
use Rattle.cd_syntax.specs.Name.{Name}
use Rattle.cd_model.proofs.Apart.{element_apart, value_apart}
use Rattle.cd_model.proofs.ApartAtNodes.{nodes_keep}
use Rattle.cd_model.proofs.DecidedAtNodes.{in_or_outside}
use Rattle.cd_model.proofs.HoldsOrNot.{HoldsOrNot}
use Rattle.cd_model.proofs.Sorts.{Sort, elements, values}
use Rattle.cd_model.proofs.SoundOrNot.{element_or_not, value_or_not}
use Rattle.cd_model.specs.Formula.{Graph, nodes, in_node}
use Rattle.cd_model.specs.Interfaces.{Interfaces, admits, value_in_node}
use Rattle.cd_model.specs.Thing.{Thing, IsElement, IsValue}
use Rattle.cd_matching.specs.Captures.{Captures}
use Rattle.cd_matching.specs.Pattern.{Pattern}
use Rattle.cd_matching.specs.Take.{take}
use Rattle.cd_matching.specs.Takes.{Answering, IsRight, Takes, ElementTakes, ValueTakes}
use Rattle.cd_matching.proofs.AlikeTakes.{takes_same}
use Rattle.cd_matching.proofs.PatternsAlike.{composed}
use Rattle.cd_matching.proofs.Retyped.{retyped, alike_retyped}

module _ {T : Type 0} (answers : Answering T) where
  -- no thing answers both
  one_answer : ((d : Thing) (type : T) → answers d type true → answers d type false → ⊥)
      → (d : Thing) (type : T) (one other : Bool) → answers d type one → answers d type other
      → one ≡ other
  one_answer apart d type true true first second = refl
  one_answer apart d type true false first second = absurd (apart d type first second)
  one_answer apart d type false true first second = absurd (apart d type second first)
  one_answer apart d type false false first second = refl

  pub takes_once : (sort : Sort)
      → ((d : Thing) (type : T) → answers d type true → answers d type false → ⊥)
      → (p : Pattern T) (d : Thing) (one other : Option (Captures Name)) → sort.Of d
      → Takes answers sort.Of p d one → Takes answers sort.Of p d other → one ≡ other
  takes_once sort apart p d one other is first second = sym first.gives ∙ same ∙ second.gives
    where
      same : take (Thing → Bool) (λ test. test) first.tested d
          ≡ take (Thing → Bool) (λ test. test) second.tested d
      same = takes_same sort (λ (test : Thing → Bool). test) (λ (test : Thing → Bool). test)
          (λ (test other_test : Thing → Bool). (e : Thing) → sort.Of e → test e ≡ other_test e)
          (λ test other_test agree. agree) first.tested second.tested
          (composed (IsRight answers sort.Of) (IsRight answers sort.Of)
          (λ (test other_test : Thing → Bool). (e : Thing) → sort.Of e → test e ≡ other_test e)
          (λ type test other_test right other_right e here.
          one_answer apart e type (test e) (other_test e) (right e here) (other_right e here))
          p first.tested second.tested first.right second.right) d is

  -- each thing answers
  module _ (Of : Thing → Type 0) (of_or_not : (d : Thing) → HoldsOrNot (Of d))
      (decided : (d : Thing) (type : T) → Of d → answers d type true ⊎ answers d type false) where
    abbrev answer : {A B : Type 0} → A ⊎ B → Bool
    answer (inl a) = true
    answer (inr b) = false

    abbrev answer_at : (d : Thing) (type : T) → HoldsOrNot (Of d) → Bool
    answer_at d type (inl is) = answer (decided d type is)
    answer_at d type (inr not) = false

    is_answer : (d : Thing) (type : T) (either : answers d type true ⊎ answers d type false)
        → answers d type (answer either)
    is_answer d type (inl yes_) = yes_
    is_answer d type (inr no_) = no_

    is_right : (d : Thing) (type : T) (of : HoldsOrNot (Of d)) → Of d
        → answers d type (answer_at d type of)
    is_right d type (inl is) here = is_answer d type (decided d type is)
    is_right d type (inr not) here = absurd (not here)

    abbrev test_of : T → Thing → Bool
    test_of type d = answer_at d type (of_or_not d)

    pub has_result : (p : Pattern T) (d : Thing)
        → (result : Option (Captures Name)) × Takes answers Of p d result
    has_result p d = (
      take (Thing → Bool) (λ test. test) (retyped test_of p) d,
      record {
        tested = retyped test_of p;
        right = alike_retyped test_of (IsRight answers Of)
            (λ type e is. is_right e type (of_or_not e) is) p;
        gives = refl;
      },
    )

pub elements_once : (graph : Graph) (p : Pattern NodeId) (e : Thing)
    (one other : Option (Captures Name)) → IsElement e → ElementTakes graph p e one
    → ElementTakes graph p e other → one ≡ other
elements_once graph =
    takes_once (in_node graph) elements (element_apart (nodes graph) (nodes_keep graph))

pub values_once : (graph : Graph) (interfaces : Interfaces) (p : Pattern NodeId) (v : Thing)
    (one other : Option (Captures Name)) → IsValue v → ValueTakes graph interfaces p v one
    → ValueTakes graph interfaces p v other → one ≡ other
values_once graph interfaces = takes_once (value_in_node graph interfaces) values
    (value_apart (nodes graph) (nodes_keep graph) (admits interfaces))

pub elements_have_results : (graph : Graph) (p : Pattern NodeId) (e : Thing)
    → (result : Option (Captures Name)) × ElementTakes graph p e result
elements_have_results graph = has_result (in_node graph) IsElement element_or_not
    (λ e id is. in_or_outside graph e id)

-- values too, where each is in a node or outside
pub values_have_results : (graph : Graph) (interfaces : Interfaces)
    → ((v : Thing) (id : NodeId) → IsValue v
    → value_in_node graph interfaces v id true ⊎ value_in_node graph interfaces v id false)
    → (p : Pattern NodeId) (v : Thing)
    → (result : Option (Captures Name)) × ValueTakes graph interfaces p v result
values_have_results graph interfaces =
    has_result (value_in_node graph interfaces) IsValue value_or_not
