-- The node that accepts what a First takes holds what the nodes hold that accept its two nodes.
use Rattle.std.proofs.Common.{◌≡◌, ◌↔◌, ◌<◌, ◌++◌, ◌⊎◌, inl, inr, ℕ, Bool, true, false, List}
use Rattle.std.proofs.Common.{length, Option, Some, None, is_some, refl, sym, ap, subst, ◌∙◌, arith}
use Rattle.std.specs.List.{slice_get}
use Rattle.std.proofs.lemmas.Bool.{true≢false}
use Rattle.std.proofs.lemmas.Option.{slice_get_within}
use Rattle.cd_sets.specs.declared.node_id.NodeId.{NodeId}
use Rattle.cd_model.specs.BuiltIns.{built_ins}
use Rattle.cd_model.specs.Formula.{Graph, IsGraph, in_node}
use Rattle.cd_model.specs.Interfaces.{Interfaces, admits, value_in_node}
use Rattle.cd_model.specs.Thing.{Thing, IsElement, IsValue}
use Rattle.cd_model.specs.Types.{Answers}
use Rattle.cd_model.proofs.BothWays.{itself}
use Rattle.cd_model.proofs.DecidedAtNodes.{in_or_outside}
use Rattle.cd_model.proofs.Extending.{kept_values}
use Rattle.cd_matching.specs.Captures.{Captures, or_else}
use Rattle.cd_matching.specs.Kernel.{Kernel, KernelNode, First, Ends, by_node, apart_of, taken}
use Rattle.cd_matching.proofs.Unfolding.{unfolds}
use Rattle.cd_products.proofs.Decided.{elements_apart, values_apart}
use Rattle.cd_filter.specs.Accepting.{place_of, IsAcceptedFrom, AreRight, AreAccepting}
use Rattle.cd_filter.specs.OfProgram.{AreOfProgram}
use Rattle.cd_filter.proofs.Accepts.{elements_accepting, values_accepting}
use Rattle.cd_filter.proofs.ValuesDecided.{tests}
use Rattle.cd_explored.specs.Inner.Choices.{IsUnion, IsChoice}
use Rattle.cd_explored.proofs.FirstSteps.{accepting_below}

first_some : (one other : Option (Captures ℕ)) → is_some one ≡ true
    → is_some (or_else one other) ≡ true
first_some (Some c) other is = refl
first_some None other is = absurd (true≢false (sym is))

second_some : (one other : Option (Captures ℕ)) → is_some other ≡ true
    → is_some (or_else one other) ≡ true
second_some (Some c) other is = refl
second_some None other is = is

else_some : (one other : Option (Captures ℕ)) → is_some one ≡ false
    → is_some (or_else one other) ≡ true → is_some other ≡ true
else_some (Some c) other out is = absurd (true≢false out)
else_some None other out is = is

module _ (answers : Thing → Answers NodeId) (Sort : Thing → Type 0)
    (apart : (d : Thing) (id : NodeId) → answers d id true → answers d id false → ⊥)
    (test : NodeId → Thing → Bool) (nodes : List (KernelNode NodeId)) (accepts : ℕ → NodeId)
    (accepting : AreAccepting answers Sort test nodes accepts) (number p q : ℕ)
    (there : slice_get nodes number ≡ Some (First p q))
    (ends : Ends nodes (length nodes) number) where
  abbrev takes : Thing → ℕ → Option (Captures ℕ)
  takes = taken NodeId test nodes

  takes_one : (d : Thing) → takes d number ≡ or_else (takes d p) (takes d q)
  takes_one d = unfolds NodeId test nodes d number ends
      ∙ ap (by_node NodeId test nodes d (apart_of NodeId test nodes d) (takes d)) there

  -- what a node holds and what its kernel node takes
  one_answer : (d : Thing) (id : NodeId) (one other : Bool) → answers d id one
      → answers d id other → other ≡ one
  one_answer d id true true inside also = refl
  one_answer d id false false outside also = refl
  one_answer d id true false inside outside = absurd (apart d id inside outside)
  one_answer d id false true outside inside = absurd (apart d id inside outside)

  takes_if : (d : Thing) (one : ℕ) (answer : Bool) → Sort d → answers d (accepts one) answer
      → is_some (takes d one) ≡ answer
  takes_if d one answer sort is = one_answer d (accepts one) answer (is_some (takes d one)) is
      (accepting d one sort)

  holds_if : (d : Thing) (one : ℕ) → Sort d → is_some (takes d one) ≡ true
      → answers d (accepts one) true
  holds_if d one sort is = subst (answers d (accepts one)) is (accepting d one sort)

  union : IsUnion answers Sort (accepts number) (accepts p) (accepts q)
  union = record {
    by_first = λ d sort inside. holds_if d number sort (ap is_some (takes_one d)
        ∙ first_some (takes d p) (takes d q) (takes_if d p true sort inside));
    by_second = λ d sort inside. holds_if d number sort (ap is_some (takes_one d)
        ∙ second_some (takes d p) (takes d q) (takes_if d q true sort inside));
    else_second = λ d sort inside outside. holds_if d q sort
        (else_some (takes d p) (takes d q) (takes_if d p false sort outside)
        (sym (ap is_some (takes_one d)) ∙ takes_if d number true sort inside));
  }

-- a union stays one where the answers at its nodes stay
union_alike : (answers others : Thing → Answers NodeId) (Sort : Thing → Type 0) (count : ℕ)
    → ((d : Thing) (id : NodeId) (answer : Bool) → id.0 < count
    → answers d id answer ↔ others d id answer) → (own first second : NodeId) → own.0 < count
    → first.0 < count → second.0 < count → IsUnion answers Sort own first second
    → IsUnion others Sort own first second
union_alike answers others Sort count alike own first second own_below first_below second_below
    is = record {
      by_first = λ d sort inside. (alike d own true own_below).0
          (is.by_first d sort ((alike d first true first_below).1 inside));
      by_second = λ d sort inside. (alike d own true own_below).0
          (is.by_second d sort ((alike d second true second_below).1 inside));
      else_second = λ d sort inside outside. (alike d second true second_below).0
          (is.else_second d sort ((alike d own true own_below).1 inside)
          ((alike d first false first_below).1 outside));
    }

-- what each element answers is a test that is right
abbrev answer : {A B : Type 0} → A ⊎ B → Bool
answer (inl a) = true
answer (inr b) = false

element_tests : (graph : Graph) (count : ℕ) → (test : NodeId → Thing → Bool)
    × AreRight (in_node graph) IsElement count test
element_tests graph count = (
  λ id d. answer (in_or_outside graph d id),
  λ id below d sort. is_answer d id (in_or_outside graph d id),
)
  where
    is_answer : (d : Thing) (id : NodeId)
        (either : in_node graph d id true ⊎ in_node graph d id false)
        → in_node graph d id (answer either)
    is_answer d id (inl inside) = inside
    is_answer d id (inr outside) = outside

module _ (graph : Graph) (kernel : Kernel NodeId) (first : ℕ)
    (is : IsAcceptedFrom graph kernel first) (number p q : ℕ)
    (there : slice_get kernel.nodes number ≡ Some (First p q)) where
  abbrev accepts : ℕ → NodeId
  accepts = place_of kernel.nodes first

  number_within : number < length kernel.nodes
  number_within = slice_get_within kernel.nodes number (First p q) there

  ends_there : Ends kernel.nodes (length kernel.nodes) number
  ends_there = is.sound.ends number number_within

  union_of_elements : IsUnion (in_node graph) IsElement (accepts number) (accepts p) (accepts q)
  union_of_elements = let one = element_tests graph first in
      union (in_node graph) IsElement (elements_apart graph) one.0 kernel.nodes accepts
      (elements_accepting graph kernel first one.0 is one.1) number p q there ends_there

  union_of_values : (interfaces : Interfaces) → AreOfProgram graph interfaces
      → IsUnion (value_in_node graph interfaces) IsValue (accepts number) (accepts p) (accepts q)
  union_of_values interfaces of = let one = tests graph interfaces of in
      union (value_in_node graph interfaces) IsValue (values_apart graph interfaces) one.0
      kernel.nodes accepts
      (values_accepting graph interfaces kernel first one.0 is
      (λ id below. one.1 id (omega (arith, is.within)))) number p q there ends_there

  module _ (begins : Graph) (built_in : graph ≡ built_ins ++ begins) (sound : IsGraph graph)
      (p_within : p < length kernel.nodes) (q_within : q < length kernel.nodes) where
    below : (one : ℕ) → one < length kernel.nodes → (accepts one).0 < length graph
    below one within = accepting_below graph kernel.nodes first one within is.within

    choice_is : IsChoice graph (accepts number) (accepts p) (accepts q)
    choice_is = record {
      elements = union_of_elements;
      values = λ more interfaces still arrows. union_alike (value_in_node graph interfaces)
          (value_in_node (graph ++ more) interfaces) IsValue (length graph)
          (λ d id answer. kept_values graph more sound (admits interfaces) (admits interfaces)
          (λ function pairs element. itself) d id answer) (accepts number) (accepts p) (accepts q)
          (below number number_within) (below p p_within) (below q q_within)
          (union_of_values interfaces (record {
            others = begins;
            built_in = built_in;
            sound = sound;
            later = more;
            still_sound = still;
            arrows = arrows;
          }));
      first_within = below p p_within;
      second_within = below q q_within;
    }

    pub choice_at : (own one other : NodeId) → own ≡ accepts number → one ≡ accepts p
        → other ≡ accepts q → IsChoice graph own one other
    choice_at own one other own_is one_is other_is =
        subst (λ (own : NodeId). IsChoice graph own one other) (sym own_is)
        (subst (λ (one : NodeId). IsChoice graph (accepts number) one other) (sym one_is)
        (subst (IsChoice graph (accepts number) (accepts p)) (sym other_is) choice_is))
