-- What is joined where there is at most the empty sequence in the first node.
use Rattle.std.proofs.Common.{◌≡◌, ◌++◌, List, [], ◌∷◌, refl, sym, ap, subst, ◌∙◌}
use Rattle.cd_sets.specs.declared.node_id.NodeId.{NodeId}
use Rattle.cd_model.specs.BuiltIns.{built_ins, NIL, EMPTY}
use Rattle.cd_model.specs.Formula.{Graph, IsIn}
use Rattle.cd_model.specs.Thing.{Thing, IsElement}
use Rattle.cd_matching.specs.Sequences.{nil, sequence_of}
use Rattle.cd_matching.proofs.NilIsElement.{nil_is_element}
use Rattle.cd_meaning.specs.Sequences.{followed_by}
use Rattle.cd_meaning.specs.Sets.{◌⊆◌, elements_of}
use Rattle.cd_forms.specs.Inner.Joins.{IsJoin}
use Rattle.cd_forms.proofs.NilAsked.{nil_alone, none_empty}
use Rattle.cd_meaning.proofs.SequencesFollowed.{join_of_sequence, sequence_of_join}

-- a sequence that is `nil` has no items
no_items : (ds : List Thing) → sequence_of ds ≡ nil → ds ≡ []
no_items [] is = refl
no_items (first ∷ ds) is = absurd cc

module _ (graph : Graph) (begins : (more : Graph) × (graph ≡ built_ins ++ more))
    (first second : NodeId) where
  -- nothing is joined to nothing
  pub empty_join : elements_of graph first ⊆ elements_of graph EMPTY
      → IsJoin graph graph first second EMPTY
  empty_join within = record {
    has = λ whole element join.
        absurd (none_empty graph begins join.0 (within join.0 join.3 join.5));
    only = λ whole element inside. absurd (none_empty graph begins whole inside);
  }

  -- after `nil` comes what is in the second
  pub nil_join : elements_of graph first ⊆ elements_of graph NIL
      → (e : Thing) × IsElement e × IsIn graph e first → IsJoin graph graph first second second
  nil_join within one = record {
    has = λ whole element join.
        let of = sequence_of_join (elements_of graph first) (elements_of graph second) whole join in
        let none = no_items of.0 (nil_alone graph begins (sequence_of of.0)
        (within (sequence_of of.0) of.2 of.4)) in
        subst (λ (e : Thing). IsIn graph e second)
        (sym (of.6 ∙ ap (λ ds. followed_by ds of.1) none)) of.5;
    only = λ whole element inside.
        join_of_sequence (elements_of graph first) (elements_of graph second) [] whole
        nil_is_element element (subst (λ (e : Thing). IsIn graph e first)
        (nil_alone graph begins one.0 (within one.0 one.1 one.2)) one.2) inside;
  }
