-- The comparisons find those equal that are the same.
use Rattle.std.proofs.Common.{◌≡◌, List, refl, ap}
use Rattle.std.specs.Bool.{Decides}
use Rattle.std.specs.Cmp.{first_so, second_so}
use Rattle.std.specs.Cmp.Lexicographic.{pointwise, pointwise_decides}
use Rattle.std.proofs.lemmas.Bool.Decides.{Decides-eqb}
use Rattle.cd_sets.specs.declared.node_id.NodeId.{NodeId}
use Rattle.cd_sets.specs.declared.question.Question.{Question}
use Rattle.cd_sets.specs.Comparing.{same_id}
use Rattle.cd_sets.specs.Asking.{same_question}
use Rattle.cd_sets.proofs.Members.{id_from_number}

pub ids_decide : (id other : NodeId) → Decides (same_id id other) (id ≡ other)
ids_decide id other =
    let number = Decides-eqb id.0 other.0 in
    (λ found. id_from_number id other (number.0 found), λ same. number.1 (ap (λ (one : NodeId). one.0) same))

pub sets_decide : (set other : List NodeId) → Decides (pointwise same_id set other) (set ≡ other)
sets_decide = pointwise_decides {E = same_id} ids_decide

pub questions_decide : (question other : Question) → Decides (same_question question other) (question ≡ other)
questions_decide question other =
    let pos = sets_decide question.pos other.pos in
    let neg = sets_decide question.neg other.neg in (
      (λ found.
          let first : question.pos ≡ other.pos = pos.0 (first_so (pointwise same_id question.pos other.pos) (pointwise same_id question.neg other.neg) found) in
          let second : question.neg ≡ other.neg = neg.0 (second_so (pointwise same_id question.pos other.pos) (pointwise same_id question.neg other.neg) found) in
          λ i. record { pos = first i; neg = second i }),
      λ same. rw (pos.1 (ap (λ (one : Question). one.pos) same), neg.1 (ap (λ (one : Question). one.neg) same)) refl,
    )
