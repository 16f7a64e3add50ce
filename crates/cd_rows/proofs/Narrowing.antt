-- What is in a cell within a field, and without it.
use Rattle.std.proofs.Common.{◌≡◌, Bool, true, false, not, ◌&&◌, Option, Some, None, ◌↔◌, refl}
use Rattle.cd_sets.specs.declared.node_id.NodeId.{NodeId}
use Rattle.cd_sets.specs.declared.question.Question.{Question}
use Rattle.cd_model.specs.Formula.{Field}
use Rattle.cd_model.specs.Membership.{Answers}
use Rattle.cd_model.specs.Thing.{Thing}
use Rattle.cd_rules.specs.InRow.{IsInCell}
use Rattle.cd_rules.specs.Rows.{Cell}
use Rattle.cd_rules.proofs.InCells.{Says, both_hold}
use Rattle.cd_products.specs.QuestionBoxes.{InQuestion, within_node, without_node}
use Rattle.cd_products.proofs.OneMore.{each_with, each_without}
use Rattle.cd_rows.specs.Inner.Refining.{within_field, without_field}

hold_both : (one other : Bool) → one ≡ true → other ≡ true → one && other ≡ true
hold_both true other is too = too
hold_both false other is too = absurd cc

fails : (b : Bool) → not b ≡ true → b ≡ false
fails true is = absurd cc
fails false is = refl

fails_back : (b : Bool) → b ≡ false → not b ≡ true
fails_back true is = absurd cc
fails_back false is = refl

module _ (answers : Thing → Answers) where
  -- a thing is in a question with one node more
  pub in_within : (d : Thing) (id : NodeId) (question : Question)
      → InQuestion answers d (within_node id question)
      ↔ (InQuestion answers d question × answers d id true)
  in_within d id question = (
    λ h. let both = each_without (λ id. answers d id true) id question.pos h.0 in
        ((both.1, h.1), both.0),
    λ h. (each_with (λ id. answers d id true) id question.pos h.1 h.0.0, h.0.1),
  )

  pub in_without : (d : Thing) (id : NodeId) (question : Question)
      → InQuestion answers d (without_node id question)
      ↔ (InQuestion answers d question × answers d id false)
  in_without d id question = (
    λ h. let both = each_without (λ id. answers d id false) id question.neg h.1 in
        ((h.0, both.1), both.0),
    λ h. (h.0.0, each_with (λ id. answers d id false) id question.neg h.1 h.0.1),
  )

  -- what is at a label is in a cell and as a field says
  pub within_is : (what : Option Thing) (field : Field) (cell : Cell)
      → IsInCell answers what (within_field field cell)
      ↔ (IsInCell answers what cell × Says answers what field true)
  within_is None field cell = (
    both_hold cell.absent field.optional,
    λ both. hold_both cell.absent field.optional both.0 both.1,
  )
  within_is (Some d) field cell = in_within d field.type cell.value

  -- or as it does not say
  pub without_is : (what : Option Thing) (field : Field) (cell : Cell)
      → IsInCell answers what (without_field field cell)
      ↔ (IsInCell answers what cell × Says answers what field false)
  without_is None field cell = (
    λ is. let both = both_hold cell.absent (not field.optional) is in
        (both.0, fails field.optional both.1),
    λ both. hold_both cell.absent (not field.optional) both.0 (fails_back field.optional both.1),
  )
  without_is (Some d) field cell = in_without d field.type cell.value
