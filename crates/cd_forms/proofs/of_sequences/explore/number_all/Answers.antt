use Rattle.std.proofs.Common.{◌++◌, ◌∷◌, [], List, length, sym, ◌∙◌, ap, append_assoc, arith}
use Rattle.std.proofs.Common.{refl}
use Rattle.std.specs.Vec.Iter.{into_iter_items}
use Rattle.cd_sets.specs.declared.question.Question.{Question}
use Rattle.cd_forms.proofs.StatesExplored.{numbered_then}
use Rattle.cd_forms.proofs.of_sequences.explore.number_all.Goals as goal

-- one product more
pub loop-item-preserved : goal.loop-item-preserved
loop-item-preserved c =
    let steps = c.in-Some.ensures.steps in
    let left = into_iter_items c.next.new.self in
    let so_far = c.loop-item.invariant.numbered in
    let product : Question × Question = (c.in-Some.item, c.in-Some.rest) in record {
      can_next = tt;
      is_finite = tt;
      counted =
          let counted = c.loop-item.invariant.counted in
          let fewer = ap length steps.0 in
          let one = steps.1 in omega arith;
      numbered = (
        so_far.0 ++ product ∷ [],
        numbered_then c.args.questions.now c.loop-item.questions c.number.new.self
            c.loop-item.steps.items c.push.new.self.items so_far.0 c.in-Some.item c.in-Some.rest
            (record { item = c.in-Some.item; rest = c.in_ok-rest.rest }) so_far.1
            c.in_ok-rest.ensures.found c.in_ok-rest.ensures.grows refl c.in_ok-push.ensures.items,
        append_assoc so_far.0 (product ∷ []) left
            ∙ ap (λ (all : List (Question × Question)). so_far.0 ++ all) (sym steps.0) ∙ so_far.2,
      );
    }
