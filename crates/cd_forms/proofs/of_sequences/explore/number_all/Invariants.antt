use Rattle.std.proofs.Common.{◌≡◌, ◌++◌, List, length}
use Rattle.std.specs.Vec.Iter.{into_iter_items, into_iter_len}
use Rattle.cd_sets.specs.declared.question.Question.{Question}
use Rattle.cd_forms.specs.Inner.Numbered.{AreNumbered}
use Rattle.cd_forms.proofs.of_sequences.explore.number_all.Given as goal

-- the steps so far are those of the products so far, and with what is left these are all
abbrev pub invariant-loop-item : goal.invariant-loop-item
invariant-loop-item l = record {
  can_next : (goal.iterator-loop-item).can_next l.item-iterator;
  is_finite : (goal.iterator-loop-item).is_finite l.item-iterator;
  counted : into_iter_len l.item-iterator ≡ length (into_iter_items l.item-iterator);
  numbered : (done : List (Question × Question))
      × AreNumbered l.fn.questions l.questions l.steps.items done
      × (done ++ into_iter_items l.item-iterator ≡ l.fn.products.items);
}
