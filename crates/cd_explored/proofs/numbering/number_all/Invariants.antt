use Rattle.std.proofs.Common.{◌≡◌, ◌++◌, List, length}
use Rattle.std.specs.Vec.Iter.{into_iter_items, into_iter_len}
use Rattle.cd_filter.specs.Table.{Step}
use Rattle.cd_explored.specs.Inner.NumberedSteps.{AreNumbered}
use Rattle.cd_explored.specs.Inner.PlainSteps.{plain_places, all_steps}
use Rattle.cd_explored.proofs.numbering.number_all.Given as goal

-- the steps so far are numbered, and with those of what is left they are all
abbrev pub invariant-loop-lead : goal.invariant-loop-lead
invariant-loop-lead l = record {
  can_next : (goal.iterator-loop-lead).can_next l.lead-iterator;
  is_finite : (goal.iterator-loop-lead).is_finite l.lead-iterator;
  counted : into_iter_len l.lead-iterator ≡ length (into_iter_items l.lead-iterator);
  numbered : (done : List Step)
      × AreNumbered (plain_places l.fn.places) (plain_places l.places) l.steps.items done
      × (done ++ all_steps (into_iter_items l.lead-iterator) ≡ all_steps l.fn.leads.items);
}
