use Rattle.std.proofs.Common.{◌≡◌, ◌++◌, length}
use Rattle.std.specs.Vec.Iter.{into_iter_items, into_iter_len}
use Rattle.cd_filter.specs.Table.{gather_steps}
use Rattle.cd_explored.specs.Inner.PlainSteps.{all_steps}
use Rattle.cd_explored.proofs.products.gather_pairs.Given as goal

-- the steps so far, and those of what is left, are all
abbrev pub invariant-loop-one : goal.invariant-loop-one
invariant-loop-one l = record {
  can_next : (goal.iterator-loop-one).can_next l.one-iterator;
  is_finite : (goal.iterator-loop-one).is_finite l.one-iterator;
  counted : into_iter_len l.one-iterator ≡ length (into_iter_items l.one-iterator);
  whole : all_steps l.leads.items
      ++ gather_steps l.variable l.first l.second (into_iter_items l.one-iterator)
      ≡ gather_steps l.variable l.first l.second l.fn.products.items;
}
