use Rattle.std.proofs.Common.{◌≡◌, ◌++◌, length}
use Rattle.std.specs.Vec.Iter.{into_iter_items, into_iter_len}
use Rattle.cd_filter.specs.Table.{triple_steps}
use Rattle.cd_explored.specs.Inner.PlainSteps.{all_steps}
use Rattle.cd_explored.proofs.products.lead_to_triples.Given as goal

-- the steps so far, and those of what is left, are all
abbrev pub invariant-loop-one : goal.invariant-loop-one
invariant-loop-one l = record {
  can_next : (goal.iterator-loop-one).can_next l.one-iterator;
  is_finite : (goal.iterator-loop-one).is_finite l.one-iterator;
  counted : into_iter_len l.one-iterator ≡ length (into_iter_items l.one-iterator);
  whole : all_steps l.leads.items
      ++ triple_steps l.tag l.attributes l.content (into_iter_items l.one-iterator)
      ≡ triple_steps l.tag l.attributes l.content l.fn.triples.items;
}
