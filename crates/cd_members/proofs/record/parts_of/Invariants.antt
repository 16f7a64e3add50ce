use Rattle.std.proofs.Common.{◌≡◌, [], length}
use Rattle.std.specs.Vec.Iter.{into_iter_items, into_iter_len}
use Rattle.cd_members.specs.Inner.RecordFields.{put_all}
use Rattle.cd_members.proofs.record.parts_of.Given as goal

-- with what is left put among these they are the fields of all
abbrev pub invariant-loop-label : goal.invariant-loop-label
invariant-loop-label l = record {
  can_next : (goal.iterator-loop-label).can_next l.label-iterator;
  is_finite : (goal.iterator-loop-label).is_finite l.label-iterator;
  counted : into_iter_len l.label-iterator ≡ length (into_iter_items l.label-iterator);
  whole : put_all (into_iter_items l.label-iterator) l.rest l.parts.items ≡ put_all l.fn.labels.items l.ids [];
}
