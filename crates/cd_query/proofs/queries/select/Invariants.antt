use Rattle.std.proofs.Common.{◌≡◌, map, length, reverse}
use Rattle.std.specs.Prelude.{option_map}
use Rattle.std.specs.Vec.Iter.{into_iter_items, into_iter_len}
use Rattle.cd_program.specs.PlainExpr.{plain}
use Rattle.cd_query.specs.Core.{select}
use Rattle.cd_query.specs.PlainParts.{plain_source}
use Rattle.cd_query.proofs.Selected.{wrapped}
use Rattle.cd_query.proofs.queries.select.Given as goal

-- what is made so far, with the sources that are left round it, is all
abbrev pub invariant-loop-source : goal.invariant-loop-source
invariant-loop-source l = record {
  can_next : (goal.iterator-loop-source).can_next l.source-iterator;
  is_finite : (goal.iterator-loop-source).is_finite l.source-iterator;
  counted : into_iter_len l.source-iterator ≡ length (into_iter_items l.source-iterator);
  whole : wrapped l.fn.here (map plain_source (into_iter_items l.source-iterator)) (plain l.made.value) ≡ select l.fn.here (reverse (map plain_source l.fn.sources.items)) (option_map (λ is. plain is.value) l.fn.condition) (plain l.fn.head.value);
}
