use Rattle.std.proofs.Common.{◌-◌, map, length, take, get_or}
use Rattle.cd_meaning.specs.Sets.{elements_of}
use Rattle.cd_typing.specs.Results.{IsTupleOf}
use Rattle.cd_typing.specs.Typ.{typ}
use Rattle.cd_empty.specs.Seen.{graph_of}
use Rattle.cd_model.specs.BuiltIns.{node}
use Rattle.cd_forms.specs.Inner.Chains.{AreBefore}
use Rattle.cd_forms.proofs.Followed.{front_and_last, tuples_are_rows, rows_are_tuples}
use Rattle.cd_forms.proofs.PutHolds.{narrower, wider}
use Rattle.cd_forms.proofs.tuples.tuple.Goals as goal

-- of no part
pub returns-in-empty-clause-only : goal.returns-in-empty-clause-only
returns-in-empty-clause-only c e element there = absurd (c.empty.ensures.holds e there)

-- and of some
pub returns-in-len1-up-clause-has : goal.returns-in-len1-up-clause-has
returns-in-len1-up-clause-has c =
    let graph = graph_of c.args.world.now in
    let parts = c.args.parts.now in
    let heads = take (length parts - 1) parts in
    let last = get_or parts (length parts - 1) (node 0) in
    narrower (graph_of c.row_before.new.world) (IsTupleOf (map (typ graph) parts))
    (AreBefore (map (typ graph) heads) (elements_of graph last)) c.row_before.result
    c.row_before.ensures.has
    (tuples_are_rows graph parts heads last
    (front_and_last parts (node 0) c.in-len1-up.len_at_least))

pub returns-in-len1-up-clause-only : goal.returns-in-len1-up-clause-only
returns-in-len1-up-clause-only c =
    let graph = graph_of c.args.world.now in
    let parts = c.args.parts.now in
    let heads = take (length parts - 1) parts in
    let last = get_or parts (length parts - 1) (node 0) in
    wider (graph_of c.row_before.new.world)
    (AreBefore (map (typ graph) heads) (elements_of graph last))
    (IsTupleOf (map (typ graph) parts)) c.row_before.result c.row_before.ensures.only
    (rows_are_tuples graph parts heads last
    (front_and_last parts (node 0) c.in-len1-up.len_at_least))
