use Rattle.std.proofs.Common.{length, rules}
use Rattle.std.specs.List.Sorted.{IsSortedBy}
use Rattle.std.proofs.lemmas.Cmp.{nat_list_cmp_total}
use Rattle.std.proofs.lemmas.List.Sorted.{ranks_by}
use Rattle.std.proofs.lemmas.Fn.{always_returns_same}
use Rattle.cd_cells.specs.Table.{table, names}
use Rattle.cd_notation.proofs.Different.{parts_moved}
use Rattle.cd_notation.proofs.FieldsRead.{name, sorted_fields, sorted_labels_rise}
use Rattle.cd_notation.proofs.Rising.{lower}
use Rattle.cd_notation.proofs.sorting.sort_fields.Goals as goal

pub returns-clause-fields : goal.returns-clause-fields
returns-clause-fields c =
    let values = c.args.values.now in
    let in_order : IsSortedBy (lower (name (names values) (table values))) c.sort_unstable_by.new.self =
    c.sort_unstable_by.ensures.sorted _ (ranks_by nat_list_cmp_total (name (names values) (table values)))
    (always_returns_same _ _ _ (λ a r q k. search rules)) in
    sorted_fields (names values) (table values) c.knows.ensures.once (length (table values)) c.args.parts.now
    c.sort_unstable_by.new.self c.requires.parts c.requires.differ c.sort_unstable_by.ensures.permutation in_order

pub returns-clause-rise : goal.returns-clause-rise
returns-clause-rise c =
    let values = c.args.values.now in
    let in_order : IsSortedBy (lower (name (names values) (table values))) c.sort_unstable_by.new.self =
    c.sort_unstable_by.ensures.sorted _ (ranks_by nat_list_cmp_total (name (names values) (table values)))
    (always_returns_same _ _ _ (λ a r q k. search rules)) in
    sorted_labels_rise (names values) (table values) c.knows.ensures.once (length (table values)) c.args.parts.now
    c.sort_unstable_by.new.self c.requires.parts c.requires.differ c.sort_unstable_by.ensures.permutation in_order

pub returns-clause-parts : goal.returns-clause-parts
returns-clause-parts c =
    let values = c.args.values.now in
    parts_moved (names values) (length (table values)) c.args.parts.now c.sort_unstable_by.new.self
    c.sort_unstable_by.ensures.permutation c.requires.parts
