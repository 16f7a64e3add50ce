use Rattle.std.proofs.Common.{true, false, [], ◌∷◌, ◌++◌, map, sym, ap, ◌∙◌}
use Rattle.std.proofs.lemmas.List.{append-nil, map-append}
use Rattle.cd_needs.specs.RecordTypes.{plain_row}
use Rattle.cd_empty.specs.Seen.{graph_of}
use Rattle.cd_rows.proofs.KeptRows.{kept_by_answer}
use Rattle.cd_rows.proofs.witnesses.keep_one.Goals as goal

pub returns-in_ok-push-clause-exact : goal.returns-in_ok-push-clause-exact
returns-in_ok-push-clause-exact c test is =
    let old = c.args.kept.now.items in
    ap (map plain_row) c.in_ok-push.ensures.items
    ∙ (map-append plain_row old _
    ∙ ap (λ more. map plain_row old ++ more) (ap (λ row. row ∷ []) c.in_ok-copy_of.ensures
    ∙ sym (kept_by_answer (graph_of c.args.world.now) (plain_row c.args.row.now) _ true
    c.in_ok-has_record.ensures.tested c.if-branch.true test is c.requires)))

pub returns-else-branch-clause-exact : goal.returns-else-branch-clause-exact
returns-else-branch-clause-exact c test is =
    let old = map plain_row c.args.kept.now.items in
    sym (append-nil old)
    ∙ ap (λ more. old ++ more)
    (sym (kept_by_answer (graph_of c.args.world.now) (plain_row c.args.row.now) _ false
    c.in_ok-has_record.ensures.tested c.if-branch.false test is c.requires))
