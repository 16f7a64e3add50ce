use Rattle.std.proofs.Common.{[], length, ap, sym, subst, ◌∙◌}
use Rattle.cd_model.specs.AllOf.{AllOf}
use Rattle.cd_needs.specs.RecordTypes.{plain_row}
use Rattle.cd_rules.specs.Family.{AsksNodes}
use Rattle.cd_empty.specs.Seen.{graph_of}
use Rattle.cd_records.specs.Inner.Plain.{plain_questions}
use Rattle.cd_records.specs.Inner.Saying.{with_questions}
use Rattle.cd_records.proofs.AskNodes.{some_ask}
use Rattle.cd_records.proofs.splitting.choices_of.Goals as goal

pub choices_by-requires-clause-some : goal.choices_by-requires-clause-some
choices_by-requires-clause-some c = let nodes = length (graph_of c.args.world.now) in
    subst (AllOf (AsksNodes nodes))
    (sym (ap plain_questions c.as_slice.ensures.value
    ∙ (c.in_ok-some.ensures ∙ ap (λ those. with_questions those []) c.items.ensures)))
    (some_ask nodes (plain_row c.args.row.now) c.requires)
