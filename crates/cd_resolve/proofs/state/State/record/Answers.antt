use Rattle.std.proofs.Common.{sym, subst, None}
use Rattle.cd_graph.specs.PlainFormula.{plain_named}
use Rattle.cd_model.specs.Formula.{AreRisingLabels}
use Rattle.cd_resolve.proofs.Rising.{sorted_rises}
use Rattle.cd_resolve.proofs.state.State.record.Goals as goal

-- labels rise where fields are sorted
pub of-requires : goal.of-requires
of-requires c = subst (λ named. AreRisingLabels None named) (sym c.in_ok-sort.ensures)
    (sorted_rises (plain_named c.args.fields.items) c.requires)
