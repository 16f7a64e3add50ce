use Rattle.std.proofs.Common.{sym, subst}
use Rattle.cd_forms.specs.Inner.StateFormulas.{StepsAsk}
use Rattle.cd_forms.proofs.of_sequences.state_formulas.state_formula.Goals as goal

pub returns-clause-asks : goal.returns-clause-asks
returns-clause-asks c count asks = c.in_ok-pairs.ensures.asks count
    (subst (StepsAsk count) (sym c.as_slice-steps.ensures.value) asks)
