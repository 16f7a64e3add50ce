use Rattle.std.proofs.Common.{◌+◌, ◌*◌, ◌∙◌, ap, ap₂}
use Rattle.cd_lr.specs.Flat.{decode, entry}
use Rattle.cd_grammar.specs.Listed.{listed}
use Rattle.cd_grammar.proofs.table.action_at.Goals as goal

pub returns : goal.returns
unfolding listed
returns c =
    c.decode.ensures ∙ ap decode c.entry.ensures
    ∙ ap₂ (λ state terminal. decode (entry listed.actions (state * listed.terminals + terminal))) c.from.ensures
    c.from-2.ensures
