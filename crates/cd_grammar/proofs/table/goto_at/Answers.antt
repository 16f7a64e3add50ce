use Rattle.std.proofs.Common.{◌+◌, ◌*◌, ◌∙◌, ap₂}
use Rattle.cd_lr.specs.Flat.{entry}
use Rattle.cd_grammar.specs.Listed.{listed}
use Rattle.cd_grammar.proofs.table.goto_at.Goals as goal

pub returns : goal.returns
unfolding listed
returns c =
    c.entry.ensures
    ∙ ap₂ (λ state left. entry listed.gotos (state * listed.nonterminals + left)) c.from.ensures c.from-2.ensures
