use Rattle.std.proofs.Common.{◌∙◌, ap}
use Rattle.cd_lr.specs.Flat.{entry}
use Rattle.cd_grammar.specs.Listed.{listed}
use Rattle.cd_grammar.proofs.table.length_of.Goals as goal

pub returns : goal.returns
unfolding listed
returns c = c.entry.ensures ∙ ap (entry listed.lengths) c.from.ensures
