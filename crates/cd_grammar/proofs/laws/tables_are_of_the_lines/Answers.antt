use Rattle.std.specs.Prelude.{refl}
use Rattle.cd_grammar.proofs.Fits.{same_rules}
use Rattle.cd_grammar.proofs.laws.tables_are_of_the_lines.Goals as goal

pub returns-clause-rules : goal.returns-clause-rules
returns-clause-rules c = same_rules

pub returns-clause-numbers : goal.returns-clause-numbers
returns-clause-numbers c = refl
