use Rattle.cd_syntax.specs.PlainTree.{plain}
use Rattle.cd_placed.specs.Patterns.{all_patterns}
use Rattle.cd_check.specs.Inner.Divided.{IsSited, sited_pattern}
use Rattle.cd_check.specs.Inner.Ready.{program_of}
use Rattle.cd_check.proofs.AtNumbers.{is_within, gives}
use Rattle.cd_check.proofs.NextOne.{one_at}
use Rattle.cd_check.proofs.sites.site_at.Goals as goal

pub returns-clause-pattern : goal.returns-clause-pattern
returns-clause-pattern c = gives sited_pattern c.args.base.now.sites.now (all_patterns (program_of c.args.base.now)) c.requires.patterns
    c.pattern_number-number.result (plain c.args.pattern.now) c.pattern_number-number.ensures c.index-all-number.result c.index-all-number.is

pub returns-clause-sited : goal.returns-clause-sited
returns-clause-sited c = λ graph scope sited. one_at (IsSited graph scope) c.args.base.now.sites.now c.pattern_number-number.result
    c.index-all-number.result c.index-all-number.is
    (is_within sited_pattern c.args.base.now.sites.now (all_patterns (program_of c.args.base.now)) c.requires.patterns
    c.pattern_number-number.result (plain c.args.pattern.now) c.pattern_number-number.ensures) sited
