use Rattle.cd_syntax.specs.PlainTree.{plain}
use Rattle.cd_placed.specs.Patterns.{all_patterns}
use Rattle.cd_resolved.specs.Resolved.{program_of}
use Rattle.cd_matched.proofs.SitesMatched.{accepted_in}
use Rattle.cd_matched.proofs.matched.accepted_at.Goals as goal

pub returns : goal.returns
returns c = λ scope graph are. accepted_in scope graph (all_patterns (program_of c.args.program.now)) c.args.accepted.now are
    c.pattern_number.result (plain c.args.pattern.now) _ c.pattern_number.ensures
