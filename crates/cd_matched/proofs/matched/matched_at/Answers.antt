use Rattle.std.proofs.Common.{sym, subst}
use Rattle.cd_program.specs.PlainExpr.{plain_branches}
use Rattle.cd_empty.specs.Seen.{graph_of}
use Rattle.cd_typing.specs.Branches.{patterns_of}
use Rattle.cd_typing.specs.Typed.{scope_of}
use Rattle.cd_placed.specs.Patterns.{all_patterns}
use Rattle.cd_resolved.specs.Resolved.{program_of}
use Rattle.cd_matched.proofs.SitesMatched.{as_many, data_matched}
use Rattle.cd_matched.proofs.matched.matched_at.Goals as goal

pub accepted_at-requires-clause-count : goal.accepted_at-requires-clause-count
accepted_at-requires-clause-count c = let program = program_of c.args.program.now in
    as_many (scope_of program) (graph_of c.args.world.now) (all_patterns program) c.args.accepted.now c.requires.accepted

pub returns-in-Try-clause-matched : goal.returns-in-Try-clause-matched
returns-in-Try-clause-matched c = rw c.in-Try.is (data_matched (scope_of (program_of c.args.program.now)) (graph_of c.args.world.now)
    c.graph.ensures.built_in.0 c.graph.ensures.built_in.1 (patterns_of (plain_branches c.in-Try.field-0.now)))
