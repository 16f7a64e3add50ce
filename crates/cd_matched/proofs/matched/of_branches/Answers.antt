use Rattle.std.proofs.Common.{List, [], ◌∷◌, sym, subst, ◌∙◌, ap}
use Rattle.cd_syntax.specs.TypeTree.{Tree}
use Rattle.cd_model.specs.AllOf.{AllOf}
use Rattle.cd_program.specs.Expr.{Branches}
use Rattle.cd_empty.specs.Seen.{graph_of}
use Rattle.cd_typing.specs.Branches.{patterns_of}
use Rattle.cd_typing.specs.Typed.{scope_of}
use Rattle.cd_placed.specs.Patterns.{all_patterns}
use Rattle.cd_resolved.specs.Resolved.{program_of}
use Rattle.cd_matched.proofs.SitesMatched.{as_many}
use Rattle.cd_matched.proofs.matched.of_branches.Goals as goal

pub accepted_at-requires-clause-count : goal.accepted_at-requires-clause-count
accepted_at-requires-clause-count c = let program = program_of c.args.program.now in
    as_many (scope_of program) (graph_of c.args.world.now) (all_patterns program) c.args.accepted.now c.requires.accepted
