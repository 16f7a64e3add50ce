use Rattle.std.proofs.Common.{subst}
use Rattle.std.specs.Prelude.{OnOk}
use Rattle.cd_meaning.specs.Sets.{◌⊆◌, elements_of}
use Rattle.cd_operators.proofs.need.need_both.Goals as goal

-- the graph is the same when the second operand is asked about
pub returns-clause-second : goal.returns-clause-second
returns-clause-second c =
    subst (λ graph. OnOk c.need-2.result (elements_of graph c.args.second ⊆ elements_of graph c.args.needed))
    c.need.ensures.graph c.need-2.ensures.within
