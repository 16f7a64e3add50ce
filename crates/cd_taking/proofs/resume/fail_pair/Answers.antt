use Rattle.std.proofs.Common.{refl}
use Rattle.cd_cells.specs.Table.{table}
use Rattle.cd_matching.specs.PlainKernel.{plain_nodes}
use Rattle.cd_taking.proofs.Stepping.{failed}
use Rattle.cd_taking.proofs.resume.fail_pair.Goals as goal

pub returns : goal.returns
returns c = λ graph maps.
    failed graph maps (plain_nodes c.args.kernel.now.nodes.items) (table c.args.values.now) c.args.pair c.args.node c.args.mark c.args.taker.now _ refl refl c.in_ok-add.ensures c.requires
