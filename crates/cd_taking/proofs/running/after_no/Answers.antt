use Rattle.std.proofs.Common.{sym, subst}
use Rattle.cd_cells.specs.Table.{table}
use Rattle.cd_matching.specs.PlainKernel.{plain_nodes}
use Rattle.cd_taking.specs.declared.frame.Next.TheVariants.{No}
use Rattle.cd_taking.specs.declared.taker.Taker.{Taker}
use Rattle.cd_taking.specs.Inner.Stepping.{Steps}
use Rattle.cd_taking.proofs.running.after_no.Goals as goal

pub returns-in_ok-then-in-Some : goal.returns-in_ok-then-in-Some
returns-in_ok-then-in-Some c = λ graph maps.
    subst (λ (taker : Taker). Steps graph maps (plain_nodes c.args.kernel.now.nodes.items) (table c.args.values.now) (table c.args.values.now) taker
    c.fall_back.new.taker No c.in_ok-then-in-Some.then) (sym c.in-Some.ensures) (c.in_ok-then-in-Some.ensures graph maps)
