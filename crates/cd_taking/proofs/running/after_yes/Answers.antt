use Rattle.std.proofs.Common.{sym, subst}
use Rattle.cd_cells.specs.Table.{table}
use Rattle.cd_matching.specs.PlainKernel.{plain_nodes}
use Rattle.cd_taking.specs.declared.frame.Next.TheVariants.{Yes}
use Rattle.cd_taking.specs.declared.taker.Taker.{Taker}
use Rattle.cd_taking.specs.Inner.Stepping.{Steps}
use Rattle.cd_taking.proofs.running.after_yes.Goals as goal

pub returns-in_ok-then-in-Some-clause-doing : goal.returns-in_ok-then-in-Some-clause-doing
returns-in_ok-then-in-Some-clause-doing c = λ graph maps.
    subst (λ (taker : Taker). Steps graph maps (plain_nodes c.args.kernel.now.nodes.items) (table c.args.values.now) (table c.go_on.new.values) taker
    c.go_on.new.taker Yes c.in_ok-then-in-Some.then) (sym c.in-Some.ensures) (c.in_ok-then-in-Some.ensures.step graph maps)
