use Rattle.std.proofs.Common.{refl, map, sym, subst}
use Rattle.cd_program.specs.Expr.{Chain, ATail, Operand, tails_of}
use Rattle.cd_program.specs.PlainExpr.{plain, plain_tail}
use Rattle.cd_cells.specs.Table.{table}
use Rattle.cd_machine.specs.PlainRan.{plain_outcome}
use Rattle.cd_machine.specs.Inner.AtHand.{KindComes}
use Rattle.cd_machine.specs.Inner.CodeIn.{code_in}
use Rattle.cd_machine.specs.Inner.PlainFrame.{env_at}
use Rattle.cd_machine.specs.declared.turn.Turn.{Turn}
use Rattle.cd_machine.proofs.OperatorsAtHand.{reaches}
use Rattle.cd_machine.proofs.at_hand.operands_come.Goals as goal

-- the rest of the operators waits for what this one makes
pub returns-in-Some-clause-comes : goal.returns-in-Some-clause-comes
returns-in-Some-clause-comes c =
    let code = c.args.code.now in
    let new = c.computed.new.values in
    let environments = c.args.environments.now in
    let first = plain c.args.operands.0.now in
    let second = plain c.args.operands.2.now in
    let rest = tails_of (map plain_tail c.args.rest.now) in
    let env = c.args.env in
    subst (λ (turn : Turn). KindComes code new environments (Chain first (ATail (Operand c.args.operands.1 second) rest)) env turn) (sym c.pay.ensures) (record {
      takes = refl;
      reaches = λ span. reaches (code_in code) span first c.args.operands.1 second rest (env_at new environments env)
          (plain_outcome (table new) c.in-Some.outcome) (rw c.in-Some.is at c.in_ok-outcome.ensures.computes);
      within = (rw c.in-Some.is at c.in_ok-outcome.ensures.within, (c.requires.env, tt));
      known = (tt, (c.requires.rest, tt));
    })
