use Rattle.std.proofs.Common.{List, ℕ, sym, subst}
use Rattle.std.specs.Str.{chars}
use Rattle.std.proofs.lemmas.Result.{err_from_is_err_and}
use Rattle.cd_documents.specs.Machine.{step_on}
use Rattle.cd_documents.specs.Reading.{most_open}
use Rattle.cd_lex.specs.Lexing.{left, IsToken, token_with}
use Rattle.cd_notation.specs.declared.reader.Step.{Step}
use Rattle.cd_notation.specs.Inner.PlainTerminal.{plain_terminal}
use Rattle.cd_notation.specs.Inner.Leading.{IsStep}
use Rattle.cd_cells.proofs.GrownTables.{itself, further}
use Rattle.cd_notation.proofs.GoingOn.{going_starts, goes_on, is_wrong, is_too_deep, at_end, has_fault}
use Rattle.cd_notation.proofs.read.read_on.Goals as goal

pub loop-kind-init : goal.loop-kind-init
loop-kind-init c = (going_starts _ _ _ c.requires.forms c.requires.items c.requires.labels c.requires.place c.requires.joined, itself _)

pub terminal_of-is-requires : goal.terminal_of-is-requires
terminal_of-is-requires c =
    let token = subst (λ (name : List ℕ). IsToken c.loop-kind.lexer c.next.new.self (token_with c.in-Token.kind c.in-Token.span name)) (sym c.spelled-name.ensures) (rw c.in-Token.is at c.in_ok-kind.ensures.next) in
    token.sound

pub loop-kind-preserved : goal.loop-kind-preserved
loop-kind-preserved c =
    let name = chars c.spelled-name.result.now in
    let token = subst (λ (name : List ℕ). IsToken c.loop-kind.lexer c.next.new.self (token_with c.in-Token.kind c.in-Token.span name)) (sym c.spelled-name.ensures) (rw c.in-Token.is at c.in_ok-kind.ensures.next) in
    let made = c.in_ok-made-in-Token.ensures.step c.loop-kind.invariant.0.now c.in-Token.span.from c.loop-kind.invariant.0.stands in
    let stepped = step_on most_open c.loop-kind.invariant.0.now c.in-Token.span.from (plain_terminal c.terminal_of-is.result name) in
    let led = subst (λ (made : Step). IsStep c.in-Token.span.from stepped c.step.new.values made c.step.new.self) c.in-Next.is made in (
      goes_on (left c.args.lexer.now) c.loop-kind.lexer c.next.new.self c.loop-kind.values c.step.new.values c.loop-kind.expecting c.loop-kind.reader c.step.new.self
          c.in-Token.kind c.in-Token.span name c.terminal_of-is.result c.loop-kind.invariant.0 token c.terminal_of-is.ensures.is
          c.in-Next.next led,
      further _ _ _ c.loop-kind.invariant.1 c.in_ok-made-in-Token.ensures.grows,
    )

pub returns-in-Wrong-clause-fault : goal.returns-in-Wrong-clause-fault
returns-in-Wrong-clause-fault c =
    let name = chars c.spelled-name.result.now in
    let token = subst (λ (name : List ℕ). IsToken c.loop-kind.lexer c.next.new.self (token_with c.in-Token.kind c.in-Token.span name)) (sym c.spelled-name.ensures) (rw c.in-Token.is at c.in_ok-kind.ensures.next) in
    let made = c.in_ok-made-in-Token.ensures.step c.loop-kind.invariant.0.now c.in-Token.span.from c.loop-kind.invariant.0.stands in
    let stepped = step_on most_open c.loop-kind.invariant.0.now c.in-Token.span.from (plain_terminal c.terminal_of-is.result name) in
    let led = subst (λ (made : Step). IsStep c.in-Token.span.from stepped c.step.new.values made c.step.new.self) c.in-Wrong.is made in
    is_wrong (left c.args.lexer.now) c.loop-kind.lexer c.next.new.self c.loop-kind.values c.step.new.values c.loop-kind.expecting c.loop-kind.reader c.step.new.self
    c.in-Token.kind c.in-Token.span name c.terminal_of-is.result c.loop-kind.invariant.0 token c.terminal_of-is.ensures.is led _ c.refused.ensures

pub returns-in-TooDeep-clause-fault : goal.returns-in-TooDeep-clause-fault
returns-in-TooDeep-clause-fault c =
    let name = chars c.spelled-name.result.now in
    let token = subst (λ (name : List ℕ). IsToken c.loop-kind.lexer c.next.new.self (token_with c.in-Token.kind c.in-Token.span name)) (sym c.spelled-name.ensures) (rw c.in-Token.is at c.in_ok-kind.ensures.next) in
    let made = c.in_ok-made-in-Token.ensures.step c.loop-kind.invariant.0.now c.in-Token.span.from c.loop-kind.invariant.0.stands in
    let stepped = step_on most_open c.loop-kind.invariant.0.now c.in-Token.span.from (plain_terminal c.terminal_of-is.result name) in
    let led = subst (λ (made : Step). IsStep c.in-Token.span.from stepped c.step.new.values made c.step.new.self) c.in-TooDeep.is made in
    is_too_deep (left c.args.lexer.now) c.loop-kind.lexer c.next.new.self c.loop-kind.values c.step.new.values c.loop-kind.expecting c.loop-kind.reader c.step.new.self
    c.in-Token.kind c.in-Token.span name c.terminal_of-is.result c.loop-kind.invariant.0 token c.terminal_of-is.ensures.is led _ c.refused-in-TooDeep.ensures

pub returns-in-End-clause-value : goal.returns-in-End-clause-value
returns-in-End-clause-value c = (at_end _ _ _ _ _ _ _ c.ended.ensures c.requires.end c.loop-kind.invariant.0 (rw c.in-End.is at c.in_ok-kind.ensures.next)).value

pub returns-in-End-clause-fault : goal.returns-in-End-clause-fault
returns-in-End-clause-fault c = (at_end _ _ _ _ _ _ _ c.ended.ensures c.requires.end c.loop-kind.invariant.0 (rw c.in-End.is at c.in_ok-kind.ensures.next)).fault

pub returns-in_err-kind-clause-fault : goal.returns-in_err-kind-clause-fault
returns-in_err-kind-clause-fault c =
    let is = err_from_is_err_and c.from_residual.result c.from_residual.ensures.1 in
    rw (is.1, is.2) (has_fault _ _ _ _ _ c.in_err-kind.field-0.0 c.loop-kind.invariant.0 c.in_err-kind.ensures.fault)
