use Rattle.std.proofs.Common.{ap, sym, refl, ◌∙◌, ◌-◌, arith}
use Rattle.std.proofs.lemmas.Result.{err_from_is_err_and}
use Rattle.cd_lex.proofs.TokenReading.{ends, drops_at, reads, reads_at, token_fits, faulty_at}
use Rattle.cd_lex.proofs.next_token.read_lexeme.Goals as goal

pub overflow_sub-to : goal.overflow_sub-to
overflow_sub-to c =
    let so = c.skip_blanks-joined.ensures.read _ _ _ c.loop-kind.invariant in
    let is = c.in-Some.ensures c.skip_blanks-joined.result in
    let fits = token_fits _ _ _ _ _ _ so refl _ _ is in
    let bytes = c.bytes-in-Some.ensures in
    omega arith

pub returns-in-Some-clause-lexeme : goal.returns-in-Some-clause-lexeme
returns-in-Some-clause-lexeme c =
    let so = c.skip_blanks-joined.ensures.read _ _ _ c.loop-kind.invariant in
    let is = c.in-Some.ensures c.skip_blanks-joined.result in
    reads _ _ _ _ _ _ _ _ _ so is
    (ap (λ bytes. c.args.end - bytes) c.bytes.ensures)
    (ap (λ bytes. c.args.end - bytes) c.bytes-in-Some.ensures)

pub returns-in_default-take-clause-lexeme : goal.returns-in_default-take-clause-lexeme
returns-in_default-take-clause-lexeme c =
    let so = c.skip_blanks-joined.ensures.read _ _ _ c.loop-kind.invariant in
    ends _ _ _ _ _ so (sym c.in_default.ensures.0 ∙ c.in_default-take.ensures)

pub returns-in_err-prefix-clause-fault : goal.returns-in_err-prefix-clause-fault
returns-in_err-prefix-clause-fault c =
    let is = err_from_is_err_and c.from_residual.result c.from_residual.ensures.1 in
    let same = sym c.in_default.ensures.0 ∙ c.in-Some-take.ensures in
    let so = c.skip_blanks-joined.ensures.read _ _ _ c.loop-kind.invariant in
    rw (is.1, is.2) (faulty_at _ _ _ _ _ _ so same _ _
    (ap (λ bytes. c.args.end - bytes) c.bytes.ensures) c.in_err-prefix.ensures.fault)

pub loop-kind-preserved : goal.loop-kind-preserved
loop-kind-preserved c =
    let same = sym c.in_default.ensures.0 ∙ c.in-Some-take.ensures in
    let so = c.skip_blanks-joined.ensures.read _ _ _ c.loop-kind.invariant in
    let prefix = rw c.in-Dropped.is at c.in_ok-prefix.ensures.piece in
    drops_at _ _ _ _ _ _ so same _ prefix

pub overflow_sub-to-in-Token : goal.overflow_sub-to-in-Token
overflow_sub-to-in-Token c =
    let same = sym c.in_default.ensures.0 ∙ c.in-Some-take.ensures in
    let so = c.skip_blanks-joined.ensures.read _ _ _ c.loop-kind.invariant in
    let prefix = rw c.in-Token.is at c.in_ok-prefix.ensures.piece in
    let fits = token_fits _ _ _ _ _ _ so same _ _ prefix in
    let bytes = c.bytes-in-Token.ensures in
    omega arith

pub returns-in-Token-clause-lexeme : goal.returns-in-Token-clause-lexeme
returns-in-Token-clause-lexeme c =
    let same = sym c.in_default.ensures.0 ∙ c.in-Some-take.ensures in
    let so = c.skip_blanks-joined.ensures.read _ _ _ c.loop-kind.invariant in
    let prefix = rw c.in-Token.is at c.in_ok-prefix.ensures.piece in
    reads_at _ _ _ _ _ _ so same _ _ _ _ prefix
    (ap (λ bytes. c.args.end - bytes) c.bytes.ensures)
    (ap (λ bytes. c.args.end - bytes) c.bytes-in-Token.ensures)
