use Rattle.std.proofs.Common.{ap, refl, ◌-◌, arith}
use Rattle.cd_lex.proofs.TokenReading.{starts, reads, token_fits}
use Rattle.cd_lex.proofs.next_token.read_simple.Goals as goal

pub overflow_sub-to : goal.overflow_sub-to
overflow_sub-to c =
    let so = c.skip_blanks.ensures.read _ _ _ (starts c.args.end c.args.joined _ c.requires) in
    let is = c.in_ok-kind.ensures c.skip_blanks.result in
    let fits = token_fits _ _ _ _ _ _ so refl _ _ is in
    let bytes = c.bytes-2.ensures in
    omega arith

pub returns : goal.returns
returns c =
    let so = c.skip_blanks.ensures.read _ _ _ (starts c.args.end c.args.joined _ c.requires) in
    let is = c.in_ok-kind.ensures c.skip_blanks.result in
    reads _ _ _ _ _ _ _ _ _ so is
    (ap (λ bytes. c.args.end - bytes) c.bytes.ensures)
    (ap (λ bytes. c.args.end - bytes) c.bytes-2.ensures)
