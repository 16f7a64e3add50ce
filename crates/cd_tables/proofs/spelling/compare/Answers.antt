use Rattle.std.proofs.Common.{◌∙◌, arith}
use Rattle.cd_tables.proofs.Comparing.{differ}
use Rattle.cd_tables.proofs.spelling.compare.Goals as goal

-- a byte differs
pub returns-in-len1-up-2 : goal.returns-in-len1-up-2
returns-in-len1-up-2 c =
    let field = c.args.field.now in
    let place = c.loop-byte.byte-index in
    let other = differ field c.loop-byte.rest.now place (omega (arith, c.told-field, c.loop-byte-test.true)) in
    c.cmp.ensures ∙ other c.if-byte-eq0.false c.in-len1-up.len_at_least c.if-byte-first.false ∙ c.loop-byte.invariant
