use Rattle.std.proofs.Common.{refl, sym}
use Rattle.std.proofs.lemmas.Option.{slice_get_read, slice_get_past}
use Rattle.cd_parser.proofs.Places.{place_there, place_past}
use Rattle.cd_parser.proofs.error.place_of.Goals as goal

-- a token is there
pub returns-in-Some : goal.returns-in-Some
returns-in-Some c =
    let found = c.in-Some.ensures.lookup.3 in
    let token = c.in-Some.token.now in
    sym (place_there c.args.tokens.now c.args.end c.args.index token (slice_get_read c.args.tokens.now _ c.args.index token refl found.0 (found.1 token)))

-- there is none
pub returns-in-None : goal.returns-in-None
returns-in-None c = sym (place_past c.args.tokens.now c.args.end c.args.index (slice_get_past c.args.tokens.now c.args.index c.in-None.ensures.lookup.3))
