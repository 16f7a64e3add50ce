use Rattle.cd_lex.proofs.Quoting.{breaks_no_code, means_code, breaks_no_semicolon, ends_code}
use Rattle.cd_lex.proofs.quoted.read_code.Goals as goal

pub returns-in_default : goal.returns-in_default
returns-in_default c = breaks_no_code c.args.first c.args.cursor.now c.requires c.in_default.ensures.value

pub returns-in-Some-eq59 : goal.returns-in-Some-eq59
returns-in-Some-eq59 c =
    means_code c.args.first c.args.cursor.now c.requires _ _ _ _ c.in-Some.ensures.value c.in-Some.ensures.rest c.in-Some-eq59.ensures c.in-Some-eq59.field-0-test

pub returns-in-Some-take : goal.returns-in-Some-take
returns-in-Some-take c =
    breaks_no_semicolon c.args.first c.args.cursor.now c.requires _ _ _ _ c.in-Some.ensures.value c.in-Some.ensures.rest c.in-Some-take.ensures c.in-Some-take.field-0-test.1

pub returns-in-None : goal.returns-in-None
returns-in-None c = ends_code c.args.first c.args.cursor.now c.requires _ _ c.in-Some.ensures.value c.in-Some.ensures.rest c.in-None.ensures
