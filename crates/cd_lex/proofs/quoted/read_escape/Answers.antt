use Rattle.std.proofs.Common.{sym, ◌∙◌}
use Rattle.cd_lex.proofs.Quoting.{means_letter, breaks_no_letter, ends_alone}
use Rattle.cd_lex.proofs.quoted.read_escape.Goals as goal

pub returns-in_default : goal.returns-in_default
returns-in_default c = ends_alone _ c.in_default.ensures

pub returns-in-Some-meant : goal.returns-in-Some-meant
returns-in-Some-meant c = means_letter _ _ _ _ c.in-Some.ensures c.in-Some-meant.ensures

pub returns-in-None : goal.returns-in-None
returns-in-None c = breaks_no_letter _ _ _ c.in-Some.ensures (sym c.is_ascii_digit.ensures.value ∙ c.if-is_ascii_digit.false) c.in-None.ensures
