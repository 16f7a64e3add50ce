use Rattle.cd_notation.proofs.OneCharacter.{only_one, not_only}
use Rattle.std.proofs.Common.{◌∙◌, sym}
use Rattle.cd_notation.proofs.terminal.only_character.Goals as goal

pub returns-in-Some : goal.returns-in-Some
returns-in-Some c = not_only _ _ _ _ _ c.utf8.text (sym c.chars-rest.ensures.rest ∙ c.in_ok-first.ensures.steps.0) c.in-Some.ensures.steps.0

pub returns-in-None : goal.returns-in-None
returns-in-None c = only_one _ _ _ c.utf8.text (sym c.chars-rest.ensures.rest ∙ c.in_ok-first.ensures.steps.0) c.in-None.ensures.steps.0.0
