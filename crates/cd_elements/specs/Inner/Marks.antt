-- How the marks between elements and after them are written.
use Rattle.std.specs.Prelude.{codes}
use Rattle.cd_model.specs.Canonical.{Text}
use Rattle.cd_elements.specs.declared.task.Mark.{Mark}
use Rattle.cd_elements.specs.declared.task.Mark.TheVariants.{Comma, Semicolon, Space, Quote, Maps}
use Rattle.cd_elements.specs.declared.task.Mark.TheVariants.{Fails, Parenthesis}
use Rattle.cd_elements.specs.declared.task.Mark.TheVariants.{Bracket, Brace, Greater}

abbrev pub mark_text : Mark → Text
mark_text Comma = codes ", "
mark_text Semicolon = codes "; "
mark_text Space = codes " "
mark_text Quote = codes "'"
mark_text Maps = codes " => "
mark_text Fails = codes " => ?"
mark_text Parenthesis = codes ")"
mark_text Bracket = codes "]"
mark_text Brace = codes "}"
mark_text Greater = codes ">"
