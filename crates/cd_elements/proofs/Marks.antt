-- The bytes of a mark are its characters.
use Rattle.std.proofs.Common.{◌≡◌, refl}
use Rattle.std.specs.Prelude.{codes}
use Rattle.std.specs.Str.{chars}
use Rattle.cd_elements.specs.declared.task.Mark.{Mark}
use Rattle.cd_elements.specs.declared.task.Mark.TheVariants.{Comma, Semicolon, Space, Quote, Maps, Fails, Parenthesis}
use Rattle.cd_elements.specs.declared.task.Mark.TheVariants.{Bracket, Brace, Greater}
use Rattle.cd_elements.specs.Inner.Marks.{mark_text}

pub mark_characters : (mark : Mark) → chars (mark_text mark) ≡ mark_text mark
unfolding chars
mark_characters Comma = refl
mark_characters Semicolon = refl
mark_characters Space = refl
mark_characters Quote = refl
mark_characters Maps = refl
mark_characters Fails = refl
mark_characters Parenthesis = refl
mark_characters Bracket = refl
mark_characters Brace = refl
mark_characters Greater = refl

-- and so are those of what a function begins with
pub function_characters : chars (codes "fun{") ≡ codes "fun{"
unfolding chars
function_characters = refl
