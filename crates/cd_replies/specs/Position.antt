-- Places of a text, as its readers count them.
use Rattle.std.specs.Prelude.{ℕ, ◌+◌, ◌-◌, ◌==◌, not, if◌then◌else◌, List, [], ◌∷◌, ◌++◌, length}
use Rattle.std.specs.Prelude.{reverse, codes}
use Rattle.std.specs.List.{filter, take_while}
use Rattle.std.specs.Str.{chars}
use Rattle.std.specs.Fmt.{decimal}
use Rattle.cd_syntax.specs.Tokens.{bytes}
use Rattle.cd_replies.specs.Bytes.{Bytes}

-- the characters of a text that begin before this byte
abbrev pub characters_before : (at : ℕ) → List ℕ → List ℕ
characters_before at [] = []
characters_before at (c ∷ cs) = if at ==
    0 then [] else c ∷ characters_before (at - bytes (c ∷ [])) cs

-- one more than the line feeds before a place
abbrev pub line_after : List ℕ → ℕ
line_after before = 1 + length (filter (λ c. c == 10) before)

-- one more than the characters between the last line feed before a place, or the start, and it
abbrev pub column_after : List ℕ → ℕ
column_after before = 1 + length (take_while (λ c. not (c == 10)) (reverse before))

-- line and column, as a text
abbrev pub position : Bytes → (at : ℕ) → Bytes
position text at = decimal (line_after (characters_before at (chars text))) ++ codes ":"
    ++ decimal (column_after (characters_before at (chars text)))
