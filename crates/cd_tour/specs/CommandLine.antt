-- Words as a command line for a shell.
use Rattle.std.specs.Prelude.{ℕ, Bool, ◌||◌, ◌==◌, List, [], ◌∷◌, ◌++◌, if◌then◌else◌, codes}
use Rattle.std.specs.Char.{is_ascii_alphanumeric}
use Rattle.std.specs.List.{list_all}
use Rattle.cd_replies.specs.Bytes.{Bytes}

-- an ASCII letter or digit, `-` or `.`
abbrev pub is_plain : ℕ → Bool
is_plain byte = (is_ascii_alphanumeric byte || byte == 45) || byte == 46

-- a word, between quotes where another byte is in it
abbrev pub quoted : Bytes → Bytes
quoted word = if list_all is_plain word then word else codes "'" ++ (word ++ codes "'")

-- each word after a space
abbrev pub spaced : List Bytes → Bytes
spaced [] = []
spaced (word ∷ words) = codes " " ++ (quoted word ++ spaced words)

-- the line that gives the words to the program
abbrev pub command_line : List Bytes → Bytes
command_line words = (codes "cduce" ++ spaced words) ++ codes "\n"
