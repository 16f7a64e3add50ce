-- Runs of characters.
use Rattle.std.specs.Prelude.{◌≡◌, ℕ, ◌<◌, ◌==◌, ◌&&◌, not, Bool, false, List, [], ◌∷◌}
use Rattle.cd_syntax.specs.Name.{goes_on_word}
use Rattle.cd_syntax.specs.Tokens.{is_blank}
use Rattle.cd_lex.specs.declared.run.Run.{Run}
use Rattle.cd_lex.specs.declared.run.Run.TheVariants.{Word, Blank, Quoted}

abbrev pub belongs : Run → ℕ → Bool
belongs Word c = goes_on_word c
belongs Blank c = is_blank c
belongs (Quoted quote) c = not (c == quote) && not (c == 92)

-- a quote is ASCII
abbrev pub HasAsciiQuote : Run → Type 0
HasAsciiQuote (Quoted quote) = quote < 128
HasAsciiQuote _ = Unit {0}

-- a run ends before this text
abbrev pub EndsRun : Run → List ℕ → Type 0
EndsRun run [] = Unit {0}
EndsRun run (c ∷ cs) = belongs run c ≡ false
