-- What is read of tokens.
use Rattle.std.specs.Prelude.{◌≡◌, ℕ, suc, List, ◌∷◌, map}
use Rattle.cd_syntax.specs.declared.tokens.Span.{Span}
use Rattle.cd_syntax.specs.declared.tokens.Token.{Token}
use Rattle.cd_lr.specs.Automaton as machine
use Rattle.cd_lr.specs.Automaton.{Config, Reaches}
use Rattle.cd_lr.specs.Reading as answer
use Rattle.cd_lr.specs.Reading.{Answer, IsAnswer}
use Rattle.cd_grammar.specs.declared.goal.Goal.{Goal}
use Rattle.cd_grammar.specs.Language.{Entry, To, Read, Placed, cduce_grammar}
use Rattle.cd_grammar.specs.Listed.{automaton, the_grammar}
use Rattle.cd_grammar.specs.Parts as parts
use Rattle.cd_parser.specs.PlainSteps.{accepted}
use Rattle.cd_parser.specs.declared.reading.Reading.{Reading}
use Rattle.cd_parser.specs.declared.reading.Reading.TheVariants.{Whole, Wrong, TooDeep}

abbrev pub entries : Goal → List Token → List Entry
entries goal tokens = To goal ∷ map Read tokens

-- the automaton comes here from the beginning
abbrev pub Comes : Goal → (most : ℕ) → List Token → Config Entry Placed → Type 0
Comes goal most tokens c =
    Reaches the_grammar automaton most
    (machine.begin the_grammar automaton most (entries goal tokens)) c

-- what all is read as where it is accepted, with this many tokens read
abbrev pub IsAccepted : {P : Type 0} → (P → parts.Part) → (index : ℕ) → List (machine.Cell Placed)
    → Reading P → Type 0
IsAccepted plain index stack (Whole part) =
    (place : Span) × (accepted stack ≡ machine.Done (place, plain part))
IsAccepted plain index stack (Wrong other) = (accepted stack ≡ machine.Wrong) × (other ≡ index)
IsAccepted plain index stack (TooDeep other) = ⊥

-- a reading as an answer, where what was read stands at this place
abbrev pub plain_answer : {P : Type 0} → (P → parts.Part) → (place : Span) → Reading P
    → Answer Placed
plain_answer plain place (Whole part) = answer.Read (place, plain part)
plain_answer plain place (Wrong index) = answer.Syntax (suc index)
plain_answer plain place (TooDeep index) = answer.TooDeep (suc index)

-- the reading is what the grammar says of the tokens
abbrev pub IsRead : {P : Type 0} → (P → parts.Part) → Goal → (most : ℕ) → List Token → Reading P
    → Type 0
IsRead plain goal most tokens reading =
    (place : Span)
    × IsAnswer cduce_grammar most (entries goal tokens) (plain_answer plain place reading)
