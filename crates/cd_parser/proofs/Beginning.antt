-- The first step of the automaton takes what a text is to be.
use Rattle.std.proofs.Common.{◌≡◌, ◌∙◌, sym, ap, refl, ℕ, List, [], ◌∷◌, map, drop}
use Rattle.std.proofs.Math.Nat.{sub-zero}
use Rattle.cd_syntax.specs.declared.tokens.Token.{Token}
use Rattle.cd_lr.specs.Automaton as machine
use Rattle.cd_lr.specs.Automaton.{Shift, Cell, Config, On, Reaches, here, on}
use Rattle.cd_grammar.specs.declared.goal.Goal.{Goal}
use Rattle.cd_grammar.specs.declared.goal.Goal.TheVariants as goals
use Rattle.cd_grammar.specs.Parts.{Junk}
use Rattle.cd_grammar.specs.Terminals.{terminal_of_goal}
use Rattle.cd_grammar.specs.Language.{Entry, Read, Placed, nowhere}
use Rattle.cd_grammar.specs.Listed.{listed, automaton, the_grammar}
use Rattle.cd_grammar.specs.PlainActions.{plain_action}
use Rattle.cd_parser.specs.Reading.{entries, Comes}
use Rattle.cd_grammar.specs.declared.table.Action.{Action}
use Rattle.cd_grammar.specs.declared.table.Action.TheVariants as action

-- it is a shift, and opens no level
goal_shifts : (goal : Goal) → (to : ℕ) × (automaton.action 0 (terminal_of_goal goal) ≡ Shift 0 to)
unfolding listed
goal_shifts goals.TypeText = (_, refl)
goal_shifts goals.TypeFile = (_, refl)
goal_shifts goals.ProgramText = (_, refl)

pub first_shift : (goal : Goal) (opens to : ℕ) → Shift opens to ≡ automaton.action 0 (terminal_of_goal goal)
    → automaton.action 0 (terminal_of_goal goal) ≡ Shift 0 to
first_shift goal opens to is =
    let found = goal_shifts goal in
    let same : Shift opens to ≡ Shift 0 found.0 = is ∙ found.1 in
    let next : found.0 ≡ to = cc in
    found.1 ∙ ap (Shift 0) next

pub no_other : (goal : Goal) (first : Action) → plain_action first ≡ automaton.action 0 (terminal_of_goal goal)
    → ((opens to : ℕ) → first ≡ action.Shift opens to → ⊥) → ⊥
no_other goal first is other = by first (is ∙ (goal_shifts goal).1) other
  where
    by : (first : Action) → plain_action first ≡ Shift 0 (goal_shifts goal).0
        → ((opens to : ℕ) → first ≡ action.Shift opens to → ⊥) → ⊥
    by (action.Shift opens to) is other = other opens to refl
    by (action.Reduce rule) is other = cc
    by action.Accept is other = cc
    by action.Refuse is other = cc

-- where it leads
pub begun : (goal : Goal) (most to : ℕ) (tokens : List Token) (stack : List (Cell Placed))
    → automaton.action 0 (terminal_of_goal goal) ≡ Shift 0 to
    → stack ≡ record { state = to; room = most; value = (nowhere, Junk) } ∷ []
    → Comes goal most tokens record { stack = stack; rest = map Read (drop 0 tokens) }
begun goal most to tokens stack is put =
    on (machine.begin the_grammar automaton most (entries goal tokens)) (after stack) (after stack) first
    (here (after stack))
  where
    after : List (Cell Placed) → Config Entry Placed
    after stack = record { stack = stack; rest = map Read tokens }

    cell : (room : ℕ) → Cell Placed
    cell room = record { state = to; room = room; value = (nowhere, Junk) }

    first : machine.step the_grammar automaton most (machine.begin the_grammar automaton most (entries goal tokens))
        ≡ On (after stack)
    first =
        ap (λ action. machine.act the_grammar automaton most action [] (entries goal tokens)) is
        ∙ ap (λ room. On (after (cell room ∷ []))) (sub-zero most) ∙ ap (λ stack. On (after stack)) (sym put)
