-- The automaton of the code does what that of the tables does, so what it answers is what the grammar says.
use Rattle.std.proofs.Common.{◌≡◌, ◌∙◌, sym, ap, refl, ℕ, suc, List, map, drop}
use Rattle.std.specs.Prelude.{◌<◌}
use Rattle.std.proofs.lemmas.List.{drop-map}
use Rattle.cd_syntax.specs.declared.tokens.Token.{Token}
use Rattle.cd_lr.specs.Automaton as machine
use Rattle.cd_lr.specs.Automaton.{Config, Reaches, On}
use Rattle.cd_lr.specs.Tables as tabled
use Rattle.cd_lr.specs.TableGrammar.{Core, Sure, First, ranks}
use Rattle.cd_lr.specs.Validator.{state_weight}
use Rattle.cd_lr.specs.Weights.{left_over}
use Rattle.cd_lr.proofs.Agree.{Agree, same_step, same_runs}
use Rattle.cd_lr.proofs.FlatMachine.{agrees}
use Rattle.cd_lr.proofs.Answers.{at_done, at_wrong, at_too_deep}
use Rattle.cd_grammar.specs.declared.goal.Goal.{Goal}
use Rattle.cd_grammar.specs.Language.{Entry, Read, Placed, kind_of, value_of, is_free, build, nowhere}
use Rattle.cd_grammar.specs.Language.{cduce_grammar}
use Rattle.cd_grammar.specs.Tables.{tables}
use Rattle.cd_grammar.proofs.Exact.{safe, full, step_falls}
use Rattle.cd_grammar.proofs.Terminals.{kind_below}
use Rattle.cd_grammar.specs.Listed.{listed, automaton, the_grammar}
use Rattle.cd_grammar.specs.Parts.{Part}
use Rattle.cd_parser.specs.PlainSteps.{accepted}
use Rattle.cd_parser.specs.Reading.{entries, Comes, IsAccepted, IsRead}
use Rattle.cd_parser.specs.declared.reading.Reading.{Reading}
use Rattle.cd_parser.specs.declared.reading.Reading.TheVariants.{Whole, Wrong, TooDeep}
use Rattle.cd_grammar.proofs.ListedFits.{is_flat}

abbrev by_tables : machine.Automaton
by_tables = tabled.machine tables

agree : Agree the_grammar cduce_grammar automaton by_tables
unfolding listed
agree = agrees tables listed is_flat kind_of value_of is_free build kind_below refl

module _ (goal : Goal) (most : ℕ) (tokens : List Token) where
  runs : (c : Config Entry Placed) → Comes goal most tokens c
      → Reaches cduce_grammar by_tables most
      (machine.begin cduce_grammar by_tables most (entries goal tokens)) c
  runs c comes =
      same_runs the_grammar cduce_grammar automaton by_tables agree most
      (machine.begin the_grammar automaton most (entries goal tokens)) c comes

  steps : (c : Config Entry Placed) (next : machine.Next Entry Placed)
      → machine.step the_grammar automaton most c ≡ next
      → machine.step cduce_grammar by_tables most c ≡ next
  steps c next is = sym (same_step the_grammar cduce_grammar automaton by_tables agree most c) ∙ is

  -- each step makes a number smaller
  pub falls : (c d : Config Entry Placed) → Comes goal most tokens c
      → machine.step the_grammar automaton most c ≡ On d
      → left_over (state_weight tables) tables.top d < left_over (state_weight tables) tables.top c
  falls c d comes is = step_falls most (entries goal tokens) c d (runs c comes) (steps c (On d) is)

  -- where it stops at the token with a number, what was read is what the grammar says
  pub at_token : (index : ℕ) (all : List Token) → all ≡ tokens
      → map Read (drop index all) ≡ drop (suc index) (entries goal tokens)
  at_token index all same = ap (λ all. map Read (drop index all)) same ∙ sym (drop-map Read index tokens)

module _ {P : Type 0} (plain : P → Part) (goal : Goal) (most : ℕ) (tokens : List Token) where
  pub wrong : (c : Config Entry Placed) (index : ℕ) → Comes goal most tokens c
      → machine.step the_grammar automaton most c ≡ machine.Wrong → c.rest ≡ drop (suc index) (entries goal tokens)
      → IsRead plain goal most tokens (Wrong index)
  wrong c index comes is place = (
    nowhere,
    at_wrong cduce_grammar by_tables (Core tables) (Sure tables) (First tables) (ranks tables) safe full most
        (entries goal tokens) c (suc index) (runs goal most tokens c comes) (steps goal most tokens c machine.Wrong is) place,
  )

  pub too_deep : (c : Config Entry Placed) (index : ℕ) → Comes goal most tokens c
      → machine.step the_grammar automaton most c ≡ machine.TooDeep → c.rest ≡ drop (suc index) (entries goal tokens)
      → IsRead plain goal most tokens (TooDeep index)
  too_deep c index comes is place = (
    nowhere,
    at_too_deep cduce_grammar by_tables (Core tables) (Sure tables) (First tables) (ranks tables) safe full most
        (entries goal tokens) c (suc index) (runs goal most tokens c comes) (steps goal most tokens c machine.TooDeep is) place,
  )

  -- where it accepts, too
  pub all_read : (c : Config Entry Placed) (index : ℕ) (stack : List (machine.Cell Placed)) (reading : Reading P)
      → Comes goal most tokens c → machine.step the_grammar automaton most c ≡ accepted stack
      → c.rest ≡ drop (suc index) (entries goal tokens) → IsAccepted plain index stack reading
      → IsRead plain goal most tokens reading
  all_read c index stack (Whole part) comes is place (at, so) = (
    at,
    at_done cduce_grammar by_tables (Core tables) (Sure tables) (First tables) (ranks tables) safe full most
        (entries goal tokens) c (at, plain part) (runs goal most tokens c comes)
        (steps goal most tokens c (machine.Done (at, plain part)) (is ∙ so)),
  )
  all_read c index stack (Wrong other) comes is place (so, same) =
      wrong c other comes (is ∙ so) (place ∙ ap (λ n. drop (suc n) (entries goal tokens)) (sym same))
  all_read c index stack (TooDeep other) comes is place so = absurd so
