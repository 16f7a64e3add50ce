-- The automaton of the tables fits the grammar, so it answers of entries what the grammar says of them.
use Rattle.std.specs.Prelude.{◌≡◌, ◌<◌, ℕ, List}
use Rattle.cd_lr.specs.Grammar.{Whole}
use Rattle.cd_lr.specs.Automaton.{Config, On, step, begin, Reaches}
use Rattle.cd_lr.specs.Valid.{IsSafe, IsComplete}
use Rattle.cd_lr.specs.Weights.{left_over}
use Rattle.cd_lr.specs.Tables.{machine}
use Rattle.cd_lr.specs.Validator.{state_weight, weight_of}
use Rattle.cd_lr.specs.TableGrammar.{Core, Sure, First, ranks}
use Rattle.cd_lr.proofs.Safe.{is_safe}
use Rattle.cd_lr.proofs.Full.{is_complete}
use Rattle.cd_lr.proofs.Weighs.{weighs, light, falls}
use Rattle.cd_lr.proofs.Ends.{ends}
use Rattle.cd_lr.proofs.Unique.{one_value_at_all}
use Rattle.cd_grammar.specs.Tables.{tables}
use Rattle.cd_grammar.specs.Language.{Entry, Placed, kind_of, value_of, is_free, build, cduce_grammar}
use Rattle.cd_grammar.proofs.Fits.{rules_do, rows_safe, rows_full, weights_do}
use Rattle.cd_grammar.proofs.Terminals.{not_end, some}

-- the tables fit, since they pass the validator
pub safe : IsSafe cduce_grammar (machine tables) (Core tables) (ranks tables)
safe = is_safe tables rules_do rows_safe rows_full kind_of value_of is_free build not_end some

pub full : IsComplete cduce_grammar (machine tables) (Sure tables) (First tables)
full = is_complete tables rules_do rows_safe rows_full kind_of value_of is_free build

-- entries write one part at most, however deep
pub one_part : (a b : ℕ) (entries : List Entry) (v w : Placed) → Whole cduce_grammar a entries v
    → Whole cduce_grammar b entries w → v ≡ w
one_part = one_value_at_all cduce_grammar (machine tables) (Sure tables) (First tables) full

-- each step makes the measure of a configuration smaller
pub step_falls : (most : ℕ) (entries : List Entry) (c d : Config Entry Placed)
    → Reaches cduce_grammar (machine tables) most (begin cduce_grammar (machine tables) most entries) c
    → step cduce_grammar (machine tables) most c ≡ On d
    → left_over (state_weight tables) tables.top d < left_over (state_weight tables) tables.top c
step_falls most entries c d =
    ends cduce_grammar (machine tables) (Core tables) (ranks tables) safe most (weight_of tables) (state_weight tables)
    tables.top (weighs tables rules_do rows_safe rows_full weights_do)
    (light tables rules_do rows_safe rows_full weights_do)
    (falls tables rules_do rows_safe rows_full weights_do) entries c d
