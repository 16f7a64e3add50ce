-- What the program's patterns take of a document and of an entry, and what they capture.
use Rattle.std.proofs.Common.{ℕ, zero, suc, ◌%◌, map, Bool, false, List, [], ◌∷◌, Option, Some, None, inl, refl}
use Rattle.std.specs.Prelude.{codes}
use Rattle.cd_syntax.specs.declared.type_tree.Post.TheVariants as post
use Rattle.cd_syntax.specs.Name.{Name}
use Rattle.cd_syntax.specs.TypeTree.{Tree}
use Rattle.cd_model.specs.Interfaces.{Interfaces, value_in_written}
use Rattle.cd_model.specs.Scope.{Scope}
use Rattle.cd_model.specs.Thing as thing
use Rattle.cd_model.specs.Thing.{Thing, Integer, Atom, NoField, Field, IsValue}
use Rattle.cd_matching.specs.Captures.{Captures}
use Rattle.cd_matching.specs.Pattern as pattern
use Rattle.cd_matching.specs.Pattern.{Pattern, regulars_of}
use Rattle.cd_matching.specs.PatternsAlike.{Alike}
use Rattle.cd_matching.specs.Sequences.{sequence_of}
use Rattle.cd_matching.specs.Take.{take}
use Rattle.cd_matching.specs.Takes.{IsRight}
use Rattle.cd_matching.specs.WrittenPattern.{pattern_of}
use Rattle.cd_grammar.specs.TreesAt.{any_at}
use Rattle.cd_evaluation.specs.Environment.{Env}
use Rattle.cd_evaluation.specs.ProgramCode.{answer_of, TakesAs}
use Rattle.cd_running.specs.Workload.{numbers}
use Rattle.cd_running.specs.Inner.WorkProgram.{log_pattern, entry_pattern}
use Rattle.cd_running.specs.Inner.WorkValues.{integer, entry, entries, document}
use Rattle.cd_running.proofs.ValueTests.{atom_right, bare_right, integer_right, any_right}
use Rattle.cd_running.proofs.PatternTests.{is_atom, is_bare, is_integer, is_any}

abbrev Test : Type 0
Test = Thing → Bool

-- the patterns, with tests in the place of their types
abbrev log_tested : Pattern Test
log_tested = pattern.Xml (pattern.OfType (is_atom (codes "log"))) (pattern.OfType is_bare) (pattern.Bind (codes "c"))

abbrev entry_tested : Pattern Test
entry_tested = pattern.Xml (pattern.OfType (is_atom (codes "e")))
    (pattern.Record (pattern.Present (codes "n") (pattern.Bind (codes "k")) pattern.NoField) false)
    (pattern.Sequence (pattern.Seq (regulars_of
    (pattern.Capture (codes "x") (pattern.Item (pattern.OfType is_integer))
    ∷ pattern.Repeat (pattern.Item (pattern.OfType is_any)) post.Star ∷ []))))

abbrev tested_take : Pattern Test → Thing → Option (Captures Name)
tested_take p v = take Test (λ test. test) p v

-- the entry of a number that holds these numbers, and what is captured there
abbrev entry_with : (number : ℕ) → List ℕ → Thing
entry_with number held = thing.Xml (Atom (codes "e")) (thing.Record (Field (codes "n") (integer number) NoField))
    (sequence_of (map integer held))

abbrev pub answer_at : (number : ℕ) → List ℕ → Option Env
answer_at number [] = None
answer_at number (first ∷ rest) =
    Some (Field (codes "k") (integer number) (Field (codes "x") (sequence_of (integer first ∷ [])) NoField))

-- the tests are right, and a pattern with its tests takes what it takes
module _ (interfaces : Interfaces) (scope : Scope) where
  abbrev Right : (pattern : Tree) → Pattern Test → Type 0
  Right written tested = Alike (IsRight (value_in_written interfaces) IsValue) (pattern_of scope written) tested

  log_right : Right log_pattern log_tested
  log_right = (atom_right interfaces scope 0 0 (codes "log"), bare_right interfaces scope 0, refl)

  entry_right : Right entry_pattern entry_tested
  entry_right = (
    atom_right interfaces scope 0 0 (codes "e"),
    ((refl, refl, tt), refl),
    ((refl, integer_right interfaces scope 0), ((any_right interfaces scope 0, refl), tt)),
  )

  -- the answer with right tests is that of the pattern
  by_tests : (pattern : Tree) (tested : Pattern Test) → Right pattern tested → (v : Thing) → IsValue v
      → TakesAs interfaces scope pattern v (answer_of pattern (tested_take tested v))
  by_tests pattern tested right v is =
      inl (is, tested_take tested v, record { tested = tested; right = right; gives = refl }, refl)

  -- `_` takes all values
  pub any_taken : (from : ℕ) (v : Thing) → IsValue v → TakesAs interfaces scope (any_at from) v (Some NoField)
  any_taken from v is = by_tests (any_at from) (pattern.OfType is_any) (any_right interfaces scope from) v is

  -- `<log>c` takes a document, and `c` is its content
  pub document_taken : (size : ℕ) → IsValue (document size)
      → TakesAs interfaces scope log_pattern (document size) (Some (Field (codes "c") (sequence_of (entries zero size)) NoField))
  document_taken size is = by_tests log_pattern log_tested log_right (document size) is

  -- an entry with a number in it is taken, and `x` is the sequence of its first number
  pub entry_taken : (number : ℕ) → IsValue (entry number)
      → TakesAs interfaces scope entry_pattern (entry number) (answer_at number (numbers (number % 3) number))
  entry_taken number is = by_numbers (number % 3) is
    where
      by_numbers : (left : ℕ) → IsValue (entry_with number (numbers left number))
          → TakesAs interfaces scope entry_pattern (entry_with number (numbers left number)) (answer_at number (numbers left number))
      by_numbers zero is = by_tests entry_pattern entry_tested entry_right (entry_with number []) is
      by_numbers (suc zero) is = by_tests entry_pattern entry_tested entry_right (entry_with number (number ∷ [])) is
      by_numbers (suc (suc left)) is =
          by_tests entry_pattern entry_tested entry_right (entry_with number (number ∷ suc number ∷ [])) is
