-- The tests of the program's patterns are right of all values.
use Rattle.std.proofs.Common.{◌≡◌, ℤ, ℕ, true, false, ◌||◌, refl, ap, arith}
use Rattle.std.proofs.lemmas.Int.{ints}
use Rattle.cd_sets.specs.Interval.{is_between}
use Rattle.cd_syntax.specs.Integer.{LEAST, GREATEST, IsInteger}
use Rattle.cd_syntax.specs.Name.{Name}
use Rattle.cd_syntax.specs.TypeTree as type
use Rattle.cd_model.specs.Interfaces.{Interfaces, value_in_written}
use Rattle.cd_model.specs.Scope.{Scope}
use Rattle.cd_model.specs.Thing.{Integer, Atom, Record, NoField, Field, IsValue}
use Rattle.cd_matching.specs.Takes.{IsRight}
use Rattle.cd_matching.specs.WrittenPattern.{in_scope}
use Rattle.cd_grammar.specs.TreesAt.{tree_from, ints_at, any_at, no_attributes_at}
use Rattle.cd_running.proofs.PatternTests.{is_atom, is_integer, is_bare, is_any, chosen_here}

-- an integer of 128 bits is between the bounds
pub integer_between : (n : ℤ) → IsInteger n → is_between LEAST GREATEST n ≡ true
integer_between n is = grind (arith, ints)

-- the tests are right of all values; of a type's place nothing depends
module _ (interfaces : Interfaces) (scope : Scope) where
  pub atom_right : (from to : ℕ) (name : Name)
      → IsRight (value_in_written interfaces) IsValue (in_scope scope (tree_from from to (type.Atom name))) (is_atom name)
  atom_right from to name (Atom other) is = refl
  atom_right from to name _ is = refl

  pub any_right : (from : ℕ) → IsRight (value_in_written interfaces) IsValue (in_scope scope (any_at from)) is_any
  any_right from d is = refl

  pub bare_right : (from : ℕ) → IsRight (value_in_written interfaces) IsValue (in_scope scope (no_attributes_at from)) is_bare
  bare_right from (Record NoField) is = λ label. refl
  bare_right from (Record (Field label v rest)) is = (label, chosen_here label _ refl)
  bare_right from _ is = refl

  pub integer_right : (from : ℕ) → IsRight (value_in_written interfaces) IsValue (in_scope scope (ints_at from)) is_integer
  integer_right from (Integer n) is = ap (λ b. b || false) (integer_between n is)
  integer_right from _ is = refl
