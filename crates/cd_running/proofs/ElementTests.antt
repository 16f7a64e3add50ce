-- The tests of the program's patterns are right of elements, whatever the types see and wherever they are written. With them
-- what a pattern takes is computed.
use Rattle.std.proofs.Common.{◌≡◌, Option, refl, arith}
use Rattle.std.proofs.lemmas.Int.{ints}
use Rattle.cd_syntax.specs.Name.{Name}
use Rattle.cd_syntax.specs.TypeTree as type
use Rattle.cd_syntax.specs.TypeTree.{Tree, tree, Kind}
use Rattle.cd_syntax.specs.declared.builtin.BuiltinName.TheVariants as builtin
use Rattle.cd_model.specs.Scope.{Scope}
use Rattle.cd_model.specs.Thing.{Thing, Integer, Atom, Record, NoField, Field, IsElement}
use Rattle.cd_model.specs.Written.{in_written}
use Rattle.cd_model.proofs.ApartAtWritten.{not_both}
use Rattle.cd_model.proofs.Sorts.{elements}
use Rattle.cd_matching.specs.Captures.{Captures}
use Rattle.cd_matching.specs.Pattern.{Pattern}
use Rattle.cd_matching.specs.PatternsAlike.{Alike}
use Rattle.cd_matching.specs.Take.{take}
use Rattle.cd_matching.specs.Takes.{WrittenTakes, IsRight}
use Rattle.cd_matching.specs.WrittenPattern.{in_scope, pattern_of}
use Rattle.cd_matching.proofs.TakesOnce.{takes_once}
use Rattle.cd_running.proofs.PatternTests.{Test, is_atom, is_integer, is_bare, is_any, chosen_here}

-- where a type is written makes no difference to what it holds, so one place stands for all
abbrev anywhere : Kind → Tree
anywhere kind = tree (record { from = 0; to = 0 }) kind

module _ (scope : Scope) where
  abbrev pub IsTestOf : Tree → Test → Type 0
  IsTestOf is = IsRight in_written IsElement (in_scope scope is)

  pub atom_right : (name : Name) → IsTestOf (anywhere (type.Atom name)) (is_atom name)
  atom_right name (Atom other) element = refl
  atom_right name d element = refl

  pub integer_right : IsTestOf (anywhere (type.Builtin builtin.Int)) is_integer
  integer_right (Integer n) element = grind (arith, ints)
  integer_right d element = refl

  pub any_right : IsTestOf (anywhere (type.Builtin builtin.Any)) is_any
  any_right d element = refl

  pub bare_right : IsTestOf (anywhere (type.Record type.NoField type.Closed)) is_bare
  bare_right (Record NoField) element = λ label. refl
  bare_right (Record (Field label d rest)) element = (label, chosen_here label _ refl)
  bare_right d element = refl

  -- what a pattern takes is what it takes with right tests
  pub takes_so : (written : Tree) (tested : Pattern Test)
      → Alike (IsRight in_written IsElement) (pattern_of scope written) tested → (e : Thing) → IsElement e
      → (result : Option (Captures Name)) → WrittenTakes scope written e result
      → take Test (λ test. test) tested e ≡ result
  takes_so written tested right e element result takes =
      takes_once in_written elements (λ d type. not_both type d) (pattern_of scope written) e
      (take Test (λ test. test) tested e) result element
      (record { tested = tested; right = right; gives = refl }) takes
