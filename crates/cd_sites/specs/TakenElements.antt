-- Which elements of a set a written pattern takes.
use Rattle.std.specs.Prelude.{[], None}
use Rattle.cd_syntax.specs.Name.{Name}
use Rattle.cd_syntax.specs.TypeTree.{Tree}
use Rattle.cd_model.specs.Scope.{Scope}
use Rattle.cd_model.specs.Thing.{Thing, IsElement}
use Rattle.cd_matching.specs.Captures.{Captures}
use Rattle.cd_matching.specs.Takes.{WrittenTakes}
use Rattle.cd_meaning.specs.Sets.{Set}
use Rattle.cd_typing.specs.Branches.{IsFirst}

module _ (scope : Scope) (written : Tree) where
  -- it takes this element of the set
  abbrev pub IsTakenFrom : Set → Thing → Type 0
  IsTakenFrom matched e = (captures : Captures Name) × IsFirst scope [] written matched e captures

  -- it takes no element of the set
  abbrev pub TakesNone : Set → Type 0
  TakesNone matched = (e : Thing) → IsElement e → matched e → WrittenTakes scope written e None

  -- the elements of the set that it does not take
  abbrev pub left_of : Set → Set
  left_of matched e = matched e × WrittenTakes scope written e None
