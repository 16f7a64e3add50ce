-- Some cells, and what they stand for.
use Rattle.std.specs.Prelude.{◌≡◌, pos, List, [], ◌∷◌, codes}
use Rattle.cd_model.specs.Thing as thing
use Rattle.cd_model.specs.Thing.{Thing, Fields, NoField, Field}
use Rattle.cd_cells.specs.declared.cell.Stored.{Stored}
use Rattle.cd_cells.specs.declared.cell.Stored.TheVariants.{Pair, Xml, Short, Atom, Record}
use Rattle.cd_cells.specs.declared.cell.Stored.TheVariants.{Closure}
use Rattle.cd_cells.specs.declared.lists.Lists.{Lists}

-- the names `a` and `b`, and the fields `a=` 0, `b=` 1 and `a=` 2
pub record Beside (lists : Lists) : Type 0 where
  pub names : lists.names ≡ codes "a" ∷ codes "b" ∷ []
  pub parts : lists.parts.items ≡ record { label = 0; value = 0 } ∷ record { label = 1; value = 1 }
      ∷ record { label = 0; value = 2 } ∷ []

-- each of the later cells names earlier ones, names and fields by their numbers
abbrev pub cells : List Stored
cells = Short (pos 1) ∷ Atom 0 ∷ Pair 0 1 ∷ Record 0 2 ∷ Xml 1 3 2 ∷ Closure 7 2 1 ∷ []

abbrev pub one : Thing
one = thing.Integer (pos 1)

abbrev pub atom : Thing
atom = thing.Atom (codes "a")

abbrev pub pair : Thing
pair = thing.Pair one atom

-- `{a=1 b=`a}`
abbrev pub fields : Thing
fields = thing.Record (Field (codes "a") one (Field (codes "b") atom NoField))

abbrev pub things : List Thing
things = one ∷ atom ∷ pair ∷ fields ∷ thing.Xml atom fields pair
    ∷ thing.Closure 7 (Field (codes "a") pair NoField) ∷ []
