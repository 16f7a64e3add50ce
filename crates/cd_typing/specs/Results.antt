-- What forms make of elements of the types of their operands.
use Rattle.std.specs.Prelude.{◌≡◌, ◌++◌, List, [], ◌∷◌, map, Option, Some, None, bytes_eq}
use Rattle.std.specs.Prelude.{if◌then◌else◌}
use Rattle.cd_syntax.specs.Name.{Name}
use Rattle.cd_model.specs.Thing.{Thing, Character, Pair, Xml, Record}
use Rattle.cd_model.specs.Thing.{Fields as ThingFields}
use Rattle.cd_rules.specs.InRow.{thing_at}
use Rattle.cd_matching.specs.Sequences.{items, sequence_of}
use Rattle.cd_program.specs.Expr.{Items, NoItem, AnItem, One, Splice, Run, Fields, AField}
use Rattle.cd_meaning.specs.Sets.{Set}
use Rattle.cd_typing.specs.Typ.{Typ, AreIn}

-- a tuple is grouped to the right
abbrev pub tuple_after : Thing → List Thing → Thing
tuple_after first [] = first
tuple_after first (d ∷ ds) = Pair first (tuple_after d ds)

abbrev pub IsTupleOf : List Typ → Set
IsTupleOf types e = (first : Thing) × (ds : List Thing) × AreIn types (first ∷ ds)
    × (e ≡ tuple_after first ds)

-- the items that are written, where these are what the operands give
abbrev pub Make : Items → (operands made : List Thing) → Type 0
Make NoItem [] made = made ≡ []
Make (AnItem (One e) rest) (d ∷ ds) made = (others : List Thing) × Make rest ds others
    × (made ≡ d ∷ others)
Make (AnItem (Splice e) rest) (d ∷ ds) made = (own : List Thing) × (others : List Thing)
    × (items d ≡ Some own) × Make rest ds others × (made ≡ own ++ others)
Make (AnItem (Run characters) rest) ds made = (others : List Thing) × Make rest ds others
    × (made ≡ map Character characters ++ others)
Make all ds made = ⊥

abbrev pub IsSequenceOf : Items → List Typ → Set
IsSequenceOf all types e = (ds : List Thing) × (made : List Thing) × AreIn types ds
    × Make all ds made × (e ≡ sequence_of made)

-- what is written at a label
abbrev pub written_at : Fields → List Thing → Name → Option Thing
written_at (AField label at e rest) (d ∷ ds) name =
    if bytes_eq label name then Some d else written_at rest ds name
written_at fields ds name = None

abbrev pub IsRecordOf : Fields → List Typ → Set
IsRecordOf fields types e = (ds : List Thing) × (made : ThingFields) × AreIn types ds
    × ((label : Name) → thing_at made label ≡ written_at fields ds label) × (e ≡ Record made)

abbrev pub IsXmlOf : (tag attributes content : Set) → Set
IsXmlOf tag attributes content e = (one : Thing) × (other : Thing) × (last : Thing)
    × tag one × attributes other × content last × (e ≡ Xml one other last)
