-- Records, and what is made of them. A record is known by what it has at each label.
use Rattle.std.specs.Prelude.{◌≡◌, Option, Some, None, bytes_eq, if◌then◌else◌}
use Rattle.cd_syntax.specs.Name.{Name, IsLabel}
use Rattle.cd_model.specs.Thing.{Thing, Record, Fields, IsElement}
use Rattle.cd_rules.specs.InRow.{thing_at}
use Rattle.cd_meaning.specs.Sets.{Set}

abbrev pub HasRecord : Set → Fields → Type 0
HasRecord set fields = IsElement (Record fields) × set (Record fields)

-- what a record of the set has at a label
abbrev pub IsFieldOf : Name → Set → Set
IsFieldOf label set e = (fields : Fields) × HasRecord set fields × (thing_at fields label ≡ Some e)

-- a record that has something at a label
abbrev pub HasFieldAt : Name → Set
HasFieldAt label e = (fields : Fields) × (what : Thing) × (e ≡ Record fields)
    × (thing_at fields label ≡ Some what)

-- the other record has the same fields but at the label, where it has nothing
abbrev pub IsWithout : Name → (fields others : Fields) → Type 0
IsWithout label fields others = (name : Name)
    → thing_at others name ≡ (if bytes_eq label name then None else thing_at fields name)

-- a record of the set without its field at a label
abbrev pub IsRestOf : Name → Set → Set
IsRestOf label set d = (fields others : Fields) × (d ≡ Record others) × HasRecord set fields
    × IsWithout label fields others

-- what the second has at a label, or else the first
abbrev pub merged_at : (first second : Option Thing) → Option Thing
merged_at first (Some d) = Some d
merged_at first None = first

-- Records of the two sets, merged, have this at a label
abbrev pub IsMergedAt : (first second : Set) → Name → Option Thing → Type 0
IsMergedAt first second label what = (fields others : Fields)
    × HasRecord first fields × HasRecord second others
    × (merged_at (thing_at fields label) (thing_at others label) ≡ what)

-- A record that is at each label like some merged record. What records of the sets have at one
-- label may depend on what they have at another one; this is lost, since the exact set need not be
-- a type
abbrev pub IsMergeOf : (first second : Set) → Set
IsMergeOf first second d = (fields : Fields) × (d ≡ Record fields)
    × ((label : Name) → IsLabel label → IsMergedAt first second label (thing_at fields label))
