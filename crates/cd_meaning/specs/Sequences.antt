-- Sequences, and what is made of them.
use Rattle.std.specs.Prelude.{◌≡◌, List, [], ◌∷◌, Some}
use Rattle.cd_model.specs.AllOf.{AllOf, AnyOf}
use Rattle.cd_model.specs.Thing.{Thing, Pair, IsElement}
use Rattle.cd_matching.specs.Sequences.{items}
use Rattle.cd_meaning.specs.Sets.{Set}

-- items, and then what follows
abbrev pub followed_by : List Thing → Thing → Thing
followed_by [] rest = rest
followed_by (first ∷ ds) rest = Pair first (followed_by ds rest)

abbrev pub IsSequence : Set
IsSequence d = (ds : List Thing) × (items d ≡ Some ds)

-- a sequence whose items are all in a set
abbrev pub IsListOf : Set → Set
IsListOf set d = (ds : List Thing) × (items d ≡ Some ds) × AllOf set ds

-- an item of a sequence in a set
abbrev pub IsItemOf : Set → Set
IsItemOf set e = (d : Thing) × (ds : List Thing) × IsElement d × set d × (items d ≡ Some ds)
    × AnyOf (λ one. one ≡ e) ds

-- a sequence of the first set, followed by an element of the second
abbrev pub IsJoinOf : (first second : Set) → Set
IsJoinOf first second whole = (d e : Thing) × (ds : List Thing) × IsElement d × IsElement e
    × first d × second e × (items d ≡ Some ds) × (whole ≡ followed_by ds e)
