-- The first places of names.
use Rattle.std.specs.Prelude.{◌≡◌, ℕ, ◌+◌, List, [], ◌∷◌, Option, Some, None, bytes_eq}
use Rattle.std.specs.Prelude.{if◌then◌else◌}
use Rattle.std.specs.Option.{option_map, option_or}
use Rattle.indexmap.specs.IndexMap.{IndexMap, get_by}
use Rattle.cd_syntax.specs.Name.{Name}
use Rattle.cd_resolve.specs.declared.key.Key.{Key}

-- the first place of a name in a list, counted from zero
abbrev pub first_place : List Name → Name → Option ℕ
first_place [] name = None
first_place (other ∷ names) name =
    if bytes_eq other name then Some 0 else option_map (λ place. place + 1) (first_place names name)

-- the place that a map gives a name
abbrev pub place_of : {S : Type 0} → IndexMap Key ℕ S → Name → Option ℕ
place_of places name = get_by (λ key. bytes_eq name key.name.now) places

-- the map gives each name its first place in the list
abbrev pub AreFirstPlaces : {S : Type 0} → List Name → IndexMap Key ℕ S → Type 0
AreFirstPlaces names places = (key : Key)
    → place_of places key.name.now ≡ first_place names key.name.now

-- a name has this place if it had none, and the others have theirs
abbrev pub Enters : {S : Type 0} → Name → ℕ → IndexMap Key ℕ S → IndexMap Key ℕ S → Type 0
Enters name place old new = (key : Key)
    → place_of new key.name.now
    ≡ option_or (place_of old key.name.now)
    (if bytes_eq name key.name.now then Some place else None)
