-- What a record pattern takes that has a typed rest.
use Rattle.std.specs.Prelude.{◌≡◌, Bool, false, ◌||◌, Option, Some, None, bytes_eq}
use Rattle.cd_syntax.specs.Name.{Name}
use Rattle.cd_syntax.specs.TypeTree.{Fields, NoField, AField}
use Rattle.cd_model.specs.Thing as thing
use Rattle.cd_model.specs.Thing.{Thing}
use Rattle.cd_matching.specs.Captures.{Captures}
use Rattle.cd_matching.specs.Take.{at_label}

-- the fields of a tree name the label
abbrev pub have_label : Fields → Name → Bool
have_label NoField label = false
have_label (AField name at optional is rest) label = bytes_eq name label || have_label rest label

abbrev pub NothingOr : (Thing → Type 0) → Option Thing → Type 0
NothingOr IsIn None = Unit {0}
NothingOr IsIn (Some d) = IsIn d

-- at each label that the fields of a tree don't name a record has nothing, or something in a type
abbrev pub OthersAre : (Thing → Type 0) → Fields → thing.Fields → Type 0
OthersAre IsIn fields all = (label : Name) → have_label fields label ≡ false
    → NothingOr IsIn (at_label all label)

-- the same variables capture the same
abbrev pub SameCaptures : Option (Captures Name) → Option (Captures Name) → Type 0
SameCaptures (Some one) (Some other) = (name : Name) → one name ≡ other name
SameCaptures None None = Unit {0}
SameCaptures _ _ = ⊥
