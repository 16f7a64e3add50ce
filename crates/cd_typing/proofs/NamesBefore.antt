-- The type of a name is that of the first list that has one for it.
use Rattle.std.proofs.Common.{◌≡◌, Bool, true, false, [], ◌∷◌, ◌++◌, Some, if◌then◌else◌, refl, bytes_eq}
use Rattle.cd_syntax.specs.Name.{Name}
use Rattle.cd_matching.specs.Captures.{or_else}
use Rattle.cd_typing.specs.Typ.{Types, type_at}

pub type_before : (own types : Types) (name : Name) → type_at (own ++ types) name ≡ or_else (type_at own name) (type_at types name)
type_before [] types name = refl
type_before (one ∷ own) types name = by_test (bytes_eq one.0 name) (type_before own types name)
  where
    by_test : (c : Bool) → type_at (own ++ types) name ≡ or_else (type_at own name) (type_at types name)
        → (if c then Some one.1 else type_at (own ++ types) name) ≡ or_else (if c then Some one.1 else type_at own name) (type_at types name)
    by_test true later = refl
    by_test false later = later
