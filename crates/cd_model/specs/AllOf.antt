-- A fact of each of the things in a list, and of one of them.
use Rattle.std.specs.Prelude.{List, [], ◌∷◌, ◌⊎◌}

abbrev pub AllOf : {X : Type 0} → (X → Type 0) → List X → Type 0
AllOf fact [] = Unit {0}
AllOf fact (one ∷ rest) = fact one × AllOf fact rest

abbrev pub AnyOf : {X : Type 0} → (X → Type 0) → List X → Type 0
AnyOf fact [] = ⊥
AnyOf fact (one ∷ rest) = fact one ⊎ AnyOf fact rest
