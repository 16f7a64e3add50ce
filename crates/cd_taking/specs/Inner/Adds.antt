-- What is added to a list.
use Rattle.std.specs.Prelude.{◌≡◌, ◌⊎◌, List, [], ◌∷◌, ◌++◌}

-- nothing but this one may stand after what was there
abbrev pub Adds : {X : Type 0} → X → (old new : List X) → Type 0
Adds one old new = (new ≡ old) ⊎ (new ≡ old ++ one ∷ [])
