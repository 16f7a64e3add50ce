-- Lists that stand from the last to the first.
use Rattle.std.proofs.Common.{◌≡◌, ◌∙◌, ap, List, [], ◌∷◌, ◌++◌, map, reverse}
use Rattle.std.proofs.lemmas.List.{map_push, reverse-append}

-- one that is put last stands first
pub pushed : {A B : Type 0} (f : A → B) (all : List A) (one : A)
    → reverse (map f (all ++ one ∷ [])) ≡ f one ∷ reverse (map f all)
pushed f all one = ap reverse (map_push f all one) ∙ reverse-append (map f all) (f one ∷ [])
