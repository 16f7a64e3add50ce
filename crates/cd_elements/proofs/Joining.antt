-- Texts in a row, and lists from their end.
use Rattle.std.proofs.Common.{◌≡◌, ℕ, ◌+◌, ◌-◌, ◌<◌, ◌≤◌, List, [], ◌∷◌, ◌++◌, length, get_or, drop, refl, ap, ◌∙◌, arith}
use Rattle.std.proofs.lemmas.List.{drop_more}
use Rattle.std.specs.List.{join_by}

-- with nothing between
pub join_first : {X : Type 0} (text : X → List ℕ) (one : X) (rest : List X)
    → join_by text [] (one ∷ rest) ≡ text one ++ join_by text [] rest
join_first text one [] = refl
join_first text one (next ∷ rest) = refl

-- a list from one index before
pub drop_before : {X : Type 0} (items : List X) (index : ℕ) (default : X) → 0 < index → index ≤ length items
    → drop (index - 1) items ≡ get_or items (index - 1) default ∷ drop index items
drop_before items index default some within =
    let next : index - 1 + 1 ≡ index = omega arith in
    drop_more items (index - 1) default (omega arith) ∙ ap (λ at. get_or items (index - 1) default ∷ drop at items) next
