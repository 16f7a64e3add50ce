-- What is left of a list within a loop over it.
use Rattle.std.proofs.Common.{◌≡◌, ◌∙◌, ◌<◌, ◌≤◌, ◌+◌, ℕ, List, ◌∷◌, ap, sym, subst, length, drop, get_or}
use Rattle.std.proofs.lemmas.List.{drop_more, drop_all}
use Rattle.cd_model.specs.AllOf.{AllOf}

pub left_is : {X : Type 0} (items : List X) (index : ℕ) (item : X) → item ≡ get_or items index item → index < length items
    → drop index items ≡ item ∷ drop (index + 1) items
left_is items index item is within = drop_more items index item within ∙ ap (λ first. first ∷ drop (index + 1) items) (sym is)

-- all have a fact, where those do that are left
pub none_left_have : {X : Type 0} (Is : X → Type 0) (items : List X) (index : ℕ) → length items ≤ index
    → (AllOf Is (drop index items) → AllOf Is items) → AllOf Is items
none_left_have Is items index past before = before (subst (AllOf Is) (sym (drop_all index items past)) tt)
