-- A function of what is left of a list, where the next item is known.
use Rattle.std.proofs.Common.{◌≡◌, ℕ, ◌+◌, ◌<◌, List, ◌∷◌, length, get_or, drop, ap, sym, ◌∙◌}
use Rattle.std.proofs.lemmas.List.{at_drop_more}

pub at_item : {X Y : Type 0} (F : List X → Y) (items : List X) (index : ℕ) (item : X)
    → item ≡ get_or items index item → index < length items
    → F (drop index items) ≡ F (item ∷ drop (index + 1) items)
at_item F items index item is more = at_drop_more F items index item more
    ∙ ap (λ next. F (next ∷ drop (index + 1) items)) (sym is)
