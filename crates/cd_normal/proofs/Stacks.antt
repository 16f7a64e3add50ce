-- Stacks, whose top is the last of a list, as lists from the top on.
use Rattle.std.proofs.Common.{◌≡◌, ℕ, ◌+◌, ◌-◌, ◌<◌, ◌≤◌, List, [], ◌∷◌, ◌++◌, map, reverse, length, get_or, set, take, drop, refl, sym, ap, ap₂, ◌∙◌, arith}
use Rattle.std.proofs.lemmas.List.{map-append, reverse-append, map-set, set-get_or, take_more, take_all}
use mathlib.Core.List.{reverse-cons}
use Rattle.cd_normal.proofs.Lists.{from_item_or}

module _ {X Y : Type 0} (f : X → Y) where
  -- one more is on the top
  pub top_put : (items : List X) (item : X) → map f (reverse (items ++ item ∷ [])) ≡ f item ∷ map f (reverse items)
  top_put items item = ap (map f) (reverse-append items (item ∷ []))

  map_reverse : (items : List X) → map f (reverse items) ≡ reverse (map f items)
  map_reverse [] = refl
  map_reverse (item ∷ items) =
      ap (map f) (reverse-cons item items) ∙ map-append f (reverse items) (item ∷ [])
      ∙ ap (λ rest. rest ++ f item ∷ []) (map_reverse items) ∙ sym (reverse-cons (f item) (map f items))

  -- the last item is the top
  pub top_is : (items : List X) (item : X) → 0 < length items → item ≡ get_or items (length items - 1) item
      → map f (reverse items) ≡ f item ∷ map f (reverse (take (length items - 1) items))
  top_is items item some is =
      ap (λ all. map f (reverse all)) (sym (take_all (length items) items (omega arith))
      ∙ ap (λ most. take most items) place ∙ take_more items (length items - 1) item (omega arith)
      ∙ ap (λ last. take (length items - 1) items ++ last ∷ []) (sym is))
      ∙ top_put (take (length items - 1) items) item
    where
      place : length items ≡ length items - 1 + 1
      place = omega arith

  -- another item of the same meaning in the place of one changes nothing
  pub same_put : (items : List X) (index : ℕ) (item other : X) → item ≡ get_or items index item → f other ≡ f item
      → map f (reverse (set items index other)) ≡ map f (reverse items)
  same_put items index item other is same =
      map_reverse (set items index other) ∙ ap reverse (map-set f items index other
      ∙ ap (set (map f items) index) same ∙ sym (map-set f items index item)
      ∙ ap (map f) (ap (set items index) is ∙ set-get_or items index item)) ∙ sym (map_reverse items)

-- what is made of one more thing, from the last one on, is put on what is made of those after it
pub next_put : {X Y L : Type 0} (made : X → Y) (f : L → Y) (things : List X) (index : ℕ) (other : X) → 0 < index
    → index ≤ length things → (items all : List L) (item : L) → all ≡ items ++ item ∷ []
    → f item ≡ made (get_or things (index - 1) other) → (rest : List Y)
    → map f (reverse items) ≡ map made (drop index things) ++ rest
    → map f (reverse all) ≡ map made (drop (index - 1) things) ++ rest
next_put made f things index other some most items all item is same rest so_far =
    ap (λ all. map f (reverse all)) is ∙ top_put f items item
    ∙ ap₂ (λ one more. one ∷ more) same so_far
    ∙ sym (ap (λ left. map made left ++ rest) (from_item_or things index other some most))
