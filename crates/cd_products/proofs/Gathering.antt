-- A loop that puts after a list what it makes of each thing in another list.
use Rattle.std.proofs.Common.{◌≡◌, ◌<◌, ◌+◌, ℕ, List, ◌∷◌, ◌++◌, drop, get_or, length, sym, ap, ◌∙◌}
use Rattle.std.proofs.Common.{◌≤◌, [], append_assoc}
use Rattle.std.proofs.lemmas.List.{append-nil, at_drop_more, at_drop_all}

-- what is made of one thing, and of several
module _ {X Y : Type 0} (one : X → List Y) (all : List X → List Y)
    (apart : (x : X) (xs : List X) → one x ++ all xs ≡ all (x ∷ xs)) where
  pub gathered : (xs : List X) (i : ℕ) (x : X) (old new : List Y) → i < length xs
      → x ≡ get_or xs i x → new ≡ old ++ one x
      → new ++ all (drop (i + 1) xs) ≡ old ++ all (drop i xs)
  gathered xs i x old new below is made =
      ap (λ ys. ys ++ all (drop (i + 1) xs)) made
      ∙ append_assoc old (one x) (all (drop (i + 1) xs))
      ∙ ap (λ ys. old ++ ys) (apart x (drop (i + 1) xs)
      ∙ ap (λ y. all (y ∷ drop (i + 1) xs)) is ∙ sym (at_drop_more all xs i x below))

-- at the end all is made
pub gathered_all : {X Y : Type 0} (all : List X → List Y) (xs : List X) (i : ℕ)
    (made whole : List Y) → all [] ≡ [] → length xs ≤ i → made ++ all (drop i xs) ≡ whole
    → made ≡ whole
gathered_all all xs i made whole none past is =
    sym (append-nil made)
    ∙ ap (λ ys. made ++ ys) (sym none ∙ sym (at_drop_all all xs i past)) ∙ is
