-- A stack that is cut, and the labels of a form.
use Rattle.std.proofs.Common.{◌≡◌, ◌∙◌, ap, sym, refl, arith, ℕ, ◌-◌, ◌==◌, Bool, true, false, ◌||◌, List, [], ◌∷◌, ◌++◌, length, reverse, take, drop}
use Rattle.std.proofs.lemmas.List.{take-append-drop, reverse-append, reverse-reverse, length-reverse, length-drop, length-append}
use Rattle.std.proofs.Math.Seq.{drop-append_seam}
use Rattle.std.specs.List.{list_any}
use Rattle.cd_notation.specs.Open.{is_label_of}

-- what is left of a list from its end on
pub cut_view : {X : Type 0} (count : ℕ) (all : List X) → reverse (take count all) ≡ drop (length (reverse all) - count) (reverse all)
cut_view count all =
    let parts : reverse all ≡ reverse (drop count all) ++ reverse (take count all) =
    ap reverse (sym (take-append-drop count all)) ∙ reverse-append (take count all) (drop count all) in
    let long : length (reverse all) - count ≡ length (reverse (drop count all)) =
    omega (arith, length-reverse all, length-reverse (drop count all), length-drop count all) in
    sym (ap (λ (n : ℕ). drop n (reverse all)) long ∙ ap (drop (length (reverse (drop count all)))) parts
    ∙ drop-append_seam (reverse (drop count all)) (reverse (take count all)))

pub cut_both : {X : Type 0} (count : ℕ) (shown all : List X) → shown ≡ reverse all → take count shown ≡ reverse (drop (length all - count) all)
cut_both count shown all is =
    ap (take count) is ∙ sym (reverse-reverse (take count (reverse all))) ∙ ap reverse (cut_view count (reverse all) ∙ ap (λ (list : List _). drop (length list - count) list) (reverse-reverse all))

-- the upper part is taken away
pub cut_top : {X : Type 0} (count : ℕ) (top below all : List X) → all ≡ top ++ below → count ≡ length below → drop (length all - count) all ≡ below
cut_top count top below all is under =
    let long : length all - count ≡ length top = omega (arith, ap length is, length-append top below, under) in
    ap (λ (n : ℕ). drop n all) long ∙ ap (drop (length top)) is ∙ drop-append_seam top below

or_assoc : (a b c : Bool) → ((a || b) || c) ≡ (a || (b || c))
or_assoc true b c = refl
or_assoc false b c = refl

or_swap : (a b : Bool) → (a || b) ≡ (b || a)
or_swap true true = refl
or_swap true false = refl
or_swap false true = refl
or_swap false false = refl

or_none : (b : Bool) → (b || false) ≡ b
or_none true = refl
or_none false = refl

any_append : {X : Type 0} (test : X → Bool) (first second : List X) → list_any test (first ++ second) ≡ (list_any test first || list_any test second)
any_append test [] second = refl
any_append test (one ∷ first) second =
    ap (λ (b : Bool). test one || b) (any_append test first second) ∙ sym (or_assoc (test one) (list_any test first) (list_any test second))

any_reverse : {X : Type 0} (test : X → Bool) (all : List X) → list_any test (reverse all) ≡ list_any test all
any_reverse test [] = refl
any_reverse test (one ∷ all) =
    ap (list_any test) (reverse-append (one ∷ []) all) ∙ any_append test (reverse all) (one ∷ [])
    ∙ ap (λ (b : Bool). b || (test one || false)) (any_reverse test all) ∙ or_swap (list_any test all) (test one || false)
    ∙ ap (λ (b : Bool). b || list_any test all) (or_none (test one))

-- the labels of the form on the top, in their other order
pub shown_labels : (label from : ℕ) (shown all top below : List ℕ) → shown ≡ reverse all → all ≡ top ++ below → from ≡ length below
    → is_label_of label (drop from shown) ≡ is_label_of label top
shown_labels label from shown all top below is parts under =
    let view : shown ≡ reverse below ++ reverse top = is ∙ ap reverse parts ∙ reverse-append top below in
    let long : from ≡ length (reverse below) = under ∙ sym (length-reverse below) in
    ap (is_label_of label) (ap (λ (n : ℕ). drop n shown) long ∙ ap (drop (length (reverse below))) view ∙ drop-append_seam (reverse below) (reverse top))
    ∙ any_reverse (λ (other : ℕ). label == other) top
