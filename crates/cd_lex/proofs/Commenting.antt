-- The machine finds exactly the prefix that closes a comment.
use Rattle.std.proofs.Common.{◌≡◌, ℕ, zero, suc, ◌≤◌, false, List, [], ◌∷◌, ◌++◌, Option, Some, None, refl, sym, ap, subst, ◌∙◌, inl, inr, ◌⊎◌, arith, length, take, drop}
use Rattle.std.specs.Prelude.{◌==◌, ◌&&◌, if◌then◌else◌, MatchOption}
use Rattle.std.specs.Option.{option_map, option_map_or}
use Rattle.std.proofs.lemmas.Bool.{cond-true, cond-false, ne_eqb, cases_eq, eq-eqb}
use Rattle.std.proofs.lemmas.List.{take-append-drop}
use Rattle.cd_syntax.specs.Comments.{Closes, begins_pair}
use Rattle.cd_syntax.specs.Comments.Closes.{last, close, another, character}
use Rattle.cd_lex.specs.declared.comment.Before.{Before}
use Rattle.cd_lex.specs.declared.comment.Before.TheVariants.{Nothing, Parenthesis, Star}
use Rattle.cd_lex.specs.declared.comment.CommentState.{CommentState}
use Rattle.cd_lex.specs.Inner.Commenting.{begins, within, after, step, step_of, length_from, left_from}

-- a state within a comment
abbrev at : ℕ → Before → CommentState
at around before = record { around = around; before = before }

-- the character that stands before a state and may begin a pair
abbrev pending : Before → List ℕ
pending Nothing = []
pending Parenthesis = 40 ∷ []
pending Star = 42 ∷ []

-- a test that fails, and one that holds
other : {A : Type 0} (c k : ℕ) (a b : A) → (c ≡ k → ⊥) → (if c == k then a else b) ≡ b
other c k a b differs = cond-false (c == k) a b (ne_eqb c k differs)

this : {A : Type 0} (c k : ℕ) (a b : A) → c ≡ k → (if c == k then a else b) ≡ a
this c k a b is = cond-true (c == k) a b (eq-eqb c k is)

-- how a character begins
data Begun (c : ℕ) : Before → Type 0 where
  parenthesis : c ≡ 40 → Begun c Parenthesis
  star : c ≡ 42 → Begun c Star
  neither : (c ≡ 40 → ⊥) → (c ≡ 42 → ⊥) → Begun c Nothing

begun : (c : ℕ) → Begun c (begins c)
begun c = by_cases (cases_eq c 40) (cases_eq c 42)
  where
    by_cases : ((c ≡ 40) ⊎ (c ≡ 40 → ⊥)) → ((c ≡ 42) ⊎ (c ≡ 42 → ⊥)) → Begun c (begins c)
    by_cases (inl is) star_or = subst (Begun c) (sym (this c 40 _ _ is)) (parenthesis is)
    by_cases (inr differs) (inl is) = subst (Begun c) (sym (other c 40 _ _ differs ∙ this c 42 _ _ is)) (star is)
    by_cases (inr differs) (inr also) = subst (Begun c) (sym (other c 40 _ _ differs ∙ other c 42 _ _ also)) (neither differs also)

-- how many characters close the comment after one step
abbrev pub length_after : List ℕ → Option CommentState → Option ℕ
length_after text next = option_map suc (option_map_or (λ next. length_from next text) next (Some 0))

-- where a character begins no pair with the text after it, the machine reads as from a state with nothing before it
unpaired : (around c : ℕ) (text : List ℕ) → begins_pair 40 42 (c ∷ text) ≡ false → begins_pair 42 41 (c ∷ text) ≡ false
    → length_from (after around c) text ≡ length_from (within around) text
unpaired around c [] no_open no_close = refl
unpaired around c (d ∷ ds) no_open no_close = by_begun (begins c) (begun c)
  where
    by_begun : (before : Before) → Begun c before → length_from (at around before) (d ∷ ds) ≡ length_from (within around) (d ∷ ds)
    by_begun Parenthesis (parenthesis is) =
        let differs : (d == 42) ≡ false = rw is at no_open in
        ap (length_after ds) (cond-false (d == 42) _ _ differs)
    by_begun Star (star is) =
        let differs : (d == 41) ≡ false = rw is at no_close in
        ap (length_after ds) (cond-false (d == 41) _ _ differs)
    by_begun Nothing (neither one two) = refl

-- one character more than the rest takes
more : (rest : Option ℕ) (n : ℕ) → rest ≡ Some n → option_map suc rest ≡ Some (suc n)
more rest n is = ap (option_map suc) is

-- a `*)` that closes a comment within another
closes_inner : (around : ℕ) → step (suc around) Star 41 ≡ Some (within around)
closes_inner around = other (suc around) 0 _ _ (λ e. omega arith) ∙ ap (λ n. Some (within n)) (omega arith)

-- no comment closes with no character
closed_by_some : (depth : ℕ) (text : List ℕ) → Closes depth text → 1 ≤ length text
closed_by_some _ _ last = omega arith
closed_by_some _ _ (close _ _ _) = omega arith
closed_by_some _ _ (another _ _ _) = omega arith
closed_by_some _ _ (character _ _ _ _ _ _) = omega arith

-- the machine finds what closes a comment, whatever follows
pub finds : (around : ℕ) (written rest : List ℕ) → Closes (suc around) written → length_from (within around) (written ++ rest) ≡ Some (length written)
finds _ _ rest last = refl
finds _ _ rest (close around written closes) =
    more _ _ (ap (length_after (written ++ rest)) (closes_inner around) ∙ more _ _ (finds around written rest closes))
finds around _ rest (another _ written closes) = more _ _ (more _ _ (finds (suc around) written rest closes))
finds around _ rest (character _ c written no_open no_close closes) = on written no_open no_close closes (finds around written rest closes)
  where
    on : (written : List ℕ) → begins_pair 40 42 (c ∷ written) ≡ false → begins_pair 42 41 (c ∷ written) ≡ false → Closes (suc around) written
        → length_from (within around) (written ++ rest) ≡ Some (length written)
        → length_from (within around) (c ∷ written ++ rest) ≡ Some (suc (length written))
    on [] no_open no_close closes found = let some = closed_by_some _ _ closes in absurd (omega arith)
    on (d ∷ ds) no_open no_close closes found = more _ _ (unpaired around c (d ∷ ds ++ rest) no_open no_close ∙ found)

-- what stands so far, and the prefix of the text, close the comments
record IsClosing (around : ℕ) (before : Before) (text : List ℕ) (n : ℕ) : Type 0 where
  fits : n ≤ length text
  closes : Closes (suc around) (pending before ++ take n text)

-- what the rest takes, where it and one character more take so many
from_one : (rest : Option ℕ) (n : ℕ) → option_map suc rest ≡ Some n → (m : ℕ) × (rest ≡ Some m) × (n ≡ suc m)
from_one None n is = absurd cc
from_one (Some m) n is = (m, refl, cc)

-- a character stands before a text that closes the comments with what the character may begin
joined : (around c : ℕ) (before : Before) (text : List ℕ) → Begun c before → Closes (suc around) (pending before ++ text) → Closes (suc around) (c ∷ text)
joined around c Parenthesis text (parenthesis is) closes = subst (λ c. Closes (suc around) (c ∷ text)) (sym is) closes
joined around c Star text (star is) closes = subst (λ c. Closes (suc around) (c ∷ text)) (sym is) closes
joined around c Nothing text (neither open_differs star_differs) closes = character (suc around) c text (first text 40 42 open_differs) (first text 42 41 star_differs) closes
  where
    first : (text : List ℕ) (a b : ℕ) → (c ≡ a → ⊥) → begins_pair a b (c ∷ text) ≡ false
    first [] a b differs = refl
    first (d ∷ ds) a b differs = ap (λ x. x && (d == b)) (ne_eqb c a differs)

-- the rules of one character, where what is found after it closes the comments
module _ (c : ℕ) (text : List ℕ) (on : (around : ℕ) (before : Before) (n : ℕ) → length_from (at around before) text ≡ Some n → IsClosing around before text n) where
  -- a character that ends no pair
  alone : (around n : ℕ) → option_map suc (length_from (after around c) text) ≡ Some n → IsClosing around Nothing (c ∷ text) n
  alone around n found =
      let one = from_one _ n found in
      let rest = on around (begins c) one.0 one.1 in
      rw one.2 (record { fits = omega arith; closes = joined around c (begins c) (take one.0 text) (begun c) rest.closes })

  -- the same after a character that may begin a pair, and does not
  after_first : (around a n : ℕ) → begins_pair 40 42 (a ∷ c ∷ []) ≡ false → begins_pair 42 41 (a ∷ c ∷ []) ≡ false
      → IsClosing around Nothing (c ∷ text) n → Closes (suc around) (a ∷ take n (c ∷ text))
  after_first around a zero no_open no_close is = let some = closed_by_some _ _ is.closes in absurd (omega arith)
  after_first around a (suc n) no_open no_close is = character (suc around) a (c ∷ take n text) no_open no_close is.closes

  -- after a `(`
  after_parenthesis : (around n : ℕ) → length_from (at around Parenthesis) (c ∷ text) ≡ Some n → IsClosing around Parenthesis (c ∷ text) n
  after_parenthesis around n found = elim (cases_eq c 42) [
    | inl is ↦ rw is (opened (sym (ap (length_after text) (this c 42 _ _ is)) ∙ found))
    | inr differs ↦
        let rest = alone around n (sym (ap (length_after text) (other c 42 _ _ differs)) ∙ found) in
        record { fits = rest.fits; closes = after_first around 40 n (ne_eqb c 42 differs) refl rest }
  ]
    where
      opened : length_from (at around Parenthesis) (42 ∷ text) ≡ Some n → IsClosing around Parenthesis (42 ∷ text) n
      opened found =
          let one = from_one _ n found in
          let rest = on (suc around) Nothing one.0 one.1 in
          rw one.2 (record { fits = omega arith; closes = another (suc around) (take one.0 text) rest.closes })

  -- after a `*`
  after_star : (around n : ℕ) → length_from (at around Star) (c ∷ text) ≡ Some n → IsClosing around Star (c ∷ text) n
  after_star around n found = elim (cases_eq c 41) [
    | inl is ↦ rw is (closed around (sym (ap (length_after text) (this c 41 _ _ is)) ∙ found))
    | inr differs ↦
        let rest = alone around n (sym (ap (length_after text) (other c 41 _ _ differs)) ∙ found) in
        record { fits = rest.fits; closes = after_first around 42 n refl (ne_eqb c 41 differs) rest }
  ]
    where
      closed : (around : ℕ) → length_from (at around Star) (41 ∷ text) ≡ Some n → IsClosing around Star (41 ∷ text) n
      closed zero found = let one : n ≡ 1 = cc in rw one (record { fits = omega arith; closes = last })
      closed (suc around) found =
          let one = from_one _ n (sym (ap (length_after text) (closes_inner around)) ∙ found) in
          let rest = on around Nothing one.0 one.1 in
          rw one.2 (record { fits = omega arith; closes = close around (take one.0 text) rest.closes })

-- the prefix that the machine finds closes the comments
closing : (text : List ℕ) (around : ℕ) (before : Before) (n : ℕ) → length_from (at around before) text ≡ Some n → IsClosing around before text n
closing [] around before n found = absurd cc
closing (c ∷ cs) around Nothing n found = alone c cs (closing cs) around n found
closing (c ∷ cs) around Parenthesis n found = after_parenthesis c cs (closing cs) around n found
closing (c ∷ cs) around Star n found = after_star c cs (closing cs) around n found

-- what the machine finds from the start, or that it finds nothing
pub closing_is : (text : List ℕ) (found : Option ℕ) → found ≡ length_from (within 0) text
    → MatchOption found ((written rest : List ℕ) → text ≡ written ++ rest → Closes 1 written → ⊥) (λ n. (n ≤ length text) × Closes 1 (take n text))
closing_is text (Some n) is = let closes = closing text 0 Nothing n (sym is) in (closes.fits, closes.closes)
closing_is text None is = λ written rest split closes.
    let some : length_from (within 0) text ≡ Some (length written) = rw split (finds 0 written rest closes) in
    absurd cc

-- what is left is what stands after so many characters
module _ (c : ℕ) (cs : List ℕ) (on : (next : CommentState) → left_from next cs ≡ option_map (λ n. drop n cs) (length_from next cs)) where
  shift : (found : Option ℕ) → option_map (λ n. drop n cs) found ≡ option_map (λ n. drop n (c ∷ cs)) (option_map suc found)
  shift None = refl
  shift (Some n) = refl

  left_after : (next : Option CommentState)
      → option_map_or (λ next. left_from next cs) next (Some cs)
      ≡ option_map (λ n. drop n (c ∷ cs)) (option_map suc (option_map_or (λ next. length_from next cs) next (Some 0)))
  left_after None = refl
  left_after (Some next) = on next ∙ shift (length_from next cs)

left_is : (text : List ℕ) (state : CommentState) → left_from state text ≡ option_map (λ n. drop n text) (length_from state text)
left_is [] state = refl
left_is (c ∷ cs) state = left_after c cs (left_is cs) (step_of state c)

-- what is left after the machine closes the comment, or that nothing closes it
pub closed_left : (text new : List ℕ) → left_from (within 0) text ≡ Some new → (written : List ℕ) × (text ≡ written ++ new) × Closes 1 written
closed_left text new found = by (length_from (within 0) text) refl
  where
    by : (length_is : Option ℕ) → length_is ≡ length_from (within 0) text → (written : List ℕ) × (text ≡ written ++ new) × Closes 1 written
    by None is = let none : Some new ≡ None = sym found ∙ left_is text (within 0) ∙ ap (option_map (λ n. drop n text)) (sym is) in absurd cc
    by (Some n) is =
        let some : Some new ≡ Some (drop n text) = sym found ∙ left_is text (within 0) ∙ ap (option_map (λ n. drop n text)) (sym is) in
        let same : drop n text ≡ new = cc in
        (take n text, sym (take-append-drop n text) ∙ ap (λ rest. take n text ++ rest) same, (closing_is text (Some n) is).1)

pub never_closed : (text : List ℕ) → left_from (within 0) text ≡ None → (written rest : List ℕ) → text ≡ written ++ rest → Closes 1 written → ⊥
never_closed text none = by (length_from (within 0) text) refl
  where
    by : (found : Option ℕ) → found ≡ length_from (within 0) text → (written rest : List ℕ) → text ≡ written ++ rest → Closes 1 written → ⊥
    by None is = closing_is text None is
    by (Some n) is = let some : Some (drop n text) ≡ None = ap (option_map (λ n. drop n text)) is ∙ sym (left_is text (within 0)) ∙ none in absurd cc
