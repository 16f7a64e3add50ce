-- What stands at the start of a text: its first digits, its first word.
use Rattle.std.proofs.Common.{◌≡◌, ◌≢◌, ℕ, suc, ◌+◌, Bool, true, false, true≢false, List, [], ◌∷◌, ◌++◌, ◌||◌, refl, sym, ap, subst, ◌∙◌, length, drop, arith}
use Rattle.std.specs.Prelude.{take_while, IsTrue}
use Rattle.std.specs.Char.{is_ascii_digit}
use Rattle.std.specs.Int.{is_in_range}
use Rattle.std.specs.List.{list_all, prefix_len}
use Rattle.std.proofs.lemmas.Bool.{and_parts, and_from, cond-true, cond-false}
use Rattle.std.proofs.lemmas.List.{take-append-drop}
use Rattle.std.proofs.lemmas.List.Folds.{length-prefix_len}
use Rattle.std.proofs.lemmas.List.Sums.{take_while-cons}
use Rattle.std.proofs.Math.Bool.{cond}
use Rattle.std.specs.Prelude.{◌==◌}
use Rattle.cd_syntax.specs.Name.{begins_word, goes_on_word, is_word}
use Rattle.cd_syntax.specs.Digits.{AreDigits, BeginsWithNoDigit}
use Rattle.cd_syntax.specs.Tokens.{EndsWord}

pub neither : (x y : Bool) → x ≡ false → y ≡ false → (x || y) ≡ false
neither true y one also = absurd (true≢false one)
neither false y one also = also

module _ {X : Type 0} (p : X → Bool) where
  -- what is taken passes
  pub taken_pass : (xs : List X) → list_all p (take_while p xs) ≡ true
  taken_pass [] = refl
  taken_pass (x ∷ xs) = ap (list_all p) (take_while-cons p x xs) ∙ by (p x) refl (taken_pass xs)
    where
      by : (b : Bool) → p x ≡ b → list_all p (take_while p xs) ≡ true → list_all p (cond b (x ∷ take_while p xs) []) ≡ true
      by true is on = and_from (p x) (list_all p (take_while p xs)) is on
      by false is on = refl

  -- it and the rest are all
  pub taken_and_rest : (xs : List X) → xs ≡ take_while p xs ++ drop (length (take_while p xs)) xs
  taken_and_rest xs = sym (ap (λ n. take_while p xs ++ drop n xs) (length-prefix_len p xs) ∙ take-append-drop (prefix_len p xs) xs)

  -- what is left is empty or begins with what does not pass
  module _ (P : List X → Type 0) (empty : P []) (other : (x : X) (xs : List X) → p x ≡ false → P (x ∷ xs)) where
    left_from : (xs : List X) → P (drop (prefix_len p xs) xs)
    left_from [] = empty
    left_from (x ∷ xs) = by (p x) refl (left_from xs)
      where
        by : (b : Bool) → p x ≡ b → P (drop (prefix_len p xs) xs) → P (drop (cond b (1 + prefix_len p xs) 0) (x ∷ xs))
        by true is on = let more : suc (prefix_len p xs) ≡ 1 + prefix_len p xs = omega arith in subst (λ n. P (drop n (x ∷ xs))) more on
        by false is on = other x xs is

    pub left : (xs : List X) → P (drop (length (take_while p xs)) xs)
    left xs = subst (λ n. P (drop n xs)) (sym (length-prefix_len p xs)) (left_from xs)

  -- where the first passes, it is taken
  pub taken_first : (x : X) (xs : List X) → p x ≡ true → take_while p (x ∷ xs) ≡ x ∷ take_while p xs
  taken_first x xs is = take_while-cons p x xs ∙ cond-true (p x) (x ∷ take_while p xs) [] is

  -- and else nothing is
  pub taken_none : (x : X) (xs : List X) → p x ≡ false → take_while p (x ∷ xs) ≡ []
  taken_none x xs is = take_while-cons p x xs ∙ cond-false (p x) (x ∷ take_while p xs) [] is

  -- what passes, and nothing after it, is taken
  pub taken_all : (xs ys : List X) → list_all p xs ≡ true → take_while p ys ≡ [] → take_while p (xs ++ ys) ≡ xs
  taken_all [] ys all none = none
  taken_all (x ∷ xs) ys all none =
      let parts = and_parts (p x) (list_all p xs) all in
      taken_first x (xs ++ ys) parts.0 ∙ ap (λ xs. x ∷ xs) (taken_all xs ys parts.1 none)

-- digits stand where one does
pub digits_stand : (text : List ℕ) (c : ℕ) (rest : List ℕ) → text ≡ c ∷ rest → is_ascii_digit c ≡ true
    → AreDigits (take_while is_ascii_digit text) × BeginsWithNoDigit (drop (length (take_while is_ascii_digit text)) text)
digits_stand text c rest is digit =
    let taken : take_while is_ascii_digit text ≡ c ∷ take_while is_ascii_digit rest = ap (take_while is_ascii_digit) is ∙ taken_first is_ascii_digit c rest digit in
    ((taken_pass is_ascii_digit text, λ none. not_empty c (take_while is_ascii_digit rest) (sym taken ∙ none)), left is_ascii_digit BeginsWithNoDigit tt (λ c cs no. no) text)
  where
    not_empty : (c : ℕ) (cs : List ℕ) → c ∷ cs ≢ []
    not_empty c cs is = let none : length (c ∷ cs) ≡ 0 = ap length is in omega arith

-- a character that a word begins with is one that it goes on with
pub begins_goes : (c : ℕ) → begins_word c ≡ true → goes_on_word c ≡ true
begins_goes c begins = by (is_ascii_digit c) (is_in_range 65 90 c) (is_in_range 97 122 c) (c == 95) begins
  where
    by : (digit upper lower line : Bool) → ((upper || lower) || line) ≡ true → (((digit || upper) || lower) || line) ≡ true
    by true upper lower line is = refl
    by false upper lower line is = is

-- a word stands where it begins
pub word_stands : (c : ℕ) (rest : List ℕ) → begins_word c ≡ true
    → IsTrue (is_word (take_while goes_on_word (c ∷ rest))) × EndsWord (drop (length (take_while goes_on_word (c ∷ rest))) (c ∷ rest))
word_stands c rest begins =
    let taken = taken_first goes_on_word c rest (begins_goes c begins) in (
      ap is_word taken ∙ and_from (begins_word c) (list_all goes_on_word (take_while goes_on_word rest)) begins (taken_pass goes_on_word rest),
      left goes_on_word EndsWord tt (λ c cs no. no) (c ∷ rest),
    )

-- digits are taken, and no more where none follows
pub digits_taken : (digits text : List ℕ) → AreDigits digits → BeginsWithNoDigit text → take_while is_ascii_digit (digits ++ text) ≡ digits
digits_taken digits text are ends = taken_all is_ascii_digit digits text are.0 (none text ends)
  where
    none : (text : List ℕ) → BeginsWithNoDigit text → take_while is_ascii_digit text ≡ []
    none [] ends = refl
    none (c ∷ cs) ends = taken_none is_ascii_digit c cs ends

-- and so is a word
pub word_taken : (name text : List ℕ) → IsTrue (is_word name) → EndsWord text → take_while goes_on_word (name ++ text) ≡ name
word_taken name text is ends = taken_all goes_on_word name text (goes name is) (none text ends)
  where
    goes : (name : List ℕ) → IsTrue (is_word name) → list_all goes_on_word name ≡ true
    goes [] is = refl
    goes (c ∷ cs) is =
        let parts = and_parts (begins_word c) (list_all goes_on_word cs) is in
        and_from (goes_on_word c) (list_all goes_on_word cs) (begins_goes c parts.0) parts.1

    none : (text : List ℕ) → EndsWord text → take_while goes_on_word text ≡ []
    none [] ends = refl
    none (c ∷ cs) ends = taken_none goes_on_word c cs ends
