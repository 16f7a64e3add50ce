-- The first sign of the table that a text begins with is the longest.
use Rattle.std.proofs.Common.{◌≡◌, ℕ, ◌≤◌, Bool, true, false, List, [], ◌∷◌, Option, Some, None, refl, sym, ap, ◌∙◌, inl, inr, arith, length, take, drop}
use Rattle.std.specs.Prelude.{find, ◌&&◌}
use Rattle.std.specs.List.{list_all}
use Rattle.std.proofs.Math.Dec.{leb}
use Rattle.std.proofs.Math.Seq.{take-append_seam}
use Rattle.std.proofs.lemmas.Bool.{and_parts, cond-true, cond-false, cases_Bool, leb-true}
use Rattle.std.proofs.lemmas.Bool.Decides.{Decides-eqb}
use Rattle.std.proofs.lemmas.Slice.Eq.{starts_is}
use Rattle.cd_syntax.specs.Signs.{characters, BeginsWith, IsLongest}
use Rattle.cd_syntax.specs.declared.sign.Sign.{Sign}
use Rattle.cd_syntax.specs.declared.sign.Sign.TheVariants as sign
use Rattle.cd_lex.specs.Inner.SignTable.{signs, begins_with, first_sign}
use Rattle.cd_lex.specs.Inner.Standing.{IsSignTo}

-- the test is exact
begins_so : (text : List ℕ) (is : Sign) → begins_with text is ≡ true → BeginsWith text is
begins_so text is so = (drop (length (characters is)) text, (starts_is Decides-eqb text (characters is) (begins_with text is) refl).0 so)

so_begins : (text : List ℕ) (is : Sign) → BeginsWith text is → begins_with text is ≡ true
so_begins text is begins = (starts_is Decides-eqb text (characters is) (begins_with text is) refl).1 begins.0 begins.1

-- what is found at the start, and past it
at_prefix : (test : Sign → Bool) (s : Sign) (rest : List Sign) (is : Sign) → test s ≡ true → find test (s ∷ rest) ≡ Some is → s ≡ is
at_prefix test s rest is passes found =
    let it : Some s ≡ Some is = sym (cond-true (test s) _ _ passes) ∙ found in
    cc

past_prefix : (test : Sign → Bool) (s : Sign) (rest : List Sign) → test s ≡ false → find test rest ≡ find test (s ∷ rest)
past_prefix test s rest fails = sym (cond-false (test s) _ _ fails)

-- what is found passes the test
found_passes : (test : Sign → Bool) (list : List Sign) (is : Sign) → find test list ≡ Some is → test is ≡ true
found_passes test [] is found = absurd cc
found_passes test (s ∷ rest) is found = elim (cases_Bool (test s)) [
  | inl passes ↦ ap test (sym (at_prefix test s rest is passes found)) ∙ passes
  | inr fails ↦ found_passes test rest is (past_prefix test s rest fails ∙ found)
]

-- what is in the list (another test finds it) passes a test that all pass
all_pass : (test mark : Sign → Bool) (list : List Sign) (other : Sign) → list_all test list ≡ true → find mark list ≡ Some other → test other ≡ true
all_pass test mark [] other all marked = absurd cc
all_pass test mark (s ∷ rest) other all marked =
    let parts = and_parts (test s) (list_all test rest) all in
    elim (cases_Bool (mark s)) [
      | inl here ↦ ap test (sym (at_prefix mark s rest other here marked)) ∙ parts.0
      | inr past ↦ all_pass test mark rest other parts.1 (past_prefix mark s rest past ∙ marked)
    ]

-- and fails a test by which none is found
none_passes : (test mark : Sign → Bool) (list : List Sign) (other : Sign) → find test list ≡ None → find mark list ≡ Some other → test other ≡ false
none_passes test mark [] other none marked = absurd cc
none_passes test mark (s ∷ rest) other none marked = elim (cases_Bool (test s)) [
  | inl passes ↦ let found : Some s ≡ None = sym (cond-true (test s) _ _ passes) ∙ none in absurd cc
  | inr fails ↦ elim (cases_Bool (mark s)) [
    | inl here ↦ ap test (sym (at_prefix mark s rest other here marked)) ∙ fails
    | inr past ↦ none_passes test mark rest other (past_prefix test s rest fails ∙ none) (past_prefix mark s rest past ∙ marked)
  ]
]

-- the other sign is no longer
abbrev no_longer : Sign → Sign → Bool
no_longer is other = leb (length (characters other)) (length (characters is))

-- no sign of the list is longer than one before it
abbrev falls : List Sign → Bool
falls [] = true
falls (s ∷ rest) = list_all (no_longer s) rest && falls rest

signs_fall : falls signs ≡ true
signs_fall = refl

-- each sign is in the table, and is the first that its own characters begin with
itself : (is : Sign) → first_sign (characters is) ≡ Some is
unfolding first_sign
itself sign.StarTo = refl
itself sign.ToStar = refl
itself sign.StarQuestion = refl
itself sign.PlusQuestion = refl
itself sign.QuestionQuestion = refl
itself sign.EqualQuestion = refl
itself sign.To = refl
itself sign.Arrow = refl
itself sign.ColonColon = refl
itself sign.Becomes = refl
itself sign.Dots = refl
itself sign.NotEqual = refl
itself sign.LessEqual = refl
itself sign.GreaterEqual = refl
itself sign.AndAnd = refl
itself sign.OrOr = refl
itself sign.Semicolons = refl
itself sign.SlashAt = refl
itself sign.OpenParenthesis = refl
itself sign.CloseParenthesis = refl
itself sign.OpenBracket = refl
itself sign.CloseBracket = refl
itself sign.OpenBrace = refl
itself sign.CloseBrace = refl
itself sign.Less = refl
itself sign.Greater = refl
itself sign.Equal = refl
itself sign.Question = refl
itself sign.Star = refl
itself sign.Plus = refl
itself sign.Minus = refl
itself sign.Backslash = refl
itself sign.Or = refl
itself sign.And = refl
itself sign.Comma = refl
itself sign.Semicolon = refl
itself sign.Dot = refl
itself sign.Slash = refl
itself sign.Splice = refl
itself sign.At = refl

-- what is found in a list that falls is the longest that passes
found_longest : (test mark : Sign → Bool) (list : List Sign) (is other : Sign) → falls list ≡ true → find test list ≡ Some is → find mark list ≡ Some other
    → test other ≡ true → length (characters other) ≤ length (characters is)
found_longest test mark [] is other falling found marked passes = absurd cc
found_longest test mark (s ∷ rest) is other falling found marked passes =
    let parts = and_parts (list_all (no_longer s) rest) (falls rest) falling in
    elim (cases_Bool (test s)) [
      | inl first ↦ elim (cases_Bool (mark s)) [
        | inl here ↦
            let one = at_prefix test s rest is first found in
            let another = at_prefix mark s rest other here marked in
            let same : length (characters other) ≡ length (characters is) = ap (λ s. length (characters s)) (sym another ∙ one) in
            omega arith
        | inr past ↦
            let one = at_prefix test s rest is first found in
            let bound = all_pass (no_longer s) mark rest other parts.0 (past_prefix mark s rest past ∙ marked) in
            leb-true (length (characters other)) (length (characters is)) (ap (λ s. no_longer s other) (sym one) ∙ bound)
      ]
      | inr fails ↦ elim (cases_Bool (mark s)) [
        | inl here ↦
            let another : test s ≡ test other = ap test (at_prefix mark s rest other here marked) in
            absurd cc
        | inr past ↦ found_longest test mark rest is other parts.1 (past_prefix test s rest fails ∙ found) (past_prefix mark s rest past ∙ marked) passes
      ]
    ]

-- where no sign of the table is found, none stands
pub none_stands : (text : List ℕ) → first_sign text ≡ None → (is : Sign) → BeginsWith text is → ⊥
unfolding first_sign
none_stands text none is begins =
    let passes = so_begins text is begins in
    let fails = none_passes (begins_with text) (begins_with (characters is)) signs is none (itself is) in
    absurd cc

-- what is found is the longest
pub first_is_longest : (text : List ℕ) (is : Sign) → first_sign text ≡ Some is → IsLongest is text
unfolding first_sign
first_is_longest text is found = record {
  stands = begins_so text is (found_passes (begins_with text) signs is found);
  longest = λ other begins.
      found_longest (begins_with text) (begins_with (characters other)) signs is other signs_fall found (itself other) (so_begins text other begins);
}

-- and stands before what is left
pub first_stands : (text : List ℕ) (is : Sign) → first_sign text ≡ Some is → (rest : List ℕ) × IsSignTo text is rest
first_stands text is found =
    let longest = first_is_longest text is found in
    (longest.stands.0, record { written = longest.stands.1; longest = longest })

-- the characters of a sign that stands at the start
prefix_is : (text : List ℕ) (is : Sign) → BeginsWith text is → take (length (characters is)) text ≡ characters is
prefix_is text is begins = ap (take (length (characters is))) begins.1 ∙ take-append_seam (characters is) begins.0

-- the longest is found: two signs of one length that stand are one
pub longest_is_first : (text : List ℕ) (is : Sign) → IsLongest is text → first_sign text ≡ Some is
longest_is_first text is longest = by_found (first_sign text) refl
  where
    by_found : (found : Option Sign) → first_sign text ≡ found → first_sign text ≡ Some is
    by_found None none = absurd (none_stands text none is longest.stands)
    by_found (Some other) found =
        let other_longest = first_is_longest text other found in
        let other_no_longer = longest.longest other other_longest.stands in
        let is_no_longer = other_longest.longest is longest.stands in
        let same : length (characters other) ≡ length (characters is) = omega arith in
        let one : characters other ≡ characters is =
        sym (prefix_is text other other_longest.stands) ∙ ap (λ n. take n text) same ∙ prefix_is text is longest.stands in
        found ∙ sym (itself other) ∙ ap first_sign one ∙ itself is
