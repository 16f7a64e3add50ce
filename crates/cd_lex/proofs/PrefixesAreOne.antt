-- What stands at the start of a text is one: a class by its first characters, and for each class one outcome.
use Rattle.std.proofs.Common.{◌≡◌, ◌≢◌, ℕ, ℤ, pos, neg_ℤ, ◌+◌, ◌≤◌, ◌<◌, Bool, true, false, true≢false, List, [], ◌∷◌, ◌++◌, Option, Some, None, refl, sym, ap, subst, ◌∙◌, inl, inr, ◌⊎◌, arith, length, take, drop, append-nil}
use Rattle.std.specs.Prelude.{◌==◌, ◌&&◌, ◌||◌, not, if◌then◌else◌, take_while, IsTrue}
use Rattle.std.specs.Char.{is_ascii_digit}
use Rattle.std.specs.Int.{is_in_range}
use Rattle.std.specs.List.{list_all}
use Rattle.std.proofs.Math.Dec.{leb}
use Rattle.std.proofs.Math.Seq.{take-append_seam, drop-append_seam}
use Rattle.std.proofs.lemmas.Bool.{and_parts, or_parts, or_cases, cond-true, cond-false, cases_eq, ne_eqb, eq-eqb, eqb-true, leb-true, lt-leb}
use Rattle.std.proofs.lemmas.List.{append_assoc, take-append-drop}
use Rattle.cd_syntax.specs.declared.sign.Sign.{Sign as ASign}
use Rattle.cd_syntax.specs.declared.sign.Sign.TheVariants as sign
use Rattle.cd_syntax.specs.declared.tokens.Token.{Token}
use Rattle.cd_syntax.specs.declared.tokens.TokenKind.{TokenKind}
use Rattle.cd_syntax.specs.declared.tokens.TokenKind.TheVariants.{Word, Int, Chars, Text, Atom, Sign}
use Rattle.cd_syntax.specs.declared.fault.TextFault.{TextFault}
use Rattle.cd_syntax.specs.declared.fault.TextFault.TheVariants.{BadChar, OpenText, OpenComment, TooWide}
use Rattle.cd_syntax.specs.Integer.{IsInteger}
use Rattle.cd_syntax.specs.Name.{begins_word, goes_on_word, is_word, IsLabel}
use Rattle.cd_syntax.specs.Digits.{begins_hexadecimal}
use Rattle.cd_syntax.specs.Numerals.{begins_number, begins_negative}
use Rattle.cd_syntax.specs.Signs.{characters, BeginsWith}
use Rattle.cd_syntax.specs.Quotes.{Quotes, BeginsNoEscape, EndsHalf}
use Rattle.cd_syntax.specs.Comments.{begins_pair, Closes, IsComment}
use Rattle.cd_syntax.specs.Comments as comments
use Rattle.cd_syntax.specs.Tokens.{is_blank, bytes, joins, token_at, EndsWord, IsDropped, IsLexemeOf}
use Rattle.cd_syntax.specs.Tokens as tokens
use Rattle.cd_syntax.specs.Faults.{is_quote, is_other, HasFaultHere}
use Rattle.cd_syntax.specs.Faults as faults
use Rattle.cd_lex.specs.Inner.Commenting.{within, length_from}
use Rattle.cd_lex.specs.Inner.SignTable.{first_sign}
use Rattle.cd_lex.specs.Inner.Numerals.{first_number, number_at, after_number}
use Rattle.cd_lex.proofs.Commenting.{finds, closing_is}
use Rattle.cd_lex.proofs.Signing.{first_is_longest, longest_is_first}
use Rattle.cd_lex.proofs.Wording.{neither, word_taken, taken_and_rest, left}
use Rattle.cd_lex.proofs.Numerals.{IsFirst, number_is_first}
use Rattle.cd_lex.proofs.OneWay.{Outcome, Stop, More, Decided, decided_once}
use Rattle.cd_lex.proofs.QuotesAreOne.{Read, Closed, Broken, Open, ReadsQuote, quote_once, extend, quotes_read, closes_read, breaks_read, ends_read}

-- where reading stands: whether what comes is joined to the token before, the byte, the text that is left
abbrev pub State : Type 0
State = Bool × ℕ × List ℕ

abbrev pub Result : Type 0
Result = List Token ⊎ TextFault

abbrev pub Step : Type 0
Step = Outcome State Result (List Token)

-- what the first characters say
pub data Class : Type 0 where
  Blank : Class
  Comment : Class
  Named : Class
  Number : Class
  Negative : Class
  -- in `"`, or in `'`
  Quoted : Bool → Class
  Backquote : Class
  Other : Class

abbrev pub class_of : ℕ → Class
class_of c = if begins_word c then Named else (if is_blank c then Blank else (if is_ascii_digit c then Number
    else (if c == 39 then Quoted false else (if c == 34 then Quoted true else (if c == 96 then Backquote else Other)))))

abbrev pub refined : Bool → List ℕ → Class → Class
refined joined text Other = if begins_pair 40 42 text then Comment else (if not joined && begins_negative text then Negative
    else (if begins_number text then Number else Other))
refined joined text class = class

-- the steps
abbrev pub drop_step : ℕ → (written rest : List ℕ) → Step
drop_step at written rest = More (false, at + bytes written, rest) []

abbrev pub token_step : ℕ → (written rest : List ℕ) → TokenKind → Step
token_step at written rest kind = More (joins kind, at + bytes written, rest) (token_at at written kind ∷ [])

abbrev pub fault_step : TextFault → Step
fault_step fault = Stop (inr fault)

abbrev pub comment_step : ℕ → List ℕ → Option ℕ → Step
comment_step at inside (Some n) = drop_step at (40 ∷ 42 ∷ take n inside) (drop n inside)
comment_step at inside None = fault_step (OpenComment at)

abbrev pub sign_step : ℕ → List ℕ → Option ASign → Step
sign_step at text (Some is) = token_step at (characters is) (drop (length (characters is)) text) (Sign is)
sign_step at text None = fault_step (BadChar at)

abbrev pub quote_of : Bool → ℕ
quote_of true = 34
quote_of false = 39

abbrev pub kind_of : Bool → List ℕ → TokenKind
kind_of true means = Text means
kind_of false means = Chars means

abbrev pub quote_step : ℕ → Bool → Read → Step
quote_step at double (Closed written means rest) = token_step at (quote_of double ∷ written ++ quote_of double ∷ []) rest (kind_of double means)
quote_step at double (Broken written) = fault_step (BadChar (at + bytes (quote_of double ∷ written)))
quote_step at double Open = fault_step (OpenText at)

abbrev pub word_step : ℕ → List ℕ → (name : List ℕ) → Step
word_step at text name = token_step at name (drop (length name) text) (Word name)

abbrev pub signed : Bool → ℕ → ℤ
signed true n = neg_ℤ (pos n)
signed false n = pos n

abbrev pub with_sign : Bool → List ℕ → List ℕ
with_sign true written = 45 ∷ written
with_sign false written = written

-- the step at a number that is written so, before this rest
abbrev pub NumeralStep : ℕ → Bool → (written rest : List ℕ) → ℕ → Step → Type 0
NumeralStep at below written rest n is =
    Decided Step (IsInteger (signed below n)) (token_step at (with_sign below written) rest (Int (signed below n))) (fault_step (TooWide at)) is

abbrev pub NumberStep : ℕ → Bool → List ℕ → Step → Type 0
NumberStep at below text is = NumeralStep at below (first_number text) (after_number text) (number_at text) is

abbrev pub AtomStep : ℕ → List ℕ → (name : List ℕ) → Step → Type 0
AtomStep at text name is = Decided Step (IsLabel name) (token_step at (96 ∷ name) (drop (length name) text) (Atom name)) (fault_step (BadChar at)) is

-- the step at a text of this class
abbrev pub StepOf : ℕ → (c : ℕ) (rest : List ℕ) → Class → Step → Type 0
StepOf at c rest Blank is = is ≡ drop_step at (c ∷ []) rest
StepOf at c rest Comment is = is ≡ comment_step at (drop 1 rest) (length_from (within 0) (drop 1 rest))
StepOf at c rest Named is = is ≡ word_step at (c ∷ rest) (take_while goes_on_word (c ∷ rest))
StepOf at c rest Number is = NumberStep at false (c ∷ rest) is
StepOf at c rest Negative is = NumberStep at true rest is
StepOf at c rest (Quoted double) is = (read : Read) × ReadsQuote (quote_of double) rest read × (is ≡ quote_step at double read)
StepOf at c rest Backquote is = AtomStep at rest (take_while goes_on_word rest) is
StepOf at c rest Other is = is ≡ sign_step at (c ∷ rest) (first_sign (c ∷ rest))

abbrev pub StepAt : Bool → ℕ → List ℕ → Step → Type 0
StepAt joined at [] is = is ≡ Stop (inl [])
StepAt joined at (c ∷ rest) is = StepOf at c rest (refined joined (c ∷ rest) (class_of c)) is

abbrev pub PrefixStep : State → Step → Type 0
PrefixStep state = StepAt state.0 state.1 state.2

-- each step has one outcome
step_once : (at c : ℕ) (rest : List ℕ) (class : Class) (a b : Step) → StepOf at c rest class a → StepOf at c rest class b → a ≡ b
step_once at c rest Blank a b one two = one ∙ sym two
step_once at c rest Comment a b one two = one ∙ sym two
step_once at c rest Named a b one two = one ∙ sym two
step_once at c rest Number a b one two = decided_once Step (IsInteger (signed false (number_at (c ∷ rest)))) _ _ a b one two
step_once at c rest Negative a b one two = decided_once Step (IsInteger (signed true (number_at rest))) _ _ a b one two
step_once at c rest (Quoted double) a b one two = one.2 ∙ ap (quote_step at double) (quote_once (quote_of double) rest one.0 two.0 one.1 two.1) ∙ sym two.2
step_once at c rest Backquote a b one two = decided_once Step (IsLabel (take_while goes_on_word rest)) _ _ a b one two
step_once at c rest Other a b one two = one ∙ sym two

step_at_once : (joined : Bool) (at : ℕ) (text : List ℕ) (a b : Step) → StepAt joined at text a → StepAt joined at text b → a ≡ b
step_at_once joined at [] a b one two = one ∙ sym two
step_at_once joined at (c ∷ rest) a b one two = step_once at c rest (refined joined (c ∷ rest) (class_of c)) a b one two

pub prefix_once : (state : State) (a b : Step) → PrefixStep state a → PrefixStep state b → a ≡ b
prefix_once state a b one two = step_at_once state.0 state.1 state.2 a b one two

-- the class by the first character
named_class : (c : ℕ) → begins_word c ≡ true → class_of c ≡ Named
named_class c is = cond-true (begins_word c) _ _ is

blank_class : (c : ℕ) → is_blank c ≡ true → class_of c ≡ Blank
blank_class c is = by (or_cases _ _ is)
  where
    this : (k : ℕ) → class_of k ≡ Blank → (c == k) ≡ true → class_of c ≡ Blank
    this k is same = ap class_of (eqb-true c k same) ∙ is

    by_two : ((c == 32) ≡ true) ⊎ ((c == 9) ≡ true) → class_of c ≡ Blank
    by_two (inl same) = this 32 refl same
    by_two (inr same) = this 9 refl same

    by_three : (((c == 32) || (c == 9)) ≡ true) ⊎ ((c == 10) ≡ true) → class_of c ≡ Blank
    by_three (inl two) = by_two (or_cases _ _ two)
    by_three (inr same) = this 10 refl same

    by : ((((c == 32) || (c == 9)) || (c == 10)) ≡ true) ⊎ ((c == 13) ≡ true) → class_of c ≡ Blank
    by (inl three) = by_three (or_cases _ _ three)
    by (inr same) = this 13 refl same

below_range : (lo hi c : ℕ) → c < lo → is_in_range lo hi c ≡ false
below_range lo hi c below = ap (λ x. x && leb c hi) (lt-leb lo c below)

digit_bounds : (c : ℕ) → is_ascii_digit c ≡ true → (48 ≤ c) × (c ≤ 57)
digit_bounds c is =
    let parts = and_parts (leb 48 c) (leb c 57) is in
    (leb-true 48 c parts.0, leb-true c 57 parts.1)

digit_class : (c : ℕ) → is_ascii_digit c ≡ true → class_of c ≡ Number
digit_class c is =
    let bounds = digit_bounds c is in
    let low = bounds.0 in
    let high = bounds.1 in
    let no_word : begins_word c ≡ false = neither _ _ (neither _ _ (below_range 65 90 c (omega arith)) (below_range 97 122 c (omega arith))) (ne_eqb c 95 (λ e. omega arith)) in
    let no_blank : is_blank c ≡ false = neither _ _ (neither _ _ (neither _ _ (ne_eqb c 32 (λ e. omega arith)) (ne_eqb c 9 (λ e. omega arith))) (ne_eqb c 10 (λ e. omega arith))) (ne_eqb c 13 (λ e. omega arith)) in
    cond-false (begins_word c) _ _ no_word ∙ cond-false (is_blank c) _ _ no_blank ∙ cond-true (is_ascii_digit c) _ _ is

nothing_parts : (a b d e : Bool) → not (a || b || d || e) ≡ true → (a ≡ false) × (b ≡ false) × (d ≡ false) × (e ≡ false)
nothing_parts true b d e is = absurd (true≢false (sym is))
nothing_parts false true d e is = absurd (true≢false (sym is))
nothing_parts false false true e is = absurd (true≢false (sym is))
nothing_parts false false false true is = absurd (true≢false (sym is))
nothing_parts false false false false is = (refl, refl, refl, refl)

nothing_class : (c : ℕ) → is_other c ≡ true → class_of c ≡ (if c == 96 then Backquote else Other)
nothing_class c is =
    let parts = nothing_parts (is_blank c) (begins_word c) (is_ascii_digit c) (is_quote c) is in
    let quotes = or_parts (c == 34) (c == 39) parts.3 in
    cond-false (begins_word c) _ _ parts.1 ∙ cond-false (is_blank c) _ _ parts.0 ∙ cond-false (is_ascii_digit c) _ _ parts.2
    ∙ cond-false (c == 39) _ _ quotes.1 ∙ cond-false (c == 34) _ _ quotes.0

-- the step at a text whose class is known
classed : (joined : Bool) (at c : ℕ) (rest : List ℕ) (class : Class) (is : Step) → class_of c ≡ class → StepOf at c rest (refined joined (c ∷ rest) class) is → StepAt joined at (c ∷ rest) is
classed joined at c rest class is known step = subst (λ class. StepOf at c rest (refined joined (c ∷ rest) class) is) (sym known) step

-- what is dropped
pub dropped_prefix : (joined : Bool) (at : ℕ) (written rest : List ℕ) → IsDropped written → PrefixStep (joined, at, written ++ rest) (drop_step at written rest)
dropped_prefix joined at _ rest (tokens.blank c is) = classed joined at c rest Blank (drop_step at (c ∷ []) rest) (blank_class c is) refl
dropped_prefix joined at _ rest (tokens.comment _ (comments.comment inside closes)) =
    let found : length_from (within 0) (inside ++ rest) ≡ Some (length inside) = finds 0 inside rest closes in
    let same : comment_step at (inside ++ rest) (Some (length inside)) ≡ drop_step at (40 ∷ 42 ∷ inside) rest =
    ap (λ t. drop_step at (40 ∷ 42 ∷ t) (drop (length inside) (inside ++ rest))) (take-append_seam inside rest) ∙ ap (λ t. drop_step at (40 ∷ 42 ∷ inside) t) (drop-append_seam inside rest) in
    sym (ap (comment_step at (inside ++ rest)) found ∙ same)

-- numbers, where they stand
number_step : (at : ℕ) (below : Bool) (written rest : List ℕ) (n : ℕ) (is : Step) → IsFirst written rest n
    → NumeralStep at below written rest n is → NumberStep at below (written ++ rest) is
number_step at below written rest n is first step =
    subst (λ w. NumeralStep at below w (after_number (written ++ rest)) (number_at (written ++ rest)) is) (sym first.writes)
    (subst (λ r. NumeralStep at below written r (number_at (written ++ rest)) is) (sym first.leaves)
    (subst (λ n. NumeralStep at below written rest n is) (sym first.value) step))

number_prefix : (joined : Bool) (at : ℕ) (text : List ℕ) (is : Step) → begins_number text ≡ true → NumberStep at false text is → StepAt joined at text is
number_prefix joined at [] is begins step = absurd (true≢false (sym begins))
number_prefix joined at (c ∷ rest) is begins step = by (or_cases (is_ascii_digit c) ((c == 35) && begins_hexadecimal rest) begins)
  where
    -- a `#` begins no comment and no negative number
    marked : (joined : Bool) (rest : List ℕ) → begins_hexadecimal rest ≡ true → refined joined (35 ∷ rest) Other ≡ Number
    marked joined [] begins = absurd (true≢false (sym begins))
    marked true (d ∷ rest) begins = cond-true (begins_hexadecimal (d ∷ rest)) Number Other begins
    marked false (d ∷ rest) begins = cond-true (begins_hexadecimal (d ∷ rest)) Number Other begins

    by : (is_ascii_digit c ≡ true) ⊎ (((c == 35) && begins_hexadecimal rest) ≡ true) → StepAt joined at (c ∷ rest) is
    by (inl digit) = classed joined at c rest Number is (digit_class c digit) step
    by (inr mark) =
        let parts = and_parts (c == 35) (begins_hexadecimal rest) mark in
        let same = eqb-true c 35 parts.0 in
        subst (λ c. StepAt joined at (c ∷ rest) is) (sym same)
        (subst (λ class. StepOf at 35 rest class is) (sym (marked joined rest parts.1))
        (subst (λ c. NumberStep at false (c ∷ rest) is) same step))

negative_prefix : (joined : Bool) (at : ℕ) (text : List ℕ) (is : Step) → joined ≡ false → begins_number text ≡ true
    → NumberStep at true text is → StepAt joined at (45 ∷ text) is
negative_prefix joined at [] is apart begins step = absurd (true≢false (sym begins))
negative_prefix true at (c ∷ rest) is apart begins step = absurd (true≢false apart)
negative_prefix false at (c ∷ rest) is apart begins step =
    subst (λ class. StepOf at 45 (c ∷ rest) class is) (sym (cond-true (begins_number (c ∷ rest)) Negative Other begins)) step

-- words
word_prefix : (joined : Bool) (at : ℕ) (name rest : List ℕ) → IsTrue (is_word name) → EndsWord rest → StepAt joined at (name ++ rest) (token_step at name rest (Word name))
word_prefix joined at [] rest is ends = absurd (true≢false (sym is))
word_prefix joined at (c ∷ cs) rest is ends =
    let begins = (and_parts (begins_word c) (list_all goes_on_word cs) is).0 in
    classed joined at c (cs ++ rest) Named (token_step at (c ∷ cs) rest (Word (c ∷ cs))) (named_class c begins)
    (sym (ap (word_step at (c ∷ cs ++ rest)) (word_taken (c ∷ cs) rest is ends) ∙ ap (λ t. token_step at (c ∷ cs) t (Word (c ∷ cs))) (drop-append_seam (c ∷ cs) rest)))

atom_prefix : (joined : Bool) (at : ℕ) (name rest : List ℕ) → IsLabel name → EndsWord rest → StepAt joined at (96 ∷ name ++ rest) (token_step at (96 ∷ name) rest (Atom name))
atom_prefix joined at name rest label ends =
    subst (λ t. AtomStep at (name ++ rest) t (token_step at (96 ∷ name) rest (Atom name))) (sym (word_taken name rest label.0 ends))
    (inl (label, ap (λ t. token_step at (96 ∷ name) t (Atom name)) (sym (drop-append_seam name rest))))

-- quotes
quoted_prefix : (joined : Bool) (at : ℕ) (double : Bool) (rest : List ℕ) (read : Read) → ReadsQuote (quote_of double) rest read
    → StepAt joined at (quote_of double ∷ rest) (quote_step at double read)
quoted_prefix joined at true rest read reads = (read, reads, refl)
quoted_prefix joined at false rest read reads = (read, reads, refl)

no_backslash : (double : Bool) → 92 ≢ quote_of double
no_backslash true is = omega arith
no_backslash false is = omega arith

closed_prefix : (joined : Bool) (at : ℕ) (double : Bool) (written means rest : List ℕ) → Quotes (quote_of double) written means
    → StepAt joined at ((quote_of double ∷ written ++ quote_of double ∷ []) ++ rest) (token_step at (quote_of double ∷ written ++ quote_of double ∷ []) rest (kind_of double means))
closed_prefix joined at double written means rest quotes =
    let q = quote_of double in
    let read = quotes_read q (no_backslash double) written means (q ∷ rest) (Closed [] [] rest) quotes (closes_read q (no_backslash double) rest) in
    let same : extend written means (Closed [] [] rest) ≡ Closed written means rest =
    ap (λ w. Closed w (means ++ []) rest) (append-nil written) ∙ ap (λ m. Closed written m rest) (append-nil means) in
    subst (λ t. StepAt joined at (q ∷ t) (token_step at (q ∷ written ++ q ∷ []) rest (kind_of double means))) (sym (append_assoc written (q ∷ []) rest))
    (quoted_prefix joined at double (written ++ q ∷ rest) (Closed written means rest) (subst (ReadsQuote q (written ++ q ∷ rest)) same read))

broken_prefix : (joined : Bool) (at : ℕ) (double : Bool) (written means rest : List ℕ) → Quotes (quote_of double) written means → BeginsNoEscape rest
    → StepAt joined at (quote_of double ∷ written ++ rest) (fault_step (BadChar (at + bytes (quote_of double ∷ written))))
broken_prefix joined at double written means rest quotes breaks =
    let q = quote_of double in
    let read = quotes_read q (no_backslash double) written means rest (Broken []) quotes (breaks_read q (no_backslash double) rest breaks) in
    quoted_prefix joined at double (written ++ rest) (Broken written) (subst (λ w. ReadsQuote q (written ++ rest) (Broken w)) (append-nil written) read)

open_prefix : (joined : Bool) (at : ℕ) (double : Bool) (written means rest : List ℕ) → Quotes (quote_of double) written means → EndsHalf rest
    → StepAt joined at (quote_of double ∷ written ++ rest) (fault_step (OpenText at))
open_prefix joined at double written means rest quotes ends =
    let q = quote_of double in
    quoted_prefix joined at double (written ++ rest) Open (quotes_read q (no_backslash double) written means rest Open quotes (ends_read q (no_backslash double) rest ends))

which_quote : (q : ℕ) → is_quote q ≡ true → (double : Bool) × (quote_of double ≡ q)
which_quote q is = by (or_cases _ _ is)
  where
    by : ((q == 34) ≡ true) ⊎ ((q == 39) ≡ true) → (double : Bool) × (quote_of double ≡ q)
    by (inl same) = (true, sym (eqb-true q 34 same))
    by (inr same) = (false, sym (eqb-true q 39 same))

-- signs
abbrev first_class : List ℕ → Class
first_class [] = Blank
first_class (c ∷ cs) = class_of c

sign_class : (is : ASign) (rest : List ℕ) → first_class (characters is ++ rest) ≡ Other
sign_class sign.StarTo rest = refl
sign_class sign.ToStar rest = refl
sign_class sign.StarQuestion rest = refl
sign_class sign.PlusQuestion rest = refl
sign_class sign.QuestionQuestion rest = refl
sign_class sign.EqualQuestion rest = refl
sign_class sign.To rest = refl
sign_class sign.Arrow rest = refl
sign_class sign.ColonColon rest = refl
sign_class sign.Becomes rest = refl
sign_class sign.Dots rest = refl
sign_class sign.NotEqual rest = refl
sign_class sign.LessEqual rest = refl
sign_class sign.GreaterEqual rest = refl
sign_class sign.AndAnd rest = refl
sign_class sign.OrOr rest = refl
sign_class sign.Semicolons rest = refl
sign_class sign.SlashAt rest = refl
sign_class sign.OpenParenthesis rest = refl
sign_class sign.CloseParenthesis rest = refl
sign_class sign.OpenBracket rest = refl
sign_class sign.CloseBracket rest = refl
sign_class sign.OpenBrace rest = refl
sign_class sign.CloseBrace rest = refl
sign_class sign.Less rest = refl
sign_class sign.Greater rest = refl
sign_class sign.Equal rest = refl
sign_class sign.Question rest = refl
sign_class sign.Star rest = refl
sign_class sign.Plus rest = refl
sign_class sign.Minus rest = refl
sign_class sign.Backslash rest = refl
sign_class sign.Or rest = refl
sign_class sign.And rest = refl
sign_class sign.Comma rest = refl
sign_class sign.Semicolon rest = refl
sign_class sign.Dot rest = refl
sign_class sign.Slash rest = refl
sign_class sign.Splice rest = refl
sign_class sign.At rest = refl

-- no number begins where a sign does
sign_no_number : (is : ASign) (rest : List ℕ) → begins_number (characters is ++ rest) ≡ false
sign_no_number sign.StarTo rest = refl
sign_no_number sign.ToStar rest = refl
sign_no_number sign.StarQuestion rest = refl
sign_no_number sign.PlusQuestion rest = refl
sign_no_number sign.QuestionQuestion rest = refl
sign_no_number sign.EqualQuestion rest = refl
sign_no_number sign.To rest = refl
sign_no_number sign.Arrow rest = refl
sign_no_number sign.ColonColon rest = refl
sign_no_number sign.Becomes rest = refl
sign_no_number sign.Dots rest = refl
sign_no_number sign.NotEqual rest = refl
sign_no_number sign.LessEqual rest = refl
sign_no_number sign.GreaterEqual rest = refl
sign_no_number sign.AndAnd rest = refl
sign_no_number sign.OrOr rest = refl
sign_no_number sign.Semicolons rest = refl
sign_no_number sign.SlashAt rest = refl
sign_no_number sign.OpenParenthesis rest = refl
sign_no_number sign.CloseParenthesis rest = refl
sign_no_number sign.OpenBracket rest = refl
sign_no_number sign.CloseBracket rest = refl
sign_no_number sign.OpenBrace rest = refl
sign_no_number sign.CloseBrace rest = refl
sign_no_number sign.Less rest = refl
sign_no_number sign.Greater rest = refl
sign_no_number sign.Equal rest = refl
sign_no_number sign.Question rest = refl
sign_no_number sign.Star rest = refl
sign_no_number sign.Plus rest = refl
sign_no_number sign.Minus rest = refl
sign_no_number sign.Backslash rest = refl
sign_no_number sign.Or rest = refl
sign_no_number sign.And rest = refl
sign_no_number sign.Comma rest = refl
sign_no_number sign.Semicolon rest = refl
sign_no_number sign.Dot rest = refl
sign_no_number sign.Slash rest = refl
sign_no_number sign.Splice rest = refl
sign_no_number sign.At rest = refl

-- neither a comment nor a number
stays_other : (joined : Bool) (text : List ℕ) → begins_pair 40 42 text ≡ false → begins_number text ≡ false → (joined ≡ false → begins_negative text ≡ false)
    → refined joined text Other ≡ Other
stays_other true text no_comment no_number no_negative =
    cond-false (begins_pair 40 42 text) _ _ no_comment ∙ cond-false (begins_number text) _ _ no_number
stays_other false text no_comment no_number no_negative =
    cond-false (begins_pair 40 42 text) _ _ no_comment ∙ cond-false (begins_negative text) _ _ (no_negative refl) ∙ cond-false (begins_number text) _ _ no_number

other_prefix : (joined : Bool) (at : ℕ) (text : List ℕ) (is : Step) → first_class text ≡ Other → begins_pair 40 42 text ≡ false → begins_number text ≡ false
    → (joined ≡ false → begins_negative text ≡ false) → is ≡ sign_step at text (first_sign text) → StepAt joined at text is
other_prefix joined at [] is class no_comment no_number no_negative step = absurd cc
other_prefix joined at (c ∷ cs) is class no_comment no_number no_negative step =
    classed joined at c cs Other is class (subst (λ class. StepOf at c cs class is) (sym (stays_other joined (c ∷ cs) no_comment no_number no_negative)) step)

-- each token
pub token_prefix : (joined : Bool) (at : ℕ) (written rest : List ℕ) (kind : TokenKind) → IsLexemeOf joined written rest kind → PrefixStep (joined, at, written ++ rest) (token_step at written rest kind)
token_prefix joined at _ _ _ (tokens.word name rest is ends) = word_prefix joined at name rest is ends
token_prefix joined at _ _ _ (tokens.number written rest n numeral fits) =
    let first = number_is_first written rest n numeral in
    number_prefix joined at (written ++ rest) (token_step at written rest (Int (pos n))) first.begins
    (number_step at false written rest n (token_step at written rest (Int (pos n))) first (inl (fits, refl)))
token_prefix joined at _ _ _ (tokens.negative written rest n apart numeral fits) =
    let first = number_is_first written rest n numeral in
    let is = token_step at (45 ∷ written) rest (Int (neg_ℤ (pos n))) in
    negative_prefix joined at (written ++ rest) is apart first.begins (number_step at true written rest n is first (inl (fits, refl)))
token_prefix joined at _ _ _ (tokens.chars written means rest quotes) = closed_prefix joined at false written means rest quotes
token_prefix joined at _ _ _ (tokens.text written means rest quotes) = closed_prefix joined at true written means rest quotes
token_prefix joined at _ _ _ (tokens.atom name rest label ends) = atom_prefix joined at name rest label ends
token_prefix joined at _ _ _ (tokens.sign is rest longest no_comment no_number) =
    let text = characters is ++ rest in
    other_prefix joined at text (token_step at (characters is) rest (Sign is)) (sign_class is rest) no_comment (sign_no_number is rest) no_number
    (sym (ap (sign_step at text) (longest_is_first text is longest) ∙ ap (λ t. token_step at (characters is) t (Sign is)) (drop-append_seam (characters is) rest)))

-- a character that begins nothing
no_pair : (a b c : ℕ) (rest : List ℕ) → (c == a) ≡ false → begins_pair a b (c ∷ rest) ≡ false
no_pair a b c [] differs = refl
no_pair a b c (d ∷ rest) differs = ap (λ x. x && (d == b)) differs

no_negative : (c : ℕ) (rest : List ℕ) → (c == 45) ≡ false → begins_negative (c ∷ rest) ≡ false
no_negative c rest differs = ap (λ x. x && begins_number rest) differs

no_first : (text : List ℕ) → ((is : ASign) → BeginsWith text is → ⊥) → first_sign text ≡ None
no_first text none = by_found (first_sign text) refl
  where
    by_found : (found : Option ASign) → first_sign text ≡ found → first_sign text ≡ None
    by_found None found = found
    by_found (Some is) found = absurd (none is (first_is_longest text is found).stands)

character_prefix : (joined : Bool) (at c : ℕ) (rest : List ℕ) → is_other c ≡ true → begins_number (c ∷ rest) ≡ false → ((is : ASign) → BeginsWith (c ∷ rest) is → ⊥)
    → ((name more : List ℕ) → c ∷ rest ≡ 96 ∷ name ++ more → IsLabel name → EndsWord more → ⊥) → StepAt joined at (c ∷ rest) (fault_step (BadChar at))
character_prefix joined at c rest nothing no_number no_sign no_atom = by (cases_eq c 96)
  where
    unlike : (k : ℕ) (is : ASign) → characters is ≡ k ∷ [] → (c == k) ≡ false
    unlike k is written = ne_eqb c k (λ same. no_sign is (rest, ap (λ c. c ∷ rest) same ∙ ap (λ t. t ++ rest) (sym written)))

    by : ((c ≡ 96) ⊎ (c ≡ 96 → ⊥)) → StepAt joined at (c ∷ rest) (fault_step (BadChar at))
    by (inl is) =
        let name = take_while goes_on_word rest in
        classed joined at c rest Backquote (fault_step (BadChar at)) (nothing_class c nothing ∙ cond-true (c == 96) _ _ (eq-eqb c 96 is))
        (inr (
          (λ label. no_atom name (drop (length name) rest) (ap (λ c. c ∷ rest) is ∙ ap (λ t. 96 ∷ t) (taken_and_rest goes_on_word rest)) label
              (left goes_on_word EndsWord tt (λ c cs ends. ends) rest)),
          refl,
        ))
    by (inr differs) =
        other_prefix joined at (c ∷ rest) (fault_step (BadChar at)) (nothing_class c nothing ∙ cond-false (c == 96) _ _ (ne_eqb c 96 differs))
        (no_pair 40 42 c rest (unlike 40 sign.OpenParenthesis refl)) no_number (λ apart. no_negative c rest (unlike 45 sign.Minus refl))
        (sym (ap (sign_step at (c ∷ rest)) (no_first (c ∷ rest) no_sign)))

-- a comment that nothing closes
open_comment_prefix : (joined : Bool) (at : ℕ) (inside : List ℕ) → ((written rest : List ℕ) → 40 ∷ 42 ∷ inside ≡ written ++ rest → IsComment written → ⊥)
    → StepAt joined at (40 ∷ 42 ∷ inside) (fault_step (OpenComment at))
open_comment_prefix joined at inside none = by (length_from (within 0) inside) refl
  where
    by : (found : Option ℕ) → found ≡ length_from (within 0) inside → fault_step (OpenComment at) ≡ comment_step at inside (length_from (within 0) inside)
    by None found = ap (comment_step at inside) found
    by (Some n) found =
        let closes = closing_is inside (Some n) found in
        absurd (none (40 ∷ 42 ∷ take n inside) (drop n inside) (ap (λ t. 40 ∷ 42 ∷ t) (sym (take-append-drop n inside))) (comments.comment (take n inside) closes.1))

-- each fault
pub fault_prefix : (joined : Bool) (at : ℕ) (text : List ℕ) (fault : TextFault) → HasFaultHere joined at text fault → PrefixStep (joined, at, text) (fault_step fault)
fault_prefix joined at _ _ (faults.character c rest nothing no_number no_sign no_atom) = character_prefix joined at c rest nothing no_number no_sign no_atom
fault_prefix joined at _ _ (faults.escape q written means rest is quotes breaks) =
    let double = which_quote q is in
    subst (λ q. StepAt joined at (q ∷ written ++ rest) (fault_step (BadChar (at + bytes (q ∷ written))))) double.1
    (broken_prefix joined at double.0 written means rest (subst (λ q. Quotes q written means) (sym double.1) quotes) breaks)
fault_prefix joined at _ _ (faults.open_text q written means rest is quotes ends) =
    let double = which_quote q is in
    subst (λ q. StepAt joined at (q ∷ written ++ rest) (fault_step (OpenText at))) double.1
    (open_prefix joined at double.0 written means rest (subst (λ q. Quotes q written means) (sym double.1) quotes) ends)
fault_prefix joined at _ _ (faults.open_comment inside none) = open_comment_prefix joined at inside none
fault_prefix joined at _ _ (faults.number written rest n numeral wide) =
    let first = number_is_first written rest n numeral in
    number_prefix joined at (written ++ rest) (fault_step (TooWide at)) first.begins
    (number_step at false written rest n (fault_step (TooWide at)) first (inr (wide, refl)))
fault_prefix joined at _ _ (faults.negative written rest n apart numeral wide) =
    let first = number_is_first written rest n numeral in
    negative_prefix joined at (written ++ rest) (fault_step (TooWide at)) apart first.begins
    (number_step at true written rest n (fault_step (TooWide at)) first (inr (wide, refl)))
