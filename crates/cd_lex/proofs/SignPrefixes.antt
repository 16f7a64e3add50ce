-- Which sign stands at the start of a text, by its first characters.
use Rattle.std.proofs.Common.{◌≡◌, ℕ, true, false, List, [], ◌∷◌, ◌++◌, Some, refl, sym, ap, subst, ◌∙◌, inl, inr}
use Rattle.std.specs.Prelude.{◌&&◌, eqb, if◌then◌else◌}
use Rattle.std.proofs.lemmas.Bool.{ne_eqb}
use Rattle.cd_syntax.specs.Signs.{characters}
use Rattle.cd_syntax.specs.declared.sign.Sign.{Sign}
use Rattle.cd_syntax.specs.declared.sign.Sign.TheVariants as sign
use Rattle.cd_lex.specs.Inner.Prefixes.{BeginsWithOther}
use Rattle.cd_lex.specs.Inner.Standing.{IsSignTo}
use Rattle.cd_lex.specs.Inner.SignTable.{first_sign, IsEither}
use Rattle.cd_lex.proofs.Signing.{first_is_longest}

-- what is found in the table, before this rest
pub found : (text : List ℕ) (is : Sign) (new : List ℕ) → text ≡ characters is ++ new → first_sign text ≡ Some is → IsSignTo text is new
found text is new written first = record { written = written; longest = first_is_longest text is first }

-- a sign of one character that begins no other
abbrev pub IsLone : ℕ → Sign → Type 0
IsLone c is = (characters is ≡ c ∷ []) × ((rest : List ℕ) → first_sign (c ∷ rest) ≡ Some is)

pub lone_stands : (c first : ℕ) (is : Sign) (rest : List ℕ) → IsLone c is → first ≡ c → IsSignTo (first ∷ rest) is rest
lone_stands c first is rest lone same =
    subst (λ first. IsSignTo (first ∷ rest) is rest) (sym same) (found (c ∷ rest) is rest (ap (λ prefix. prefix ++ rest) (sym lone.0)) (lone.1 rest))

-- a sign of one character, and the longer one that begins so
pub record ArePair (c next : ℕ) (long short : Sign) : Type 0 where
  long_is : characters long ≡ c ∷ next ∷ []
  short_is : characters short ≡ c ∷ []
  longer : (rest : List ℕ) → first_sign (c ∷ next ∷ rest) ≡ Some long
  shorter : (rest : List ℕ) → BeginsWithOther next rest → first_sign (c ∷ rest) ≡ Some short

pub either_stands : (c next first : ℕ) (long short is : Sign) (rest new : List ℕ) → ArePair c next long short → first ≡ c → IsEither next long short rest is new
    → IsSignTo (first ∷ rest) is new
either_stands c next first long short is rest new pair same (inl goes) =
    subst (λ first. IsSignTo (first ∷ rest) is new) (sym same)
    (subst (λ is. IsSignTo (c ∷ rest) is new) (sym goes.0)
    (subst (λ rest. IsSignTo (c ∷ rest) long new) (sym goes.1)
    (found (c ∷ next ∷ new) long new (ap (λ prefix. prefix ++ new) (sym pair.long_is)) (pair.longer new))))
either_stands c next first long short is rest new pair same (inr goes) =
    subst (λ first. IsSignTo (first ∷ rest) is new) (sym same)
    (subst (λ is. IsSignTo (c ∷ rest) is new) (sym goes.0)
    (subst (λ new. IsSignTo (c ∷ rest) short new) (sym goes.1)
    (found (c ∷ rest) short rest (ap (λ prefix. prefix ++ rest) (sym pair.short_is)) (pair.shorter rest goes.2))))

pub open_parenthesis : IsLone 40 sign.OpenParenthesis
unfolding first_sign
open_parenthesis = (refl, λ rest. refl)

pub close_parenthesis : IsLone 41 sign.CloseParenthesis
unfolding first_sign
close_parenthesis = (refl, λ rest. refl)

pub open_bracket : IsLone 91 sign.OpenBracket
unfolding first_sign
open_bracket = (refl, λ rest. refl)

pub close_bracket : IsLone 93 sign.CloseBracket
unfolding first_sign
close_bracket = (refl, λ rest. refl)

pub open_brace : IsLone 123 sign.OpenBrace
unfolding first_sign
open_brace = (refl, λ rest. refl)

pub close_brace : IsLone 125 sign.CloseBrace
unfolding first_sign
close_brace = (refl, λ rest. refl)

pub comma : IsLone 44 sign.Comma
unfolding first_sign
comma = (refl, λ rest. refl)

pub backslash : IsLone 92 sign.Backslash
unfolding first_sign
backslash = (refl, λ rest. refl)

pub at : IsLone 64 sign.At
unfolding first_sign
at = (refl, λ rest. refl)

less_alone : (rest : List ℕ) → BeginsWithOther 61 rest → first_sign (60 ∷ rest) ≡ Some sign.Less
unfolding first_sign
less_alone [] other = refl
less_alone (d ∷ rest) other = ap (λ b. if b && true then Some sign.LessEqual else Some sign.Less) (ne_eqb 61 d (λ is. other (sym is)))

pub less : ArePair 60 61 sign.LessEqual sign.Less
unfolding first_sign
less = record { long_is = refl; short_is = refl; longer = λ rest. refl; shorter = less_alone }

greater_alone : (rest : List ℕ) → BeginsWithOther 61 rest → first_sign (62 ∷ rest) ≡ Some sign.Greater
unfolding first_sign
greater_alone [] other = refl
greater_alone (d ∷ rest) other = ap (λ b. if b && true then Some sign.GreaterEqual else Some sign.Greater) (ne_eqb 61 d (λ is. other (sym is)))

pub greater : ArePair 62 61 sign.GreaterEqual sign.Greater
unfolding first_sign
greater = record { long_is = refl; short_is = refl; longer = λ rest. refl; shorter = greater_alone }

equal_alone : (rest : List ℕ) → BeginsWithOther 63 rest → first_sign (61 ∷ rest) ≡ Some sign.Equal
unfolding first_sign
equal_alone [] other = refl
equal_alone (d ∷ rest) other = ap (λ b. if b && true then Some sign.EqualQuestion else Some sign.Equal) (ne_eqb 63 d (λ is. other (sym is)))

pub equal : ArePair 61 63 sign.EqualQuestion sign.Equal
unfolding first_sign
equal = record { long_is = refl; short_is = refl; longer = λ rest. refl; shorter = equal_alone }

splice_alone : (rest : List ℕ) → BeginsWithOther 61 rest → first_sign (33 ∷ rest) ≡ Some sign.Splice
unfolding first_sign
splice_alone [] other = refl
splice_alone (d ∷ rest) other = ap (λ b. if b && true then Some sign.NotEqual else Some sign.Splice) (ne_eqb 61 d (λ is. other (sym is)))

pub splice : ArePair 33 61 sign.NotEqual sign.Splice
unfolding first_sign
splice = record { long_is = refl; short_is = refl; longer = λ rest. refl; shorter = splice_alone }

question_alone : (rest : List ℕ) → BeginsWithOther 63 rest → first_sign (63 ∷ rest) ≡ Some sign.Question
unfolding first_sign
question_alone [] other = refl
question_alone (d ∷ rest) other = ap (λ b. if b && true then Some sign.QuestionQuestion else Some sign.Question) (ne_eqb 63 d (λ is. other (sym is)))

pub question : ArePair 63 63 sign.QuestionQuestion sign.Question
unfolding first_sign
question = record { long_is = refl; short_is = refl; longer = λ rest. refl; shorter = question_alone }

plus_alone : (rest : List ℕ) → BeginsWithOther 63 rest → first_sign (43 ∷ rest) ≡ Some sign.Plus
unfolding first_sign
plus_alone [] other = refl
plus_alone (d ∷ rest) other = ap (λ b. if b && true then Some sign.PlusQuestion else Some sign.Plus) (ne_eqb 63 d (λ is. other (sym is)))

pub plus : ArePair 43 63 sign.PlusQuestion sign.Plus
unfolding first_sign
plus = record { long_is = refl; short_is = refl; longer = λ rest. refl; shorter = plus_alone }

and_alone : (rest : List ℕ) → BeginsWithOther 38 rest → first_sign (38 ∷ rest) ≡ Some sign.And
unfolding first_sign
and_alone [] other = refl
and_alone (d ∷ rest) other = ap (λ b. if b && true then Some sign.AndAnd else Some sign.And) (ne_eqb 38 d (λ is. other (sym is)))

pub and : ArePair 38 38 sign.AndAnd sign.And
unfolding first_sign
and = record { long_is = refl; short_is = refl; longer = λ rest. refl; shorter = and_alone }

or_alone : (rest : List ℕ) → BeginsWithOther 124 rest → first_sign (124 ∷ rest) ≡ Some sign.Or
unfolding first_sign
or_alone [] other = refl
or_alone (d ∷ rest) other = ap (λ b. if b && true then Some sign.OrOr else Some sign.Or) (ne_eqb 124 d (λ is. other (sym is)))

pub or : ArePair 124 124 sign.OrOr sign.Or
unfolding first_sign
or = record { long_is = refl; short_is = refl; longer = λ rest. refl; shorter = or_alone }

semicolon_alone : (rest : List ℕ) → BeginsWithOther 59 rest → first_sign (59 ∷ rest) ≡ Some sign.Semicolon
unfolding first_sign
semicolon_alone [] other = refl
semicolon_alone (d ∷ rest) other = ap (λ b. if b && true then Some sign.Semicolons else Some sign.Semicolon) (ne_eqb 59 d (λ is. other (sym is)))

pub semicolon : ArePair 59 59 sign.Semicolons sign.Semicolon
unfolding first_sign
semicolon = record { long_is = refl; short_is = refl; longer = λ rest. refl; shorter = semicolon_alone }

dot_alone : (rest : List ℕ) → BeginsWithOther 46 rest → first_sign (46 ∷ rest) ≡ Some sign.Dot
unfolding first_sign
dot_alone [] other = refl
dot_alone (d ∷ rest) other = ap (λ b. if b && true then Some sign.Dots else Some sign.Dot) (ne_eqb 46 d (λ is. other (sym is)))

pub dot : ArePair 46 46 sign.Dots sign.Dot
unfolding first_sign
dot = record { long_is = refl; short_is = refl; longer = λ rest. refl; shorter = dot_alone }

slash_alone : (rest : List ℕ) → BeginsWithOther 64 rest → first_sign (47 ∷ rest) ≡ Some sign.Slash
unfolding first_sign
slash_alone [] other = refl
slash_alone (d ∷ rest) other = ap (λ b. if b && true then Some sign.SlashAt else Some sign.Slash) (ne_eqb 64 d (λ is. other (sym is)))

pub slash : ArePair 47 64 sign.SlashAt sign.Slash
unfolding first_sign
slash = record { long_is = refl; short_is = refl; longer = λ rest. refl; shorter = slash_alone }

-- after a `-`
minus_alone : (rest : List ℕ) → BeginsWithOther 62 rest → BeginsWithOther 45 rest → first_sign (45 ∷ rest) ≡ Some sign.Minus
unfolding first_sign
minus_alone [] no_arrow no_minus = refl
minus_alone (d ∷ []) no_arrow no_minus =
    ap (λ b. if b && false then Some sign.ToStar else (if b && true then Some sign.To else (if eqb 62 d && true then Some sign.Arrow else Some sign.Minus))) (ne_eqb 45 d (λ is. no_minus (sym is)))
    ∙ ap (λ b. if b && true then Some sign.Arrow else Some sign.Minus) (ne_eqb 62 d (λ is. no_arrow (sym is)))
minus_alone (d ∷ e ∷ rest) no_arrow no_minus =
    ap (λ b. if b && (eqb 42 e && true) then Some sign.ToStar else (if b && true then Some sign.To else (if eqb 62 d && true then Some sign.Arrow else Some sign.Minus))) (ne_eqb 45 d (λ is. no_minus (sym is)))
    ∙ ap (λ b. if b && true then Some sign.Arrow else Some sign.Minus) (ne_eqb 62 d (λ is. no_arrow (sym is)))

to_alone : (rest : List ℕ) → BeginsWithOther 42 rest → first_sign (45 ∷ 45 ∷ rest) ≡ Some sign.To
unfolding first_sign
to_alone [] other = refl
to_alone (d ∷ rest) other = ap (λ b. if b && true then Some sign.ToStar else Some sign.To) (ne_eqb 42 d (λ is. other (sym is)))

arrow : (rest : List ℕ) → first_sign (45 ∷ 62 ∷ rest) ≡ Some sign.Arrow
unfolding first_sign
arrow [] = refl
arrow (d ∷ rest) = refl

to_star : (rest : List ℕ) → first_sign (45 ∷ 45 ∷ 42 ∷ rest) ≡ Some sign.ToStar
unfolding first_sign
to_star rest = refl

pub arrow_stands : (text rest : List ℕ) → text ≡ 62 ∷ rest → IsSignTo (45 ∷ text) sign.Arrow rest
arrow_stands text rest is = subst (λ text. IsSignTo (45 ∷ text) sign.Arrow rest) (sym is) (found (45 ∷ 62 ∷ rest) sign.Arrow rest refl (arrow rest))

pub minus_stands : (text rest : List ℕ) → rest ≡ text → BeginsWithOther 62 text → BeginsWithOther 45 text → IsSignTo (45 ∷ text) sign.Minus rest
minus_stands text rest is no_arrow no_minus = subst (IsSignTo (45 ∷ text) sign.Minus) (sym is) (found (45 ∷ text) sign.Minus text refl (minus_alone text no_arrow no_minus))

pub to_stands : (text left new : List ℕ) (is : Sign) → text ≡ 45 ∷ left → IsEither 42 sign.ToStar sign.To left is new → IsSignTo (45 ∷ text) is new
to_stands text left new is at either = subst (λ text. IsSignTo (45 ∷ text) is new) (sym at) (by either)
  where
    by : IsEither 42 sign.ToStar sign.To left is new → IsSignTo (45 ∷ 45 ∷ left) is new
    by (inl goes) = subst (λ is. IsSignTo (45 ∷ 45 ∷ left) is new) (sym goes.0)
        (subst (λ left. IsSignTo (45 ∷ 45 ∷ left) sign.ToStar new) (sym goes.1) (found (45 ∷ 45 ∷ 42 ∷ new) sign.ToStar new refl (to_star new)))
    by (inr goes) = subst (λ is. IsSignTo (45 ∷ 45 ∷ left) is new) (sym goes.0)
        (subst (IsSignTo (45 ∷ 45 ∷ left) sign.To) (sym goes.1) (found (45 ∷ 45 ∷ left) sign.To left refl (to_alone left goes.2)))
