-- The terminals of entries: each stands before the end, and each that does is that of a free entry.
use Rattle.std.proofs.Common.{◌≡◌, ap, refl, ℕ, zero, suc, List, [], ◌∷◌, Bool, true, false, arith, eqb-true, ltb-true, inl, inr}
use Rattle.std.specs.Prelude.{◌≢◌, ◌<◌, ◌⊎◌, ◌&&◌, Option, Some, None, pos, nat_eq, codes, length, bytes_eq, slice_get}
use Rattle.std.proofs.lemmas.Bool.Decides.{Decides-below_and}
use Rattle.std.proofs.lemmas.Slice.Eq.{bytes_eq-Decides}
use Rattle.cd_syntax.specs.declared.sign.Sign.{Sign}
use Rattle.cd_syntax.specs.declared.sign.Sign.TheVariants as sign
use Rattle.cd_syntax.specs.declared.tokens.TokenKind.{TokenKind}
use Rattle.cd_syntax.specs.declared.tokens.TokenKind.TheVariants as token
use Rattle.cd_syntax.specs.Signs.{characters}
use Rattle.cd_syntax.specs.Name.{is_type_name}
use Rattle.cd_tables.specs.declared.keyword.Keyword.{Keyword}
use Rattle.cd_tables.specs.declared.keyword.Keyword.TheVariants as keyword
use Rattle.cd_tables.specs.Rows.{row_of}
use Rattle.cd_tables.specs.Words.{keywords}
use Rattle.cd_lr.specs.Tables.{choose, also, given}
use Rattle.cd_lr.proofs.Bools.{first_also, second_also}
use Rattle.cd_grammar.specs.declared.goal.Goal.{Goal}
use Rattle.cd_grammar.specs.declared.goal.Goal.TheVariants as goal
use Rattle.cd_grammar.specs.Bnf.{number_of}
use Rattle.cd_grammar.specs.Rules.{terminals}
use Rattle.cd_grammar.specs.Terminals.{terminal, terminal_of, terminal_of_keyword, terminal_by, terminal_of_goal}
use Rattle.cd_grammar.specs.Tables.{tables}
use Rattle.cd_grammar.specs.Language.{Entry, To, Read, Later, kind_of, is_free, nowhere}

-- the name that has the number of a name is the same, or there is none
pub has_number : (names : List (List ℕ)) (name : List ℕ)
    → (slice_get names (number_of names name) ≡ Some name) ⊎ (slice_get names (number_of names name) ≡ None)
has_number [] name = inr refl
has_number (first ∷ rest) name = by (bytes_eq first name) refl (has_number rest name)
  where
    by : (same : Bool) → bytes_eq first name ≡ same
        → (slice_get rest (number_of rest name) ≡ Some name) ⊎ (slice_get rest (number_of rest name) ≡ None)
        → (slice_get (first ∷ rest) (choose same 0 (suc (number_of rest name))) ≡ Some name)
        ⊎ (slice_get (first ∷ rest) (choose same 0 (suc (number_of rest name))) ≡ None)
    by true same later = inl (ap Some ((bytes_eq-Decides first name).0 same))
    by false same later = later

-- a keyword, another word and a sign have terminals before that of the end
keyword_before : (word : Keyword) → terminal_of_keyword word < tables.finish
keyword_before keyword.And = ltb-true _ _ refl
keyword_before _ = ltb-true _ _ refl

other_before : (underscore type_name : Bool)
    → choose underscore (terminal (codes "'_"))
    (choose type_name (terminal (codes "TypeName")) (terminal (codes "Variable"))) < tables.finish
other_before true type_name = ltb-true _ _ refl
other_before false true = ltb-true _ _ refl
other_before false false = ltb-true _ _ refl

word_before : (found : Option Keyword) (name : List ℕ) → terminal_by found name < tables.finish
word_before (Some word) name = keyword_before word
word_before None name = other_before (bytes_eq name (codes "_")) (is_type_name name)

sign_before : (is : Sign) → terminal (39 ∷ characters is) < tables.finish
sign_before sign.StarTo = ltb-true _ _ refl
sign_before _ = ltb-true _ _ refl

-- so has each token, and what a text is to be
token_before : (kind : TokenKind) → terminal_of kind < tables.finish
token_before (token.Word name) = word_before (row_of keywords name) name
token_before (token.Int n) = ltb-true _ _ refl
token_before (token.Chars []) = ltb-true _ _ refl
token_before (token.Chars (c ∷ [])) = ltb-true _ _ refl
token_before (token.Chars (c ∷ d ∷ rest)) = ltb-true _ _ refl
token_before (token.Text text) = ltb-true _ _ refl
token_before (token.Atom name) = ltb-true _ _ refl
token_before (token.Sign is) = sign_before is

goal_before : (goal : Goal) → terminal_of_goal goal < tables.finish
goal_before goal.TypeText = ltb-true _ _ refl
goal_before goal.TypeFile = ltb-true _ _ refl
goal_before goal.ProgramText = ltb-true _ _ refl

before_end : (e : Entry) → kind_of e < tables.finish
before_end (To goal) = goal_before goal
before_end (Read one) = token_before one.kind
before_end (Later one) = token_before one.kind

pub not_end : (e : Entry) → kind_of e ≢ tables.finish
not_end e is = let small = before_end e in omega (arith, small, is)

pub kind_below : (e : Entry) → kind_of e < length terminals
kind_below e =
    let small = before_end e in
    let end : tables.finish < length terminals = ltb-true _ _ refl in
    omega (arith, small, end)

-- a free entry of each terminal
abbrev later : TokenKind → Entry
later kind = Later record { kind = kind; span = nowhere }

abbrev entries : List Entry
entries =
    later (token.Sign sign.StarTo) ∷ later (token.Sign sign.ToStar) ∷ later (token.Sign sign.StarQuestion) ∷
    later (token.Sign sign.PlusQuestion) ∷ later (token.Sign sign.QuestionQuestion) ∷
    later (token.Sign sign.EqualQuestion) ∷ later (token.Sign sign.To) ∷ later (token.Sign sign.Arrow) ∷
    later (token.Sign sign.ColonColon) ∷ later (token.Sign sign.Becomes) ∷ later (token.Sign sign.Dots) ∷
    later (token.Sign sign.NotEqual) ∷ later (token.Sign sign.LessEqual) ∷ later (token.Sign sign.GreaterEqual) ∷
    later (token.Sign sign.AndAnd) ∷ later (token.Sign sign.OrOr) ∷ later (token.Sign sign.Semicolons) ∷
    later (token.Sign sign.SlashAt) ∷
    later (token.Sign sign.OpenParenthesis) ∷ later (token.Sign sign.CloseParenthesis) ∷
    later (token.Sign sign.OpenBracket) ∷ later (token.Sign sign.CloseBracket) ∷ later (token.Sign sign.OpenBrace) ∷
    later (token.Sign sign.CloseBrace) ∷ later (token.Sign sign.Less) ∷ later (token.Sign sign.Greater) ∷
    later (token.Sign sign.Equal) ∷ later (token.Sign sign.Question) ∷ later (token.Sign sign.Star) ∷
    later (token.Sign sign.Plus) ∷ later (token.Sign sign.Minus) ∷ later (token.Sign sign.Backslash) ∷
    later (token.Sign sign.Or) ∷ later (token.Sign sign.And) ∷ later (token.Sign sign.Comma) ∷
    later (token.Sign sign.Semicolon) ∷ later (token.Sign sign.Dot) ∷ later (token.Sign sign.Slash) ∷ later (token.Sign sign.Splice) ∷
    later (token.Sign sign.At) ∷ later (token.Word (codes "_")) ∷ later (token.Word (codes "type")) ∷
    later (token.Word (codes "let")) ∷ later (token.Word (codes "fun")) ∷ later (token.Word (codes "in")) ∷
    later (token.Word (codes "match")) ∷ later (token.Word (codes "with")) ∷ later (token.Word (codes "if")) ∷
    later (token.Word (codes "then")) ∷ later (token.Word (codes "else")) ∷ later (token.Word (codes "try")) ∷
    later (token.Word (codes "map")) ∷ later (token.Word (codes "transform")) ∷ later (token.Word (codes "where")) ∷
    later (token.Word (codes "and")) ∷ later (token.Word (codes "div")) ∷ later (token.Word (codes "mod")) ∷
    later (token.Word (codes "not")) ∷ later (token.Word (codes "flatten")) ∷ later (token.Word (codes "int_of")) ∷
    later (token.Word (codes "string_of")) ∷ later (token.Word (codes "min_of")) ∷ later (token.Word (codes "max_of")) ∷
    later (token.Word (codes "raise")) ∷ later (token.Word (codes "select")) ∷ later (token.Word (codes "from")) ∷ later (token.Int (pos 0)) ∷
    later (token.Chars (codes "a")) ∷ later (token.Chars []) ∷ later (token.Text []) ∷
    later (token.Atom (codes "a")) ∷ later (token.Word (codes "A")) ∷ later (token.Word (codes "a")) ∷
    To goal.TypeText ∷ To goal.TypeFile ∷ To goal.ProgramText ∷ []

abbrev entry_at : ℕ → Entry
entry_at k = given (later (token.Int (pos 0))) (slice_get entries k)

-- a test of all numbers below one
abbrev below : (test : ℕ → Bool) → ℕ → Bool
below test zero = true
below test (suc n) = let less = below test n in test n && less

abbrev is_right : ℕ → Bool
is_right k = also (nat_eq (kind_of (entry_at k)) k) (is_free (entry_at k))

each_kind : below is_right tables.finish ≡ true
unfolding row_of
each_kind = refl

-- each terminal but the end is that of a free entry
pub some : (k : ℕ) → k < tables.finish → (e : Entry) × (kind_of e ≡ k) × (is_free e ≡ true)
some k small =
    let all =
    Decides-below_and is_right (λ k. is_right k ≡ true) (below is_right) (λ k. (λ is. is, λ is. is)) refl (λ n. refl)
    tables.finish in
    let right = all.0 each_kind k small in (
      entry_at k,
      eqb-true _ _ (first_also (nat_eq (kind_of (entry_at k)) k) _ right),
      second_also (nat_eq (kind_of (entry_at k)) k) _ right,
    )
