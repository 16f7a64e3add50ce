-- Each token is of the sort that its terminal stands for.
use Rattle.std.proofs.Common.{◌≡◌, ◌≢◌, ◌∙◌, sym, ap, subst, refl, ℕ, Bool, true, false, List, [], ◌∷◌}
use Rattle.std.proofs.Common.{Option, Some, None, codes, bytes_eq, slice_get, inl, inr}
use Rattle.std.specs.Prelude.{◌⊎◌}
use Rattle.std.proofs.lemmas.Slice.Eq.{bytes_eq-Decides}
use Rattle.cd_syntax.specs.declared.sign.Sign.{Sign}
use Rattle.cd_syntax.specs.declared.sign.Sign.TheVariants as sign
use Rattle.cd_syntax.specs.declared.constant.Constant.TheVariants as constants
use Rattle.cd_syntax.specs.declared.tokens.Span.{Span}
use Rattle.cd_syntax.specs.declared.tokens.TokenKind.{TokenKind}
use Rattle.cd_syntax.specs.declared.tokens.TokenKind.TheVariants as token
use Rattle.cd_syntax.specs.Name.{Name, is_type_name}
use Rattle.cd_syntax.specs.Signs.{characters}
use Rattle.cd_syntax.specs.Tokens.{at}
use Rattle.cd_tables.specs.declared.keyword.Keyword.{Keyword}
use Rattle.cd_tables.specs.declared.keyword.Keyword.TheVariants as keyword
use Rattle.cd_tables.specs.Rows.{row_of}
use Rattle.cd_tables.specs.Words.{keywords}
use Rattle.cd_lr.specs.Grammar.{Terminal}
use Rattle.cd_lr.specs.Tables.{choose}
use Rattle.cd_grammar.specs.declared.goal.Goal.TheVariants as goal
use Rattle.cd_grammar.specs.Parts.{AToken}
use Rattle.cd_grammar.specs.Rules.{terminals}
use Rattle.cd_grammar.specs.Terminals.{terminal, terminal_of, terminal_of_keyword, terminal_of_other, terminal_by}
use Rattle.cd_grammar.specs.Language.{Entry, To, Read, Later, kind_of, value_of}
use Rattle.cd_grammar.proofs.Terminals.{has_number}
use Rattle.cd_grammar.proofs.Sorts.{OfLabel, OfToken, OfAnything, sort_of, sort_named, sort_of_word, begins_with_letter}
use Rattle.cd_grammar.proofs.SortedParts.{Facts, Fits, one_token, one_literal, one_character, one_atom, one_label}
use Rattle.cd_grammar.proofs.SortedParts.{one_part}

-- what stands for itself is a word, or nothing known
of_word : (name : List ℕ)
    → (sort_of (Terminal 0 (terminal (39 ∷ name))) ≡ sort_of_word name)
    ⊎ (sort_of (Terminal 0 (terminal (39 ∷ name))) ≡ OfAnything)
of_word name = by (has_number terminals (39 ∷ name))
  where
    by : (slice_get terminals (terminal (39 ∷ name)) ≡ Some (39 ∷ name))
        ⊎ (slice_get terminals (terminal (39 ∷ name)) ≡ None)
        → (sort_of (Terminal 0 (terminal (39 ∷ name))) ≡ sort_of_word name)
        ⊎ (sort_of (Terminal 0 (terminal (39 ∷ name))) ≡ OfAnything)
    by (inl found) = inl (ap sort_named found)
    by (inr none) = inr (ap sort_named none)

-- no sign begins with a letter
no_letter : (is : Sign) → begins_with_letter (characters is) ≡ false
no_letter sign.StarTo = refl
no_letter _ = refl

-- the words that are keywords are labels, and `_` is no keyword
keyword_sort : (word : Keyword) → sort_of (Terminal 0 (terminal_of_keyword word)) ≡ OfLabel
keyword_sort keyword.And = refl
keyword_sort _ = refl

no_keyword : row_of keywords (codes "_") ≡ None
unfolding row_of
no_keyword = refl

is_no_blank : (name : Name) (word : Keyword) → row_of keywords name ≡ Some word → name ≢ codes "_"
is_no_blank name word found same =
    let never : None ≡ Some word = sym no_keyword ∙ sym (ap (row_of keywords) same) ∙ found in
    absurd cc

-- names are two where the test of both says so
differs : (name other : Name) → bytes_eq name other ≡ false → name ≢ other
differs name other told_so same =
    let never : true ≡ false = sym ((bytes_eq-Decides name other).1 same) ∙ told_so in
    absurd cc

-- a word is a label, other than `_`, and so is the name of an atom
module _ (L : Name → Type 0) where
  abbrev pub IsNamed : TokenKind → Type 0
  IsNamed (token.Word name) = name ≢ codes "_" → L name
  IsNamed (token.Atom name) = L name
  IsNamed kind = Unit {0}

  abbrev pub IsProper : Entry → Type 0
  IsProper (To goal) = Unit {0}
  IsProper (Read token) = IsNamed token.kind
  IsProper (Later token) = IsNamed token.kind

module _ (facts : Facts) where
  self_fits : (kind : TokenKind) (span : Span) (name : List ℕ)
      → Fits facts (sort_of_word name) (AToken (at kind span))
      → Fits facts (sort_of (Terminal 0 (terminal (39 ∷ name)))) (AToken (at kind span))
  self_fits kind span name is = by (of_word name)
    where
      by : (sort_of (Terminal 0 (terminal (39 ∷ name))) ≡ sort_of_word name)
          ⊎ (sort_of (Terminal 0 (terminal (39 ∷ name))) ≡ OfAnything)
          → Fits facts (sort_of (Terminal 0 (terminal (39 ∷ name)))) (AToken (at kind span))
      by (inl same) = subst (λ sort. Fits facts sort (AToken (at kind span))) (sym same) is
      by (inr none) = subst (λ sort. Fits facts sort (AToken (at kind span))) (sym none) (one_part _)

  -- a word that is no keyword is `_`, a name of a type or a variable
  other_fits : (name : Name) (span : Span) → (name ≢ codes "_" → facts.of_label name)
      → Fits facts (sort_of (Terminal 0 (terminal_of_other name))) (AToken (at (token.Word name) span))
  other_fits name span is = by (bytes_eq name (codes "_")) refl
    where
      by_case : (upper : Bool) → facts.of_label name
          → Fits facts
          (sort_of (Terminal 0 (choose upper (terminal (codes "TypeName")) (terminal (codes "Variable")))))
          (AToken (at (token.Word name) span))
      by_case true so = one_label _ so
      by_case false so = one_label _ so

      by : (blank : Bool) → bytes_eq name (codes "_") ≡ blank
          → Fits facts
          (sort_of (Terminal 0 (choose blank (terminal (codes "'_"))
          (choose (is_type_name name) (terminal (codes "TypeName")) (terminal (codes "Variable"))))))
          (AToken (at (token.Word name) span))
      by true blank = one_token _
      by false other = by_case (is_type_name name) (is (λ same. differs name (codes "_") other same))

  word_fits : (name : Name) (span : Span) → (name ≢ codes "_" → facts.of_label name)
      → Fits facts (sort_of (Terminal 0 (terminal_by (row_of keywords name) name))) (AToken (at (token.Word name) span))
  word_fits name span is = by (row_of keywords name) refl
    where
      by : (found : Option Keyword) → row_of keywords name ≡ found
          → Fits facts (sort_of (Terminal 0 (terminal_by found name))) (AToken (at (token.Word name) span))
      by None found = other_fits name span is
      by (Some word) found =
          subst (λ sort. Fits facts sort (AToken (at (token.Word name) span))) (sym (keyword_sort word))
          (one_label _ (is (is_no_blank name word found)))

  token_fits : (kind : TokenKind) (span : Span) → IsNamed facts.of_label kind
      → Fits facts (sort_of (Terminal 0 (terminal_of kind))) (AToken (at kind span))
  token_fits (token.Word name) span is = word_fits name span is
  token_fits (token.Int n) span is = one_literal _ (constants.Int n) refl tt
  token_fits (token.Chars []) span is = one_token _
  token_fits (token.Chars (c ∷ [])) span is = one_character c span
  token_fits (token.Chars (c ∷ d ∷ rest)) span is = one_token _
  token_fits (token.Text characters) span is = one_literal _ (constants.Text characters) refl tt
  token_fits (token.Atom name) span is = one_atom name span is
  token_fits (token.Sign sign) span is =
      self_fits (token.Sign sign) span (characters sign)
      (subst (λ letter. Fits facts (choose letter OfLabel OfToken) (AToken (at (token.Sign sign) span)))
      (sym (no_letter sign)) (one_token _))

  pub entry_fits : (entry : Entry) → IsProper facts.of_label entry
      → Fits facts (sort_of (Terminal 0 (kind_of entry))) (value_of entry).1
  entry_fits (To goal.TypeText) is = one_part _
  entry_fits (To goal.TypeFile) is = one_part _
  entry_fits (To goal.ProgramText) is = one_part _
  entry_fits (Read token) is = token_fits token.kind token.span is
  entry_fits (Later token) is = token_fits token.kind token.span is
