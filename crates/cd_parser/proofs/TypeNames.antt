-- No keyword begins as the name of a type does.
use Rattle.std.proofs.Common.{◌≡◌, ◌∙◌, sym, ap, subst, refl, ℕ, List, [], ◌∷◌, Bool, true, false, None, codes}
use Rattle.std.specs.Prelude.{bytes_eq}
use Rattle.std.specs.Int.{is_in_range}
use Rattle.std.specs.List.{list_all}
use Rattle.std.proofs.lemmas.Bool.{and_parts}
use Rattle.std.proofs.lemmas.Slice.Eq.{bytes_eq-Decides}
use Rattle.cd_syntax.specs.Name.{Name, is_type_name}
use Rattle.cd_tables.specs.declared.keyword.Keyword.{Keyword}
use Rattle.cd_tables.specs.Rows.{row_of}
use Rattle.cd_tables.specs.Words.{keywords}
use Rattle.cd_lr.specs.Tables.{choose, not}
use Rattle.cd_grammar.specs.Terminals.{terminal, terminal_by, terminal_of_word}

-- the word does not begin with A to Z
abbrev begins_otherwise : Name × Keyword → Bool
begins_otherwise ([], word) = true
begins_otherwise (c ∷ text, word) = not (is_in_range 65 90 c)

not_both : (b : Bool) → b ≡ true → not b ≡ true → ⊥
not_both true is so = cc
not_both false is so = cc

differs : (c d : ℕ) (text one : List ℕ) → is_in_range 65 90 c ≡ true → not (is_in_range 65 90 d) ≡ true
    → bytes_eq (c ∷ text) (d ∷ one) ≡ false
differs c d text one is so = by (bytes_eq (c ∷ text) (d ∷ one)) refl
  where
    by : (same : Bool) → bytes_eq (c ∷ text) (d ∷ one) ≡ same → bytes_eq (c ∷ text) (d ∷ one) ≡ false
    by true same =
        let whole : c ∷ text ≡ d ∷ one = (bytes_eq-Decides (c ∷ text) (d ∷ one)).0 same in
        let first : c ≡ d = cc in
        absurd (not_both (is_in_range 65 90 d) (subst (λ e. is_in_range 65 90 e ≡ true) first is) so)
    by false same = same

none_among : (c : ℕ) (text : List ℕ) (rows : List (Name × Keyword)) → is_in_range 65 90 c ≡ true
    → list_all begins_otherwise rows ≡ true → row_of rows (c ∷ text) ≡ None
unfolding row_of
none_among c text [] is so = refl
none_among c text (([], word) ∷ rows) is so =
    none_among c text rows is (and_parts true (list_all begins_otherwise rows) so).1
none_among c text ((d ∷ one, word) ∷ rows) is so =
    let parts = and_parts (not (is_in_range 65 90 d)) (list_all begins_otherwise rows) so in
    rw (differs c d text one is parts.0) (none_among c text rows is parts.1)

no_keyword : (name : Name) → is_type_name name ≡ true → row_of keywords name ≡ None
no_keyword [] is = absurd cc
no_keyword (c ∷ text) is = none_among c text keywords is refl

-- so its terminal is that of such names
pub named_type : (name : Name) → is_type_name name ≡ true → 71 ≡ terminal_of_word name
named_type [] is = absurd cc
named_type (c ∷ text) is =
    sym (ap (λ found. terminal_by found (c ∷ text)) (no_keyword (c ∷ text) is)
    ∙ ap (λ same. choose same (terminal (codes "'_"))
    (choose (is_type_name (c ∷ text)) (terminal (codes "TypeName")) (terminal (codes "Variable")))) no_underscore
    ∙ ap (λ upper. choose upper (terminal (codes "TypeName")) (terminal (codes "Variable"))) is)
  where
    no_underscore : bytes_eq (c ∷ text) (codes "_") ≡ false
    no_underscore = differs c 95 text [] is refl
