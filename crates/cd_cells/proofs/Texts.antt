-- The number of a text among texts, each of which stands there once.
use Rattle.std.proofs.Common.{◌≡◌, ℕ, ◌<◌, arith, Bool, true, false, List, [], ◌∷◌, ◌++◌, Some, None, length, map, get_or, slice_get, position, refl, sym, ap, ◌∙◌, subst, append-nil, true≢false}
use Rattle.std.specs.Prelude.{Result, Ok, Err, IfOk, OnErr, bytes_eq, unwrap_or, if◌then◌else◌}
use Rattle.std.specs.Option.{option_map}
use Rattle.std.specs.Str.{chars, IsUtf8}
use Rattle.std.specs.List.{list_any, IsDistinct}
use Rattle.std.specs.Cmp.Lexicographic.{bytes_decides}
use Rattle.std.proofs.lemmas.List.{map-append, length-map, get_or-map}
use Rattle.std.proofs.lemmas.Map.Keys.{apart_from_distinct}
use Rattle.std.proofs.lemmas.List.Quantifiers.{position-Some}
use Rattle.std.proofs.lemmas.Option.{slice_get-get_or, slice_get-map, unwrap_or-slice_get}
use Rattle.std.proofs.lemmas.Str.{chars-nil, encodes-chars}
use Rattle.indexmap.specs.IndexSet.{insert_key}
use Rattle.cd_syntax.specs.Name.{Name}
use Rattle.cd_cells.specs.Cells.{HasEachOnce, name_at}

-- texts are kept as values of some type, which have bytes
module _ {T : Type 0} (bytes : T → List ℕ) where
  abbrev pub name : T → Name
  name text = chars (bytes text)

  abbrev pub same : T → T → Bool
  same text other = bytes_eq (bytes text) (bytes other)

  -- what stands at a number
  at_number : (texts : List T) (number : ℕ) → name_at (map name texts) number ≡ unwrap_or (option_map name (slice_get texts number)) []
  at_number texts number = sym (unwrap_or-slice_get (map name texts) number [])
      ∙ ap (λ found. unwrap_or found []) (slice_get-map name texts number)

  pub nothing_at : (texts : List T) (number : ℕ) → None ≡ slice_get texts number → chars [] ≡ name_at (map name texts) number
  nothing_at texts number none = chars-nil ∙ ap (λ found. unwrap_or (option_map name found) []) none ∙ sym (at_number texts number)

  -- the first place of a text is its number
  pub found_at : (texts : List T) (text : List ℕ) (number : ℕ) → Some number ≡ position (λ other. bytes_eq text (bytes other)) texts
      → name_at (map name texts) number ≡ chars text
  found_at [] text number is = absurd (cc is)
  found_at (first ∷ rest) text number is =
      let texts : List T = first ∷ rest in
      let found = position-Some (λ other. bytes_eq text (bytes other)) texts number first (sym is) in
      at_number texts number
      ∙ ap (λ one. unwrap_or (option_map name one) []) (slice_get-get_or texts number first found.0)
      ∙ ap chars (sym ((bytes_decides text (bytes (get_or texts number first))).0 found.1))

  -- texts are only added at the end, also where memory runs out
  pub texts_grow : {R E : Type 0} (done : Result R E) (texts after : List T) (text : T)
      → IfOk done (λ number. after ≡ insert_key same texts text) → OnErr done (after ≡ texts)
      → (more : List Name) × (map name after ≡ map name texts ++ more)
  texts_grow (Ok number) texts after text put kept =
      subst (λ (all : List T). (more : List Name) × (map name all ≡ map name texts ++ more)) (sym put)
      (by_test (list_any (same text) texts))
    where
      by_test : (there : Bool)
          → (more : List Name) × (map name (if there then texts else texts ++ text ∷ []) ≡ map name texts ++ more)
      by_test true = ([], sym (append-nil (map name texts)))
      by_test false = (name text ∷ [], map-append name texts (text ∷ []))
  texts_grow (Err error) texts after text put kept = ([], ap (map name) kept ∙ sym (append-nil (map name texts)))

  -- a text with a lower number is not the same, where no two are equal
  module _ (utf8 : (text : T) → IsUtf8 (bytes text)) (texts : List T) (distinct : IsDistinct same texts) where
    equal_texts : (text other : T) → name text ≡ name other → same text other ≡ true
    equal_texts text other is = (bytes_decides (bytes text) (bytes other)).1
        (cc (encodes-chars (bytes text) (utf8 text), encodes-chars (bytes other) (utf8 other), is))

    not_later : (first second : ℕ) → second < length (map name texts)
        → name_at (map name texts) first ≡ name_at (map name texts) second → first < second → ⊥
    not_later first second within is later =
        let inside : second < length texts = omega (arith, length-map texts name) in
        by texts refl inside
      where
        by : (all : List T) → all ≡ texts → second < length texts → ⊥
        by [] none inside = absurd (omega (arith, ap length none))
        by (text ∷ rest) some inside =
            let at : (index : ℕ) → index < length texts → name_at (map name texts) index ≡ name (get_or texts index text) =
            λ index small. get_or-map name texts index text [] small in
            true≢false
            (sym (equal_texts (get_or texts first text) (get_or texts second text)
            (sym (at first (omega (arith, later, inside))) ∙ is ∙ at second inside))
            ∙ apart_from_distinct same texts first second text distinct later inside)

    pub has_each_once : HasEachOnce (map name texts)
    has_each_once first second at_first at_second is =
        let not_after = not_later first second at_second is in
        let not_before = not_later second first at_first (sym is) in
        grind arith
