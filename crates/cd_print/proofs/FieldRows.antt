-- The fields of a slice, with the first one apart.
use Rattle.std.proofs.Common.{◌≡◌, ◌≤◌, ◌-◌, List, [], ◌∷◌, ◌++◌, length, take, drop, get_or, refl, ap, sym, ◌∙◌, append_assoc, arith}
use Rattle.std.specs.Prelude.{codes}
use Rattle.std.specs.List.{flat_map}
use Rattle.std.proofs.lemmas.List.{take_rest}
use Rattle.cd_model.specs.Canonical.{Text, joined}
use Rattle.cd_cells.specs.declared.cell.Part.{Part}
use Rattle.cd_cells.specs.declared.cell.ValueId.{ValueId}
use Rattle.cd_cells.specs.declared.values.Values.{Values}
use Rattle.cd_print.specs.Inner.Texts.{field_at, field_texts_at, after_field, attributes_text, text_at}

module _ (values : Values) where
  -- the fields after the first one
  abbrev pub more : List Part → List Text
  more parts = field_texts_at values (take (length parts - 1) (drop 1 parts))

  abbrev pub first : List Part → Text
  first parts = field_at values (get_or parts 0 record { label = 0; value = 0 })

  fields_cut : (parts : List Part) → 1 ≤ length parts → field_texts_at values parts ≡ first parts ∷ more parts
  fields_cut [] some = absurd (omega arith)
  fields_cut (part ∷ parts) some =
      ap (λ rest. field_at values part ∷ field_texts_at values rest) (sym (take_rest (part ∷ parts) 1))

  pub after_cut : (parts : List Part) → 1 ≤ length parts
      → after_field (field_texts_at values parts) ≡ codes "; " ++ (first parts ++ after_field (more parts))
  after_cut parts some =
      ap after_field (fields_cut parts some)
      ∙ ap (λ (text : Text). codes "; " ++ text)
      (append_assoc (first parts) (flat_map (λ text. codes "; " ++ text) (more parts)) (codes "}"))

  -- an XML value, with its tag and its attributes found
  pub xml_text : (name tag : Text) (fields : List Text) (parts : List Part) (content : ValueId) → tag ≡ name
      → fields ≡ field_texts_at values parts
      → codes "<" ++ joined (codes " ") (name ∷ fields) ++ codes ">" ++ text_at values content
      ≡ (codes "<" ++ tag) ++ attributes_text values parts content
  xml_text name tag fields parts content tag_is fields_are =
      let rest = flat_map (λ text. codes " " ++ text) (field_texts_at values parts) in
      let all : codes "<" ++ joined (codes " ") (name ∷ fields) ++ codes ">" ++ text_at values content
      ≡ codes "<" ++ (tag ++ rest) ++ codes ">" ++ text_at values content = cc in
      all ∙ simp append_assoc refl
