-- What looks at elements tell of their texts.
use Rattle.std.proofs.Common.{◌≡◌, Bool, true, false, Option, None, Some, List, [], ◌∷◌, ◌++◌, map, bytes_eq, refl, ap, ◌∙◌}
use Rattle.std.proofs.Common.{append_assoc}
use Rattle.std.specs.Prelude.{codes, if◌then◌else◌}
use Rattle.std.specs.Str.{chars}
use Rattle.std.proofs.lemmas.Str.{chars-nil}
use Rattle.cd_model.specs.Canonical.{Text, part_text, plainly, nil_printed, atom_printed, canonical, printed, field_texts}
use Rattle.cd_model.specs.Canonical.{pair_texts}
use Rattle.cd_syntax.specs.Name.{Name}
use Rattle.cd_model.specs.Thing as thing
use Rattle.cd_model.specs.Thing.{Thing, Pairs}
use Rattle.cd_elements.specs.declared.shape.ElementId.{ElementId}
use Rattle.cd_elements.specs.Table.{element_at, fields_of, pair_before, result_at, pairs_of}
use Rattle.cd_elements.specs.Inner.Tasks.{text_in, part_in}
use Rattle.cd_elements.specs.Inner.Rows.{part_text_in, result_text_in, pair_text_in}

pub no_characters : chars [] ≡ []
no_characters = chars-nil

pub fields_written : (table : List Thing) (parts : List (Name × ElementId))
    → field_texts (fields_of table parts) ≡ map (part_text_in table) parts
fields_written table [] = refl
fields_written table (part ∷ parts) = ap (λ rest. part_text_in table part ∷ rest) (fields_written table parts)

pub pairs_written : (table : List Thing) (pairs : List (ElementId × Option ElementId))
    → pair_texts (pairs_of table pairs) ≡ map (pair_text_in table) pairs
pairs_written table [] = refl
pairs_written table (pair ∷ pairs) =
    pair_first (element_at table pair.0) (text_in table pair.0) (pairs_of table pairs) pair.1
    ∙ ap (λ rest. pair_text_in table pair ∷ rest) (pairs_written table pairs)
  where
    pair_first : (argument : Thing) (text : Text) (rest : Pairs) (id : Option ElementId)
        → pair_texts (pair_before argument (result_at table id) rest)
        ≡ (canonical argument ++ result_text_in table id) ∷ pair_texts rest
    pair_first argument text rest None = refl
    pair_first argument text rest (Some id) =
        ap (λ one. one ∷ pair_texts rest) (append_assoc (canonical argument) (codes " => ") (text_in table id))

-- a part of a spine that is no sequence is written as the element that it is
atom_part : (name : Name) → part_text (atom_printed name).part ≡ (atom_printed name).text
atom_part name = either (bytes_eq name (codes "nil"))
  where
    either : (is : Bool) → part_text (if is then nil_printed else plainly (codes "`" ++ name)).part
        ≡ (if is then nil_printed else plainly (codes "`" ++ name)).text
    either true = refl
    either false = refl

part_written : (one : Thing) → part_text (printed one).part ≡ canonical one
part_written (thing.Integer n) = refl
part_written (thing.Character c) = refl
part_written (thing.Atom name) = atom_part name
part_written (thing.Pair first second) = refl
part_written (thing.Xml tag attributes content) = refl
part_written (thing.Record fields) = refl
part_written (thing.Function pairs) = refl
part_written (thing.Closure function environment) = refl

pub parts_written : (table : List Thing) (ids : List ElementId)
    → map part_text (map (part_in table) ids) ≡ map (text_in table) ids
parts_written table [] = refl
parts_written table (id ∷ ids) = cc (part_written (element_at table id), parts_written table ids)
