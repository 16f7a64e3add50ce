-- The value of a document is data.
use Rattle.std.proofs.Common.{ℕ, Bool, true, false, List, [], ◌∷◌}
use Rattle.std.specs.Prelude.{if◌then◌else◌}
use Rattle.std.specs.Ordering.{nat_cmp, is_lt}
use Rattle.std.specs.Cmp.Lexicographic.{slice_cmp}
use Rattle.cd_syntax.specs.declared.tokens.Token.{Token}
use Rattle.cd_syntax.specs.Name.{Name}
use Rattle.cd_model.specs.Thing.{Thing, Fields, NoField, Field, IsData, AreData}
use Rattle.cd_documents.specs.Document as document
use Rattle.cd_documents.specs.Document.{characters_before, with_field, IsDocument, AreParts, AreItems, AreFields, AreMoreFields, AreAttributes}

characters_data : (cs : List ℕ) (rest : Thing) → IsData rest → IsData (characters_before cs rest)
characters_data [] rest is = is
characters_data (c ∷ cs) rest is = (tt, characters_data cs rest is)

either : (b : Bool) (one other : Fields) → AreData one → AreData other → AreData (if b then one else other)
either true one other are are_other = are
either false one other are are_other = are_other

field_data : (label : Name) (value : Thing) (fields : Fields) → IsData value → AreData fields → AreData (with_field label value fields)
field_data label value NoField is are = (is, tt)
field_data label value (Field other one rest) is are =
    either (is_lt (slice_cmp nat_cmp label other)) (Field label value (Field other one rest)) (Field other one (with_field label value rest))
    (is, are) (are.0, field_data label value rest is are.1)

mutual
  pub is_data : (depth : ℕ) (tokens : List Token) (value : Thing) → IsDocument depth tokens value → IsData value
  is_data _ _ _ (document.number depth n span) = tt
  is_data _ _ _ (document.character depth c span) = tt
  is_data _ _ _ (document.text depth cs span) = characters_data cs _ tt
  is_data _ _ _ (document.atom depth name span) = tt
  is_data _ _ _ (document.tuple depth left right tokens value parts) = parts_data depth tokens value parts
  is_data _ _ _ (document.sequence depth left right tokens value items) = items_data depth tokens value items
  is_data _ _ _ (document.fields depth left right tokens all are) = fields_data depth [] tokens all are
  is_data _ _ _ (document.xml depth left span right tag tokens content attributes value label are is) =
      (tt, attributes_data depth [] tokens attributes are, is_data depth content value is)

  parts_data : (depth : ℕ) (tokens : List Token) (value : Thing) → AreParts depth tokens value → IsData value
  parts_data _ _ _ (document.last_part depth tokens value is) = is_data depth tokens value is
  parts_data _ _ _ (document.part depth comma tokens rest value others is parts) = (is_data depth tokens value is, parts_data depth rest others parts)

  items_data : (depth : ℕ) (tokens : List Token) (value : Thing) → AreItems depth tokens value → IsData value
  items_data _ _ _ (document.no_item depth) = tt
  items_data _ _ _ (document.characters depth cs span rest others items) = characters_data cs others (items_data depth rest others items)
  items_data _ _ _ (document.item depth tokens rest value others is items) = (is_data depth tokens value is, items_data depth rest others items)

  fields_data : (depth : ℕ) (labels : List Name) (tokens : List Token) (all : Fields) → AreFields depth labels tokens all → AreData all
  fields_data _ _ _ _ (document.no_field depth labels) = tt
  fields_data _ _ _ _ (document.field depth labels label span equal tokens rest value others other new is are) =
      field_data label value others (is_data depth tokens value is) (more_data depth (label ∷ labels) rest others are)

  more_data : (depth : ℕ) (labels : List Name) (tokens : List Token) (all : Fields) → AreMoreFields depth labels tokens all → AreData all
  more_data _ _ _ _ (document.no_more depth labels) = tt
  more_data _ _ _ _ (document.semicolon depth labels span tokens all are) = fields_data depth labels tokens all are

  attributes_data : (depth : ℕ) (labels : List Name) (tokens : List Token) (all : Fields) → AreAttributes depth labels tokens all → AreData all
  attributes_data _ _ _ _ (document.no_attribute depth labels) = tt
  attributes_data _ _ _ _ (document.attribute depth labels label span equal tokens mark rest value others other new is marked are) =
      field_data label value others (is_data depth tokens value is) (attributes_data depth (label ∷ labels) rest others are)
