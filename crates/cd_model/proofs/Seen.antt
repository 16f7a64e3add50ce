-- A written type whose names all have a fact, as a type that stands for itself; and so do the parts of its head.
use Rattle.std.proofs.Common.{◌≡◌, true, false, List, [], ◌∷◌, ◌⊎◌, inl, inr, refl, bytes_eq}
use Rattle.std.proofs.lemmas.Bool.{cases_Bool}
use Rattle.cd_syntax.specs.Name.{Name}
use Rattle.cd_syntax.specs.declared.builtin.BuiltinName.{BuiltinName}
use Rattle.cd_syntax.specs.TypeTree as type
use Rattle.cd_syntax.specs.TypeTree.{Tree, Kind, Trees, NoTree, ATree}
use Rattle.cd_model.specs.Alike as heads
use Rattle.cd_model.specs.Alike.{FieldsStand, HeadsIfAny, HeadsStand, RegularsStand, RowsStand}
use Rattle.cd_model.specs.AllOf.{AllOf}
use Rattle.cd_model.specs.Scope.{Scope, Declared, names_in, names_in_fields, names_in_rest, names_in_regular, names_in_regular_kind, names_in_regulars, names_over}
use Rattle.cd_model.specs.Types.{FieldOf, field_of}
use Rattle.cd_model.specs.Written.{WrittenType, alone, within, type_named, rest_in, tuple_rest, arrows_rest, tuple_head, arrows_head, text_head, named_in, regular_in, regular_kind_in, regulars_in, head_of}
use Rattle.cd_model.proofs.Covered.{Covered, each_parts, covered_tree}
use Rattle.cd_model.proofs.CoveredParts.{covered_first, covered_tuple, covered_argument, covered_arrows, covered_xml}

pub record IsSeen (Fact : Declared → Type 0) (one other : WrittenType) : Type 0 where
  pub covered : Covered Fact one.scope one.kind
  pub same : one ≡ other

module _ (Fact : Declared → Type 0) where
  seen : (one : WrittenType) → Covered Fact one.scope one.kind → IsSeen Fact one one
  seen one covered = record { covered = covered; same = refl }

  pub seen_named : (name : BuiltinName) → IsSeen Fact (type_named name) (type_named name)
  seen_named name = seen (type_named name) (record { within = tt; over = tt })

  seen_rest : (scope : Scope) (rest : type.Rest) → AllOf Fact (names_in_rest scope rest)
      → AllOf Fact (names_over scope) → IsSeen Fact (rest_in scope rest) (rest_in scope rest)
  seen_rest scope type.Closed each over = seen_named _
  seen_rest scope type.Open each over = seen_named _
  seen_rest scope (type.Typed is) each over = seen (within scope is) (covered_tree Fact scope is each over)

  seen_field : (scope : Scope) (fields : type.Fields) (rest : WrittenType) (label : Name) → AllOf Fact (names_in_fields scope fields)
      → AllOf Fact (names_over scope) → IsSeen Fact rest rest
      → FieldsStand (IsSeen Fact) (field_of (named_in scope fields) rest label) (field_of (named_in scope fields) rest label)
  seen_field scope type.NoField rest label each over rest_is = record { optional = refl; type = rest_is }
  seen_field scope (type.AField name at optional is fields) rest label each over rest_is =
      by_name (cases_Bool (bytes_eq name label)) (each_parts Fact (names_in scope is) (names_in_fields scope fields) each)
      (λ each. seen_field scope fields rest label each over rest_is)
    where
      all : List (Name × FieldOf WrittenType)
      all = named_in scope (type.AField name at optional is fields)

      by_name : (bytes_eq name label ≡ true) ⊎ (bytes_eq name label ≡ false)
          → AllOf Fact (names_in scope is) × AllOf Fact (names_in_fields scope fields)
          → (AllOf Fact (names_in_fields scope fields)
          → FieldsStand (IsSeen Fact) (field_of (named_in scope fields) rest label) (field_of (named_in scope fields) rest label))
          → FieldsStand (IsSeen Fact) (field_of all rest label) (field_of all rest label)
      by_name (inl equal) parts later =
          rw equal (record { optional = refl; type = seen (within scope is) (covered_tree Fact scope is parts.0 over) })
      by_name (inr differs) parts later = rw differs (later parts.1)

  mutual
    seen_regular : (scope : Scope) (is : type.Regular) → AllOf Fact (names_in_regular scope is) → AllOf Fact (names_over scope)
        → RegularsStand (IsSeen Fact) (regular_in scope is) (regular_in scope is)
    seen_regular scope (type.regular span kind) each over = seen_kind scope kind each over

    seen_kind : (scope : Scope) (kind : type.RegularKind) → AllOf Fact (names_in_regular_kind scope kind) → AllOf Fact (names_over scope)
        → RegularsStand (IsSeen Fact) (regular_kind_in scope kind) (regular_kind_in scope kind)
    seen_kind scope type.Nothing each over = heads.no_item
    seen_kind scope (type.Item is) each over = heads.an_item _ _ (seen (within scope is) (covered_tree Fact scope is each over))
    seen_kind scope (type.Seq all) each over = heads.in_turn _ _ (seen_rows scope all each over)
    seen_kind scope (type.Alt all) each over = heads.one_of _ _ (seen_rows scope all each over)
    seen_kind scope (type.Repeat is post) each over = heads.repeat _ _ post (seen_regular scope is each over)
    seen_kind scope (type.Capture name is) each over = heads.one_of _ _ heads.no_more

    seen_rows : (scope : Scope) (all : type.Regulars) → AllOf Fact (names_in_regulars scope all) → AllOf Fact (names_over scope)
        → RowsStand (IsSeen Fact) (regulars_in scope all) (regulars_in scope all)
    seen_rows scope type.NoRegular each over = heads.no_more
    seen_rows scope (type.ARegular first rest) each over = heads.one_more _ _ _ _
        (seen_regular scope first (each_parts Fact (names_in_regular scope first) (names_in_regulars scope rest) each).0 over)
        (seen_rows scope rest (each_parts Fact (names_in_regular scope first) (names_in_regulars scope rest) each).1 over)

  seen_text : (text : List _) → HeadsStand (IsSeen Fact) (text_head text) (text_head text)
  seen_text [] = heads.atoms _ _ (λ name. refl)
  seen_text (c ∷ text) = heads.products _ _ _ _
      (seen (alone (type.Chars c c)) (record { within = tt; over = tt })) (seen (alone (type.Text text)) (record { within = tt; over = tt }))

  seen_tuple : (scope : Scope) (trees : Trees) → Covered Fact scope (type.Tuple trees)
      → HeadsIfAny (IsSeen Fact) (tuple_head scope trees) (tuple_head scope trees)
  seen_tuple scope (ATree is (ATree next rest)) covered = heads.both _ _ (heads.products _ _ _ _
      (seen (within scope is) (covered_first Fact scope is (ATree next rest) covered))
      (seen (record { scope = scope; kind = tuple_rest (ATree next rest) }) (covered_tuple Fact scope is (ATree next rest) covered)))
  seen_tuple scope _ covered = heads.neither

  seen_arrows : (scope : Scope) (trees : Trees) → Covered Fact scope (type.Arrows trees)
      → HeadsIfAny (IsSeen Fact) (arrows_head scope trees) (arrows_head scope trees)
  seen_arrows scope (ATree is (ATree next rest)) covered = heads.both _ _ (heads.arrows _ _ _ _
      (seen (within scope is) (covered_argument Fact scope is (ATree next rest) covered))
      (seen (record { scope = scope; kind = arrows_rest (ATree next rest) }) (covered_arrows Fact scope is (ATree next rest) covered)))
  seen_arrows scope _ covered = heads.neither

  pub seen_head : (scope : Scope) (kind : Kind) → Covered Fact scope kind
      → HeadsIfAny (IsSeen Fact) (head_of scope kind) (head_of scope kind)
  seen_head scope (type.Ints low high) covered = heads.both _ _ (heads.integers _ _ (λ n. refl))
  seen_head scope (type.Chars low high) covered = heads.both _ _ (heads.characters _ _ (λ n. refl))
  seen_head scope (type.Atom name) covered = heads.both _ _ (heads.atoms _ _ (λ n. refl))
  seen_head scope (type.Text text) covered = heads.both _ _ (seen_text text)
  seen_head scope (type.Tuple trees) covered = seen_tuple scope trees covered
  seen_head scope (type.Arrows trees) covered = seen_arrows scope trees covered
  seen_head scope (type.Sequence is) covered = heads.both _ _ (heads.sequences _ _ (seen_regular scope is covered.within covered.over))
  seen_head scope (type.Record fields rest) covered =
      let parts = each_parts Fact (names_in_fields scope fields) (names_in_rest scope rest) covered.within in
      heads.both _ _ (heads.records _ _ _ _
      (λ label. seen_field scope fields (rest_in scope rest) label parts.0 covered.over (seen_rest scope rest parts.1 covered.over)))
  seen_head scope (type.Xml tag attributes content) covered =
      let parts = covered_xml Fact scope tag attributes content covered in heads.both _ _ (heads.xmls _ _ _ _ _ _
      (seen (within scope tag) parts.tag_is) (seen (within scope attributes) parts.attributes_are)
      (seen (within scope content) parts.content_is))
  seen_head scope _ covered = heads.neither
