-- A pattern with nodes in the places of its types is the written one, with nodes that go together
-- with its types.
use Rattle.std.proofs.Common.{Bool, true, false, cond, List, [], ◌∷◌, refl, sym, subst}
use Rattle.cd_sets.specs.declared.node_id.NodeId.{NodeId}
use Rattle.cd_syntax.specs.declared.tokens.Span.{Span}
use Rattle.cd_syntax.specs.TypeTree as type
use Rattle.cd_syntax.specs.TypeTree.{Tree, tree, Kind, Trees, NoTree, ATree, Signs, NoSign, ASign}
use Rattle.cd_syntax.specs.TypeTree.{Fields, NoField}
use Rattle.cd_syntax.specs.TypeTree.{AField, Regular, regular, RegularKind, Regulars, NoRegular}
use Rattle.cd_syntax.specs.TypeTree.{ARegular}
use Rattle.cd_model.specs.Scope.{Scope}
use Rattle.cd_model.specs.Written.{Written}
use Rattle.cd_matching.specs.Pattern as pattern
use Rattle.cd_matching.specs.Pattern.{Pattern, Patterns, NoPattern, APattern, patterns_of}
use Rattle.cd_matching.specs.Pattern.{regulars_of}
use Rattle.cd_matching.specs.PatternsAlike.{Alike, AlikeAll, AlikeFields, AlikeRegular}
use Rattle.cd_matching.specs.PatternsAlike.{AlikeRegulars}
use Rattle.cd_matching.specs.PlainPattern.{Field, fields_of}
use Rattle.cd_matching.specs.WrittenPattern.{kind_has, in_scope, outside, pattern_of, kind_pattern}
use Rattle.cd_matching.specs.WrittenPattern.{tuple_pattern, others_in}
use Rattle.cd_matching.specs.WrittenPattern.{patterns, signed_patterns, field_patterns}
use Rattle.cd_matching.specs.WrittenPattern.{regular_pattern}
use Rattle.cd_matching.specs.WrittenPattern.{regular_kind_pattern, regular_patterns}
use Rattle.cd_patterns.specs.Inner.Types.{Filled, taken, filled, all_filled, fields_filled}
use Rattle.cd_patterns.specs.Inner.Types.{regular_filled}
use Rattle.cd_patterns.specs.Inner.Types.{regulars_filled}
use Rattle.cd_patterns.proofs.Filling.{all_later, fields_later, regulars_later}
use Rattle.cd_patterns.proofs.TypesInTurn.{types_before, all_before, fields_before, regular_before}
use Rattle.cd_patterns.proofs.TypesInTurn.{regulars_before}

module _ (Are : NodeId → Written → Type 0) (scope : Scope) where
  -- a node goes together with a tree in the scope
  abbrev pub Is : NodeId → Written → Type 0
  Is id type = Are id (in_scope scope type.tree)

  -- the first nodes go together with these types, and there may be more nodes
  abbrev pub Begin : List NodeId → List Written → Type 0
  Begin ids [] = Unit {0}
  Begin [] (type ∷ types) = ⊥
  Begin (id ∷ ids) (type ∷ types) = Is id type × Begin ids types

  -- a pattern that is alike, where nodes are left that go together with more types
  abbrev Fits : Pattern Written → List Written → Filled (Pattern NodeId) → Type 0
  Fits p more one = Alike Are one.0 p × Begin one.1 more

  abbrev FitAll : Patterns Written → List Written → Filled (List (Pattern NodeId)) → Type 0
  FitAll p more all = AlikeAll Are (patterns_of all.0) p × Begin all.1 more

  abbrev FitFields : pattern.Fields Written → List Written → Filled (List Field) → Type 0
  FitFields p more all = AlikeFields Are (fields_of all.0) p × Begin all.1 more

  abbrev FitsRegular : pattern.Regular Written → List Written → Filled (pattern.Regular NodeId)
      → Type 0
  FitsRegular p more one = AlikeRegular Are one.0 p × Begin one.1 more

  abbrev FitRegulars : pattern.Regulars Written → List Written → Filled
      (List (pattern.Regular NodeId)) → Type 0
  FitRegulars p more all = AlikeRegulars Are (regulars_of all.0) p × Begin all.1 more

  next_is : (type : Written) (ids : List NodeId) (more : List Written) → Begin ids (type ∷ more)
      → Is (taken ids).0 type × Begin (taken ids).1 more
  next_is type [] more begin = elim begin [ ]
  next_is type (id ∷ ids) more begin = begin

  -- a tree is a type, or what its kind is
  by_kind : (span : Span) (kind : Kind) (ids : List NodeId) (more : List Written)
      → (Begin ids (types_before (kind_pattern [] kind) more)
      → Fits (kind_pattern scope kind) more (filled (kind_pattern [] kind) ids))
      → (has : Bool)
      → Begin ids
      (types_before
      (cond has (kind_pattern [] kind) (pattern.OfType (in_scope [] (tree span kind)))) more)
      → Fits (cond has (kind_pattern scope kind) (pattern.OfType (in_scope scope (tree span kind))))
      more
      (filled (cond has (kind_pattern [] kind) (pattern.OfType (in_scope [] (tree span kind)))) ids)
  by_kind span kind ids more on true begin = on begin
  by_kind span kind ids more on false begin = next_is (in_scope [] (tree span kind)) ids more begin

  mutual
    pub tree_fits : (is : Tree) (ids : List NodeId) (more : List Written)
        → Begin ids (types_before (pattern_of [] is) more)
        → Fits (pattern_of scope is) more (filled (pattern_of [] is) ids)
    tree_fits (tree span kind) ids more begin =
        by_kind span kind ids more (kind_fits kind ids more) (kind_has kind) begin

    kind_fits : (kind : Kind) (ids : List NodeId) (more : List Written)
        → Begin ids (types_before (kind_pattern [] kind) more)
        → Fits (kind_pattern scope kind) more (filled (kind_pattern [] kind) ids)
    kind_fits (type.Builtin _) ids more begin = (tt, begin)
    kind_fits (type.Ints _ _) ids more begin = (tt, begin)
    kind_fits (type.Chars _ _) ids more begin = (tt, begin)
    kind_fits (type.Atom _) ids more begin = (tt, begin)
    kind_fits (type.Text _) ids more begin = (tt, begin)
    kind_fits (type.Tuple trees) ids more begin = tuple_fits trees ids more begin
    kind_fits (type.Arrows _) ids more begin = (tt, begin)
    kind_fits (type.Union trees) ids more begin = all_fit trees ids more begin
    kind_fits (type.Meet first signs) ids more begin =
        let one = tree_fits first ids (all_before (signed_patterns [] signs) more) begin in
        let before = filled (pattern_of [] first) ids in
        let later = signs_fit signs before.1 more one.1 in
        subst (FitAll (APattern (pattern_of scope first) (signed_patterns scope signs)) more)
        (sym (all_later (signed_patterns [] signs) (before.0 ∷ []) before.1))
        ((one.0, later.0), later.1)
    kind_fits (type.Sequence is) ids more begin = regular_fits is ids more begin
    kind_fits (type.Record fields type.Closed) ids more begin =
        let all = fields_fit fields ids more begin in ((all.0, refl), all.1)
    kind_fits (type.Record fields type.Open) ids more begin =
        let all = fields_fit fields ids more begin in ((all.0, refl), all.1)
    kind_fits (type.Record fields (type.Typed is)) ids more begin =
        let others = in_scope [] (others_in fields is) in
        let all = fields_fit fields ids (others ∷ more) begin in
        let left = (fields_filled (field_patterns [] fields) [] ids).1 in
        let one = next_is others left more all.1 in
        (((all.0, refl), (one.0, tt)), one.1)
    kind_fits (type.Xml tag attributes content) ids more begin =
        let one = tree_fits tag ids (types_before (pattern_of [] attributes)
        (types_before (pattern_of [] content) more))
        begin in
        let first = filled (pattern_of [] tag) ids in
        let two = tree_fits attributes first.1 (types_before (pattern_of [] content) more) one.1 in
        let second = filled (pattern_of [] attributes) first.1 in
        let three = tree_fits content second.1 more two.1 in
        ((one.0, two.0, three.0), three.1)
    kind_fits (type.Named _) ids more begin = (tt, begin)
    kind_fits (type.Where _ _) ids more begin = (tt, begin)
    kind_fits (type.Variable name) ids more begin = (refl, begin)
    kind_fits (type.Default name constant) ids more begin = ((refl, refl), begin)

    tuple_fits : (trees : Trees) (ids : List NodeId) (more : List Written)
        → Begin ids (types_before (tuple_pattern [] trees) more)
        → Fits (tuple_pattern scope trees) more (filled (tuple_pattern [] trees) ids)
    tuple_fits NoTree ids more begin = (tt, begin)
    tuple_fits (ATree first NoTree) ids more begin = tree_fits first ids more begin
    tuple_fits (ATree first (ATree next rest)) ids more begin =
        let one = tree_fits first ids (types_before (tuple_pattern [] (ATree next rest)) more) begin
        in
        let before = filled (pattern_of [] first) ids in
        let later = tuple_fits (ATree next rest) before.1 more one.1 in
        ((one.0, later.0), later.1)

    all_fit : (trees : Trees) (ids : List NodeId) (more : List Written)
        → Begin ids (all_before (patterns [] trees) more)
        → FitAll (patterns scope trees) more (all_filled (patterns [] trees) [] ids)
    all_fit NoTree ids more begin = (tt, begin)
    all_fit (ATree first rest) ids more begin =
        let one = tree_fits first ids (all_before (patterns [] rest) more) begin in
        let before = filled (pattern_of [] first) ids in
        let later = all_fit rest before.1 more one.1 in
        subst (FitAll (APattern (pattern_of scope first) (patterns scope rest)) more)
        (sym (all_later (patterns [] rest) (before.0 ∷ []) before.1)) ((one.0, later.0), later.1)

    signs_fit : (signs : Signs) (ids : List NodeId) (more : List Written)
        → Begin ids (all_before (signed_patterns [] signs) more)
        → FitAll (signed_patterns scope signs) more (all_filled (signed_patterns [] signs) [] ids)
    signs_fit NoSign ids more begin = (tt, begin)
    signs_fit (ASign true is rest) ids more begin =
        let one = tree_fits is ids (all_before (signed_patterns [] rest) more) begin in
        let before = filled (pattern_of [] is) ids in
        let later = signs_fit rest before.1 more one.1 in
        subst (FitAll (APattern (pattern_of scope is) (signed_patterns scope rest)) more)
        (sym (all_later (signed_patterns [] rest) (before.0 ∷ []) before.1))
        ((one.0, later.0), later.1)
    signs_fit (ASign false is rest) ids more begin =
        let one = next_is (in_scope [] (outside is)) ids (all_before (signed_patterns [] rest) more)
        begin in
        let before = taken ids in
        let later = signs_fit rest before.1 more one.1 in
        subst
        (FitAll (APattern (pattern.OfType (in_scope scope (outside is)))
        (signed_patterns scope rest)) more)
        (sym (all_later (signed_patterns [] rest) (pattern.OfType before.0 ∷ []) before.1))
        ((one.0, later.0), later.1)

    fields_fit : (fields : Fields) (ids : List NodeId) (more : List Written)
        → Begin ids (fields_before (field_patterns [] fields) more)
        → FitFields (field_patterns scope fields) more
        (fields_filled (field_patterns [] fields) [] ids)
    fields_fit NoField ids more begin = (tt, begin)
    fields_fit (AField label at true is rest) ids more begin =
        let one = next_is (in_scope [] is) ids (fields_before (field_patterns [] rest) more) begin
        in
        let before = taken ids in
        let later = fields_fit rest before.1 more one.1 in
        subst (FitFields (pattern.Optional label (in_scope scope is) (field_patterns scope rest))
        more)
        (sym (fields_later (field_patterns [] rest) (pattern.Optional label before.0 ∷ [])
        before.1))
        ((refl, one.0, later.0), later.1)
    fields_fit (AField label at false is rest) ids more begin =
        let one = tree_fits is ids (fields_before (field_patterns [] rest) more) begin in
        let before = filled (pattern_of [] is) ids in
        let later = fields_fit rest before.1 more one.1 in
        subst (FitFields (pattern.Present label (pattern_of scope is) (field_patterns scope rest))
        more)
        (sym (fields_later (field_patterns [] rest) (pattern.Present label before.0 ∷ []) before.1))
        ((refl, one.0, later.0), later.1)

    regular_fits : (is : Regular) (ids : List NodeId) (more : List Written)
        → Begin ids (regular_before (regular_pattern [] is) more)
        → FitsRegular (regular_pattern scope is) more (regular_filled (regular_pattern [] is) ids)
    regular_fits (regular span kind) ids more begin = regular_kind_fits kind ids more begin

    regular_kind_fits : (kind : RegularKind) (ids : List NodeId) (more : List Written)
        → Begin ids (regular_before (regular_kind_pattern [] kind) more)
        → FitsRegular (regular_kind_pattern scope kind) more
        (regular_filled (regular_kind_pattern [] kind) ids)
    regular_kind_fits type.Nothing ids more begin = (tt, begin)
    regular_kind_fits (type.Item is) ids more begin = tree_fits is ids more begin
    regular_kind_fits (type.Seq all) ids more begin = regulars_fit all ids more begin
    regular_kind_fits (type.Alt all) ids more begin = regulars_fit all ids more begin
    regular_kind_fits (type.Repeat is post) ids more begin =
        let one = regular_fits is ids more begin in ((one.0, refl), one.1)
    regular_kind_fits (type.Capture name is) ids more begin =
        let one = regular_fits is ids more begin in ((refl, one.0), one.1)

    regulars_fit : (all : Regulars) (ids : List NodeId) (more : List Written)
        → Begin ids (regulars_before (regular_patterns [] all) more)
        → FitRegulars (regular_patterns scope all) more
        (regulars_filled (regular_patterns [] all) [] ids)
    regulars_fit NoRegular ids more begin = (tt, begin)
    regulars_fit (ARegular first rest) ids more begin =
        let one = regular_fits first ids (regulars_before (regular_patterns [] rest) more) begin in
        let before = regular_filled (regular_pattern [] first) ids in
        let later = regulars_fit rest before.1 more one.1 in
        subst
        (FitRegulars (pattern.ARegular (regular_pattern scope first) (regular_patterns scope rest))
        more)
        (sym (regulars_later (regular_patterns [] rest) (before.0 ∷ []) before.1))
        ((one.0, later.0), later.1)
