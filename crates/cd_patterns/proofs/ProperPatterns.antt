-- The labels of the pattern of a well made tree are labels, and its atoms are. So they are in a
-- pattern that is alike, which is well made where its constants fit.
use Rattle.std.proofs.Common.{Bool, true, false, if◌then◌else◌, sym, subst}
use Rattle.cd_syntax.specs.Name.{IsLabel}
use Rattle.cd_syntax.specs.declared.constant.Constant.{Constant}
use Rattle.cd_syntax.specs.declared.constant.Constant.TheVariants as constant
use Rattle.cd_syntax.specs.TypeTree as type
use Rattle.cd_syntax.specs.TypeTree.{Tree, tree, Kind, Trees, NoTree, ATree, Signs, NoSign, ASign}
use Rattle.cd_syntax.specs.WellMadePattern.{IsWellMadeConstant, IsWellMadePattern}
use Rattle.cd_syntax.specs.WellMadePattern.{IsWellMadePatternKind, AreWellMadePatterns}
use Rattle.cd_syntax.specs.WellMadePattern.{AreWellMadePatternSigns, AreWellMadePatternFields}
use Rattle.cd_syntax.specs.WellMadePattern.{IsWellMadePatternRegular, IsWellMadePatternRegularKind}
use Rattle.cd_syntax.specs.WellMadePattern.{AreWellMadePatternRegulars}
use Rattle.cd_model.specs.Scope.{Scope}
use Rattle.cd_model.specs.Thing.{IsElement}
use Rattle.cd_model.specs.Written.{Written}
use Rattle.cd_matching.specs.Pattern as pattern
use Rattle.cd_matching.specs.Pattern.{Pattern, Patterns, NoPattern, APattern, Fields, NoField}
use Rattle.cd_matching.specs.Pattern.{Present, Optional, Regular, Regulars, NoRegular, ARegular}
use Rattle.cd_matching.specs.PatternsAlike.{Alike, AlikeAll, AlikeFields, AlikeRegular}
use Rattle.cd_matching.specs.PatternsAlike.{AlikeRegulars}
use Rattle.cd_matching.specs.Sequences.{thing_of}
use Rattle.cd_matching.specs.WrittenPattern.{in_scope, kind_has, pattern_of, kind_pattern}
use Rattle.cd_matching.specs.WrittenPattern.{tuple_pattern, patterns, signed_patterns}
use Rattle.cd_matching.specs.WrittenPattern.{field_patterns, regular_pattern}
use Rattle.cd_matching.specs.WrittenPattern.{regular_kind_pattern, regular_patterns}
use Rattle.cd_kernel.specs.Labelled.{HasLabels, HaveLabels, FieldsHaveLabels, RegularHasLabels}
use Rattle.cd_kernel.specs.Labelled.{RegularsHaveLabels}
use Rattle.cd_kernel.specs.WellMade.{IsWellMade, AreWellMade, AreWellMadeFields}
use Rattle.cd_kernel.specs.WellMade.{IsWellMadeRegular, AreWellMadeRegulars}
use Rattle.cd_patterns.specs.Inner.Fitting.{Fits, ConstantsFit, ConstantsOfAllFit}
use Rattle.cd_patterns.specs.Inner.Fitting.{ConstantsOfFieldsFit, ConstantsOfItemsFit}
use Rattle.cd_patterns.specs.Inner.Fitting.{ConstantsOfPartsFit}

abbrev mutual
  pub IsProper : {T : Type 0} → Pattern T → Type 0
  IsProper (pattern.Default name constant) = IsWellMadeConstant constant
  IsProper (pattern.Pair p q) = IsProper p × IsProper q
  IsProper (pattern.Xml p q r) = IsProper p × IsProper q × IsProper r
  IsProper (pattern.Record fields more) = AreProperFields fields
  IsProper (pattern.Both all) = AreProper all
  IsProper (pattern.First all) = AreProper all
  IsProper (pattern.Sequence r) = IsProperRegular r
  IsProper p = Unit {0}

  AreProper : {T : Type 0} → Patterns T → Type 0
  AreProper NoPattern = Unit {0}
  AreProper (APattern first rest) = IsProper first × AreProper rest

  AreProperFields : {T : Type 0} → Fields T → Type 0
  AreProperFields NoField = Unit {0}
  AreProperFields (Present label p rest) = IsLabel label × IsProper p × AreProperFields rest
  AreProperFields (Optional label type rest) = IsLabel label × AreProperFields rest

  IsProperRegular : {T : Type 0} → Regular T → Type 0
  IsProperRegular pattern.Nothing = Unit {0}
  IsProperRegular (pattern.Item p) = IsProper p
  IsProperRegular (pattern.Seq all) = AreProperRegulars all
  IsProperRegular (pattern.Alt all) = AreProperRegulars all
  IsProperRegular (pattern.Repeat r post) = IsProperRegular r
  IsProperRegular (pattern.Capture name r) = IsProperRegular r

  AreProperRegulars : {T : Type 0} → Regulars T → Type 0
  AreProperRegulars NoRegular = Unit {0}
  AreProperRegulars (ARegular first rest) = IsProperRegular first × AreProperRegulars rest

module _ (scope : Scope) where
  -- a tree is a type, or what its kind is
  by_kind : (p : Pattern Written) (type : Written) (has : Bool) → IsProper p
      → IsProper (if has then p else pattern.OfType type)
  by_kind p type true proper = proper
  by_kind p type false proper = tt

  mutual
    pub tree_proper : (is : Tree) → IsWellMadePattern is → IsProper (pattern_of scope is)
    tree_proper (tree span kind) made = by_kind (kind_pattern scope kind)
        (in_scope scope (tree span kind)) (kind_has kind) (kind_proper kind made)

    kind_proper : (kind : Kind) → IsWellMadePatternKind kind → IsProper (kind_pattern scope kind)
    kind_proper (type.Variable name) made = tt
    kind_proper (type.Default name constant) made = made.1
    kind_proper (type.Tuple trees) made = tuple_proper trees made.1
    kind_proper (type.Union trees) made = all_proper trees made
    kind_proper (type.Meet first signs) made =
        (tree_proper first made.0, signs_proper signs made.1)
    kind_proper (type.Sequence is) made = regular_proper is made
    kind_proper (type.Record fields type.Closed) made = fields_proper fields made.0
    kind_proper (type.Record fields type.Open) made = fields_proper fields made.0
    kind_proper (type.Record fields (type.Typed is)) made = (fields_proper fields made.0, (tt, tt))
    kind_proper (type.Xml tag attributes content) made =
        (tree_proper tag made.0, tree_proper attributes made.1, tree_proper content made.2)
    kind_proper (type.Builtin _) made = tt
    kind_proper (type.Ints _ _) made = tt
    kind_proper (type.Chars _ _) made = tt
    kind_proper (type.Atom _) made = tt
    kind_proper (type.Text _) made = tt
    kind_proper (type.Arrows _) made = tt
    kind_proper (type.Named _) made = tt
    kind_proper (type.Where _ _) made = tt

    tuple_proper : (trees : Trees) → AreWellMadePatterns trees
        → IsProper (tuple_pattern scope trees)
    tuple_proper NoTree made = tt
    tuple_proper (ATree first NoTree) made = tree_proper first made.0
    tuple_proper (ATree first (ATree next rest)) made =
        (tree_proper first made.0, tuple_proper (ATree next rest) made.1)

    all_proper : (trees : Trees) → AreWellMadePatterns trees → AreProper (patterns scope trees)
    all_proper NoTree made = tt
    all_proper (ATree first rest) made = (tree_proper first made.0, all_proper rest made.1)

    signs_proper : (signs : Signs) → AreWellMadePatternSigns signs
        → AreProper (signed_patterns scope signs)
    signs_proper NoSign made = tt
    signs_proper (ASign true is rest) made = (tree_proper is made.0, signs_proper rest made.1)
    signs_proper (ASign false is rest) made = (tt, signs_proper rest made.1)

    fields_proper : (fields : type.Fields) → AreWellMadePatternFields fields
        → AreProperFields (field_patterns scope fields)
    fields_proper type.NoField made = tt
    fields_proper (type.AField label at true is rest) made = (made.0, fields_proper rest made.2)
    fields_proper (type.AField label at false is rest) made =
        (made.0, tree_proper is made.1, fields_proper rest made.2)

    regular_proper : (is : type.Regular) → IsWellMadePatternRegular is
        → IsProperRegular (regular_pattern scope is)
    regular_proper (type.regular span kind) made = regular_kind_proper kind made

    regular_kind_proper : (kind : type.RegularKind) → IsWellMadePatternRegularKind kind
        → IsProperRegular (regular_kind_pattern scope kind)
    regular_kind_proper type.Nothing made = tt
    regular_kind_proper (type.Item is) made = tree_proper is made
    regular_kind_proper (type.Seq all) made = regulars_proper all made
    regular_kind_proper (type.Alt all) made = regulars_proper all made
    regular_kind_proper (type.Repeat is post) made = regular_proper is made
    regular_kind_proper (type.Capture name is) made = regular_proper is made.1

    regulars_proper : (all : type.Regulars) → AreWellMadePatternRegulars all
        → AreProperRegulars (regular_patterns scope all)
    regulars_proper type.NoRegular made = tt
    regulars_proper (type.ARegular first rest) made =
        (regular_proper first made.0, regulars_proper rest made.1)

module _ {T U : Type 0} (Are : T → U → Type 0) where
  mutual
    pub alike_labels : (p : Pattern T) (q : Pattern U) → Alike Are p q → IsProper q → HasLabels p
    alike_labels (pattern.OfType _) (pattern.OfType _) h proper = tt
    alike_labels (pattern.Bind _) (pattern.Bind _) h proper = tt
    alike_labels (pattern.Default _ _) (pattern.Default _ _) h proper = tt
    alike_labels (pattern.Pair p q) (pattern.Pair r s) h proper =
        (alike_labels p r h.0 proper.0, alike_labels q s h.1 proper.1)
    alike_labels (pattern.Xml p q r) (pattern.Xml s t u) h proper = (
      alike_labels p s h.0 proper.0,
      alike_labels q t h.1 proper.1,
      alike_labels r u h.2 proper.2,
    )
    alike_labels (pattern.Record fields _) (pattern.Record others _) h proper =
        field_labels fields others h.0 proper
    alike_labels (pattern.Both all) (pattern.Both others) h proper =
        all_labels all others h proper
    alike_labels (pattern.First all) (pattern.First others) h proper =
        all_labels all others h proper
    alike_labels (pattern.Sequence r) (pattern.Sequence s) h proper =
        regular_labels r s h proper
    alike_labels _ _ h proper = absurd h

    all_labels : (all : Patterns T) (others : Patterns U) → AlikeAll Are all others
        → AreProper others → HaveLabels all
    all_labels NoPattern NoPattern h proper = tt
    all_labels (APattern p rest) (APattern q others) h proper =
        (alike_labels p q h.0 proper.0, all_labels rest others h.1 proper.1)
    all_labels _ _ h proper = absurd h

    field_labels : (fields : Fields T) (others : Fields U) → AlikeFields Are fields others
        → AreProperFields others → FieldsHaveLabels fields
    field_labels NoField NoField h proper = tt
    field_labels (Present label p rest) (Present name q others) h proper = (
      subst IsLabel (sym h.0) proper.0,
      alike_labels p q h.1 proper.1,
      field_labels rest others h.2 proper.2,
    )
    field_labels (Optional label _ rest) (Optional name _ others) h proper =
        (subst IsLabel (sym h.0) proper.0, field_labels rest others h.2 proper.1)
    field_labels _ _ h proper = absurd h

    regular_labels : (r : Regular T) (s : Regular U) → AlikeRegular Are r s → IsProperRegular s
        → RegularHasLabels r
    regular_labels pattern.Nothing pattern.Nothing h proper = tt
    regular_labels (pattern.Item p) (pattern.Item q) h proper = alike_labels p q h proper
    regular_labels (pattern.Seq all) (pattern.Seq others) h proper =
        regulars_labels all others h proper
    regular_labels (pattern.Alt all) (pattern.Alt others) h proper =
        regulars_labels all others h proper
    regular_labels (pattern.Repeat r _) (pattern.Repeat s _) h proper =
        regular_labels r s h.0 proper
    regular_labels (pattern.Capture _ r) (pattern.Capture _ s) h proper =
        regular_labels r s h.1 proper
    regular_labels _ _ h proper = absurd h

    regulars_labels : (all : Regulars T) (others : Regulars U) → AlikeRegulars Are all others
        → AreProperRegulars others → RegularsHaveLabels all
    regulars_labels NoRegular NoRegular h proper = tt
    regulars_labels (ARegular r rest) (ARegular s others) h proper =
        (regular_labels r s h.0 proper.0, regulars_labels rest others h.1 proper.1)
    regulars_labels _ _ h proper = absurd h

  element : (one : Constant) → IsWellMadeConstant one → Fits one → IsElement (thing_of one)
  element (constant.Atom name) made fits = made
  element (constant.Int _) made fits = fits
  element (constant.Char _) made fits = fits
  element (constant.Text _) made fits = fits
  element constant.Nil made fits = fits

  module _ (IsType : T → Type 0) (is_type : (t : T) (u : U) → Are t u → IsType t) where
    mutual
      pub alike_made : (p : Pattern T) (q : Pattern U) → Alike Are p q → IsProper q
          → ConstantsFit p → IsWellMade IsType p
      alike_made (pattern.OfType t) (pattern.OfType u) h proper fit = is_type t u h
      alike_made (pattern.Bind _) (pattern.Bind _) h proper fit = tt
      alike_made (pattern.Default _ one) (pattern.Default _ other) h proper fit =
          element one (subst IsWellMadeConstant (sym h.1) proper) fit
      alike_made (pattern.Pair p q) (pattern.Pair r s) h proper fit =
          (alike_made p r h.0 proper.0 fit.0, alike_made q s h.1 proper.1 fit.1)
      alike_made (pattern.Xml p q r) (pattern.Xml s t u) h proper fit = (
        alike_made p s h.0 proper.0 fit.0,
        alike_made q t h.1 proper.1 fit.1,
        alike_made r u h.2 proper.2 fit.2,
      )
      alike_made (pattern.Record fields _) (pattern.Record others _) h proper fit =
          fields_made fields others h.0 proper fit
      alike_made (pattern.Both all) (pattern.Both others) h proper fit =
          all_made all others h proper fit
      alike_made (pattern.First all) (pattern.First others) h proper fit =
          all_made all others h proper fit
      alike_made (pattern.Sequence r) (pattern.Sequence s) h proper fit =
          regular_made r s h proper fit
      alike_made _ _ h proper fit = absurd h

      all_made : (all : Patterns T) (others : Patterns U) → AlikeAll Are all others
          → AreProper others → ConstantsOfAllFit all → AreWellMade IsType all
      all_made NoPattern NoPattern h proper fit = tt
      all_made (APattern p rest) (APattern q others) h proper fit =
          (alike_made p q h.0 proper.0 fit.0, all_made rest others h.1 proper.1 fit.1)
      all_made _ _ h proper fit = absurd h

      fields_made : (fields : Fields T) (others : Fields U) → AlikeFields Are fields others
          → AreProperFields others → ConstantsOfFieldsFit fields
          → AreWellMadeFields IsType fields
      fields_made NoField NoField h proper fit = tt
      fields_made (Present _ p rest) (Present _ q others) h proper fit =
          (alike_made p q h.1 proper.1 fit.0, fields_made rest others h.2 proper.2 fit.1)
      fields_made (Optional _ t rest) (Optional _ u others) h proper fit =
          (is_type t u h.1, fields_made rest others h.2 proper.1 fit)
      fields_made _ _ h proper fit = absurd h

      regular_made : (r : Regular T) (s : Regular U) → AlikeRegular Are r s
          → IsProperRegular s → ConstantsOfItemsFit r → IsWellMadeRegular IsType r
      regular_made pattern.Nothing pattern.Nothing h proper fit = tt
      regular_made (pattern.Item p) (pattern.Item q) h proper fit = alike_made p q h proper fit
      regular_made (pattern.Seq all) (pattern.Seq others) h proper fit =
          regulars_made all others h proper fit
      regular_made (pattern.Alt all) (pattern.Alt others) h proper fit =
          regulars_made all others h proper fit
      regular_made (pattern.Repeat r _) (pattern.Repeat s _) h proper fit =
          regular_made r s h.0 proper fit
      regular_made (pattern.Capture _ r) (pattern.Capture _ s) h proper fit =
          regular_made r s h.1 proper fit
      regular_made _ _ h proper fit = absurd h

      regulars_made : (all : Regulars T) (others : Regulars U) → AlikeRegulars Are all others
          → AreProperRegulars others → ConstantsOfPartsFit all
          → AreWellMadeRegulars IsType all
      regulars_made NoRegular NoRegular h proper fit = tt
      regulars_made (ARegular r rest) (ARegular s others) h proper fit =
          (regular_made r s h.0 proper.0 fit.0, regulars_made rest others h.1 proper.1 fit.1)
      regulars_made _ _ h proper fit = absurd h
