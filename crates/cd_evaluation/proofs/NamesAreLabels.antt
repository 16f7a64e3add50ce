-- The names that a well made pattern binds are labels, as the names of an environment are.
use Rattle.std.proofs.Common.{ℕ, Bool, true, false, not, ◌||◌, List, [], ◌++◌, if◌then◌else◌}
use Rattle.cd_syntax.specs.Name.{IsLabel}
use Rattle.cd_syntax.specs.TypeTree.{Tree, tree, Kind, Tuple, Union, Meet, Sequence, Record, Xml, Variable, Default, Trees, NoTree, ATree}
use Rattle.cd_syntax.specs.TypeTree.{Signs, NoSign, ASign}
use Rattle.cd_syntax.specs.TypeTree.{Fields, NoField, AField, Regular, regular, RegularKind, Nothing, Item, Seq, Alt, Repeat, Capture}
use Rattle.cd_syntax.specs.TypeTree.{Regulars, NoRegular, ARegular}
use Rattle.cd_syntax.specs.WellMadePattern.{IsWellMadePattern, IsWellMadePatternKind, AreWellMadePatterns, AreWellMadePatternSigns}
use Rattle.cd_syntax.specs.WellMadePattern.{AreWellMadePatternFields}
use Rattle.cd_syntax.specs.WellMadePattern.{IsWellMadePatternRegular, IsWellMadePatternRegularKind, AreWellMadePatternRegulars}
use Rattle.cd_model.specs.AllOf.{AllOf}
use Rattle.cd_model.proofs.Covered.{each_both}
use Rattle.cd_matching.proofs.AllOf.{all_map}
use Rattle.cd_variables.specs.Occurrences.{Occurrence, takes_away, bound, bound_in, bound_by_all, bound_by_signs, bound_by_fields, plain}
use Rattle.cd_variables.specs.Occurrences.{plain_in, plain_of_all, gathered, gathered_in, gathered_of_all}
use Rattle.cd_names.specs.ProgramFaults.{names_of}

abbrev HasLabel : Occurrence → Type 0
HasLabel occurrence = IsLabel occurrence.name

abbrev HaveLabels : List Occurrence → Type 0
HaveLabels = AllOf HasLabel

and_then : (ones others : List Occurrence) → HaveLabels ones → HaveLabels others → HaveLabels (ones ++ others)
and_then ones others one other = each_both HasLabel ones others one other

if_not : (c : Bool) (ones : List Occurrence) → HaveLabels ones → HaveLabels (if c then [] else ones)
if_not true ones have = tt
if_not false ones have = have

mutual
  bound_labels : (is : Tree) → IsWellMadePattern is → HaveLabels (bound is)
  bound_labels (tree span kind) made = in_labels span.from kind made

  in_labels : (at : ℕ) (kind : Kind) → IsWellMadePatternKind kind → HaveLabels (bound_in at kind)
  in_labels at (Tuple trees) made = all_labels trees made.1
  in_labels at (Union trees) made = all_labels trees made
  in_labels at (Meet first signs) made =
      and_then (if takes_away signs then [] else bound first) (bound_by_signs signs)
      (if_not (takes_away signs) (bound first) (bound_labels first made.0)) (sign_labels signs made.1)
  in_labels at (Sequence r) made = and_then (plain r) (gathered r) (plain_labels r made) (gathered_labels r made)
  in_labels at (Record fields rest) made = field_labels fields made.0
  in_labels at (Xml tag attributes content) made = and_then (bound tag ++ bound attributes) (bound content)
      (and_then (bound tag) (bound attributes) (bound_labels tag made.0) (bound_labels attributes made.1)) (bound_labels content made.2)
  in_labels at (Variable name) made = (made, tt)
  in_labels at (Default name constant) made = (made.0, tt)
  in_labels at _ made = tt

  all_labels : (trees : Trees) → AreWellMadePatterns trees → HaveLabels (bound_by_all trees)
  all_labels NoTree made = tt
  all_labels (ATree first rest) made = and_then (bound first) (bound_by_all rest) (bound_labels first made.0) (all_labels rest made.1)

  sign_labels : (signs : Signs) → AreWellMadePatternSigns signs → HaveLabels (bound_by_signs signs)
  sign_labels NoSign made = tt
  sign_labels (ASign kept is rest) made = and_then (if not kept || takes_away rest then [] else bound is) (bound_by_signs rest)
      (if_not (not kept || takes_away rest) (bound is) (bound_labels is made.0)) (sign_labels rest made.1)

  field_labels : (fields : Fields) → AreWellMadePatternFields fields → HaveLabels (bound_by_fields fields)
  field_labels NoField made = tt
  field_labels (AField label at optional is rest) made = and_then (if optional then [] else bound is) (bound_by_fields rest)
      (if_not optional (bound is) (bound_labels is made.1)) (field_labels rest made.2)

  plain_labels : (r : Regular) → IsWellMadePatternRegular r → HaveLabels (plain r)
  plain_labels (regular span kind) made = plain_in_labels kind made

  plain_in_labels : (kind : RegularKind) → IsWellMadePatternRegularKind kind → HaveLabels (plain_in kind)
  plain_in_labels Nothing made = tt
  plain_in_labels (Item is) made = bound_labels is made
  plain_in_labels (Seq all) made = plain_of_labels all made
  plain_in_labels (Alt all) made = plain_of_labels all made
  plain_in_labels (Repeat r post) made = plain_labels r made
  plain_in_labels (Capture name r) made = plain_labels r made.1

  plain_of_labels : (all : Regulars) → AreWellMadePatternRegulars all → HaveLabels (plain_of_all all)
  plain_of_labels NoRegular made = tt
  plain_of_labels (ARegular first rest) made =
      and_then (plain first) (plain_of_all rest) (plain_labels first made.0) (plain_of_labels rest made.1)

  gathered_labels : (r : Regular) → IsWellMadePatternRegular r → HaveLabels (gathered r)
  gathered_labels (regular span kind) made = gathered_in_labels span.from kind made

  gathered_in_labels : (at : ℕ) (kind : RegularKind) → IsWellMadePatternRegularKind kind → HaveLabels (gathered_in at kind)
  gathered_in_labels at Nothing made = tt
  gathered_in_labels at (Item is) made = tt
  gathered_in_labels at (Seq all) made = gathered_of_labels all made
  gathered_in_labels at (Alt all) made = gathered_of_labels all made
  gathered_in_labels at (Repeat r post) made = gathered_labels r made
  gathered_in_labels at (Capture name r) made = (made.0, gathered_labels r made.1)

  gathered_of_labels : (all : Regulars) → AreWellMadePatternRegulars all → HaveLabels (gathered_of_all all)
  gathered_of_labels NoRegular made = tt
  gathered_of_labels (ARegular first rest) made =
      and_then (gathered first) (gathered_of_all rest) (gathered_labels first made.0) (gathered_of_labels rest made.1)

pub names_are_labels : (pattern : Tree) → IsWellMadePattern pattern → AllOf IsLabel (names_of pattern)
names_are_labels pattern made =
    all_map HasLabel IsLabel (λ occurrence. occurrence.name) (λ occurrence label. label) (bound pattern) (bound_labels pattern made)
