-- The pattern that a tree writes, whose types are written types.
use Rattle.std.specs.Prelude.{Bool, true, false, ◌||◌, if◌then◌else◌}
use Rattle.cd_syntax.specs.declared.builtin.BuiltinName.TheVariants as builtin
use Rattle.cd_syntax.specs.TypeTree as type
use Rattle.cd_syntax.specs.TypeTree.{Tree, tree, Kind, Trees, NoTree, ATree, Signs, NoSign, ASign}
use Rattle.cd_syntax.specs.TypeTree.{Fields, NoField, AField, Declarations, NoDeclaration}
use Rattle.cd_syntax.specs.TypeTree.{ADeclaration, Regular, regular, RegularKind, Regulars}
use Rattle.cd_syntax.specs.TypeTree.{NoRegular, ARegular, Rest, Closed, Open, Typed}
use Rattle.cd_model.specs.Scope.{Scope}
use Rattle.cd_model.specs.Written.{Written}
use Rattle.cd_matching.specs.Pattern as pattern
use Rattle.cd_matching.specs.Pattern.{Pattern, Patterns, NoPattern, APattern}

-- a variable stands in a tree: as a pattern, with a constant, or before `::`
abbrev mutual
  pub has_variable : Tree → Bool
  has_variable (tree span kind) = kind_has kind

  pub kind_has : Kind → Bool
  kind_has (type.Tuple trees) = trees_have trees
  kind_has (type.Arrows trees) = trees_have trees
  kind_has (type.Union trees) = trees_have trees
  kind_has (type.Meet first signs) = has_variable first || signs_have signs
  kind_has (type.Sequence is) = regular_has is
  kind_has (type.Record fields rest) = fields_have fields || rest_has rest
  kind_has (type.Xml tag attributes content) =
      has_variable tag || has_variable attributes || has_variable content
  kind_has (type.Where is declarations) = has_variable is || declarations_have declarations
  kind_has (type.Variable name) = true
  kind_has (type.Default name constant) = true
  kind_has kind = false

  pub trees_have : Trees → Bool
  trees_have NoTree = false
  trees_have (ATree first rest) = has_variable first || trees_have rest

  pub signs_have : Signs → Bool
  signs_have NoSign = false
  signs_have (ASign kept is rest) = has_variable is || signs_have rest

  pub fields_have : Fields → Bool
  fields_have NoField = false
  fields_have (AField label at optional is rest) = has_variable is || fields_have rest

  pub rest_has : Rest → Bool
  rest_has Closed = false
  rest_has Open = false
  rest_has (Typed is) = has_variable is

  pub declarations_have : Declarations → Bool
  declarations_have NoDeclaration = false
  declarations_have (ADeclaration name at is rest) = has_variable is || declarations_have rest

  pub regular_has : Regular → Bool
  regular_has (regular span kind) = regular_kind_has kind

  pub regular_kind_has : RegularKind → Bool
  regular_kind_has type.Nothing = false
  regular_kind_has (type.Item is) = has_variable is
  regular_kind_has (type.Seq all) = regulars_have all
  regular_kind_has (type.Alt all) = regulars_have all
  regular_kind_has (type.Repeat is post) = regular_has is
  regular_kind_has (type.Capture name is) = true

  pub regulars_have : Regulars → Bool
  regulars_have NoRegular = false
  regulars_have (ARegular first rest) = regular_has first || regulars_have rest

abbrev pub in_scope : Scope → Tree → Written
in_scope scope is = record { scope = scope; tree = is }

-- what is outside a tree
abbrev pub outside : Tree → Tree
outside (tree span kind) =
    tree span
    (type.Meet (tree span (type.Builtin builtin.Any)) (ASign false (tree span kind) NoSign))

-- the fields of a record pattern, which may be absent or anything
abbrev pub any_tree : Tree → Tree
any_tree (tree span kind) = tree span (type.Builtin builtin.Any)

abbrev pub free_fields : Fields → Fields
free_fields NoField = NoField
free_fields (AField label at optional is rest) = AField label at true (any_tree is) (free_fields rest)

-- the records whose other fields are of this type
abbrev pub others_in : Fields → Tree → Tree
others_in fields (tree span kind) = tree span (type.Record (free_fields fields) (Typed (tree span kind)))

-- a record pattern whose fields are patterns, where a rest is a type
abbrev pub with_rest : Scope → Fields → Rest → pattern.Fields Written → Pattern Written
with_rest scope fields Closed are = pattern.Record are false
with_rest scope fields Open are = pattern.Record are true
with_rest scope fields (Typed is) are =
    pattern.Both (APattern (pattern.Record are true)
    (APattern (pattern.OfType (in_scope scope (others_in fields is))) NoPattern))

-- A tree without variables is a type. Where no name is at fault a variable stands under no other
-- form than these
abbrev mutual
  pub pattern_of : Scope → Tree → Pattern Written
  pattern_of scope (tree span kind) =
      if kind_has kind then kind_pattern scope kind
      else pattern.OfType (in_scope scope (tree span kind))

  pub kind_pattern : Scope → Kind → Pattern Written
  kind_pattern scope (type.Variable name) = pattern.Bind name
  kind_pattern scope (type.Default name constant) = pattern.Default name constant
  kind_pattern scope (type.Tuple trees) = tuple_pattern scope trees
  kind_pattern scope (type.Union trees) = pattern.First (patterns scope trees)
  kind_pattern scope (type.Meet first signs) =
      pattern.Both (APattern (pattern_of scope first) (signed_patterns scope signs))
  kind_pattern scope (type.Sequence is) = pattern.Sequence (regular_pattern scope is)
  kind_pattern scope (type.Record fields rest) =
      with_rest scope fields rest (field_patterns scope fields)
  kind_pattern scope (type.Xml tag attributes content) =
      pattern.Xml (pattern_of scope tag) (pattern_of scope attributes) (pattern_of scope content)
  kind_pattern scope kind = pattern.First NoPattern

  -- a tuple is grouped to the right
  pub tuple_pattern : Scope → Trees → Pattern Written
  tuple_pattern scope NoTree = pattern.First NoPattern
  tuple_pattern scope (ATree first NoTree) = pattern_of scope first
  tuple_pattern scope (ATree first (ATree next rest)) =
      pattern.Pair (pattern_of scope first) (tuple_pattern scope (ATree next rest))

  pub patterns : Scope → Trees → Patterns Written
  patterns scope NoTree = NoPattern
  patterns scope (ATree first rest) =
      APattern (pattern_of scope first) (patterns scope rest)

  -- after `&` a pattern, and after `\` a type, from outside which a thing has to be
  pub signed_patterns : Scope → Signs → Patterns Written
  signed_patterns scope NoSign = NoPattern
  signed_patterns scope (ASign true is rest) =
      APattern (pattern_of scope is) (signed_patterns scope rest)
  signed_patterns scope (ASign false is rest) =
      APattern (pattern.OfType (in_scope scope (outside is))) (signed_patterns scope rest)

  pub field_patterns : Scope → Fields → pattern.Fields Written
  field_patterns scope NoField = pattern.NoField
  field_patterns scope (AField label at true is rest) =
      pattern.Optional label (in_scope scope is) (field_patterns scope rest)
  field_patterns scope (AField label at false is rest) =
      pattern.Present label (pattern_of scope is) (field_patterns scope rest)

  pub regular_pattern : Scope → Regular → pattern.Regular Written
  regular_pattern scope (regular span kind) = regular_kind_pattern scope kind

  pub regular_kind_pattern : Scope → RegularKind → pattern.Regular Written
  regular_kind_pattern scope type.Nothing = pattern.Nothing
  regular_kind_pattern scope (type.Item is) = pattern.Item (pattern_of scope is)
  regular_kind_pattern scope (type.Seq all) = pattern.Seq (regular_patterns scope all)
  regular_kind_pattern scope (type.Alt all) = pattern.Alt (regular_patterns scope all)
  regular_kind_pattern scope (type.Repeat is post) =
      pattern.Repeat (regular_pattern scope is) post
  regular_kind_pattern scope (type.Capture name is) =
      pattern.Capture name (regular_pattern scope is)

  pub regular_patterns : Scope → Regulars → pattern.Regulars Written
  regular_patterns scope NoRegular = pattern.NoRegular
  regular_patterns scope (ARegular first rest) =
      pattern.ARegular (regular_pattern scope first) (regular_patterns scope rest)
