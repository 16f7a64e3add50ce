-- The types of a pattern in turn, and the pattern with other types in their places.
use Rattle.std.specs.Prelude.{Bool, true, false, List, [], ◌∷◌, ◌++◌, map}
use Rattle.cd_sets.specs.declared.node_id.NodeId.{NodeId}
use Rattle.cd_syntax.specs.Name.{Name}
use Rattle.cd_syntax.specs.TypeTree as type
use Rattle.cd_syntax.specs.TypeTree.{Rest, Closed, Open, Typed}
use Rattle.cd_syntax.specs.declared.type_tree.Post.{Post}
use Rattle.cd_model.specs.BuiltIns.{EMPTY}
use Rattle.cd_model.specs.Written.{Written}
use Rattle.cd_matching.specs.Pattern as pattern
use Rattle.cd_matching.specs.Pattern.{Pattern, Patterns, NoPattern, APattern, Fields, NoField}
use Rattle.cd_matching.specs.Pattern.{Present, Optional, Regular, Regulars, NoRegular, ARegular}
use Rattle.cd_matching.specs.Pattern.{patterns_of, regulars_of}
use Rattle.cd_matching.specs.PlainPattern.{Field, fields_of}
use Rattle.cd_matching.specs.WrittenPattern.{in_scope, others_in}
use Rattle.cd_resolve.specs.Wanted.{wanted_type}
use Rattle.cd_resolve.specs.declared.wanted.WantedType.{WantedType}

-- types that are wanted, with no declarations
abbrev pub wanted_types : List WantedType → List Written
wanted_types wanted = map (wanted_type []) wanted

-- one more after these
abbrev pub one_more : {X : Type 0} → List X → X → List X
one_more made next = made ++ next ∷ []

-- the types of a pattern after these
abbrev mutual
  pub types_after : {T : Type 0} → Pattern T → List T → List T
  types_after (pattern.OfType type) made = one_more made type
  types_after (pattern.Bind name) made = made
  types_after (pattern.Default name constant) made = made
  types_after (pattern.Pair first second) made = types_after second (types_after first made)
  types_after (pattern.Xml tag attributes content) made =
      types_after content (types_after attributes (types_after tag made))
  types_after (pattern.Record fields more) made = fields_after fields made
  types_after (pattern.Both all) made = all_after all made
  types_after (pattern.First all) made = all_after all made
  types_after (pattern.Sequence is) made = regular_after is made

  pub all_after : {T : Type 0} → Patterns T → List T → List T
  all_after NoPattern made = made
  all_after (APattern first rest) made = all_after rest (types_after first made)

  pub fields_after : {T : Type 0} → Fields T → List T → List T
  fields_after NoField made = made
  fields_after (Present label is rest) made = fields_after rest (types_after is made)
  fields_after (Optional label type rest) made = fields_after rest (one_more made type)

  pub regular_after : {T : Type 0} → Regular T → List T → List T
  regular_after pattern.Nothing made = made
  regular_after (pattern.Item is) made = types_after is made
  regular_after (pattern.Seq all) made = regulars_after all made
  regular_after (pattern.Alt all) made = regulars_after all made
  regular_after (pattern.Repeat is post) made = regular_after is made
  regular_after (pattern.Capture name is) made = regular_after is made

  pub regulars_after : {T : Type 0} → Regulars T → List T → List T
  regulars_after NoRegular made = made
  regulars_after (ARegular first rest) made = regulars_after rest (regular_after first made)

-- and after them the records of a typed rest
abbrev pub rest_after : type.Fields → Rest → List Written → List Written
rest_after fields Closed made = made
rest_after fields Open made = made
rest_after fields (Typed is) made = one_more made (in_scope [] (others_in fields is))

-- the first of some nodes, and the others
abbrev pub taken : List NodeId → NodeId × List NodeId
taken [] = (EMPTY, [])
taken (id ∷ ids) = (id, ids)

-- what is made of nodes, and those that are left
abbrev pub Filled : Type 0 → Type 0
Filled X = X × List NodeId

abbrev pub of_type : Filled NodeId → Filled (Pattern NodeId)
of_type one = (pattern.OfType one.0, one.1)

abbrev pub pair_with : Pattern NodeId → Filled (Pattern NodeId) → Filled (Pattern NodeId)
pair_with first second = (pattern.Pair first second.0, second.1)

abbrev pub xml_with : (tag attributes : Pattern NodeId) → Filled (Pattern NodeId)
    → Filled (Pattern NodeId)
xml_with tag attributes content = (pattern.Xml tag attributes content.0, content.1)

abbrev pub record_of : Bool → Filled (List Field) → Filled (Pattern NodeId)
record_of more all = (pattern.Record (fields_of all.0) more, all.1)

-- a record of these fields, with the next of these nodes in the place of a typed rest
abbrev pub others_beside : List Field → Filled NodeId → Filled (Pattern NodeId)
others_beside fields one = (
  pattern.Both (patterns_of (pattern.Record (fields_of fields) true
      ∷ pattern.OfType one.0 ∷ [])),
  one.1,
)

abbrev pub rest_filled : List Field → Rest → List NodeId → Filled (Pattern NodeId)
rest_filled fields Closed ids = record_of false (fields, ids)
rest_filled fields Open ids = record_of true (fields, ids)
rest_filled fields (Typed is) ids = others_beside fields (taken ids)

abbrev pub both_of : Filled (List (Pattern NodeId)) → Filled (Pattern NodeId)
both_of all = (pattern.Both (patterns_of all.0), all.1)

abbrev pub first_of : Filled (List (Pattern NodeId)) → Filled (Pattern NodeId)
first_of all = (pattern.First (patterns_of all.0), all.1)

abbrev pub sequence_of : Filled (Regular NodeId) → Filled (Pattern NodeId)
sequence_of one = (pattern.Sequence one.0, one.1)

abbrev pub item_of : Filled (Pattern NodeId) → Filled (Regular NodeId)
item_of one = (pattern.Item one.0, one.1)

abbrev pub seq_of : Filled (List (Regular NodeId)) → Filled (Regular NodeId)
seq_of all = (pattern.Seq (regulars_of all.0), all.1)

abbrev pub alt_of : Filled (List (Regular NodeId)) → Filled (Regular NodeId)
alt_of all = (pattern.Alt (regulars_of all.0), all.1)

abbrev pub repeat_of : Post → Filled (Regular NodeId) → Filled (Regular NodeId)
repeat_of post one = (pattern.Repeat one.0 post, one.1)

abbrev pub capture_of : Name → Filled (Regular NodeId) → Filled (Regular NodeId)
capture_of name one = (pattern.Capture name one.0, one.1)

-- a pattern with the first of these nodes in the places of its types, after what was made
abbrev mutual
  pub filled : {T : Type 0} → Pattern T → List NodeId → Filled (Pattern NodeId)
  filled (pattern.OfType type) ids = of_type (taken ids)
  filled (pattern.Bind name) ids = (pattern.Bind name, ids)
  filled (pattern.Default name constant) ids = (pattern.Default name constant, ids)
  filled (pattern.Pair first second) ids =
      pair_with (filled first ids).0 (filled second (filled first ids).1)
  filled (pattern.Xml tag attributes content) ids =
      xml_with (filled tag ids).0 (filled attributes (filled tag ids).1).0
      (filled content (filled attributes (filled tag ids).1).1)
  filled (pattern.Record fields more) ids = record_of more (fields_filled fields [] ids)
  filled (pattern.Both all) ids = both_of (all_filled all [] ids)
  filled (pattern.First all) ids = first_of (all_filled all [] ids)
  filled (pattern.Sequence is) ids = sequence_of (regular_filled is ids)

  pub all_filled : {T : Type 0} → Patterns T → List (Pattern NodeId) → List NodeId
      → Filled (List (Pattern NodeId))
  all_filled NoPattern made ids = (made, ids)
  all_filled (APattern first rest) made ids =
      all_filled rest (one_more made (filled first ids).0) (filled first ids).1

  pub fields_filled : {T : Type 0} → Fields T → List Field → List NodeId → Filled (List Field)
  fields_filled NoField made ids = (made, ids)
  fields_filled (Present label is rest) made ids =
      fields_filled rest (one_more made (Present label (filled is ids).0)) (filled is ids).1
  fields_filled (Optional label type rest) made ids =
      fields_filled rest (one_more made (Optional label (taken ids).0)) (taken ids).1

  pub regular_filled : {T : Type 0} → Regular T → List NodeId → Filled (Regular NodeId)
  regular_filled pattern.Nothing ids = (pattern.Nothing, ids)
  regular_filled (pattern.Item is) ids = item_of (filled is ids)
  regular_filled (pattern.Seq all) ids = seq_of (regulars_filled all [] ids)
  regular_filled (pattern.Alt all) ids = alt_of (regulars_filled all [] ids)
  regular_filled (pattern.Repeat is post) ids = repeat_of post (regular_filled is ids)
  regular_filled (pattern.Capture name is) ids = capture_of name (regular_filled is ids)

  pub regulars_filled : {T : Type 0} → Regulars T → List (Regular NodeId) → List NodeId
      → Filled (List (Regular NodeId))
  regulars_filled NoRegular made ids = (made, ids)
  regulars_filled (ARegular first rest) made ids =
      regulars_filled rest (one_more made (regular_filled first ids).0) (regular_filled first ids).1

-- patterns as the parts of pairs, grouped to the right
abbrev pub paired : List (Pattern NodeId) → Pattern NodeId
paired [] = pattern.First NoPattern
paired (first ∷ []) = first
paired (first ∷ next ∷ rest) = pattern.Pair first (paired (next ∷ rest))
