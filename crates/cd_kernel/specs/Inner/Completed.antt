-- A pattern with an item that takes nothing in the place of each choice of no alternatives, which
-- takes nothing either.
use Rattle.std.specs.Prelude.{List, [], ◌∷◌}
use Rattle.cd_sets.specs.declared.node_id.NodeId.{NodeId}
use Rattle.cd_matching.specs.Pattern as pattern
use Rattle.cd_matching.specs.Pattern.{Pattern, Patterns, NoPattern, APattern, Fields, NoField}
use Rattle.cd_matching.specs.Pattern.{Present, Optional, Regular, Regulars, NoRegular, ARegular}
use Rattle.cd_matching.specs.PlainPattern.{Field}

abbrev pub choice : {T : Type 0} → Regulars T → Regular T
choice NoRegular = pattern.Item (pattern.First NoPattern)
choice (ARegular first rest) = pattern.Alt (ARegular first rest)

abbrev mutual
  pub completed : {T : Type 0} → Pattern T → Pattern T
  completed (pattern.OfType type) = pattern.OfType type
  completed (pattern.Bind name) = pattern.Bind name
  completed (pattern.Default name constant) = pattern.Default name constant
  completed (pattern.Pair p q) = pattern.Pair (completed p) (completed q)
  completed (pattern.Xml p q r) = pattern.Xml (completed p) (completed q) (completed r)
  completed (pattern.Record fields more) = pattern.Record (completed_fields fields) more
  completed (pattern.Both all) = pattern.Both (completed_all all)
  completed (pattern.First all) = pattern.First (completed_all all)
  completed (pattern.Sequence r) = pattern.Sequence (completed_regular r)

  pub completed_all : {T : Type 0} → Patterns T → Patterns T
  completed_all NoPattern = NoPattern
  completed_all (APattern first rest) = APattern (completed first) (completed_all rest)

  pub completed_fields : {T : Type 0} → Fields T → Fields T
  completed_fields NoField = NoField
  completed_fields (Present label p rest) = Present label (completed p) (completed_fields rest)
  completed_fields (Optional label type rest) = Optional label type (completed_fields rest)

  pub completed_regular : {T : Type 0} → Regular T → Regular T
  completed_regular pattern.Nothing = pattern.Nothing
  completed_regular (pattern.Item p) = pattern.Item (completed p)
  completed_regular (pattern.Seq all) = pattern.Seq (completed_regulars all)
  completed_regular (pattern.Alt all) = choice (completed_regulars all)
  completed_regular (pattern.Repeat r post) = pattern.Repeat (completed_regular r) post
  completed_regular (pattern.Capture name r) = pattern.Capture name (completed_regular r)

  pub completed_regulars : {T : Type 0} → Regulars T → Regulars T
  completed_regulars NoRegular = NoRegular
  completed_regulars (ARegular first rest) =
      ARegular (completed_regular first) (completed_regulars rest)

-- what was made before others
abbrev pub before_all : List (Pattern NodeId) → Patterns NodeId → Patterns NodeId
before_all [] rest = rest
before_all (first ∷ made) rest = APattern first (before_all made rest)

abbrev pub before_fields : List Field → Fields NodeId → Fields NodeId
before_fields [] rest = rest
before_fields (first ∷ made) rest = first (before_fields made rest)

abbrev pub before_regulars : List (Regular NodeId) → Regulars NodeId → Regulars NodeId
before_regulars [] rest = rest
before_regulars (first ∷ made) rest = ARegular first (before_regulars made rest)
