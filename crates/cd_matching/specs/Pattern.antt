-- Patterns as plain data, over any notion of type: nodes of a graph, written types, or tests.
use Rattle.std.specs.Prelude.{Bool, List, [], ◌∷◌}
use Rattle.cd_syntax.specs.Name.{Name}
use Rattle.cd_syntax.specs.declared.constant.Constant.{Constant}
use Rattle.cd_syntax.specs.declared.type_tree.Post.{Post}

mutual
  pub data Pattern (T : Type 0) : Type 0 where
    -- the things of a type
    OfType : T → Pattern T
    -- anything, which the variable captures; and anything, where the variable is the constant
    Bind : Name → Pattern T
    Default : Name → Constant → Pattern T
    -- the pairs, and the XML elements, whose parts are taken
    Pair : (first second : Pattern T) → Pattern T
    Xml : (tag attributes content : Pattern T) → Pattern T
    -- the records with these fields, and with true with others beside them
    Record : Fields T → (more : Bool) → Pattern T
    -- what all of these take, and what one of them does, of which the first counts
    Both : Patterns T → Pattern T
    First : Patterns T → Pattern T
    -- the sequences that a regular expression takes whole
    Sequence : Regular T → Pattern T

  pub data Patterns (T : Type 0) : Type 0 where
    NoPattern : Patterns T
    APattern : Pattern T → Patterns T → Patterns T

  -- a field that is present and is taken, and one that is absent or of a type
  pub data Fields (T : Type 0) : Type 0 where
    NoField : Fields T
    Present : (label : Name) → Pattern T → Fields T → Fields T
    Optional : (label : Name) → T → Fields T → Fields T

  pub data Regular (T : Type 0) : Type 0 where
    Nothing : Regular T
    Item : Pattern T → Regular T
    Seq : Regulars T → Regular T
    Alt : Regulars T → Regular T
    Repeat : Regular T → Post → Regular T
    -- the variable gathers the items that are taken
    Capture : Name → Regular T → Regular T

  pub data Regulars (T : Type 0) : Type 0 where
    NoRegular : Regulars T
    ARegular : Regular T → Regulars T → Regulars T

abbrev pub patterns_of : {T : Type 0} → List (Pattern T) → Patterns T
patterns_of [] = NoPattern
patterns_of (first ∷ rest) = APattern first (patterns_of rest)

abbrev pub regulars_of : {T : Type 0} → List (Regular T) → Regulars T
regulars_of [] = NoRegular
regulars_of (first ∷ rest) = ARegular first (regulars_of rest)
