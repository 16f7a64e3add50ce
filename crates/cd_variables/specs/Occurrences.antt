-- Where variables stand in the tree of a pattern, and which of them it binds.
use Rattle.std.specs.Prelude.{ℕ, Bool, false, not, ◌||◌, List, [], ◌∷◌, ◌++◌, bytes_eq}
use Rattle.std.specs.Prelude.{if◌then◌else◌}
use Rattle.std.specs.List.{list_any}
use Rattle.cd_syntax.specs.Name.{Name}
use Rattle.cd_syntax.specs.TypeTree.{Tree, tree, Kind, Tuple, Arrows, Union, Meet, Sequence, Record}
use Rattle.cd_syntax.specs.TypeTree.{Xml, Where, Variable, Default, Trees, NoTree, ATree, Signs}
use Rattle.cd_syntax.specs.TypeTree.{NoSign, ASign, Fields, NoField, AField, Declarations}
use Rattle.cd_syntax.specs.TypeTree.{NoDeclaration, ADeclaration, Regular, regular, RegularKind}
use Rattle.cd_syntax.specs.TypeTree.{Nothing, Item, Seq, Alt, Repeat, Capture, Regulars, NoRegular}
use Rattle.cd_syntax.specs.TypeTree.{ARegular}
use Rattle.cd_syntax.specs.TypeTree.{Rest, Closed, Open, Typed}

-- A variable, and its place: where its pattern begins, or its capture
pub record Occurrence : Type 0 where
  pub name : Name
  pub at : ℕ

abbrev pub one : Name → ℕ → List Occurrence
one name at = record { name = name; at = at } ∷ []

-- the name stands among these
abbrev pub has : List Occurrence → Name → Bool
has all name = list_any (λ occurrence. bytes_eq occurrence.name name) all

-- each variable that stands in a tree, wherever
abbrev mutual
  pub variables : Tree → List Occurrence
  variables (tree span kind) = variables_in span.from kind

  -- those of a kind, whose tree begins at this place
  pub variables_in : (at : ℕ) → Kind → List Occurrence
  variables_in at (Tuple trees) = variables_of_all trees
  variables_in at (Arrows trees) = variables_of_all trees
  variables_in at (Union trees) = variables_of_all trees
  variables_in at (Meet first signs) = variables first ++ variables_of_signs signs
  variables_in at (Sequence r) = variables_of_regular r
  variables_in at (Record fields rest) = variables_of_fields fields ++ variables_of_rest rest
  variables_in at (Xml tag attributes content) =
      variables tag ++ variables attributes ++ variables content
  variables_in at (Where body declarations) =
      variables body ++ variables_of_declarations declarations
  variables_in at (Variable name) = one name at
  variables_in at (Default name constant) = one name at
  variables_in at kind = []

  pub variables_of_all : Trees → List Occurrence
  variables_of_all NoTree = []
  variables_of_all (ATree first rest) = variables first ++ variables_of_all rest

  pub variables_of_signs : Signs → List Occurrence
  variables_of_signs NoSign = []
  variables_of_signs (ASign kept t rest) = variables t ++ variables_of_signs rest

  pub variables_of_fields : Fields → List Occurrence
  variables_of_fields NoField = []
  variables_of_fields (AField label at optional t rest) = variables t ++ variables_of_fields rest

  pub variables_of_rest : Rest → List Occurrence
  variables_of_rest Closed = []
  variables_of_rest Open = []
  variables_of_rest (Typed t) = variables t

  pub variables_of_declarations : Declarations → List Occurrence
  variables_of_declarations NoDeclaration = []
  variables_of_declarations (ADeclaration name at t rest) =
      variables t ++ variables_of_declarations rest

  pub variables_of_regular : Regular → List Occurrence
  variables_of_regular (regular span kind) = variables_of_regular_kind span.from kind

  pub variables_of_regular_kind : (at : ℕ) → RegularKind → List Occurrence
  variables_of_regular_kind at Nothing = []
  variables_of_regular_kind at (Item t) = variables t
  variables_of_regular_kind at (Seq all) = variables_of_regulars all
  variables_of_regular_kind at (Alt all) = variables_of_regulars all
  variables_of_regular_kind at (Repeat r post) = variables_of_regular r
  variables_of_regular_kind at (Capture name r) = one name at ++ variables_of_regular r

  pub variables_of_regulars : Regulars → List Occurrence
  variables_of_regulars NoRegular = []
  variables_of_regulars (ARegular first rest) =
      variables_of_regular first ++ variables_of_regulars rest

-- a tree is taken away after these, or one of these is
abbrev pub takes_away : Signs → Bool
takes_away NoSign = false
takes_away (ASign kept t rest) = not kept || takes_away rest

-- The variables that a tree binds. One under `->`, on a side of `\`, in an optional field, in a
-- rest or in a `where` binds nothing
abbrev mutual
  pub bound : Tree → List Occurrence
  bound (tree span kind) = bound_in span.from kind

  pub bound_in : (at : ℕ) → Kind → List Occurrence
  bound_in at (Tuple trees) = bound_by_all trees
  bound_in at (Union trees) = bound_by_all trees
  bound_in at (Meet first signs) =
      (if takes_away signs then [] else bound first) ++ bound_by_signs signs
  bound_in at (Sequence r) = plain r ++ gathered r
  bound_in at (Record fields rest) = bound_by_fields fields
  bound_in at (Xml tag attributes content) = bound tag ++ bound attributes ++ bound content
  bound_in at (Variable name) = one name at
  bound_in at (Default name constant) = one name at
  bound_in at kind = []

  pub bound_by_all : Trees → List Occurrence
  bound_by_all NoTree = []
  bound_by_all (ATree first rest) = bound first ++ bound_by_all rest

  -- in a chain of `&` and `\` all that stands before a `\` is on a side of it
  pub bound_by_signs : Signs → List Occurrence
  bound_by_signs NoSign = []
  bound_by_signs (ASign kept t rest) =
      (if not kept || takes_away rest then [] else bound t) ++ bound_by_signs rest

  pub bound_by_fields : Fields → List Occurrence
  bound_by_fields NoField = []
  bound_by_fields (AField label at optional t rest) =
      (if optional then [] else bound t) ++ bound_by_fields rest

  -- the plain variables of an expression: those that its items bind
  pub plain : Regular → List Occurrence
  plain (regular span kind) = plain_in kind

  pub plain_in : RegularKind → List Occurrence
  plain_in Nothing = []
  plain_in (Item t) = bound t
  plain_in (Seq all) = plain_of_all all
  plain_in (Alt all) = plain_of_all all
  plain_in (Repeat r post) = plain r
  plain_in (Capture name r) = plain r

  pub plain_of_all : Regulars → List Occurrence
  plain_of_all NoRegular = []
  plain_of_all (ARegular first rest) = plain first ++ plain_of_all rest

  -- and those that gather its items
  pub gathered : Regular → List Occurrence
  gathered (regular span kind) = gathered_in span.from kind

  pub gathered_in : (at : ℕ) → RegularKind → List Occurrence
  gathered_in at Nothing = []
  gathered_in at (Item t) = []
  gathered_in at (Seq all) = gathered_of_all all
  gathered_in at (Alt all) = gathered_of_all all
  gathered_in at (Repeat r post) = gathered r
  gathered_in at (Capture name r) = one name at ++ gathered r

  pub gathered_of_all : Regulars → List Occurrence
  gathered_of_all NoRegular = []
  gathered_of_all (ARegular first rest) = gathered first ++ gathered_of_all rest
