-- The faults of variables where none may stand, in the order in which they are found: after these,
-- those of one thing more.
use Rattle.std.specs.Prelude.{ℕ, List, [], ◌∷◌, ◌++◌}
use Rattle.cd_syntax.specs.Name.{Name}
use Rattle.cd_syntax.specs.TypeTree.{Tree, tree, Kind, Tuple, Arrows, Union, Meet, Sequence, Record}
use Rattle.cd_syntax.specs.TypeTree.{Xml, Where, Variable, Default, Trees, NoTree, ATree, Signs}
use Rattle.cd_syntax.specs.TypeTree.{NoSign, ASign, Fields, NoField, AField, Declarations}
use Rattle.cd_syntax.specs.TypeTree.{NoDeclaration, ADeclaration, Regular, regular, RegularKind}
use Rattle.cd_syntax.specs.TypeTree.{Nothing, Item, Seq, Alt, Repeat, Capture, Regulars, NoRegular}
use Rattle.cd_syntax.specs.TypeTree.{ARegular}
use Rattle.cd_syntax.specs.TypeTree.{Rest, Closed, Open, Typed}
use Rattle.cd_resolve.specs.Faults.{Fault}
use Rattle.cd_variables.specs.VariableFaults.{misplaced}

abbrev pub one_misplaced : Name → ℕ → List Fault → List Fault
one_misplaced name at s = s ++ misplaced (record { name = name; at = at }) ∷ []

abbrev mutual
  pub misplaced_in : Tree → List Fault → List Fault
  misplaced_in (tree span kind) s = misplaced_in_kind span.from kind s

  -- those of a kind, whose tree begins at this place
  pub misplaced_in_kind : (at : ℕ) → Kind → List Fault → List Fault
  misplaced_in_kind at (Tuple trees) s = misplaced_in_trees trees s
  misplaced_in_kind at (Arrows trees) s = misplaced_in_trees trees s
  misplaced_in_kind at (Union trees) s = misplaced_in_trees trees s
  misplaced_in_kind at (Meet first signs) s = misplaced_in_signs signs (misplaced_in first s)
  misplaced_in_kind at (Sequence r) s = misplaced_in_regular r s
  misplaced_in_kind at (Record fields rest) s = misplaced_in_rest rest (misplaced_in_fields fields s)
  misplaced_in_kind at (Xml tag attributes content) s =
      misplaced_in content (misplaced_in attributes (misplaced_in tag s))
  misplaced_in_kind at (Where body declarations) s =
      misplaced_in_declarations declarations (misplaced_in body s)
  misplaced_in_kind at (Variable name) s = one_misplaced name at s
  misplaced_in_kind at (Default name constant) s = one_misplaced name at s
  misplaced_in_kind at kind s = s

  pub misplaced_in_trees : Trees → List Fault → List Fault
  misplaced_in_trees NoTree s = s
  misplaced_in_trees (ATree first rest) s = misplaced_in_trees rest (misplaced_in first s)

  pub misplaced_in_signs : Signs → List Fault → List Fault
  misplaced_in_signs NoSign s = s
  misplaced_in_signs (ASign kept t rest) s = misplaced_in_signs rest (misplaced_in t s)

  pub misplaced_in_fields : Fields → List Fault → List Fault
  misplaced_in_fields NoField s = s
  misplaced_in_fields (AField label at optional t rest) s =
      misplaced_in_fields rest (misplaced_in t s)

  pub misplaced_in_rest : Rest → List Fault → List Fault
  misplaced_in_rest Closed s = s
  misplaced_in_rest Open s = s
  misplaced_in_rest (Typed t) s = misplaced_in t s

  pub misplaced_in_declarations : Declarations → List Fault → List Fault
  misplaced_in_declarations NoDeclaration s = s
  misplaced_in_declarations (ADeclaration name at t rest) s =
      misplaced_in_declarations rest (misplaced_in t s)

  pub misplaced_in_regular : Regular → List Fault → List Fault
  misplaced_in_regular (regular span kind) s = misplaced_in_regular_kind span.from kind s

  pub misplaced_in_regular_kind : (at : ℕ) → RegularKind → List Fault → List Fault
  misplaced_in_regular_kind at Nothing s = s
  misplaced_in_regular_kind at (Item t) s = misplaced_in t s
  misplaced_in_regular_kind at (Seq all) s = misplaced_in_regulars all s
  misplaced_in_regular_kind at (Alt all) s = misplaced_in_regulars all s
  misplaced_in_regular_kind at (Repeat r post) s = misplaced_in_regular r s
  misplaced_in_regular_kind at (Capture name r) s =
      misplaced_in_regular r (one_misplaced name at s)

  pub misplaced_in_regulars : Regulars → List Fault → List Fault
  misplaced_in_regulars NoRegular s = s
  misplaced_in_regulars (ARegular first rest) s =
      misplaced_in_regulars rest (misplaced_in_regular first s)
