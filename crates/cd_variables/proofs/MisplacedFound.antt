-- What is found where no variable may stand is a fault of each variable.
use Rattle.std.proofs.Common.{◌≡◌, ℕ, List, [], ◌∷◌, ◌++◌, refl, sym, ap, ◌∙◌}
use Rattle.cd_syntax.specs.TypeTree.{Tree, tree, Kind, Builtin, Ints, Chars, Atom, Text, Tuple, Arrows, Union, Meet}
use Rattle.cd_syntax.specs.TypeTree.{Sequence, Record, Xml, Named, Where, Variable, Default, Trees, NoTree, ATree}
use Rattle.cd_syntax.specs.TypeTree.{Signs, NoSign, ASign, Fields, NoField, AField, Declarations, NoDeclaration}
use Rattle.cd_syntax.specs.TypeTree.{ADeclaration, Regular, regular, RegularKind, Nothing, Item, Seq, Alt, Repeat}
use Rattle.cd_syntax.specs.TypeTree.{Capture, Regulars, NoRegular, ARegular, Rest, Closed, Open, Typed}
use Rattle.cd_resolve.specs.Faults.{Fault}
use Rattle.cd_variables.specs.Occurrences.{Occurrence, variables, variables_in, variables_of_all, variables_of_signs}
use Rattle.cd_variables.specs.Occurrences.{variables_of_fields, variables_of_rest, variables_of_declarations}
use Rattle.cd_variables.specs.Occurrences.{variables_of_regular, variables_of_regular_kind, variables_of_regulars}
use Rattle.cd_variables.specs.VariableFaults.{misplaced}
use Rattle.cd_variables.specs.FindingMisplaced.{misplaced_in, misplaced_in_kind, misplaced_in_trees}
use Rattle.cd_variables.specs.FindingMisplaced.{misplaced_in_signs, misplaced_in_fields, misplaced_in_rest}
use Rattle.cd_variables.specs.FindingMisplaced.{misplaced_in_declarations, misplaced_in_regular, misplaced_in_regular_kind}
use Rattle.cd_variables.specs.FindingMisplaced.{misplaced_in_regulars}
use Rattle.cd_variables.specs.FindingVariables.{reported_of_each}

-- a fault of each of some, and then of others
reported_of_both : (ones others : List Occurrence) (s : List Fault)
    → reported_of_each misplaced (ones ++ others) s ≡ reported_of_each misplaced others (reported_of_each misplaced ones s)
reported_of_both [] others s = refl
reported_of_both (o ∷ rest) others s = reported_of_both rest others (s ++ misplaced o ∷ [])

-- what comes first is found, and then what is found after it
in_turn : (ones others : List Occurrence) (first second : List Fault → List Fault)
    → ((s : List Fault) → first s ≡ reported_of_each misplaced ones s)
    → ((s : List Fault) → second s ≡ reported_of_each misplaced others s)
    → (s : List Fault) → second (first s) ≡ reported_of_each misplaced (ones ++ others) s
in_turn ones others first second one other s = other (first s)
    ∙ ap (reported_of_each misplaced others) (one s) ∙ sym (reported_of_both ones others s)

mutual
  pub found_in_tree : (t : Tree) (s : List Fault) → misplaced_in t s ≡ reported_of_each misplaced (variables t) s
  found_in_tree (tree span kind) s = found_in_kind span.from kind s

  found_in_kind : (at : ℕ) (kind : Kind) (s : List Fault)
      → misplaced_in_kind at kind s ≡ reported_of_each misplaced (variables_in at kind) s
  found_in_kind at (Tuple trees) s = found_in_trees trees s
  found_in_kind at (Arrows trees) s = found_in_trees trees s
  found_in_kind at (Union trees) s = found_in_trees trees s
  found_in_kind at (Meet first signs) s = in_turn (variables first) (variables_of_signs signs)
      (misplaced_in first) (misplaced_in_signs signs)
      (found_in_tree first) (found_in_signs signs) s
  found_in_kind at (Sequence r) s = found_in_regular r s
  found_in_kind at (Record fields rest) s = in_turn (variables_of_fields fields) (variables_of_rest rest)
      (misplaced_in_fields fields) (misplaced_in_rest rest) (found_in_fields fields) (found_in_rest rest) s
  found_in_kind at (Xml tag attributes content) s =
      in_turn (variables tag ++ variables attributes) (variables content)
      (λ s. misplaced_in attributes (misplaced_in tag s)) (misplaced_in content)
      (in_turn (variables tag) (variables attributes) (misplaced_in tag) (misplaced_in attributes)
      (found_in_tree tag) (found_in_tree attributes)) (found_in_tree content) s
  found_in_kind at (Where body declarations) s = in_turn (variables body) (variables_of_declarations declarations)
      (misplaced_in body) (misplaced_in_declarations declarations)
      (found_in_tree body) (found_in_declarations declarations) s
  found_in_kind at (Variable name) s = refl
  found_in_kind at (Default name constant) s = refl
  found_in_kind at (Builtin name) s = refl
  found_in_kind at (Ints low high) s = refl
  found_in_kind at (Chars low high) s = refl
  found_in_kind at (Atom name) s = refl
  found_in_kind at (Text text) s = refl
  found_in_kind at (Named name) s = refl

  pub found_in_trees : (trees : Trees) (s : List Fault)
      → misplaced_in_trees trees s ≡ reported_of_each misplaced (variables_of_all trees) s
  found_in_trees NoTree s = refl
  found_in_trees (ATree first rest) s = in_turn (variables first) (variables_of_all rest)
      (misplaced_in first) (misplaced_in_trees rest) (found_in_tree first) (found_in_trees rest) s

  found_in_signs : (signs : Signs) (s : List Fault)
      → misplaced_in_signs signs s ≡ reported_of_each misplaced (variables_of_signs signs) s
  found_in_signs NoSign s = refl
  found_in_signs (ASign kept t rest) s = in_turn (variables t) (variables_of_signs rest)
      (misplaced_in t) (misplaced_in_signs rest) (found_in_tree t) (found_in_signs rest) s

  found_in_rest : (rest : Rest) (s : List Fault)
      → misplaced_in_rest rest s ≡ reported_of_each misplaced (variables_of_rest rest) s
  found_in_rest Closed s = refl
  found_in_rest Open s = refl
  found_in_rest (Typed t) s = found_in_tree t s

  found_in_fields : (fields : Fields) (s : List Fault)
      → misplaced_in_fields fields s ≡ reported_of_each misplaced (variables_of_fields fields) s
  found_in_fields NoField s = refl
  found_in_fields (AField label at optional t rest) s = in_turn (variables t) (variables_of_fields rest)
      (misplaced_in t) (misplaced_in_fields rest) (found_in_tree t) (found_in_fields rest) s

  pub found_in_declarations : (declarations : Declarations) (s : List Fault)
      → misplaced_in_declarations declarations s
      ≡ reported_of_each misplaced (variables_of_declarations declarations) s
  found_in_declarations NoDeclaration s = refl
  found_in_declarations (ADeclaration name at t rest) s = in_turn (variables t) (variables_of_declarations rest)
      (misplaced_in t) (misplaced_in_declarations rest) (found_in_tree t) (found_in_declarations rest) s

  found_in_regular : (r : Regular) (s : List Fault)
      → misplaced_in_regular r s ≡ reported_of_each misplaced (variables_of_regular r) s
  found_in_regular (regular span kind) s = found_in_regular_kind span.from kind s

  found_in_regular_kind : (at : ℕ) (kind : RegularKind) (s : List Fault)
      → misplaced_in_regular_kind at kind s ≡ reported_of_each misplaced (variables_of_regular_kind at kind) s
  found_in_regular_kind at Nothing s = refl
  found_in_regular_kind at (Item t) s = found_in_tree t s
  found_in_regular_kind at (Seq all) s = found_in_regulars all s
  found_in_regular_kind at (Alt all) s = found_in_regulars all s
  found_in_regular_kind at (Repeat r post) s = found_in_regular r s
  found_in_regular_kind at (Capture name r) s =
      found_in_regular r (s ++ misplaced (record { name = name; at = at }) ∷ [])

  found_in_regulars : (all : Regulars) (s : List Fault)
      → misplaced_in_regulars all s ≡ reported_of_each misplaced (variables_of_regulars all) s
  found_in_regulars NoRegular s = refl
  found_in_regulars (ARegular first rest) s = in_turn (variables_of_regular first) (variables_of_regulars rest)
      (misplaced_in_regular first) (misplaced_in_regulars rest) (found_in_regular first) (found_in_regulars rest) s
