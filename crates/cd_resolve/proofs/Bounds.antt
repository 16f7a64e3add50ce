-- The equations that a walk over a well made pattern makes are over first nodes and over nodes of those equations.
use Rattle.std.proofs.Common.{ℕ, ◌+◌, ◌≤◌, true, List, [], ◌∷◌, map, length, Some, arith}
use Rattle.std.proofs.lemmas.List.{length-append}
use Rattle.cd_sets.specs.declared.node_id.NodeId.{NodeId}
use Rattle.cd_syntax.specs.Name.{Name, IsLabel}
use Rattle.cd_syntax.specs.TypeTree as type
use Rattle.cd_syntax.specs.TypeTree.{Tree, tree, Kind, Trees, NoTree, ATree, Signs, NoSign, ASign, Fields, NoField}
use Rattle.cd_syntax.specs.TypeTree.{AField, Declarations, NoDeclaration, ADeclaration}
use Rattle.cd_syntax.specs.WellMadePattern.{IsWellMadePattern, IsWellMadePatternKind, AreWellMadePatterns}
use Rattle.cd_syntax.specs.WellMadePattern.{AreWellMadePatternSigns, AreWellMadePatternFields}
use Rattle.cd_syntax.specs.WellMadePattern.{AreWellMadePatternDeclarations, IsWellMadePatternRegular}
use Rattle.cd_syntax.specs.WellMadePattern.{IsWellMadePatternRegularKind, AreWellMadePatternRegulars}
use Rattle.cd_syntax.specs.WellMadePattern.{IsWellMadePatternRest}
use Rattle.cd_model.specs.AllOf.{AllOf}
use Rattle.cd_model.specs.Formula.{Formula, Field, Xml, Record}
use Rattle.cd_regex.specs.Regular.{Regular}
use Rattle.cd_regex.specs.Automaton.{sequence_formulas}
use Rattle.cd_resolve.specs.Inner.Names.{AreBelow}
use Rattle.cd_shared.specs.Equation.{Equation, Equations, Is}
use Rattle.cd_resolve.specs.Inner.ScopeLevels.{ScopeLevels, number_in}
use Rattle.cd_resolve.specs.Inner.Leaves.{integers, characters, atom, Pairs, Arrows, sorted}
use Rattle.cd_resolve.specs.Inner.Members.{Sign, union_of, meet_of}
use Rattle.cd_resolve.specs.Inner.Solves.{IsNode, AreEquations}
use Rattle.cd_resolve.specs.Inner.Walk.{unread, entered, settled, one_more, level_after, walked, walked_kind}
use Rattle.cd_resolve.specs.Inner.Walk.{walked_trees, walked_signs, walked_fields, walked_regular, walked_regular_kind}
use Rattle.cd_resolve.specs.Inner.Walk.{walked_regulars, walked_rest, walked_declared, walked_list}
use Rattle.cd_resolve.proofs.Growing.{appends_longer, entered_length, settled_length, pushed_appends, chained_appends}
use Rattle.cd_resolve.proofs.Growing.{united_appends, met_appends, walked_appends, trees_append, signs_append}
use Rattle.cd_resolve.proofs.Growing.{fields_append, rest_appends, regular_appends, regulars_append, declared_longer}
use Rattle.cd_resolve.proofs.Growing.{list_longer}
use Rattle.cd_resolve.proofs.MembersKept.{each_more, union_keeps, meet_keeps}
use Rattle.cd_resolve.proofs.NodesOfWalks.{IsOfNodes, HaveNodes, levels_later, level_has, tree_has, trees_have}
use Rattle.cd_resolve.proofs.NodesOfWalks.{signs_have, fields_have, rest_has, regular_asks}
use Rattle.cd_resolve.proofs.NodesBounded.{are_nodes, AreBounded, none_bounded, both_bounded, pushed_bounded}
use Rattle.cd_resolve.proofs.NodesBounded.{unread_bounded, settled_bounded}
use Rattle.cd_resolve.proofs.BoundsMade.{integers_leaf, characters_leaf, still, small, leaf_bounded, text_bounded}
use Rattle.cd_resolve.proofs.BoundsMade.{chained_bounded, united_bounded, met_bounded, sequenced_bounded}
use Rattle.cd_resolve.proofs.BoundsMade.{recorded_bounded}

-- The equations are over the first nodes and over nodes of so many equations
module _ (nodes first : ℕ) (names : List (Name × NodeId))
    (facts : IsOfNodes first names (IsNode nodes first)) (count : ℕ) where
  abbrev Node : ℕ → NodeId → Type 0
  Node n id = IsNode nodes first n id

  abbrev Bounded : Equations → Type 0
  Bounded s = AreBounded nodes first count s

  -- the levels that a tree stands under have nodes
  abbrev Have : ℕ → ScopeLevels → Type 0
  Have n levels = HaveNodes first names (IsNode nodes first) facts n levels

  later : (n more : ℕ) (levels : ScopeLevels) → n ≤ more → Have n levels → Have more levels
  later n more levels longer have =
      levels_later first names (IsNode nodes first) facts n more levels longer have

  inside : (n : ℕ) (levels : ScopeLevels) (declarations : Declarations) (s : Equations)
      → length s + number_in declarations ≤ n → Have (length s) levels
      → Have n (level_after first declarations s ∷ levels)
  inside n levels declarations s longer have = (
    level_has first names (IsNode nodes first) facts n declarations s longer,
    later (length s) n levels (omega arith) have,
  )

  -- fields have the labels that are written
  labels_are : (levels : ScopeLevels) (fields : Fields) (made : List (Name × Field)) (s : Equations)
      → AreWellMadePatternFields fields → AllOf (λ field. IsLabel field.0) made
      → AllOf (λ field. IsLabel field.0) (walked_fields first names levels fields made s).0
  labels_are levels NoField made s well labels = labels
  labels_are levels (AField label at optional is rest) made s well labels =
      let one = walked first names levels is s in
      let next : Name × Field = (label, record { optional = optional; type = one.0 }) in
      labels_are levels rest (one_more made next) one.1 well.2
      (each_more (λ (field : Name × Field). IsLabel field.0) made next labels well.0)

  mutual
    -- a tree, and what trees are made of
    pub tree_bounded : (levels : ScopeLevels) (is : Tree) (s : Equations) → IsWellMadePattern is → Have (length s) levels
        → length (walked first names levels is s).1 ≤ count → Bounded s → Bounded (walked first names levels is s).1
    tree_bounded levels (tree span kind) s well have long bounded = kind_bounded levels kind s well have long bounded

    kind_bounded : (levels : ScopeLevels) (kind : Kind) (s : Equations) → IsWellMadePatternKind kind → Have (length s) levels
        → length (walked_kind first names levels kind s).1 ≤ count → Bounded s
        → Bounded (walked_kind first names levels kind s).1
    kind_bounded levels (type.Builtin name) s well have long bounded = bounded
    kind_bounded levels (type.Ints low high) s well have long bounded =
        leaf_bounded nodes first names facts count (integers low high) s
        (integers_leaf (first + count) low high) bounded
    kind_bounded levels (type.Chars low high) s well have long bounded =
        leaf_bounded nodes first names facts count (characters low high) s
        (characters_leaf (first + count) low high) bounded
    kind_bounded levels (type.Atom name) s well have long bounded =
        leaf_bounded nodes first names facts count (Some (atom name)) s (well, tt) bounded
    kind_bounded levels (type.Text text) s well have long bounded =
        text_bounded nodes first names facts count text s long bounded
    kind_bounded levels (type.Tuple NoTree) s well have long bounded = bounded
    kind_bounded levels (type.Tuple (ATree one NoTree)) s well have long bounded = bounded
    kind_bounded levels (type.Tuple (ATree one (ATree next rest))) s well have long bounded =
        let all = walked_trees first names levels (ATree one (ATree next rest)) [] s in
        let longer = appends_longer all.1 _ (chained_appends first Pairs all.0 all.1) in
        chained_bounded nodes first names facts count Pairs all.0 all.1
        (trees_have first names (IsNode nodes first) facts levels (ATree one (ATree next rest)) [] s have tt) long
        (trees_bounded levels (ATree one (ATree next rest)) [] s well.1 have (omega arith) bounded)
    kind_bounded levels (type.Arrows NoTree) s well have long bounded = bounded
    kind_bounded levels (type.Arrows (ATree one NoTree)) s well have long bounded = bounded
    kind_bounded levels (type.Arrows (ATree one (ATree next rest))) s well have long bounded =
        let all = walked_trees first names levels (ATree one (ATree next rest)) [] s in
        let longer = appends_longer all.1 _ (chained_appends first Arrows all.0 all.1) in
        chained_bounded nodes first names facts count Arrows all.0 all.1
        (trees_have first names (IsNode nodes first) facts levels (ATree one (ATree next rest)) [] s have tt) long
        (trees_bounded levels (ATree one (ATree next rest)) [] s well.1 have (omega arith) bounded)
    kind_bounded levels (type.Union trees) s well have long bounded =
        let all = walked_trees first names levels trees [] s in
        let longer = appends_longer all.1 _ (united_appends first (union_of all.0) all.1) in
        united_bounded nodes first names facts count (union_of all.0) all.1
        (union_keeps (Node (length all.1)) all.0
        (trees_have first names (IsNode nodes first) facts levels trees [] s have tt)) (omega arith)
        (trees_bounded levels trees [] s well have (omega arith) bounded)
    kind_bounded levels (type.Meet one signs) s well have long bounded =
        let kept = walked first names levels one s in
        let all = walked_signs first names levels signs ((true, kept.0) ∷ []) kept.1 in
        let longer = appends_longer all.1 _ (met_appends first (meet_of all.0) all.1) in
        let middle = appends_longer kept.1 all.1 (signs_append first names levels signs ((true, kept.0) ∷ []) kept.1) in
        let before = appends_longer s kept.1 (walked_appends first names levels one s) in
        let on = later (length s) (length kept.1) levels before have in
        met_bounded nodes first names facts count (meet_of all.0) all.1
        (meet_keeps (λ (sign : Sign). Node (length all.1) sign.1) all.0
        (signs_have first names (IsNode nodes first) facts levels signs ((true, kept.0) ∷ []) kept.1 on
        (tree_has first names (IsNode nodes first) facts levels one s have, tt))) (omega arith)
        (signed_bounded levels signs ((true, kept.0) ∷ []) kept.1 well.1 on (omega arith)
        (tree_bounded levels one s well.0 have (omega arith) bounded))
    kind_bounded levels (type.Sequence is) s well have long bounded =
        let one = walked_regular first names levels is s in
        let states = map (λ (formula : Formula). Some (Is formula)) (sequence_formulas (first + length one.1) one.0) in
        let both = length-append one.1 states in
        sequenced_bounded nodes first names facts count one
        (regular_asks first names (IsNode nodes first) facts levels is s have) long
        (regular_bounded levels is s well have (omega arith) bounded)
    kind_bounded levels (type.Record fields rest) s well have long bounded =
        let all = walked_fields first names levels fields [] s in
        let other = walked_rest first names levels rest all.1 in
        let equation : Equation = Is (Record (sorted all.0) other.0) in
        let longer = appends_longer other.1 _ (pushed_appends first equation other.1) in
        let middle = appends_longer all.1 other.1 (rest_appends first names levels rest all.1) in
        let before = appends_longer s all.1 (fields_append first names levels fields [] s) in
        let on = later (length s) (length all.1) levels before have in
        recorded_bounded nodes first names facts count all.0 (length all.1) other.0 other.1
        (fields_have first names (IsNode nodes first) facts levels fields [] s have tt)
        (labels_are levels fields [] s well.0 tt)
        (rest_has first names (IsNode nodes first) facts levels rest all.1 on) (omega arith) (omega arith)
        (rest_bounded levels rest all.1 well.1 on (omega arith)
        (fields_bounded levels fields [] s well.0 have (omega arith) bounded))
    kind_bounded levels (type.Xml tag attributes content) s well have long bounded =
        let one = walked first names levels tag s in
        let two = walked first names levels attributes one.1 in
        let three = walked first names levels content two.1 in
        let equation : Equation = Is (Xml one.0 two.0 three.0) in
        let last = appends_longer three.1 _ (pushed_appends first equation three.1) in
        let third = appends_longer two.1 three.1 (walked_appends first names levels content two.1) in
        let second = appends_longer one.1 two.1 (walked_appends first names levels attributes one.1) in
        let before = appends_longer s one.1 (walked_appends first names levels tag s) in
        let on = later (length s) (length one.1) levels before have in
        let after = later (length one.1) (length two.1) levels second on in
        let left = tree_has first names (IsNode nodes first) facts levels tag s have in
        let middle = tree_has first names (IsNode nodes first) facts levels attributes one.1 on in
        let right = tree_has first names (IsNode nodes first) facts levels content two.1 after in
        pushed_bounded nodes first count equation three.1
        (tree_bounded levels content two.1 well.2 after (omega arith)
        (tree_bounded levels attributes one.1 well.1 on (omega arith)
        (tree_bounded levels tag s well.0 have (omega arith) bounded))) (
          small nodes first names facts count (length one.1) one.0 (omega arith) left,
          small nodes first names facts count (length two.1) two.0 (omega arith) middle,
          small nodes first names facts count (length three.1) three.0 (omega arith) right,
        )
    kind_bounded levels (type.Named name) s well have long bounded = bounded
    kind_bounded levels (type.Where is declarations) s well have long bounded =
        let under : ScopeLevels = level_after first declarations s ∷ levels in
        let one = entered declarations s in
        let all = walked_list first names levels declarations s in
        let entering = entered_length declarations s in
        let listed = list_longer first names levels declarations s in
        let last = appends_longer all _ (walked_appends first names under is all) in
        let have_all = inside (length all) levels declarations s listed have in
        let have_one = inside (length one) levels declarations s (omega arith) have in
        tree_bounded under is all well.0 have_all long
        (declared_bounded under (length s) declarations one well.1 have_one (omega arith)
        (both_bounded nodes first count s (unread (number_in declarations)) bounded
        (unread_bounded nodes first count (number_in declarations))))
    kind_bounded levels (type.Variable name) s well have long bounded = bounded
    kind_bounded levels (type.Default name constant) s well have long bounded = bounded

    pub trees_bounded : (levels : ScopeLevels) (trees : Trees) (made : List NodeId) (s : Equations) → AreWellMadePatterns trees
        → Have (length s) levels → length (walked_trees first names levels trees made s).1 ≤ count → Bounded s
        → Bounded (walked_trees first names levels trees made s).1
    trees_bounded levels NoTree made s well have long bounded = bounded
    trees_bounded levels (ATree is rest) made s well have long bounded =
        let one = walked first names levels is s in
        let longer = appends_longer one.1 _ (trees_append first names levels rest (one_more made one.0) one.1) in
        let before = appends_longer s one.1 (walked_appends first names levels is s) in
        trees_bounded levels rest (one_more made one.0) one.1 well.1
        (later (length s) (length one.1) levels before have) long
        (tree_bounded levels is s well.0 have (omega arith) bounded)

    signed_bounded : (levels : ScopeLevels) (signs : Signs) (made : List Sign) (s : Equations) → AreWellMadePatternSigns signs
        → Have (length s) levels → length (walked_signs first names levels signs made s).1 ≤ count → Bounded s
        → Bounded (walked_signs first names levels signs made s).1
    signed_bounded levels NoSign made s well have long bounded = bounded
    signed_bounded levels (ASign kept is rest) made s well have long bounded =
        let one = walked first names levels is s in
        let next : Sign = (kept, one.0) in
        let longer = appends_longer one.1 _ (signs_append first names levels rest (one_more made next) one.1) in
        let before = appends_longer s one.1 (walked_appends first names levels is s) in
        signed_bounded levels rest (one_more made next) one.1 well.1
        (later (length s) (length one.1) levels before have) long
        (tree_bounded levels is s well.0 have (omega arith) bounded)

    fields_bounded : (levels : ScopeLevels) (fields : Fields) (made : List (Name × Field)) (s : Equations)
        → AreWellMadePatternFields fields
        → Have (length s) levels → length (walked_fields first names levels fields made s).1 ≤ count → Bounded s
        → Bounded (walked_fields first names levels fields made s).1
    fields_bounded levels NoField made s well have long bounded = bounded
    fields_bounded levels (AField label at optional is rest) made s well have long bounded =
        let one = walked first names levels is s in
        let next : Name × Field = (label, record { optional = optional; type = one.0 }) in
        let longer = appends_longer one.1 _ (fields_append first names levels rest (one_more made next) one.1) in
        let before = appends_longer s one.1 (walked_appends first names levels is s) in
        fields_bounded levels rest (one_more made next) one.1 well.2
        (later (length s) (length one.1) levels before have) long
        (tree_bounded levels is s well.1 have (omega arith) bounded)

    rest_bounded : (levels : ScopeLevels) (rest : type.Rest) (s : Equations) → IsWellMadePatternRest rest
        → Have (length s) levels → length (walked_rest first names levels rest s).1 ≤ count → Bounded s
        → Bounded (walked_rest first names levels rest s).1
    rest_bounded levels type.Closed s well have long bounded = bounded
    rest_bounded levels type.Open s well have long bounded = bounded
    rest_bounded levels (type.Typed is) s well have long bounded = tree_bounded levels is s well have long bounded

    regular_bounded : (levels : ScopeLevels) (is : type.Regular) (s : Equations) → IsWellMadePatternRegular is
        → Have (length s) levels → length (walked_regular first names levels is s).1 ≤ count → Bounded s
        → Bounded (walked_regular first names levels is s).1
    regular_bounded levels (type.regular span kind) s well have long bounded =
        regular_kind_bounded levels kind s well have long bounded

    regular_kind_bounded : (levels : ScopeLevels) (kind : type.RegularKind) (s : Equations) → IsWellMadePatternRegularKind kind
        → Have (length s) levels → length (walked_regular_kind first names levels kind s).1 ≤ count → Bounded s
        → Bounded (walked_regular_kind first names levels kind s).1
    regular_kind_bounded levels type.Nothing s well have long bounded = bounded
    regular_kind_bounded levels (type.Item is) s well have long bounded =
        tree_bounded levels is s well have long bounded
    regular_kind_bounded levels (type.Seq all) s well have long bounded =
        regulars_bounded levels all [] s well have long bounded
    regular_kind_bounded levels (type.Alt all) s well have long bounded =
        regulars_bounded levels all [] s well have long bounded
    regular_kind_bounded levels (type.Repeat is post) s well have long bounded =
        regular_bounded levels is s well have long bounded
    regular_kind_bounded levels (type.Capture name is) s well have long bounded = bounded

    regulars_bounded : (levels : ScopeLevels) (all : type.Regulars) (made : List Regular) (s : Equations)
        → AreWellMadePatternRegulars all
        → Have (length s) levels → length (walked_regulars first names levels all made s).1 ≤ count → Bounded s
        → Bounded (walked_regulars first names levels all made s).1
    regulars_bounded levels type.NoRegular made s well have long bounded = bounded
    regulars_bounded levels (type.ARegular is rest) made s well have long bounded =
        let one = walked_regular first names levels is s in
        let longer = appends_longer one.1 _ (regulars_append first names levels rest (one_more made one.0) one.1) in
        let before = appends_longer s one.1 (regular_appends first names levels is s) in
        regulars_bounded levels rest (one_more made one.0) one.1 well.1
        (later (length s) (length one.1) levels before have)
        long (regular_bounded levels is s well.0 have (omega arith) bounded)

    -- the trees of a list of declarations
    pub declared_bounded : (levels : ScopeLevels) (number : ℕ) (declarations : Declarations) (s : Equations)
        → AreWellMadePatternDeclarations declarations → Have (length s) levels
        → length (walked_declared first names levels number declarations s) ≤ count → Bounded s
        → Bounded (walked_declared first names levels number declarations s)
    declared_bounded levels number NoDeclaration s well have long bounded = bounded
    declared_bounded levels number (ADeclaration name at is rest) s well have long bounded =
        let one = walked first names levels is s in
        let after = settled number one in
        let same = settled_length number one in
        let last = declared_longer first names levels (number + 1) rest after in
        let before = appends_longer s one.1 (walked_appends first names levels is s) in
        let root = tree_has first names (IsNode nodes first) facts levels is s have in
        declared_bounded levels (number + 1) rest after well.1
        (later (length s) (length after) levels (omega arith) have) long
        (settled_bounded nodes first count number one (tree_bounded levels is s well.0 have (omega arith) bounded)
        (still nodes first names facts count (length one.1) one.0 (omega arith) root))

module _ (nodes first : ℕ) (names : List (Name × NodeId)) (enough : 14 ≤ nodes) (fits : nodes ≤ first)
    (named : AreBelow nodes names) where
  -- the equations of trees that see no declarations, and their nodes
  pub trees_bounds : (trees : Trees) → AreWellMadePatterns trees
      → AreEquations nodes first (walked_trees first names [] trees [] []).1
      × AllOf (IsNode nodes first (length (walked_trees first names [] trees [] []).1))
      (walked_trees first names [] trees [] []).0
  trees_bounds trees well =
      let facts = are_nodes nodes first names enough fits named in
      let all = walked_trees first names [] trees [] [] in
      let bounded = trees_bounded nodes first names facts (length all.1) [] trees [] [] well tt (omega arith)
      (none_bounded nodes first (length all.1)) in (
        record { each = bounded.each },
        trees_have first names (IsNode nodes first) facts [] trees [] [] tt tt,
      )

  -- and those of a list that sees no others
  pub list_bounds : (declarations : Declarations) → AreWellMadePatternDeclarations declarations
      → AreEquations nodes first (walked_list first names [] declarations [])
  list_bounds declarations well =
      let facts = are_nodes nodes first names enough fits named in
      let one = entered declarations [] in
      let all = walked_list first names [] declarations [] in
      let entering = entered_length declarations [] in
      let bounded = declared_bounded nodes first names facts (length all) (level_after first declarations [] ∷ [])
      0 declarations one well
      (inside nodes first names facts (length all) (length one) [] declarations [] (omega arith) tt)
      (omega arith)
      (unread_bounded nodes first (length all) (number_in declarations)) in
      record { each = bounded.each }
