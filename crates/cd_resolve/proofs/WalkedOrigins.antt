-- Each equation that a walk makes has an origin.
use Rattle.std.proofs.Common.{ℕ, ◌+◌, ◌<◌, ◌≤◌, true, List, [], ◌∷◌, map, length, Some, refl, arith}
use Rattle.cd_sets.specs.declared.node_id.NodeId.{NodeId}
use Rattle.cd_syntax.specs.Name.{Name}
use Rattle.cd_syntax.specs.TypeTree as type
use Rattle.cd_syntax.specs.TypeTree.{Tree, tree, Kind, Trees, NoTree, ATree, Signs, NoSign, ASign, Fields, NoField}
use Rattle.cd_syntax.specs.TypeTree.{AField, Declarations, NoDeclaration, ADeclaration}
use Rattle.cd_model.specs.AllOf.{AllOf}
use Rattle.cd_model.specs.Formula.{Formula, Field, Xml, Record}
use Rattle.cd_model.specs.Scope.{Scope, Declared, names_in, names_in_trees, names_in_signs, names_in_fields}
use Rattle.cd_model.specs.Scope.{names_declared, names_in_rest, names_in_regular, names_in_regular_kind}
use Rattle.cd_model.specs.Scope.{names_in_regulars, names_over}
use Rattle.cd_model.specs.Written.{kind_of}
use Rattle.cd_model.proofs.Covered.{Covered, each_parts, each_both, covered_tree}
use Rattle.cd_model.proofs.CoveredParts.{covered_xml}
use Rattle.cd_regex.specs.Regular.{Regular}
use Rattle.cd_regex.specs.Automaton.{sequence_formulas}
use Rattle.cd_resolve.specs.Inner.Names.{AreBelow}
use Rattle.cd_shared.specs.Equation.{Equations, Is}
use Rattle.cd_resolve.specs.Inner.ScopeLevels.{ScopeLevels, scope_of, number_in}
use Rattle.cd_resolve.specs.Inner.Leaves.{Pairs, Arrows, sorted, atom}
use Rattle.cd_resolve.specs.Inner.Members.{Sign, union_of, meet_of}
use Rattle.cd_resolve.specs.Inner.Equates.{AllEquated}
use Rattle.cd_resolve.specs.Inner.Walk.{entered, settled, united, met, one_more, level_after, walked, walked_kind}
use Rattle.cd_resolve.specs.Inner.Walk.{walked_trees, walked_signs, walked_fields, walked_regular, walked_regular_kind}
use Rattle.cd_resolve.specs.Inner.Walk.{walked_regulars, walked_rest, walked_declared, walked_list}
use Rattle.cd_resolve.proofs.Origins.{HasOrigin}
use Rattle.cd_resolve.proofs.Growing.{Grows, grows_then, appends_grows, appends_longer, AreUnread, unread_later}
use Rattle.cd_resolve.proofs.Growing.{entered_length, entered_unread, settled_grows, settled_unread, settled_length}
use Rattle.cd_resolve.proofs.Growing.{pushed_appends, chained_appends, united_appends, met_appends, walked_appends}
use Rattle.cd_resolve.proofs.Growing.{trees_append, signs_append, fields_append, regular_appends, regulars_append}
use Rattle.cd_resolve.proofs.Growing.{rest_appends, declared_grows, list_longer}
use Rattle.cd_resolve.proofs.NodesBelow.{AreBefore, before_later, before_inside}
use Rattle.cd_resolve.proofs.WalkedEquations.{kind_equates, list_equates}
use Rattle.cd_resolve.proofs.MadeOrigins.{pushed_have, leaf_have, text_have, chained_have, united_have, met_have}
use Rattle.cd_resolve.proofs.MadeOrigins.{connective_has, states_have, entered_have}

module _ (first : ℕ) (names : List (Name × NodeId)) (base : Scope) (Fact : Declared → Type 0) (final : Equations)
    (enough : 14 ≤ first) (named : AreBelow first names) where
  abbrev HaveOrigins : Equations → Type 0
  HaveOrigins s = (n : ℕ) → n < length s → HasOrigin first final names base Fact n

  -- the lists round the trees of a list are equated, and the list itself
  inside_equated : (levels : ScopeLevels) (declarations : Declarations) (s : Equations) → AreBefore first s levels
      → Grows (walked_list first names levels declarations s) final → AllEquated first final names levels
      → AllEquated first final names (level_after first declarations s ∷ levels)
  inside_equated levels declarations s before grows all =
      (list_equates first names enough named levels declarations s final before grows, all)

  mutual
    -- a tree, and what trees are made of
    tree_have : (levels : ScopeLevels) (is : Tree) (s : Equations) → AreBefore first s levels
        → Grows (walked first names levels is s).1 final → AllEquated first final names levels
        → Covered Fact (scope_of base levels) (kind_of is) → HaveOrigins s
        → HaveOrigins (walked first names levels is s).1
    tree_have levels (tree span kind) s before grows all covered have =
        kind_have levels kind s before grows all covered have

    kind_have : (levels : ScopeLevels) (kind : Kind) (s : Equations) → AreBefore first s levels
        → Grows (walked_kind first names levels kind s).1 final → AllEquated first final names levels
        → Covered Fact (scope_of base levels) kind → HaveOrigins s
        → HaveOrigins (walked_kind first names levels kind s).1
    kind_have levels (type.Builtin name) s before grows all covered have = have
    kind_have levels (type.Ints low high) s before grows all covered have =
        leaf_have first names base Fact final _ s grows have
    kind_have levels (type.Chars low high) s before grows all covered have =
        leaf_have first names base Fact final _ s grows have
    kind_have levels (type.Atom name) s before grows all covered have =
        pushed_have first names base Fact final (atom name) s grows have
    kind_have levels (type.Text text) s before grows all covered have =
        text_have first names base Fact final text s grows have
    kind_have levels (type.Tuple NoTree) s before grows all covered have = have
    kind_have levels (type.Tuple (ATree one NoTree)) s before grows all covered have = have
    kind_have levels (type.Tuple (ATree one (ATree next rest))) s before grows all covered have =
        let trees = walked_trees first names levels (ATree one (ATree next rest)) [] s in
        let on = grows_then trees.1 _ final
        (appends_grows trees.1 _ (chained_appends first Pairs trees.0 trees.1)) grows in
        chained_have first names base Fact final Pairs trees.0 trees.1 grows
        (trees_have levels (ATree one (ATree next rest)) [] s before on all covered.within covered.over have)
    kind_have levels (type.Arrows NoTree) s before grows all covered have = have
    kind_have levels (type.Arrows (ATree one NoTree)) s before grows all covered have = have
    kind_have levels (type.Arrows (ATree one (ATree next rest))) s before grows all covered have =
        let trees = walked_trees first names levels (ATree one (ATree next rest)) [] s in
        let on = grows_then trees.1 _ final
        (appends_grows trees.1 _ (chained_appends first Arrows trees.0 trees.1)) grows in
        chained_have first names base Fact final Arrows trees.0 trees.1 grows
        (trees_have levels (ATree one (ATree next rest)) [] s before on all covered.within covered.over have)
    kind_have levels (type.Union trees) s before grows all covered have =
        let read = walked_trees first names levels trees [] s in
        let on = grows_then read.1 _ final
        (appends_grows read.1 _ (united_appends first (union_of read.0) read.1)) grows in
        united_have first names base Fact final (union_of read.0) read.1
        (connective_has first names base Fact final levels (type.Union trees)
        (united first (union_of read.0) read.1).0 all
        (kind_equates first names enough named levels (type.Union trees) s final before grows) covered)
        (trees_have levels trees [] s before on all covered.within covered.over have)
    kind_have levels (type.Meet one signs) s before grows all covered have =
        let scope = scope_of base levels in
        let kept = walked first names levels one s in
        let read = walked_signs first names levels signs ((true, kept.0) ∷ []) kept.1 in
        let later = grows_then read.1 _ final
        (appends_grows read.1 _ (met_appends first (meet_of read.0) read.1)) grows in
        let on = grows_then kept.1 read.1 final
        (appends_grows kept.1 read.1 (signs_append first names levels signs ((true, kept.0) ∷ []) kept.1)) later in
        let longer = appends_longer s kept.1 (walked_appends first names levels one s) in
        let parts = each_parts Fact (names_in scope one) (names_in_signs scope signs) covered.within in
        met_have first names base Fact final (meet_of read.0) read.1
        (connective_has first names base Fact final levels (type.Meet one signs)
        (met first (meet_of read.0) read.1).0 all
        (kind_equates first names enough named levels (type.Meet one signs) s final before grows) covered)
        (signs_have levels signs ((true, kept.0) ∷ []) kept.1
        (before_later first s kept.1 levels longer before) later all
        parts.1 covered.over
        (tree_have levels one s before on all (covered_tree Fact scope one parts.0 covered.over) have))
    kind_have levels (type.Sequence is) s before grows all covered have =
        let one = walked_regular first names levels is s in
        let formulas = sequence_formulas (first + length one.1) one.0 in
        let states = map (λ (formula : Formula). Some (Is formula)) formulas in
        let on = grows_then one.1 _ final (appends_grows one.1 _ (record { more = states; are = refl })) grows in
        states_have first names base Fact final formulas one.1 grows
        (regular_have levels is s before on all covered.within covered.over have)
    kind_have levels (type.Record fields rest) s before grows all covered have =
        let scope = scope_of base levels in
        let read = walked_fields first names levels fields [] s in
        let other = walked_rest first names levels rest read.1 in
        let formula : Formula = Record (sorted read.0) other.0 in
        let later = grows_then other.1 _ final
        (appends_grows other.1 _ (pushed_appends first (Is formula) other.1)) grows in
        let on = grows_then read.1 other.1 final
        (appends_grows read.1 other.1 (rest_appends first names levels rest read.1)) later in
        let longer = appends_longer s read.1 (fields_append first names levels fields [] s) in
        let parts = each_parts Fact (names_in_fields scope fields) (names_in_rest scope rest) covered.within in
        pushed_have first names base Fact final formula other.1 grows
        (rest_have levels rest read.1 (before_later first s read.1 levels longer before) later all parts.1 covered.over
        (fields_have levels fields [] s before on all parts.0 covered.over have))
    kind_have levels (type.Xml tag attributes content) s before grows all covered have =
        let one = walked first names levels tag s in
        let two = walked first names levels attributes one.1 in
        let three = walked first names levels content two.1 in
        let formula : Formula = Xml one.0 two.0 three.0 in
        let last = grows_then three.1 _ final
        (appends_grows three.1 _ (pushed_appends first (Is formula) three.1)) grows in
        let second = walked_appends first names levels attributes one.1 in
        let later = grows_then two.1 three.1 final
        (appends_grows two.1 three.1 (walked_appends first names levels content two.1)) last in
        let on = grows_then one.1 two.1 final (appends_grows one.1 two.1 second) later in
        let longer = appends_longer s one.1 (walked_appends first names levels tag s) in
        let after = before_later first s one.1 levels longer before in
        let more = before_later first one.1 two.1 levels (appends_longer one.1 two.1 second) after in
        let parts = covered_xml Fact (scope_of base levels) tag attributes content covered in
        pushed_have first names base Fact final formula three.1 grows
        (tree_have levels content two.1 more last all parts.content_is
        (tree_have levels attributes one.1 after later all parts.attributes_are
        (tree_have levels tag s before on all parts.tag_is have)))
    kind_have levels (type.Named name) s before grows all covered have = have
    kind_have levels (type.Where is declarations) s before grows all covered have =
        let under : ScopeLevels = level_after first declarations s ∷ levels in
        let scope : Scope = declarations ∷ scope_of base levels in
        let one = entered declarations s in
        let read = walked_list first names levels declarations s in
        let on = grows_then read _ final (appends_grows read _ (walked_appends first names under is read)) grows in
        let inside = inside_equated levels declarations s before on all in
        let long = entered_length declarations s in
        let longer = list_longer first names levels declarations s in
        let parts = each_parts Fact (names_declared scope declarations) (names_in scope is) covered.within in
        let over = each_both Fact (names_declared scope declarations)
        (names_over (scope_of base levels)) parts.0 covered.over in
        tree_have under is read (before_inside first s read levels declarations longer before) grows inside
        (covered_tree Fact scope is parts.1 over)
        (declared_have under (length s) declarations one
        (before_inside first s one levels declarations (omega arith) before) (entered_unread declarations s) on inside
        parts.0 over (entered_have first names base Fact final levels declarations s inside parts.0 over have))
    kind_have levels (type.Variable name) s before grows all covered have = have
    kind_have levels (type.Default name constant) s before grows all covered have = have

    trees_have : (levels : ScopeLevels) (trees : Trees) (made : List NodeId) (s : Equations) → AreBefore first s levels
        → Grows (walked_trees first names levels trees made s).1 final → AllEquated first final names levels
        → AllOf Fact (names_in_trees (scope_of base levels) trees) → AllOf Fact (names_over (scope_of base levels))
        → HaveOrigins s → HaveOrigins (walked_trees first names levels trees made s).1
    trees_have levels NoTree made s before grows all within over have = have
    trees_have levels (ATree is rest) made s before grows all within over have =
        let scope = scope_of base levels in
        let one = walked first names levels is s in
        let on = grows_then one.1 _ final
        (appends_grows one.1 _ (trees_append first names levels rest (one_more made one.0) one.1)) grows in
        let longer = appends_longer s one.1 (walked_appends first names levels is s) in
        let parts = each_parts Fact (names_in scope is) (names_in_trees scope rest) within in
        trees_have levels rest (one_more made one.0) one.1 (before_later first s one.1 levels longer before) grows all
        parts.1 over (tree_have levels is s before on all (covered_tree Fact scope is parts.0 over) have)

    signs_have : (levels : ScopeLevels) (signs : Signs) (made : List Sign) (s : Equations) → AreBefore first s levels
        → Grows (walked_signs first names levels signs made s).1 final → AllEquated first final names levels
        → AllOf Fact (names_in_signs (scope_of base levels) signs) → AllOf Fact (names_over (scope_of base levels))
        → HaveOrigins s → HaveOrigins (walked_signs first names levels signs made s).1
    signs_have levels NoSign made s before grows all within over have = have
    signs_have levels (ASign kept is rest) made s before grows all within over have =
        let scope = scope_of base levels in
        let one = walked first names levels is s in
        let next : Sign = (kept, one.0) in
        let on = grows_then one.1 _ final
        (appends_grows one.1 _ (signs_append first names levels rest (one_more made next) one.1)) grows in
        let longer = appends_longer s one.1 (walked_appends first names levels is s) in
        let parts = each_parts Fact (names_in scope is) (names_in_signs scope rest) within in
        signs_have levels rest (one_more made next) one.1 (before_later first s one.1 levels longer before) grows all
        parts.1 over (tree_have levels is s before on all (covered_tree Fact scope is parts.0 over) have)

    fields_have : (levels : ScopeLevels) (fields : Fields) (made : List (Name × Field)) (s : Equations)
        → AreBefore first s levels
        → Grows (walked_fields first names levels fields made s).1 final → AllEquated first final names levels
        → AllOf Fact (names_in_fields (scope_of base levels) fields) → AllOf Fact (names_over (scope_of base levels))
        → HaveOrigins s → HaveOrigins (walked_fields first names levels fields made s).1
    fields_have levels NoField made s before grows all within over have = have
    fields_have levels (AField label at optional is rest) made s before grows all within over have =
        let scope = scope_of base levels in
        let one = walked first names levels is s in
        let next : Name × Field = (label, record { optional = optional; type = one.0 }) in
        let on = grows_then one.1 _ final
        (appends_grows one.1 _ (fields_append first names levels rest (one_more made next) one.1)) grows in
        let longer = appends_longer s one.1 (walked_appends first names levels is s) in
        let parts = each_parts Fact (names_in scope is) (names_in_fields scope rest) within in
        fields_have levels rest (one_more made next) one.1 (before_later first s one.1 levels longer before) grows all
        parts.1 over (tree_have levels is s before on all (covered_tree Fact scope is parts.0 over) have)

    rest_have : (levels : ScopeLevels) (rest : type.Rest) (s : Equations) → AreBefore first s levels
        → Grows (walked_rest first names levels rest s).1 final → AllEquated first final names levels
        → AllOf Fact (names_in_rest (scope_of base levels) rest) → AllOf Fact (names_over (scope_of base levels))
        → HaveOrigins s → HaveOrigins (walked_rest first names levels rest s).1
    rest_have levels type.Closed s before grows all within over have = have
    rest_have levels type.Open s before grows all within over have = have
    rest_have levels (type.Typed is) s before grows all within over have =
        tree_have levels is s before grows all (covered_tree Fact (scope_of base levels) is within over) have

    regular_have : (levels : ScopeLevels) (is : type.Regular) (s : Equations) → AreBefore first s levels
        → Grows (walked_regular first names levels is s).1 final → AllEquated first final names levels
        → AllOf Fact (names_in_regular (scope_of base levels) is) → AllOf Fact (names_over (scope_of base levels))
        → HaveOrigins s → HaveOrigins (walked_regular first names levels is s).1
    regular_have levels (type.regular span kind) s before grows all within over have =
        regular_kind_have levels kind s before grows all within over have

    regular_kind_have : (levels : ScopeLevels) (kind : type.RegularKind) (s : Equations) → AreBefore first s levels
        → Grows (walked_regular_kind first names levels kind s).1 final → AllEquated first final names levels
        → AllOf Fact (names_in_regular_kind (scope_of base levels) kind)
        → AllOf Fact (names_over (scope_of base levels))
        → HaveOrigins s → HaveOrigins (walked_regular_kind first names levels kind s).1
    regular_kind_have levels type.Nothing s before grows all within over have = have
    regular_kind_have levels (type.Item is) s before grows all within over have =
        tree_have levels is s before grows all (covered_tree Fact (scope_of base levels) is within over) have
    regular_kind_have levels (type.Seq regulars) s before grows all within over have =
        regulars_have levels regulars [] s before grows all within over have
    regular_kind_have levels (type.Alt regulars) s before grows all within over have =
        regulars_have levels regulars [] s before grows all within over have
    regular_kind_have levels (type.Repeat is post) s before grows all within over have =
        regular_have levels is s before grows all within over have
    regular_kind_have levels (type.Capture name is) s before grows all within over have = have

    regulars_have : (levels : ScopeLevels) (regulars : type.Regulars) (made : List Regular) (s : Equations)
        → AreBefore first s levels
        → Grows (walked_regulars first names levels regulars made s).1 final → AllEquated first final names levels
        → AllOf Fact (names_in_regulars (scope_of base levels) regulars)
        → AllOf Fact (names_over (scope_of base levels))
        → HaveOrigins s → HaveOrigins (walked_regulars first names levels regulars made s).1
    regulars_have levels type.NoRegular made s before grows all within over have = have
    regulars_have levels (type.ARegular is rest) made s before grows all within over have =
        let scope = scope_of base levels in
        let one = walked_regular first names levels is s in
        let on = grows_then one.1 _ final
        (appends_grows one.1 _ (regulars_append first names levels rest (one_more made one.0) one.1)) grows in
        let longer = appends_longer s one.1 (regular_appends first names levels is s) in
        let parts = each_parts Fact (names_in_regular scope is) (names_in_regulars scope rest) within in
        regulars_have levels rest (one_more made one.0) one.1
        (before_later first s one.1 levels longer before) grows all
        parts.1 over (regular_have levels is s before on all parts.0 over have)

    -- the trees of a list of declarations, whose names have origins already
    declared_have : (levels : ScopeLevels) (number : ℕ) (declarations : Declarations) (s : Equations)
        → AreBefore first s levels → AreUnread s number (number_in declarations)
        → Grows (walked_declared first names levels number declarations s) final → AllEquated first final names levels
        → AllOf Fact (names_declared (scope_of base levels) declarations)
        → AllOf Fact (names_over (scope_of base levels))
        → HaveOrigins s → HaveOrigins (walked_declared first names levels number declarations s)
    declared_have levels number NoDeclaration s before are grows all within over have = have
    declared_have levels number (ADeclaration name at is rest) s before are grows all within over have =
        let scope = scope_of base levels in
        let one = walked first names levels is s in
        let appends = walked_appends first names levels is s in
        let longer = appends_longer s one.1 appends in
        let unread = unread_later s one.1 number (number_in rest + 1) appends are in
        let after = settled number one in
        let long = settled_length number one in
        let still = settled_unread number (number_in rest) one unread in
        let later = grows_then after _ final (declared_grows first names levels (number + 1) rest after still) grows in
        let on = grows_then one.1 after final
        (settled_grows number one (unread.none number (omega arith) (omega arith))) later in
        let parts = each_parts Fact (names_in scope is) (names_declared scope rest) within.1 in
        let made = tree_have levels is s before on all (covered_tree Fact scope is parts.0 over) have in
        declared_have levels (number + 1) rest after
        (before_later first s after levels (omega arith) before) still grows all
        parts.1 over (λ n within. made n (omega arith))

module _ (first : ℕ) (names : List (Name × NodeId)) (enough : 14 ≤ first) (named : AreBelow first names)
    (base : Scope) (Fact : Declared → Type 0) where
  -- the walk over trees
  pub trees_origins : (levels : ScopeLevels) (trees : Trees) (s final : Equations) → AreBefore first s levels
      → Grows (walked_trees first names levels trees [] s).1 final → AllEquated first final names levels
      → AllOf Fact (names_in_trees (scope_of base levels) trees) → AllOf Fact (names_over (scope_of base levels))
      → ((n : ℕ) → n < length s → HasOrigin first final names base Fact n)
      → (n : ℕ) → n < length (walked_trees first names levels trees [] s).1 → HasOrigin first final names base Fact n
  trees_origins levels trees s final before grows all within over have =
      trees_have first names base Fact final enough named levels trees [] s before grows all within over have

  -- and that over a list of declarations
  pub list_origins : (levels : ScopeLevels) (declarations : Declarations) (s final : Equations) → AreBefore first s levels
      → Grows (walked_list first names levels declarations s) final → AllEquated first final names levels
      → AllOf Fact (names_declared (declarations ∷ scope_of base levels) declarations)
      → AllOf Fact (names_over (scope_of base levels))
      → ((n : ℕ) → n < length s → HasOrigin first final names base Fact n)
      → (n : ℕ) → n < length (walked_list first names levels declarations s) → HasOrigin first final names base Fact n
  list_origins levels declarations s final before grows all within over have =
      let under : ScopeLevels = level_after first declarations s ∷ levels in
      let scope : Scope = declarations ∷ scope_of base levels in
      let one = entered declarations s in
      let long = entered_length declarations s in
      let inside = inside_equated first names base Fact final enough named levels declarations s before grows all in
      let outer = each_both Fact (names_declared scope declarations) (names_over (scope_of base levels)) within over in
      declared_have first names base Fact final enough named under (length s) declarations one
      (before_inside first s one levels declarations (omega arith) before) (entered_unread declarations s) grows inside
      within outer (entered_have first names base Fact final levels declarations s inside within outer have)
