-- What built-in nodes, nodes of given names and nodes with equations have in common, the node that a walk gives has.
use Rattle.std.proofs.Common.{◌≡◌, ℕ, ◌+◌, ◌<◌, ◌≤◌, Bool, true, false, List, [], ◌∷◌, map, length, Option, Some, None}
use Rattle.std.proofs.Common.{refl, subst, bytes_eq, if◌then◌else◌, arith}
use Rattle.std.specs.Option.{option_map, unwrap_or}
use Rattle.std.proofs.lemmas.List.{length-append}
use Rattle.cd_sets.specs.declared.node_id.NodeId.{NodeId}
use Rattle.cd_syntax.specs.Name.{Name}
use Rattle.cd_syntax.specs.TypeTree as type
use Rattle.cd_syntax.specs.TypeTree.{Tree, tree, Kind, Trees, NoTree, ATree, Signs, NoSign, ASign, Fields, NoField}
use Rattle.cd_syntax.specs.TypeTree.{AField, Declarations, NoDeclaration, ADeclaration}
use Rattle.cd_syntax.specs.declared.builtin.BuiltinName.{BuiltinName}
use Rattle.cd_syntax.specs.declared.builtin.BuiltinName.TheVariants as name
use Rattle.cd_model.specs.AllOf.{AllOf}
use Rattle.cd_model.specs.BuiltIns.{EMPTY, ANY, NIL, node, node_named}
use Rattle.cd_model.specs.Formula.{Formula, Field}
use Rattle.cd_model.proofs.Ones.{each_weaker}
use Rattle.cd_regex.specs.Regular.{Regular, AsksBelow}
use Rattle.cd_regex.specs.Automaton.{sequence_formulas}
use Rattle.cd_resolve.specs.Inner.Names.{node_of}
use Rattle.cd_shared.specs.Equation.{Equation, Equations, Is}
use Rattle.cd_resolve.specs.Named.{index_in}
use Rattle.cd_resolve.specs.Inner.ScopeLevels.{ScopeLevel, ScopeLevels, declared_or, node_under, number_in}
use Rattle.cd_resolve.specs.Inner.Leaves.{characters, Joint, Pairs, Arrows}
use Rattle.cd_resolve.specs.Inner.Members.{Sign, union_of, meet_of}
use Rattle.cd_resolve.specs.Inner.Walk.{pushed, leaf, walked_text, chained, united, met, one_more, sequenced}
use Rattle.cd_resolve.specs.Inner.Walk.{level_after, ReadRegular, walked, walked_kind, walked_trees, walked_signs}
use Rattle.cd_resolve.specs.Inner.Walk.{walked_fields, walked_regular, walked_regular_kind, walked_regulars}
use Rattle.cd_resolve.specs.Inner.Walk.{walked_rest, walked_list}
use Rattle.cd_resolve.proofs.Growing.{appends_longer, walked_appends, regular_appends, list_longer}
use Rattle.cd_resolve.proofs.MembersKept.{each_more, union_keeps, meet_keeps}
use Rattle.cd_resolve.proofs.AsksMore.{asks_more, asks_repeated, ask_all}

-- a built-in name has one of the first nodes
pub built_in_below : (is : BuiltinName) → (node_named is).0 < 14
built_in_below name.Empty = omega arith
built_in_below name.Any = omega arith
built_in_below name.Int = omega arith
built_in_below name.Char = omega arith
built_in_below name.Byte = omega arith
built_in_below name.Atom = omega arith
built_in_below name.Bool = omega arith
built_in_below name.String = omega arith
built_in_below name.Arrow = omega arith
built_in_below name.Pair = omega arith
built_in_below name.Record = omega arith
built_in_below name.AnyXml = omega arith
built_in_below name.Data = omega arith

-- an index, if there is one, is below this number
abbrev pub IsBelow : ℕ → Option ℕ → Type 0
IsBelow limit None = Unit {0}
IsBelow limit (Some index) = index < limit

-- one more name before others
index_later : (limit : ℕ) (here : Bool) (later : Option ℕ) → IsBelow limit later
    → IsBelow (limit + 1) (if here then Some 0 else option_map (λ index. index + 1) later)
index_later limit true later below = omega arith
index_later limit false None below = tt
index_later limit false (Some index) below = omega arith

-- the index of a name is below the number of names
pub index_below : (declarations : Declarations) (name : Name)
    → IsBelow (number_in declarations) (index_in declarations name)
index_below NoDeclaration name = tt
index_below (ADeclaration other at is rest) name =
    index_later (number_in rest) (bytes_eq other name) (index_in rest name) (index_below rest name)

-- a fact of nodes among so many equations, which the built-in ones have, those of the given names and those of the
-- equations, of which the first is that of the node of this number
pub record IsOfNodes (first : ℕ) (names : List (Name × NodeId)) (Fact : ℕ → NodeId → Type 0) : Type 0 where
  pub grows : (count more : ℕ) (id : NodeId) → count ≤ more → Fact count id → Fact more id
  pub built_in : (count : ℕ) (id : NodeId) → id.0 < 14 → Fact count id
  pub named : (count : ℕ) (name : Name) (id : NodeId) → node_of names name ≡ Some id → Fact count id
  pub numbered : (count number : ℕ) → number < count → Fact count (node (first + number))
  pub below : (count : ℕ) (id : NodeId) → Fact count id → id.0 < first + count

module _ (first : ℕ) (names : List (Name × NodeId)) (Fact : ℕ → NodeId → Type 0)
    (nodes : IsOfNodes first names Fact) where
  -- the names of a level have the fact, and so those of each level
  abbrev pub HasNodes : ℕ → ScopeLevel → Type 0
  HasNodes count level = (index : ℕ) → index < number_in level.declarations → Fact count (node (level.first + index))

  abbrev pub HaveNodes : ℕ → ScopeLevels → Type 0
  HaveNodes count levels = AllOf (HasNodes count) levels

  pub levels_later : (count more : ℕ) (levels : ScopeLevels) → count ≤ more → HaveNodes count levels → HaveNodes more levels
  levels_later count more levels longer have =
      each_weaker (HasNodes count) (HasNodes more)
      (λ level has index within. nodes.grows count more (node (level.first + index)) longer
      (has index within)) levels have

  -- the level of a list that was met has the nodes of the next equations
  pub level_has : (count : ℕ) (declarations : Declarations) (s : Equations) → length s + number_in declarations ≤ count
      → HasNodes count (level_after first declarations s)
  level_has count declarations s longer index within =
      subst (λ (number : ℕ). Fact count (node number)) (omega arith)
      (nodes.numbered count (length s + index) (omega arith))

  -- a name under levels
  given_has : (count : ℕ) (name : Name) → Fact count (unwrap_or (node_of names name) EMPTY)
  given_has count name = by_node (node_of names name) refl
    where
      by_node : (id : Option NodeId) → node_of names name ≡ id → Fact count (unwrap_or id EMPTY)
      by_node None is = nodes.built_in count EMPTY (omega arith)
      by_node (Some id) is = nodes.named count name id is

  declared_has : (count : ℕ) (level : ScopeLevel) (index : Option ℕ) (outer : NodeId) → HasNodes count level
      → IsBelow (number_in level.declarations) index → Fact count outer
      → Fact count (declared_or level.first index outer)
  declared_has count level None outer has below is = is
  declared_has count level (Some index) outer has below is = has index below

  name_has : (count : ℕ) (levels : ScopeLevels) (name : Name) → HaveNodes count levels
      → Fact count (node_under names levels name)
  name_has count [] name have = given_has count name
  name_has count (level ∷ outer) name have =
      declared_has count level (index_in level.declarations name) (node_under names outer name) have.0
      (index_below level.declarations name) (name_has count outer name have.1)

  -- an equation that is made
  pub pushed_has : (equation : Equation) (s : Equations)
      → Fact (length (pushed first equation s).1) (pushed first equation s).0
  pushed_has equation s =
      let long = length-append s (Some equation ∷ []) in nodes.numbered _ (length s) (omega arith)

  pub leaf_has : (formula : Option Formula) (s : Equations)
      → Fact (length (leaf first formula s).1) (leaf first formula s).0
  leaf_has (Some formula) s = pushed_has _ s
  leaf_has None s = nodes.built_in _ EMPTY (omega arith)

  pub text_has : (text : List ℕ) (s : Equations)
      → Fact (length (walked_text first text s).1) (walked_text first text s).0
  text_has [] s = nodes.built_in _ NIL (omega arith)
  text_has (c ∷ text) s = pushed_has _ (leaf first (characters c c) (walked_text first text s).1).1

  pub chained_has : (joint : Joint) (ids : List NodeId) (s : Equations) → AllOf (Fact (length s)) ids
      → Fact (length (chained first joint ids s).1) (chained first joint ids s).0
  chained_has joint [] s each = nodes.built_in _ EMPTY (omega arith)
  chained_has joint (one ∷ []) s each = each.0
  chained_has joint (one ∷ next ∷ rest) s each = pushed_has _ (chained first joint (next ∷ rest) s).1

  united_has : (ids : List NodeId) (s : Equations) → AllOf (Fact (length s)) ids
      → Fact (length (united first ids s).1) (united first ids s).0
  united_has [] s each = nodes.built_in _ EMPTY (omega arith)
  united_has (one ∷ []) s each = each.0
  united_has (one ∷ other ∷ rest) s each = pushed_has _ s

  met_has : (signs : List Sign) (s : Equations) → AllOf (λ sign. Fact (length s) sign.1) signs
      → Fact (length (met first signs s).1) (met first signs s).0
  met_has [] s each = nodes.built_in _ ANY (omega arith)
  met_has ((true, one) ∷ []) s each = each.0
  met_has ((false, one) ∷ []) s each = pushed_has _ s
  met_has ((true, one) ∷ other ∷ rest) s each = pushed_has _ s
  met_has ((false, one) ∷ other ∷ rest) s each = pushed_has _ s

  sequenced_has : (one : ReadRegular) → Fact (length (sequenced first one).1) (sequenced first one).0
  sequenced_has one =
      let long = length-append one.1
      (map (λ (formula : Formula). Some (Is formula)) (sequence_formulas (first + length one.1) one.0)) in
      nodes.numbered _ (length one.1) (omega arith)

  -- things in which nodes stand, and one more whose node was made later
  one_more_has : {X : Type 0} (at : X → NodeId) (s t : Equations) (made : List X) (next : X) → length s ≤ length t
      → AllOf (λ one. Fact (length s) (at one)) made → Fact (length t) (at next)
      → AllOf (λ one. Fact (length t) (at one)) (one_more made next)
  one_more_has at s t made next longer each is =
      each_more (λ one. Fact (length t) (at one)) made next
      (each_weaker (λ one. Fact (length s) (at one)) (λ one. Fact (length t) (at one))
      (λ one. nodes.grows (length s) (length t) (at one) longer) made each) is

  mutual
    -- a tree, and what trees are made of
    pub tree_has : (levels : ScopeLevels) (is : Tree) (s : Equations) → HaveNodes (length s) levels
        → Fact (length (walked first names levels is s).1) (walked first names levels is s).0
    tree_has levels (tree span kind) s have = kind_has levels kind s have

    pub kind_has : (levels : ScopeLevels) (kind : Kind) (s : Equations) → HaveNodes (length s) levels
        → Fact (length (walked_kind first names levels kind s).1) (walked_kind first names levels kind s).0
    kind_has levels (type.Builtin name) s have =
        let below = built_in_below name in nodes.built_in (length s) (node_named name) below
    kind_has levels (type.Ints low high) s have = leaf_has _ s
    kind_has levels (type.Chars low high) s have = leaf_has _ s
    kind_has levels (type.Atom name) s have = pushed_has _ s
    kind_has levels (type.Text text) s have = text_has text s
    kind_has levels (type.Tuple NoTree) s have = nodes.built_in _ EMPTY (omega arith)
    kind_has levels (type.Tuple (ATree one NoTree)) s have = nodes.built_in _ EMPTY (omega arith)
    kind_has levels (type.Tuple (ATree one (ATree next rest))) s have =
        let all = walked_trees first names levels (ATree one (ATree next rest)) [] s in
        chained_has Pairs all.0 all.1 (trees_have levels (ATree one (ATree next rest)) [] s have tt)
    kind_has levels (type.Arrows NoTree) s have = nodes.built_in _ EMPTY (omega arith)
    kind_has levels (type.Arrows (ATree one NoTree)) s have = nodes.built_in _ EMPTY (omega arith)
    kind_has levels (type.Arrows (ATree one (ATree next rest))) s have =
        let all = walked_trees first names levels (ATree one (ATree next rest)) [] s in
        chained_has Arrows all.0 all.1 (trees_have levels (ATree one (ATree next rest)) [] s have tt)
    kind_has levels (type.Union trees) s have =
        let all = walked_trees first names levels trees [] s in
        united_has (union_of all.0) all.1
        (union_keeps (Fact (length all.1)) all.0 (trees_have levels trees [] s have tt))
    kind_has levels (type.Meet one signs) s have =
        let kept = walked first names levels one s in
        let all = walked_signs first names levels signs ((true, kept.0) ∷ []) kept.1 in
        let later = levels_later (length s) (length kept.1) levels
        (appends_longer s kept.1 (walked_appends first names levels one s)) have in
        met_has (meet_of all.0) all.1
        (meet_keeps (λ sign. Fact (length all.1) sign.1) all.0
        (signs_have levels signs ((true, kept.0) ∷ []) kept.1 later (tree_has levels one s have, tt)))
    kind_has levels (type.Sequence is) s have = sequenced_has (walked_regular first names levels is s)
    kind_has levels (type.Record fields rest) s have =
        pushed_has _ (walked_rest first names levels rest (walked_fields first names levels fields [] s).1).1
    kind_has levels (type.Xml tag attributes content) s have =
        pushed_has _
        (walked first names levels content
        (walked first names levels attributes (walked first names levels tag s).1).1).1
    kind_has levels (type.Named name) s have = name_has (length s) levels name have
    kind_has levels (type.Where is declarations) s have =
        let under : ScopeLevels = level_after first declarations s ∷ levels in
        let all = walked_list first names levels declarations s in
        let longer = list_longer first names levels declarations s in
        tree_has under is all
        (level_has (length all) declarations s longer, levels_later (length s) (length all) levels (omega arith) have)
    kind_has levels (type.Variable name) s have = nodes.built_in _ EMPTY (omega arith)
    kind_has levels (type.Default name constant) s have = nodes.built_in _ EMPTY (omega arith)

    pub trees_have : (levels : ScopeLevels) (trees : Trees) (made : List NodeId) (s : Equations)
        → HaveNodes (length s) levels
        → AllOf (Fact (length s)) made
        → AllOf (Fact (length (walked_trees first names levels trees made s).1))
        (walked_trees first names levels trees made s).0
    trees_have levels NoTree made s have each = each
    trees_have levels (ATree is rest) made s have each =
        let one = walked first names levels is s in
        let longer = appends_longer s one.1 (walked_appends first names levels is s) in
        trees_have levels rest (one_more made one.0) one.1 (levels_later (length s) (length one.1) levels longer have)
        (one_more_has (λ id. id) s one.1 made one.0 longer each (tree_has levels is s have))

    pub signs_have : (levels : ScopeLevels) (signs : Signs) (made : List Sign) (s : Equations) → HaveNodes (length s) levels
        → AllOf (λ sign. Fact (length s) sign.1) made
        → AllOf (λ sign. Fact (length (walked_signs first names levels signs made s).1) sign.1)
        (walked_signs first names levels signs made s).0
    signs_have levels NoSign made s have each = each
    signs_have levels (ASign kept is rest) made s have each =
        let one = walked first names levels is s in
        let longer = appends_longer s one.1 (walked_appends first names levels is s) in
        signs_have levels rest (one_more made (kept, one.0)) one.1
        (levels_later (length s) (length one.1) levels longer have)
        (one_more_has (λ (sign : Sign). sign.1) s one.1 made (kept, one.0) longer each (tree_has levels is s have))

    pub fields_have : (levels : ScopeLevels) (fields : Fields) (made : List (Name × Field)) (s : Equations)
        → HaveNodes (length s) levels → AllOf (λ field. Fact (length s) field.1.type) made
        → AllOf (λ field. Fact (length (walked_fields first names levels fields made s).1) field.1.type)
        (walked_fields first names levels fields made s).0
    fields_have levels NoField made s have each = each
    fields_have levels (AField label at optional is rest) made s have each =
        let one = walked first names levels is s in
        let next : Name × Field = (label, record { optional = optional; type = one.0 }) in
        let longer = appends_longer s one.1 (walked_appends first names levels is s) in
        fields_have levels rest (one_more made next) one.1 (levels_later (length s) (length one.1) levels longer have)
        (one_more_has (λ (field : Name × Field). field.1.type) s one.1 made next longer each
        (tree_has levels is s have))

    pub rest_has : (levels : ScopeLevels) (rest : type.Rest) (s : Equations) → HaveNodes (length s) levels
        → Fact (length (walked_rest first names levels rest s).1) (walked_rest first names levels rest s).0
    rest_has levels type.Closed s have = nodes.built_in _ EMPTY (omega arith)
    rest_has levels type.Open s have = nodes.built_in _ ANY (omega arith)
    rest_has levels (type.Typed is) s have = tree_has levels is s have

    -- an expression asks for nodes below all that come after its items
    pub regular_asks : (levels : ScopeLevels) (is : type.Regular) (s : Equations) → HaveNodes (length s) levels
        → AsksBelow (first + length (walked_regular first names levels is s).1)
        (walked_regular first names levels is s).0
    regular_asks levels (type.regular span kind) s have = regular_kind_asks levels kind s have

    pub regular_kind_asks : (levels : ScopeLevels) (kind : type.RegularKind) (s : Equations) → HaveNodes (length s) levels
        → AsksBelow (first + length (walked_regular_kind first names levels kind s).1)
        (walked_regular_kind first names levels kind s).0
    regular_kind_asks levels type.Nothing s have = tt
    regular_kind_asks levels (type.Item is) s have = nodes.below _ _ (tree_has levels is s have)
    regular_kind_asks levels (type.Seq all) s have =
        let read = walked_regulars first names levels all [] s in
        ask_all (first + length read.1) read.0 (regulars_ask levels all [] s have tt)
    regular_kind_asks levels (type.Alt all) s have =
        let read = walked_regulars first names levels all [] s in
        ask_all (first + length read.1) read.0 (regulars_ask levels all [] s have tt)
    regular_kind_asks levels (type.Repeat is post) s have =
        asks_repeated _ post (walked_regular first names levels is s).0 (regular_asks levels is s have)
    regular_kind_asks levels (type.Capture name is) s have = tt

    pub regulars_ask : (levels : ScopeLevels) (all : type.Regulars) (made : List Regular) (s : Equations)
        → HaveNodes (length s) levels → AllOf (AsksBelow (first + length s)) made
        → AllOf (AsksBelow (first + length (walked_regulars first names levels all made s).1))
        (walked_regulars first names levels all made s).0
    regulars_ask levels type.NoRegular made s have each = each
    regulars_ask levels (type.ARegular is rest) made s have each =
        let one = walked_regular first names levels is s in
        let longer = appends_longer s one.1 (regular_appends first names levels is s) in
        regulars_ask levels rest (one_more made one.0) one.1 (levels_later (length s) (length one.1) levels longer have)
        (each_more (AsksBelow (first + length one.1)) made one.0
        (each_weaker (AsksBelow (first + length s)) (AsksBelow (first + length one.1))
        (λ part. asks_more (first + length s) (first + length one.1) part (omega arith)) made each)
        (regular_asks levels is s have))
