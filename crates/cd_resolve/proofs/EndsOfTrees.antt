-- All ways end from a node of a tree, if they end from the names that it leads to.
use Rattle.std.proofs.Common.{◌≡◌, ℕ, ◌+◌, ◌<◌, ◌≤◌, true, false, List, [], ◌∷◌, map, Option, Some, None, sym, subst}
use Rattle.std.proofs.Common.{arith}
use Rattle.std.specs.List.{slice_get}
use Rattle.cd_sets.specs.declared.node_id.NodeId.{NodeId}
use Rattle.cd_syntax.specs.Name.{Name}
use Rattle.cd_syntax.specs.TypeTree as type
use Rattle.cd_syntax.specs.TypeTree.{Tree, tree, Kind, Trees, NoTree, ATree, Signs, NoSign, ASign}
use Rattle.cd_model.specs.AllOf.{AllOf}
use Rattle.cd_model.specs.BuiltIns.{EMPTY, ANY, NIL, node, node_named}
use Rattle.cd_model.specs.Formula.{Formula, Pair, Xml, Arrow}
use Rattle.cd_model.specs.Guarded.{IsOneOf, IsSigned}
use Rattle.cd_model.specs.Scope.{Scope}
use Rattle.cd_model.specs.Written.{kind_of}
use Rattle.cd_model.proofs.Covered.{each_both}
use Rattle.cd_model.proofs.Places.{AreClosed}
use Rattle.cd_shared.specs.Equation.{Equation, Equations, Is, And, Or}
use Rattle.cd_resolve.specs.Inner.Equates.{IsAt, HasLeaf, EquatesText, HasUnion, HasMeet, Equates, EquatesKind}
use Rattle.cd_resolve.specs.Inner.Equates.{EquatesEach, EquatesSigns, AllEquated}
use Rattle.cd_resolve.specs.Inner.ScopeLevels.{ScopeLevels, scope_of, node_under}
use Rattle.cd_resolve.specs.Inner.Leaves.{integers, characters}
use Rattle.cd_resolve.specs.Inner.Links.{number_at, numbers_of, numbers_under, links}
use Rattle.cd_resolve.specs.Inner.Members.{Sign, union_of, meet_of}
use Rattle.cd_resolve.specs.Inner.Order.{Ends}
use Rattle.cd_resolve.proofs.EndsOfLists.{ends_by_row}
use Rattle.cd_resolve.proofs.LinksRows.{number_is, row_of_equation}
use Rattle.cd_resolve.proofs.MembersKept.{union_keeps, meet_keeps}
use Rattle.cd_resolve.proofs.NodesOfWalks.{built_in_below}

module _ (first : ℕ) (equations : Equations) where
  -- all ways from a node end
  abbrev pub EndsAt : NodeId → Type 0
  EndsAt id = AllOf (Ends (links first equations)) (number_at first id)

  -- none leads on from an older node
  pub older_ends : (id : NodeId) → id.0 < first → EndsAt id
  older_ends id older = number_is first (Ends (links first equations)) id (λ number same. absurd (omega arith))

  -- and so from the node of a number, if they end from the number
  pub node_of_number : (number : ℕ) → Ends (links first equations) number → EndsAt (node (first + number))
  node_of_number number ends = number_is first (Ends (links first equations)) (node (first + number))
      (λ other same. let is : number ≡ other = omega arith in subst (Ends (links first equations)) is ends)

  -- they end from a number, if they end from what its equation stands over
  pub number_ends : (number : ℕ) (equation : Equation) → slice_get equations number ≡ Some (Some equation)
      → AllOf (Ends (links first equations)) (numbers_under first (Some equation)) → Ends (links first equations) number
  number_ends number equation at each = ends_by_row (links first equations) number
      (subst (AllOf (Ends (links first equations))) (sym (row_of_equation first equations number equation at)) each)

  pub at_equation : (id : NodeId) (equation : Equation) → IsAt first equations id equation
      → AllOf (Ends (links first equations)) (numbers_under first (Some equation)) → EndsAt id
  at_equation id equation is each = subst EndsAt (sym is.there)
      (node_of_number is.number (number_ends is.number equation is.is each))

  -- the numbers of nodes
  nodes_end : (ids : List NodeId) → AllOf EndsAt ids → AllOf (Ends (links first equations)) (numbers_of first ids)
  nodes_end [] each = tt
  nodes_end (id ∷ ids) each = each_both (Ends (links first equations)) (number_at first id) (numbers_of first ids)
      each.0 (nodes_end ids each.1)

  signed_end : (signs : List Sign) → AllOf (λ sign. EndsAt sign.1) signs
      → AllOf (Ends (links first equations)) (numbers_of first (map (λ sign. sign.1) signs))
  signed_end [] each = tt
  signed_end (sign ∷ signs) each = each_both (Ends (links first equations)) (number_at first sign.1)
      (numbers_of first (map (λ sign. sign.1) signs)) each.0 (signed_end signs each.1)

  module _ (built_in : 14 ≤ first) where
    at_older : (id other : NodeId) → id ≡ other → other.0 < 14 → EndsAt id
    at_older id other is older = subst EndsAt (sym is) (older_ends other (omega arith))

    -- a leaf, if there is one
    at_leaf : (formula : Option Formula) (id : NodeId) → HasLeaf first equations formula id → EndsAt id
    at_leaf None id is = at_older id EMPTY is (omega arith)
    at_leaf (Some formula) id is = at_equation id (Is formula) is tt

    -- a text
    at_text : (text : List ℕ) (id : NodeId) → EquatesText first equations text id → EndsAt id
    at_text [] id is = at_older id NIL is (omega arith)
    at_text (c ∷ text) id is = at_equation id (Is (Pair is.0 is.1)) is.2 tt

    -- a union and a meet, whatever members are left
    at_union : (id : NodeId) (ids : List NodeId) → HasUnion first equations id ids → AllOf EndsAt ids → EndsAt id
    at_union id [] is each = at_older id EMPTY is (omega arith)
    at_union id (one ∷ []) is each = subst EndsAt (sym is) each.0
    at_union id (one ∷ other ∷ rest) is each =
        at_equation id (Or (one ∷ other ∷ rest)) is (nodes_end (one ∷ other ∷ rest) each)

    at_meet : (id : NodeId) (signs : List Sign) → HasMeet first equations id signs
        → AllOf (λ sign. EndsAt sign.1) signs → EndsAt id
    at_meet id [] is each = at_older id ANY is (omega arith)
    at_meet id ((true, one) ∷ []) is each = subst EndsAt (sym is) each.0
    at_meet id ((false, one) ∷ []) is each = at_equation id (And ((false, one) ∷ [])) is
        (signed_end ((false, one) ∷ []) each)
    at_meet id ((true, one) ∷ other ∷ rest) is each = at_equation id (And ((true, one) ∷ other ∷ rest)) is
        (signed_end ((true, one) ∷ other ∷ rest) each)
    at_meet id ((false, one) ∷ other ∷ rest) is each = at_equation id (And ((false, one) ∷ other ∷ rest)) is
        (signed_end ((false, one) ∷ other ∷ rest) each)

    module _ (names : List (Name × NodeId)) (base : Scope) where
      -- all ways end from the names that stand in such places
      abbrev pub EndsAtNames : (Scope → Kind → Type 0) → Type 0
      EndsAtNames Stands = (levels : ScopeLevels) (name : Name) → AllEquated first equations names levels
          → Stands (scope_of base levels) (type.Named name)
          → EndsAt (node_under names levels name)

      module _ (Stands : Scope → Kind → Type 0) (closed : AreClosed Stands) (named : EndsAtNames Stands) where
        mutual
          -- and so from each tree that stands in them
          pub tree_ends : (levels : ScopeLevels) (is : Tree) (id : NodeId) → AllEquated first equations names levels
              → Equates first equations names levels is id
              → Stands (scope_of base levels) (kind_of is) → EndsAt id
          tree_ends levels (tree span kind) id lists equated stands = kind_ends levels kind id lists equated stands

          pub kind_ends : (levels : ScopeLevels) (kind : Kind) (id : NodeId) → AllEquated first equations names levels
              → EquatesKind first equations names levels kind id → Stands (scope_of base levels) kind → EndsAt id
          kind_ends levels (type.Builtin name) id lists equated stands =
              at_older id (node_named name) equated (built_in_below name)
          kind_ends levels (type.Ints low high) id lists equated stands = at_leaf (integers low high) id equated
          kind_ends levels (type.Chars low high) id lists equated stands = at_leaf (characters low high) id equated
          kind_ends levels (type.Atom name) id lists equated stands = at_equation id _ equated tt
          kind_ends levels (type.Text text) id lists equated stands = at_text text id equated
          kind_ends levels (type.Tuple NoTree) id lists equated stands = at_older id EMPTY equated (omega arith)
          kind_ends levels (type.Tuple (ATree one NoTree)) id lists equated stands =
              at_older id EMPTY equated (omega arith)
          kind_ends levels (type.Tuple (ATree one (ATree next rest))) id lists equated stands =
              at_equation id (Is (Pair equated.0 equated.1)) equated.2 tt
          kind_ends levels (type.Arrows NoTree) id lists equated stands = at_older id EMPTY equated (omega arith)
          kind_ends levels (type.Arrows (ATree one NoTree)) id lists equated stands =
              at_older id EMPTY equated (omega arith)
          kind_ends levels (type.Arrows (ATree one (ATree next rest))) id lists equated stands =
              at_equation id (Is (Arrow equated.0 equated.1)) equated.2 tt
          kind_ends levels (type.Union trees) id lists equated stands =
              at_union id (union_of equated.0) equated.1
              (union_keeps EndsAt equated.0 (trees_end levels trees equated.0 lists equated.2
              (λ is among. closed.in_union (scope_of base levels) trees is among stands)))
          kind_ends levels (type.Meet one signs) id lists equated stands =
              at_meet id (meet_of ((true, equated.0) ∷ equated.1)) equated.2
              (meet_keeps (λ sign. EndsAt sign.1) ((true, equated.0) ∷ equated.1) (
                tree_ends levels one equated.0 lists equated.3
                    (closed.in_first (scope_of base levels) one signs stands),
                signs_end levels signs equated.1 lists equated.4
                    (λ is among. closed.in_signed (scope_of base levels) one is signs among stands),
              ))
          -- a sequence begins in the first state of its automaton
          kind_ends levels (type.Sequence is) id lists equated stands = at_equation id _ equated.1.0 tt
          kind_ends levels (type.Record fields rest) id lists equated stands = at_equation id _ equated.2 tt
          kind_ends levels (type.Xml tag attributes content) id lists equated stands =
              at_equation id (Is (Xml equated.0 equated.1 equated.2)) equated.3 tt
          kind_ends levels (type.Named name) id lists equated stands =
              subst EndsAt (sym equated) (named levels name lists stands)
          kind_ends levels (type.Where is declarations) id lists equated stands =
              tree_ends (record { declarations = declarations; first = equated.0 } ∷ levels) is id (equated.1, lists)
              equated.2 (closed.under_where (scope_of base levels) is declarations stands)
          kind_ends levels (type.Variable name) id lists equated stands = at_older id EMPTY equated (omega arith)
          kind_ends levels (type.Default name constant) id lists equated stands =
              at_older id EMPTY equated (omega arith)

          -- each of some trees
          trees_end : (levels : ScopeLevels) (trees : Trees) (ids : List NodeId) → AllEquated first equations names levels
              → EquatesEach first equations names levels trees ids
              → ((is : Tree) → IsOneOf is trees → Stands (scope_of base levels) (kind_of is)) → AllOf EndsAt ids
          trees_end levels NoTree [] lists equated stand = tt
          trees_end levels NoTree (id ∷ ids) lists equated stand = elim equated [ ]
          trees_end levels (ATree one rest) [] lists equated stand = elim equated [ ]
          trees_end levels (ATree one rest) (id ∷ ids) lists equated stand = (
            tree_ends levels one id lists equated.0 (stand one (IsOneOf.first one rest)),
            trees_end levels rest ids lists equated.1 (λ is among. stand is (IsOneOf.later is one rest among)),
          )

          -- each tree after a sign
          signs_end : (levels : ScopeLevels) (signs : Signs) (signed : List Sign) → AllEquated first equations names levels
              → EquatesSigns first equations names levels signs signed
              → ((is : Tree) → IsSigned is signs → Stands (scope_of base levels) (kind_of is))
              → AllOf (λ sign. EndsAt sign.1) signed
          signs_end levels NoSign [] lists equated stand = tt
          signs_end levels NoSign (sign ∷ signed) lists equated stand = elim equated [ ]
          signs_end levels (ASign kept one rest) [] lists equated stand = elim equated [ ]
          signs_end levels (ASign kept one rest) (sign ∷ signed) lists equated stand = (
            tree_ends levels one sign.1 lists equated.1 (stand one (IsSigned.first kept one rest)),
            signs_end levels rest signed lists equated.2 (λ is among. stand is (IsSigned.later kept is one rest among)),
          )
