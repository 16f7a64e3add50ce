-- What it is for a node to have the equations of a tree.
use Rattle.std.specs.Prelude.{◌≡◌, ℕ, ◌+◌, true, List, [], ◌∷◌, Option, Some, None}
use Rattle.std.specs.List.{slice_get}
use Rattle.cd_sets.specs.declared.node_id.NodeId.{NodeId}
use Rattle.cd_syntax.specs.Name.{Name}
use Rattle.cd_syntax.specs.TypeTree as type
use Rattle.cd_syntax.specs.TypeTree.{Tree, tree, Kind, Trees, NoTree, ATree, Signs, NoSign, ASign}
use Rattle.cd_syntax.specs.TypeTree.{Fields, NoField, AField, Declarations, NoDeclaration}
use Rattle.cd_syntax.specs.TypeTree.{ADeclaration}
use Rattle.cd_syntax.specs.TypeTree.{Rest, Closed, Open, Typed}
use Rattle.cd_model.specs.BuiltIns.{EMPTY, ANY, NIL, node, node_named}
use Rattle.cd_model.specs.Formula.{Formula, Field, Pair, Xml, Record}
use Rattle.cd_regex.specs.Regular.{Regular, Regulars, Nothing, Item, Seq, Alt, NoRegular, ARegular}
use Rattle.cd_regex.specs.Regular.{AsksBelow}
use Rattle.cd_regex.specs.Automaton.{sequence_formulas}
use Rattle.cd_shared.specs.Equation.{Equation, Equations, Is, Same, And, Or}
use Rattle.cd_resolve.specs.Inner.ScopeLevels.{ScopeLevels, node_under}
use Rattle.cd_resolve.specs.Inner.Leaves.{integers, characters, atom, Joint, Pairs, Arrows, joined}
use Rattle.cd_resolve.specs.Inner.Leaves.{sorted}
use Rattle.cd_resolve.specs.Inner.Members.{Sign, union_of, meet_of}
use Rattle.cd_resolve.specs.Inner.Repeated.{repeated}

-- The first of the equations is that of the node of this number, and names that no list declares
-- have these nodes
module _ (first : ℕ) (equations : Equations) where
  -- the node has this equation
  pub record IsAt (id : NodeId) (equation : Equation) : Type 0 where
    pub number : ℕ
    pub there : id ≡ node (first + number)
    pub is : slice_get equations number ≡ Some (Some equation)

  -- the node of a formula, if there is one, else of what holds nothing
  abbrev pub HasLeaf : Option Formula → NodeId → Type 0
  HasLeaf (Some formula) id = IsAt id (Is formula)
  HasLeaf None id = id ≡ EMPTY

  -- a text is pairs of its characters
  abbrev pub EquatesText : List ℕ → NodeId → Type 0
  EquatesText [] id = id ≡ NIL
  EquatesText (c ∷ text) id = (one other : NodeId) × IsAt id (Is (Pair one other))
      × HasLeaf (characters c c) one × EquatesText text other

  -- a union of no members holds nothing, and of one what this holds; a meet of none everything
  abbrev pub HasUnion : NodeId → List NodeId → Type 0
  HasUnion id [] = id ≡ EMPTY
  HasUnion id (one ∷ []) = id ≡ one
  HasUnion id (one ∷ other ∷ rest) = IsAt id (Or (one ∷ other ∷ rest))

  abbrev pub HasMeet : NodeId → List Sign → Type 0
  HasMeet id [] = id ≡ ANY
  HasMeet id ((true, one) ∷ []) = id ≡ one
  HasMeet id signs = IsAt id (And signs)

  -- nodes that follow one another have these formulas
  abbrev pub HaveFormulas : ℕ → List Formula → Type 0
  HaveFormulas number [] = Unit {0}
  HaveFormulas number (formula ∷ rest) = IsAt (node number) (Is formula)
      × HaveFormulas (number + 1) rest

  module _ (names : List (Name × NodeId)) where
    abbrev mutual
      pub Equates : ScopeLevels → Tree → NodeId → Type 0
      Equates levels (tree span kind) id = EquatesKind levels kind id

      pub EquatesKind : ScopeLevels → Kind → NodeId → Type 0
      EquatesKind levels (type.Builtin name) id = id ≡ node_named name
      EquatesKind levels (type.Ints low high) id = HasLeaf (integers low high) id
      EquatesKind levels (type.Chars low high) id = HasLeaf (characters low high) id
      EquatesKind levels (type.Atom name) id = IsAt id (Is (atom name))
      EquatesKind levels (type.Text text) id = EquatesText text id
      EquatesKind levels (type.Tuple (ATree one (ATree next rest))) id =
          EquatesChain levels Pairs (ATree one (ATree next rest)) id
      EquatesKind levels (type.Arrows (ATree one (ATree next rest))) id =
          EquatesChain levels Arrows (ATree one (ATree next rest)) id
      EquatesKind levels (type.Union trees) id = (ids : List NodeId) × HasUnion id (union_of ids)
          × EquatesEach levels trees ids
      EquatesKind levels (type.Meet one signs) id = (kept : NodeId) × (signed : List Sign)
          × HasMeet id (meet_of ((true, kept) ∷ signed)) × Equates levels one kept
          × EquatesSigns levels signs signed
      EquatesKind levels (type.Sequence is) id = (regular : Regular)
          × HaveFormulas id.0 (sequence_formulas id.0 regular)
          × EquatesRegular levels is regular × AsksBelow id.0 regular
      EquatesKind levels (type.Record fields rest) id = (named : List (Name × Field))
          × (other : NodeId) × IsAt id (Is (Record (sorted named) other))
          × EquatesFields levels fields named × EquatesRest levels rest other
      EquatesKind levels (type.Xml tag attributes content) id = (one other last : NodeId)
          × IsAt id (Is (Xml one other last))
          × Equates levels tag one × Equates levels attributes other
          × Equates levels content last
      EquatesKind levels (type.Named name) id = id ≡ node_under names levels name
      EquatesKind levels (type.Where is declarations) id = (number : ℕ)
          × AreEquated (record { declarations = declarations; first = number } ∷ levels) number
          declarations
          × Equates (record { declarations = declarations; first = number } ∷ levels) is id
      EquatesKind levels kind id = id ≡ EMPTY

      -- a chain of one tree is that tree
      pub EquatesChain : ScopeLevels → Joint → Trees → NodeId → Type 0
      EquatesChain levels joint NoTree id = id ≡ EMPTY
      EquatesChain levels joint (ATree is NoTree) id = Equates levels is id
      EquatesChain levels joint (ATree is (ATree next rest)) id = (one other : NodeId)
          × IsAt id (Is (joined joint one other))
          × Equates levels is one × EquatesChain levels joint (ATree next rest) other

      pub EquatesEach : ScopeLevels → Trees → List NodeId → Type 0
      EquatesEach levels NoTree [] = Unit {0}
      EquatesEach levels (ATree one rest) (id ∷ ids) = Equates levels one id
          × EquatesEach levels rest ids
      EquatesEach levels trees ids = ⊥

      pub EquatesSigns : ScopeLevels → Signs → List Sign → Type 0
      EquatesSigns levels NoSign [] = Unit {0}
      EquatesSigns levels (ASign kept is rest) (sign ∷ signs) = (sign.0 ≡ kept)
          × Equates levels is sign.1 × EquatesSigns levels rest signs
      EquatesSigns levels trees signs = ⊥

      pub EquatesFields : ScopeLevels → Fields → List (Name × Field) → Type 0
      EquatesFields levels NoField [] = Unit {0}
      EquatesFields levels (AField label at optional is rest) (field ∷ named) = (field.0 ≡ label)
          × (field.1.optional ≡ optional)
          × Equates levels is field.1.type × EquatesFields levels rest named
      EquatesFields levels fields named = ⊥

      pub EquatesRest : ScopeLevels → Rest → NodeId → Type 0
      EquatesRest levels Closed id = id ≡ EMPTY
      EquatesRest levels Open id = id ≡ ANY
      EquatesRest levels (Typed is) id = Equates levels is id

      -- an expression over the nodes of its items
      pub EquatesRegular : ScopeLevels → type.Regular → Regular → Type 0
      EquatesRegular levels (type.regular span kind) is = EquatesRegularKind levels kind is

      pub EquatesRegularKind : ScopeLevels → type.RegularKind → Regular → Type 0
      EquatesRegularKind levels type.Nothing is = is ≡ Nothing
      EquatesRegularKind levels (type.Item part) is = (id : NodeId) × (is ≡ Item id)
          × Equates levels part id
      EquatesRegularKind levels (type.Seq all) is = (parts : Regulars) × (is ≡ Seq parts)
          × EquatesRegulars levels all parts
      EquatesRegularKind levels (type.Alt all) is = (parts : Regulars) × (is ≡ Alt parts)
          × EquatesRegulars levels all parts
      EquatesRegularKind levels (type.Repeat inner post) is = (part : Regular)
          × (is ≡ repeated post part) × EquatesRegular levels inner part
      -- a form of patterns, which stands in no type
      EquatesRegularKind levels (type.Capture name inner) is = is ≡ Alt NoRegular

      pub EquatesRegulars : ScopeLevels → type.Regulars → Regulars → Type 0
      EquatesRegulars levels type.NoRegular NoRegular = Unit {0}
      EquatesRegulars levels (type.ARegular one rest) (ARegular is others) =
          EquatesRegular levels one is × EquatesRegulars levels rest others
      EquatesRegulars levels all parts = ⊥

      -- the declared names whose nodes follow one another from this number on hold what their trees
      -- do
      pub AreEquated : ScopeLevels → ℕ → Declarations → Type 0
      AreEquated levels number NoDeclaration = Unit {0}
      AreEquated levels number (ADeclaration name at is rest) =
          ((root : NodeId) × IsAt (node number) (Same root) × Equates levels is root)
          × AreEquated levels (number + 1) rest

    -- so do the names of each of these levels
    abbrev pub AllEquated : ScopeLevels → Type 0
    AllEquated [] = Unit {0}
    AllEquated (level ∷ outer) = AreEquated (level ∷ outer) level.first level.declarations
        × AllEquated outer
