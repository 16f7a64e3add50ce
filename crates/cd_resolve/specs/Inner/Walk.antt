-- What a walk over a tree makes: the node of its type, and equations after those that are there.
use Rattle.std.specs.Prelude.{ℕ, ◌+◌, zero, suc, true, List, [], ◌∷◌, ◌++◌, map, length}
use Rattle.std.specs.Prelude.{Option, Some, None, slice_set}
use Rattle.cd_sets.specs.declared.node_id.NodeId.{NodeId}
use Rattle.cd_syntax.specs.Name.{Name}
use Rattle.cd_syntax.specs.TypeTree as type
use Rattle.cd_syntax.specs.TypeTree.{Tree, tree, Kind, Trees, NoTree, ATree, Signs, NoSign, ASign}
use Rattle.cd_syntax.specs.TypeTree.{Fields, NoField, AField, Declarations, NoDeclaration}
use Rattle.cd_syntax.specs.TypeTree.{ADeclaration}
use Rattle.cd_syntax.specs.TypeTree.{Rest, Closed, Open, Typed}
use Rattle.cd_syntax.specs.declared.type_tree.Post.{Post}
use Rattle.cd_model.specs.BuiltIns.{EMPTY, ANY, NIL, node, node_named}
use Rattle.cd_model.specs.Formula.{Formula, Field, Pair, Xml, Record}
use Rattle.cd_regex.specs.Regular.{Regular, Nothing, Item, Seq, Alt, NoRegular, regulars_of}
use Rattle.cd_regex.specs.Automaton.{sequence_formulas}
use Rattle.cd_shared.specs.Equation.{Equation, Equations, Is, Same, And, Or}
use Rattle.cd_resolve.specs.Inner.ScopeLevels.{ScopeLevel, ScopeLevels, node_under, number_in}
use Rattle.cd_resolve.specs.Inner.Leaves.{integers, characters, atom, Joint, Pairs, Arrows, joined}
use Rattle.cd_resolve.specs.Inner.Leaves.{sorted}
use Rattle.cd_resolve.specs.Inner.Members.{Sign, union_of, meet_of}
use Rattle.cd_resolve.specs.Inner.Repeated.{repeated}

-- what is read of a tree: the node of its type, and the equations after it
abbrev pub Read : Type 0
Read = NodeId × Equations

-- what is read of an expression: it over the nodes of its items, and the equations after it
abbrev pub ReadRegular : Type 0
ReadRegular = Regular × Equations

-- one more after these
abbrev pub one_more : {X : Type 0} → List X → X → List X
one_more made next = made ++ next ∷ []

abbrev pub nothing : Equations → Read
nothing s = (EMPTY, s)

-- declared names whose trees are not read yet
abbrev pub unread : ℕ → Equations
unread zero = []
unread (suc count) = None ∷ unread count

abbrev pub entered : Declarations → Equations → Equations
entered declarations s = s ++ unread (number_in declarations)

-- the node of a declared name, whose equation has this number, holds what its tree does
abbrev pub settled : ℕ → Read → Equations
settled number one = slice_set one.1 number (Some (Same one.0))

-- The first of the equations is that of the node of this number
module _ (first : ℕ) where
  abbrev pub pushed : Equation → Equations → Read
  pushed equation s = (node (first + length s), s ++ Some equation ∷ [])

  abbrev pub leaf : Option Formula → Equations → Read
  leaf (Some formula) s = pushed (Is formula) s
  leaf None s = nothing s

  -- a text is pairs of its characters, which end in the atom `nil`
  abbrev pub joined_after : Read → NodeId → Read
  joined_after one second = pushed (Is (Pair one.0 second)) one.1

  abbrev pub character_before : ℕ → Read → Read
  character_before c rest = joined_after (leaf (characters c c) rest.1) rest.0

  abbrev pub walked_text : List ℕ → Equations → Read
  walked_text [] s = (NIL, s)
  walked_text (c ∷ text) s = character_before c (walked_text text s)

  -- a chain of these nodes, from the right
  abbrev pub joined_before : Joint → NodeId → Read → Read
  joined_before joint id rest = pushed (Is (joined joint id rest.0)) rest.1

  abbrev pub chained : Joint → List NodeId → Equations → Read
  chained joint [] s = nothing s
  chained joint (one ∷ []) s = (one, s)
  chained joint (one ∷ next ∷ rest) s = joined_before joint one (chained joint (next ∷ rest) s)

  abbrev pub chained_all : Joint → List NodeId × Equations → Read
  chained_all joint all = chained joint all.0 all.1

  -- a union of no members holds nothing, and of one what this holds
  abbrev pub united : List NodeId → Equations → Read
  united [] s = nothing s
  united (one ∷ []) s = (one, s)
  united (one ∷ other ∷ rest) s = pushed (Or (one ∷ other ∷ rest)) s

  abbrev pub united_all : List NodeId × Equations → Read
  united_all all = united (union_of all.0) all.1

  -- a meet of no members holds everything
  abbrev pub met : List Sign → Equations → Read
  met [] s = (ANY, s)
  met ((true, one) ∷ []) s = (one, s)
  met signs s = pushed (And signs) s

  abbrev pub met_all : List Sign × Equations → Read
  met_all all = met (meet_of all.0) all.1

  -- a record type, whose rest was read last
  abbrev pub recorded : List (Name × Field) → Read → Read
  recorded named rest = pushed (Is (Record (sorted named) rest.0)) rest.1

  -- an XML type, whose content was read last
  abbrev pub elements : NodeId → NodeId → Read → Read
  elements tag attributes content = pushed (Is (Xml tag attributes content.0)) content.1

  -- a sequence has the nodes of an automaton, and begins in the first of them
  abbrev pub sequenced : ReadRegular → Read
  sequenced one = (
    node (first + length one.1),
    one.1 ++ map (λ formula. Some (Is formula)) (sequence_formulas (first + length one.1) one.0),
  )

  abbrev pub item_of : Read → ReadRegular
  item_of one = (Item one.0, one.1)

  abbrev pub repeats : Post → ReadRegular → ReadRegular
  repeats post one = (repeated post one.0, one.1)

  abbrev pub in_turn : List Regular × Equations → ReadRegular
  in_turn all = (Seq (regulars_of all.0), all.1)

  abbrev pub one_of : List Regular × Equations → ReadRegular
  one_of all = (Alt (regulars_of all.0), all.1)

  -- the level of a list that is met when so many equations stand there
  abbrev pub level_after : Declarations → Equations → ScopeLevel
  level_after declarations s = record { declarations = declarations; first = first + length s }

  -- names that no list declares have these nodes
  module _ (names : List (Name × NodeId)) where
    abbrev mutual
      -- the walk over a tree under these levels
      pub walked : ScopeLevels → Tree → Equations → Read
      walked levels (tree span kind) s = walked_kind levels kind s

      pub walked_kind : ScopeLevels → Kind → Equations → Read
      walked_kind levels (type.Builtin name) s = (node_named name, s)
      walked_kind levels (type.Ints low high) s = leaf (integers low high) s
      walked_kind levels (type.Chars low high) s = leaf (characters low high) s
      walked_kind levels (type.Atom name) s = leaf (Some (atom name)) s
      walked_kind levels (type.Text text) s = walked_text text s
      walked_kind levels (type.Tuple (ATree one (ATree next rest))) s =
          chained_all Pairs (walked_trees levels (ATree one (ATree next rest)) [] s)
      walked_kind levels (type.Arrows (ATree one (ATree next rest))) s =
          chained_all Arrows (walked_trees levels (ATree one (ATree next rest)) [] s)
      walked_kind levels (type.Union trees) s = united_all (walked_trees levels trees [] s)
      walked_kind levels (type.Meet one signs) s = met_all
          (walked_signs levels signs ((true, (walked levels one s).0) ∷ []) (walked levels one s).1)
      walked_kind levels (type.Sequence is) s = sequenced (walked_regular levels is s)
      walked_kind levels (type.Record fields rest) s =
          recorded (walked_fields levels fields [] s).0
          (walked_rest levels rest (walked_fields levels fields [] s).1)
      walked_kind levels (type.Xml tag attributes content) s =
          elements (walked levels tag s).0 (walked levels attributes (walked levels tag s).1).0
          (walked levels content (walked levels attributes (walked levels tag s).1).1)
      walked_kind levels (type.Named name) s = (node_under names levels name, s)
      -- the names of the list have the next nodes, and their trees are read before the tree is
      walked_kind levels (type.Where is declarations) s =
          walked (level_after declarations s ∷ levels) is
          (walked_declared (level_after declarations s ∷ levels) (length s) declarations
          (entered declarations s))
      walked_kind levels kind s = nothing s

      -- the trees in turn, after nodes that were made
      pub walked_trees : ScopeLevels → Trees → List NodeId → Equations → List NodeId × Equations
      walked_trees levels NoTree made s = (made, s)
      walked_trees levels (ATree one rest) made s =
          walked_trees levels rest (one_more made (walked levels one s).0) (walked levels one s).1

      pub walked_signs : ScopeLevels → Signs → List Sign → Equations → List Sign × Equations
      walked_signs levels NoSign made s = (made, s)
      walked_signs levels (ASign kept is rest) made s =
          walked_signs levels rest (one_more made (kept, (walked levels is s).0))
          (walked levels is s).1

      pub walked_rest : ScopeLevels → Rest → Equations → Read
      walked_rest levels Closed s = (EMPTY, s)
      walked_rest levels Open s = (ANY, s)
      walked_rest levels (Typed is) s = walked levels is s

      pub walked_fields : ScopeLevels → Fields → List (Name × Field) → Equations
          → List (Name × Field) × Equations
      walked_fields levels NoField made s = (made, s)
      walked_fields levels (AField label at optional is rest) made s =
          walked_fields levels rest
          (one_more made (label, record { optional = optional; type = (walked levels is s).0 }))
          (walked levels is s).1

      pub walked_regular : ScopeLevels → type.Regular → Equations → ReadRegular
      walked_regular levels (type.regular span kind) s = walked_regular_kind levels kind s

      pub walked_regular_kind : ScopeLevels → type.RegularKind → Equations → ReadRegular
      walked_regular_kind levels type.Nothing s = (Nothing, s)
      walked_regular_kind levels (type.Item is) s = item_of (walked levels is s)
      walked_regular_kind levels (type.Seq all) s = in_turn (walked_regulars levels all [] s)
      walked_regular_kind levels (type.Alt all) s = one_of (walked_regulars levels all [] s)
      walked_regular_kind levels (type.Repeat is post) s =
          repeats post (walked_regular levels is s)
      -- a form of patterns, of which no equations are made
      walked_regular_kind levels (type.Capture name is) s = (Alt NoRegular, s)

      pub walked_regulars : ScopeLevels → type.Regulars → List Regular → Equations
          → List Regular × Equations
      walked_regulars levels type.NoRegular made s = (made, s)
      walked_regulars levels (type.ARegular one rest) made s =
          walked_regulars levels rest (one_more made (walked_regular levels one s).0)
          (walked_regular levels one s).1

      -- the trees of a list of declarations in turn; its names have the equations from this one on
      pub walked_declared : ScopeLevels → ℕ → Declarations → Equations → Equations
      walked_declared levels number NoDeclaration s = s
      walked_declared levels number (ADeclaration name at is rest) s =
          walked_declared levels (number + 1) rest (settled number (walked levels is s))

    -- the walk over a list of declarations under these levels
    abbrev pub walked_list : ScopeLevels → Declarations → Equations → Equations
    walked_list levels declarations s =
        walked_declared (level_after declarations s ∷ levels) (length s) declarations
        (entered declarations s)
