-- The walk with the levels that each list of declarations stands under finds what the walk without them finds.
use Rattle.std.proofs.Common.{◌≡◌, ℕ, List, [], ◌∷◌, ◌++◌, length, map, Bool, true, false, Option, Some, None, refl, ap}
use Rattle.std.proofs.Common.{◌∙◌}
use Rattle.std.specs.Prelude.{◌||◌}
use Rattle.std.proofs.lemmas.List.{map-append, length-map}
use Rattle.cd_syntax.specs.Name.{Name}
use Rattle.cd_syntax.specs.TypeTree.{Tree, tree, Kind, Builtin, Ints, Chars, Atom, Text, Tuple, Arrows, Union, Meet}
use Rattle.cd_syntax.specs.TypeTree.{Sequence, Record, Xml, Named, Where, Variable, Default, Trees, NoTree, ATree}
use Rattle.cd_syntax.specs.TypeTree.{Signs, NoSign, ASign, Fields, NoField, AField, Declarations, NoDeclaration}
use Rattle.cd_syntax.specs.TypeTree.{ADeclaration, Regular, regular, RegularKind, Nothing, Item, Seq, Alt, Repeat}
use Rattle.cd_syntax.specs.TypeTree.{Capture, Regulars, NoRegular, ARegular, Rest, Closed, Open, Typed}
use Rattle.cd_resolve.specs.Inner.BuiltinNames.{is_among, is_builtin}
use Rattle.cd_resolve.specs.Inner.Finding.{ScopeLevels, innermost, Id, DeclaredAt, State, reported_if, entered, met, declared_under}
use Rattle.cd_resolve.specs.Inner.Finding.{labelled, start_of, found_in, found_in_kind, found_in_trees, found_in_signs}
use Rattle.cd_resolve.specs.Inner.Finding.{found_in_fields, found_in_declared, found_in_regular, found_in_regular_kind}
use Rattle.cd_resolve.specs.Inner.Finding.{found_in_regulars, found_in_rest, found_in_list}

-- the levels that each list of declarations stands under, its own the first, are kept
abbrev pub whole : ScopeLevels → ScopeLevels
whole levels = levels

abbrev pub lean : State ScopeLevels → State Declarations
lean s = record { faults = s.faults; lists = map innermost s.lists; links = s.links }

lean_if : (twice : Bool) (name : Name) (at : ℕ) (s : State ScopeLevels)
    → reported_if twice name at (lean s) ≡ lean (reported_if twice name at s)
lean_if true name at s = refl
lean_if false name at s = refl

lean_met : (start : Option Id) (name : Name) (at : ℕ) (declared_at : Option DeclaredAt) (s : State ScopeLevels)
    → met start name at declared_at (lean s) ≡ lean (met start name at declared_at s)
lean_met start name at None s = refl
lean_met None name at (Some declared_at) s = refl
lean_met (Some start) name at (Some declared_at) s = refl

lean_entered : (levels : ScopeLevels) (s : State ScopeLevels) → entered (innermost levels) (lean s) ≡ lean (entered levels s)
lean_entered levels s = rw (map-append innermost s.lists (levels ∷ [])) refl

lean_labelled : (seen : List Name) (fields : Fields) (s : State ScopeLevels)
    → labelled seen fields (lean s) ≡ lean (labelled seen fields s)
lean_labelled seen NoField s = refl
lean_labelled seen (AField label at optional is rest) s =
    ap (labelled (seen ++ label ∷ []) rest) (lean_if (is_among seen label) label at s) ∙ lean_labelled
    (seen ++ label ∷ []) rest (reported_if (is_among seen label) label at s)

mutual
  pub lean_walked : (levels : ScopeLevels) (start : Option Id) (is : Tree) (s : State ScopeLevels)
      → found_in innermost levels start is (lean s) ≡ lean (found_in whole levels start is s)
  lean_walked levels start (tree span kind) s = lean_kind levels start span.from kind s

  lean_kind : (levels : ScopeLevels) (start : Option Id) (at : ℕ) (kind : Kind) (s : State ScopeLevels)
      → found_in_kind innermost levels start at kind (lean s) ≡ lean (found_in_kind whole levels start at kind s)
  lean_kind levels start at (Tuple trees) s = lean_trees levels None trees s
  lean_kind levels start at (Arrows trees) s = lean_trees levels None trees s
  lean_kind levels start at (Union trees) s = lean_trees levels start trees s
  lean_kind levels start at (Meet first signs) s =
      ap (found_in_signs innermost levels start signs) (lean_walked levels start first s)
      ∙ lean_signs levels start signs
      (found_in whole levels start first s)
  lean_kind levels start at (Sequence is) s = lean_regular levels is s
  lean_kind levels start at (Record fields rest) s =
      ap (λ s. found_in_rest innermost levels rest (found_in_fields innermost levels fields s))
      (lean_labelled [] fields s)
      ∙ ap (found_in_rest innermost levels rest) (lean_fields levels fields (labelled [] fields s))
      ∙ lean_rest levels rest (found_in_fields whole levels fields (labelled [] fields s))
  lean_kind levels start at (Xml tag attributes content) s =
      ap (λ s. found_in innermost levels None content (found_in innermost levels None attributes s))
      (lean_walked levels None tag s)
      ∙ ap (found_in innermost levels None content)
      (lean_walked levels None attributes (found_in whole levels None tag s))
      ∙ lean_walked levels None content (found_in whole levels None attributes (found_in whole levels None tag s))
  lean_kind levels start at (Named name) s = lean_met start name at (declared_under levels name) s
  lean_kind levels start at (Where is declarations) s =
      ap (λ n. found_in innermost (record { declarations = declarations; list = n } ∷ levels) start is
      (found_in_declared innermost (record { declarations = declarations; list = n } ∷ levels) n [] declarations
      (entered declarations (lean s)))) (length-map s.lists innermost)
      ∙ ap (λ s'. found_in innermost (record { declarations = declarations; list = length s.lists } ∷ levels) start is
      (found_in_declared innermost (record { declarations = declarations; list = length s.lists } ∷ levels)
      (length s.lists) [] declarations s')) (lean_entered (record
      { declarations = declarations; list = length s.lists } ∷ levels) s)
      ∙ ap (found_in innermost (record { declarations = declarations; list = length s.lists } ∷ levels) start is)
      (lean_declared (record { declarations = declarations; list = length s.lists } ∷ levels) (length s.lists) []
      declarations (entered (record { declarations = declarations; list = length s.lists } ∷ levels) s))
      ∙ lean_walked (record { declarations = declarations; list = length s.lists } ∷ levels) start is
      (found_in_declared whole (record { declarations = declarations; list = length s.lists } ∷ levels)
      (length s.lists) []
      declarations (entered (record { declarations = declarations; list = length s.lists } ∷ levels) s))
  lean_kind levels start at (Builtin name) s = refl
  lean_kind levels start at (Ints low high) s = refl
  lean_kind levels start at (Chars low high) s = refl
  lean_kind levels start at (Atom name) s = refl
  lean_kind levels start at (Text text) s = refl
  lean_kind levels start at (Variable name) s = refl
  lean_kind levels start at (Default name constant) s = refl

  lean_trees : (levels : ScopeLevels) (start : Option Id) (trees : Trees) (s : State ScopeLevels)
      → found_in_trees innermost levels start trees (lean s) ≡ lean (found_in_trees whole levels start trees s)
  lean_trees levels start NoTree s = refl
  lean_trees levels start (ATree first rest) s = ap (found_in_trees innermost levels start rest)
      (lean_walked levels start first s) ∙ lean_trees levels start rest (found_in whole levels start first s)

  lean_signs : (levels : ScopeLevels) (start : Option Id) (signs : Signs) (s : State ScopeLevels)
      → found_in_signs innermost levels start signs (lean s) ≡ lean (found_in_signs whole levels start signs s)
  lean_signs levels start NoSign s = refl
  lean_signs levels start (ASign kept is rest) s = ap (found_in_signs innermost levels start rest)
      (lean_walked levels start is s) ∙ lean_signs levels start rest (found_in whole levels start is s)

  lean_fields : (levels : ScopeLevels) (fields : Fields) (s : State ScopeLevels)
      → found_in_fields innermost levels fields (lean s) ≡ lean (found_in_fields whole levels fields s)
  lean_fields levels NoField s = refl
  lean_fields levels (AField label at optional is rest) s = ap (found_in_fields innermost levels rest)
      (lean_walked levels None is s) ∙ lean_fields levels rest (found_in whole levels None is s)

  lean_rest : (levels : ScopeLevels) (rest : Rest) (s : State ScopeLevels)
      → found_in_rest innermost levels rest (lean s) ≡ lean (found_in_rest whole levels rest s)
  lean_rest levels Closed s = refl
  lean_rest levels Open s = refl
  lean_rest levels (Typed is) s = lean_walked levels None is s

  pub lean_declared : (levels : ScopeLevels) (list : ℕ) (seen : List Name) (declarations : Declarations) (s : State ScopeLevels)
      → found_in_declared innermost levels list seen declarations (lean s) ≡ lean
      (found_in_declared whole levels list seen declarations s)
  lean_declared levels list seen NoDeclaration s = refl
  lean_declared levels list seen (ADeclaration name at is rest) s =
      ap (λ s. found_in_declared innermost levels list (seen ++ name ∷ []) rest
      (found_in innermost levels (start_of (is_among seen name) list name) is s)) (lean_if
      (is_among seen name || is_builtin name) name at s)
      ∙ ap (found_in_declared innermost levels list (seen ++ name ∷ []) rest)
      (lean_walked levels (start_of (is_among seen name) list name) is
      (reported_if (is_among seen name || is_builtin name) name at s))
      ∙ lean_declared levels list (seen ++ name ∷ []) rest
      (found_in whole levels (start_of (is_among seen name) list name) is
      (reported_if (is_among seen name || is_builtin name) name at s))

  lean_regular : (levels : ScopeLevels) (is : Regular) (s : State ScopeLevels)
      → found_in_regular innermost levels is (lean s) ≡ lean (found_in_regular whole levels is s)
  lean_regular levels (regular span kind) s = lean_regular_kind levels kind s

  lean_regular_kind : (levels : ScopeLevels) (kind : RegularKind) (s : State ScopeLevels)
      → found_in_regular_kind innermost levels kind (lean s) ≡ lean (found_in_regular_kind whole levels kind s)
  lean_regular_kind levels Nothing s = refl
  lean_regular_kind levels (Item is) s = lean_walked levels None is s
  lean_regular_kind levels (Seq all) s = lean_regulars levels all s
  lean_regular_kind levels (Alt all) s = lean_regulars levels all s
  lean_regular_kind levels (Repeat is post) s = lean_regular levels is s
  lean_regular_kind levels (Capture name is) s = lean_regular levels is s

  lean_regulars : (levels : ScopeLevels) (all : Regulars) (s : State ScopeLevels)
      → found_in_regulars innermost levels all (lean s) ≡ lean (found_in_regulars whole levels all s)
  lean_regulars levels NoRegular s = refl
  lean_regulars levels (ARegular first rest) s =
      ap (found_in_regulars innermost levels rest) (lean_regular levels first s)
      ∙ lean_regulars levels rest (found_in_regular whole levels first s)

pub lean_list : (outer : ScopeLevels) (declarations : Declarations) (s : State ScopeLevels)
    → found_in_list innermost outer declarations (lean s) ≡ lean (found_in_list whole outer declarations s)
lean_list outer declarations s =
    ap (λ n. found_in_declared innermost (record { declarations = declarations; list = n } ∷ outer) n [] declarations
    (entered declarations (lean s))) (length-map s.lists innermost)
    ∙ ap (found_in_declared innermost (record { declarations = declarations; list = length s.lists } ∷ outer)
    (length s.lists) [] declarations) (lean_entered
    (record { declarations = declarations; list = length s.lists } ∷ outer) s)
    ∙ lean_declared (record { declarations = declarations; list = length s.lists } ∷ outer) (length s.lists) []
    declarations (entered (record { declarations = declarations; list = length s.lists } ∷ outer) s)
