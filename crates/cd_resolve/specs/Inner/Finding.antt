-- What a walk over a tree finds: the names that nothing declares, the names and labels that stand
-- twice, and the links from declared names to others through no constructor.
use Rattle.std.specs.Prelude.{ℕ, Bool, true, false, ◌||◌, List, [], ◌∷◌, ◌++◌, length, Option, Some}
use Rattle.std.specs.Prelude.{None, bytes_eq, if◌then◌else◌}
use Rattle.cd_syntax.specs.Name.{Name}
use Rattle.cd_syntax.specs.TypeTree.{Tree, tree, Kind, Tuple, Arrows, Union, Meet, Sequence, Record}
use Rattle.cd_syntax.specs.TypeTree.{Xml, Named, Where, Trees, NoTree, ATree, Signs, NoSign, ASign}
use Rattle.cd_syntax.specs.TypeTree.{Fields, NoField, AField, Declarations, NoDeclaration}
use Rattle.cd_syntax.specs.TypeTree.{ADeclaration, Regular, regular, RegularKind, Nothing, Item}
use Rattle.cd_syntax.specs.TypeTree.{Seq, Alt, Repeat, Capture, Regulars, NoRegular, ARegular}
use Rattle.cd_syntax.specs.TypeTree.{Rest, Closed, Open, Typed}
use Rattle.cd_resolve.specs.declared.fault.NameFault.{NameFault}
use Rattle.cd_resolve.specs.declared.fault.NameFault.TheVariants.{Unknown, Twice}
use Rattle.cd_resolve.specs.Faults.{Fault}
use Rattle.cd_resolve.specs.Inner.BuiltinNames.{is_among, is_builtin}

-- a scope level: a list of declarations that a tree stands under, and its number
pub record ScopeLevel : Type 0 where
  pub declarations : Declarations
  pub list : ℕ

abbrev pub ScopeLevels : Type 0
ScopeLevels = List ScopeLevel

abbrev pub innermost : ScopeLevels → Declarations
innermost [] = NoDeclaration
innermost (level ∷ outer) = level.declarations

-- a declared name: the first of its name in the list of this number
pub record Id : Type 0 where
  pub list : ℕ
  pub name : Name

-- one declared name leads to another, which is declared at this place
pub record Link : Type 0 where
  pub start : Id
  pub to : Id
  pub at : ℕ

-- what is found, and something of each list of declarations, which has its place there as its
-- number
pub record State (N : Type 0) : Type 0 where
  pub faults : List Fault
  pub lists : List N
  pub links : List Link

abbrev pub reported : {N : Type 0} → NameFault → Name → ℕ → State N → State N
reported fault name at s = record {
  faults = s.faults ++ record { fault = fault; name = name; at = at } ∷ [];
  lists = s.lists;
  links = s.links;
}

abbrev pub entered : {N : Type 0} → N → State N → State N
entered list s = record { faults = s.faults; lists = s.lists ++ list ∷ []; links = s.links }

abbrev pub linked : {N : Type 0} → Id → Id → ℕ → State N → State N
linked start to at s = record {
  faults = s.faults;
  lists = s.lists;
  links = s.links ++ record
      { start = start; to = to; at = at } ∷ [];
}

-- where a name is first declared in a list, and at the innermost level that declares it
abbrev pub place_in : Declarations → Name → Option ℕ
place_in NoDeclaration name = None
place_in (ADeclaration other at is rest) name =
    if bytes_eq other name then Some at else place_in rest name

pub record DeclaredAt : Type 0 where
  pub list : ℕ
  pub at : ℕ

abbrev pub declared_here_or : ℕ → Option ℕ → Option DeclaredAt → Option DeclaredAt
declared_here_or list (Some at) outer = Some (record { list = list; at = at })
declared_here_or list None outer = outer

abbrev pub declared_under : ScopeLevels → Name → Option DeclaredAt
declared_under [] name = None
declared_under (level ∷ outer) name =
    declared_here_or level.list (place_in level.declarations name) (declared_under outer name)

-- a name is met at this byte, in the tree of this declared name and under no constructor
abbrev pub met : {N : Type 0} → Option Id → Name → ℕ → Option DeclaredAt → State N → State N
met start name at None s = reported Unknown name at s
met None name at (Some declared_at) s = s
met (Some start) name at (Some declared_at) s = linked start
    (record { list = declared_at.list; name = name }) declared_at.at s

abbrev pub reported_if : {N : Type 0} → Bool → Name → ℕ → State N → State N
reported_if true name at s = reported Twice name at s
reported_if false name at s = s

-- a name that is declared again leads nowhere, since uses mean the first
abbrev pub start_of : Bool → ℕ → Name → Option Id
start_of true list name = None
start_of false list name = Some (record { list = list; name = name })

-- the labels of a record, after these
abbrev pub labelled : {N : Type 0} → List Name → Fields → State N → State N
labelled seen NoField s = s
labelled seen (AField label at optional is rest) s = labelled (seen ++ label ∷ []) rest
    (reported_if (is_among seen label) label at s)

-- the walk over a tree under these scope levels. `start` is the declared name that leads to the
-- tree through no constructor, and `keep` is what is kept of a list
abbrev mutual
  pub found_in : {N : Type 0} → (ScopeLevels → N) → ScopeLevels → Option Id → Tree → State N
      → State N
  found_in keep levels start (tree span kind) s = found_in_kind keep levels start span.from kind s

  pub found_in_kind : {N : Type 0} → (ScopeLevels → N) → ScopeLevels → Option Id → ℕ → Kind
      → State N
      → State N
  found_in_kind keep levels start at (Tuple trees) s = found_in_trees keep levels None trees s
  found_in_kind keep levels start at (Arrows trees) s = found_in_trees keep levels None trees s
  found_in_kind keep levels start at (Union trees) s = found_in_trees keep levels start trees s
  found_in_kind keep levels start at (Meet first signs) s = found_in_signs keep levels start signs
      (found_in keep levels start first s)
  found_in_kind keep levels start at (Sequence is) s = found_in_regular keep levels is s
  found_in_kind keep levels start at (Record fields rest) s =
      found_in_rest keep levels rest (found_in_fields keep levels fields (labelled [] fields s))
  found_in_kind keep levels start at (Xml tag attributes content) s =
      found_in keep levels None content
      (found_in keep levels None attributes (found_in keep levels None tag s))
  found_in_kind keep levels start at (Named name) s =
      met start name at (declared_under levels name) s
  found_in_kind keep levels start at (Where is declarations) s =
      found_in keep (record { declarations = declarations; list = length s.lists } ∷ levels)
      start is
      (found_in_declared keep
      (record { declarations = declarations; list = length s.lists } ∷ levels)
      (length s.lists) [] declarations
      (entered (keep (record { declarations = declarations; list = length s.lists } ∷ levels)) s))
  found_in_kind keep levels start at kind s = s

  pub found_in_trees : {N : Type 0} → (ScopeLevels → N) → ScopeLevels → Option Id → Trees → State N
      → State N
  found_in_trees keep levels start NoTree s = s
  found_in_trees keep levels start (ATree first rest) s = found_in_trees keep levels start rest
      (found_in keep levels start first s)

  pub found_in_signs : {N : Type 0} → (ScopeLevels → N) → ScopeLevels → Option Id → Signs → State N
      → State N
  found_in_signs keep levels start NoSign s = s
  found_in_signs keep levels start (ASign kept is rest) s = found_in_signs keep levels start rest
      (found_in keep levels start is s)

  pub found_in_fields : {N : Type 0} → (ScopeLevels → N) → ScopeLevels → Fields → State N → State N
  found_in_fields keep levels NoField s = s
  found_in_fields keep levels (AField label at optional is rest) s =
      found_in_fields keep levels rest (found_in keep levels None is s)

  pub found_in_rest : {N : Type 0} → (ScopeLevels → N) → ScopeLevels → Rest → State N → State N
  found_in_rest keep levels Closed s = s
  found_in_rest keep levels Open s = s
  found_in_rest keep levels (Typed is) s = found_in keep levels None is s

  -- the declarations of the innermost list after those of these names
  pub found_in_declared : {N : Type 0} → (ScopeLevels → N) → ScopeLevels → ℕ → List Name
      → Declarations
      → State N → State N
  found_in_declared keep levels list seen NoDeclaration s = s
  found_in_declared keep levels list seen (ADeclaration name at is rest) s =
      found_in_declared keep levels list (seen ++ name ∷ []) rest
      (found_in keep levels (start_of (is_among seen name) list name) is
      (reported_if (is_among seen name || is_builtin name) name at s))

  pub found_in_regular : {N : Type 0} → (ScopeLevels → N) → ScopeLevels → Regular → State N
      → State N
  found_in_regular keep levels (regular span kind) s = found_in_regular_kind keep levels kind s

  pub found_in_regular_kind : {N : Type 0} → (ScopeLevels → N) → ScopeLevels → RegularKind → State N
      → State N
  found_in_regular_kind keep levels Nothing s = s
  found_in_regular_kind keep levels (Item is) s = found_in keep levels None is s
  found_in_regular_kind keep levels (Seq all) s = found_in_regulars keep levels all s
  found_in_regular_kind keep levels (Alt all) s = found_in_regulars keep levels all s
  found_in_regular_kind keep levels (Repeat is post) s = found_in_regular keep levels is s
  found_in_regular_kind keep levels (Capture name is) s = found_in_regular keep levels is s

  pub found_in_regulars : {N : Type 0} → (ScopeLevels → N) → ScopeLevels → Regulars → State N
      → State N
  found_in_regulars keep levels NoRegular s = s
  found_in_regulars keep levels (ARegular first rest) s = found_in_regulars keep levels rest
      (found_in_regular keep levels first s)

-- the walk over a list of declarations that stands first in the scope, and over the trees in it
abbrev pub found_in_list : {N : Type 0} → (ScopeLevels → N) → ScopeLevels → Declarations → State N
    → State N
found_in_list keep outer declarations s =
    found_in_declared keep (record { declarations = declarations; list = length s.lists } ∷ outer)
    (length s.lists) []
    declarations
    (entered (keep (record { declarations = declarations; list = length s.lists } ∷ outer)) s)
