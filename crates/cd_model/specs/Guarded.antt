-- Names that are guarded: those that do not lead back to themselves through connectives, names and
-- `where` alone.
use Rattle.std.specs.Prelude.{◌≡◌, ◌<◌, [], ◌∷◌, Some, length}
use Rattle.cd_syntax.specs.Name.{Name}
use Rattle.cd_syntax.specs.TypeTree.{Tree, Kind, Trees, ATree, Signs, ASign, Union, Meet, Named}
use Rattle.cd_syntax.specs.TypeTree.{Where}
use Rattle.cd_model.specs.AllOf.{AllOf}
use Rattle.cd_model.specs.Scope.{Scope, Declared, declared_as, names_seen}
use Rattle.cd_model.specs.Written.{Written, kind_of}

-- the tree is one of these
pub data IsOneOf : Tree → Trees → Type 0 where
  first : (is : Tree) (rest : Trees) → IsOneOf is (ATree is rest)
  later : (is other : Tree) (rest : Trees) → IsOneOf is rest → IsOneOf is (ATree other rest)

-- the tree stands after a sign in this list
pub data IsSigned : Tree → Signs → Type 0 where
  first : (kept : _) (is : Tree) (rest : Signs) → IsSigned is (ASign kept is rest)
  later : (kept : _) (is other : Tree) (rest : Signs) → IsSigned is rest
      → IsSigned is (ASign kept other rest)

-- A tree in a scope leads to this declared name through no constructor. It goes on through names
-- that are declared inside of the lists `outer`, which names that are declared in these cannot see;
-- a `where` leads on through its tree alone
pub data LeadsTo : (outer : Scope) → Scope → Kind → Declared → Type 0 where
  in_union : (outer scope : Scope) (trees : Trees) (is : Tree) (name : Declared) → IsOneOf is trees
      → LeadsTo outer scope (kind_of is) name
      → LeadsTo outer scope (Union trees) name
  in_first : (outer scope : Scope) (is : Tree) (signs : Signs) (name : Declared)
      → LeadsTo outer scope (kind_of is) name
      → LeadsTo outer scope (Meet is signs) name
  in_signed : (outer scope : Scope) (first is : Tree) (signs : Signs) (name : Declared)
      → IsSigned is signs
      → LeadsTo outer scope (kind_of is) name → LeadsTo outer scope (Meet first signs) name
  under_where : (outer scope : Scope) (is : Tree) (declarations : _) (name : Declared)
      → LeadsTo outer (declarations ∷ scope) (kind_of is) name
      → LeadsTo outer scope (Where is declarations) name
  named : (outer scope : Scope) (name : Name) (is : Declared) → declared_as scope name ≡ Some is
      → LeadsTo outer scope (Named name) is
  through_name : (outer scope : Scope) (name : Name) (is last : Declared)
      → declared_as scope name ≡ Some is
      → length outer < length is.scope → LeadsTo outer is.scope (kind_of is.tree) last
      → LeadsTo outer scope (Named name) last

-- a declared name is guarded where it does not lead back to itself
abbrev pub IsGuarded : Declared → Type 0
IsGuarded is = LeadsTo [] is.scope (kind_of is.tree) is → ⊥

-- each name is guarded that is declared in a written type or in the lists that it stands under
abbrev pub NamesAreGuarded : Written → Type 0
NamesAreGuarded type = AllOf IsGuarded (names_seen type.scope type.tree)
