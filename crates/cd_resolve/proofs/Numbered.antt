-- The numbers of declared names are those of their places in the list.
use Rattle.std.proofs.Common.{◌≡◌, ℕ, ◌+◌, true, false, Option, Some, None, ◌⊎◌, inl, inr, refl, sym, subst, ap, ◌∙◌}
use Rattle.std.proofs.Common.{arith, bytes_eq}
use Rattle.std.specs.Option.{option_map, unwrap_or}
use Rattle.std.proofs.lemmas.Bool.{cases_Bool}
use Rattle.cd_sets.specs.declared.node_id.NodeId.{NodeId}
use Rattle.cd_syntax.specs.Name.{Name}
use Rattle.cd_syntax.specs.TypeTree.{Tree, Declarations, NoDeclaration, ADeclaration}
use Rattle.cd_model.specs.BuiltIns.{EMPTY, node}
use Rattle.cd_model.specs.Formula.{Graph}
use Rattle.cd_model.specs.Scope.{tree_in}
use Rattle.cd_model.specs.StandsFor.{StandsFor}
use Rattle.cd_resolve.specs.Inner.Names.{node_of, numbered, AreNamed}
use Rattle.cd_resolve.specs.Named.{index_in, type_named, IsNamed}
use Rattle.cd_resolve.specs.Named as named
use Rattle.cd_resolve.specs.Inner.ScopeLevels.{declared_or}

-- the node that a name with this place in a list has
abbrev pub node_from : ℕ → Option ℕ → Option NodeId
node_from first index = option_map (λ index. node (first + index)) index

-- one place further on
node_later : (first : ℕ) (index : Option ℕ)
    → node_from (first + 1) index ≡ node_from first (option_map (λ index. index + 1) index)
node_later first None = refl
node_later first (Some index) = ap (λ number. Some (node number)) (omega arith)

pub numbered_at : (first : ℕ) (declarations : Declarations) (name : Name)
    → node_of (numbered first declarations) name ≡ node_from first (index_in declarations name)
numbered_at first NoDeclaration name = refl
numbered_at first (ADeclaration other at is rest) name =
    by_name (cases_Bool (bytes_eq other name)) (numbered_at (first + 1) rest name)
  where
    by_name : (bytes_eq other name ≡ true) ⊎ (bytes_eq other name ≡ false)
        → node_of (numbered (first + 1) rest) name ≡ node_from (first + 1) (index_in rest name)
        → node_of (numbered first (ADeclaration other at is rest)) name
        ≡ node_from first (index_in (ADeclaration other at is rest) name)
    by_name (inl same) later = rw same (ap (λ number. Some (node number)) (omega arith))
    by_name (inr differs) later = rw differs (later ∙ node_later first (index_in rest name))

-- so a list of pairs gives a name the node that names of a list of declarations do
pub node_is : (first : ℕ) (declarations : Declarations) (name : Name)
    → node_of (numbered first declarations) name
    ≡ named.node_of (record { declarations = declarations; first = first }) name
node_is first declarations name = numbered_at first declarations name

-- the node of a name that the list declares, or what holds nothing
pub numbered_or : (first : ℕ) (declarations : Declarations) (name : Name)
    → declared_or first (index_in declarations name) EMPTY
    ≡ unwrap_or (node_of (numbered first declarations) name) EMPTY
numbered_or first declarations name =
    by (index_in declarations name) ∙ ap (λ id. unwrap_or id EMPTY) (sym (numbered_at first declarations name))
  where
    by : (index : Option ℕ) → declared_or first index EMPTY ≡ unwrap_or (node_from first index) EMPTY
    by None = refl
    by (Some index) = refl

-- a name that has a tree in a list has a place there, and another has none
abbrev Together : Option Tree → Option ℕ → Type 0
Together None None = Unit {0}
Together (Some is) (Some index) = Unit {0}
Together _ _ = ⊥

further : (is : Option Tree) (index : Option ℕ) → Together is index
    → Together is (option_map (λ index. index + 1) index)
further None None both = tt
further (Some is) (Some index) both = tt
further None (Some index) both = both
further (Some is) None both = both

together : (declarations : Declarations) (name : Name)
    → Together (tree_in declarations name) (index_in declarations name)
together NoDeclaration name = tt
together (ADeclaration other at is rest) name = by_name (cases_Bool (bytes_eq other name)) (together rest name)
  where
    by_name : (bytes_eq other name ≡ true) ⊎ (bytes_eq other name ≡ false)
        → Together (tree_in rest name) (index_in rest name)
        → Together (tree_in (ADeclaration other at is rest) name) (index_in (ADeclaration other at is rest) name)
    by_name (inl same) later = rw same tt
    by_name (inr differs) later = rw differs (further (tree_in rest name) (index_in rest name) later)

-- names whose nodes follow one another stand for what a list declares, where the node at each place does
pub all_named : (graph : Graph) (declarations : Declarations) (first : ℕ)
    → ((name : Name) (index : ℕ) → index_in declarations name ≡ Some index
    → StandsFor graph (node (first + index)) (type_named declarations name))
    → AreNamed graph declarations (numbered first declarations)
all_named graph declarations first stands name =
    subst (IsNamed graph declarations name (tree_in declarations name)) (sym (numbered_at first declarations name))
    (by_place (tree_in declarations name) (index_in declarations name) refl (together declarations name))
  where
    by_place : (is : Option Tree) (index : Option ℕ) → index_in declarations name ≡ index → Together is index
        → IsNamed graph declarations name is (node_from first index)
    by_place None None found both = tt
    by_place (Some is) (Some index) found both = stands name index found
    by_place None (Some index) found both = both
    by_place (Some is) None found both = both
