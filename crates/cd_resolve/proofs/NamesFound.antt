-- Where a name is found: in a list round it, where its node holds what its tree does, or outside of all lists.
use Rattle.std.proofs.Common.{◌≡◌, ℕ, ◌+◌, Bool, true, false, List, [], ◌∷◌, Option, Some, None, ◌⊎◌, inl, inr, refl}
use Rattle.std.proofs.Common.{ap, subst, ◌∙◌, bytes_eq, if◌then◌else◌, arith}
use Rattle.std.specs.Option.{option_map, unwrap_or}
use Rattle.cd_sets.specs.declared.node_id.NodeId.{NodeId}
use Rattle.cd_syntax.specs.Name.{Name}
use Rattle.cd_syntax.specs.TypeTree.{Tree, Declarations, NoDeclaration, ADeclaration}
use Rattle.cd_model.specs.BuiltIns.{EMPTY, node}
use Rattle.cd_model.specs.Scope.{Scope, Declared, tree_in, declared_or, declared_as}
use Rattle.cd_resolve.specs.Inner.Names.{node_of}
use Rattle.cd_shared.specs.Equation.{Equations, Same}
use Rattle.cd_resolve.specs.Inner.Equates.{IsAt, Equates, AreEquated, AllEquated}
use Rattle.cd_resolve.specs.Named.{index_in}
use Rattle.cd_resolve.specs.Inner.ScopeLevels.{ScopeLevels, scope_of, node_under}
use Rattle.cd_resolve.specs.Inner.ScopeLevels as levels

module _ (first : ℕ) (equations : Equations) (names : List (Name × NodeId)) where
  -- the node of this number holds what this tree does
  pub record IsName (inner : ScopeLevels) (number : ℕ) (is : Tree) : Type 0 where
    pub root : NodeId
    pub same : IsAt first equations (node number) (Same root)
    pub equates : Equates first equations names inner is root

  -- a list has both the place of a name and its tree, or neither
  abbrev InList : ScopeLevels → ℕ → Option ℕ → Option Tree → Type 0
  InList inner number None None = Unit {0}
  InList inner number (Some index) (Some is) = IsName inner (number + index) is
  InList inner number index is = ⊥

  -- the same list, where the number is that of the name before
  one_later : (inner : ScopeLevels) (number : ℕ) (index : Option ℕ) (is : Option Tree) → InList inner (number + 1) index is
      → InList inner number (option_map (λ index. index + 1) index) is
  one_later inner number None None found = found
  one_later inner number (Some index) None found = elim found [ ]
  one_later inner number None (Some is) found = elim found [ ]
  one_later inner number (Some index) (Some is) found =
      let later : number + 1 + index ≡ number + (index + 1) = omega arith
      in subst (λ number. IsName inner number is) later found

  -- a name in a list whose names have their equations from this number on
  in_list : (inner : ScopeLevels) (number : ℕ) (declarations : Declarations) (name : Name)
      → AreEquated first equations names inner number declarations
      → InList inner number (index_in declarations name) (tree_in declarations name)
  in_list inner number NoDeclaration name equated = tt
  in_list inner number (ADeclaration other at is rest) name equated =
      by_name (bytes_eq other name) (in_list inner (number + 1) rest name equated.1)
    where
      by_name : (same : Bool) → InList inner (number + 1) (index_in rest name) (tree_in rest name)
          → InList inner number (if same then Some 0 else option_map (λ index. index + 1) (index_in rest name))
          (if same then Some is else tree_in rest name)
      by_name true later =
          let here : number ≡ number + 0 = omega arith
          in subst (λ number. IsName inner number is) here
          (record { root = equated.0.0; same = equated.0.1; equates = equated.0.2 })
      by_name false later = one_later inner number (index_in rest name) (tree_in rest name) later

  module _ (base : Scope) where
    -- a name that a list declares which it stands under
    pub record IsInside (sees : ScopeLevels) (name : Name) : Type 0 where
      pub inner : ScopeLevels
      pub number : ℕ
      pub is : Tree
      pub there : node_under names sees name ≡ node number
      pub declared : declared_as (scope_of base sees) name
          ≡ Some (record { name = name; scope = scope_of base inner; tree = is })
      pub around : AllEquated first equations names inner
      pub has_root : IsName inner number is

    -- a name that none of them declares
    pub record IsOutside (sees : ScopeLevels) (name : Name) : Type 0 where
      pub there : node_under names sees name ≡ unwrap_or (node_of names name) EMPTY
      pub declared : declared_as (scope_of base sees) name ≡ declared_as base name

    -- a name is one of these
    pub found : (sees : ScopeLevels) (name : Name) → AllEquated first equations names sees
        → IsInside sees name ⊎ IsOutside sees name
    found [] name around = inr (record { there = refl; declared = refl })
    found (level ∷ outer) name around = by_list
        (index_in level.declarations name) (tree_in level.declarations name) refl refl
        (in_list (level ∷ outer) level.first level.declarations name around.0)
        (found outer name around.1)
      where
        here : ScopeLevels
        here = level ∷ outer

        node_there : Option ℕ → NodeId
        node_there index = levels.declared_or level.first index (node_under names outer name)

        declared_there : Option Tree → Option Declared
        declared_there is =
            declared_or is name (scope_of base (level ∷ outer)) (declared_as (scope_of base outer) name)

        by_outer : index_in level.declarations name ≡ None → tree_in level.declarations name ≡ None
            → IsInside outer name ⊎ IsOutside outer name → IsInside here name ⊎ IsOutside here name
        by_outer no_index no_tree (inl inside) = inl (record {
          inner = inside.inner;
          number = inside.number;
          is = inside.is;
          there = ap node_there no_index ∙ inside.there;
          declared = ap declared_there no_tree ∙ inside.declared;
          around = inside.around;
          has_root = inside.has_root;
        })
        by_outer no_index no_tree (inr outside) = inr (record {
          there = ap node_there no_index ∙ outside.there;
          declared = ap declared_there no_tree ∙ outside.declared;
        })

        by_list : (index : Option ℕ) (is : Option Tree) → index_in level.declarations name ≡ index
            → tree_in level.declarations name ≡ is → InList here level.first index is
            → IsInside outer name ⊎ IsOutside outer name → IsInside here name ⊎ IsOutside here name
        by_list None None index_is tree_is is_name later = by_outer index_is tree_is later
        by_list (Some index) None index_is tree_is is_name later = elim is_name [ ]
        by_list None (Some is) index_is tree_is is_name later = elim is_name [ ]
        by_list (Some index) (Some is) index_is tree_is is_name later = inl (record {
          inner = here;
          number = level.first + index;
          is = is;
          there = ap node_there index_is;
          declared = ap declared_there tree_is;
          around = around;
          has_root = is_name;
        })
