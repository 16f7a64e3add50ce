-- All ways end from a node of a tree that leads to guarded names alone.
use Rattle.std.proofs.Common.{◌≡◌, ℕ, zero, suc, ◌≤◌, ◌⊎◌, inl, inr, List, length, Option, Some, None, [], refl, sym}
use Rattle.std.proofs.Common.{subst, ◌∙◌, arith}
use Rattle.std.proofs.lemmas.Option.{none-some}
use Rattle.std.specs.Option.{unwrap_or}
use Rattle.cd_sets.specs.declared.node_id.NodeId.{NodeId}
use Rattle.cd_syntax.specs.Name.{Name}
use Rattle.cd_syntax.specs.TypeTree as type
use Rattle.cd_syntax.specs.TypeTree.{Tree, Kind}
use Rattle.cd_model.specs.BuiltIns.{EMPTY, node}
use Rattle.cd_model.specs.Guarded.{IsGuarded}
use Rattle.cd_model.specs.Guarded as guarded
use Rattle.cd_model.specs.Scope.{Scope, Declared}
use Rattle.cd_model.specs.Written.{kind_of}
use Rattle.cd_model.proofs.Covered.{Covered, led_to}
use Rattle.cd_model.proofs.Leading.{IsIn, without, shorter, Leads, leads_closed, is_undeclared, leads_on}
use Rattle.cd_resolve.specs.Inner.Names.{node_of, AreBelow}
use Rattle.cd_shared.specs.Equation.{Equations, Same}
use Rattle.cd_resolve.specs.Inner.Equates.{Equates, EquatesKind, AllEquated}
use Rattle.cd_resolve.specs.Inner.ScopeLevels.{ScopeLevels, scope_of, node_under}
use Rattle.cd_resolve.proofs.EndsOfTrees.{EndsAt, EndsAtNames, older_ends, at_equation, tree_ends, kind_ends}
use Rattle.cd_resolve.proofs.NamesFound.{IsInside, IsOutside, found}

-- The names that were given nodes have older ones, and names that have this fact are guarded
module _ (first : ℕ) (equations : Equations) (names : List (Name × NodeId)) (base : Scope)
    (nodes : ℕ) (built_in : 14 ≤ nodes) (old : nodes ≤ first) (below : AreBelow nodes names)
    (Fact : Declared → Type 0) (guards : (is : Declared) → Fact is → IsGuarded is) where
  -- what is given to a name that no list declares is an older node
  outer_ends : (name : Name) (id : Option NodeId) → node_of names name ≡ id
      → EndsAt first equations (unwrap_or id EMPTY)
  outer_ends name None is = older_ends first equations EMPTY (omega arith)
  outer_ends name (Some id) is = let less = below name id is in older_ends first equations id (omega arith)

  outside_ends : (levels : ScopeLevels) (name : Name) → IsOutside first equations names base levels name
      → EndsAt first equations (node_under names levels name)
  outside_ends levels name out =
      subst (EndsAt first equations) (sym out.there) (outer_ends name (node_of names name) refl)

  -- all ways end from a name that leads to these others alone, which are no more than so many
  names_end : (left : ℕ) (others : List Declared) → length others ≤ left
      → EndsAtNames first equations (omega arith) names base (Leads Fact others)
  names_end zero others fits levels name lists leads = by_node (found first equations names base levels name lists)
    where
      by_node : IsInside first equations names base levels name ⊎ IsOutside first equations names base levels name
          → EndsAt first equations (node_under names levels name)
      by_node (inl is) =
          absurd (none-some _ (sym (is_undeclared Fact others fits (scope_of base levels) name leads) ∙ is.declared))
      by_node (inr out) = outside_ends levels name out
  names_end (suc left) others fits levels name lists leads =
      by_node (found first equations names base levels name lists) (names_end left)
    where
      Next : Type 0
      Next = (others : List Declared) → length others ≤ left
          → EndsAtNames first equations (omega arith) names base (Leads Fact others)

      by_node : IsInside first equations names base levels name ⊎ IsOutside first equations names base levels name
          → Next → EndsAt first equations (node_under names levels name)
      by_node (inr out) next = outside_ends levels name out
      by_node (inl is) next = subst (EndsAt first equations) (sym is.there)
          (at_equation first equations (node is.number) (Same is.has_root.root) is.has_root.same
          (by_use (leads.to on (guarded.LeadsTo.named [] (scope_of base levels) name on is.declared))))
        where
          on : Declared
          on = record { name = name; scope = scope_of base is.inner; tree = is.is }

          by_use : IsIn on others → EndsAt first equations is.has_root.root
          by_use place = tree_ends first equations (omega arith) names base (Leads Fact (without on others place))
              (leads_closed Fact (without on others place))
              (next (without on others place) (shorter on others place left fits))
              is.inner is.is is.has_root.root is.around is.has_root.equates
              (leads_on Fact others (scope_of base levels) name on is.declared
              (guards on (led_to Fact [] (scope_of base levels) (type.Named name) on
              (guarded.LeadsTo.named [] (scope_of base levels) name on is.declared) leads.covered)) place leads)

  -- all ways end from a node of a form whose names have the fact, where all names that have it are among these
  module _ (seen : List Declared) (among : (is : Declared) → Fact is → IsIn is seen) where
    leads_to : (levels : ScopeLevels) (kind : Kind) → Covered Fact (scope_of base levels) kind
        → Leads Fact seen (scope_of base levels) kind
    leads_to levels kind covered = record {
      covered = covered;
      to = λ is on. among is (led_to Fact [] (scope_of base levels) kind is on covered);
    }

    pub node_ends : (levels : ScopeLevels) (kind : Kind) (id : NodeId) → AllEquated first equations names levels
        → EquatesKind first equations names levels kind id → Covered Fact (scope_of base levels) kind
        → EndsAt first equations id
    node_ends levels kind id lists equated covered =
        kind_ends first equations (omega arith) names base (Leads Fact seen) (leads_closed Fact seen)
        (names_end (length seen) seen (omega arith)) levels kind id lists equated
        (leads_to levels kind covered)

    -- and so from a node of a tree
    pub node_of_tree_ends : (levels : ScopeLevels) (is : Tree) (id : NodeId) → AllEquated first equations names levels
        → Equates first equations names levels is id → Covered Fact (scope_of base levels) (kind_of is)
        → EndsAt first equations id
    node_of_tree_ends levels is id lists equated covered =
        tree_ends first equations (omega arith) names base (Leads Fact seen) (leads_closed Fact seen)
        (names_end (length seen) seen (omega arith)) levels is id lists equated
        (leads_to levels (kind_of is) covered)
