-- What is read of declarations, and of types that see them, stands for them in a graph that solves its equations.
use Rattle.std.proofs.Common.{◌≡◌, ℕ, ◌+◌, ◌<◌, ◌≤◌, inl, inr, List, [], ◌∷◌, ◌++◌, Some, length, map}
use Rattle.std.proofs.Common.{refl, sym, ap, subst, ◌∙◌, arith}
use Rattle.std.proofs.lemmas.List.{append_assoc, length-append}
use Rattle.cd_sets.specs.declared.node_id.NodeId.{NodeId}
use Rattle.cd_syntax.specs.Name.{Name}
use Rattle.cd_syntax.specs.TypeTree.{Tree, tree, Tuple, Named, Declarations, Trees, trees_of}
use Rattle.cd_syntax.specs.declared.tokens.Span.{Span}
use Rattle.cd_syntax.specs.WellMadePattern.{IsWellMadePattern, AreWellMadePatterns, AreWellMadePatternDeclarations}
use Rattle.cd_model.specs.AllOf.{AllOf}
use Rattle.cd_model.specs.BuiltIns.{built_ins, node}
use Rattle.cd_model.specs.Formula.{Graph, IsGraph}
use Rattle.cd_model.specs.Guarded.{IsGuarded, IsOneOf, NamesAreGuarded}
use Rattle.cd_model.specs.Scope.{Scope, Declared, names_in, names_in_trees, names_over, names_declared, names_seen}
use Rattle.cd_model.specs.StandsFor.{StandsFor}
use Rattle.cd_model.specs.Written.{Written, number_of_names}
use Rattle.cd_model.proofs.Covered.{each_parts}
use Rattle.cd_model.proofs.Leading.{IsIn, at_name, of_each}
use Rattle.cd_model.proofs.NamesAlike.{IsOfType}
use Rattle.cd_resolve.specs.Faults.{Fault}
use Rattle.cd_resolve.proofs.GuardedNames.{names_are_guarded}
use Rattle.cd_resolve.specs.Faults.{IsPart, IsFault, IsFaultOfType, IsFaultOfDeclarations}
use Rattle.cd_resolve.specs.Named.{Names, AreNamed, type_named, index_in}
use Rattle.cd_resolve.specs.Wanted.{Pairwise}
use Rattle.cd_resolve.specs.Inner.Names.{AreBelow, node_of}
use Rattle.cd_shared.specs.Equation.{Equations}
use Rattle.cd_resolve.specs.Inner.Equates.{Equates, EquatesEach, AllEquated}
use Rattle.cd_resolve.specs.Inner.ScopeLevels.{ScopeLevels, node_under, declared_or, number_in}
use Rattle.cd_resolve.specs.Inner.Links.{links}
use Rattle.cd_resolve.specs.Inner.Order.{Ends}
use Rattle.cd_resolve.specs.Inner.Solves.{Solves, AgreesWith, AreEquations, IsNode}
use Rattle.cd_resolve.specs.Inner.Walk.{walked_trees, walked_list, level_after}
use Rattle.cd_resolve.proofs.BuiltInNodes.{Begins}
use Rattle.cd_resolve.proofs.Bounds.{trees_bounds, list_bounds}
use Rattle.cd_resolve.proofs.EndsOfEquations.{all_end}
use Rattle.cd_resolve.proofs.Growing.{same, list_longer}
use Rattle.cd_resolve.proofs.Guards.{list_is_guarded}
use Rattle.cd_resolve.proofs.MadeEquations.{all_trees}
use Rattle.cd_resolve.proofs.KnownNames.{IsGiven}
use Rattle.cd_resolve.proofs.NodesNamed.{list_of, of_list, all_given, nodes_below}
use Rattle.cd_resolve.proofs.NodesOfWalks.{IsBelow, index_below}
use Rattle.cd_resolve.proofs.Numbered.{all_named}
use Rattle.cd_resolve.proofs.Standing.{stands}
use Rattle.cd_resolve.proofs.WalkedEquations.{trees_equate, list_equates}
use Rattle.cd_resolve.proofs.WalkedOrigins.{trees_origins, list_origins}
use Rattle.cd_model.proofs.FormulasAmongMore.{formula_kept}

-- a graph that begins with another agrees with it
pub begins_agree : (old graph rest : Graph) → graph ≡ old ++ rest → AgreesWith old graph
begins_agree old graph rest begins id below = rw begins (formula_kept old rest id.0 below)

-- and has as many nodes at least
pub begins_with : (graph : Graph) → Begins graph → 14 ≤ length graph
begins_with graph begins = rw begins.1 (omega arith)

-- a longer graph begins with the built-in nodes too
pub begins_longer : (graph more : Graph) → Begins graph → Begins (graph ++ more)
begins_longer graph more begins =
    (begins.0 ++ more, ap (λ graph. graph ++ more) begins.1 ∙ append_assoc built_ins begins.0 more)

-- a place in a list is below the number of its names
index_within : (declarations : Declarations) (name : Name) (index : ℕ) → index_in declarations name ≡ Some index
    → index < number_in declarations
index_within declarations name index at = subst (IsBelow (number_in declarations)) at (index_below declarations name)

-- no naming fault stands in a type that sees these declarations
abbrev pub HasNoFault : Declarations → Tree → Type 0
HasNoFault declarations is = (fault : Fault) → IsFaultOfType declarations is fault → ⊥

abbrev pub seen_by : Declarations → Tree → Written
seen_by declarations is = record { scope = declarations ∷ []; tree = is }

-- nor in the tuple of such types
none_in_each : (declarations : Declarations) (list : List Tree) → AllOf (HasNoFault declarations) list
    → (is : Tree) → IsOneOf is (trees_of list) → HasNoFault declarations is
none_in_each declarations [] none is one = elim one [ ]
none_in_each declarations (first ∷ rest) none _ (IsOneOf.first _ _) = none.0
none_in_each declarations (first ∷ rest) none is (IsOneOf.later _ _ _ on) =
    none_in_each declarations rest none.1 is on

none_in_tuple : (scope : Scope) (span : Span) (trees : Trees)
    → ((is : Tree) → IsOneOf is trees → (fault : Fault) → IsFault scope scope is fault → ⊥)
    → (fault : Fault) → IsFault scope scope (tree span (Tuple trees)) fault → ⊥
none_in_tuple scope span trees none fault
    (IsFault.in_part _ _ _ _ _ _ _ (IsPart.in_tuple _ is _ one) is_fault) = none is one fault is_fault

none_together : (declarations : Declarations) (list : List Tree) → AllOf (HasNoFault declarations) list
    → HasNoFault declarations (tree (record { from = 0; to = 0 }) (Tuple (trees_of list)))
none_together declarations list none =
    none_in_tuple (declarations ∷ []) (record { from = 0; to = 0 }) (trees_of list) (none_in_each declarations list none)

all_well_made : (list : List Tree) → AllOf IsWellMadePattern list → AreWellMadePatterns (trees_of list)
all_well_made [] made = tt
all_well_made (is ∷ rest) made = (made.0, all_well_made rest made.1)

-- each name that a type sees is one of those that it sees
all_of_type : (type : Written) → NamesAreGuarded type
    → AllOf (IsOfType type) (names_seen type.scope type.tree)
all_of_type type guarded = of_each (IsOfType type) (names_seen type.scope type.tree)
    (λ is place. (at_name IsGuarded (names_seen type.scope type.tree) is guarded place, place))

no_names : (nodes : ℕ) → AreBelow nodes []
no_names nodes name id there = absurd cc

-- declarations that see no others
module _ (declarations : Declarations) (none : (fault : Fault) → IsFaultOfDeclarations declarations fault → ⊥)
    (first : ℕ) (enough : 14 ≤ first) where
  abbrev equations : Equations
  equations = walked_list first [] [] declarations []

  abbrev sees : ScopeLevels
  sees = level_after first declarations [] ∷ []

  abbrev guarded : AllOf IsGuarded (names_over (declarations ∷ []))
  guarded = list_is_guarded declarations none

  -- a name that they declare
  abbrev IsOurs : Declared → Type 0
  IsOurs is = IsGuarded is × IsIn is (names_over (declarations ∷ []))

  are_ours : AllOf IsOurs (names_over (declarations ∷ []))
  are_ours = of_each IsOurs (names_over (declarations ∷ []))
      (λ is place. (at_name IsGuarded (names_over (declarations ∷ [])) is guarded place, place))

  around : AllEquated first equations [] sees
  around = (list_equates first [] enough (no_names first) [] declarations [] equations tt (same equations), tt)

  pub declarations_bounds : AreWellMadePatternDeclarations declarations → AreEquations 14 first equations
  declarations_bounds made = list_bounds 14 first [] (omega arith) enough (no_names 14) declarations made

  -- all ways between their equations end
  pub declarations_end : (number : ℕ) → number < length equations → Ends (links first equations) number
  declarations_end = all_end first equations [] [] 14 (omega arith) enough (no_names 14) IsOurs (λ is ours. ours.0)
      (names_over (declarations ∷ [])) (λ is ours. ours.1)
      (list_origins first [] enough (no_names first) [] IsOurs [] declarations [] equations tt (same equations) tt
      (each_parts IsOurs (names_declared (declarations ∷ []) declarations) [] are_ours).0 tt
      (λ number none. absurd (omega arith)))

  pub declarations_stand : (graph batch : Graph) → length graph ≡ first → Begins graph → length batch ≡ length equations
      → Solves (graph ++ batch) first equations
      → AreNamed (graph ++ batch) (record { declarations = declarations; first = first })
  declarations_stand graph batch long begins size solves =
      of_list (graph ++ batch) declarations first (all_named (graph ++ batch) declarations first each)
    where
      total : first + length equations ≡ length (graph ++ batch)
      total = omega (arith, length-append graph batch)

      each : (name : Name) (index : ℕ) → index_in declarations name ≡ Some index
          → StandsFor (graph ++ batch) (node (first + index)) (type_named declarations name)
      each name index at = subst (λ id. StandsFor (graph ++ batch) id (type_named declarations name)) is_at
          (stands first [] equations [] sees (tree (record { from = 0; to = 0 }) (Named name)) (node_under [] sees name)
          around refl guarded (graph ++ batch) (begins_longer graph batch begins)
          (subst (λ id. id.0 < length (graph ++ batch)) (sym is_at) there) solves (λ name. refl))
        where
          is_at : node_under [] sees name ≡ node (first + index)
          is_at = ap (λ index. declared_or (first + 0) index (node_under [] [] name)) at ∙ ap node (omega arith)

          there : first + index < length (graph ++ batch)
          there = omega (
            arith,
            total,
            index_within declarations name index at,
            list_longer first [] [] declarations [],
          )

-- types that see declared names
module _ (names : Names) (none : (fault : Fault) → IsFaultOfDeclarations names.declarations fault → ⊥)
    (list : List Tree) (none_inside : AllOf (HasNoFault names.declarations) list)
    (old : Graph) (sound : IsGraph old) (begins : Begins old) (named : AreNamed old names)
    (first : ℕ) (fits : length old ≤ first) where
  abbrev declarations : Declarations
  declarations = names.declarations

  abbrev trees : Trees
  trees = trees_of list

  abbrev read : List NodeId × Equations
  read = walked_trees first (list_of names) [] trees [] []

  below : AreBelow (length old) (list_of names)
  below = nodes_below old names named

  further : AreBelow first (list_of names)
  further name id there = omega (arith, below name id there)

  enough : 14 ≤ first
  enough = omega (arith, begins_with old begins)

  pub types_bounds : AllOf IsWellMadePattern list
      → AreEquations (length old) first read.1 × AllOf (IsNode (length old) first (length read.1)) read.0
  types_bounds made = trees_bounds (length old) first (list_of names) (begins_with old begins) fits below trees
      (all_well_made list made)

  -- the types as one, which has the names of all of them
  abbrev together : Written
  together = record { scope = declarations ∷ []; tree = tree (record { from = 0; to = 0 }) (Tuple trees) }

  all_names : AllOf (IsOfType together) (names_seen (declarations ∷ []) together.tree)
  all_names = all_of_type together
      (names_are_guarded declarations none together.tree (none_together declarations list none_inside))

  -- all ways between their equations end
  pub types_end : (number : ℕ) → number < length read.1 → Ends (links first read.1) number
  types_end = all_end first read.1 (list_of names) (declarations ∷ []) (length old) (begins_with old begins) fits below
      (IsOfType together) (λ is ours. ours.0) (names_seen (declarations ∷ []) together.tree) (λ is ours. ours.1)
      (trees_origins first (list_of names) enough further (declarations ∷ []) (IsOfType together) [] trees [] read.1 tt
      (same read.1) tt parts.0 parts.1 (λ number none. absurd (omega arith)))
    where
      parts : AllOf (IsOfType together) (names_in_trees (declarations ∷ []) trees)
          × AllOf (IsOfType together) (names_over (declarations ∷ []))
      parts = each_parts (IsOfType together) (names_in_trees (declarations ∷ []) trees)
          (names_over (declarations ∷ [])) all_names

  module _ (more batch : Graph) (long : length (old ++ more) ≡ first) (size : length batch ≡ length read.1)
      (solves : Solves (old ++ more ++ batch) first read.1) where
    begun : Begins (old ++ more ++ batch)
    begun = begins_longer (old ++ more) batch (begins_longer old more begins)

    total : first + length read.1 ≡ length (old ++ more ++ batch)
    total = omega (arith, length-append (old ++ more) batch)

    type_stands : (is : Tree) (root : NodeId) → HasNoFault declarations is
        → Equates first read.1 (list_of names) [] is root → IsNode (length old) first (length read.1) root
        → StandsFor (old ++ more ++ batch) root (record { scope = declarations ∷ []; tree = is })
    type_stands is root none_in equates is_node =
        stands first (list_of names) read.1 (declarations ∷ []) [] is root tt equates
        (names_are_guarded declarations none is none_in) (old ++ more ++ batch) begun (there is_node) solves given
      where
        there : IsNode (length old) first (length read.1) root → root.0 < length (old ++ more ++ batch)
        there (inl older) = omega (arith, total, older, fits)
        there (inr own) = omega (arith, total, own.1)

        count : ℕ
        count = number_of_names (record { scope = declarations ∷ []; tree = is })

        within : length (names_over (declarations ∷ [])) ≤ count
        within =
            let both : _ = length-append (names_in (declarations ∷ []) is) (names_over (declarations ∷ [])) in
            omega arith

        Given : Graph → Type 0
        Given graph = (name : Name) → IsGiven graph count (declarations ∷ []) name (node_of (list_of names) name)

        given : Given (old ++ more ++ batch)
        given = subst Given (sym (append_assoc old more batch))
            (all_given old sound names (list_is_guarded declarations none) named count within (more ++ batch))

    each_stands : (rest : List Tree) (roots : List NodeId) → AllOf (HasNoFault declarations) rest
        → EquatesEach first read.1 (list_of names) [] (trees_of rest) roots
        → AllOf (IsNode (length old) first (length read.1)) roots
        → Pairwise (StandsFor (old ++ more ++ batch)) roots (map (seen_by declarations) rest)
    each_stands [] [] none_in each are = tt
    each_stands [] (root ∷ roots) none_in each are = elim each [ ]
    each_stands (is ∷ rest) [] none_in each are = elim each [ ]
    each_stands (is ∷ rest) (root ∷ roots) none_in each are = (
      type_stands is root none_in.0 each.0 are.0,
      each_stands rest roots none_in.1 each.1 are.1,
    )

    pub types_stand : AllOf (IsNode (length old) first (length read.1)) read.0
        → Pairwise (StandsFor (old ++ more ++ batch)) read.0 (map (seen_by declarations) list)
    types_stand = each_stands list read.0 none_inside
        (all_trees first read.1 (list_of names) [] trees read.0
        (trees_equate first (list_of names) enough further [] trees [] [] read.1 tt (same read.1)))
