-- A pattern with the nodes of its types in their places is resolved.
use Rattle.std.proofs.Common.{◌≡◌, List, [], ◌∷◌, map, sym, ap, subst, ◌∙◌}
use Rattle.cd_sets.specs.declared.node_id.NodeId.{NodeId}
use Rattle.cd_syntax.specs.TypeTree.{Tree}
use Rattle.cd_syntax.specs.WellMadePattern.{IsWellMadePattern}
use Rattle.cd_model.specs.AllOf.{AllOf}
use Rattle.cd_model.specs.Scope.{Scope}
use Rattle.cd_model.specs.Written.{Written}
use Rattle.cd_matching.specs.PatternsAlike.{Alike}
use Rattle.cd_matching.specs.WrittenPattern.{pattern_of}
use Rattle.cd_resolve.specs.Wanted.{wanted_tree, wanted_type, Pairwise}
use Rattle.cd_resolve.specs.declared.wanted.WantedType.{WantedType}
use Rattle.cd_patterns.specs.Inner.Types.{wanted_types, types_after, filled}
use Rattle.cd_patterns.proofs.AlikeFilled.{Begin, tree_fits}
use Rattle.cd_patterns.proofs.TypesInTurn.{all_types}
use Rattle.cd_patterns.proofs.TypesSound.{NoFault, IsSound, tree_sound}

-- nodes that go together with types in a scope begin with them
begin_with : (Are : NodeId → Written → Type 0) (scope : Scope) (ids : List NodeId)
    (wanted : List WantedType)
    → Pairwise Are ids (map (wanted_type scope) wanted) → Begin Are scope ids (wanted_types wanted)
begin_with Are scope [] [] each = tt
begin_with Are scope [] (one ∷ wanted) each = elim each [ ]
begin_with Are scope (id ∷ ids) [] each = elim each [ ]
begin_with Are scope (id ∷ ids) (one ∷ wanted) each =
    (each.0, begin_with Are scope ids wanted each.1)

-- nodes of the types of a pattern, in their places
pub resolved : (Are : NodeId → Written → Type 0) (scope : Scope) (is : Tree) (ids : List NodeId)
    (wanted : List WantedType) → wanted_types wanted ≡ types_after (pattern_of [] is) []
    → Pairwise Are ids (map (wanted_type scope) wanted)
    → Alike Are (filled (pattern_of [] is) ids).0 (pattern_of scope is)
resolved Are scope is ids wanted are each = (tree_fits Are scope is ids []
    (subst (Begin Are scope ids) (are ∙ all_types (pattern_of [] is))
    (begin_with Are scope ids wanted each))).0

-- the types of a pattern are those that are put after none
pub wanted_are : (is : Tree) (none made wanted : List WantedType) → none ≡ []
    → wanted_types made ≡ types_after (pattern_of [] is) (wanted_types none) → wanted ≡ made
    → wanted_types wanted ≡ types_after (pattern_of [] is) []
wanted_are is none made wanted first are same =
    ap wanted_types same ∙ are ∙ ap (λ (list : List WantedType). types_after (pattern_of [] is)
    (wanted_types list)) first

well_made_each : (scope : Scope) (wanted : List WantedType) → AllOf (IsSound scope)
    (wanted_types wanted)
    → AllOf (λ one. IsWellMadePattern (wanted_tree one)) wanted
well_made_each scope [] each = tt
well_made_each scope (one ∷ wanted) each = (each.0.0, well_made_each scope wanted each.1)

no_fault_each : (scope : Scope) (wanted : List WantedType) → AllOf (IsSound scope)
    (wanted_types wanted)
    → AllOf (λ one. NoFault scope (wanted_tree one)) wanted
no_fault_each scope [] each = tt
no_fault_each scope (one ∷ wanted) each = (each.0.1, no_fault_each scope wanted each.1)

-- the types of a pattern are well made, and no fault stands in them
module _ (scope : Scope) (is : Tree) (wanted : List WantedType)
    (are : wanted_types wanted ≡ types_after (pattern_of [] is) []) (made : IsWellMadePattern is)
    (none : NoFault scope is) where
  all_sound : AllOf (IsSound scope) (wanted_types wanted)
  all_sound = subst (AllOf (IsSound scope)) (sym (are ∙ all_types (pattern_of [] is)))
      (tree_sound scope is [] made none tt)

  pub all_made : AllOf (λ one. IsWellMadePattern (wanted_tree one)) wanted
  all_made = well_made_each scope wanted all_sound

  pub none_at_fault : AllOf (λ one. NoFault scope (wanted_tree one)) wanted
  none_at_fault = no_fault_each scope wanted all_sound
