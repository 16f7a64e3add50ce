-- Nodes of the types of an interface, two by two, are those of its arrows.
use Rattle.std.proofs.Common.{◌≡◌, ◌∙◌, ◌≤◌, ℕ, drop, append-nil, List, [], ◌∷◌, ◌++◌, refl, sym, ap, subst, map, length}
use Rattle.std.proofs.lemmas.List.{at_drop_all}
use Rattle.cd_sets.specs.declared.node_id.NodeId.{NodeId}
use Rattle.cd_syntax.specs.TypeTree.{Tree}
use Rattle.cd_model.specs.AllOf.{AllOf}
use Rattle.cd_model.specs.Formula.{Graph}
use Rattle.cd_model.specs.Scope.{Scope}
use Rattle.cd_model.specs.StandsFor.{StandsFor}
use Rattle.cd_model.specs.Written.{Written}
use Rattle.cd_matching.specs.WrittenPattern.{in_scope}
use Rattle.cd_program.specs.Expr.{Signature}
use Rattle.cd_program.specs.PlainExpr.{plain_signature}
use Rattle.cd_program.specs.declared.expr.Signature.{Signature as CodeSignature}
use Rattle.cd_resolve.specs.Wanted.{wanted_tree, wanted_type, Pairwise}
use Rattle.cd_resolve.specs.declared.wanted.WantedType.{WantedType}
use Rattle.cd_names.specs.Arrows.{AreArrows}
use Rattle.cd_names.specs.ProgramFaults.{arrow_types}
use Rattle.cd_names.specs.Inner.TwoByTwo.{two_by_two}

-- what was wanted, where no type is left
pub all_wanted : (wanted slice : List WantedType) → slice ≡ wanted → (left : List CodeSignature) (index : ℕ) → length left ≤ index
    → (interface : List Signature) → map wanted_tree wanted ++ arrow_types (map plain_signature (drop index left)) ≡ arrow_types interface
    → map wanted_tree slice ≡ arrow_types interface
all_wanted wanted slice same left index past interface so_far = ap (λ (all : List WantedType). map wanted_tree all) same
    ∙ sym (append-nil (map wanted_tree wanted))
    ∙ sym (at_drop_all (λ (rest : List CodeSignature). map wanted_tree wanted ++ arrow_types (map plain_signature rest)) left index past)
    ∙ so_far

-- a fact of what a function gives for each thing of a list
pub all_of_map : {X Y : Type 0} (f : X → Y) (fact : Y → Type 0) (all : List X) → AllOf fact (map f all) → AllOf (λ one. fact (f one)) all
all_of_map f fact [] are = tt
all_of_map f fact (one ∷ rest) are = (are.0, all_of_map f fact rest are.1)

pub each_wanted : (fact : Tree → Type 0) (wanted : List WantedType) (types : List Tree) → map wanted_tree wanted ≡ types → AllOf fact types
    → AllOf (λ one. fact (wanted_tree one)) wanted
each_wanted fact wanted types are each = all_of_map wanted_tree fact wanted (subst (λ (all : List Tree). AllOf fact all) (sym are) each)

module _ (scope : Scope) where
  written_are : (wanted : List WantedType) → map (wanted_type scope) wanted ≡ map (in_scope scope) (map wanted_tree wanted)
  written_are [] = refl
  written_are (one ∷ rest) = ap (λ all. wanted_type scope one ∷ all) (written_are rest)

  module _ (graph : Graph) where
    two_stand : (interface : List Signature) (ids : List NodeId)
        → Pairwise (StandsFor graph) ids (map (in_scope scope) (arrow_types interface))
        → AreArrows scope graph interface (two_by_two ids)
    two_stand [] [] stand = tt
    two_stand [] (id ∷ ids) stand = absurd stand
    two_stand (one ∷ rest) [] stand = absurd stand
    two_stand (one ∷ rest) (id ∷ []) stand = absurd stand.1
    two_stand (one ∷ rest) (id ∷ other ∷ ids) stand = (stand.0, stand.1.0, two_stand rest ids stand.1.1)

    -- the arrows that are written, where nodes stand for all types that are wanted
    pub arrows_stand : (interface : List Signature) (wanted : List WantedType) → map wanted_tree wanted ≡ arrow_types interface
        → (ids : List NodeId) → Pairwise (StandsFor graph) ids (map (wanted_type scope) wanted)
        → AreArrows scope graph interface (two_by_two ids)
    arrows_stand interface wanted are ids stand = two_stand interface ids
        (subst (λ (all : List Written). Pairwise (StandsFor graph) ids all)
        (written_are wanted ∙ ap (λ all. map (in_scope scope) all) are) stand)
