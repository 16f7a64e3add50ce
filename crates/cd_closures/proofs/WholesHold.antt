-- The meet of arrows whose nodes stand for the types of an interface holds just the functions in all arrows of that interface.
use Rattle.std.proofs.Common.{◌≡◌, ◌++◌, ◌<◌, ◌≤◌, ℕ, true, List, [], ◌∷◌, length, map, refl, sym, ap, subst, true≢false, arith}
use Rattle.cd_sets.specs.declared.node_id.NodeId.{NodeId}
use Rattle.cd_syntax.specs.TypeTree.{Tree}
use Rattle.cd_model.specs.AllOf.{AllOf}
use Rattle.cd_model.specs.BuiltIns.{built_ins, EMPTY, ANY, ARROW}
use Rattle.cd_model.specs.Formula.{Graph, Formula, Arrow, And, formulas_of, formula_at, nodes}
use Rattle.cd_model.specs.Guarded.{NamesAreGuarded}
use Rattle.cd_model.specs.Interfaces.{AgreeAt, admits}
use Rattle.cd_model.specs.Membership.{holds, each_holds, reader}
use Rattle.cd_model.specs.Scope.{Scope}
use Rattle.cd_model.specs.StandsFor.{StandsFor}
use Rattle.cd_model.specs.Thing.{Thing, Function, Pairs, IsElement}
use Rattle.cd_model.specs.Types.{no_closure}
use Rattle.cd_model.specs.Written.{written, type_of, number_of_names}
use Rattle.cd_model.proofs.Admitting.{maps_agree}
use Rattle.cd_model.proofs.BothWays.{through}
use Rattle.cd_model.proofs.BuiltIns.{all_map}
use Rattle.cd_model.proofs.NamesAlike.{enough_for_elements}
use Rattle.cd_matching.specs.WrittenPattern.{in_scope}
use Rattle.cd_program.specs.Expr.{Signature}
use Rattle.cd_names.specs.Arrows.{AreArrows}
use Rattle.cd_evaluation.specs.ProgramInterfaces.{IsEnoughFor}
use Rattle.cd_meet.specs.Meets.{IsMeet, arrow_formula, arrow_formulas}
use Rattle.cd_closures.specs.Inner.Wholes.{IsWhole, alone}

-- what is in an arrow is a function
only_functions : (graph : Graph) (argument result : NodeId) (e : Thing) → holds (reader graph e) (Arrow argument result) true
    → (pairs : Pairs) × (e ≡ Function pairs)
only_functions graph argument result (Function pairs) is = (pairs, refl)
only_functions graph argument result _ is = absurd (true≢false is)

module _ (scope : Scope) where
  -- the names of all types of an interface are guarded
  abbrev pub AreGuarded : List Signature → Type 0
  AreGuarded interface = AllOf (λ one. NamesAreGuarded (in_scope scope one.takes) × NamesAreGuarded (in_scope scope one.gives)) interface

  module _ (graph : Graph) where
    agree : (count : ℕ) (id : NodeId) (is : Tree) → NamesAreGuarded (in_scope scope is) → number_of_names (in_scope scope is) ≤ count
        → StandsFor graph id (in_scope scope is) → AgreeAt graph count id (type_of (in_scope scope is))
    agree count id is guarded enough stands e answer element =
        through (stands.elements e answer element) (enough_for_elements (in_scope scope is) guarded count e answer enough)

    abbrev Each : Pairs → List (NodeId × NodeId) → Type 0
    Each pairs arrows = each_holds (reader graph (Function pairs)) (formulas_of (map arrow_formula arrows)) true

    abbrev All : (count : ℕ) → Pairs → List Signature → Type 0
    All count pairs interface = admits (alone scope count interface) 0 pairs

    module _ (count : ℕ) (pairs : Pairs) (element : IsElement (Function pairs)) where
      there : (interface : List Signature) (arrows : List (NodeId × NodeId)) → AreGuarded interface → IsEnoughFor scope count interface
          → AreArrows scope graph interface arrows → All count pairs interface → Each pairs arrows
      there [] [] guarded enough are all = tt
      there [] (arrow ∷ arrows) guarded enough are all = absurd are
      there (one ∷ interface) [] guarded enough are all = absurd are
      there (one ∷ interface) (arrow ∷ arrows) guarded enough are all = (
        (maps_agree (nodes graph) (written count) arrow.0 arrow.1 (type_of (in_scope scope one.takes)) (type_of (in_scope scope one.gives))
            (agree count arrow.0 one.takes guarded.0.0 enough.0.0 are.0) (agree count arrow.1 one.gives guarded.0.1 enough.0.1 are.1) pairs element).1 all.0,
        there interface arrows guarded.1 enough.1 are.2 all.1,
      )

      back : (interface : List Signature) (arrows : List (NodeId × NodeId)) → AreGuarded interface → IsEnoughFor scope count interface
          → AreArrows scope graph interface arrows → Each pairs arrows → All count pairs interface
      back [] [] guarded enough are all = tt
      back [] (arrow ∷ arrows) guarded enough are all = absurd are
      back (one ∷ interface) [] guarded enough are all = absurd are
      back (one ∷ interface) (arrow ∷ arrows) guarded enough are all = (
        (maps_agree (nodes graph) (written count) arrow.0 arrow.1 (type_of (in_scope scope one.takes)) (type_of (in_scope scope one.gives))
            (agree count arrow.0 one.takes guarded.0.0 enough.0.0 are.0) (agree count arrow.1 one.gives guarded.0.1 enough.0.1 are.1) pairs element).0 all.0,
        back interface arrows guarded.1 enough.1 are.2 all.1,
      )

    module _ (more : Graph) (begins : graph ≡ built_ins ++ more) where
      -- all functions map from nothing
      every : (pairs : Pairs) → holds (reader graph (Function pairs)) (Arrow EMPTY ANY) true
      every pairs = subst (λ (g : Graph). holds (reader g (Function pairs)) (Arrow EMPTY ANY) true) (sym begins) (all_map more no_closure pairs)

      -- so the built-in node of functions is the whole of no arrows
      all_functions : formula_at graph ARROW ≡ Arrow EMPTY ANY
      all_functions = ap (λ (g : Graph). formula_at g ARROW) begins

      only_those : (e : Thing) → holds (reader graph e) (Arrow EMPTY ANY) true
          → (pairs : Pairs) × (e ≡ Function pairs) × ((count : ℕ) → IsEnoughFor scope count [] → All count pairs [])
      only_those e inside = let found = only_functions graph EMPTY ANY e inside in (found.0, found.1, λ count enough. tt)

      pub none_is_whole : IsWhole scope graph [] ARROW
      none_is_whole = record {
        is_node = subst (λ (g : Graph). 8 < length g) (sym begins) (omega arith);
        has = λ count pairs enough element all.
            subst (λ (f : Formula). holds (reader graph (Function pairs)) f true) (sym all_functions) (every pairs);
        only = λ e element inside. only_those e (subst (λ (f : Formula). holds (reader graph e) f true) all_functions inside);
      }

      module _ (interface : List Signature) (arrows : List (NodeId × NodeId)) (guarded : AreGuarded interface)
          (are : AreArrows scope graph interface arrows) (id : NodeId) (meet : IsMeet graph arrows id) where
        abbrev Meet : Formula
        Meet = And (formulas_of (arrow_formulas arrows))

        only : (e : Thing) → IsElement e → holds (reader graph e) Meet true
            → (pairs : Pairs) × (e ≡ Function pairs) × ((count : ℕ) → IsEnoughFor scope count interface → All count pairs interface)
        only e element each =
            let found = only_functions graph EMPTY ANY e each.0 in (
              found.0,
              found.1,
              λ count enough. back count found.0 (subst IsElement found.1 element) interface arrows guarded enough are
                  (subst (λ (d : Thing). holds (reader graph d) Meet true) found.1 each).1,
            )

        pub meet_is_whole : IsWhole scope graph interface id
        meet_is_whole = record {
          is_node = meet.is_node;
          has = λ count pairs enough element all. subst (λ (f : Formula). holds (reader graph (Function pairs)) f true) (sym meet.formula)
              (every pairs, there count pairs element interface arrows guarded enough are all);
          only = λ e element inside. only e element (subst (λ (f : Formula). holds (reader graph e) f true) meet.formula inside);
        }
