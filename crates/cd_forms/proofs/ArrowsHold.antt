-- The meet of arrows between nodes holds the functions that are in all of them.
use Rattle.std.proofs.Common.{◌⊎◌, true, false, List, [], ◌∷◌}
use Rattle.std.proofs.Common.{inl, inr, refl, sym, subst}
use Rattle.cd_sets.specs.declared.node_id.NodeId.{NodeId}
use Rattle.cd_model.specs.AllOf.{AllOf}
use Rattle.cd_model.specs.Formula.{Graph, Formula, And, nodes}
use Rattle.cd_model.specs.Formula.{formulas_of}
use Rattle.cd_model.specs.Membership.{holds, each_holds, reader, answers, mapping}
use Rattle.cd_model.specs.Thing.{Thing, Function, Pairs, NoPair, Maps, Fails}
use Rattle.cd_model.proofs.Apart.{element_apart}
use Rattle.cd_model.proofs.ApartAtNodes.{nodes_keep}
use Rattle.cd_model.proofs.Decided.{element_decides}
use Rattle.cd_model.proofs.DecidedAtNodes.{nodes_decide}
use Rattle.cd_meaning.specs.Functions.{MapsInto}
use Rattle.cd_typing.specs.Interfaces.{AllArrows}
use Rattle.cd_typing.specs.Typ as types
use Rattle.cd_forms.specs.Arrows.{arrows_of}
use Rattle.cd_forms.specs.Inner.ArrowFormulas.{arrow_formulas}
use Rattle.cd_model.proofs.ReadHeads.{of_arrow}

module _ (graph : Graph) where
  abbrev In : NodeId → Thing → Type 0
  In id e = answers graph e id true

  apart : (e : Thing) (id : NodeId) → answers graph e id true → answers graph e id false → ⊥
  apart = element_apart (nodes graph) (nodes_keep graph)

  decided : (e : Thing) (id : NodeId) → answers graph e id true ⊎ answers graph e id false
  decided = element_decides (nodes graph) (nodes_decide graph)

  module _ (argument result : NodeId) where
    abbrev Into : Pairs → Type 0
    Into pairs = MapsInto pairs (In argument) (In result)

    -- a function maps from one node into another where each of its pairs does
    leads : (from to : Thing) → answers graph from argument false ⊎ answers graph to result true
        → In argument from → In result to
    leads from to (inl outside) inside = absurd (apart from argument inside outside)
    leads from to (inr there) inside = there

    pub maps_into : (pairs : Pairs) → mapping graph pairs argument result true → Into pairs
    maps_into NoPair maps = record {
      total = λ from fails. absurd fails;
      into = λ from to has. absurd has;
    }
    maps_into (Maps one other rest) (here, later) =
        let others = maps_into rest later in record {
          total = λ from fails inside. others.total from fails inside;
          into = λ from to has inside. elim has [
            | inl is ↦ subst (λ (d : Thing). In result d) is.1
                (leads one other here (subst (λ (d : Thing). In argument d) (sym is.0) inside))
            | inr there ↦ others.into from to there inside
          ];
        }
    maps_into (Fails one rest) (here, later) =
        let others = maps_into rest later in record {
          total = λ from fails inside. elim fails [
            | inl is ↦ apart one argument
                (subst (λ (d : Thing). In argument d) (sym is) inside) here
            | inr there ↦ others.total from there inside
          ];
          into = λ from to has inside. others.into from to has inside;
        }

    reaches : (from to : Thing) → (In argument from → In result to)
        → answers graph from argument true ⊎ answers graph from argument false
        → answers graph from argument false ⊎ answers graph to result true
    reaches from to leads (inl inside) = inr (leads inside)
    reaches from to leads (inr outside) = inl outside

    fails_outside : (from : Thing) → (In argument from → ⊥)
        → answers graph from argument true ⊎ answers graph from argument false
        → answers graph from argument false
    fails_outside from none (inl inside) = absurd (none inside)
    fails_outside from none (inr outside) = outside

    pub mapped : (pairs : Pairs) → Into pairs → mapping graph pairs argument result true
    mapped NoPair into = refl
    mapped (Maps one other rest) into = (
      reaches one other (λ inside. into.into one other (inl (refl, refl)) inside)
          (decided one argument),
      mapped rest (record {
        total = λ from fails. into.total from fails;
        into = λ from to has. into.into from to (inr has);
      }),
    )
    mapped (Fails one rest) into = (
      fails_outside one (λ inside. into.total one (inl refl) inside) (decided one argument),
      mapped rest (record {
        total = λ from fails. into.total from (inr fails);
        into = λ from to has. into.into from to has;
      }),
    )

  -- all of them
  abbrev Meet : List (NodeId × NodeId) → Formula
  Meet arrows = And (formulas_of (arrow_formulas arrows))

  abbrev AllInto : Pairs → List (NodeId × NodeId) → Type 0
  AllInto pairs arrows = AllOf (λ arrow. MapsInto pairs (types.In arrow.argument)
      (types.In arrow.result)) (arrows_of graph arrows)

  all_map_into : (pairs : Pairs) (arrows : List (NodeId × NodeId))
      → each_holds (reader graph (Function pairs)) (formulas_of (arrow_formulas arrows)) true
      → AllInto pairs arrows
  all_map_into pairs [] each = tt
  all_map_into pairs (arrow ∷ arrows) each =
      (maps_into arrow.0 arrow.1 pairs each.0, all_map_into pairs arrows each.1)

  all_mapped : (pairs : Pairs) (arrows : List (NodeId × NodeId)) → AllInto pairs arrows
      → each_holds (reader graph (Function pairs)) (formulas_of (arrow_formulas arrows)) true
  all_mapped pairs [] each = tt
  all_mapped pairs (arrow ∷ arrows) each =
      (mapped arrow.0 arrow.1 pairs each.0, all_mapped pairs arrows each.1)

  pub interface_has : (arrows : List (NodeId × NodeId)) (e : Thing)
      → AllArrows (arrows_of graph arrows) e → holds (reader graph e) (Meet arrows) true
  interface_has arrows e (pairs, same, all) =
      subst (λ (d : Thing). holds (reader graph d) (Meet arrows) true) (sym same)
      (all_mapped pairs arrows all)

  -- where there is an arrow
  pub interface_only : (arrow : NodeId × NodeId) (arrows : List (NodeId × NodeId)) (e : Thing)
      → holds (reader graph e) (Meet (arrow ∷ arrows)) true
      → AllArrows (arrows_of graph (arrow ∷ arrows)) e
  interface_only arrow arrows e each =
      let found = of_arrow graph arrow.0 arrow.1 e each.0 in (
        found.0,
        found.1,
        all_map_into found.0 (arrow ∷ arrows)
            (subst (λ (d : Thing). holds (reader graph d) (Meet (arrow ∷ arrows)) true) found.1
            each),
      )
