-- The nodes that are made from what is explored hold what variables capture.
use Rattle.std.proofs.Common.{◌≡◌, ◌<◌, ◌≤◌, ◌+◌, ◌++◌, ℕ, zero, suc, List, map, length, Some, refl, sym, subst}
use Rattle.std.proofs.Common.{arith, length-append}
use Rattle.std.proofs.lemmas.Option.{slice_get_within}
use Rattle.std.specs.List.{slice_get}
use Rattle.cd_sets.specs.declared.node_id.NodeId.{NodeId}
use Rattle.cd_model.specs.AllOf.{AllOf}
use Rattle.cd_model.specs.Formula.{Graph, Formula, IsFormula, IsGraph}
use Rattle.cd_matching.specs.Kernel.{Kernel}
use Rattle.cd_rules.specs.Family.{AsksNodes}
use Rattle.cd_model.proofs.Ones.{each_weaker}
use Rattle.cd_rules.proofs.Asking.{each_of_map}
use Rattle.cd_filter.specs.Accepting.{IsAcceptedFrom, place_of}
use Rattle.cd_filter.specs.Table.{Place, Step, Table, first_place}
use Rattle.cd_explored.specs.CaptureNodes.{AreNodesOfVariables}
use Rattle.cd_explored.specs.Captures.{AreExactCaptures, AreWideCaptures}
use Rattle.cd_explored.specs.Explored.{IsPlace, IsExplored}
use Rattle.cd_explored.specs.declared.want.Want.TheVariants.{Captures}
use Rattle.cd_explored.specs.Inner.Made.{AreFormulas}
use Rattle.cd_explored.specs.Inner.Plan.{Plan, IsSoundPlan, plan_from, named_from, StandOnce}
use Rattle.cd_explored.specs.Inner.PlainSteps.{AreEntries}
use Rattle.cd_explored.specs.Inner.Reached.{Rows}
use Rattle.cd_captured.proofs.CaptureNodesMade.{id, id_is, capture_nodes}
use Rattle.cd_captured.proofs.ConstantsPut.{rows_are_sound, text_of_put}
use Rattle.cd_captured.proofs.EntriesMade.{HasTexts}
use Rattle.cd_explored.proofs.ExactCaptures.{exact_captures, wide_captures}
use Rattle.cd_explored.proofs.FormulasMade.{batch_sound}
use Rattle.cd_captured.proofs.NamedNodes.{ids_from, id_from, ids_below}

module _ (graph : Graph) (kernel : Kernel NodeId) (first : ℕ) (matched : NodeId)
    (places : List Place) (rows : Rows) (accepted : IsAcceptedFrom graph kernel first) where
  abbrev pub root : Place
  root = first_place kernel matched (place_of kernel.nodes first)

  -- a table of what is explored
  abbrev pub HasTable : Type 0
  HasTable = (table : Table) × AreEntries places rows table × (map (λ entry. entry.0) table ≡ places)
      × IsExplored graph kernel (place_of kernel.nodes first) root table

  abbrev pub plan : Plan
  plan = plan_from graph (length graph) kernel.nodes places rows

  module _ (has : HasTable) where
    pub plan_sound : IsSoundPlan plan
    plan_sound = record {
      asks = subst (AllOf (λ place. AsksNodes (length graph) place.question)) has.2
          (each_of_map (λ (entry : Place × List Step). entry.0)
          (λ place. AsksNodes (length graph) place.question) has.0
          (each_weaker (λ entry. IsPlace graph kernel entry.0)
          (λ entry. AsksNodes (length graph) entry.0.question) (λ entry is. is.asks) has.0 has.3.places));
      constants = rows_are_sound graph kernel (place_of kernel.nodes first) (length kernel.variables)
          (λ id. id.0 < first) accepted.sound.nodes places rows has.0 has.3.settled has.1;
    }

    module _ (sound : IsGraph graph) (once : StandOnce places) (batch : List Formula)
        (formulas : AreFormulas plan (length kernel.variables) batch) where
      pub extends_soundly : AllOf (IsFormula (length graph + length batch)) batch
      extends_soundly = batch_sound plan plan_sound formulas.wants refl batch formulas.made formulas.count

      -- the places ask nodes of the longer graph too
      longer_asks : (place : Place) → AsksNodes (length graph) place.question
          → AsksNodes (length (graph ++ batch)) place.question
      longer_asks place asks = (
        each_weaker (λ id. id.0 < length graph) (λ id. id.0 < length (graph ++ batch))
            (λ id below. omega (arith, length-append graph batch)) place.question.pos asks.0,
        each_weaker (λ id. id.0 < length graph) (λ id. id.0 < length (graph ++ batch))
            (λ id below. omega (arith, length-append graph batch)) place.question.neg asks.1,
      )

      pub still_ask : AllOf (λ place. AsksNodes (length (graph ++ batch)) place.question) places
      still_ask = each_weaker (λ place. AsksNodes (length graph) place.question)
          (λ place. AsksNodes (length (graph ++ batch)) place.question) longer_asks places
          plan_sound.asks

      texts : HasTexts plan has.0
      texts = text_of_put graph kernel (place_of kernel.nodes first) has.0 has.3.settled

      -- each variable has a node in the longer graph
      variables_wanted : length kernel.variables ≤ length batch
      variables_wanted = by (length kernel.variables) refl
        where
          by : (n : ℕ) → n ≡ length kernel.variables → length kernel.variables ≤ length batch
          by zero none = omega (arith, none)
          by (suc n) is =
              let last : n < length kernel.variables = omega (arith, is) in
              omega (
                arith,
                is,
                formulas.count,
                slice_get_within formulas.wants n (Captures n 0) (formulas.first n last),
              )

      pub ids_are_below : AllOf (λ one. one.1.0 < length (graph ++ batch))
          (named_from (length graph) kernel.variables)
      ids_are_below = ids_below (length graph) kernel.variables (length (graph ++ batch))
          (omega (arith, variables_wanted, length-append graph batch))

      module _ (rooted : slice_get places zero ≡ Some root) where
        nodes_of_variables : AreNodesOfVariables (graph ++ batch) has.0 root
            (ids_from (length graph) kernel.variables)
        nodes_of_variables variable one there =
            let found = id_from (length graph) kernel.variables variable one there in (
              id plan has.0 (length kernel.variables) batch refl sound plan_sound.asks has.1 has.2 once texts
                  formulas variable,
              id_is plan has.0 (length kernel.variables) batch refl sound plan_sound.asks has.1 has.2 once
                  texts formulas variable zero root one rooted
                  (variable, formulas.first variable found.0, sym found.1),
              capture_nodes plan has.0 (length kernel.variables) batch refl sound plan_sound.asks has.1 has.2
                  once texts formulas variable root rooted found.0,
            )

        pub exact : AreExactCaptures (graph ++ batch) matched kernel (ids_from (length graph) kernel.variables)
        exact = exact_captures graph kernel first accepted matched has.0 batch sound has.3
            (ids_from (length graph) kernel.variables) nodes_of_variables

        pub wide : AreWideCaptures (graph ++ batch) matched kernel (ids_from (length graph) kernel.variables)
        wide = wide_captures graph kernel first accepted matched has.0 batch sound has.3
            (ids_from (length graph) kernel.variables) nodes_of_variables
