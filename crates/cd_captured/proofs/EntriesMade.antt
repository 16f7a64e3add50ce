-- The members of a union as entries of a table, and what each holds.
use Rattle.std.proofs.Common.{◌≡◌, ◌↔◌, ℕ, true, List, Option, Some, length}
use Rattle.std.proofs.Common.{sym, subst, true≢false, eqb}
use Rattle.std.proofs.lemmas.Bool.Decides.{Decides-eqb}
use Rattle.std.specs.List.{slice_get}
use Rattle.cd_sets.specs.declared.node_id.NodeId.{NodeId}
use Rattle.cd_syntax.specs.declared.constant.Constant.{Constant}
use Rattle.cd_model.specs.AllOf.{AllOf}
use Rattle.cd_model.specs.Formula as formula
use Rattle.cd_model.specs.Formula.{Graph, Formula}
use Rattle.cd_model.specs.Thing as thing
use Rattle.cd_model.specs.Thing.{Thing}
use Rattle.cd_model.specs.Types.{Mapping}
use Rattle.cd_model.proofs.BothWays.{through}
use Rattle.cd_rules.specs.Family.{AsksNodes}
use Rattle.cd_filter.specs.CapturedFormulas.{Entry, IsStepFormula}
use Rattle.cd_filter.specs.CapturedNodes.{GivesAt}
use Rattle.cd_filter.specs.Table.{Place, Step, Puts, Table, HasStep}
use Rattle.cd_explored.specs.declared.givers.Giver.{Giver}
use Rattle.cd_explored.specs.declared.step.Step.{Step as CodeStep}
use Rattle.cd_explored.specs.declared.step.Step.TheVariants as step
use Rattle.cd_explored.specs.declared.want.Want.{Want}
use Rattle.cd_explored.specs.declared.want.Want.TheVariants.{Captures}
use Rattle.cd_explored.specs.Inner.Givers.{gives}
use Rattle.cd_explored.specs.Inner.Made.{IsNodeOfWant, IsPut, IsGiven, IsMember, AreMade, text_at}
use Rattle.cd_explored.specs.Inner.Plan.{Plan, text_of}
use Rattle.cd_explored.specs.Inner.PlainSteps.{IsStep}
use Rattle.cd_model.proofs.ReadHeads.{in_it, Holds as HoldsOf, pair_holds}
use Rattle.cd_captured.proofs.QuestionsKept.{HoldsQuestions}
use Rattle.cd_captured.proofs.WantedNodes.{StandFrom, coming_holds, coming_node, constant_holds}

-- the entry of a step that gives something
pub record IsEntryOf (places : List Place) (giver : Giver) (entry : Entry) : Type 0 where
  pub place : slice_get places giver.number ≡ Some entry.place
  pub step : IsStep places giver.step entry.step

-- the texts of constants are those of the nodes of the places
abbrev pub HasTexts : Plan → Table → Type 0
HasTexts plan table = (place : Place) (variable : ℕ) (constant : Constant)
    → HasStep table place (Puts variable constant) → text_at plan place.number ≡ text_of constant

module _ (plan : Plan) (wants : List Want) (batch : List Formula)
    (asks : AllOf (λ place. AsksNodes (length plan.graph) place.question) plan.places)
    (made : AreMade plan wants batch) (count : length batch ≡ length wants) (table : Table)
    (texts : HasTexts plan table) (variable : ℕ) (id : Place → NodeId)
    (ids : (number : ℕ) (place : Place) (one : NodeId) → slice_get plan.places number ≡ Some place
    → IsNodeOfWant plan wants one (Captures variable number) → id place ≡ one)
    (graph : Graph) (closed : ℕ → Mapping NodeId) (Sort : Thing → Type 0)
    (parts : (one other : Thing) → Sort (thing.Pair one other) → Sort one × Sort other)
    (stand : StandFrom plan.first batch graph)
    (questions : HoldsQuestions plan.graph graph closed Sort)
  where
    abbrev Gives : Place → Thing → Step → Type 0
    Gives = GivesAt (in_it graph closed) Sort variable id

    abbrev Holds : Thing → Formula → Type 0
    Holds = HoldsOf graph closed

    same_variable : (other : ℕ) → eqb other variable ≡ true → other ≡ variable
    same_variable other = (Decides-eqb other variable).0

    given_holds : (number : ℕ) (code : CodeStep) (f : Formula) (place : Place) (is : Step)
        → slice_get plan.places number ≡ Some place → IsStep plan.places code is
        → HasStep table place is → gives variable code ≡ true
        → IsGiven plan wants variable number code f → (d : Thing) → Sort d
        → Holds d f ↔ Gives place d is
    given_holds number (step.Takes other) f place is there one has does given d sound =
        let held = coming_holds plan wants batch asks made count graph closed Sort stand questions
        number place there f given d sound in
        subst (λ (s : Step). Holds d f ↔ Gives place d s) (sym one)
        (λ h. (same_variable other does, held.0 h), λ g. held.1 g.1)
    given_holds number (step.Puts other constant) f place is there one has does given d sound =
        let held = constant_holds plan wants batch asks made count graph closed Sort stand
        questions place.number constant.now
        (texts place other constant.now (subst (HasStep table place) one has)) f
        (subst (λ (found : Option Place). IsPut plan wants found constant.now f) there given) d in
        subst (λ (s : Step). Holds d f ↔ Gives place d s) (sym one)
        (λ h. (same_variable other does, held.0 h), λ g. held.1 g.1)
    given_holds number (step.Leads but next) f place is there one has does given d sound =
        absurd (true≢false (sym does))
    given_holds number (step.Gathers other item next) f place is there
        (first_place, last, at_item, at_next, one) has does (first, second, is_first, is_second, are) d
        sound =
        let items = coming_node plan wants batch asks made count graph closed Sort stand questions first
        item first_place at_item is_first in
        let next_is = ids next last second at_next is_second in
        subst (λ (g : Formula). Holds d g ↔ Gives place d is) (sym are)
        (subst (λ (s : Step). Holds d (formula.Pair first second) ↔ Gives place d s) (sym one)
        (through (pair_holds graph closed first second d) (
          λ (a, b, same, here, more).
              let sorts = parts a b (subst Sort same sound) in (
                same_variable other does,
                (
                  a,
                  b,
                  sorts.0,
                  sorts.1,
                  same,
                  (items a sorts.0).0 here,
                  subst (λ (i : NodeId). in_it graph closed b i true) (sym next_is) more,
                ),
              ),
          λ (same_one, (a, b, sort_a, sort_b, same, here, more)). (
            a,
            b,
            same,
            (items a sort_a).1 here,
            subst (λ (i : NodeId). in_it graph closed b i true) next_is more,
          ),
        )))

    pub entry_holds : (giver : Giver) (entry : Entry) → IsEntryOf plan.places giver entry
        → HasStep table entry.place entry.step → gives variable giver.step ≡ true
        → IsMember plan wants variable giver entry.formula
        → IsStepFormula graph closed Sort variable id entry
    entry_holds giver entry is has does member d sound = given_holds giver.number giver.step
        entry.formula entry.place entry.step is.place is.step has does member d sound
