-- The nodes of what variables capture, in a graph in which the formulas for the wants stand.
use Rattle.std.proofs.Common.{◌≡◌, ◌<◌, ◌+◌, ◌++◌, ℕ, zero, true, List, [], ◌∷◌, map, inl, inr}
use Rattle.std.proofs.Common.{Some, length, refl, sym, ap, subst, ◌∙◌, append_assoc, arith}
use Rattle.std.proofs.lemmas.Bool.Decides.{Decides-eqb}
use Rattle.std.proofs.lemmas.List.Elements.{All-contains}
use Rattle.std.proofs.lemmas.Option.{same_Some, slice_get_within}
use Rattle.std.specs.List.{slice_get, All, AllZip, Contains}
use Rattle.std.specs.Option.{unwrap_or}
use Rattle.cd_sets.specs.declared.node_id.NodeId.{NodeId}
use Rattle.cd_model.specs.AllOf.{AllOf, AnyOf}
use Rattle.cd_model.specs.BuiltIns.{node}
use Rattle.cd_model.specs.Formula.{Graph, Formula, Nothing, Or, IsGraph, formula_at, formulas_of, nodes}
use Rattle.cd_model.specs.Interfaces.{admits}
use Rattle.cd_model.specs.Thing.{IsElement, IsValue}
use Rattle.cd_model.specs.Types.{no_closure, closure_maps}
use Rattle.cd_model.proofs.ByNumber.{got_some, got_more}
use Rattle.cd_model.proofs.ByNumber.{got_after}
use Rattle.cd_rules.specs.Family.{AsksNodes}
use Rattle.cd_filter.specs.CapturedFormulas.{Entry, of_entry, IsOfVariable}
use Rattle.cd_filter.specs.CapturedNodes.{Reaches}
use Rattle.cd_filter.specs.Table.{Place, Step, Gathers, Table, HasStep}
use Rattle.cd_explored.specs.CaptureNodes.{IsFormulaOf, IsCaptureNode, AreCaptureNodes}
use Rattle.cd_explored.specs.declared.givers.Giver.{Giver}
use Rattle.cd_explored.specs.declared.step.Step.{Step as CodeStep}
use Rattle.cd_explored.specs.declared.step.Step.TheVariants as step
use Rattle.cd_explored.specs.declared.want.Want.TheVariants.{Captures}
use Rattle.cd_explored.specs.Inner.Givers.{gives, givers_of}
use Rattle.cd_explored.specs.Inner.Made.{IsNodeOfWant, IsMember, IsCapture, AreFormulas}
use Rattle.cd_explored.specs.Inner.Plan.{Plan}
use Rattle.cd_explored.specs.Inner.PlainSteps.{IsStep, AreEntries}
use Rattle.cd_explored.specs.Inner.Reached.{ReachesBy}
use Rattle.cd_captured.proofs.EntriesMade.{IsEntryOf, HasTexts, entry_holds}
use Rattle.cd_explored.proofs.GiversFound.{giver, each_giver, giver_there}
use Rattle.cd_explored.proofs.Listed.{got_contains, contains_any, any_contains}
use Rattle.cd_captured.proofs.NodesFound.{id_of, id_found}
use Rattle.cd_captured.proofs.QuestionsKept.{HoldsQuestions, of_elements, of_values}
use Rattle.cd_captured.proofs.Tables.{one_step, step_there, code_there, reaches, reached_by}
use Rattle.cd_captured.proofs.Tables.{row_of_entry, code_gathers}
use Rattle.cd_captured.proofs.WantedNodes.{StandFrom}

stand_after : (graph batch : Graph) → StandFrom (length graph) batch (graph ++ batch)
stand_after graph batch k f is =
    ap (λ found. unwrap_or found Nothing) (got_after graph batch k ∙ is)

stand_still : (first : ℕ) (batch graph more : Graph) → StandFrom first batch graph
    → ((k : ℕ) (f : Formula) → slice_get batch k ≡ Some f → slice_get graph (first + k) ≡ Some f)
    → StandFrom first batch (graph ++ more)
stand_still first batch graph more stand there k f is =
    ap (λ found. unwrap_or found Nothing) (got_more graph more (first + k) f (there k f is))

-- what two lists have one by one
zip_right : {A B : Type 0} (R : A → B → Type 0) (Fact : B → Type 0) → ((a : A) (b : B) → R a b → Fact b)
    → (some : List A) (others : List B) → AllZip R some others → AllOf Fact others
zip_right R Fact leads [] [] all = tt
zip_right R Fact leads [] (b ∷ others) all = absurd all
zip_right R Fact leads (a ∷ some) [] all = tt
zip_right R Fact leads (a ∷ some) (b ∷ others) all =
    (leads a b all.0, zip_right R Fact leads some others all.1)

zip_one : {A B : Type 0} (R : A → B → Type 0) (Fact : B → Type 0) (one : A) → ((b : B) → R one b → Fact b)
    → (some : List A) (others : List B) → AllZip R some others → AnyOf (λ a. a ≡ one) some
    → AnyOf Fact others
zip_one R Fact one leads [] others all is = absurd is
zip_one R Fact one leads (a ∷ some) [] all is = absurd all
zip_one {A} R Fact one leads (a ∷ some) (b ∷ others) all (inl same) =
    inl (leads b (subst (λ (x : A). R x b) same all.0))
zip_one R Fact one leads (a ∷ some) (b ∷ others) all (inr later) =
    inr (zip_one R Fact one leads some others all.1 later)

module _ (plan : Plan) (table : Table) (variables : ℕ) (batch : List Formula)
    (first_is : plan.first ≡ length plan.graph) (sound : IsGraph plan.graph)
    (asks : AllOf (λ place. AsksNodes (length plan.graph) place.question) plan.places)
    (are : AreEntries plan.places plan.rows table)
    (same : map (λ entry. entry.0) table ≡ plan.places)
    (once : (one other : ℕ) (place : Place) → slice_get plan.places one ≡ Some place
    → slice_get plan.places other ≡ Some place → one ≡ other) (texts : HasTexts plan table)
    (formulas : AreFormulas plan variables batch) (variable : ℕ) where
  abbrev whole_graph : Graph
  whole_graph = plan.graph ++ batch

  abbrev pub id : Place → NodeId
  id = id_of plan.places variable plan.first formulas.wants

  pub id_is : (number : ℕ) (place : Place) (one : NodeId) → slice_get plan.places number ≡ Some place
      → IsNodeOfWant plan formulas.wants one (Captures variable number) → id place ≡ one
  id_is number place one there (k, wanted, is) =
      id_found plan.places variable plan.first formulas.wants once formulas.once number k place there wanted
      ∙ sym is

  there_after : (k : ℕ) (f : Formula) → slice_get batch k ≡ Some f
      → slice_get whole_graph (plan.first + k) ≡ Some f
  there_after k f is = subst (λ (n : ℕ). slice_get whole_graph (n + k) ≡ Some f) (sym first_is)
      (got_after plan.graph batch k ∙ is)

  stand : StandFrom plan.first batch whole_graph
  stand k f is = ap (λ found. unwrap_or found Nothing) (there_after k f is)

  -- a step that gives something, and its entry
  pub record IsSource (from : Place) (giver : Giver) (entry : Entry) : Type 0 where
    pub entry_is : IsEntryOf plan.places giver entry
    pub has : HasStep table entry.place entry.step
    pub reached : Reaches table variable from entry.place
    pub gives_it : gives variable giver.step ≡ true
    pub member : IsMember plan formulas.wants variable giver entry.formula

  -- where a step that gives something stands in the table
  pub record IsFound (from : Place) (giver : Giver) : Type 0 where
    pub place : Place
    pub is : Step
    pub there : slice_get plan.places giver.number ≡ Some place
    pub step_is : IsStep plan.places giver.step is
    pub has : HasStep table place is
    pub reached : Reaches table variable from place
    pub gives_it : gives variable giver.step ≡ true

  find_it : (number : ℕ) (from : Place) → slice_get plan.places number ≡ Some from
      → (numbers : List ℕ) → All (ReachesBy plan.rows variable number) numbers
      → (other : ℕ) (row : List CodeStep) (code : CodeStep) → AnyOf (λ k. k ≡ other) numbers
      → slice_get plan.rows other ≡ Some row → AnyOf (λ one. one ≡ code) row
      → gives variable code ≡ true → IsFound from (giver other code)
  find_it number from there numbers reach other row code among at_row in_row does =
      let led = All-contains (ReachesBy plan.rows variable number) numbers other reach
      (contains_any numbers other among) in
      let end = reaches plan.places plan.rows table are same once variable number other from there led in
      let stands = step_there plan.places plan.rows table are same once variable other row code at_row
      (contains_any row code in_row) in
      let place_is = same_Some stands.0 end.0 (sym stands.2 ∙ end.1) in
      record {
        place = end.0;
        is = stands.1;
        there = end.1;
        step_is = stands.4;
        has = subst (λ (p : Place). HasStep table p stands.1) place_is stands.3;
        reached = end.2;
        gives_it = does;
      }

  sources : (from : Place) (givers : List Giver) (members : List Formula) → AllOf (IsFound from) givers
      → AllZip (IsMember plan formulas.wants variable) givers members
      → (entries : List Entry) × (map of_entry entries ≡ members)
      × AllZip (IsSource from) givers entries
  sources from [] [] found all = ([], refl, tt)
  sources from [] (f ∷ members) found all = absurd all
  sources from (one ∷ givers) [] found all = absurd all
  sources from (one ∷ givers) (f ∷ members) found all =
      let rest = sources from givers members found.1 all.1 in
      let at = found.0 in
      let entry : Entry = record { place = at.place; step = at.is; formula = f } in (
        entry ∷ rest.0,
        ap (λ fs. f ∷ fs) rest.1,
        (
          record {
            entry_is = record { place = at.there; step = at.step_is };
            has = at.has;
            reached = at.reached;
            gives_it = at.gives_it;
            member = all.0;
          },
          rest.2,
        ),
      )

  -- the formula of an entry holds what its step gives
  is_formula : (from : Place) (one : Giver) (entry : Entry) → IsSource from one entry
      → IsFormulaOf whole_graph variable id entry
  is_formula from one entry source = record {
    elements = entry_holds plan formulas.wants batch asks formulas.made formulas.count table texts variable
        id id_is whole_graph no_closure IsElement (λ a b parts. parts) stand
        (of_elements plan.graph batch sound) one entry source.entry_is source.has source.gives_it
        source.member;
    values = λ more interfaces longer admitted.
        entry_holds plan formulas.wants batch asks formulas.made formulas.count table texts variable id
        id_is (whole_graph ++ more) (closure_maps (nodes (whole_graph ++ more)) (admits interfaces)) IsValue
        (λ a b parts. parts) (λ k f is. ap (λ found. unwrap_or found Nothing)
        (got_more whole_graph more (plan.first + k) f (there_after k f is)))
        (subst (λ (graph : Graph). HoldsQuestions plan.graph graph
        (closure_maps (nodes graph) (admits interfaces)) IsValue) (sym (append_assoc plan.graph batch more))
        (of_values plan.graph (batch ++ more) sound interfaces)) one entry source.entry_is source.has
        source.gives_it source.member;
  }

  -- a step of the table that gives the variable something is one of the code that does
  gives_by : (code : CodeStep) (is : Step) → IsStep plan.places code is → IsOfVariable variable is
      → gives variable code ≡ true
  gives_by (step.Takes other) is made of =
      (Decides-eqb other variable).1 (subst (IsOfVariable variable) made of)
  gives_by (step.Puts other constant) is made of =
      (Decides-eqb other variable).1 (subst (IsOfVariable variable) made of)
  gives_by (step.Leads but next) is (place, there, made) of =
      absurd (subst (IsOfVariable variable) made of)
  gives_by (step.Gathers other item next) is (first, last, at_item, at_next, made) of =
      (Decides-eqb other variable).1 (subst (IsOfVariable variable) made of)

  -- the node of what the variable captures at a place
  pub node_of_place : (number k : ℕ) (place : Place) → slice_get plan.places number ≡ Some place
      → slice_get formulas.wants k ≡ Some (Captures variable number)
      → IsCaptureNode whole_graph variable id table place
  node_of_place number k place there wanted =
      let found = got_some batch k (omega (
        arith,
        formulas.count,
        slice_get_within formulas.wants k (Captures variable number) wanted,
      )) in
      of_capture found.0 found.1 (formulas.made k (Captures variable number) found.0 wanted found.1)
    where
      of_capture : (f : Formula) → slice_get batch k ≡ Some f
          → IsCapture plan formulas.wants variable number f
          → IsCaptureNode whole_graph variable id table place
      of_capture f at (numbers, reach, all, (members, zip, is)) =
          let from = sources place (givers_of variable plan.rows numbers) members
          (each_giver variable plan.rows (IsFound place) numbers
          (find_it number place there numbers reach)) zip in
          record {
            entries = from.0;
            formula_is = ap (formula_at whole_graph)
                (id_is number place (node (plan.first + k)) there (k, wanted, refl))
                ∙ stand k f at ∙ is ∙ ap (λ fs. Or (formulas_of fs)) (sym from.1);
            reached = record {
              reached = zip_right (IsSource place)
                  (λ entry. Reaches table variable place entry.place × HasStep table entry.place entry.step)
                  (λ one entry source. (source.reached, source.has))
                  (givers_of variable plan.rows numbers) from.0 from.2;
              all = λ last step reaches_it has of.
                  let by = reached_by plan.places plan.rows table are same once variable number place last
                  there reaches_it in
                  let code = code_there plan.places plan.rows table are same once variable by.0 last step
                  by.1 has in
                  zip_one (IsSource place) (λ entry. (entry.place ≡ last) × (entry.step ≡ step))
                  (giver by.0 code.1)
                  (λ entry source. (
                    same_Some entry.place last (sym source.entry_is.place ∙ by.1),
                    one_step plan.places code.1 entry.step step source.entry_is.step code.4,
                  ))
                  (givers_of variable plan.rows numbers) from.0 from.2
                  (giver_there variable plan.rows numbers by.0 code.0 code.1
                  (any_contains numbers by.0 (all by.0 by.2)) code.2 (any_contains code.0 code.1 code.3)
                  (gives_by code.1 step code.4 of));
            };
            formulas = zip_right (IsSource place) (IsFormulaOf whole_graph variable id)
                (is_formula place) (givers_of variable plan.rows numbers) from.0 from.2;
          }

  -- the nodes of the variable
  pub capture_nodes : (root : Place) → slice_get plan.places zero ≡ Some root → variable < variables
      → AreCaptureNodes whole_graph variable id table root
  capture_nodes root there below = record {
    of_root = node_of_place zero variable root there (formulas.first variable below);
    gathered = λ place next item has.
        let found = row_of_entry plan.places plan.rows table are place (Gathers variable item next) has in
        let code = code_gathers plan.places variable found.2 item next found.6 in
        let wanted = formulas.gathered found.0 found.1 found.3 variable code.0 code.1
        (subst (Contains found.1) code.2 found.5) in
        node_of_place code.1 wanted.0 next code.3
        (got_contains formulas.wants (Captures variable code.1) wanted);
  }
