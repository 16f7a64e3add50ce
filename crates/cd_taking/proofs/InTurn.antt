-- Steps in turn come to what the root of the kernel takes.
use Rattle.std.proofs.Common.{◌≡◌, ◌∙◌, refl, sym, ap, ap₂, subst, subst₂, ℕ, ◌<◌, Bool, true, false, List, [], ◌∷◌, map, length, Option, Some}
use Rattle.cd_sets.specs.declared.node_id.NodeId.{NodeId}
use Rattle.cd_model.proofs.Apart.{value_apart}
use Rattle.cd_model.proofs.ApartAtNodes.{nodes_keep}
use Rattle.cd_model.specs.AllOf.{AllOf}
use Rattle.cd_model.specs.Formula as formula
use Rattle.cd_model.specs.Formula.{Graph}
use Rattle.cd_model.specs.Interfaces.{Interfaces, admits, value_in_node}
use Rattle.cd_model.specs.Thing.{Thing, EachClosure}
use Rattle.cd_matching.specs.Captures.{Captures, joined}
use Rattle.cd_matching.specs.Kernel.{taken, just}
use Rattle.cd_matching.specs.PlainKernel.{plain_kernel, plain_nodes}
use Rattle.cd_matching.specs.declared.kernel.Kernel.{Kernel}
use Rattle.cd_graph.specs.Nodes.{nodes}
use Rattle.cd_cells.specs.Cells.{thing_at}
use Rattle.cd_cells.specs.Table.{table, names}
use Rattle.cd_cells.specs.declared.cell.ValueId.{ValueId}
use Rattle.cd_cells.specs.declared.values.Values.{Values}
use Rattle.cd_asking.specs.Known.{KnowsOf}
use Rattle.cd_asking.specs.MappedArrows.{MapsRight}
use Rattle.cd_asking.specs.Mappings.{Mappings}
use Rattle.cd_taking.specs.declared.capture.Capture.{Capture}
use Rattle.cd_taking.specs.declared.frame.Doing.{Doing}
use Rattle.cd_taking.specs.declared.frame.Doing.TheVariants.{Goes, Ends}
use Rattle.cd_taking.specs.declared.frame.Next.{Next}
use Rattle.cd_taking.specs.declared.frame.Next.TheVariants as next
use Rattle.cd_taking.specs.declared.taker.Taker.{Taker}
use Rattle.cd_taking.specs.declared.type_tests.Tests.{Tests}
use Rattle.cd_taking.specs.Taken.{AreTests, TakenAs, captured, if_taken}
use Rattle.cd_taking.specs.Inner.Machine as plain
use Rattle.cd_taking.specs.Inner.Machine.{State, Step, at, answered, caught}
use Rattle.cd_taking.specs.Inner.Meaning.{Leads, lead, gives}
use Rattle.cd_taking.specs.Inner.Work.{work}
use Rattle.cd_taking.specs.Inner.Coded.{plain_frame, plain_capture, plain_failure, state, IsFrameWithin, IsCaptureWithin, IsFailureWithin}
use Rattle.cd_taking.specs.Inner.Stepping.{Asked, Steps, TestsStay, IsKernelOf}
use Rattle.cd_taking.specs.Inner.Running.{IsClear, HasEnded, IsDoing, IsRunning}
use Rattle.cd_taking.proofs.Falling.{falls}
use Rattle.cd_cells.proofs.GrownTables.{itself, further}
use Rattle.cd_taking.proofs.Joining.{joined_nothing, map_nothing}
use Rattle.cd_taking.proofs.Keeping.{keeps}

-- a value has one answer at a node
one_answer : (graph : Graph) (interfaces : Interfaces) (d : Thing) (type : NodeId) (one other : Bool)
    → value_in_node graph interfaces d type one → value_in_node graph interfaces d type other → one ≡ other
one_answer graph interfaces d type true true first second = refl
one_answer graph interfaces d type true false first second =
    absurd (value_apart (formula.nodes graph) (nodes_keep graph) (admits interfaces) d type first second)
one_answer graph interfaces d type false true first second =
    absurd (value_apart (formula.nodes graph) (nodes_keep graph) (admits interfaces) d type second first)
one_answer graph interfaces d type false false first second = refl

-- a right test answers as was asked
right_test : (graph : Graph) (maps : Mappings) (interfaces : Interfaces) (test : NodeId → Thing → Bool) → AreTests graph interfaces test
    → (type : NodeId) (d : Thing) (answer : Bool) → Asked graph maps type d answer → EachClosure (MapsRight graph interfaces maps) d
    → test type d ≡ answer
right_test graph maps interfaces test are type d answer asked closures =
    one_answer graph interfaces d type (test type d) answer (are type asked.within d asked.sound) (asked.right interfaces closures)

-- captures as they are listed
caught_is : (things : List Thing) (captures : List Capture) → caught (map (plain_capture things) captures) ≡ captured things captures
caught_is things [] = refl
caught_is things (one ∷ rest) = ap (joined (just one.variable (thing_at things one.value.0))) (caught_is things rest)

tests_stay : (first tests then : Tests) (start values after : Values) → TestsStay first tests start values → TestsStay tests then values after
    → TestsStay first then start after
tests_stay first tests then start values after one other = record {
  graph = other.graph ∙ one.graph;
  maps = other.maps ∙ one.maps;
  knows = other.knows;
  grows = further start values after one.grows other.grows;
}

module _ (kernel : Kernel) (first : Tests) (start : Values) (sound : IsKernelOf first kernel) where
  abbrev all : List plain.Node
  all = plain_nodes kernel.nodes.items

  pub begins : (taker : Taker) (id : ValueId) → IsClear taker → id.0 < length (table start) → KnowsOf (nodes first.graph) (names start) first.asker
      → IsRunning kernel first start (thing_at (table start) id.0) first start taker (next.Look id kernel.root)
  begins taker id clear within knows =
      let things : List Thing = table start in
      let v : Thing = thing_at things id.0 in
      let is : at [] [] [] (plain.Look v kernel.root) ≡ state things taker (next.Look id kernel.root) =
      λ i. at (map (plain_frame things) (sym clear.frames i)) (map (plain_capture things) (sym clear.captures i))
      (map (plain_failure things) (sym clear.failures i)) (plain.Look v kernel.root) in record {
        stays = record { graph = refl; maps = refl; knows = knows; grows = itself start };
        within = record {
          frames = subst (AllOf (IsFrameWithin (length things))) (sym clear.frames) tt;
          captures = subst (AllOf (IsCaptureWithin (length things))) (sym clear.captures) tt;
          failures = subst (AllOf (IsFailureWithin (length things))) (sym clear.failures) tt;
        };
        next_within = within;
        leads = λ interfaces test closures are.
            subst (Leads test all (taken NodeId test all v kernel.root) (MapsRight (nodes first.graph) interfaces first.maps)) is
            record { marked = tt; failed = tt; frames = tt; part = closures; leads = map_nothing (taken NodeId test all v kernel.root) };
      }

  module _ (v : Thing) (tests : Tests) (values : Values) (taker : Taker) (was : Next)
      (running : IsRunning kernel first start v tests values taker was) where
    -- the step, over what was there first
    step_first : (after : Values) (new : Taker) (then : Next) → Steps (nodes tests.graph) tests.maps all (table values) (table after) taker new was then
        → Step (Asked (nodes first.graph) first.maps) all (state (table values) taker was) (state (table after) new then)
    step_first after new then steps =
        subst₂ (λ graph maps. Step (Asked (nodes graph) maps) all (state (table values) taker was) (state (table after) new then))
        running.stays.graph running.stays.maps steps.step

    pub runs : (later : Tests) (after : Values) (new : Taker) (then : Next)
        → Steps (nodes tests.graph) tests.maps all (table values) (table after) taker new was then → TestsStay tests later values after
        → IsRunning kernel first start v later after new then
    runs later after new then steps stays = record {
      stays = tests_stay first tests later start values after running.stays stays;
      within = steps.within;
      next_within = steps.next_within;
      leads = λ interfaces test closures are.
          keeps (Asked (nodes first.graph) first.maps) test all sound.ends (MapsRight (nodes first.graph) interfaces first.maps)
          (right_test (nodes first.graph) first.maps interfaces test are) (taken NodeId test all v kernel.root)
          (state (table values) taker was) (state (table after) new then) (step_first after new then steps) (running.leads interfaces test closures are);
    }

    pub runs_down : (after : Values) (new : Taker) (then : Next) → Steps (nodes tests.graph) tests.maps all (table values) (table after) taker new was then
        → work all (state (table after) new then) < work all (state (table values) taker was)
    runs_down after new then steps =
        falls (Asked (nodes first.graph) first.maps) all sound.ends (state (table values) taker was) (state (table after) new then)
        (step_first after new then steps)

    -- what the captures are in the end
    ended : (test : NodeId → Thing → Bool) (goal : Option (Captures ℕ)) (t : List plain.Caught) (answer : Bool)
        → lead test all goal [] t (gives test all (answered answer)) → goal ≡ if_taken answer (caught t)
    ended test goal t true leads = sym leads ∙ ap Some (joined_nothing (caught t))
    ended test goal t false leads = sym leads

    pub ends_as : (after : Values) (new : Taker) (answer : Bool) → HasEnded (table values) (table after) taker new was answer
        → TakenAs (nodes first.graph) first.maps (plain_kernel kernel) v (if_taken answer (captured (table after) new.captures.items))
    ends_as after new answer end interfaces test closures are =
        let t : List plain.Caught = map (plain_capture (table values)) taker.captures.items in
        let goal : Option (Captures ℕ) = taken NodeId test all v kernel.root in
        let leads = (running.leads interfaces test closures are).leads in
        ended test goal t answer
        (subst₂ (λ fs part. lead test all goal (map (plain_frame (table values)) fs) t (gives test all part)) end.emptied.frames end.is leads)
        ∙ ap (if_taken answer) (caught_is (table values) taker.captures.items
        ∙ ap₂ (λ things captures. captured things captures) (sym end.things) (ap (λ captures. captures.items) (sym end.emptied.captures)))

    pub ends_within : (after : Values) (new : Taker) (answer : Bool) → HasEnded (table values) (table after) taker new was answer
        → AllOf (IsCaptureWithin (length (table after))) new.captures.items
    ends_within after new answer end =
        subst₂ (λ things captures. AllOf (IsCaptureWithin (length things)) captures.items) (sym end.things) (sym end.emptied.captures) running.within.captures

-- what a step came to
module _ (graph : Graph) (maps : Mappings) (all : List plain.Node) (things after : List Thing) (old new : Taker) (was : Next) (doing : Doing)
    (is : IsDoing graph maps all things after old new was doing) where
  pub goes : (then : Next) → doing ≡ Goes then → Steps graph maps all things after old new was then
  goes then same = subst (IsDoing graph maps all things after old new was) same is

  pub ends : (answer : Bool) → doing ≡ Ends answer → HasEnded things after old new was answer
  ends answer same = subst (IsDoing graph maps all things after old new was) same is
