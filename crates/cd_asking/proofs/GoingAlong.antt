-- A pair whose first part is in the same nodes as those before it is one more of them.
use Rattle.std.proofs.Common.{◌≡◌, ℕ, suc, ◌+◌, ◌<◌, List, length, sym, ap, ◌∙◌, subst, arith}
use Rattle.cd_sets.specs.declared.node_id.NodeId.{NodeId}
use Rattle.cd_syntax.specs.Name.{Name}
use Rattle.cd_model.specs.Formula.{Graph}
use Rattle.cd_model.specs.Thing as thing
use Rattle.cd_model.specs.Thing.{Thing}
use Rattle.cd_cells.specs.Cells.{thing_at}
use Rattle.cd_cells.specs.declared.cell.ValueId.{ValueId}
use Rattle.cd_asking.specs.Inner.Along.{after_alike, GoesTo, IsAlong}
use Rattle.cd_asking.specs.Inner.Asked.{set_at, Grow, Grows, Found}
use Rattle.cd_asking.specs.Inner.Entries.{LeadBoth}
use Rattle.cd_asking.specs.Inner.Shapes.{Closed, members, shape_of}
use Rattle.cd_asking.specs.Inner.Tasks as task
use Rattle.cd_asking.specs.Inner.Tasks.{Covers, again, paired, size}
use Rattle.cd_asking.specs.declared.asker.Asker.{Asker}
use Rattle.cd_asking.specs.declared.asker.PairLeads.{PairLeads}
use Rattle.cd_asking.specs.declared.node_sets.SetId.{SetId}
use Rattle.cd_asking.proofs.Kept.{stays, still_within, grown_on, grows_on}
use Rattle.cd_asking.proofs.Stepping.{step_grows}
use Rattle.cd_asking.proofs.Steps.{to_first, to_second}

falls_along : (a b work : ℕ) → (3 + (a + b)) + 1 < work → b + 1 < work
falls_along a b work less = omega arith

module _ (names : List Name) (graph : Graph) (closed : Closed) (table : List Thing) (old new : Asker) (grows : Grows old new) where
  pub one_more_alike : (leads : PairLeads) (first : SetId) (id one second : ValueId) (answer : SetId)
      → LeadBoth graph old.sets (set_at old.sets leads.second) leads → first.0 < length old.sets → second.0 < length table
      → thing_at table id.0 ≡ thing.Pair (thing_at table one.0) (thing_at table second.0)
      → Found graph (shape_of graph closed (thing_at table one.0)) (set_at old.sets leads.first) new.sets answer → answer.0 ≡ first.0
      → (count : ℕ) → GoesTo names graph closed table old new (after_alike id leads.second first count) (after_alike second leads.second first (suc count))
  one_more_alike leads first id one second answer both first_within within is found same count nodes work step =
      let ids = set_at old.sets leads.second in
      let a = thing_at table one.0 in
      let b = thing_at table second.0 in
      let ids_stay : set_at new.sets leads.second ≡ ids = stays old.sets new.sets grows.0 leads.second both.1 in
      let first_stays : set_at new.sets first ≡ set_at old.sets first = stays old.sets new.sets grows.0 first first_within in
      let same_id : answer ≡ first = ap (λ n. record { 0 = n }) same in
      let first_is : set_at new.sets first ≡ members graph (shape_of graph closed a) (set_at old.sets leads.first) =
      ap (set_at new.sets) (sym same_id) ∙ found.1 in
      let pair_is : paired graph ids (set_at old.sets first) (members graph (shape_of graph closed b) ids) ≡ members graph (shape_of graph closed (thing.Pair a b)) ids =
      to_second graph closed ids ids b (set_at old.sets first) both.3
      ∙ ap (task.after graph closed (task.OfSecond b ids)) (sym first_stays ∙ first_is)
      ∙ to_first graph closed ids (set_at old.sets leads.first) a b both.2 in
      let falls = step.falls in
      record {
        makes = ap (λ set. again (suc count) (paired graph set (set_at new.sets first)) (members graph (shape_of graph closed b) set)) ids_stay
            ∙ ap (λ first. again (suc count) (paired graph ids first) (members graph (shape_of graph closed b) ids)) first_stays
            ∙ ap (again count (paired graph ids (set_at old.sets first))) pair_is
            ∙ ap (λ t. again count (paired graph ids (set_at old.sets first)) (members graph (shape_of graph closed t) ids)) (sym is)
            ∙ step.makes;
        falls = falls_along (size a) (size b) work (subst (λ t. size t + 1 < work) is falls);
        numbers = (within, still_within old.sets new.sets grows.0 leads.second.0 both.1, (still_within old.sets new.sets grows.0 leads.second.0 both.1, still_within old.sets new.sets grows.0 first.0 first_within));
      }

-- what leads of a set are stays so when sets are added
pub leads_later : (graph : Graph) (old sets new : List (List NodeId)) → Grow old sets → Grow sets new → (set : SetId) → set.0 < length old
    → (leads : PairLeads) → LeadBoth graph sets (set_at old set) leads → LeadBoth graph new (set_at new set) leads
leads_later graph old sets new first second set within leads both =
    let ids = set_at old set in
    let stay : set_at new set ≡ ids = stays old new (grown_on old sets new first second) set within in
    subst (λ set. LeadBoth graph new set leads) (sym stay) (
      still_within sets new second leads.first.0 both.0,
      still_within sets new second leads.second.0 both.1,
      subst (Covers graph task.First ids) (sym (stays sets new second leads.first both.0)) both.2,
      subst (Covers graph task.Second ids) (sym (stays sets new second leads.second both.1)) both.3,
    )

both_stay : (graph : Graph) (old new : List (List NodeId)) (grow : Grow old new) (leads : PairLeads)
    → LeadBoth graph old (set_at old leads.second) leads → LeadBoth graph new (set_at new leads.second) leads
both_stay graph old new grow leads both =
    let first = stays old new grow leads.first both.0 in
    let second = stays old new grow leads.second both.1 in (
      still_within old new grow leads.first.0 both.0,
      still_within old new grow leads.second.0 both.1,
      subst (λ next. Covers graph task.First (set_at new leads.second) next) (sym first)
          (subst (λ set. Covers graph task.First set (set_at old leads.first)) (sym second) both.2),
      subst (λ next. Covers graph task.Second next next) (sym second) both.3,
    )

module _ (names : List Name) (graph : Graph) (closed : Closed) (table : List Thing) (start : Asker) (leads : PairLeads) (first : SetId) (from : ValueId) where
  module _ (now next : Asker) (grows : Grows now next) (id : ValueId) (count : ℕ)
      (before : IsAlong names graph closed table start now leads first from id count) where
    pub goes_along : (second : ValueId) → second.0 < length table
        → ((count : ℕ) → GoesTo names graph closed table now next (after_alike id leads.second first count) (after_alike second leads.second first (suc count)))
        → IsAlong names graph closed table start next leads first from second (suc count)
    goes_along second within goes = record {
      within = within;
      grows = grows_on start now next before.grows grows;
      both = both_stay graph now.sets next.sets grows.0 leads before.both;
      below = still_within now.sets next.sets grows.0 first.0 before.below;
      goes = λ nodes work step. goes count nodes work (before.goes nodes work step);
    }

    pub stops_along : GoesTo names graph closed table start next (after_alike from leads.second first 1) (after_alike id leads.second first count)
    stops_along nodes work step = step_grows names graph closed table now next grows nodes work (after_alike id leads.second first count) (before.goes nodes work step)
