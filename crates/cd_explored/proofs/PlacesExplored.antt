-- One place more is settled, and in the end all are.
use Rattle.std.proofs.Common.{◌≡◌, ◌⊎◌, inl, inr, ℕ, zero, suc, List, [], ◌∷◌, ◌++◌}
use Rattle.std.proofs.Common.{map, length, take, Some, None, refl, sym, subst, ◌∙◌, ap, arith}
use Rattle.std.proofs.lemmas.List.{map-append, length-append}
use Rattle.std.proofs.lemmas.Option.{none-some, same_Some}
use Rattle.std.specs.List.{slice_get}
use Rattle.cd_sets.specs.declared.node_id.NodeId.{NodeId}
use Rattle.cd_model.specs.AllOf.{AllOf, AnyOf}
use Rattle.cd_model.specs.Formula.{Graph}
use Rattle.cd_model.proofs.Ones.{each_of_lists}
use Rattle.cd_matching.specs.Kernel.{Kernel}
use Rattle.cd_filter.specs.Accepting.{place_of, IsAcceptedFrom}
use Rattle.cd_filter.specs.Table.{Place, Step, Takes, Puts, Leads, Gathers, Table, HasPlace, HasStep}
use Rattle.cd_filter.specs.Table.{IsAmong}
use Rattle.cd_explored.specs.Explored.{IsAcceptedPlace, IsPlace, IsSettledPlace, IsExplored}
use Rattle.cd_explored.specs.NextPlaces.{NextHas}
use Rattle.cd_explored.specs.Inner.Exploring.{AreSettling, IsExploring}
use Rattle.cd_explored.specs.Inner.NodeSteps.{IsInRange}
use Rattle.cd_explored.specs.Inner.NumberedSteps.{IsNumbered, GrowTo, LeadsTo, AreNumbered}
use Rattle.cd_explored.specs.Inner.PlainSteps.{plain_place, plain_places, IsStep, AreSteps}
use Rattle.cd_explored.specs.Inner.PlainSteps.{AreEntries}
use Rattle.cd_explored.specs.declared.place.Place.{Place as CodePlace}
use Rattle.cd_explored.specs.declared.step.Step.{Step as CodeStep}
use Rattle.cd_explored.specs.declared.step.Step.TheVariants as step
use Rattle.cd_explored.proofs.AcceptedNext.{accepted_next}
use Rattle.cd_explored.proofs.StepsNumbered.{grown_there, steps_still}

-- the first ones of a list
take_more : {X : Type 0} (xs ys : List X) (count : ℕ) (x : X) → slice_get xs count ≡ Some x
    → take count xs ++ (x ∷ []) ≡ take (suc count) (xs ++ ys)
take_more [] ys zero x there = absurd (none-some x there)
take_more [] ys (suc count) x there = absurd (none-some x there)
take_more (y ∷ xs) ys zero x there = ap (λ z. z ∷ []) (sym (same_Some y x there))
take_more (y ∷ xs) ys (suc count) x there = ap (λ zs. y ∷ zs) (take_more xs ys count x there)

take_all : {X : Type 0} (xs : List X) (count : ℕ) → slice_get xs count ≡ None → take count xs ≡ xs
take_all [] zero none = refl
take_all [] (suc count) none = refl
take_all (x ∷ xs) zero none = absurd (none-some x (sym none))
take_all (x ∷ xs) (suc count) none = ap (λ ys. x ∷ ys) (take_all xs count none)

-- the place with a number is among the places
there_is : (places : List Place) (number : ℕ) (place : Place) → slice_get places number ≡ Some place
    → IsNumbered places place
there_is [] zero place there = absurd (none-some place there)
there_is [] (suc number) place there = absurd (none-some place there)
there_is (one ∷ places) zero place there = inl (same_Some one place there)
there_is (one ∷ places) (suc number) place there = inr (there_is places number place there)

-- entries stay, and one more comes after them
entries_then : (old new : List Place) → GrowTo old new → (codes : List (List CodeStep))
    (table : Table) (steps : List CodeStep) (place : Place) (all : List Step)
    → AreEntries old codes table → AreSteps new steps all
    → AreEntries new (codes ++ steps ∷ []) (table ++ (place, all) ∷ [])
entries_then old new grow [] table steps place all are last = subst
    (λ (table : Table). AreEntries new (steps ∷ []) (table ++ (place, all) ∷ [])) (sym are)
    (last, refl)
entries_then old new grow (code ∷ codes) [] steps place all are last = absurd are
entries_then old new grow (code ∷ codes) (entry ∷ table) steps place all are last = (
  steps_still old new grow code entry.1 are.0,
  entries_then old new grow codes table steps place all are.1 last,
)

-- a place that steps lead to has what all places that they lead to have
led_has : (fact : Place → Type 0) (steps : List Step) (place : Place) → AllOf (NextHas fact) steps
    → AnyOf (LeadsTo place) steps → fact place
led_has fact [] place all one = absurd one
led_has fact (is ∷ steps) place all (inl here) = by_step is all.0 here
  where
    by_step : (is : Step) → NextHas fact is → LeadsTo place is → fact place
    by_step (Takes variable) has leads = absurd leads
    by_step (Puts variable constant) has leads = absurd leads
    by_step (Leads but next) has leads = subst fact leads has
    by_step (Gathers variable item next) has leads = subst fact leads has
led_has fact (is ∷ steps) place all (inr later) = led_has fact steps place all.1 later

module _ (graph : Graph) (kernel : Kernel NodeId) (first : ℕ)
    (accepted : IsAcceptedFrom graph kernel first) where
  abbrev Explores : Place → List Place → List (List CodeStep) → Type 0
  Explores = IsExploring graph kernel first

  -- so it is a place of the kernel
  led_is : (place next : Place) (steps : List Step) → IsPlace graph kernel place
      → AreSettling graph kernel first place steps → AnyOf (LeadsTo next) steps
      → IsPlace graph kernel next
  led_is place next steps is settling leads =
      let it = led_has (IsInRange (length graph) (length kernel.nodes)) steps next
      settling.in_range leads in record {
        number = it.number;
        asks = it.asks;
        accepted = led_has (IsAcceptedPlace graph kernel) steps next
            (accepted_next graph kernel first accepted (place, steps) is.accepted
            settling.settled.elements) leads;
      }

  pub explored_more : (root : Place) (old new : List Place) (codes : List (List CodeStep))
      (place : Place) (steps : List CodeStep) (all : List Step) → Explores root old codes
      → slice_get old (length codes) ≡ Some place → AreNumbered old new steps all
      → AreSettling graph kernel first place all → Explores root new (codes ++ steps ∷ [])
  explored_more root old new codes place steps all so_far there numbered settling =
      let is = so_far.places_are place (there_is old (length codes) place there) in record {
        table = so_far.table ++ (place, all) ∷ [];
        entries = entries_then old new numbered.grown codes so_far.table steps place all
            so_far.entries numbered.numbered;
        first_ones = map-append (λ entry. entry.0) so_far.table ((place, all) ∷ [])
            ∙ ap (λ ones. ones ++ place ∷ []) so_far.first_ones
            ∙ take_more old numbered.grown.0 (length codes) place there
            ∙ ap (λ places. take (suc (length codes)) places) (sym numbered.grown.1)
            ∙ ap (λ count. take count new) counted;
        settled = each_of_lists (IsSettledPlace graph kernel (place_of kernel.nodes first))
            so_far.table ((place, all) ∷ []) so_far.settled (settling.settled, tt);
        places_are = λ next now. elim (numbered.led next now) [
          | inl before ↦ so_far.places_are next before
          | inr leads ↦ led_is place next all is settling leads
        ];
        rooted = grown_there old new zero root numbered.grown so_far.rooted;
      }
    where
      counted : suc (length codes) ≡ length (codes ++ steps ∷ [])
      counted = omega (arith, length-append codes (steps ∷ []))

  explored_first : (root : Place) → IsPlace graph kernel root → Explores root (root ∷ []) []
  explored_first root is = record {
    table = [];
    entries = refl;
    first_ones = refl;
    settled = tt;
    places_are = λ place there. elim there [
      | inl same ↦ subst (IsPlace graph kernel) same is
      | inr none ↦ absurd none
    ];
    rooted = refl;
  }

  -- where the first place was numbered
  pub explored_start : (root : Place) → IsPlace graph kernel root → (old new : List CodePlace)
      (number : ℕ) (place : CodePlace) → old ≡ [] → slice_get new number ≡ Some place
      → (new ≡ old) ⊎ (new ≡ old ++ place ∷ []) → plain_place place ≡ root
      → Explores root (plain_places new) []
  explored_start root is old new number place none found grows same = elim grows [
    | inl stays ↦ absurd (nothing_there number place
        (subst (λ (all : List CodePlace). slice_get all number ≡ Some place) (stays ∙ none) found))
    | inr more ↦ subst (λ (all : List Place). Explores root all [])
        (sym (ap plain_places (more ∙ ap (λ all. all ++ place ∷ []) none)
        ∙ ap (λ one. one ∷ []) same)) (explored_first root is)
  ]
    where
      nothing_there : (number : ℕ) (place : CodePlace) → slice_get [] number ≡ Some place → ⊥
      nothing_there zero place there = none-some place there
      nothing_there (suc number) place there = none-some place there

  -- a place with a number is one of the kernel
  pub explored_place : (root : Place) (places : List Place) (codes : List (List CodeStep))
      (place : Place) → Explores root places codes → slice_get places (length codes) ≡ Some place
      → IsInRange (length graph) (length kernel.nodes) place
  explored_place root places codes place so_far there =
      let is = so_far.places_are place (there_is places (length codes) place there) in
      record { number = is.number; asks = is.asks }

  -- where all places are settled
  module _ (root : Place) (places : List Place) (codes : List (List CodeStep))
      (so_far : Explores root places codes) (none : slice_get places (length codes) ≡ None) where
    all_there : map (λ entry. entry.0) so_far.table ≡ places
    all_there = so_far.first_ones ∙ take_all places (length codes) none

    has_place : (table : Table) (place : Place)
        → IsNumbered (map (λ entry. entry.0) table) place → HasPlace table place
    has_place [] place there = there
    has_place (entry ∷ table) place (inl same) = inl same
    has_place (entry ∷ table) place (inr later) = inr (has_place table place later)

    numbered_has : (place : Place) → IsNumbered places place → HasPlace so_far.table place
    numbered_has place there = has_place so_far.table place
        (subst (λ (all : List Place). IsNumbered all place) (sym all_there) there)

    -- each place has what all numbered ones have
    each_place : (table : Table)
        → ((place : Place) → IsNumbered (map (λ entry. entry.0) table) place
        → IsPlace graph kernel place)
        → AllOf (λ entry. IsPlace graph kernel entry.0) table
    each_place [] are = tt
    each_place (entry ∷ table) are = (
      are entry.0 (inl refl),
      each_place table (λ place there. are place (inr there)),
    )

    -- what is known of a step that stands under numbers
    abbrev Knows : Step → Type 0
    Knows (Leads but next) = IsNumbered places next
    Knows (Gathers variable item next) = IsNumbered places next
    Knows is = Unit {0}

    step_knows : (code : CodeStep) (is : Step) → IsStep places code is → Knows is
    step_knows (step.Takes variable) is right = subst Knows (sym right) tt
    step_knows (step.Puts variable constant) is right = subst Knows (sym right) tt
    step_knows (step.Leads but number) is (next, there, same) =
        subst Knows (sym same) (there_is places number next there)
    step_knows (step.Gathers variable item number) is (one, next, there, then, same) =
        subst Knows (sym same) (there_is places number next then)

    steps_know : (codes : List CodeStep) (steps : List Step) → AreSteps places codes steps
        → (is : Step) → IsAmong is steps → Knows is
    steps_know [] steps are is among =
        absurd (subst (λ (steps : List Step). IsAmong is steps) are among)
    steps_know (code ∷ codes) [] are is among = absurd among
    steps_know (code ∷ codes) (one ∷ steps) are is (inl same) =
        subst Knows same (step_knows code one are.0)
    steps_know (code ∷ codes) (one ∷ steps) are is (inr later) =
        steps_know codes steps are.1 is later

    table_knows : (codes : List (List CodeStep)) (table : Table) → AreEntries places codes table
        → (place : Place) (is : Step) → HasStep table place is → Knows is
    table_knows [] table are place is has =
        absurd (subst (λ (table : Table). HasStep table place is) are has)
    table_knows (code ∷ codes) [] are place is has = absurd has
    table_knows (code ∷ codes) (entry ∷ table) are place is (inl here) =
        steps_know code entry.1 are.0 is here.1
    table_knows (code ∷ codes) (entry ∷ table) are place is (inr later) =
        table_knows codes table are.1 place is later

    knows : (place : Place) (is : Step) → HasStep so_far.table place is → Knows is
    knows = table_knows codes so_far.table so_far.entries

    pub explored_all : (table : Table) × AreEntries places codes table
        × (map (λ entry. entry.0) table ≡ places)
        × IsExplored graph kernel (place_of kernel.nodes first) root table
    explored_all = (
      so_far.table,
      so_far.entries,
      all_there,
      record {
        rooted = numbered_has root (there_is places zero root so_far.rooted);
        places = each_place so_far.table (λ place there. so_far.places_are place
            (subst (λ (all : List Place). IsNumbered all place) all_there there));
        settled = so_far.settled;
        leads = λ place next but has. numbered_has next (knows place (Leads but next) has);
        gathers = λ place next variable item has.
            numbered_has next (knows place (Gathers variable item next) has);
      },
    )
