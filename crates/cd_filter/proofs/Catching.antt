-- What is captured at a place is caught by the steps of a whole table.
use Rattle.std.proofs.Common.{◌≡◌, ◌≢◌, ℕ, zero, suc, Bool, true, false, List, [], ◌∷◌, ◌⊎◌, inl}
use Rattle.std.proofs.Common.{inr}
use Rattle.std.proofs.Common.{length, Option, Some, None, option_map, is_some, refl, sym, ap, subst}
use Rattle.std.proofs.Common.{◌∙◌, eqb, bytes_eq, ◌||◌, if◌then◌else◌}
use Rattle.std.specs.List.{slice_get}
use Rattle.std.proofs.lemmas.Option.{none-some, same_Some}
use Rattle.std.proofs.lemmas.Bool.Decides.{eqb_tells}
use Rattle.cd_sets.specs.declared.node_id.NodeId.{NodeId}
use Rattle.cd_sets.specs.declared.question.Question.{Question}
use Rattle.cd_syntax.specs.Name.{Name}
use Rattle.cd_model.specs.AllOf.{AllOf, AnyOf}
use Rattle.cd_model.specs.Formula.{asked}
use Rattle.cd_model.specs.Thing as thing
use Rattle.cd_model.specs.Thing.{Thing}
use Rattle.cd_model.specs.Types.{Answers}
use Rattle.cd_model.proofs.Sorts.{Sort}
use Rattle.cd_model.proofs.Ones.{one_on_left, one_on_right}
use Rattle.cd_matching.specs.Captures.{Captures, or_else, joined, both, nothing}
use Rattle.cd_matching.specs.Kernel.{KernelNode, KernelField, Present, Optional, Test, Bind, Put}
use Rattle.cd_matching.specs.Kernel.{Pair, Xml, Record, Both, First, Gather, Ends, EachEnds, just}
use Rattle.cd_matching.specs.Kernel.{before, gathered, by_node, all_named, apart_of, taken}
use Rattle.cd_matching.specs.Sequences.{thing_of}
use Rattle.cd_matching.specs.Take.{at_label}
use Rattle.cd_matching.proofs.AllOf.{any_is_one}
use Rattle.cd_matching.proofs.TakenCaptures.{both_some, or_else_some, if_some, just_some}
use Rattle.cd_matching.proofs.TakenCaptures.{if_so_nothing, option_map_some, gathered_some}
use Rattle.cd_matching.proofs.Unfolding.{unfolds}
use Rattle.cd_products.specs.Products.{InProduct, InTriple}
use Rattle.cd_filter.specs.Accepting.{AreAccepting}
use Rattle.cd_filter.specs.Capturing.{AreSteps, IsSettled, IsWhole}
use Rattle.cd_filter.specs.Caught.{Caught, CapturedIsCaught, takes_it, puts_it, leads_on}
use Rattle.cd_filter.specs.Caught.{gathers_it}
use Rattle.cd_filter.specs.Rows.{InRow}
use Rattle.cd_filter.specs.Table.{Place, Step, Takes, Puts, Leads, Gathers, Table, HasPlace}
use Rattle.cd_filter.specs.Table.{IsAmong}
use Rattle.cd_filter.specs.Table.{HasStep, at, pair_steps, gather_steps, triple_steps, cell_steps}
use Rattle.cd_filter.specs.Table.{row_steps}
use Rattle.cd_filter.proofs.NamedFields.{both_of_all}
use Rattle.cd_filter.proofs.Steps.{Product, Triple, PairLeads, GatherLeads, TripleLeads}
use Rattle.cd_filter.proofs.Steps.{pair_leads, gather_leads, triple_leads, find_entry}
use Rattle.cd_filter.proofs.TakenParts.{field_takes, fields_take, present_takes, optional_none}
use Rattle.cd_filter.proofs.TakenParts.{are_present}

-- what both capture is captured by the first, or by the second
of_two : (variable : ℕ) (one other all : Captures ℕ) (what : Thing) → joined one other ≡ all
    → all variable ≡ Some what
    → (one variable ≡ Some what) ⊎ ((one variable ≡ None) × (other variable ≡ Some what))
of_two variable one other all what same has = or_else_some (one variable) (other variable) what
    (ap (λ (c : Captures ℕ). c variable) same ∙ has)

module _ (answers : Thing → Answers NodeId) (sort : Sort) (test : NodeId → Thing → Bool)
    (nodes : List (KernelNode NodeId)) (accepts : ℕ → NodeId)
    (accepting : AreAccepting answers sort.Of test nodes accepts) (table : Table)
    (whole : IsWhole answers sort.Of nodes false accepts table) (variable : ℕ) where
  abbrev IsCaught : Place → Thing → Type 0
  IsCaught = Caught answers sort.Of table variable

  abbrev takes : Thing → ℕ → Option (Captures ℕ)
  takes = taken NodeId test nodes

  abbrev In : Thing → Question → Type 0
  In d question = asked (answers d) question true

  -- what the variable captures from a thing at a place, where the way from its node is so short
  abbrev CatchesIn : (ℕ → Type 0) → Thing → Type 0
  CatchesIn IsShort d = (place : Place) (captures : Captures ℕ) (what : Thing)
      → HasPlace table place → IsShort place.number → In d place.question
      → takes d place.number ≡ Some captures → captures variable ≡ Some what
      → IsCaught place what

  abbrev Catches : Thing → Type 0
  Catches = CatchesIn (λ number. Unit {0})

  abbrev PartsCatch : Thing → Type 0
  PartsCatch (thing.Pair d e) = Catches d × Catches e
  PartsCatch (thing.Xml d e f) = Catches d × Catches e × Catches f
  PartsCatch (thing.Record fields) =
      (label : Name) (d : Thing) → at_label fields label ≡ Some d → Catches d
  PartsCatch d = Unit {0}

  module _ (place : Place) (what : Thing) (steps : List Step)
      (there : (step : Step) → IsAmong step steps → HasStep table place step) where
    -- a step that leads to another place, where this is caught
    leads : (next : Place) (but : Option ℕ) → (but ≡ Some variable → ⊥)
        → IsAmong (Leads but next) steps → (HasPlace table next → IsCaught next what)
        → IsCaught place what
    leads next but other among caught = leads_on place next but what (there (Leads but next) among)
        other (caught (whole.leads place next but (there (Leads but next) among)))

    at_part : (number : ℕ) (question : Question) (d : Thing) (captures : Captures ℕ) → Catches d
        → IsAmong (Leads None (at number question)) steps → In d question
        → takes d number ≡ Some captures → captures variable ≡ Some what → IsCaught place what
    at_part number question d captures catch among inside takes_d has =
        leads (at number question) None (none-some variable) among
        (λ here. catch (at number question) captures what here tt inside takes_d has)

    module _ (captures : Captures ℕ) (has : captures variable ≡ Some what) where
      at_pair : (p q : ℕ) (products : List Product) (d e : Thing) → Catches d → Catches e
          → steps ≡ pair_steps p q products
          → AnyOf (InProduct answers d e) products
          → both (takes d p) (takes e q) ≡ Some captures → IsCaught place what
      at_pair p q products d e catch_d catch_e are among takes_all =
          any_is_one (InProduct answers d e) products
          (λ product inside there_it.
          by_side product inside (pair_leads p q product products there_it)
          (of_two variable parts.0 parts.1 captures what parts.4 has)) among
        where
          parts : (b c : Captures ℕ) × (takes d p ≡ Some b) × (takes e q ≡ Some c)
              × (joined b c ≡ captures)
          parts = both_some (takes d p) (takes e q) captures takes_all

          listed : (step : Step) → IsAmong step (pair_steps p q products) → IsAmong step steps
          listed step = subst (IsAmong step) (sym are)

          by_side : (product : Product) → InProduct answers d e product
              → PairLeads p q products product
              → (parts.0 variable ≡ Some what)
              ⊎ ((parts.0 variable ≡ None) × (parts.1 variable ≡ Some what))
              → IsCaught place what
          by_side product inside given (inl one) =
              at_part p product.0 d parts.0 catch_d (listed _ given.0) inside.0 parts.2 one
          by_side product inside given (inr other) =
              at_part q product.1 e parts.1 catch_e (listed _ given.1) inside.1 parts.3 other.1

      at_triple : (p q r : ℕ) (triples : List Triple) (d e f : Thing) → Catches d → Catches e
          → Catches f → steps ≡ triple_steps p q r triples
          → AnyOf (InTriple answers d e f) triples
          → both (takes d p) (both (takes e q) (takes f r)) ≡ Some captures → IsCaught place what
      at_triple p q r triples d e f catch_d catch_e catch_f are among takes_all =
          any_is_one (InTriple answers d e f) triples
          (λ triple inside there_it.
          by_side triple inside (triple_leads p q r triple triples there_it)
          (of_two variable parts.0 parts.1 captures what parts.4 has)) among
        where
          parts : (b c : Captures ℕ) × (takes d p ≡ Some b)
              × (both (takes e q) (takes f r) ≡ Some c) × (joined b c ≡ captures)
          parts = both_some (takes d p) (both (takes e q) (takes f r)) captures takes_all

          rest : (b c : Captures ℕ) × (takes e q ≡ Some b) × (takes f r ≡ Some c)
              × (joined b c ≡ parts.1)
          rest = both_some (takes e q) (takes f r) parts.1 parts.3

          listed : (step : Step) → IsAmong step (triple_steps p q r triples) → IsAmong step steps
          listed step = subst (IsAmong step) (sym are)

          by_rest : (triple : Triple) → InTriple answers d e f triple
              → TripleLeads p q r triples triple
              → (rest.0 variable ≡ Some what)
              ⊎ ((rest.0 variable ≡ None) × (rest.1 variable ≡ Some what)) → IsCaught place what
          by_rest triple inside given (inl one) =
              at_part q triple.1 e rest.0 catch_e (listed _ given.1) inside.1 rest.2 one
          by_rest triple inside given (inr other) =
              at_part r triple.2 f rest.1 catch_f (listed _ given.2) inside.2 rest.3 other.1

          by_side : (triple : Triple) → InTriple answers d e f triple
              → TripleLeads p q r triples triple
              → (parts.0 variable ≡ Some what)
              ⊎ ((parts.0 variable ≡ None) × (parts.1 variable ≡ Some what)) → IsCaught place what
          by_side triple inside given (inl one) =
              at_part p triple.0 d parts.0 catch_d (listed _ given.0) inside.0 parts.2 one
          by_side triple inside given (inr other) = by_rest triple inside given
              (of_two variable rest.0 rest.1 parts.1 what rest.4 other.1)

      at_gather : (by p q : ℕ) (products : List Product) (d e : Thing) → sort.Of d → Catches d
          → Catches e → steps ≡ gather_steps by p q products
          → AnyOf (InProduct answers d e) products
          → gathered by d (takes d p) (takes e q) ≡ Some captures
          → IsCaught place what
      at_gather by p q products d e sound_d catch_d catch_e are among takes_all =
          any_is_one (InProduct answers d e) products
          (λ product inside there_it. by_side product inside
          (gather_leads by p q product products there_it)
          (of_two variable parts.0 (before by d parts.1) captures what parts.4 has)) among
        where
          parts : (b c : Captures ℕ) × (takes d p ≡ Some b) × (takes e q ≡ Some c)
              × (joined b (before by d c) ≡ captures)
          parts = gathered_some by d (takes d p) (takes e q) captures takes_all

          listed : (step : Step) → IsAmong step (gather_steps by p q products)
              → IsAmong step steps
          listed step = subst (IsAmong step) (sym are)

          by_rest : (product : Product) → InProduct answers d e product
              → GatherLeads by p q products product
              → (((eqb by variable ≡ true)
              × (option_map (thing.Pair d) (parts.1 variable) ≡ Some what))
              ⊎ ((eqb by variable ≡ false) × (parts.1 variable ≡ Some what)))
              → (((eqb by variable ≡ true) × (by ≡ variable))
              ⊎ ((eqb by variable ≡ false) × (by ≢ variable)))
              → IsCaught place what
          by_rest product inside given (inl made) (inl same) =
              let rest = option_map_some (thing.Pair d) (parts.1 variable) what made.1 in
              let step = subst (λ v. HasStep table place (Gathers v product.0 (at q product.1)))
              same.1 (there _ (listed _ given.2)) in
              subst (IsCaught place) rest.2
              (gathers_it place (at q product.1) product.0 d rest.0 step sound_d inside.0
              (catch_e (at q product.1) parts.1 rest.0
              (whole.gathers place (at q product.1) variable product.0 step) tt inside.1 parts.3
              rest.1))
          by_rest product inside given (inr kept) (inr apart) =
              leads (at q product.1) (Some by) (λ same. apart.1 (same_Some by variable same))
              (listed _ given.1)
              (λ here. catch_e (at q product.1) parts.1 what here tt inside.1 parts.3 kept.1)
          by_rest product inside given (inl made) (inr apart) = absurd cc
          by_rest product inside given (inr kept) (inl same) = absurd cc

          by_side : (product : Product) → InProduct answers d e product
              → GatherLeads by p q products product
              → (parts.0 variable ≡ Some what)
              ⊎ ((parts.0 variable ≡ None) × (before by d parts.1 variable ≡ Some what))
              → IsCaught place what
          by_side product inside given (inl one) =
              at_part p product.0 d parts.0 catch_d (listed _ given.0) inside.0 parts.2 one
          by_side product inside given (inr other) = by_rest product inside given
              (if_some (eqb by variable) (option_map (thing.Pair d) (parts.1 variable))
              (parts.1 variable) what other.1)
              (eqb_tells by variable)

    -- the cells of a row, field by field
    at_cells : (fields : thing.Fields)
        → ((label : Name) (d : Thing) → at_label fields label ≡ Some d → Catches d)
        → (named : List (Name × KernelField NodeId)) (row : List Question) (all : Captures ℕ)
        → ((step : Step) → IsAmong step (cell_steps named row) → IsAmong step steps)
        → InRow answers fields named row → fields_take test nodes fields named ≡ Some all
        → all variable ≡ Some what → IsCaught place what
    at_cells fields catch [] row all listed inside takes_all has = absurd (none-some what
        (ap (λ (c : Captures ℕ). c variable) (same_Some nothing all takes_all) ∙ has))
    at_cells fields catch ((label, Present number) ∷ named) [] all listed inside takes_all has =
        absurd inside
    at_cells fields catch ((label, Present number) ∷ named) (cell ∷ row) all listed inside takes_all
        has =
        let two = both_some (field_takes test nodes fields (label, Present number))
        (fields_take test nodes fields named) all takes_all in
        elim (of_two variable two.0 two.1 all what two.4 has) [
          | inl one ↦ at_part number cell inside.0.0 two.0 (catch label inside.0.0 inside.0.1)
              (listed _ (inl refl)) inside.0.2
              (sym (present_takes test nodes fields label number inside.0.0 inside.0.1) ∙ two.2) one
          | inr other ↦ at_cells fields catch named row two.1
              (λ step among. listed step (inr among)) inside.1 two.3 other.1
        ]
    at_cells fields catch ((label, Optional type) ∷ named) row all listed inside takes_all has =
        let two = both_some (field_takes test nodes fields (label, Optional type))
        (fields_take test nodes fields named) all takes_all in
        elim (of_two variable two.0 two.1 all what two.4 has) [
          | inl one ↦ absurd
              (none-some what (optional_none test nodes variable _ type two.0 two.2 ∙ one))
          | inr other ↦ at_cells fields catch named row two.1 listed inside two.3 other.1
        ]

    at_rows : (fields : thing.Fields)
        → ((label : Name) (d : Thing) → at_label fields label ≡ Some d → Catches d)
        → (named : List (Name × KernelField NodeId)) (rows : List (List Question))
        → (all : Captures ℕ)
        → ((step : Step) → IsAmong step (row_steps named rows) → IsAmong step steps)
        → AnyOf (InRow answers fields named) rows
        → fields_take test nodes fields named ≡ Some all → all variable ≡ Some what
        → IsCaught place what
    at_rows fields catch named [] all listed among takes_all has = absurd among
    at_rows fields catch named (row ∷ rows) all listed (inl inside) takes_all has =
        at_cells fields catch named row all
        (λ step it. listed step
        (one_on_left (λ other. other ≡ step) (cell_steps named row) (row_steps named rows) it)) inside
        takes_all has
    at_rows fields catch named (row ∷ rows) all listed (inr later) takes_all has =
        at_rows fields catch named rows all
        (λ step it. listed step
        (one_on_right (λ other. other ≡ step) (cell_steps named row) (row_steps named rows) it)) later
        takes_all has

    -- the node of the place, where what it captures at nodes that leave the thing whole is caught
    module _ (d : Thing) (sound : sort.Of d) (comes : In d place.question) (IsShort : ℕ → Type 0)
        (again : CatchesIn IsShort d) (captures : Captures ℕ)
        (has : captures variable ≡ Some what) where
      at_same : (number : ℕ) (question : Question) (others : Captures ℕ) → IsShort number
          → IsAmong (Leads None (at number question)) steps → In d question
          → takes d number ≡ Some others → others variable ≡ Some what → IsCaught place what
      at_same number question others short among inside takes_d has_it =
          leads (at number question) None (none-some variable) among
          (λ here. again (at number question) others what here short inside takes_d has_it)

      at_both : (p q : ℕ) → IsShort p → IsShort q
          → IsAmong (Leads None (at p place.question)) steps
          → IsAmong (Leads None (at q place.question)) steps
          → both (takes d p) (takes d q) ≡ Some captures → IsCaught place what
      at_both p q short_p short_q among_p among_q takes_both =
          let parts = both_some (takes d p) (takes d q) captures takes_both in
          elim (of_two variable parts.0 parts.1 captures what parts.4 has) [
            | inl one ↦ at_same p place.question parts.0 short_p among_p comes parts.2 one
            | inr other ↦ at_same q place.question parts.1 short_q among_q comes parts.3 other.1
          ]

      at_first : (p q : ℕ) (taken_first others : Question) → IsShort p → IsShort q
          → (In d place.question × answers d (accepts p) true → In d taken_first)
          → (In d place.question × answers d (accepts p) false → In d others)
          → IsAmong (Leads None (at p taken_first)) steps
          → IsAmong (Leads None (at q others)) steps
          → or_else (takes d p) (takes d q) ≡ Some captures → IsCaught place what
      at_first p q taken_first others short_p short_q within without among_p among_q takes_all =
          elim (or_else_some (takes d p) (takes d q) captures takes_all) [
            | inl one ↦ at_same p taken_first captures short_p among_p
                (within (comes, by_answer (takes d p) (Some captures) one)) one has
            | inr other ↦ at_same q others captures short_q among_q
                (without (comes, by_answer (takes d p) None other.0)) other.1 has
          ]
        where
          by_answer : (one other : Option (Captures ℕ)) → takes d p ≡ other
              → answers d (accepts p) (is_some other)
          by_answer one other same = subst
              (λ (o : Option (Captures ℕ)). answers d (accepts p) (is_some o)) same
              (accepting d p sound)

    -- the rule of each node
    module _ (IsShort : ℕ → Type 0) (captures : Captures ℕ)
        (has : captures variable ≡ Some what) where
      in_record : (b : Bool) (o : Option (Captures ℕ)) → (if b then o else None) ≡ Some captures
          → o ≡ Some captures
      in_record true o h = h
      in_record false o h = absurd (none-some captures h)

      at_variable : (one : Captures ℕ) → one ≡ captures → one variable ≡ Some what
      at_variable one same = ap (λ (c : Captures ℕ). c variable) same ∙ has

      at_node : (d : Thing) → sort.Of d → In d place.question → PartsCatch d
          → CatchesIn IsShort d → (node : Option (KernelNode NodeId)) → EachEnds IsShort node
          → AreSteps answers sort.Of false accepts place.question node steps
          → by_node NodeId test nodes d (apart_of NodeId test nodes d) (takes d) node
          ≡ Some captures
          → IsCaught place what
      at_node d sound comes parts again None ends are takes_d = absurd ends
      at_node d sound comes parts again (Some (Test type)) ends are takes_d =
          absurd
          (none-some what (at_variable nothing (if_so_nothing (test type d) captures takes_d)))
      at_node d sound comes parts again (Some (Bind by)) ends are takes_d =
          let it = just_some by variable d what
          (at_variable (just by d) (same_Some (just by d) captures takes_d)) in
          subst (IsCaught place) it.1
          (takes_it place d (there (Takes variable)
          (subst (IsAmong (Takes variable)) (sym are) (inl (ap Takes it.0)))) sound comes)
      at_node d sound comes parts again (Some (Put by constant)) ends are takes_d =
          let it = just_some by variable (thing_of constant) what
          (at_variable (just by (thing_of constant))
          (same_Some (just by (thing_of constant)) captures takes_d)) in
          subst (IsCaught place) it.1
          (puts_it place constant (there (Puts variable constant)
          (subst (IsAmong (Puts variable constant)) (sym are)
          (inl (ap (λ v. Puts v constant) it.0)))))
      at_node d sound comes parts again (Some (Both p q)) ends are takes_d =
          at_both d sound comes IsShort again captures has p q ends.0 ends.1.0
          (subst (IsAmong (Leads None (at p place.question))) (sym are) (inl refl))
          (subst (IsAmong (Leads None (at q place.question))) (sym are) (inr (inl refl))) takes_d
      at_node d sound comes parts again (Some (First p q)) ends are takes_d =
          at_first d sound comes IsShort again captures has p q are.0 are.1 ends.0 ends.1.0
          (are.2 d sound).1 (are.3 d sound).1
          (subst (IsAmong (Leads None (at p are.0))) (sym are.4) (inl refl))
          (subst (IsAmong (Leads None (at q are.1))) (sym are.4) (inr (inl refl))) takes_d
      at_node (thing.Pair d e) sound comes parts again (Some (Pair p q)) ends are takes_d =
          at_pair captures has p q are.0 d e parts.0 parts.1 are.2 (are.1 d e sound comes) takes_d
      at_node (thing.Pair d e) sound comes parts again (Some (Gather by p q)) ends are takes_d =
          at_gather captures has by p q are.0 d e (sort.pair d e sound).0 parts.0 parts.1 are.2
          (are.1 d e sound comes) takes_d
      at_node (thing.Xml d e f) sound comes parts again (Some (Xml p q r)) ends are takes_d =
          at_triple captures has p q r are.0 d e f parts.0 parts.1 parts.2 are.2
          (are.1 d e f sound comes) takes_d
      at_node (thing.Record fields) sound comes parts again (Some (Record named more)) ends are
          takes_d =
          let taken_fields = in_record (more || all_named named fields)
          (fields_take test nodes fields named) takes_d in
          at_rows fields parts named are.0 captures (λ step. subst (IsAmong step) (sym are.2))
          (are.1 fields sound comes (are_present test nodes fields named captures taken_fields))
          taken_fields has
      at_node _ sound comes parts again _ ends are takes_d = absurd (none-some captures takes_d)

  abbrev Fact : Place × List Step → Type 0
  Fact entry = IsSettled answers sort.Of nodes false accepts entry
      × Ends nodes (length nodes) entry.0.number

  facts : AllOf Fact table
  facts = both_of_all (IsSettled answers sort.Of nodes false accepts)
      (λ entry. Ends nodes (length nodes) entry.0.number) Fact (λ entry one other. (one, other))
      table whole.settled whole.ends

  -- by the length of the way on which the thing stays whole
  catches_in : (d : Thing) → sort.Of d → PartsCatch d → (count : ℕ)
      → CatchesIn (Ends nodes count) d
  catches_in d sound parts zero place captures what here ends comes takes_d has = absurd ends
  catches_in d sound parts (suc count) place captures what here ends comes takes_d has =
      let found = find_entry Fact table place here facts in
      elim found.fact.0 [
        | inl are ↦ at_node place what found.steps found.there (Ends nodes count) captures has d
            sound comes parts (catches_in d sound parts count) (slice_get nodes place.number) ends
            are (sym (unfolds NodeId test nodes d place.number found.fact.1) ∙ takes_d)
        | inr none ↦ absurd (none.0 (d, sound, comes))
      ]

  catches : (d : Thing) → sort.Of d → PartsCatch d → Catches d
  catches d sound parts place captures what here short comes takes_d has =
      let found = find_entry Fact table place here facts in
      catches_in d sound parts (length nodes) place captures what here found.fact.1 comes takes_d
      has

  part_or : (b : Bool) (d : Thing) (o : Option Thing) (found : Thing) → Catches d
      → (o ≡ Some found → Catches found) → (if b then Some d else o) ≡ Some found
      → Catches found
  part_or true d o found catch further h = subst Catches (same_Some d found h) catch
  part_or false d o found catch further h = further h

  -- by recursion on things
  mutual
    pub all_catch : (d : Thing) → sort.Of d → Catches d
    all_catch (thing.Pair d e) sound = let parts = sort.pair d e sound in
        catches (thing.Pair d e) sound (all_catch d parts.0, all_catch e parts.1)
    all_catch (thing.Xml d e f) sound = let parts = sort.xml d e f sound in
        catches (thing.Xml d e f) sound
        (all_catch d parts.0, all_catch e parts.1, all_catch f parts.2)
    all_catch (thing.Record fields) sound = catches (thing.Record fields) sound
        (parts_catch fields (sort.fields fields sound))
    all_catch (thing.Integer n) sound = catches (thing.Integer n) sound tt
    all_catch (thing.Character c) sound = catches (thing.Character c) sound tt
    all_catch (thing.Atom name) sound = catches (thing.Atom name) sound tt
    all_catch (thing.Function pairs) sound = catches (thing.Function pairs) sound tt
    all_catch (thing.Closure function environment) sound =
        catches (thing.Closure function environment) sound tt

    parts_catch : (fields : thing.Fields) → sort.OfFields fields → (label : Name) (d : Thing)
        → at_label fields label ≡ Some d → Catches d
    parts_catch thing.NoField sound label d h = absurd (none-some d h)
    parts_catch (thing.Field name first rest) sound label d h =
        let parts = sort.field name first rest sound in
        part_or (bytes_eq name label) first (at_label rest label) d (all_catch first parts.0)
        (parts_catch rest parts.1 label d) h

pub captured_is_caught : (answers : Thing → Answers NodeId) (sort : Sort)
    (test : NodeId → Thing → Bool) (nodes : List (KernelNode NodeId)) (accepts : ℕ → NodeId)
    → AreAccepting answers sort.Of test nodes accepts
    → CapturedIsCaught answers sort.Of test nodes accepts
captured_is_caught answers sort test nodes accepts accepting table variable place what whole here
    captured =
    all_catch answers sort test nodes accepts accepting table whole variable captured.0 captured.2
    place captured.1 what here tt captured.3 captured.4 captured.5
