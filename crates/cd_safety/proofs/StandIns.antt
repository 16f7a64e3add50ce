-- Each value has an element that stands in for it, where the arrows of its closures are types. So each such value is in a node or
-- outside it.
use Rattle.std.proofs.Common.{◌≡◌, ◌<◌, ◌≤◌, ℕ, zero, suc, Bool, true, false, List, [], ◌∷◌, ◌++◌, ◌⊎◌, inl, inr, ◌↔◌, Option, Some, None, length, sym, subst, arith, nat_lt, refl}
use Rattle.std.proofs.lemmas.Bool.{cases_Bool, cases_eq, ltb-true, ltb-false}
use Rattle.cd_sets.specs.declared.node_id.NodeId.{NodeId}
use Rattle.cd_syntax.specs.Name.{Name}
use Rattle.cd_model.specs.AllOf.{AllOf}
use Rattle.cd_model.specs.BuiltIns.{built_ins, node, ARROW}
use Rattle.cd_model.specs.Formula.{Graph, IsGraph, nodes, in_node, at_formula, holds}
use Rattle.cd_model.specs.Interfaces.{Interfaces, admits, value_in_node, value_reader}
use Rattle.cd_model.specs.Kinds.{kind_of, AFunction}
use Rattle.cd_model.specs.Membership.{reader}
use Rattle.cd_model.specs.Thing as thing
use Rattle.cd_model.specs.Thing.{Thing, Fields, NoField, Field, IsAtom, IsRecord, LabelsRise, IsElement, AreFields, IsValue, AreValues, EachOfFields}
use Rattle.cd_model.proofs.Apart.{element_apart, value_apart}
use Rattle.cd_model.proofs.ApartAtNodes.{nodes_keep}
use Rattle.cd_model.proofs.BuiltIns.{functions_are, function_values_are}
use Rattle.cd_model.proofs.DecidedAtNodes as elements
use Rattle.cd_rules.specs.Needs.{question}
use Rattle.cd_rules.proofs.Answered.{each_of_asked}
use Rattle.cd_rules.proofs.Asking.{asked_of_each}
use Rattle.cd_rules.proofs.EachQuestion.{element_too}
use Rattle.cd_rules.proofs.NumbersBeyond.{beyond}
use Rattle.cd_safety.specs.OfInterface.{HasArrows, HaveArrows}
use Rattle.cd_safety.specs.StandsIn as stand
use Rattle.cd_safety.specs.StandsIn.{Agrees, StandsIn, FieldsStandIn, HasStandIn}
use Rattle.cd_safety.proofs.ClosuresDecided.{closure_decided}
use Rattle.cd_safety.proofs.StandInsAgree.{agree}

-- two things that give one answer, and not both, answer alike
same_answers : (P Q : Bool → Type 0) → (P true → P false → ⊥) → (Q true → Q false → ⊥) → (given : Bool) → P given → Q given
    → (answer : Bool) → P answer ↔ Q answer
same_answers P Q apart apart' true p q true = (λ h. q, λ h. p)
same_answers P Q apart apart' true p q false = (λ h. absurd (apart p h), λ h. absurd (apart' q h))
same_answers P Q apart apart' false p q true = (λ h. absurd (apart h p), λ h. absurd (apart' h q))
same_answers P Q apart apart' false p q false = (λ h. q, λ h. p)

module _ (graph more : Graph) (begins : graph ≡ built_ins ++ more) (sound : IsGraph graph) (interfaces : Interfaces) where
  -- where a value is in each node or outside it, an element agrees with it
  module _ (v : Thing) (is_value : IsValue v)
      (decided : (id : NodeId) → value_in_node graph interfaces v id true ⊎ value_in_node graph interfaces v id false) where
    abbrev SameAt : Thing → NodeId → Type 0
    SameAt e id = (answer : Bool) → value_in_node graph interfaces v id answer ↔ in_node graph e id answer

    same_at : (e : Thing) (id : NodeId) (given : Bool) → value_in_node graph interfaces v id given → in_node graph e id given → SameAt e id
    same_at e id given here there = same_answers (value_in_node graph interfaces v id) (in_node graph e id)
        (value_apart (nodes graph) (nodes_keep graph) (admits interfaces) v id) (element_apart (nodes graph) (nodes_keep graph) e id)
        given here there

    -- the nodes below a number that hold the value, and the others
    record Sorted (count : ℕ) : Type 0 where
      pos : List NodeId
      neg : List NodeId
      inside : AllOf (λ id. value_in_node graph interfaces v id true) pos
      outside : AllOf (λ id. value_in_node graph interfaces v id false) neg
      agrees : (e : Thing) → AllOf (λ id. in_node graph e id true) pos → AllOf (λ id. in_node graph e id false) neg
          → (id : NodeId) → id.0 < count → SameAt e id

    further : (e : Thing) (count : ℕ) (id : NodeId) → id.0 < suc count → SameAt e (node count)
        → ((id : NodeId) → id.0 < count → SameAt e id) → SameAt e id
    further e count id below last earlier = elim (cases_eq id.0 count) [
      | inl same ↦ subst (λ n. SameAt e (node n)) (sym same) last
      | inr other ↦ earlier id (omega (arith, below, other))
    ]

    sorted : (count : ℕ) → Sorted count
    sorted zero = record { pos = []; neg = []; inside = tt; outside = tt; agrees = λ e a b id below. absurd (omega (arith, below)) }
    sorted (suc count) = with_last (decided (node count)) (sorted count)
      where
        with_last : value_in_node graph interfaces v (node count) true ⊎ value_in_node graph interfaces v (node count) false
            → Sorted count → Sorted (suc count)
        with_last (inl here) rest = record {
          pos = node count ∷ rest.pos;
          neg = rest.neg;
          inside = (here, rest.inside);
          outside = rest.outside;
          agrees = λ e a b id below. further e count id below (same_at e (node count) true here a.0) (rest.agrees e a.1 b);
        }
        with_last (inr out) rest = record {
          pos = rest.pos;
          neg = node count ∷ rest.neg;
          inside = rest.inside;
          outside = (out, rest.outside);
          agrees = λ e a b id below. further e count id below (same_at e (node count) false out b.0) (rest.agrees e a b.1);
        }

    record Agreeing : Type 0 where
      e : Thing
      is_element : IsElement e
      agrees : Agrees graph interfaces v e

    agreeing : Agreeing
    agreeing =
        let all = sorted (length graph) in
        let found = element_too graph more begins sound (question all.pos all.neg) interfaces v is_value
        (asked_of_each (value_in_node graph interfaces v) all.pos all.neg all.inside all.outside) in
        let each = each_of_asked (in_node graph found.0) all.pos all.neg found.2 in
        record {
          e = found.0;
          is_element = found.1;
          agrees = λ id. elim (cases_Bool (nat_lt id.0 (length graph))) [
            | inl below ↦ all.agrees found.0 each.0 each.1 id (ltb-true id.0 (length graph) below)
            | inr not ↦ at_none found.0 id (ltb-false id.0 (length graph) not)
          ];
        }
      where
        at_none : (e : Thing) (id : NodeId) → length graph ≤ id.0 → SameAt e id
        at_none e id least = subst (λ form. (answer : Bool) → holds (at_formula (value_reader graph interfaces v)) form answer
            ↔ holds (reader graph e) form answer) (sym (beyond graph id.0 least)) (λ answer. (λ h. h, λ h. h))

  record FieldsIn (before : Option Name) (fields : Fields) : Type 0 where
    others : Fields
    rise : LabelsRise before others
    are : AreFields others
    stand : FieldsStandIn graph interfaces fields others

  -- a closure is in the type of all functions, and so is what agrees with it
  module _ (function : ℕ) (environment : Fields) (are : AreValues environment) where
    abbrev the_closure : Thing
    the_closure = thing.Closure function environment

    is_function : (e : Thing) → IsElement e → Agrees graph interfaces the_closure e → kind_of e ≡ AFunction
    is_function e element agrees = (functions_are more e element).0 (subst (λ graph. in_node graph e ARROW true) begins
        ((agrees ARROW true).0 (subst (λ graph. value_in_node graph interfaces the_closure ARROW true) (sym begins)
        ((function_values_are more (admits interfaces) the_closure are).1 refl))))

    closure_stands : HasArrows interfaces function → HasStandIn graph interfaces the_closure
    closure_stands has =
        let found = agreeing the_closure are
        (closure_decided graph more begins sound interfaces function has.0 has.1 environment) in
        by_kind found.e found.is_element found.agrees (is_function found.e found.is_element found.agrees)
      where
        by_kind : (e : Thing) → IsElement e → Agrees graph interfaces the_closure e → kind_of e ≡ AFunction
            → HasStandIn graph interfaces the_closure
        by_kind (thing.Function pairs) element agrees same = record {
          e = thing.Function pairs;
          is_element = element;
          stands = stand.closure function environment pairs agrees;
        }
        by_kind (thing.Closure other values) element agrees same = absurd element
        by_kind _ element agrees same = cc

  -- what stands in for an atom is an atom, and for a record a record
  still_atom : (v e : Thing) → StandsIn graph interfaces v e → IsAtom v → IsAtom e
  still_atom _ _ (stand.atom name) = λ atom. tt
  still_atom _ _ _ = λ atom. absurd atom

  still_record : (v e : Thing) → StandsIn graph interfaces v e → IsRecord v → IsRecord e
  still_record _ _ (stand.of_fields fields others stands) = λ is_record. tt
  still_record _ _ _ = λ is_record. absurd is_record

  mutual
    pub stand_in : (v : Thing) → IsValue v → HaveArrows interfaces v → HasStandIn graph interfaces v
    stand_in (thing.Integer n) = λ is have. record { e = thing.Integer n; is_element = is; stands = stand.integer n }
    stand_in (thing.Character c) = λ is have. record { e = thing.Character c; is_element = is; stands = stand.character c }
    stand_in (thing.Atom name) = λ is have. record { e = thing.Atom name; is_element = is; stands = stand.atom name }
    stand_in (thing.Pair v w) = λ is have.
        let d = stand_in v is.0 have.0 in
        let e = stand_in w is.1 have.1 in
        record {
          e = thing.Pair d.e e.e;
          is_element = (d.is_element, e.is_element);
          stands = stand.pair v w d.e e.e d.stands e.stands;
        }
    stand_in (thing.Xml tag attributes content) = λ is have.
        let d = stand_in tag is.2 have.0 in
        let e = stand_in attributes is.3 have.1 in
        let last = stand_in content is.4 have.2 in
        record {
          e = thing.Xml d.e e.e last.e;
          is_element = (
            still_atom tag d.e d.stands is.0,
            still_record attributes e.e e.stands is.1,
            d.is_element,
            e.is_element,
            last.is_element,
          );
          stands = stand.xml tag attributes content d.e e.e last.e d.stands e.stands last.stands;
        }
    stand_in (thing.Record fields) = λ is have.
        let all = fields_in fields None is.0 is.1 have in
        record {
          e = thing.Record all.others;
          is_element = (all.rise, all.are);
          stands = stand.of_fields fields all.others all.stand;
        }
    stand_in (thing.Function pairs) = λ is have. absurd is
    stand_in (thing.Closure function environment) = λ is have. closure_stands function environment is have

    fields_in : (fields : Fields) (before : Option Name) → LabelsRise before fields → AreValues fields
        → EachOfFields (HasArrows interfaces) fields → FieldsIn before fields
    fields_in NoField = λ before rise are have. record { others = NoField; rise = tt; are = tt; stand = stand.no_field }
    fields_in (Field label v rest) = λ before rise are have.
        let e = stand_in v are.1 have.0 in
        let all = fields_in rest (Some label) rise.1 are.2 have.1 in
        record {
          others = Field label e.e all.others;
          rise = (rise.0, all.rise);
          are = (are.0, e.is_element, all.are);
          stand = stand.field label v e.e rest all.others e.stands all.stand;
        }

  -- each value is in a node or outside it
  pub value_decided : (v : Thing) → IsValue v → HaveArrows interfaces v → (id : NodeId)
      → value_in_node graph interfaces v id true ⊎ value_in_node graph interfaces v id false
  value_decided v is have id =
      let found = stand_in v is have in
      let agrees = agree graph interfaces v found.e found.stands in
      elim (elements.in_or_outside graph found.e id) [
        | inl inside ↦ inl ((agrees id true).1 inside)
        | inr outside ↦ inr ((agrees id false).1 outside)
      ]
