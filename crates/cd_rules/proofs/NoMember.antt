-- No element and no value is in a question that a closed family subsumes, by recursion on things
-- whose closures are out of it.
use Rattle.std.proofs.Common.{◌≡◌, ℕ, ℤ, true, false, List, [], ◌∷◌, ◌++◌, map, inl, inr, refl, sym, subst}
use Rattle.std.proofs.lemmas.Bool.{true≢false}
use Rattle.std.specs.Char.{IsScalar}
use Rattle.cd_sets.specs.declared.question.Question.{Question}
use Rattle.cd_syntax.specs.Integer.{IsInteger}
use Rattle.cd_syntax.specs.Name.{Name, IsLabel}
use Rattle.cd_sets.specs.declared.node_id.NodeId.{NodeId}
use Rattle.cd_model.specs.Formula.{Graph, nodes, at_formula}
use Rattle.cd_model.specs.Interfaces.{Interfaces}
use Rattle.cd_model.specs.Types.{Answers as AnswersOf, Items, pair_at, with_sequences, no_closure}
use Rattle.cd_model.specs.Thing as thing
use Rattle.cd_model.specs.Thing.{Thing, IsElement, IsValue, EachClosure, EachOfFields, EachOfPairs}
use Rattle.cd_model.specs.BuiltIns.{built_ins, ATOM, RECORD}
use Rattle.cd_model.specs.AllOf.{AllOf, AnyOf}
use Rattle.cd_model.specs.Kinds.{IsSound, AreSound, ArePairsSound}
use Rattle.cd_model.specs.Membership as node
use Rattle.cd_model.specs.Membership.{Reader, Mapping, asked, answers, value_answers, at_nodes, function_reader}
use Rattle.cd_model.proofs.Apart.{ApartAtArrows, answers_apart}
use Rattle.cd_model.proofs.ApartAtNodes.{nodes_keep}
use Rattle.cd_model.proofs.Regulars.{Apart}
use Rattle.cd_model.proofs.BuiltIns.{records_are, elements_are_sound, values_are_sound}
use Rattle.cd_model.proofs.Closures.{every_closure, none_in_element}
use Rattle.cd_model.proofs.NoSequences.{no_sequences}
use Rattle.cd_rules.specs.Dnf.{dnf_of}
use Rattle.cd_rules.specs.Clauses.{Clause, Ints, Chars, Atoms, Arrows, Pair, IsClauseOfQuestion, parts_in, integers_of, characters_of, atoms_of, arrow_of}
use Rattle.cd_rules.specs.Needs.{arrow_way, splits}
use Rattle.cd_rules.specs.Family.{RefutesNeed, Refutes, IsClosed}
use Rattle.cd_rules.proofs.DnfExact.{question_exact}
use Rattle.cd_rules.proofs.ClauseOf.{in_integers, in_characters, in_atoms, in_arrows, kind_of_integer, kind_of_character, kind_of_function, kind_of_element}
use Rattle.cd_rules.proofs.ArrowsForward.{IsInArrow, PartsHave, arrows_forward, closure_forward}
use Rattle.cd_rules.proofs.RecordsOfThings.{FieldsHave, record_has}
use Rattle.cd_rules.proofs.Subsumption.{asked_less, contradicts_none, of_subsumed}
use Rattle.cd_model.proofs.Ones.{each_weaker}
use Rattle.cd_rules.proofs.Refuted.{IsRefuted, refuted_one, IsOut, AskedOut, need_out, member_out, pair_out, xml_out, record_out}
use Rattle.cd_rules.proofs.Things.{answers_of, labelled_of, mapping_of}

-- a function that is in some arrows is not outside another one whose need is refuted
abbrev RefutesNone : List Question → Mapping → Type 0
RefutesNone family maps = (wanted : List Pair) (refused : Pair) → AllOf (IsInArrow maps) wanted → maps refused.0 refused.1 false
    → RefutesNeed family (map (arrow_way refused) (splits wanted)) → ⊥

-- so it is in no question that is refuted
arrows_out : (family : List Question) (maps : Mapping) → RefutesNone family maps → IsRefuted family (function_reader maps) → ⊥
arrows_out family maps none refuted =
    let in_clause = in_arrows (function_reader maps) (kind_of_function maps) refuted.conjunct refuted.meets in
    let wanted = parts_in arrow_of true refuted.conjunct in
    let refused = parts_in arrow_of false refuted.conjunct in
    let needs = refuted.refutes (Arrows wanted refused) in_clause.0 in
    by_refused wanted refused in_clause.1 in_clause.2 (subst (AnyOf (RefutesNeed family)) needs.1 needs.2)
  where
    by_refused : (wanted refused : List Pair) → AllOf (IsInArrow maps) wanted
        → AllOf (λ parts. maps parts.0 parts.1 false) refused
        → AnyOf (RefutesNeed family) (map (λ one. map (arrow_way one) (splits wanted)) refused) → ⊥
    by_refused wanted [] inside outside one = elim one [ ]
    by_refused wanted (one ∷ refused) inside outside (inl refutes) = none wanted one inside outside.0 refutes
    by_refused wanted (one ∷ refused) inside outside (inr later) = by_refused wanted refused inside outside.1 later

-- a tag is an atom, and attributes are a record
module _ (graph : Graph) (begins : (more : Graph) × (graph ≡ built_ins ++ more)) (closed : ℕ → Mapping) where
  pub tag_in : (is : Thing) → thing.IsAtom is → answers_of graph closed is ATOM true
  tag_in (thing.Atom name) atom = rw begins.1 refl
  tag_in _ atom = absurd atom

  pub attributes_in : (is : Thing) → thing.IsRecord is → answers_of graph closed is RECORD true
  attributes_in (thing.Record fields) fields_are = subst (λ graph. answers_of graph closed (thing.Record fields) RECORD true)
      (sym begins.1) ((records_are begins.0 closed (thing.Record fields)).1 refl)
  attributes_in _ fields_are = absurd fields_are

module _ (graph : Graph) (begins : (more : Graph) × (graph ≡ built_ins ++ more)) (family : List Question)
    (is_closed : IsClosed graph family) where
  -- A thing in a question of the family meets a conjunct whose clauses are all refuted. So where
  -- there are none such, it is in no question of the family, and in none that is subsumed by one
  refuted_of : (reader : Reader) → Apart (at_nodes graph reader) → (IsRefuted family reader → ⊥) → AskedOut family (at_nodes graph reader)
  refuted_of reader apart out question is subsumed = of_subsumed IsNotAsked family question
      (λ other asks none is. none (asked_less (at_nodes graph reader) question other asks is))
      (contradicts_none (at_nodes graph reader) apart question)
      (each_weaker (λ question. (clause : Clause) → IsClauseOfQuestion graph question clause → Refutes family clause) IsNotAsked
      (λ question refutes is. out (refuted_one family reader (dnf_of graph question) ((question_exact reader graph question).0 is) refutes))
      family is_closed) subsumed is
    where
      IsNotAsked : Question → Type 0
      IsNotAsked question = asked (at_nodes graph reader) question true → ⊥

  -- integers, characters, atoms and pairs
  integer_out : (n : ℤ) → IsInteger n → IsRefuted family (node.integer_reader n) → ⊥
  integer_out n is refuted =
      let in_clause = in_integers (node.integer_reader n) (kind_of_integer n) refuted.conjunct refuted.meets in
      let needs = refuted.refutes (Ints (parts_in integers_of true refuted.conjunct) (parts_in integers_of false refuted.conjunct)) in_clause.0 in
      member_out family _ n (is, in_clause.1, in_clause.2) needs.0 needs.1 needs.2

  character_out : (c : ℕ) → IsScalar c → IsRefuted family (node.character_reader c) → ⊥
  character_out c is refuted =
      let in_clause = in_characters (node.character_reader c) (kind_of_character c) refuted.conjunct refuted.meets in
      let needs = refuted.refutes (Chars (parts_in characters_of true refuted.conjunct) (parts_in characters_of false refuted.conjunct)) in_clause.0 in
      member_out family _ c (is, in_clause.1, in_clause.2) needs.0 needs.1 needs.2

  atom_out : (name : Name) → IsLabel name → IsRefuted family (node.reader graph (thing.Atom name)) → ⊥
  atom_out name is refuted =
      let in_clause = in_atoms (node.reader graph (thing.Atom name)) (kind_of_element graph (thing.Atom name)) refuted.conjunct refuted.meets in
      let needs = refuted.refutes (Atoms (parts_in atoms_of true refuted.conjunct) (parts_in atoms_of false refuted.conjunct)) in_clause.0 in
      member_out family _ name (is, in_clause.1, in_clause.2) needs.0 needs.1 needs.2

  of_pair : (all : Items (AnswersOf NodeId)) (first second : AnswersOf NodeId)
      → Apart (at_nodes graph (at_formula (with_sequences all (pair_at first second)))) → AskedOut family first → AskedOut family second
      → AskedOut family (at_nodes graph (at_formula (with_sequences all (pair_at first second))))
  of_pair all first second apart is_first is_second = subst (λ reader. AskedOut family (at_nodes graph reader))
      (sym (no_sequences all (pair_at first second)))
      (refuted_of (node.pair_reader first second)
      (subst (λ reader. Apart (at_nodes graph reader)) (no_sequences all (pair_at first second)) apart)
      (pair_out family first second is_first is_second))

  -- things that are sound, whose closures are of functions that are known to break no need
  module _ (closed : ℕ → Mapping) (closed_apart : (function : ℕ) → ApartAtArrows (closed function)) (Known : ℕ → Type 0)
      (closures : (function : ℕ) → Known function → RefutesNone family (closed function)) where
    apart : (is : Thing) → Apart (answers_of graph closed is)
    apart = answers_apart (nodes graph) (nodes_keep graph) closed closed_apart

    mutual
      pub thing_out : (is : Thing) → IsSound is → EachClosure Known is → AskedOut family (answers_of graph closed is)
      thing_out (thing.Integer n) sound known = refuted_of (node.integer_reader n) (apart (thing.Integer n)) (integer_out n sound)
      thing_out (thing.Character c) sound known = refuted_of (node.character_reader c) (apart (thing.Character c)) (character_out c sound)
      thing_out (thing.Atom name) sound known = refuted_of (node.reader graph (thing.Atom name)) (apart (thing.Atom name)) (atom_out name sound)
      thing_out (thing.Pair first second) sound known = of_pair _ (answers_of graph closed first) (answers_of graph closed second) (apart (thing.Pair first second))
          (thing_out first sound.0 known.0) (thing_out second sound.1 known.1)
      thing_out (thing.Xml tag attributes content) sound known = refuted_of _ (apart (thing.Xml tag attributes content))
          (xml_out family (answers_of graph closed tag) (answers_of graph closed attributes) (answers_of graph closed content)
          (thing_out tag sound.2 known.0) (thing_out attributes sound.3 known.1) (thing_out content sound.4 known.2)
          (tag_in graph begins closed tag sound.0) (attributes_in graph begins closed attributes sound.1))
      thing_out (thing.Record fields) sound known = refuted_of _ (apart (thing.Record fields))
          (record_out family (labelled_of graph closed fields)
          (record_has graph closed (IsOut family) fields (fields_out fields sound.1 known)))
      thing_out (thing.Function pairs) sound known = refuted_of _ (apart (thing.Function pairs))
          (arrows_out family (mapping_of graph closed pairs)
          (λ wanted refused inside outside. need_out family (map (arrow_way refused) (splits wanted))
          (arrows_forward graph closed (IsOut family) pairs (pairs_out pairs sound known) wanted refused inside outside)))
      thing_out (thing.Closure function environment) sound known =
          refuted_of (function_reader (closed function)) (apart (thing.Closure function environment)) (arrows_out family (closed function) (closures function known))

      fields_out : (fields : thing.Fields) → AreSound fields → EachOfFields Known fields → FieldsHave graph closed (IsOut family) fields
      fields_out thing.NoField sound known = tt
      fields_out (thing.Field name is rest) sound known = (thing_out is sound.0 known.0, fields_out rest sound.1 known.1)

      pairs_out : (pairs : thing.Pairs) → ArePairsSound pairs → EachOfPairs Known pairs → PartsHave graph closed (IsOut family) pairs
      pairs_out thing.NoPair sound known = tt
      pairs_out (thing.Maps from to rest) sound known =
          (thing_out from sound.0 known.0, thing_out to sound.1 known.1, pairs_out rest sound.2 known.2)
      pairs_out (thing.Fails from rest) sound known = (thing_out from sound.0 known.0, pairs_out rest sound.1 known.1)

  -- an element has no closure
  pub element_out : (is : Thing) → IsElement is → AskedOut family (answers graph is)
  element_out is element = thing_out no_closure (λ function argument result is out. true≢false is) (λ function. ⊥) (λ function none. absurd none) is
      (elements_are_sound is element) (none_in_element (λ function. ⊥) is element)

  -- those of a value break no need, since all function elements that they admit are out
  pub value_out : (interfaces : Interfaces) (is : Thing) → IsValue is → AskedOut family (value_answers graph interfaces is)
  value_out interfaces is value = thing_out (node.closure_mapping graph interfaces) (λ function argument result is out. out is) (λ function. Unit {0})
      (λ function known wanted refused inside outside refutes.
      closure_forward graph interfaces function (IsOut family) element_out wanted refused inside outside
      (λ way. need_out family (map (arrow_way refused) (splits wanted)) way refutes))
      is (values_are_sound is value) (every_closure (λ function. Unit {0}) (λ function. tt) is)
