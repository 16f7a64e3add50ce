-- What the built-in nodes hold, of elements and of values, whatever closures map.
use Rattle.std.proofs.Common.{◌≡◌, ℕ, ◌++◌, true, Option, Some, None, refl, inr, ◌↔◌, arith}
use Rattle.std.proofs.lemmas.Int.{ints}
use Rattle.cd_sets.specs.declared.node_id.NodeId.{NodeId}
use Rattle.cd_syntax.specs.Name.{Name}
use Rattle.cd_syntax.specs.declared.builtin.BuiltinName.TheVariants as builtin
use Rattle.cd_model.specs.BuiltIns.{built_ins, node_named, NIL}
use Rattle.cd_model.specs.Formula.{Graph, nodes}
use Rattle.cd_model.specs.Kinds.{kind_of, IsByte, IsBool, IsNil, IsString, IsSound, AreSound, ArePairsSound, AnInteger, ACharacter, AnAtom, APair, AnXml, ARecord, AFunction}
use Rattle.cd_model.specs.Thing.{Thing, Integer, Character, Atom, Pair, Xml, Record, Function, Closure, Fields, NoField, Field, Pairs, NoPair, Maps, Fails, IsAtom, IsData, AreData, LabelsRise, IsElement, AreFields, ArePairs, IsValue, AreValues}
use Rattle.cd_model.specs.Types.{Mapping, Admits, labelled, mapping, answers, no_closure, closure_maps}
use Rattle.cd_model.proofs.EachLabel.{at_each_label}
use Rattle.cd_model.proofs.RisingLabels.{nothing_more}
use Rattle.cd_model.proofs.BuiltInReaders.{character_is, byte_is, bool_is, nil_is, nil_in_string, pair_in_string, optional_in, by_parts}
use Rattle.cd_model.proofs.BuiltInReaders.{integer_in_data, character_in_data, atom_in_data, pair_in_data}
use Rattle.cd_model.proofs.BuiltInReaders.{xml_in_data, record_in_data, function_in_data}

-- elements and values are sound
mutual
  pub elements_are_sound : (is : Thing) → IsElement is → IsSound is
  elements_are_sound (Integer n) sound = sound
  elements_are_sound (Character c) sound = sound
  elements_are_sound (Atom name) sound = sound
  elements_are_sound (Pair first second) sound = (elements_are_sound first sound.0, elements_are_sound second sound.1)
  elements_are_sound (Xml tag attributes content) sound = (
    sound.0,
    sound.1,
    elements_are_sound tag sound.2,
    elements_are_sound attributes sound.3,
    elements_are_sound content sound.4,
  )
  elements_are_sound (Record fields) sound = (sound.0, element_fields fields sound.1)
  elements_are_sound (Function pairs) sound = element_pairs pairs sound
  elements_are_sound (Closure function environment) sound = absurd sound

  element_fields : (fields : Fields) → AreFields fields → AreSound fields
  element_fields NoField sound = tt
  element_fields (Field label value rest) sound = (elements_are_sound value sound.1, element_fields rest sound.2)

  element_pairs : (pairs : Pairs) → ArePairs pairs → ArePairsSound pairs
  element_pairs NoPair sound = tt
  element_pairs (Maps argument result rest) sound =
      (elements_are_sound argument sound.0, elements_are_sound result sound.1, element_pairs rest sound.2)
  element_pairs (Fails argument rest) sound = (elements_are_sound argument sound.0, element_pairs rest sound.1)

mutual
  pub values_are_sound : (is : Thing) → IsValue is → IsSound is
  values_are_sound (Integer n) sound = sound
  values_are_sound (Character c) sound = sound
  values_are_sound (Atom name) sound = sound
  values_are_sound (Pair first second) sound = (values_are_sound first sound.0, values_are_sound second sound.1)
  values_are_sound (Xml tag attributes content) sound = (
    sound.0,
    sound.1,
    values_are_sound tag sound.2,
    values_are_sound attributes sound.3,
    values_are_sound content sound.4,
  )
  values_are_sound (Record fields) sound = (sound.0, value_fields fields sound.1)
  values_are_sound (Function pairs) sound = absurd sound
  values_are_sound (Closure function environment) sound = tt

  value_fields : (fields : Fields) → AreValues fields → AreSound fields
  value_fields NoField sound = tt
  value_fields (Field label value rest) sound = (values_are_sound value sound.1, value_fields rest sound.2)

module _ (more : Graph) (closed : ℕ → Mapping NodeId) where
  abbrev graph : Graph
  graph = built_ins ++ more

  abbrev In : Thing → NodeId → Type 0
  In is id = answers (nodes graph) closed is id true

  pub nothing_is_empty : (is : Thing) → In is (node_named builtin.Empty) → ⊥
  nothing_is_empty is h = absurd cc

  pub all_are_any : (is : Thing) → In is (node_named builtin.Any)
  all_are_any is = refl

  pub integers_are : (is : Thing) → IsSound is → In is (node_named builtin.Int) ↔ (kind_of is ≡ AnInteger)
  integers_are (Integer n) sound = (λ h. refl, λ h. in_ints)
    where
      in_ints : In (Integer n) (node_named builtin.Int)
      in_ints = grind (arith, ints)
  integers_are _ sound = grind arith

  pub characters_are : (is : Thing) → IsSound is → In is (node_named builtin.Char) ↔ (kind_of is ≡ ACharacter)
  characters_are (Character c) sound = (λ h. refl, λ h. character_is c sound)
  characters_are _ sound = grind arith

  pub bytes_are : (is : Thing) → In is (node_named builtin.Byte) ↔ IsByte is
  bytes_are (Character c) = byte_is c
  bytes_are _ = grind arith

  pub atoms_are : (is : Thing) → In is (node_named builtin.Atom) ↔ (kind_of is ≡ AnAtom)
  atoms_are (Atom name) = (λ h. refl, λ h. refl)
  atoms_are _ = grind arith

  pub bools_are : (is : Thing) → In is (node_named builtin.Bool) ↔ IsBool is
  bools_are (Atom name) = bool_is name
  bools_are _ = grind arith

  pub nils_are : (is : Thing) → In is NIL ↔ IsNil is
  nils_are (Atom name) = nil_is name
  nils_are _ = grind arith

  pub pairs_are : (is : Thing) → In is (node_named builtin.Pair) ↔ (kind_of is ≡ APair)
  pairs_are (Pair first second) = (λ h. refl, λ h. (refl, refl))
  pairs_are _ = grind arith

  pub xmls_are : (is : Thing) → In is (node_named builtin.AnyXml) ↔ (kind_of is ≡ AnXml)
  xmls_are (Xml tag attributes content) = (λ h. refl, λ h. (refl, refl, refl))
  xmls_are _ = grind arith

  pub strings_are : (is : Thing) → IsSound is → In is (node_named builtin.String) ↔ IsString is
  strings_are (Pair first second) sound = pair_in_string
      (answers (nodes graph) closed first) (answers (nodes graph) closed second)
      (characters_are first sound.0) (strings_are second sound.1)
  strings_are (Atom name) sound = nil_in_string name
  strings_are _ sound = grind arith

  -- whatever is at a label, it may be there
  any_labelled : (fields : Fields) (label : Name) → labelled (nodes graph) closed fields label (optional_in (node_named builtin.Any)) true
  any_labelled NoField = λ label. refl
  any_labelled (Field name is rest) =
      let others = any_labelled rest in
      (at_each_label name (In is (node_named builtin.Any)) (labelled (nodes graph) closed rest)
      (optional_in (node_named builtin.Any)) (others name)).1 (refl, others)

  pub records_are : (is : Thing) → In is (node_named builtin.Record) ↔ (kind_of is ≡ ARecord)
  records_are (Record fields) = (λ h. refl, λ h. any_labelled fields)
  records_are _ = grind arith

  -- nothing is in the empty type, and all in any
  pub all_map : (pairs : Pairs) → mapping (nodes graph) closed pairs (node_named builtin.Empty) (node_named builtin.Any) true
  all_map NoPair = refl
  all_map (Maps from to rest) = (inr refl, all_map rest)
  all_map (Fails from rest) = (refl, all_map rest)

  tag_is : (is : Thing) → IsAtom is → In is (node_named builtin.Atom) ↔ IsData is
  tag_is (Atom name) atom = (λ h. tt, λ h. refl)
  tag_is _ atom = absurd atom

  mutual
    pub data_are : (is : Thing) → IsSound is → In is (node_named builtin.Data) ↔ IsData is
    data_are (Integer n) sound = (λ h. tt, λ h. integer_in_data n sound)
    data_are (Character c) sound = (λ h. tt, λ h. character_in_data c sound)
    data_are (Atom name) sound = (λ h. tt, λ h. atom_in_data name)
    data_are (Pair first second) sound = pair_in_data
        (answers (nodes graph) closed first) (answers (nodes graph) closed second) (data_are first sound.0) (data_are second sound.1)
    data_are (Xml tag attributes content) sound =
        xml_in_data (answers (nodes graph) closed tag) (answers (nodes graph) closed attributes) (answers (nodes graph) closed content)
        (tag_is tag sound.0) (data_are attributes sound.3) (data_are content sound.4)
    data_are (Record fields) sound =
        record_in_data (labelled (nodes graph) closed fields) (fields_are fields None sound.0 sound.1)
    data_are (Function pairs) sound = function_in_data (mapping (nodes graph) closed pairs)
    data_are (Closure function environment) sound = function_in_data (closed function)

    fields_are : (fields : Fields) (before : Option Name) → LabelsRise before fields → AreSound fields
        → ((label : Name) → labelled (nodes graph) closed fields label (optional_in (node_named builtin.Data)) true) ↔ AreData fields
    fields_are NoField before rise sound = (λ each. tt, λ are label. refl)
    fields_are (Field name is rest) before rise sound =
        let none = nothing_more (nodes graph) closed rest name (optional_in (node_named builtin.Data)) true rise.1 refl in
        let each = at_each_label name (In is (node_named builtin.Data)) (labelled (nodes graph) closed rest)
        (optional_in (node_named builtin.Data)) none in
        by_parts each (data_are is sound.0) (fields_are rest (Some name) rise.1 sound.1)

-- a function element, and a closure, maps from nothing to anything
pub functions_are : (more : Graph) (is : Thing) → IsElement is
    → answers (nodes (built_ins ++ more)) no_closure is (node_named builtin.Arrow) true ↔ (kind_of is ≡ AFunction)
functions_are more (Function pairs) sound = (λ h. refl, λ h. all_map more no_closure pairs)
functions_are more (Closure function environment) sound = absurd sound
functions_are more _ sound = grind arith

pub function_values_are : (more : Graph) (admits : Admits) (is : Thing) → IsValue is
    → answers (nodes (built_ins ++ more)) (closure_maps (nodes (built_ins ++ more)) admits) is (node_named builtin.Arrow) true
    ↔ (kind_of is ≡ AFunction)
function_values_are more admits (Closure function environment) sound =
    (λ h. refl, λ h pairs element admitted. all_map more no_closure pairs)
function_values_are more admits (Function pairs) sound = absurd sound
function_values_are more admits _ sound = grind arith
