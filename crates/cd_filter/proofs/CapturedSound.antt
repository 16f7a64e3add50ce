-- What a variable captures from a thing of a sort is of the sort, where the constants are.
use Rattle.std.proofs.Common.{◌≡◌, ℕ, zero, suc, Bool, true, false, ◌||◌, List, [], ◌∷◌, inl, inr}
use Rattle.std.proofs.Common.{length, Option, Some, None, option_map, refl, ap, subst, ◌∙◌}
use Rattle.std.proofs.Common.{bytes_eq, eqb, if◌then◌else◌}
use Rattle.std.specs.List.{slice_get}
use Rattle.std.proofs.lemmas.Option.{none-some, same_Some}
use Rattle.cd_syntax.specs.Name.{Name}
use Rattle.cd_syntax.specs.declared.constant.Constant.{Constant}
use Rattle.cd_syntax.specs.declared.constant.Constant.TheVariants as constant
use Rattle.cd_model.specs.AllOf.{AllOf}
use Rattle.cd_model.specs.Thing as thing
use Rattle.cd_model.specs.Thing.{Thing, IsElement, IsValue}
use Rattle.cd_model.proofs.Sorts as sorts
use Rattle.cd_model.proofs.Sorts.{Sort}
use Rattle.cd_model.proofs.ByNumber.{all_got}
use Rattle.cd_matching.specs.Captures.{Captures, both, or_else, if_so}
use Rattle.cd_matching.specs.Kernel.{KernelNode, KernelField, Present, Optional, Test, Bind, Put}
use Rattle.cd_matching.specs.Kernel.{Pair, Xml, Record, Both, First, Gather, Taken, Apart, no_parts}
use Rattle.cd_matching.specs.Kernel.{on_pair, on_xml, on_record, on_field, on_fields, just, before}
use Rattle.cd_matching.specs.Kernel.{gathered, by_node, in_a_row, all_named, taken, taken_at}
use Rattle.cd_matching.specs.Kernel.{IsSoundNode}
use Rattle.cd_matching.specs.Sequences.{thing_of, text_of}
use Rattle.cd_matching.proofs.TakenCaptures.{both_some, or_else_some, if_some, just_some}
use Rattle.cd_matching.proofs.TakenCaptures.{if_so_nothing, option_map_some, gathered_some}

-- a constant is data
text_value : (text : List ℕ) → IsElement (text_of text) → IsValue (text_of text)
text_value [] is = is
text_value (c ∷ text) is = (is.0, text_value text is.1)

pub constant_value : (of : Constant) → IsElement (thing_of of) → IsValue (thing_of of)
constant_value (constant.Int n) is = is
constant_value (constant.Char c) is = is
constant_value (constant.Atom name) is = is
constant_value (constant.Text text) is = text_value text is
constant_value constant.Nil is = is

module _ (sort : Sort)
    (makes_pair : (d e : Thing) → sort.Of d → sort.Of e → sort.Of (thing.Pair d e))
    (of_constant : (of : Constant) → IsElement (thing_of of) → sort.Of (thing_of of)) (T : Type 0)
    (test : T → Thing → Bool) (nodes : List (KernelNode T)) (variables : ℕ) (IsType : T → Type 0)
    (sound_nodes : AllOf (IsSoundNode nodes variables IsType) nodes) (variable : ℕ) where
  -- what the variable captures, where this is answered
  abbrev IsSound : Option (Captures ℕ) → Type 0
  IsSound o = (captures : Captures ℕ) (what : Thing) → o ≡ Some captures
      → captures variable ≡ Some what → sort.Of what

  abbrev AreSound : Taken → Type 0
  AreSound takes = (number : ℕ) → IsSound (takes number)

  abbrev AreSoundAt : Option (Thing × Taken) → Type 0
  AreSoundAt None = Unit {0}
  AreSoundAt (Some one) = AreSound one.1

  none_sound : IsSound None
  none_sound captures what takes has = absurd (none-some captures takes)

  so_sound : (b : Bool) → IsSound (if_so b)
  so_sound b captures what takes has = absurd
      (none-some what (ap (λ (c : Captures ℕ). c variable) (if_so_nothing b captures takes) ∙ has))

  just_sound : (by : ℕ) (d : Thing) → sort.Of d → IsSound (Some (just by d))
  just_sound by d sound captures what takes has = subst sort.Of
      (just_some by variable d what (ap (λ (c : Captures ℕ). c variable)
      (same_Some (just by d) captures takes) ∙ has)).1 sound

  both_sound : (one other : Option (Captures ℕ)) → IsSound one → IsSound other
      → IsSound (both one other)
  both_sound one other sound_one sound_other captures what takes has =
      let parts = both_some one other captures takes in
      elim (or_else_some (parts.0 variable) (parts.1 variable) what
      (ap (λ (c : Captures ℕ). c variable) parts.4 ∙ has)) [
        | inl here ↦ sound_one parts.0 what parts.2 here
        | inr there ↦ sound_other parts.1 what parts.3 there.1
      ]

  or_sound : (one other : Option (Captures ℕ)) → IsSound one → IsSound other
      → IsSound (or_else one other)
  or_sound one other sound_one sound_other captures what takes has =
      elim (or_else_some one other captures takes) [
        | inl here ↦ sound_one captures what here has
        | inr there ↦ sound_other captures what there.1 has
      ]

  -- a node that takes things apart
  gather_sound : (by : ℕ) (d : Thing) (one other : Option (Captures ℕ)) → sort.Of d → IsSound one
      → IsSound other → IsSound (gathered by d one other)
  gather_sound by d one other sound sound_one sound_other captures what takes has =
      let parts = gathered_some by d one other captures takes in
      elim (or_else_some (parts.0 variable) (before by d parts.1 variable) what
      (ap (λ (c : Captures ℕ). c variable) parts.4 ∙ has)) [
        | inl here ↦ sound_one parts.0 what parts.2 here
        | inr there ↦ elim (if_some (eqb by variable)
            (option_map (thing.Pair d) (parts.1 variable)) (parts.1 variable) what there.1) [
              | inl made ↦
                  let rest = option_map_some (thing.Pair d) (parts.1 variable) what made.1 in
                  subst sort.Of rest.2
                  (makes_pair d rest.0 sound (sound_other parts.1 rest.0 parts.3 rest.1))
              | inr kept ↦ sound_other parts.1 what parts.3 kept.1
            ]
      ]

  pair_sound : (d : Thing) (one other : Taken) → sort.Of d → AreSound one → AreSound other
      → (node : KernelNode T) → IsSound (on_pair d one other node)
  pair_sound d one other sound sound_one sound_other (Pair p q) =
      both_sound (one p) (other q) (sound_one p) (sound_other q)
  pair_sound d one other sound sound_one sound_other (Gather by p q) =
      gather_sound by d (one p) (other q) sound (sound_one p) (sound_other q)
  pair_sound d one other sound sound_one sound_other _ = none_sound

  xml_sound : (tag attributes content : Taken) → AreSound tag → AreSound attributes
      → AreSound content → (node : KernelNode T) → IsSound (on_xml tag attributes content node)
  xml_sound tag attributes content one other last (Xml p q r) =
      both_sound (tag p) (both (attributes q) (content r)) (one p)
      (both_sound (attributes q) (content r) (other q) (last r))
  xml_sound tag attributes content one other last _ = none_sound

  field_sound : (o : Option (Thing × Taken)) → AreSoundAt o → (field : KernelField T)
      → IsSound (on_field T test nodes o field)
  field_sound None sound (Present number) = none_sound
  field_sound (Some one) sound (Present number) = sound number
  field_sound None sound (Optional type) = so_sound true
  field_sound (Some one) sound (Optional type) = so_sound (test type one.0)

  fields_sound : (at : Name → Option (Thing × Taken)) → ((label : Name) → AreSoundAt (at label))
      → (named : List (Name × KernelField T)) → IsSound (on_fields T test nodes at named)
  fields_sound at sound [] = so_sound true
  fields_sound at sound (field ∷ named) =
      both_sound (on_field T test nodes (at field.0) field.1) (on_fields T test nodes at named)
      (field_sound (at field.0) (sound field.0) field.1) (fields_sound at sound named)

  record_sound : (fields : thing.Fields) (at : Name → Option (Thing × Taken))
      → ((label : Name) → AreSoundAt (at label)) → (node : KernelNode T)
      → IsSound (on_record T test nodes fields at node)
  record_sound fields at sound (Record named more) =
      by_test (more || all_named named fields) (fields_sound at sound named)
    where
      by_test : (b : Bool) → IsSound (on_fields T test nodes at named)
          → IsSound (if b then on_fields T test nodes at named else None)
      by_test true further = further
      by_test false further = none_sound
  record_sound fields at sound _ = none_sound

  -- each node
  node_sound : (d : Thing) → sort.Of d → (apart : Apart T) → ((node : KernelNode T)
      → IsSound (apart node)) → (others : Taken) → AreSound others → (node : KernelNode T)
      → IsSoundNode nodes variables IsType node
      → IsSound (by_node T test nodes d apart others (Some node))
  node_sound d sound apart parts others sound_others (Test type) is = so_sound (test type d)
  node_sound d sound apart parts others sound_others (Bind by) is = just_sound by d sound
  node_sound d sound apart parts others sound_others (Put by constant) is =
      just_sound by (thing_of constant) (of_constant constant is.1)
  node_sound d sound apart parts others sound_others (Both p q) is =
      both_sound (others p) (others q) (sound_others p) (sound_others q)
  node_sound d sound apart parts others sound_others (First p q) is =
      or_sound (others p) (others q) (sound_others p) (sound_others q)
  node_sound d sound apart parts others sound_others (Pair p q) is = parts (Pair p q)
  node_sound d sound apart parts others sound_others (Gather by p q) is = parts (Gather by p q)
  node_sound d sound apart parts others sound_others (Xml p q r) is = parts (Xml p q r)
  node_sound d sound apart parts others sound_others (Record named more) is =
      parts (Record named more)

  some_sound : (d : Thing) → sort.Of d → (apart : Apart T)
      → ((node : KernelNode T) → IsSound (apart node)) → (others : Taken) → AreSound others
      → (number : ℕ) (node : Option (KernelNode T)) → slice_get nodes number ≡ node
      → IsSound (by_node T test nodes d apart others node)
  some_sound d sound apart parts others sound_others number None there = none_sound
  some_sound d sound apart parts others sound_others number (Some node) there =
      node_sound d sound apart parts others sound_others node
      (all_got (IsSoundNode nodes variables IsType) nodes number node sound_nodes there)

  row_sound : (d : Thing) → sort.Of d → (apart : Apart T)
      → ((node : KernelNode T) → IsSound (apart node)) → (steps : ℕ)
      → AreSound (in_a_row T test nodes d apart steps)
  row_sound d sound apart parts zero number = none_sound
  row_sound d sound apart parts (suc steps) number =
      some_sound d sound apart parts (in_a_row T test nodes d apart steps)
      (row_sound d sound apart parts steps) number (slice_get nodes number) refl

  at_or : (b : Bool) (one : Thing × Taken) (o : Option (Thing × Taken)) → AreSound one.1
      → AreSoundAt o → AreSoundAt (if b then Some one else o)
  at_or true one o sound further = sound
  at_or false one o sound further = further

  -- by recursion on things
  mutual
    pub captured_sound : (d : Thing) → sort.Of d → AreSound (taken T test nodes d)
    captured_sound (thing.Pair d e) sound = let parts = sort.pair d e sound in
        row_sound (thing.Pair d e) sound (on_pair d (taken T test nodes d) (taken T test nodes e))
        (pair_sound d (taken T test nodes d) (taken T test nodes e) parts.0
        (captured_sound d parts.0) (captured_sound e parts.1)) (length nodes)
    captured_sound (thing.Xml d e f) sound = let parts = sort.xml d e f sound in
        row_sound (thing.Xml d e f) sound
        (on_xml (taken T test nodes d) (taken T test nodes e) (taken T test nodes f))
        (xml_sound (taken T test nodes d) (taken T test nodes e) (taken T test nodes f)
        (captured_sound d parts.0) (captured_sound e parts.1) (captured_sound f parts.2))
        (length nodes)
    captured_sound (thing.Record fields) sound =
        row_sound (thing.Record fields) sound
        (on_record T test nodes fields (taken_at T test nodes fields))
        (record_sound fields (taken_at T test nodes fields)
        (fields_captured fields (sort.fields fields sound))) (length nodes)
    captured_sound (thing.Integer n) sound =
        row_sound (thing.Integer n) sound no_parts (λ node. none_sound) (length nodes)
    captured_sound (thing.Character c) sound =
        row_sound (thing.Character c) sound no_parts (λ node. none_sound) (length nodes)
    captured_sound (thing.Atom name) sound =
        row_sound (thing.Atom name) sound no_parts (λ node. none_sound) (length nodes)
    captured_sound (thing.Function pairs) sound =
        row_sound (thing.Function pairs) sound no_parts (λ node. none_sound) (length nodes)
    captured_sound (thing.Closure function environment) sound =
        row_sound (thing.Closure function environment) sound no_parts (λ node. none_sound)
        (length nodes)

    fields_captured : (fields : thing.Fields) → sort.OfFields fields → (label : Name)
        → AreSoundAt (taken_at T test nodes fields label)
    fields_captured thing.NoField sound label = tt
    fields_captured (thing.Field name d rest) sound label =
        let parts = sort.field name d rest sound in
        at_or (bytes_eq name label) (d, taken T test nodes d) (taken_at T test nodes rest label)
        (captured_sound d parts.0) (fields_captured rest parts.1 label)

-- of elements, and of values
module _ (T : Type 0) (test : T → Thing → Bool) (nodes : List (KernelNode T)) (variables : ℕ)
    (IsType : T → Type 0) (sound_nodes : AllOf (IsSoundNode nodes variables IsType) nodes)
    (variable : ℕ) where
  pub elements_captured : (e : Thing) → IsElement e → (number : ℕ) (captures : Captures ℕ)
      (what : Thing) → taken T test nodes e number ≡ Some captures
      → captures variable ≡ Some what → IsElement what
  elements_captured = captured_sound sorts.elements (λ d e one other. (one, other))
      (λ of is. is) T test nodes variables IsType sound_nodes variable

  pub values_captured : (v : Thing) → IsValue v → (number : ℕ) (captures : Captures ℕ)
      (what : Thing) → taken T test nodes v number ≡ Some captures
      → captures variable ≡ Some what → IsValue what
  values_captured = captured_sound sorts.values (λ d e one other. (one, other))
      constant_value T test nodes variables IsType sound_nodes variable
