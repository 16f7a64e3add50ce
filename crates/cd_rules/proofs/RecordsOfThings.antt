-- What a record has at each label.
use Rattle.std.proofs.Common.{◌≡◌, ℕ, Bool, true, false, bytes_eq, ◌⊎◌, inl, inr}
use Rattle.std.proofs.lemmas.Bool.{cases_Bool}
use Rattle.cd_sets.specs.declared.question.Question.{Question}
use Rattle.cd_syntax.specs.Name.{Name}
use Rattle.cd_model.specs.Thing.{Fields, NoField, Field}
use Rattle.cd_model.specs.Formula.{Graph}
use Rattle.cd_model.specs.Membership.{Answers, Labelled, Mapping, either, absent}
use Rattle.cd_rules.proofs.RecordsForward.{HasAt, HasNothing, HasValue}
use Rattle.cd_rules.proofs.Things.{IsAskedFact, answers_of, labelled_of}

-- what a test chooses where it holds, and where it fails
the_one : (test : Bool) (one other : Type 0) → test ≡ true → either test one other → one
the_one true one other is h = h
the_one false one other is h = absurd cc

the_other : (test : Bool) (one other : Type 0) → test ≡ false → either test one other → other
the_other true one other is h = absurd cc
the_other false one other is h = h

-- a record that answers so at one label as a thing does, and at the others as a record
abbrev pub with_field : Name → Answers → Labelled → Labelled
with_field name is others label field answer =
    either (bytes_eq name label) (is field.type answer) (others label field answer)

module _ (Fact : Question → Type 0) where
  -- a record without fields has nothing
  pub nothing_has : (label : Name) → HasAt (λ label. absent) Fact label
  nothing_has label = HasNothing (λ field answer is. is)

  -- a record has the value of its first field, or what the others have
  pub field_has : (name : Name) (is : Answers) (others : Labelled) → IsAskedFact Fact is
      → (label : Name) → HasAt others Fact label → HasAt (with_field name is others) Fact label
  field_has name is others asked_so label later = by_name (cases_Bool (bytes_eq name label)) later
    where
      by_name : (bytes_eq name label ≡ true) ⊎ (bytes_eq name label ≡ false) → HasAt others Fact label
          → HasAt (with_field name is others) Fact label
      by_name (inl same) has = HasValue is (λ field answer here.
          the_one (bytes_eq name label) (is field.type answer) (others label field answer) same here) asked_so
      by_name (inr differ) (HasNothing free) = HasNothing (λ field answer here. free field answer
          (the_other (bytes_eq name label) (is field.type answer) (others label field answer) differ here))
      by_name (inr differ) (HasValue these right others_asked) = HasValue these (λ field answer here. right field answer
          (the_other (bytes_eq name label) (is field.type answer) (others label field answer) differ here)) others_asked

module _ (graph : Graph) (closed : ℕ → Mapping) (Fact : Question → Type 0) where
  -- what the value of each field is asked has the fact
  abbrev pub FieldsHave : Fields → Type 0
  FieldsHave NoField = Unit {0}
  FieldsHave (Field name is rest) = IsAskedFact Fact (answers_of graph closed is) × FieldsHave rest

  pub record_has : (fields : Fields) → FieldsHave fields → (label : Name) → HasAt (labelled_of graph closed fields) Fact label
  record_has NoField each label = nothing_has Fact label
  record_has (Field name is rest) each label = field_has Fact name (answers_of graph closed is) (labelled_of graph closed rest)
      each.0 label (record_has rest each.1 label)
