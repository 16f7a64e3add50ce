-- The fields of a record node, whose labels rise: what the record type of its formula says at each
-- label.
use Rattle.std.proofs.Common.{◌≡◌, ℕ, Bool, true, false, ◌||◌, List, [], ◌∷◌, Option, Some}
use Rattle.std.proofs.Common.{refl, sym, ap, subst, ◌∙◌, bytes_eq, if◌then◌else◌, inl, inr}
use Rattle.std.specs.Ordering.{nat_cmp, is_eq}
use Rattle.std.specs.Cmp.Lexicographic.{slice_cmp}
use Rattle.std.specs.declared.cmp.Ordering.TheVariants.{Less}
use Rattle.std.proofs.lemmas.Bool.{true≢false}
use Rattle.std.proofs.lemmas.Cmp.{nat_list_cmp_total}
use Rattle.std.proofs.lemmas.Map.Text.{is_eq-slice_cmp}
use Rattle.std.proofs.lemmas.Slice.Eq.{bytes_eq-Decides}
use Rattle.cd_sets.specs.declared.node_id.NodeId.{NodeId}
use Rattle.cd_syntax.specs.Name.{Name}
use Rattle.cd_model.specs.AllOf.{AllOf, AnyOf}
use Rattle.cd_model.specs.Types.{field_of as type_field}
use Rattle.cd_model.specs.Formula.{AreRisingLabels}
use Rattle.cd_model.proofs.Ones.{each_weaker}
use Rattle.cd_matching.specs.Kernel.{KernelField, Present, Optional, field_nodes}
use Rattle.cd_matching.specs.Kernel.{optional_types, is_named}
use Rattle.cd_filter.specs.Accepting.{field_of, fields_of}

pub same_names : (a b : Name) → bytes_eq a b ≡ true → a ≡ b
same_names a b h = (bytes_eq-Decides a b).0 h

pub name_itself : (a : Name) → bytes_eq a a ≡ true
name_itself a = (bytes_eq-Decides a a).1 refl

neither : (b c : Bool) → (b || c) ≡ false → (b ≡ false) × (c ≡ false)
neither true c h = absurd (true≢false h)
neither false c h = (refl, h)

abbrev Named : Type 0
Named = List (Name × KernelField NodeId)

-- the nodes and the types of the first field, and of the others
pub split_nodes : (label : Name) (field : KernelField NodeId) (named : Named) (P : ℕ → Type 0)
    → AllOf P (field_nodes ((label, field) ∷ named))
    → AllOf P (field_nodes ((label, field) ∷ [])) × AllOf P (field_nodes named)
split_nodes label (Present number) named P all = ((all.0, tt), all.1)
split_nodes label (Optional id) named P all = (tt, all)

pub split_types : (label : Name) (field : KernelField NodeId) (named : Named) (P : NodeId → Type 0)
    → AllOf P (optional_types ((label, field) ∷ named))
    → AllOf P (optional_types ((label, field) ∷ [])) × AllOf P (optional_types named)
split_types label (Present number) named P all = (tt, all)
split_types label (Optional id) named P all = ((all.0, tt), all.1)

pub both_of_all : {A : Type 0} (P Q R : A → Type 0) → ((x : A) → P x → Q x → R x) → (xs : List A)
    → AllOf P xs → AllOf Q xs → AllOf R xs
both_of_all P Q R on [] one other = tt
both_of_all P Q R on (x ∷ xs) one other =
    (on x one.0 other.0, both_of_all P Q R on xs one.1 other.1)

pub any_of_all : {A : Type 0} (P Q : A → Type 0) (C : Type 0) → ((x : A) → P x → Q x → C)
    → (xs : List A) → AnyOf P xs → AllOf Q xs → C
any_of_all P Q C on [] one all = absurd one
any_of_all P Q C on (x ∷ xs) (inl here) all = on x here all.0
any_of_all P Q C on (x ∷ xs) (inr later) all = any_of_all P Q C on xs later all.1

-- labels that rise stand once
less_all : (before : Name) (named : Named) → AreRisingLabels (Some before) named
    → AllOf (λ field. slice_cmp nat_cmp before field.0 ≡ Less) named
less_all before [] rises = tt
less_all before (field ∷ named) rises = (
  rises.1,
  each_weaker (λ other. slice_cmp nat_cmp field.0 other.0 ≡ Less)
      (λ other. slice_cmp nat_cmp before other.0 ≡ Less)
      (λ other less. nat_list_cmp_total.trans before field.0 other.0 rises.1 less) named
      (less_all field.0 named rises.2),
)

above_all : (before : Name) (named : Named) → AreRisingLabels (Some before) named
    → AllOf (λ field. bytes_eq before field.0 ≡ false) named
above_all before named rises = each_weaker (λ field. slice_cmp nat_cmp before field.0 ≡ Less)
    (λ field. bytes_eq before field.0 ≡ false)
    (λ field less. sym (is_eq-slice_cmp before field.0) ∙ ap is_eq less) named
    (less_all before named rises)

-- so the record type says at a label what the field there says
module _ (first : ℕ) (rest : NodeId) where
  abbrev pub Says : Named → Name × KernelField NodeId → Type 0
  Says named field = type_field (fields_of first named) rest field.0 ≡ field_of first field.1

  pub says_each : (named : Named) (before : Option Name) → AreRisingLabels before named
      → AllOf (Says named) named
  says_each [] before rises = tt
  says_each (field ∷ named) before rises = (
    ap (λ (b : Bool). if b then field_of first field.1
        else type_field (fields_of first named) rest field.0) (name_itself field.0),
    both_of_all (λ other. bytes_eq field.0 other.0 ≡ false) (Says named) (Says (field ∷ named))
        (λ other differs says. ap (λ (b : Bool). if b then field_of first field.1
        else type_field (fields_of first named) rest other.0) differs ∙ says) named
        (above_all field.0 named rises.2) (says_each named (Some field.0) rises.2),
  )

  -- and what it says of all others where no field is
  pub says_rest : (named : Named) (label : Name) → is_named named label ≡ false
      → type_field (fields_of first named) rest label ≡ record { optional = true; type = rest }
  says_rest [] label h = refl
  says_rest (field ∷ named) label h = let parts = neither (bytes_eq field.0 label) _ h in
      ap (λ (b : Bool). if b then field_of first field.1
      else type_field (fields_of first named) rest label) parts.0 ∙ says_rest named label parts.1

-- a fact of the label of each field, at a label that is named
pub at_named : (P : Name → Type 0) (named : Named) (label : Name) → is_named named label ≡ true
    → AllOf (λ field. P field.0) named → P label
at_named P [] label h all = absurd (true≢false (sym h))
at_named P (field ∷ named) label h all = by_test (bytes_eq field.0 label) refl
    (λ later. at_named P named label later all.1) h
  where
    by_test : (b : Bool) → bytes_eq field.0 label ≡ b → (is_named named label ≡ true → P label)
        → (b || is_named named label) ≡ true → P label
    by_test true same further h = subst P (same_names field.0 label same) all.0
    by_test false same further h = further h
