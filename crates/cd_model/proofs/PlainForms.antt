-- What answers at formulas over the built-in nodes as another reader does, and what is made of parts that do.
use Rattle.std.proofs.Common.{◌≡◌, ◌<◌, Bool, true, false, List, [], ◌∷◌, ◌⊎◌, inl, inr, bytes_eq, if◌then◌else◌}
use Rattle.cd_sets.specs.declared.node_id.NodeId.{NodeId}
use Rattle.cd_syntax.specs.Name.{Name}
use Rattle.cd_model.specs.AllOf.{AllOf}
use Rattle.cd_model.specs.BuiltIns.{EMPTY, ANY}
use Rattle.cd_model.specs.Formula as formula
use Rattle.cd_model.specs.Formula.{Formula, Formulas, NoFormula, AFormula, Field, FormulaReader, holds, each_holds, one_holds}
use Rattle.cd_model.specs.Types.{Answers, Labelled, field_of, chosen}

-- a formula whose node numbers are of built-in nodes, and whose arrows are from nothing to anything
abbrev mutual
  pub IsPlain : Formula → Type 0
  IsPlain formula.Nothing = Unit {0}
  IsPlain formula.Everything = Unit {0}
  IsPlain (formula.Ints set) = Unit {0}
  IsPlain (formula.Chars set) = Unit {0}
  IsPlain (formula.Atoms set) = Unit {0}
  IsPlain (formula.Pair first second) = (first.0 < 14) × (second.0 < 14)
  IsPlain (formula.Xml tag attributes content) = (tag.0 < 14) × (attributes.0 < 14) × (content.0 < 14)
  IsPlain (formula.Record named rest) = AllOf (λ field. field.1.type.0 < 14) named × (rest.0 < 14)
  IsPlain (formula.Arrow argument result) = (argument ≡ EMPTY) × (result ≡ ANY)
  IsPlain (formula.And formulas) = ArePlain formulas
  IsPlain (formula.Or formulas) = ArePlain formulas
  IsPlain (formula.Not is) = IsPlain is

  pub ArePlain : Formulas → Type 0
  ArePlain NoFormula = Unit {0}
  ArePlain (AFormula is rest) = IsPlain is × ArePlain rest

-- whatever the one answers at a built-in node, at a plain formula and at a label, the other does
abbrev pub KeptAtNodes : Answers NodeId → Answers NodeId → Type 0
KeptAtNodes one other = (id : NodeId) → id.0 < 14 → (answer : Bool) → one id answer → other id answer

abbrev pub KeptAtForms : FormulaReader NodeId → FormulaReader NodeId → Type 0
KeptAtForms one other = (is : Formula) → IsPlain is → (answer : Bool) → one is answer → other is answer

abbrev pub KeptAtLabels : Labelled NodeId → Labelled NodeId → Type 0
KeptAtLabels one other = (label : Name) (field : Field) → field.type.0 < 14 → (answer : Bool)
    → one label field answer → other label field answer

module _ (one other : FormulaReader NodeId) (kept : KeptAtForms one other) where
  mutual
    pub holds_kept : (is : Formula) → IsPlain is → (answer : Bool) → holds one is answer → holds other is answer
    holds_kept formula.Nothing plain answer h = h
    holds_kept formula.Everything plain answer h = h
    holds_kept (formula.Ints set) plain answer h = kept (formula.Ints set) plain answer h
    holds_kept (formula.Chars set) plain answer h = kept (formula.Chars set) plain answer h
    holds_kept (formula.Atoms set) plain answer h = kept (formula.Atoms set) plain answer h
    holds_kept (formula.Pair first second) plain answer h = kept (formula.Pair first second) plain answer h
    holds_kept (formula.Xml tag attributes content) plain answer h =
        kept (formula.Xml tag attributes content) plain answer h
    holds_kept (formula.Record named rest) plain answer h = kept (formula.Record named rest) plain answer h
    holds_kept (formula.Arrow argument result) plain answer h = kept (formula.Arrow argument result) plain answer h
    holds_kept (formula.And formulas) plain true h = each_kept formulas plain true h
    holds_kept (formula.And formulas) plain false h = some_kept formulas plain false h
    holds_kept (formula.Or formulas) plain true h = some_kept formulas plain true h
    holds_kept (formula.Or formulas) plain false h = each_kept formulas plain false h
    holds_kept (formula.Not is) plain true h = holds_kept is plain false h
    holds_kept (formula.Not is) plain false h = holds_kept is plain true h

    each_kept : (formulas : Formulas) → ArePlain formulas → (answer : Bool)
        → each_holds one formulas answer → each_holds other formulas answer
    each_kept NoFormula plain answer h = h
    each_kept (AFormula is rest) plain answer h =
        (holds_kept is plain.0 answer h.0, each_kept rest plain.1 answer h.1)

    some_kept : (formulas : Formulas) → ArePlain formulas → (answer : Bool)
        → one_holds one formulas answer → one_holds other formulas answer
    some_kept NoFormula plain answer h = h
    some_kept (AFormula is rest) plain answer (inl here) = inl (holds_kept is plain.0 answer here)
    some_kept (AFormula is rest) plain answer (inr later) = inr (some_kept rest plain.1 answer later)

pub either_of : {A B C D : Type 0} → (A → B) → (C → D) → A ⊎ C → B ⊎ D
either_of first second (inl a) = inl (first a)
either_of first second (inr c) = inr (second c)

pub chosen_kept : (b : Bool) {A B C D : Type 0} → (A → B) → (C → D) → chosen b A C → chosen b B D
chosen_kept true first second h = first h
chosen_kept false first second h = second h

-- what a plain record type says of a label is of a built-in node
pub field_below : (named : List (Name × Field)) (rest : NodeId) → AllOf (λ field. field.1.type.0 < 14) named
    → rest.0 < 14 → (label : Name) → (field_of named rest label).type.0 < 14
field_below [] rest each below label = below
field_below (field ∷ named) rest each below label =
    by_name (bytes_eq field.0 label) (field_below named rest each.1 below label)
  where
    by_name : (same : Bool) → (field_of named rest label).type.0 < 14
        → (if◌then◌else◌ same field.1 (field_of named rest label)).type.0 < 14
    by_name true later = each.0
    by_name false later = later
