-- Fields in the order of their labels say of each label what they do in the order in which they are written.
use Rattle.std.proofs.Common.{◌≡◌, Bool, true, false, List, [], ◌∷◌, ◌⊎◌, inl, inr, Option, Some, None}
use Rattle.std.proofs.Common.{refl, sym, ◌∙◌, ap, bytes_eq, if◌then◌else◌, nat_cmp, is_eq}
use Rattle.std.proofs.lemmas.Bool.{cases_Bool}
use Rattle.std.proofs.lemmas.Cmp.{nat_list_cmp_total}
use Rattle.std.proofs.lemmas.Map.Text.{is_eq-slice_cmp}
use Rattle.std.proofs.lemmas.Slice.Eq.{bytes_eq-Decides}
use Rattle.std.specs.Cmp.Lexicographic.{slice_cmp}
use Rattle.std.specs.Ordering.{ordering_reverse}
use Rattle.std.specs.declared.cmp.Ordering.{Ordering}
use Rattle.std.specs.declared.cmp.Ordering.TheVariants.{Less, Equal, Greater}
use Rattle.cd_sets.specs.declared.node_id.NodeId.{NodeId}
use Rattle.cd_syntax.specs.Name.{Name, IsAbove}
use Rattle.cd_model.specs.Formula.{Field, field_of}
use Rattle.cd_resolve.specs.Inner.Leaves.{by_order, inserted, sorted_after, sorted}

abbrev pub Named : Type 0
Named = List (Name × Field)

-- what the first field with a label has
abbrev found : Named → Name → Option Field
found [] label = None
found (field ∷ rest) label = if bytes_eq field.0 label then Some field.1 else found rest label

-- the one, if there is one, else the other
abbrev or_other : Option Field → Option Field → Option Field
or_other (Some first) other = Some first
or_other None other = other

-- what is found first does not depend on how three are put together, and nothing more changes nothing
or_other_twice : (first second third : Option Field)
    → or_other (or_other first second) third ≡ or_other first (or_other second third)
or_other_twice (Some first) second third = refl
or_other_twice None second third = refl

none_more : (first : Option Field) → first ≡ or_other first None
none_more (Some first) = refl
none_more None = refl

-- a field and others behind it
found_first : (field : Name × Field) (rest : Named) (label : Name)
    → found (field ∷ rest) label ≡ or_other (found (field ∷ []) label) (found rest label)
found_first field rest label = by_name (bytes_eq field.0 label)
  where
    by_name : (b : Bool) → (if b then Some field.1 else found rest label)
        ≡ or_other (if b then Some field.1 else None) (found rest label)
    by_name true = refl
    by_name false = refl

-- the labels rise strictly
abbrev Rises : Option Name → Named → Type 0
Rises before [] = Unit {0}
Rises before (field ∷ rest) = IsAbove before field.0 × Rises (Some field.0) rest

-- two labels by how they compare
above_differs : (before label : Name) → slice_cmp nat_cmp before label ≡ Less → bytes_eq label before ≡ false
above_differs before label above =
    sym (is_eq-slice_cmp label before) ∙ ap is_eq (nat_list_cmp_total.antisymm label before ∙ ap ordering_reverse above)

equal_is : (one other : Name) → slice_cmp nat_cmp one other ≡ Equal → one ≡ other
equal_is one other equal = (bytes_eq-Decides one other).0 (sym (is_eq-slice_cmp one other) ∙ ap is_eq equal)

greater_below : (one other : Name) → slice_cmp nat_cmp one other ≡ Greater → slice_cmp nat_cmp other one ≡ Less
greater_below one other greater = nat_list_cmp_total.antisymm other one ∙ ap ordering_reverse greater

-- labels that rise from one that is above another rise from that one too
rises_sooner : (before label : Name) (fields : Named) → slice_cmp nat_cmp before label ≡ Less
    → Rises (Some label) fields
    → Rises (Some before) fields
rises_sooner before label [] above rise = tt
rises_sooner before label (field ∷ rest) above rise =
    (nat_list_cmp_total.trans before label field.0 above rise.0, rise.1)

-- no label above this one is this one
nothing_found : (label : Name) (fields : Named) → Rises (Some label) fields → found fields label ≡ None
nothing_found label [] rise = refl
nothing_found label (field ∷ rest) rise = rw (above_differs label field.0 rise.0)
    (nothing_found label rest (rises_sooner label field.0 rest rise.0 rise.1))

-- how the labels of two fields compare
abbrev order : Name × Field → Name × Field → Ordering
order field other = slice_cmp nat_cmp field.0 other.0

-- a field among others whose labels rise
rises_on : (before : Option Name) (field other : Name × Field) (rest later : Named) (o : Ordering)
    → order field other ≡ o → IsAbove before field.0 → Rises before (other ∷ rest)
    → (order field other ≡ Greater → Rises (Some other.0) later)
    → Rises before (by_order o field other rest later)
rises_on before field other rest later Less is above rise on = (above, (is, rise.1))
rises_on before field other rest later Equal is above rise on = rise
rises_on before field other rest later Greater is above rise on = (rise.0, on is)

-- a field that is put among others where labels rise
inserted_rises : (before : Option Name) (field : Name × Field) (fields : Named) → IsAbove before field.0
    → Rises before fields → Rises before (inserted field fields)
inserted_rises before field [] above rise = (above, tt)
inserted_rises before field (other ∷ rest) above rise =
    rises_on before field other rest (inserted field rest) (order field other) refl above rise
    (λ greater. inserted_rises (Some other.0) field rest (greater_below field.0 other.0 greater) rise.1)

-- it is found where nothing else has its label
found_on : (field other : Name × Field) (rest later : Named) (label : Name) (o : Ordering) → order field other ≡ o
    → Rises (Some other.0) rest
    → found later label ≡ or_other (found rest label) (found (field ∷ []) label)
    → found (by_order o field other rest later) label ≡ or_other (found (other ∷ rest) label) (found (field ∷ []) label)
found_on field other rest later label Less is rise on =
    found_first field (other ∷ rest) label ∙ by_name (cases_Bool (bytes_eq field.0 label))
  where
    by_name : (bytes_eq field.0 label ≡ true) ⊎ (bytes_eq field.0 label ≡ false)
        → or_other (found (field ∷ []) label) (found (other ∷ rest) label)
        ≡ or_other (found (other ∷ rest) label) (found (field ∷ []) label)
    by_name (inl same) =
        rw same (rw (sym ((bytes_eq-Decides field.0 label).0 same))
        (rw (nothing_found field.0 (other ∷ rest) (is, rise)) refl))
    by_name (inr differs) = rw differs (none_more (found (other ∷ rest) label))
found_on field other rest later label Equal is rise on = by_name (cases_Bool (bytes_eq other.0 label))
  where
    by_name : (bytes_eq other.0 label ≡ true) ⊎ (bytes_eq other.0 label ≡ false)
        → found (other ∷ rest) label ≡ or_other (found (other ∷ rest) label) (found (field ∷ []) label)
    by_name (inl same) = rw same refl
    by_name (inr differs) = rw (equal_is field.0 other.0 is) (rw differs (none_more (found rest label)))
found_on field other rest later label Greater is rise on =
    found_first other later label
    ∙ ap (λ more. or_other (found (other ∷ []) label) more) on
    ∙ sym (or_other_twice (found (other ∷ []) label) (found rest label) (found (field ∷ []) label))
    ∙ ap (λ first. or_other first (found (field ∷ []) label)) (sym (found_first other rest label))

inserted_found : (before : Option Name) (field : Name × Field) (fields : Named) (label : Name) → Rises before fields
    → found (inserted field fields) label ≡ or_other (found fields label) (found (field ∷ []) label)
inserted_found before field [] label rise = refl
inserted_found before field (other ∷ rest) label rise =
    found_on field other rest (inserted field rest) label (order field other) refl rise.1
    (inserted_found (Some other.0) field rest label rise.1)

-- fields that are put one by one among others
after_found : (sorted named : Named) (label : Name) → Rises None sorted
    → found (sorted_after sorted named) label ≡ or_other (found sorted label) (found named label)
after_found sorted [] label rise = none_more (found sorted label)
after_found sorted (field ∷ rest) label rise =
    after_found (inserted field sorted) rest label (inserted_rises None field sorted tt rise)
    ∙ ap (λ first. or_other first (found rest label)) (inserted_found None field sorted label rise)
    ∙ or_other_twice (found sorted label) (found (field ∷ []) label) (found rest label)
    ∙ ap (λ more. or_other (found sorted label) more) (sym (found_first field rest label))

-- in the order of labels the same is found as in the order in which fields are written
sorted_found : (named : Named) (label : Name) → found (sorted named) label ≡ found named label
sorted_found named label = after_found [] named label tt

-- what a record type says of a label, where this was found
abbrev field_found : NodeId → Option Field → Field
field_found rest None = record { optional = true; type = rest }
field_found rest (Some field) = field

-- what the fields say of a label
field_is_found : (rest : NodeId) (named : Named) (label : Name)
    → field_of named rest label ≡ field_found rest (found named label)
field_is_found rest [] label = refl
field_is_found rest (field ∷ named) label = elim (cases_Bool (bytes_eq field.0 label)) [
  | inl same ↦ rw same refl
  | inr differs ↦ rw differs (field_is_found rest named label)
]

-- fields in the order of their labels say of each label what they do in the order in which they are written
pub sorted_fields : (rest : NodeId) (named : Named) (label : Name)
    → field_of (sorted named) rest label ≡ field_of named rest label
sorted_fields rest named label = field_is_found rest (sorted named) label
    ∙ ap (field_found rest) (sorted_found named label) ∙ sym (field_is_found rest named label)
