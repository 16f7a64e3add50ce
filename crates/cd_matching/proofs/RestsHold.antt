-- A record is in the type beside the fields of a record pattern where each other field is absent or in the rest.
use Rattle.std.proofs.Common.{◌≡◌, ◌↔◌, ℕ, Bool, true, false, List, [], ◌++◌, length, Option, Some, None}
use Rattle.std.proofs.Common.{refl, sym, ap, subst, ◌∙◌, bytes_eq}
use Rattle.std.specs.Prelude.{◌||◌, if◌then◌else◌}
use Rattle.cd_syntax.specs.Name.{Name}
use Rattle.cd_syntax.specs.TypeTree as type
use Rattle.cd_syntax.specs.TypeTree.{Tree, tree, Fields, NoField, AField}
use Rattle.cd_syntax.specs.declared.builtin.BuiltinName.TheVariants as builtin
use Rattle.cd_syntax.specs.declared.tokens.Span.{Span}
use Rattle.cd_model.specs.Interfaces.{Interfaces, admits, value_in_written}
use Rattle.cd_model.specs.Scope.{Scope, Declared, names_in, names_in_fields, names_over}
use Rattle.cd_model.specs.Thing as thing
use Rattle.cd_model.specs.Thing.{Thing}
use Rattle.cd_model.specs.Types.{FieldOf, field_of, Mapping, answers, labelled, chosen, no_closure, closure_maps}
use Rattle.cd_model.specs.Written.{WrittenType, written, within, named_in, number_of_names, in_written}
use Rattle.cd_matching.specs.Rests.{have_label, NothingOr, OthersAre}
use Rattle.cd_matching.specs.Take.{at_label}
use Rattle.cd_matching.specs.WrittenPattern.{in_scope, free_fields, others_in}

-- a field that may be absent, and else is of this type
abbrev optional_in : WrittenType → FieldOf WrittenType
optional_in type = record { optional = true; type = type }

abbrev anything : Scope → WrittenType
anything scope = record { scope = scope; kind = type.Builtin builtin.Any }

-- what such fields say of a label
free_field : (scope : Scope) (fields : Fields) (rest : WrittenType) (label : Name)
    → field_of (named_in scope (free_fields fields)) rest label
    ≡ (if have_label fields label then optional_in (anything scope) else optional_in rest)
free_field scope NoField rest label = refl
free_field scope (AField name at optional (tree span kind) fields) rest label =
    by (bytes_eq name label) (free_field scope fields rest label)
  where
    by : (b : Bool) → field_of (named_in scope (free_fields fields)) rest label
        ≡ (if have_label fields label then optional_in (anything scope) else optional_in rest)
        → (if b then optional_in (anything scope) else field_of (named_in scope (free_fields fields)) rest label)
        ≡ (if b || have_label fields label then optional_in (anything scope) else optional_in rest)
    by true on = refl
    by false on = on

-- no name stands in them
free_names : (scope : Scope) (fields : Fields) → names_in_fields scope (free_fields fields) ≡ []
free_names scope NoField = refl
free_names scope (AField name at optional (tree span kind) fields) = free_names scope fields

same_number : (scope : Scope) (fields : Fields) (is : Tree)
    → number_of_names (in_scope scope (others_in fields is)) ≡ number_of_names (in_scope scope is)
same_number scope fields (tree span kind) =
    ap (λ (names : List Declared). length (names ++ names_in scope (tree span kind) ++ names_over scope))
    (free_names scope fields)

-- with so many names to use up, and where closures map so
module _ (count : ℕ) (closed : ℕ → Mapping WrittenType) where
  abbrev pub IsIn : WrittenType → Thing → Type 0
  IsIn type d = answers (written count) closed d type true

  abbrev Labelled : thing.Fields → Name → FieldOf WrittenType → Type 0
  Labelled all label field = labelled (written count) closed all label field true

  at_to : (all : thing.Fields) (label : Name) (type : WrittenType) → Labelled all label (optional_in type)
      → NothingOr (IsIn type) (at_label all label)
  at_to thing.NoField label type is = tt
  at_to (thing.Field name d rest) label type is = by (bytes_eq name label) is (at_to rest label type)
    where
      by : (b : Bool) → chosen b (IsIn type d) (Labelled rest label (optional_in type))
          → (Labelled rest label (optional_in type) → NothingOr (IsIn type) (at_label rest label))
          → NothingOr (IsIn type) (if b then Some d else at_label rest label)
      by true is on = is
      by false is on = on is

  at_from : (all : thing.Fields) (label : Name) (type : WrittenType) → NothingOr (IsIn type) (at_label all label)
      → Labelled all label (optional_in type)
  at_from thing.NoField label type is = refl
  at_from (thing.Field name d rest) label type is = by (bytes_eq name label) is (at_from rest label type)
    where
      by : (b : Bool) → NothingOr (IsIn type) (if b then Some d else at_label rest label)
          → (NothingOr (IsIn type) (at_label rest label) → Labelled rest label (optional_in type))
          → chosen b (IsIn type d) (Labelled rest label (optional_in type))
      by true is on = is
      by false is on = on is

  any_at : (scope : Scope) (found : Option Thing) → NothingOr (IsIn (anything scope)) found
  any_at scope None = tt
  any_at scope (Some d) = refl

  module _ (scope : Scope) (fields : Fields) (span : Span) (kind : type.Kind) (all : thing.Fields) where
    abbrev Inside : Type 0
    Inside = IsIn (within scope (others_in fields (tree span kind))) (thing.Record all)

    abbrev Others : Type 0
    Others = OthersAre (IsIn (within scope (tree span kind))) fields all

    others_are : Inside → Others
    others_are inside label other = at_to all label (within scope (tree span kind))
        (subst (Labelled all label)
        (free_field scope fields (within scope (tree span kind)) label
        ∙ ap (λ (b : Bool). if b then optional_in (anything scope)
        else optional_in (within scope (tree span kind))) other)
        (inside label))

    are_inside : Others → Inside
    are_inside others label =
        subst (Labelled all label) (sym (free_field scope fields (within scope (tree span kind)) label))
        (by (have_label fields label) refl)
      where
        by : (b : Bool) → have_label fields label ≡ b
            → Labelled all label (if b then optional_in (anything scope)
            else optional_in (within scope (tree span kind)))
        by true named = at_from all label (anything scope) (any_at scope (at_label all label))
        by false other = at_from all label (within scope (tree span kind)) (others label other)

pub rest_holds : (scope : Scope) (fields : Fields) (is : Tree) (all : thing.Fields)
    → in_written (thing.Record all) (in_scope scope (others_in fields is)) true
    ↔ OthersAre (λ d. in_written d (in_scope scope is) true) fields all
rest_holds scope fields (tree span kind) all =
    let number = number_of_names (in_scope scope (others_in fields (tree span kind))) in
    subst (λ (count : ℕ). in_written (thing.Record all) (in_scope scope (others_in fields (tree span kind))) true
    ↔ OthersAre (λ d. IsIn count no_closure (within scope (tree span kind)) d) fields all)
    (same_number scope fields (tree span kind)) (
      others_are number no_closure scope fields span kind all,
      are_inside number no_closure scope fields span kind all,
    )

pub rest_holds_values : (interfaces : Interfaces) (scope : Scope) (fields : Fields) (is : Tree) (all : thing.Fields)
    → value_in_written interfaces (thing.Record all) (in_scope scope (others_in fields is)) true
    ↔ OthersAre (λ d. value_in_written interfaces d (in_scope scope is) true) fields all
rest_holds_values interfaces scope fields (tree span kind) all =
    let number = number_of_names (in_scope scope (others_in fields (tree span kind))) in
    let closed = closure_maps (written number) (admits interfaces) in
    subst (λ (count : ℕ).
    value_in_written interfaces (thing.Record all) (in_scope scope (others_in fields (tree span kind))) true
    ↔ OthersAre (λ d. IsIn count (closure_maps (written count) (admits interfaces))
    (within scope (tree span kind)) d) fields all)
    (same_number scope fields (tree span kind)) (
      others_are number closed scope fields span kind all,
      are_inside number closed scope fields span kind all,
    )
