-- A completed pattern has the variables and the labels of the pattern.
use Rattle.std.proofs.Common.{◌≡◌, Bool, ◌||◌, bytes_eq, refl, ap, ap₂, ◌∙◌}
use Rattle.cd_syntax.specs.Name.{Name}
use Rattle.cd_matching.specs.Pattern as pattern
use Rattle.cd_matching.specs.Pattern.{Pattern, Patterns, NoPattern, APattern, Fields, NoField}
use Rattle.cd_matching.specs.Pattern.{Present, Optional, Regular, Regulars, NoRegular, ARegular}
use Rattle.cd_matching.specs.Variables.{binds, all_bind, fields_bind, regular_binds, regulars_bind}
use Rattle.cd_matching.specs.Variables.{is_gathered, one_is_gathered, is_plain, one_is_plain}
use Rattle.cd_matching.specs.Variables.{names_label}
use Rattle.cd_kernel.specs.Inner.Completed.{choice, completed, completed_all, completed_fields}
use Rattle.cd_kernel.specs.Inner.Completed.{completed_regular, completed_regulars}

module _ {T : Type 0} where
  -- a choice has the variables of its alternatives
  choice_binds : (all : Regulars T) (name : Name)
      → regular_binds (choice all) name ≡ regulars_bind all name
  choice_binds NoRegular name = refl
  choice_binds (ARegular first rest) name = refl

  choice_gathers : (all : Regulars T) (name : Name)
      → is_gathered (choice all) name ≡ one_is_gathered all name
  choice_gathers NoRegular name = refl
  choice_gathers (ARegular first rest) name = refl

  choice_plain : (all : Regulars T) (name : Name)
      → is_plain (choice all) name ≡ one_is_plain all name
  choice_plain NoRegular name = refl
  choice_plain (ARegular first rest) name = refl

  mutual
    pub binds_same : (p : Pattern T) (name : Name) → binds (completed p) name ≡ binds p name
    binds_same (pattern.OfType type) name = refl
    binds_same (pattern.Bind variable) name = refl
    binds_same (pattern.Default variable constant) name = refl
    binds_same (pattern.Pair p q) name =
        ap₂ (λ (a b : Bool). a || b) (binds_same p name) (binds_same q name)
    binds_same (pattern.Xml p q r) name = ap₂ (λ (a b : Bool). a || b) (binds_same p name)
        (ap₂ (λ (a b : Bool). a || b) (binds_same q name) (binds_same r name))
    binds_same (pattern.Record fields more) name = fields_bind_same fields name
    binds_same (pattern.Both all) name = all_bind_same all name
    binds_same (pattern.First all) name = all_bind_same all name
    binds_same (pattern.Sequence r) name = regular_binds_same r name

    pub all_bind_same : (all : Patterns T) (name : Name)
        → all_bind (completed_all all) name ≡ all_bind all name
    all_bind_same NoPattern name = refl
    all_bind_same (APattern first rest) name =
        ap₂ (λ (a b : Bool). a || b) (binds_same first name) (all_bind_same rest name)

    pub fields_bind_same : (fields : Fields T) (name : Name)
        → fields_bind (completed_fields fields) name ≡ fields_bind fields name
    fields_bind_same NoField name = refl
    fields_bind_same (Present label p rest) name =
        ap₂ (λ (a b : Bool). a || b) (binds_same p name) (fields_bind_same rest name)
    fields_bind_same (Optional label type rest) name = fields_bind_same rest name

    regular_binds_same : (r : Regular T) (name : Name)
        → regular_binds (completed_regular r) name ≡ regular_binds r name
    regular_binds_same pattern.Nothing name = refl
    regular_binds_same (pattern.Item p) name = binds_same p name
    regular_binds_same (pattern.Seq all) name = regulars_bind_same all name
    regular_binds_same (pattern.Alt all) name =
        choice_binds (completed_regulars all) name ∙ regulars_bind_same all name
    regular_binds_same (pattern.Repeat r post) name = regular_binds_same r name
    regular_binds_same (pattern.Capture variable r) name =
        ap (bytes_eq variable name ||◌) (regular_binds_same r name)

    regulars_bind_same : (all : Regulars T) (name : Name)
        → regulars_bind (completed_regulars all) name ≡ regulars_bind all name
    regulars_bind_same NoRegular name = refl
    regulars_bind_same (ARegular first rest) name =
        ap₂ (λ (a b : Bool). a || b) (regular_binds_same first name) (regulars_bind_same rest name)

  mutual
    pub gathered_same : (r : Regular T) (name : Name)
        → is_gathered (completed_regular r) name ≡ is_gathered r name
    gathered_same pattern.Nothing name = refl
    gathered_same (pattern.Item p) name = refl
    gathered_same (pattern.Seq all) name = one_gathered_same all name
    gathered_same (pattern.Alt all) name =
        choice_gathers (completed_regulars all) name ∙ one_gathered_same all name
    gathered_same (pattern.Repeat r post) name = gathered_same r name
    gathered_same (pattern.Capture variable r) name =
        ap (bytes_eq variable name ||◌) (gathered_same r name)

    one_gathered_same : (all : Regulars T) (name : Name)
        → one_is_gathered (completed_regulars all) name ≡ one_is_gathered all name
    one_gathered_same NoRegular name = refl
    one_gathered_same (ARegular first rest) name =
        ap₂ (λ (a b : Bool). a || b) (gathered_same first name) (one_gathered_same rest name)

  mutual
    pub plain_same : (r : Regular T) (name : Name)
        → is_plain (completed_regular r) name ≡ is_plain r name
    plain_same pattern.Nothing name = refl
    plain_same (pattern.Item p) name = binds_same p name
    plain_same (pattern.Seq all) name = one_plain_same all name
    plain_same (pattern.Alt all) name =
        choice_plain (completed_regulars all) name ∙ one_plain_same all name
    plain_same (pattern.Repeat r post) name = plain_same r name
    plain_same (pattern.Capture variable r) name = plain_same r name

    pub one_plain_same : (all : Regulars T) (name : Name)
        → one_is_plain (completed_regulars all) name ≡ one_is_plain all name
    one_plain_same NoRegular name = refl
    one_plain_same (ARegular first rest) name =
        ap₂ (λ (a b : Bool). a || b) (plain_same first name) (one_plain_same rest name)

  pub labels_same : (fields : Fields T) (label : Name)
      → names_label (completed_fields fields) label ≡ names_label fields label
  labels_same NoField label = refl
  labels_same (Present name p rest) label =
      ap (bytes_eq name label ||◌) (labels_same rest label)
  labels_same (Optional name type rest) label =
      ap (bytes_eq name label ||◌) (labels_same rest label)
