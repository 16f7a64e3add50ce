-- What is given for elements that are records.
use Rattle.std.proofs.Common.{None, refl, sym, subst}
use Rattle.cd_syntax.specs.Name.{Name}
use Rattle.cd_model.specs.BuiltIns.{ATOM, RECORD}
use Rattle.cd_model.specs.Thing.{Thing, Atom, Record, IsElement}
use Rattle.cd_meaning.specs.Sets.{Set, ◌⊆◌}
use Rattle.cd_meaning.specs.Records.{IsMergeOf, IsRestOf, IsFieldOf, HasFieldAt}
use Rattle.cd_typing.specs.Typ.{BuiltIn}
use Rattle.cd_typing.specs.Results.{IsXmlOf}
use Rattle.cd_evaluation.specs.Runs.{found}
use Rattle.cd_evaluation.specs.RecordFields.{merged, without}
use Rattle.cd_evaluation.specs.Operations.{plus, dropped, selected, xml}
use Rattle.cd_safety.specs.Gives.{Gives}
use Rattle.cd_safety.proofs.BuiltInElements.{atom_here, record_here}
use Rattle.cd_safety.proofs.FieldsAtLabels.{merged_is, without_is}

pub merged_given : (first second : Set) → first ⊆ BuiltIn RECORD → second ⊆ BuiltIn RECORD → (d e : Thing) → IsElement d → IsElement e
    → first d → second e → Gives (IsMergeOf first second) (plus d e)
merged_given first second one other d e d_is e_is d_in e_in =
    let fields = record_here d (one d d_is d_in) in
    let others = record_here e (other e e_is e_in) in
    subst (λ v. IsElement v → first v → Gives (IsMergeOf first second) (plus v e)) (sym fields.1)
    (λ f_is f_in. subst (λ w. IsElement w → second w → Gives (IsMergeOf first second) (plus (Record fields.0) w)) (sym others.1)
    (λ o_is o_in. (
      merged fields.0 others.0,
      refl,
      λ label is_label. (
        fields.0,
        others.0,
        (f_is, f_in),
        (o_is, o_in),
        merged_is fields.0 others.0 label,
      ),
    )) e_is e_in) d_is d_in

pub dropped_given : (label : Name) (set : Set) → set ⊆ BuiltIn RECORD → (d : Thing) → IsElement d → set d
    → Gives (IsRestOf label set) (dropped label d)
dropped_given label set are d d_is d_in =
    let fields = record_here d (are d d_is d_in) in
    subst (λ v. IsElement v → set v → Gives (IsRestOf label set) (dropped label v)) (sym fields.1)
    (λ f_is f_in. (fields.0, without label fields.0, refl, (f_is, f_in), without_is label None fields.0 f_is.0)) d_is d_in

pub selected_given : (label : Name) (set : Set) → set ⊆ HasFieldAt label → (d : Thing) → IsElement d → set d
    → Gives (IsFieldOf label set) (selected label d)
selected_given label set have d d_is d_in =
    let has = have d d_is d_in in
    subst (λ v. IsElement v → set v → Gives (IsFieldOf label set) (selected label v)) (sym has.2)
    (λ f_is f_in. subst (λ at. Gives (IsFieldOf label set) (found at)) (sym has.3) (has.0, (f_is, f_in), has.3)) d_is d_in

pub xml_given : (tag attributes content : Set) → tag ⊆ BuiltIn ATOM → attributes ⊆ BuiltIn RECORD → (d e last : Thing) → IsElement d
    → IsElement e → tag d → attributes e → content last → Gives (IsXmlOf tag attributes content) (xml d e last)
xml_given tag attributes content are_atoms are_records d e last d_is e_is d_in e_in last_in =
    let name = atom_here d (are_atoms d d_is d_in) in
    let fields = record_here e (are_records e e_is e_in) in
    subst (λ v. tag v → Gives (IsXmlOf tag attributes content) (xml v e last)) (sym name.1)
    (λ n_in. subst (λ w. attributes w → Gives (IsXmlOf tag attributes content) (xml (Atom name.0) w last)) (sym fields.1)
    (λ f_in. (Atom name.0, Record fields.0, last, n_in, f_in, last_in, refl)) e_in) d_in
