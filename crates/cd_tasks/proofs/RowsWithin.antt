-- The reasons of a word begin those of a longer one, so its row is within the longer word's.
use Rattle.std.proofs.Common.{◌≡◌, ◌∙◌, ap, sym, subst, refl, Bool, true, false, ◌&&◌, not, List, [], ◌∷◌, ◌++◌, map, Some, None, if◌then◌else◌, true≢false}
use Rattle.std.proofs.lemmas.Bool.{and_parts}
use Rattle.std.proofs.lemmas.List.Folds.{list_all-append}
use Rattle.std.specs.List.{list_all}
use Rattle.cd_syntax.specs.Name.{Name}
use Rattle.cd_rules.proofs.Among.{among_itself, among_longer, among_map}
use Rattle.cd_rules.specs.Clauses.{RecordType}
use Rattle.cd_rules.specs.Family.{AreAmong}
use Rattle.cd_rules.specs.Needs.{question}
use Rattle.cd_rules.specs.Rows.{Reasons, cell_at, field_at, is_reason, labels_of, row_of, types_at, types_elsewhere}
use Rattle.cd_tasks.specs.Assignments.{Word, begins_with, reason_of, reasons_by, row_by}
use Rattle.cd_tasks.specs.Within.{AreCellsWithin, IsCellWithin, IsRowWithin}
use Rattle.cd_tasks.proofs.WaysWithin.{more_is_subsumed, begins_later, same_side}

reasons_begin : (labels : List Name) (word longer : Word) (refused : List RecordType) → begins_with word longer ≡ true
    → (more : Reasons) × (reasons_by labels longer refused ≡ reasons_by labels word refused ++ more)
reasons_begin labels [] longer refused begins = (reasons_by labels longer refused, refl)
reasons_begin labels (side ∷ word) [] refused begins = absurd (true≢false (sym begins))
reasons_begin labels (side ∷ word) (other ∷ longer) [] begins = ([], refl)
reasons_begin labels (side ∷ word) (other ∷ longer) (type ∷ refused) begins =
    let rest = reasons_begin labels word longer refused (begins_later side other word longer begins) in (
      rest.0,
      ap (λ (side : _). (type, reason_of labels side) ∷ reasons_by labels longer refused) (sym (same_side side other word longer begins))
          ∙ ap (λ (reasons : Reasons). (type, reason_of labels side) ∷ reasons) rest.1,
    )

-- the types of the first reasons come first
types_both : (label : Name) (reasons more : Reasons) → types_at label (reasons ++ more) ≡ types_at label reasons ++ types_at label more
types_both label [] more = refl
types_both label (one ∷ reasons) more = by_test (is_reason label one.1) (types_both label reasons more)
  where
    by_test : (is : Bool) → types_at label (reasons ++ more) ≡ types_at label reasons ++ types_at label more
        → (if is then one.0 ∷ types_at label (reasons ++ more) else types_at label (reasons ++ more))
        ≡ (if is then one.0 ∷ types_at label reasons else types_at label reasons) ++ types_at label more
    by_test true same = ap (λ types. one.0 ∷ types) same
    by_test false same = same

elsewhere_both : (reasons more : Reasons) → types_elsewhere (reasons ++ more) ≡ types_elsewhere reasons ++ types_elsewhere more
elsewhere_both [] more = refl
elsewhere_both ((type, None) ∷ reasons) more = ap (λ types. type ∷ types) (elsewhere_both reasons more)
elsewhere_both ((type, Some label) ∷ reasons) more = elsewhere_both reasons more

among_types : (label : Name) (reasons more : Reasons) → AreAmong (types_at label reasons) (types_at label (reasons ++ more))
among_types label reasons more =
    subst (AreAmong (types_at label reasons)) (sym (types_both label reasons more)) (among_longer (types_at label reasons) (types_at label more))

among_elsewhere : (reasons more : Reasons) → AreAmong (types_elsewhere reasons) (types_elsewhere (reasons ++ more))
among_elsewhere reasons more =
    subst (AreAmong (types_elsewhere reasons)) (sym (elsewhere_both reasons more)) (among_longer (types_elsewhere reasons) (types_elsewhere more))

all_first : {X : Type 0} (passes : X → Bool) (xs more : List X) → list_all passes (xs ++ more) ≡ true → list_all passes xs ≡ true
all_first passes xs more all = (and_parts (list_all passes xs) (list_all passes more) (sym (list_all-append passes xs more) ∙ all)).0

both_true : (one other : Bool) → one ≡ true → other ≡ true → (one && other) ≡ true
both_true one other is_one is_other = ap (λ is. is && other) is_one ∙ is_other

cell_within : (wanted : List RecordType) (reasons more : Reasons) (label : Name)
    → IsCellWithin (cell_at wanted reasons label) (cell_at wanted (reasons ++ more) label)
cell_within wanted reasons more label = (
  more_is_subsumed _ _ _ _ (among_itself (map (λ type. (field_at type label).type) wanted))
      (among_map (λ type. (field_at type label).type) (types_at label reasons) (types_at label (reasons ++ more)) (among_types label reasons more)),
  λ absent. let parts = and_parts _ _ absent in
      both_true _ _ parts.0 (all_first (λ type. not (field_at type label).optional) (types_at label reasons) (types_at label more)
      (subst (λ types. list_all (λ type. not (field_at type label).optional) types ≡ true) (types_both label reasons more) parts.1)),
)

cells_within : (wanted : List RecordType) (reasons more : Reasons) (labels : List Name)
    → AreCellsWithin (map (λ label. (label, cell_at wanted reasons label)) labels)
    (map (λ label. (label, cell_at wanted (reasons ++ more) label)) labels)
cells_within wanted reasons more [] = tt
cells_within wanted reasons more (label ∷ labels) =
    (refl, cell_within wanted reasons more label, cells_within wanted reasons more labels)

longer_within : (labels : List Name) (wanted : List RecordType) (reasons more : Reasons)
    → IsRowWithin (row_of labels wanted reasons) (row_of labels wanted (reasons ++ more))
longer_within labels wanted reasons more = record {
  cells = cells_within wanted reasons more labels;
  every = refl;
  some = among_map (λ (type : RecordType). question (map (λ type. type.rest) wanted) (type.rest ∷ [])) (types_elsewhere reasons)
      (types_elsewhere (reasons ++ more)) (among_elsewhere reasons more);
}

pub row_within : (wanted refused : List RecordType) (word longer : Word) → begins_with word longer ≡ true
    → IsRowWithin (row_by wanted refused word) (row_by wanted refused longer)
row_within wanted refused word longer begins =
    let labels = labels_of (wanted ++ refused) in
    let rest = reasons_begin labels word longer refused begins in
    subst (λ reasons. IsRowWithin (row_by wanted refused word) (row_of labels wanted reasons)) (sym rest.1)
    (longer_within labels wanted (reasons_by labels word refused) rest.0)
