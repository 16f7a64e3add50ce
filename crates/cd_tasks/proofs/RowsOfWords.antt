-- The full words make the rows of a clause of records.
use Rattle.std.proofs.Common.{◌≡◌, ◌∙◌, sym, ap, subst, refl, ℕ, ◌+◌, ◌-◌, ◌==◌, false, List, [], ◌∷◌, ◌++◌, map, length, Some, None, if◌then◌else◌, append_assoc, arith}
use Rattle.std.proofs.lemmas.Bool.Decides.{nat_tests}
use Rattle.std.proofs.lemmas.List.{map-append, length-append, length-map}
use Rattle.std.specs.List.{slice_get}
use Rattle.cd_syntax.specs.Name.{Name}
use Rattle.cd_rules.specs.Clauses.{RecordType}
use Rattle.cd_rules.specs.Rows.{Reason, Reasons, each_with, labels_of, reasons_of, row_of, rows_of}
use Rattle.cd_tasks.specs.Assignments.{Word, each_side, full_words, reason_of, reasons_by, row_by}
use Rattle.cd_tasks.proofs.FullWords.{full_more}
use Rattle.cd_tasks.proofs.PartsOfLists.{map_map, map_twice}

-- these are the reasons of the sides from the first on
abbrev AreReasons : List Name → (first : ℕ) → List Reason → Type 0
AreReasons labels first [] = Unit {0}
AreReasons labels first (reason ∷ reasons) = (reason_of labels first ≡ reason) × AreReasons labels (first + 1) reasons

at_length : (before : List Name) (label : Name) (labels : List Name) → slice_get (before ++ label ∷ labels) (length before) ≡ Some label
at_length [] label labels = refl
at_length (first ∷ before) label labels = at_length before label labels

label_of : (before : List Name) (label : Name) (labels : List Name) → reason_of (before ++ label ∷ labels) (length before + 1) ≡ Some label
label_of before label labels =
    let all = before ++ label ∷ labels in
    let more : (length before + 1 == 0) ≡ false = grind (arith, nat_tests) in
    let less : length before + 1 - 1 ≡ length before = omega arith in
    ap (λ is. if is then None else slice_get all (length before + 1 - 1)) more ∙ ap (slice_get all) less ∙ at_length before label labels

are_labels : (before labels : List Name) → AreReasons (before ++ labels) (length before + 1) (map Some labels)
are_labels before [] = tt
are_labels before (label ∷ labels) =
    let longer = are_labels (before ++ label ∷ []) labels in
    let all : (before ++ label ∷ []) ++ labels ≡ before ++ label ∷ labels = append_assoc before (label ∷ []) labels in
    let count : length (before ++ label ∷ []) ≡ length before + 1 = length-append before (label ∷ []) in (
      label_of before label labels,
      subst (λ count. AreReasons (before ++ label ∷ labels) (count + 1) (map Some labels)) count
          (subst (λ names. AreReasons names (length (before ++ label ∷ []) + 1) (map Some labels)) all longer),
    )

-- each word with the sides before it, and each choice of reasons with the reasons before it
each_reason : (type : RecordType) (labels : List Name) (refused : List RecordType) (reasons : List Reason) (first : ℕ)
    → AreReasons labels first reasons → (words : List Word)
    → map (λ word. reasons_by labels word (type ∷ refused)) (each_side first (length reasons) words)
    ≡ each_with type reasons (map (λ word. reasons_by labels word refused) words)
each_reason type labels refused [] first are words = refl
each_reason type labels refused (reason ∷ reasons) first are words =
    let more : Word → Reasons = λ word. reasons_by labels word (type ∷ refused) in
    let here : Word → Reasons = λ word. reasons_by labels word refused in
    let rest = each_side (first + 1) (length reasons) words in
    map-append more (map (λ word. first ∷ word) words) rest
    ∙ ap (λ (front : List Reasons). front ++ map more rest)
    (map_twice more (λ word. first ∷ word) (λ (chosen : Reasons). (type, reason) ∷ chosen) here
    (λ word. ap (λ (reason : Reason). (type, reason) ∷ here word) are.0) words)
    ∙ ap (λ (others : List Reasons). map (λ (chosen : Reasons). (type, reason) ∷ chosen) (map here words) ++ others)
    (each_reason type labels refused reasons (first + 1) are.1 words)

reasons_are : (labels : List Name) (refused : List RecordType)
    → reasons_of labels refused ≡ map (λ word. reasons_by labels word refused) (full_words (length labels + 1) (length refused))
reasons_are labels [] = refl
reasons_are labels (type ∷ refused) =
    let all : List Reason = None ∷ map Some labels in
    let words = full_words (length labels + 1) (length refused) in
    let more : Word → Reasons = λ word. reasons_by labels word (type ∷ refused) in
    let count : length all ≡ length labels + 1 = omega (arith, length-map labels (λ (label : Name). Some label)) in
    ap (each_with type all) (reasons_are labels refused)
    ∙ sym (each_reason type labels refused all 0 (refl, are_labels [] labels) words)
    ∙ ap (λ sides. map more (each_side 0 sides words)) count
    ∙ ap (map more) (sym (full_more (length labels + 1) (length refused)))

pub rows_are : (wanted refused : List RecordType)
    → rows_of wanted refused ≡ map (row_by wanted refused) (full_words (length (labels_of (wanted ++ refused)) + 1) (length refused))
rows_are wanted refused =
    let labels = labels_of (wanted ++ refused) in
    ap (map (row_of labels wanted)) (reasons_are labels refused)
    ∙ map_map (row_of labels wanted) (λ word. reasons_by labels word refused) (full_words (length labels + 1) (length refused))
