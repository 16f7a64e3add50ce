-- The cases that are made are those of the rules.
use Rattle.std.proofs.Common.{◌≡◌, ◌≤◌, ℕ, List, [], ◌∷◌, ◌++◌, map, drop, length, slice_get, Bor, None, Some, refl, sym, ap, ◌∙◌, subst, append-nil}
use Rattle.std.proofs.lemmas.List.{drop_all}
use Rattle.cd_syntax.specs.Name.{Name}
use Rattle.cd_model.specs.AllOf.{AllOf, AnyOf}
use Rattle.cd_rules.specs.Clauses.{RecordType}
use Rattle.cd_rules.specs.Groups.{Side, AtFirst, AtSecond, XmlSide, AtTag, AtAttributes, AtContent}
use Rattle.cd_rules.specs.Rows.{Reason, Reasons, labels_of}
use Rattle.cd_rules.specs.Tasks.{Task, RecordTask, TakesAll}
use Rattle.cd_rules.proofs.Answered.{map_of_each}
use Rattle.cd_rules.proofs.Asking.{each_of_map}
use Rattle.cd_model.proofs.Ones.{each_of_all, one_weaker}
use Rattle.cd_needs.specs.PlainReasons.{plain_labels}
use Rattle.cd_tasks.specs.Inner.Groups.{of_side, of_xml_side}
use Rattle.cd_tasks.specs.LeftWithout.{IsTakenAt}

-- what is made for each side
made_of_sides : {S Y : Type 0} (of make : S → Y) → ((side : S) → of side ≡ make side) → (sides : List S) → map of sides ≡ map make sides
made_of_sides of make same [] = refl
made_of_sides of make same (side ∷ sides) =
    ap (λ first. first ∷ map of sides) (same side) ∙ ap (λ rest. make side ∷ rest) (made_of_sides of make same sides)

pub made_in_order : {Y : Type 0} (first second : Y) (make : Side → Y) → first ≡ make AtFirst → second ≡ make AtSecond
    → (sides : List Side) → map (of_side first second) sides ≡ map make sides
made_in_order first second make at_first at_second = made_of_sides (of_side first second) make by_side
  where
    by_side : (side : Side) → of_side first second side ≡ make side
    by_side AtFirst = at_first
    by_side AtSecond = at_second

pub made_in_xml_order : {Y : Type 0} (tag attributes content : Y) (make : XmlSide → Y) → tag ≡ make AtTag → attributes ≡ make AtAttributes
    → content ≡ make AtContent → (sides : List XmlSide) → map (of_xml_side tag attributes content) sides ≡ map make sides
made_in_xml_order tag attributes content make at_tag at_attributes at_content =
    made_of_sides (of_xml_side tag attributes content) make by_side
  where
    by_side : (side : XmlSide) → of_xml_side tag attributes content side ≡ make side
    by_side AtTag = at_tag
    by_side AtAttributes = at_attributes
    by_side AtContent = at_content

-- the member at a place is taken out with its group
pub taken_at : {X : Type 0} (left group rest : List X) (place : ℕ) (member : X) → TakesAll group left rest → slice_get left place ≡ Some member
    → AnyOf (λ one. one ≡ member) group → IsTakenAt left place rest
taken_at left group rest place member taken at there = (
  group,
  taken,
  one_weaker (λ one. one ≡ member) (λ one. slice_get left place ≡ Some one)
      (λ one same. at ∙ ap Some (sym same)) group there,
)

-- the case of a task for records where a type has a reason
abbrev pub record_case : (wanted refused : List RecordType) → Reasons → (left : List RecordType) → RecordType → Reason → Task
record_case wanted refused given left type reason = RecordTask wanted refused ((type, reason) ∷ given) left

-- where no label is left, the cases of all reasons are made
pub record_cases_made : (wanted refused : List RecordType) (given : Reasons) (rest : List RecordType) (type : RecordType)
    (labels : List (Bor Name)) (index : ℕ) (made : List Task)
    → made ++ map (record_case wanted refused given rest type) (map Some (plain_labels (drop index labels)))
    ≡ map (record_case wanted refused given rest type) (None ∷ map Some (plain_labels labels))
    → length labels ≤ index → plain_labels labels ≡ labels_of (wanted ++ refused)
    → made ≡ map (record_case wanted refused given rest type) (None ∷ map Some (labels_of (wanted ++ refused)))
record_cases_made wanted refused given rest type labels index made so_far past named = sym (append-nil made)
    ∙ ap (λ left. made ++ map (record_case wanted refused given rest type) (map Some (plain_labels left))) (sym (drop_all index labels past))
    ∙ so_far ∙ ap (λ names. map (record_case wanted refused given rest type) (None ∷ map Some names)) named

-- what is so of all that a function makes is so of things of which such are made
pub each_of_made : {X Y Z : Type 0} (f : X → Y) (make : Z → Y) (fact : Y → Type 0) → ((z : Z) → fact (make z)) → (xs : List X) (zs : List Z)
    → map f xs ≡ map make zs → AllOf (λ x. fact (f x)) xs
each_of_made f make fact all xs zs same =
    map_of_each f fact xs (subst (AllOf fact) (sym same) (each_of_map make fact zs (each_of_all (λ z. fact (make z)) all zs)))
