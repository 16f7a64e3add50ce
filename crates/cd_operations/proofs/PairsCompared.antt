-- Pairs of parts are added to those that are left to be compared.
use Rattle.std.proofs.Common.{rules, ◌≡◌, ◌∙◌, refl, sym, ap, ap₂, subst, arith, ◌+◌, ◌-◌, ◌<◌, ◌≤◌, ◌==◌, Bool, true, false, List, [], ◌∷◌, ◌++◌, length, bytes_eq}
use Rattle.std.specs.Prelude.{◌&&◌}
use Rattle.std.proofs.lemmas.List.Folds.{list_all-append}
use Rattle.cd_syntax.specs.Name.{Name}
use Rattle.cd_model.specs.AllOf.{AllOf}
use Rattle.cd_model.specs.Thing.{Thing, Pair, Xml, Record, Fields}
use Rattle.cd_cells.specs.declared.cell.Part.{Part}
use Rattle.cd_cells.specs.declared.cell.ValueId.{ValueId}
use Rattle.cd_cells.specs.Cells.{thing_at, name_at, fields_of, IsPart}
use Rattle.cd_evaluation.specs.Equality as equality
use Rattle.cd_evaluation.specs.Equality.{same}
use Rattle.cd_operations.specs.Inner.Comparing.{same_at, all_same, AreComparable, weight, weight_of_fields, weight_of_pairs, Adds}

abbrev Pairs : Type 0
Pairs = List (ValueId × ValueId)

of_three : (a x y z : Bool) → (((a && (x && true)) && (y && true)) && (z && true)) ≡ ((z && (y && x)) && a)
of_three true true true true = refl
of_three true true true false = refl
of_three true true false true = refl
of_three true true false false = refl
of_three true false true true = refl
of_three true false true false = refl
of_three true false false true = refl
of_three true false false false = refl
of_three false x y true = grind arith
of_three false x y false = grind arith

of_two : (a x y : Bool) → ((a && (x && true)) && (y && true)) ≡ ((y && x) && a)
of_two true true true = refl
of_two true true false = refl
of_two true false true = refl
of_two true false false = refl
of_two false x true = grind arith
of_two false x false = refl

of_one : (a x rest : Bool) → (rest && (a && (x && true))) ≡ ((x && rest) && a)
of_one true true true = refl
of_one true true false = refl
of_one true false true = refl
of_one true false false = refl
of_one false true true = refl
of_one false true false = refl
of_one false false true = refl
of_one false false false = refl

module _ (table : List Thing) where
  same_append : (pairs : Pairs) (pair : ValueId × ValueId)
      → all_same table (pairs ++ pair ∷ []) ≡ (all_same table pairs && (same_at table pair && true))
  same_append pairs pair = list_all-append (same_at table) pairs (pair ∷ [])

  comparable_append : (pairs : Pairs) (pair : ValueId × ValueId) → AreComparable table pairs → pair.0.0 < length table → pair.1.0 < length table
      → AreComparable table (pairs ++ pair ∷ [])
  comparable_append [] pair are first second = ((first, second), tt)
  comparable_append (one ∷ pairs) pair are first second = (are.0, comparable_append pairs pair are.1 first second)

  weight_append : (pairs : Pairs) (pair : ValueId × ValueId)
      → weight_of_pairs table (pairs ++ pair ∷ []) ≡ weight_of_pairs table pairs + weight (thing_at table pair.0.0)
  weight_append [] pair = omega arith
  weight_append (one ∷ pairs) pair = omega (arith, weight_append pairs pair)

  pub adds_two : (w : Thing) (first second one last : ValueId) (old middle new : Pairs)
      → Pair (thing_at table one.0) (thing_at table last.0) ≡ w → first.0 < length table → second.0 < length table
      → one.0 < length table → last.0 < length table → AreComparable table old
      → middle ≡ old ++ (second, last) ∷ [] → new ≡ middle ++ (first, one) ∷ []
      → Adds table (same (Pair (thing_at table first.0) (thing_at table second.0)) w)
      (weight (Pair (thing_at table first.0) (thing_at table second.0)) - 1) old new true
  adds_two w first second one last old middle new is first_in second_in one_in last_in are pushed pushed_too = record {
    answer =
        ap (all_same table) pushed_too ∙ same_append middle (first, one)
        ∙ ap (λ all. all && (same_at table (first, one) && true)) (ap (all_same table) pushed ∙ same_append old (second, last))
        ∙ of_two (all_same table old) (same_at table (second, last)) (same_at table (first, one))
        ∙ ap (λ w. same (Pair (thing_at table first.0) (thing_at table second.0)) w && all_same table old) is;
    comparable = subst (AreComparable table) (sym pushed_too) (comparable_append middle (first, one)
        (subst (AreComparable table) (sym pushed) (comparable_append old (second, last) are second_in last_in)) first_in one_in);
    lighter = omega (
      arith,
      ap (weight_of_pairs table) pushed_too,
      weight_append middle (first, one),
      ap (weight_of_pairs table) pushed,
      weight_append old (second, last),
    );
  }

  pub adds_three : (w : Thing) (tag attributes content one more last : ValueId) (old first second new : Pairs)
      → Xml (thing_at table one.0) (thing_at table more.0) (thing_at table last.0) ≡ w
      → tag.0 < length table → attributes.0 < length table → content.0 < length table
      → one.0 < length table → more.0 < length table → last.0 < length table → AreComparable table old
      → first ≡ old ++ (content, last) ∷ [] → second ≡ first ++ (attributes, more) ∷ [] → new ≡ second ++ (tag, one) ∷ []
      → Adds table (same (Xml (thing_at table tag.0) (thing_at table attributes.0) (thing_at table content.0)) w)
      (weight (Xml (thing_at table tag.0) (thing_at table attributes.0) (thing_at table content.0)) - 1) old new true
  adds_three w tag attributes content one more last old first second new is tag_in attributes_in content_in one_in more_in last_in are pushed then finally = record {
    answer =
        ap (all_same table) finally ∙ same_append second (tag, one)
        ∙ ap (λ all. all && (same_at table (tag, one) && true))
        (ap (all_same table) then ∙ same_append first (attributes, more)
        ∙ ap (λ all. all && (same_at table (attributes, more) && true)) (ap (all_same table) pushed ∙ same_append old (content, last)))
        ∙ of_three (all_same table old) (same_at table (content, last)) (same_at table (attributes, more)) (same_at table (tag, one))
        ∙ ap (λ w. same (Xml (thing_at table tag.0) (thing_at table attributes.0) (thing_at table content.0)) w && all_same table old) is;
    comparable = subst (AreComparable table) (sym finally) (comparable_append second (tag, one)
        (subst (AreComparable table) (sym then) (comparable_append first (attributes, more)
        (subst (AreComparable table) (sym pushed) (comparable_append old (content, last) are content_in last_in)) attributes_in more_in))
        tag_in one_in);
    lighter = omega (
      arith,
      ap (weight_of_pairs table) finally,
      weight_append second (tag, one),
      ap (weight_of_pairs table) then,
      weight_append first (attributes, more),
      ap (weight_of_pairs table) pushed,
      weight_append old (content, last),
    );
  }

  -- fields
  module _ (names : List Name) (parts others : List Part) (old : Pairs) where
    abbrev fields : List Part → Fields
    fields parts = fields_of names table parts

    abbrev AreParts : List Part → Type 0
    AreParts parts = AllOf (IsPart names (length table)) parts

    -- these parts are left, and the values of those before them are added
    pub record IsGoingOver (left right : List Part) (pairs : Pairs) : Type 0 where
      pub left_are : AreParts left
      pub right_are : AreParts right
      pub comparable : AreComparable table pairs
      pub answer : (equality.same_fields (fields left) (fields right) && all_same table pairs)
          ≡ (equality.same_fields (fields parts) (fields others) && all_same table old)
      pub lighter : weight_of_fields (fields left) + weight_of_pairs table pairs ≤ weight_of_fields (fields parts) + weight_of_pairs table old

    -- the first parts of both
    module _ (left right rest later : List Part) (one other : Part) (pairs : Pairs) (is : left ≡ one ∷ rest) (is_too : right ≡ other ∷ later)
        (so_far : IsGoingOver left right pairs) where
      both : IsGoingOver (one ∷ rest) (other ∷ later) pairs
      both = subst (λ right. IsGoingOver (one ∷ rest) right pairs) is_too (subst (λ left. IsGoingOver left right pairs) is so_far)

      pub goes_on : (first second : ValueId) (new : Pairs) → first.0 ≡ one.value → second.0 ≡ other.value
          → true ≡ bytes_eq (name_at names one.label) (name_at names other.label) → new ≡ pairs ++ (first, second) ∷ []
          → IsGoingOver rest later new
      goes_on first second new first_is second_is named pushed = record {
        left_are = both.left_are.1;
        right_are = both.right_are.1;
        comparable = subst (AreComparable table) (sym pushed) (comparable_append pairs (first, second) both.comparable
            (omega (arith, first_is, both.left_are.0.1)) (omega (arith, second_is, both.right_are.0.1)));
        answer =
            let value : same_at table (first, second) ≡ same (thing_at table one.value) (thing_at table other.value) =
            ap₂ (λ n m. same (thing_at table n) (thing_at table m)) first_is second_is in
            ap (λ all. equality.same_fields (fields rest) (fields later) && all) (ap (all_same table) pushed ∙ same_append pairs (first, second))
            ∙ of_one (all_same table pairs) (same_at table (first, second)) (equality.same_fields (fields rest) (fields later))
            ∙ ap₂ (λ named value. (named && (value && equality.same_fields (fields rest) (fields later))) && all_same table pairs) named value
            ∙ both.answer;
        lighter = omega (
          arith,
          both.lighter,
          ap (weight_of_pairs table) pushed,
          weight_append pairs (first, second),
          ap (λ n. weight (thing_at table n)) first_is,
        );
      }

    pub all_over : (left right : List Part) (pairs : Pairs) → left ≡ [] → IsGoingOver left right pairs
        → Adds table (equality.same_fields (fields parts) (fields others)) (weight_of_fields (fields parts)) old pairs (length right == 0)
    all_over left right pairs none so_far = by_right right (subst (λ left. IsGoingOver left right pairs) none so_far)
      where
        by_right : (right : List Part) → IsGoingOver [] right pairs
            → Adds table (equality.same_fields (fields parts) (fields others)) (weight_of_fields (fields parts)) old pairs (length right == 0)
        by_right [] over = record { answer = over.answer; comparable = over.comparable; lighter = omega (arith, over.lighter) }
        by_right (other ∷ later) over = record {
          answer =
              let some : (length (other ∷ later) == 0) ≡ false = search rules in
              ap (λ is. is && all_same table pairs) some ∙ over.answer;
          comparable = over.comparable;
          lighter = omega (arith, over.lighter);
        }

  -- the whole stack
  pub record IsComparing (v w : Thing) (pairs : Pairs) : Type 0 where
    pub comparable : AreComparable table pairs
    pub answer : all_same table pairs ≡ same v w

  module _ (v w : Thing) (stack left new : Pairs) (pair : ValueId × ValueId) (popped : stack ≡ left ++ pair ∷ []) (so_far : IsComparing v w stack) where
    pub falls : (is : Bool) → Adds table (same_at table pair) (weight (thing_at table pair.0.0) - 1) left new is
        → weight_of_pairs table new < weight_of_pairs table stack
    falls is adds = omega (arith, adds.lighter, some_weight (thing_at table pair.0.0), ap (weight_of_pairs table) popped, weight_append left pair)
      where
        some_weight : (v : Thing) → 0 < weight v
        some_weight (Pair first second) = omega arith
        some_weight (Xml tag attributes content) = omega arith
        some_weight (Record fields) = omega arith
        some_weight _ = omega arith
