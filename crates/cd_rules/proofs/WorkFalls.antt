-- Each step gives one witness more, or as many and a longer list, or both alike and less that is left to do.
use Rattle.std.proofs.Common.{◌≡◌, ◌<◌, ◌≤◌, ◌+◌, ◌*◌, ℕ, zero, suc, List, [], ◌∷◌, ◌++◌, Some, length, map, Bool, true, false}
use Rattle.std.proofs.Common.{inl, inr, refl, ap, ◌∙◌, append_assoc, append-nil}
use native.Mathlib.Omega.{arith}
use Rattle.std.proofs.Math.Nat.{suc-mul, add-mul, mul-add, mul_assoc}
use Rattle.std.proofs.lemmas.List.{length-append, length-map}
use Rattle.cd_sets.specs.declared.question.Question.{Question}
use Rattle.cd_model.specs.AllOf.{AnyOf}
use Rattle.cd_model.specs.Formula.{Formula, Formulas, NoFormula, AFormula, And, Or, Not, Graph}
use Rattle.cd_model.specs.Kinds.{Kind}
use Rattle.cd_rules.specs.Dnf.{Conjunct, joined}
use Rattle.cd_rules.specs.KindDnf.{kind_dnf, kind_of_each, kind_of_one}
use Rattle.cd_rules.specs.PartialConjuncts.{Signed, Partial, partial, clause_by, completions, each_signed, GoesOn, unfolds, divides, extends}
use Rattle.cd_rules.specs.PartialConjuncts.{IsConjunction, wants_each, refuses_each, denies, IsDisjunction, wants_one, refuses_one}
use Rattle.cd_rules.specs.Rows.{labels_of}
use Rattle.cd_rules.specs.Groups.{Side, AtFirst, AtSecond, XmlSide, AtTag, AtAttributes, AtContent}
use Rattle.cd_rules.specs.Groups.{other_sides, other_xml_sides, to_side, to_xml_side}
use Rattle.cd_rules.specs.Tasks.{Task, PairTask, XmlTask, ArrowTask, RecordTask}
use Rattle.cd_rules.specs.Tasks.{AreCases, pair_cases, xml_cases, arrow_cases, record_cases}
use Rattle.cd_rules.proofs.Completions.{completions_unfold, joined_both, divided}
use Rattle.cd_rules.specs.Machine.{Work, Works, goes_further, cuts, begins, drops, splits, goes_on}
use Rattle.cd_rules.specs.Machine.{State, Step, opens, knows, works, finds, leaves}
use Rattle.cd_rules.specs.Weight.{weight, task_weight, sum_of, clause_weight, formula_weight, weight_of_each, weight_of_one}
use Rattle.cd_rules.specs.Weight.{joining_weight, partial_weight, work_weight, IsFurther}
use Rattle.cd_rules.proofs.ShorterLists.{taken_length, all_taken_length}

sum_of_both : {X : Type 0} (weight_of : X → ℕ) (some others : List X)
    → sum_of weight_of (some ++ others) ≡ sum_of weight_of some + sum_of weight_of others
sum_of_both weight_of [] others = omega arith
sum_of_both weight_of (x ∷ some) others = let rest = sum_of_both weight_of some others in omega arith

-- so many tasks of one weight
sum_of_same : {X : Type 0} (task : X → Task) (one : ℕ) → ((x : X) → task_weight (task x) ≡ one) → (xs : List X)
    → sum_of task_weight (map task xs) ≡ length xs * one
sum_of_same task one same [] = omega arith
sum_of_same task one same (x ∷ xs) = let rest = sum_of_same task one same xs in let first = same x in omega arith

some_length : {X : Type 0} (xs : List X) → length (map Some xs) ≡ length xs
some_length [] = refl
some_length (x ∷ xs) = ap suc (some_length xs)

row_falls : (some count one whole others : ℕ) → some ≡ count → whole ≡ suc (suc count * one) → others ≡ some * one → one + others < whole
row_falls some count one whole others same is so =
    let times = suc-mul count one in let others_are = so ∙ ap (λ n. n * one) same in omega arith

-- a task with more members that are left weighs no less
more_weighs : (k more members all : ℕ) → all ≡ more + members → weight (suc k) members ≤ weight (suc k) all
more_weighs k zero members all same = let is : all ≡ members = omega arith in let weighs = ap (weight (suc k)) is in omega arith
more_weighs k (suc more) members zero same = absurd (omega arith)
more_weighs k (suc more) members (suc all) same =
    let fewer = more_weighs k more members all (omega arith) in let times = suc-mul k (weight (suc k) all) in omega arith

-- so a group that is taken out leaves less
group_falls : (count rest left : ℕ) → 0 < count → left ≡ count + rest → 2 * weight 2 rest < weight 2 left
group_falls zero rest left some same = absurd (omega arith)
group_falls (suc count) rest zero some same = absurd (omega arith)
group_falls (suc count) rest (suc left) some same = let fewer = more_weighs 1 count rest left (omega arith) in omega arith

xml_group_falls : (count rest left : ℕ) → 0 < count → left ≡ count + rest → 3 * weight 3 rest < weight 3 left
xml_group_falls zero rest left some same = absurd (omega arith)
xml_group_falls (suc count) rest zero some same = absurd (omega arith)
xml_group_falls (suc count) rest (suc left) some same = let fewer = more_weighs 2 count rest left (omega arith) in omega arith

has_members : {X : Type 0} (x : X) (group : List X) → AnyOf (λ other. other ≡ x) group → 0 < length group
has_members x [] there = elim there [ ]
has_members x (y ∷ group) there = omega arith

count_sides : (differs : Side) → length (other_sides differs ++ differs ∷ []) ≡ 2
count_sides AtFirst = refl
count_sides AtSecond = refl

count_xml_sides : (differs : XmlSide) → length (other_xml_sides differs ++ differs ∷ []) ≡ 3
count_xml_sides AtTag = refl
count_xml_sides AtAttributes = refl
count_xml_sides AtContent = refl

-- the cases of a task weigh less than the task
cases_fall : (task : Task) (all : List Task) → AreCases task all → sum_of task_weight all < task_weight task
cases_fall _ _ (pair_cases wanted refused given left group rest x differs taken is) =
    let falls = group_falls (length group) (length rest) (length left) (has_members x group is.0) (all_taken_length group left rest taken) in
    let same = sum_of_same (λ side. PairTask wanted refused (to_side side group given) rest) (weight 2 (length rest)) (λ side. refl)
    (other_sides differs ++ differs ∷ []) ∙ ap (λ n. n * weight 2 (length rest)) (count_sides differs) in omega arith
cases_fall _ _ (xml_cases wanted refused given left group rest x differs taken is) =
    let falls = xml_group_falls (length group) (length rest) (length left) (has_members x group is.0) (all_taken_length group left rest taken) in
    let same = sum_of_same (λ side. XmlTask wanted refused (to_xml_side side group given) rest) (weight 3 (length rest)) (λ side. refl)
    (other_xml_sides differs ++ differs ∷ []) ∙ ap (λ n. n * weight 3 (length rest)) (count_xml_sides differs) in omega arith
cases_fall _ _ (arrow_cases refused wanted given left group rest x differs taken is) =
    let falls = group_falls (length group) (length rest) (length left) (has_members x group is.0) (all_taken_length group left rest taken) in
    let same = sum_of_same (λ side. ArrowTask refused wanted (to_side side group given) rest) (weight 2 (length rest)) (λ side. refl)
    (other_sides differs ++ differs ∷ []) ∙ ap (λ n. n * weight 2 (length rest)) (count_sides differs) in omega arith
cases_fall _ _ (record_cases wanted refused given left rest type taken) =
    let labels = labels_of (wanted ++ refused) in
    let whole = ap (weight (suc (length labels))) (taken_length type left rest taken) in
    let others = sum_of_same (λ reason. RecordTask wanted refused ((type, reason) ∷ given) rest) (weight (suc (length labels)) (length rest))
    (λ reason. refl) (map Some labels) in
    row_falls (length (map Some labels)) (length labels) (weight (suc (length labels)) (length rest))
    (task_weight (RecordTask wanted refused given left))
    (sum_of task_weight (map (λ reason. RecordTask wanted refused ((type, reason) ∷ given) rest) (map Some labels)))
    (some_length labels) whole others

-- each task and each conjunct weighs something
weighs : (sides members : ℕ) → 0 < weight sides members
weighs sides zero = omega arith
weighs sides (suc members) = omega arith

task_weighs : (task : Task) → 0 < task_weight task
task_weighs (PairTask wanted refused given left) = weighs 2 (length left)
task_weighs (XmlTask wanted refused given left) = weighs 3 (length left)
task_weighs (ArrowTask refused wanted given left) = weighs 2 (length left)
task_weighs (RecordTask wanted refused given left) = weighs (suc (length (labels_of (wanted ++ refused)))) (length left)

-- as many conjuncts are joined as there are of the one for each of the other
length_joined : (some others : List Conjunct) → length (joined some others) ≡ length some * length others
length_joined [] others = omega arith
length_joined (conjunct ∷ some) others = length-append (map (λ other. conjunct ++ other) others) (joined some others)
    ∙ by_parts (length some) (length others) (length (map (λ other. conjunct ++ other) others)) (length (joined some others))
    (length-map others (λ other. conjunct ++ other)) (length_joined some others)
  where
    by_parts : (n m first rest : ℕ) → first ≡ m → rest ≡ n * m → first + rest ≡ suc n * m
    by_parts n m first rest same so = let times = suc-mul n m in omega arith

module _ (kind : Kind) where
  -- members of a conjunction before others
  joining_each : (formulas : Formulas) (wanted : Bool) (left : List Signed)
      → joining_weight kind (each_signed formulas wanted ++ left)
      ≡ weight_of_each kind formulas wanted + length (kind_of_each kind formulas wanted) * joining_weight kind left
  joining_each NoFormula wanted left = omega arith
  joining_each (AFormula is rest) wanted left = by_parts (formula_weight kind is wanted) (length (kind_dnf kind is wanted))
      (weight_of_each kind rest wanted) (length (kind_of_each kind rest wanted)) (joining_weight kind left)
      (joining_weight kind (each_signed rest wanted ++ left)) (length (joined (kind_dnf kind is wanted) (kind_of_each kind rest wanted)))
      (joining_each rest wanted left) (length_joined (kind_dnf kind is wanted) (kind_of_each kind rest wanted))
    where
      by_parts : (one count others other_count left rest joined_count : ℕ) → rest ≡ others + other_count * left
          → joined_count ≡ count * other_count → one + count * rest ≡ (one + count * others) + joined_count * left
      by_parts one count others other_count left rest joined_count same so =
          let parts = ap (λ n. count * n) same ∙ mul-add count others (other_count * left) in
          let times = mul_assoc count other_count left in
          let joined_times = ap (λ n. n * left) so in omega arith

  unfolding_falls : (one : Signed) (members left : List Signed) → IsConjunction one members
      → joining_weight kind (members ++ left) < joining_weight kind (one ∷ left)
  unfolding_falls _ _ left (wants_each formulas) = let same = joining_each formulas true left in omega arith
  unfolding_falls _ _ left (refuses_each formulas) = let same = joining_each formulas false left in omega arith
  unfolding_falls _ _ left (denies is wanted) = omega arith

  -- what each clause has that one of the extensions may become is what each has that the conjunct
  -- may become
  module _ (conjunct : Conjunct) (left : List Signed) where
    abbrev weight_with : Conjunct → ℕ
    weight_with rest = clause_weight (clause_by kind (conjunct ++ rest))

    with_more : (more : Conjunct) (all : List Conjunct) → sum_of (λ rest. clause_weight (clause_by kind ((conjunct ++ more) ++ rest))) all
        ≡ sum_of weight_with (map (λ other. more ++ other) all)
    with_more more [] = refl
    with_more more (rest ∷ all) =
        let first = ap (λ conjunct. clause_weight (clause_by kind conjunct)) (append_assoc conjunct more rest) in
        let others = with_more more all in omega arith

    extensions_weight : (some : List Conjunct) → sum_of partial_weight (map (λ more. partial kind (conjunct ++ more) left) some)
        ≡ length some * joining_weight kind left + sum_of weight_with (joined some (completions kind left))
    extensions_weight [] = omega arith
    extensions_weight (more ∷ some) = by_parts (joining_weight kind left) (length some)
        (sum_of (λ rest. clause_weight (clause_by kind ((conjunct ++ more) ++ rest))) (completions kind left))
        (sum_of weight_with (map (λ other. more ++ other) (completions kind left)))
        (sum_of partial_weight (map (λ more. partial kind (conjunct ++ more) left) some))
        (sum_of weight_with (joined some (completions kind left)))
        (sum_of weight_with (map (λ other. more ++ other) (completions kind left) ++ joined some (completions kind left)))
        (with_more more (completions kind left)) (extensions_weight some)
        (sum_of_both weight_with (map (λ other. more ++ other) (completions kind left)) (joined some (completions kind left)))
      where
        by_parts : (joining count first first_too others rest both : ℕ) → first ≡ first_too → others ≡ count * joining + rest
            → both ≡ first_too + rest → (joining + first) + others ≡ suc count * joining + both
        by_parts joining count first first_too others rest both same so together = let times = suc-mul count joining in omega arith

  -- a choice for each of some formulas, of which one is to be met
  module _ (conjunct : Conjunct) (left : List Signed) where
    weight_of_divided : (formulas : Formulas) (wanted : Bool) → sum_of partial_weight (divided kind conjunct left (each_signed formulas wanted))
        ≡ (weight_of_one kind formulas wanted + length (kind_of_one kind formulas wanted) * joining_weight kind left)
        + sum_of (weight_with conjunct left) (joined (kind_of_one kind formulas wanted) (completions kind left))
    weight_of_divided NoFormula wanted = omega arith
    weight_of_divided (AFormula is rest) wanted =
        let some = kind_dnf kind is wanted in let others = kind_of_one kind rest wanted in
        by_parts (formula_weight kind is wanted) (length some) (joining_weight kind left)
        (sum_of (weight_with conjunct left) (joined some (completions kind left)))
        (sum_of partial_weight (divided kind conjunct left (each_signed rest wanted))) (weight_of_one kind rest wanted) (length others)
        (sum_of (weight_with conjunct left) (joined others (completions kind left))) (length (some ++ others))
        (sum_of (weight_with conjunct left) (joined (some ++ others) (completions kind left)))
        (weight_of_divided rest wanted) (length-append some others)
        (ap (sum_of (weight_with conjunct left)) (joined_both some others (completions kind left))
        ∙ sum_of_both (weight_with conjunct left) (joined some (completions kind left)) (joined others (completions kind left)))
      where
        by_parts : (one count joining clauses rest others other_count other_clauses both_count both_clauses : ℕ)
            → rest ≡ (others + other_count * joining) + other_clauses → both_count ≡ count + other_count
            → both_clauses ≡ clauses + other_clauses
            → ((one + count * joining) + clauses) + rest ≡ ((one + others) + both_count * joining) + both_clauses
        by_parts one count joining clauses rest others other_count other_clauses both_count both_clauses same so together =
            let times = ap (λ n. n * joining) so ∙ add-mul count other_count joining in omega arith

    dividing_falls : (one : Signed) (members : List Signed) → IsDisjunction one members
        → sum_of partial_weight (divided kind conjunct left members) < partial_weight (partial kind conjunct (one ∷ left))
    dividing_falls _ _ (wants_one formulas) = let same = weight_of_divided formulas true in omega arith
    dividing_falls _ _ (refuses_one formulas) = let same = weight_of_divided formulas false in omega arith

-- a formula weighs something, and a conjunct
formula_weighs : (kind : Kind) (is : Formula) (wanted : Bool) → 0 < formula_weight kind is wanted
formula_weighs kind (And formulas) true = omega arith
formula_weighs kind (Or formulas) false = omega arith
formula_weighs kind (Not is) wanted = omega arith
formula_weighs kind _ wanted = omega arith

joining_weighs : (kind : Kind) (left : List Signed) → 0 < joining_weight kind left
joining_weighs kind [] = omega arith
joining_weighs kind (one ∷ left) = let first = formula_weighs kind one.0 one.1 in omega arith

-- where a conjunct goes on, what comes of it weighs less
more_falls : (first : Partial) (more : List Partial) → GoesOn first more → sum_of partial_weight more < partial_weight first
more_falls _ _ (unfolds kind conjunct one members left are) =
    let less = unfolding_falls kind one members left are in
    let same = ap (sum_of (weight_with kind conjunct left)) (completions_unfold kind one members left are) in omega arith
more_falls _ _ (divides kind conjunct one members left are) = dividing_falls kind conjunct left one members are
more_falls _ _ (extends kind conjunct one left) =
    let sum = extensions_weight kind conjunct left (kind_dnf kind one.0 one.1) in
    let first = formula_weighs kind one.0 one.1 in omega arith

work_falls : (known : List Question) (before after : Work) → Works known before after → work_weight after < work_weight before
work_falls known _ _ (goes_further first more conjuncts clause later branches goes) =
    let less = more_falls first more goes in let both = sum_of_both partial_weight more conjuncts in omega arith
work_falls known _ _ (cuts conjunct conjuncts clause later branches fails) =
    let one = joining_weighs conjunct.kind conjunct.left in omega arith
work_falls known _ _ (begins kind conjunct conjuncts before late task later same) =
    let tasks = ap (sum_of task_weight) same in
    let whole = ap (λ conjunct. clause_weight (clause_by kind conjunct)) (append-nil conjunct) in omega arith
work_falls known _ _ (drops conjuncts clause later task branches subsumed) = let one = task_weighs task in omega arith
work_falls known _ _ (splits conjuncts clause later task branches cases are) =
    let less = cases_fall task cases are in let both = sum_of_both task_weight cases branches in omega arith
work_falls known _ _ (goes_on conjuncts clause next later task branches) = let one = task_weighs task in omega arith

one_longer : {X : Type 0} (xs : List X) (x : X) → length (xs ++ x ∷ []) ≡ suc (length xs)
one_longer [] x = refl
one_longer (y ∷ xs) x = ap suc (one_longer xs x)

pub step_further : (graph : Graph) (settled : List Question) (before after : State) → Step graph settled before after → IsFurther before after
step_further graph settled _ _ (opens before question conjuncts new asks of accounts) = inr (inl (refl, one_longer before.list question))
step_further graph settled _ _ (knows before witness new is) = inl (one_longer before.witnesses witness)
step_further graph settled _ _ (works witnesses list place question before after frames step) =
    let less = work_falls (settled ++ list) before after step in inr (inr (refl, refl, omega arith))
step_further graph settled _ _ (finds witnesses list last frames e is) = inl (one_longer witnesses (last.question, e))
step_further graph settled _ _ (leaves witnesses list last frames is_done) = inr (inr (refl, refl, omega arith))
