-- Functions that are made pair by pair, while the tasks of a clause are done.
use Rattle.std.proofs.Common.{◌≡◌, List, [], ◌∷◌, ◌++◌, Option, Some, None, refl, sym, ap, subst, ◌∙◌}
use Rattle.cd_sets.specs.declared.question.Question.{Question}
use Rattle.cd_model.specs.Formula.{Graph}
use Rattle.cd_model.specs.Kinds.{AFunction, kind_of}
use Rattle.cd_model.specs.Membership.{reader}
use Rattle.cd_model.specs.Thing as thing
use Rattle.cd_model.specs.Thing.{Thing, NoPair, Function, IsElement}
use Rattle.cd_elements.specs.declared.shape.ElementId.{ElementId}
use Rattle.cd_elements.specs.Table.{Names, element_at, pairs_of}
use Rattle.cd_rules.specs.Machine.{IsWitness}
use Rattle.cd_rules.specs.Right.{AreTasksOf}
use Rattle.cd_rules.proofs.WorkOfQuestion.{in_begun_clause}
use Rattle.cd_members.specs.Attempts.{IsElementFor, IsForArrow, IsPairFor}
use Rattle.cd_normal.specs.PlainClause.{plain_clause}
use Rattle.cd_normal.specs.declared.clause.Clause.{Clause as CodeClause}
use Rattle.cd_normal.specs.declared.clause.Clause.TheVariants as code
use Rattle.cd_rules.specs.Clauses.{Clause, Ints, Chars, Atoms, Pairs, Xmls, Records, Arrows, Pair, IsInClause}
use Rattle.cd_rules.specs.MadeForTasks.{IsFunctionBut, arrows_of}
use Rattle.cd_rules.specs.Tasks.{Task, PairTask, XmlTask, ArrowTask, RecordTask, AreCases, IsForClause, tasks_of}
use Rattle.cd_rules.proofs.MembersOfTasks.{function_of_none, arrows_at_first, arrows_of_cases, function_of_arrows}
use Rattle.cd_model.proofs.Ones.{each_weaker, each_of_lists}
use Rattle.cd_empty.specs.Inner.Fit.{IsFunctionSoFar}
use Rattle.cd_empty.specs.Inner.Working.{IsMember}

-- a task for a refused arrow is one of a clause of arrows
arrows_alone : (clause : Clause) (task : Task) → IsForClause clause task → IsForArrow task
    → (wanted : List Pair) × (refused : List Pair) × (clause ≡ Arrows wanted refused)
arrows_alone clause (PairTask wanted refused given left) serves arrow = absurd (cc (arrow.1))
arrows_alone clause (XmlTask wanted refused given left) serves arrow = absurd (cc (arrow.1))
arrows_alone clause (RecordTask wanted refused given left) serves arrow = absurd (cc (arrow.1))
arrows_alone (Arrows wanted refused) (ArrowTask one some given left) serves arrow = (wanted, refused, refl)
arrows_alone (Ints wanted refused) (ArrowTask one some given left) serves arrow = absurd serves
arrows_alone (Chars wanted refused) (ArrowTask one some given left) serves arrow = absurd serves
arrows_alone (Atoms wanted refused) (ArrowTask one some given left) serves arrow = absurd serves
arrows_alone (Pairs wanted refused) (ArrowTask one some given left) serves arrow = absurd serves
arrows_alone (Xmls wanted refused) (ArrowTask one some given left) serves arrow = absurd serves
arrows_alone (Records wanted refused) (ArrowTask one some given left) serves arrow = absurd serves

-- an element for a branch is one of the question
pub made_is_witness : (graph : Graph) (question : Question) (clause : Option Clause) (task : Task) (rest : List Task) (e : Thing)
    → AreTasksOf graph question clause (task ∷ rest) → IsElementFor graph task e → IsWitness graph (question, e)
made_is_witness graph question None task rest e none serves = absurd (cc none)
made_is_witness graph question (Some clause) task rest e (of, are) serves =
    in_begun_clause graph question clause e of serves.0 (serves.1 clause are.0)

module _ (graph : Graph) (question : Question) where
  -- the function of a clause without tasks that are left, with the pair of its last task, is an element of the question
  of_arrows : (clause : Clause) (task : Task) (rest : List Task) (pairs : thing.Pairs) (pair : thing.Pairs → thing.Pairs)
      → (wanted : List Pair) × (refused : List Pair) × (clause ≡ Arrows wanted refused)
      → AreTasksOf graph question (Some clause) (task ∷ rest) → IsPairFor graph task pair
      → IsFunctionSoFar graph (Some clause) pairs [] (task ∷ rest) → IsWitness graph (question, Function (pair pairs))
  of_arrows clause task rest pairs pair (wanted, refused, is) tasks serves so_far =
      let arrows_are = subst (λ (clause : Clause). AreTasksOf graph question (Some clause) (task ∷ rest)) is tasks in
      let but = subst (λ (clause : Clause). IsFunctionSoFar graph (Some clause) pairs [] (task ∷ rest)) is so_far in
      let made = function_of_arrows graph wanted refused (pair pairs) (serves wanted refused [] pairs arrows_are.1.0 but.0) in
      in_begun_clause graph question (Arrows wanted refused) (Function (pair pairs)) arrows_are.0 made.0 made.1

  pub function_found : (clause : Option Clause) (task : Task) (rest : List Task) (pairs : thing.Pairs)
      (pair : thing.Pairs → thing.Pairs) → AreTasksOf graph question clause (task ∷ rest) → IsForArrow task
      → IsPairFor graph task pair → IsFunctionSoFar graph clause pairs [] (task ∷ rest)
      → IsWitness graph (question, Function (pair pairs))
  function_found None task rest pairs pair none arrow serves so_far = absurd (cc none)
  function_found (Some clause) task rest pairs pair tasks arrow serves so_far =
      of_arrows clause task rest pairs pair (arrows_alone clause task tasks.1.0.0 arrow) tasks serves so_far

  -- with the pair of a task, the next one is left
  pub function_goes_on : (clause : Option Clause) (task next : Task) (later rest : List Task) (pairs : thing.Pairs)
      (pair : thing.Pairs → thing.Pairs) → AreTasksOf graph question clause (task ∷ rest) → IsPairFor graph task pair
      → IsFunctionSoFar graph clause pairs (next ∷ later) (task ∷ rest)
      → IsFunctionSoFar graph clause (pair pairs) later (next ∷ [])
  function_goes_on (Some (Arrows wanted refused)) task next later rest pairs pair tasks serves so_far =
      (serves wanted refused (next ∷ later) pairs tasks.1.0 so_far.0, tt)
  function_goes_on None task next later rest pairs pair tasks serves so_far = tt
  function_goes_on (Some (Ints wanted refused)) task next later rest pairs pair tasks serves so_far = tt
  function_goes_on (Some (Chars wanted refused)) task next later rest pairs pair tasks serves so_far = tt
  function_goes_on (Some (Atoms wanted refused)) task next later rest pairs pair tasks serves so_far = tt
  function_goes_on (Some (Pairs wanted refused)) task next later rest pairs pair tasks serves so_far = tt
  function_goes_on (Some (Xmls wanted refused)) task next later rest pairs pair tasks serves so_far = tt
  function_goes_on (Some (Records wanted refused)) task next later rest pairs pair tasks serves so_far = tt

-- a branch goes, or becomes its cases
pub function_drops : (graph : Graph) (clause : Option Clause) (pairs : thing.Pairs) (later : List Task) (task : Task) (rest : List Task)
    → IsFunctionSoFar graph clause pairs later (task ∷ rest) → IsFunctionSoFar graph clause pairs later rest
function_drops graph (Some (Arrows wanted refused)) pairs later task rest so_far = so_far.1
function_drops graph None pairs later task rest so_far = tt
function_drops graph (Some (Ints wanted refused)) pairs later task rest so_far = tt
function_drops graph (Some (Chars wanted refused)) pairs later task rest so_far = tt
function_drops graph (Some (Atoms wanted refused)) pairs later task rest so_far = tt
function_drops graph (Some (Pairs wanted refused)) pairs later task rest so_far = tt
function_drops graph (Some (Xmls wanted refused)) pairs later task rest so_far = tt
function_drops graph (Some (Records wanted refused)) pairs later task rest so_far = tt

pub function_splits : (graph : Graph) (clause : Option Clause) (pairs : thing.Pairs) (later : List Task) (task : Task)
    (cases rest : List Task) → AreCases task cases → IsFunctionSoFar graph clause pairs later (task ∷ rest)
    → IsFunctionSoFar graph clause pairs later (cases ++ rest)
function_splits graph (Some (Arrows wanted refused)) pairs later task cases rest are so_far =
    each_of_lists (λ case. IsFunctionBut graph wanted refused (arrows_of (case ∷ later)) pairs) cases rest
    (each_weaker (λ case. arrows_of (case ∷ later) ≡ arrows_of (task ∷ later))
    (λ case. IsFunctionBut graph wanted refused (arrows_of (case ∷ later)) pairs)
    (λ case same. subst (λ (arrows : List Pair). IsFunctionBut graph wanted refused arrows pairs) (sym same) so_far.0)
    cases (arrows_of_cases task cases later are)) so_far.1
function_splits graph None pairs later task cases rest are so_far = tt
function_splits graph (Some (Ints wanted refused)) pairs later task cases rest are so_far = tt
function_splits graph (Some (Chars wanted refused)) pairs later task cases rest are so_far = tt
function_splits graph (Some (Atoms wanted refused)) pairs later task cases rest are so_far = tt
function_splits graph (Some (Pairs wanted refused)) pairs later task cases rest are so_far = tt
function_splits graph (Some (Xmls wanted refused)) pairs later task cases rest are so_far = tt
function_splits graph (Some (Records wanted refused)) pairs later task cases rest are so_far = tt

-- at first there is no pair
but_all : (graph : Graph) (wanted refused : List Pair) (tasks : List Task) → tasks_of (Arrows wanted refused) ≡ tasks
    → IsFunctionBut graph wanted refused (arrows_of tasks) NoPair
but_all graph wanted refused tasks are =
    subst (λ (tasks : List Task). IsFunctionBut graph wanted refused (arrows_of tasks) NoPair) are
    (subst (λ (arrows : List Pair). IsFunctionBut graph wanted refused arrows NoPair) (sym (arrows_at_first wanted refused))
    (function_of_none graph wanted refused))

pub function_begins : (graph : Graph) (clause : Clause) (task : Task) (later : List Task) → tasks_of clause ≡ task ∷ later
    → IsFunctionSoFar graph (Some clause) NoPair later (task ∷ [])
function_begins graph (Arrows wanted refused) task later are = (but_all graph wanted refused (task ∷ later) are, tt)
function_begins graph (Ints wanted refused) task later are = tt
function_begins graph (Chars wanted refused) task later are = tt
function_begins graph (Atoms wanted refused) task later are = tt
function_begins graph (Pairs wanted refused) task later are = tt
function_begins graph (Xmls wanted refused) task later are = tt
function_begins graph (Records wanted refused) task later are = tt

-- where there is no task, it is in the clause
pub function_without_tasks : (graph : Graph) (clause : CodeClause) → tasks_of (plain_clause clause) ≡ []
    → IsElement (Function NoPair) × IsInClause AFunction (reader graph (Function NoPair)) (plain_clause clause)
function_without_tasks graph (code.Pairs wanted refused) none = absurd (cc none)
function_without_tasks graph (code.Xmls wanted refused) none = absurd (cc none)
function_without_tasks graph (code.Records wanted refused) none = absurd (cc none)
function_without_tasks graph (code.Arrows wanted refused) none =
    function_of_arrows graph wanted.value.items refused.value.items NoPair
    (but_all graph wanted.value.items refused.value.items [] none)

pub member_without_tasks : (graph : Graph) (table : List Thing) (clause : CodeClause) (id : ElementId)
    (pairs : List (ElementId × Option ElementId)) → pairs ≡ [] → tasks_of (plain_clause clause) ≡ []
    → Names table id × (element_at table id ≡ Function (pairs_of table pairs)) → IsMember graph table (plain_clause clause) id
member_without_tasks graph table clause id pairs no_pairs none (names, is) =
    let made = is ∙ ap (λ (pairs : List (ElementId × Option ElementId)). Function (pairs_of table pairs)) no_pairs in
    let both = subst (λ (e : Thing). IsElement e × IsInClause (kind_of e) (reader graph e) (plain_clause clause)) (sym made)
    (function_without_tasks graph clause none) in
    (names, both.0, both.1)

-- no tasks were put where none is
pub none_put : {X : Type 0} (tasks before after : List X) → after ≡ tasks ++ before → after ≡ [] → tasks ≡ []
none_put [] before after put none = refl
none_put (task ∷ tasks) before after put none = absurd cc
