-- What comes of one more pair of a function is something that the machine does.
use Rattle.std.proofs.Common.{◌≡◌, List, [], ◌∷◌, ◌++◌, Option, length, map, sym, ap, subst}
use Rattle.std.specs.Option.{option_map}
use Rattle.cd_model.specs.AllOf.{AllOf}
use Rattle.cd_model.specs.Formula.{Graph}
use Rattle.cd_model.specs.Thing.{Thing, Function}
use Rattle.cd_elements.specs.declared.shape.ElementId.{ElementId}
use Rattle.cd_elements.specs.Table.{element_at, result_at, pair_before, pairs_of}
use Rattle.cd_rules.specs.Machine.{Work, work, Works, IsWitness, goes_on}
use Rattle.cd_members.specs.Attempts.{IsForArrow, IsPairFor, IsAttempt}
use Rattle.cd_members.specs.declared.attempt.Attempt.TheVariants.{Maps}
use Rattle.cd_normal.specs.ConjunctsGoOn.{IsOfNodes}
use Rattle.cd_normal.specs.Partials.{partials}
use Rattle.cd_normal.specs.PlainClause.{plain_clause}
use Rattle.cd_rules.specs.Clauses.{Clause}
use Rattle.cd_rules.specs.Tasks as rules
use Rattle.cd_tasks.specs.PlainTask.{plain_task}
use Rattle.cd_tasks.specs.declared.task.Task.{Task}
use Rattle.cd_empty.specs.declared.decider.Decider.{Decider}
use Rattle.cd_empty.specs.declared.doing.Doing.{Doing}
use Rattle.cd_empty.specs.declared.doing.Doing.TheVariants.{Worked, Nothing, Wants, Found}
use Rattle.cd_empty.specs.declared.frame.Frame.{Frame}
use Rattle.cd_empty.specs.Inner.Doing.{IsDoing}
use Rattle.cd_empty.specs.Inner.Fit.{IsFit, IsPairNamed, IsFunctionSoFar}
use Rattle.cd_empty.specs.Inner.PlainFrame.{plain_work, known}
use Rattle.cd_empty.specs.Inner.Working.{IsReady, AddsElements, AddsPair, with_branch}
use Rattle.cd_empty.specs.Kept.{table}
use Rattle.cd_empty.proofs.FunctionsSoFar.{function_found, function_goes_on}
use Rattle.cd_empty.proofs.LongerTables.{named_longer, element_longer, result_longer, result_same}
use Rattle.cd_empty.proofs.SoundDeciders.{ready_again, sound_with_more}

-- the pair is for the task, by the elements of this table
abbrev pub IsPairOfTask : Graph → List Thing → rules.Task → ElementId × Option ElementId → Type 0
IsPairOfTask graph table task pair = IsForArrow task
    × IsPairFor graph task (pair_before (element_at table pair.0) (result_at table pair.1))

module _ (graph : Graph) (decider : Decider) (frame after : Frame) (branch : Task) (pair : ElementId × Option ElementId)
    (ready : IsReady graph decider (with_branch branch frame)) (named : IsPairNamed (table decider) pair)
    (serves : IsPairOfTask graph (table decider) (plain_task branch) pair) where
  -- the next task is begun
  goes_to_next : AddsPair decider pair frame after Worked → IsDoing graph decider (with_branch branch frame) after Worked
  goes_to_next (next, later, begun, conjuncts, clause, pairs) = (steps, fits)
    where
      plain_clauses : option_map plain_clause after.clause ≡ option_map plain_clause frame.clause
      plain_clauses = ap (option_map plain_clause) clause

      plain_later : map plain_task frame.later ≡ plain_task next ∷ map plain_task after.later
      plain_later = ap (map plain_task) later

      plain_begun : map plain_task after.branches ≡ plain_task next ∷ []
      plain_begun = ap (map plain_task) begun

      steps : Works (known decider) (plain_work (with_branch branch frame)) (plain_work after)
      steps =
          let old = option_map plain_clause frame.clause in
          let rest = map plain_task frame.branches in
          let late = map plain_task after.later in
          let step : Works (known decider) (work (partials frame.conjuncts) old (plain_task next ∷ late) (plain_task branch ∷ rest))
          (work (partials frame.conjuncts) old late (plain_task next ∷ [])) =
          goes_on (partials frame.conjuncts) old (plain_task next) late (plain_task branch) rest in
          subst (λ (left : Work). Works (known decider) left (plain_work after))
          (λ i. work (partials frame.conjuncts) old (sym plain_later i) (plain_task branch ∷ rest))
          (subst (Works (known decider) (work (partials frame.conjuncts) old (plain_task next ∷ late) (plain_task branch ∷ rest)))
          (λ i. work (sym conjuncts i) (sym plain_clauses i) late (sym plain_begun i)) step)

      so_far : IsFunctionSoFar graph (option_map plain_clause frame.clause)
          (pairs_of (table decider) frame.pairs.items) (plain_task next ∷ map plain_task after.later)
          (plain_task branch ∷ map plain_task frame.branches)
      so_far = subst (λ (later : List rules.Task). IsFunctionSoFar graph (option_map plain_clause frame.clause)
          (pairs_of (table decider) frame.pairs.items) later (plain_task branch ∷ map plain_task frame.branches))
          plain_later ready.fit.function

      on : IsFunctionSoFar graph (option_map plain_clause frame.clause) (pairs_of (table decider) (pair ∷ frame.pairs.items))
          (map plain_task after.later) (plain_task next ∷ [])
      on = function_goes_on graph frame.question (option_map plain_clause frame.clause) (plain_task branch) (plain_task next)
          (map plain_task after.later) (map plain_task frame.branches) (pairs_of (table decider) frame.pairs.items)
          (pair_before (element_at (table decider) pair.0) (result_at (table decider) pair.1)) ready.work.branches_are serves.1 so_far

      fits : IsFit graph (table decider) after
      fits = record {
        conjuncts = subst (AllOf (IsOfNodes (length graph))) (sym conjuncts) ready.fit.conjuncts;
        named = subst (AllOf (IsPairNamed (table decider))) (sym pairs) (named, ready.fit.named);
        function = subst (λ (branches : List rules.Task). IsFunctionSoFar graph (option_map plain_clause after.clause)
            (pairs_of (table decider) after.pairs.items) (map plain_task after.later) branches) (sym plain_begun)
            (subst (λ (pairs : List (ElementId × Option ElementId)). IsFunctionSoFar graph (option_map plain_clause after.clause)
            (pairs_of (table decider) pairs) (map plain_task after.later) (plain_task next ∷ [])) (sym pairs)
            (subst (λ (clause : Option Clause). IsFunctionSoFar graph clause
            (pairs_of (table decider) (pair ∷ frame.pairs.items)) (map plain_task after.later) (plain_task next ∷ []))
            (sym plain_clauses) on));
      }

  -- the function is found
  is_found : (id : ElementId) → AddsPair decider pair frame after (Found id)
      → IsDoing graph decider (with_branch branch frame) after (Found id)
  is_found id (none, names, is) = (names, subst (λ (e : Thing). IsWitness graph (frame.question, e)) (sym is) witness)
    where
      so_far : IsFunctionSoFar graph (option_map plain_clause frame.clause)
          (pairs_of (table decider) frame.pairs.items) [] (plain_task branch ∷ map plain_task frame.branches)
      so_far = subst (λ (later : List Task). IsFunctionSoFar graph (option_map plain_clause frame.clause)
          (pairs_of (table decider) frame.pairs.items) (map plain_task later) (plain_task branch ∷ map plain_task frame.branches))
          none ready.fit.function

      witness : IsWitness graph (frame.question, Function (pairs_of (table decider) (pair ∷ frame.pairs.items)))
      witness = function_found graph frame.question (option_map plain_clause frame.clause) (plain_task branch)
          (map plain_task frame.branches) (pairs_of (table decider) frame.pairs.items)
          (pair_before (element_at (table decider) pair.0) (result_at (table decider) pair.1)) ready.work.branches_are
          serves.0 serves.1 so_far

  pub pair_added : (doing : Doing) → AddsPair decider pair frame after doing → IsDoing graph decider (with_branch branch frame) after doing
  pair_added Worked adds = goes_to_next adds
  pair_added (Found id) adds = is_found id adds
  pair_added Nothing adds = absurd adds
  pair_added (Wants question) adds = absurd adds

-- the pair stays for the task in a longer table
pair_longer : (graph : Graph) (table more : List Thing) (task : rules.Task) (pair : ElementId × Option ElementId)
    → IsPairNamed table pair → IsPairOfTask graph table task pair
    → IsPairNamed (table ++ more) pair × IsPairOfTask graph (table ++ more) task pair
pair_longer graph table more task pair named serves = (
  (named_longer table more pair.0 named.0, result_longer table more pair.1 named.1),
  (
    serves.0,
    subst (IsPairFor graph task)
        (λ i. pair_before (sym (element_longer table more pair.0 named.0) i) (sym (result_same table more pair.1 named.1) i)) serves.1,
  ),
)

-- so where an attempt gave the pair, what comes of it is something that is done for the frame
pub pair_worked : (graph : Graph) (before after : Decider) (frame last : Frame) (branch : Task) (parts : List Thing)
    (from : ElementId) (to : Option ElementId) (doing : Doing) → IsReady graph before (with_branch branch frame)
    → IsAttempt graph (table before) (plain_task branch) parts (Maps from to) → AddsElements before after
    → AddsPair after (from, to) frame last doing → IsDoing graph after (with_branch branch frame) last doing
pair_worked graph before after frame last branch parts from to doing ready (names, result, arrow, serves) adds is =
    pair_added graph after frame last branch (from, to) again both.0 both.1 doing is
  where
    again : IsReady graph after (with_branch branch frame)
    again = ready_again graph before after (with_branch branch frame) adds.known
        (sound_with_more graph before after adds ready.sound) ready

    both : IsPairNamed (table after) (from, to) × IsPairOfTask graph (table after) (plain_task branch) (from, to)
    both = subst (λ (table : List Thing). IsPairNamed table (from, to) × IsPairOfTask graph table (plain_task branch) (from, to))
        (sym adds.known.table.1) (pair_longer graph (table before) adds.known.table.0 (plain_task branch) (from, to)
        (names, result) (arrow, serves))
