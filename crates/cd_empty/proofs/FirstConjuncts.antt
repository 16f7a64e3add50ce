-- What is done for the first conjunct of a frame without branches is something that the machine
-- does.
use Rattle.std.proofs.Common.{◌≡◌, List, [], ◌∷◌, Option, Some, length, map, sym, ap, subst, ◌∙◌}
use Rattle.std.specs.Option.{option_map}
use Rattle.cd_model.specs.AllOf.{AllOf}
use Rattle.cd_model.specs.Formula.{Graph}
use Rattle.cd_model.specs.Kinds.{Kind}
use Rattle.cd_elements.specs.declared.shape.ElementId.{ElementId}
use Rattle.cd_elements.specs.Table.{element_at, pairs_of}
use Rattle.cd_rules.specs.Machine.{Work, work, Works, goes_further, cuts, begins}
use Rattle.cd_rules.proofs.WorkOfQuestion.{in_begun_clause}
use Rattle.cd_normal.specs.ConjunctsGoOn.{IsOfNodes, TopGoesOn, GoesBy}
use Rattle.cd_normal.specs.Partials.{partials}
use Rattle.cd_normal.specs.PlainClause.{plain_clause}
use Rattle.cd_normal.specs.declared.advance.Advance.TheVariants as advance
use Rattle.cd_normal.specs.declared.conjuncts.Conjuncts.{Conjuncts}
use Rattle.cd_normal.specs.declared.clause.Clause.{Clause as CodeClause}
use Rattle.cd_rules.specs.Dnf.{Conjunct}
use Rattle.cd_rules.specs.Clauses.{IsClauseOfQuestion}
use Rattle.cd_rules.specs.PartialConjuncts.{Partial, partial, clause_by, IsPartialOf}
use Rattle.cd_rules.specs.Tasks.{tasks_of}
use Rattle.cd_rules.proofs.Completions.{of_complete}
use Rattle.cd_tasks.specs.PlainTask.{plain_task}
use Rattle.cd_empty.specs.declared.decider.Decider.{Decider}
use Rattle.cd_empty.specs.declared.doing.Doing.{Doing}
use Rattle.cd_empty.specs.declared.doing.Doing.TheVariants.{Worked, Nothing, Wants, Found}
use Rattle.cd_empty.specs.declared.frame.Frame.{Frame}
use Rattle.cd_empty.specs.Inner.Doing.{IsDoing, StaysFit}
use Rattle.cd_empty.specs.Inner.Fit.{IsFit, IsPairNamed, IsFunctionSoFar}
use Rattle.cd_empty.specs.Inner.PlainFrame.{plain_work, known}
use Rattle.cd_empty.specs.Inner.Working.{IsLook, IsMember, Begins}
use Rattle.cd_empty.specs.Kept.{table}
use Rattle.cd_empty.proofs.FunctionsSoFar.{function_begins}

module _ (graph : Graph) (decider : Decider) (frame : Frame) where
  -- the frame with other conjuncts fits where these are of the graph
  with_conjuncts : (conjuncts : Conjuncts) → IsFit graph (table decider) frame → AllOf (IsOfNodes (length graph)) (partials conjuncts)
      → IsFit graph (table decider) (record frame { conjuncts = conjuncts })
  with_conjuncts conjuncts fit are = record { conjuncts = are; named = fit.named; function = fit.function }

  -- and is as it was where they are the same
  stays : (conjuncts : Conjuncts) → partials conjuncts ≡ partials frame.conjuncts → IsFit graph (table decider) frame
      → StaysFit graph decider frame (record frame { conjuncts = conjuncts })
  stays conjuncts same fit = (
    λ i. work (same i) (option_map plain_clause frame.clause) (map plain_task frame.later) (map plain_task frame.branches),
    with_conjuncts conjuncts fit (subst (AllOf (IsOfNodes (length graph))) (sym same) fit.conjuncts),
  )

  -- a look at its needs
  pub looked_at : (after : Conjuncts) (doing : Doing) → IsFit graph (table decider) frame
      → IsLook graph decider (partials frame.conjuncts) (partials after) (Some doing)
      → IsDoing graph decider frame (record frame { conjuncts = after }) doing
  looked_at after Worked fit (first, is, fails) = (
    subst (λ (conjuncts : List Partial). Works (known decider)
        (work conjuncts (option_map plain_clause frame.clause) (map plain_task frame.later) (map plain_task frame.branches))
        (plain_work (record frame { conjuncts = after }))) (sym is)
        (cuts first (partials after) (option_map plain_clause frame.clause) (map plain_task frame.later) (map plain_task frame.branches) fails),
    with_conjuncts after fit (subst (AllOf (IsOfNodes (length graph))) is fit.conjuncts).1,
  )
  looked_at after (Wants question) fit (same, unknown, asks) = (stays after same fit, unknown, asks)
  looked_at after Nothing fit is = absurd is
  looked_at after (Found id) fit is = absurd is

  -- no conjunct is left
  pub nothing_left : (after : Conjuncts) → GoesBy (partials frame.conjuncts) (partials after) advance.Nothing → frame.branches ≡ []
      → IsFit graph (table decider) frame → IsDoing graph decider frame (record frame { conjuncts = after }) Nothing
  nothing_left after (before_none, after_none) none fit =
      (stays after (after_none ∙ sym before_none) fit, (after_none, ap (map plain_task) none))

  -- the first conjunct goes on by its next formula
  pub went_on : (after : Conjuncts) → TopGoesOn (partials frame.conjuncts) (partials after) → IsFit graph (table decider) frame
      → AllOf (IsOfNodes (length graph)) (partials after) → IsDoing graph decider frame (record frame { conjuncts = after }) Worked
  went_on after (first, more, rest, before_is, after_is, goes) fit are =
      let clause = option_map plain_clause frame.clause in
      let later = map plain_task frame.later in
      let branches = map plain_task frame.branches in (
        subst (λ (conjuncts : List Partial). Works (known decider) (work conjuncts clause later branches) (work (partials after) clause later branches))
            (sym before_is)
            (subst (λ (conjuncts : List Partial). Works (known decider) (work (first ∷ rest) clause later branches) (work conjuncts clause later branches))
            (sym after_is) (goes_further first more rest clause later branches goes)),
        with_conjuncts after fit are,
      )

module _ (graph : Graph) (decider : Decider) (frame : Frame) (conjuncts : Conjuncts) (clause : CodeClause)
    (fit : IsFit graph (table decider) frame) (are : AllOf (IsOfNodes (length graph)) (partials conjuncts))
    (none : frame.branches ≡ []) where
  -- the clause of a complete conjunct is begun
  is_begun : (after : Frame) (kind : Kind) (conjunct : Conjunct) → partials frame.conjuncts ≡ partial kind conjunct [] ∷ partials conjuncts
      → plain_clause clause ≡ clause_by kind conjunct
      → Begins decider (plain_clause clause) (record frame { conjuncts = conjuncts }) after Worked
      → IsDoing graph decider frame after Worked
  is_begun after kind conjunct before_is clause_is (task, later, tasks, after_is, pairs) = (steps, fits)
    where
      steps : Works (known decider) (plain_work frame) (plain_work after)
      steps =
          let old = option_map plain_clause frame.clause in
          let late = map plain_task frame.later in
          let begun : Works (known decider) (work (partial kind conjunct [] ∷ partials conjuncts) old late [])
          (work (partials conjuncts) (Some (clause_by kind conjunct)) later (task ∷ [])) =
          begins kind conjunct (partials conjuncts) old late task later (ap tasks_of (sym clause_is) ∙ tasks) in
          let clause_path : work (partials conjuncts) (Some (clause_by kind conjunct)) later (task ∷ [])
          ≡ work (partials conjuncts) (Some (plain_clause clause)) later (task ∷ []) =
          λ i. work (partials conjuncts) (Some (sym clause_is i)) later (task ∷ []) in
          subst (λ (left : Work). Works (known decider) left (plain_work after))
          (λ i. work (sym before_is i) old late (map plain_task (sym none i)))
          (subst (Works (known decider) (work (partial kind conjunct [] ∷ partials conjuncts) old late [])) (clause_path ∙ sym after_is) begun)

      fits : IsFit graph (table decider) after
      fits = record {
        conjuncts = subst (AllOf (IsOfNodes (length graph))) (sym (ap (λ left. left.conjuncts) after_is)) are;
        named = subst (AllOf (IsPairNamed (table decider))) (sym pairs) tt;
        function = subst (λ (left : Work). IsFunctionSoFar graph left.clause (pairs_of (table decider) after.pairs.items) left.later left.branches)
            (sym after_is) (subst (λ (pairs : List (ElementId × Option ElementId)). IsFunctionSoFar graph (Some (plain_clause clause))
            (pairs_of (table decider) pairs) later (task ∷ [])) (sym pairs) (function_begins graph (plain_clause clause) task later tasks));
      }

  -- or it has no task, and the function without pairs is in it
  is_found : (after : Frame) (id : ElementId) (kind : Kind) (conjunct : Conjunct) → partials frame.conjuncts ≡ partial kind conjunct [] ∷ partials conjuncts
      → plain_clause clause ≡ clause_by kind conjunct → AllOf (IsPartialOf graph frame.question) (partials frame.conjuncts)
      → IsMember graph (table decider) (plain_clause clause) id
      → IsDoing graph decider frame after (Found id)
  is_found after id kind conjunct before_is clause_is partials (names, element, inside) =
      let first = (subst (AllOf (IsPartialOf graph frame.question)) before_is partials).0 in
      let of = of_complete (IsClauseOfQuestion graph frame.question) kind conjunct first in (
        names,
        in_begun_clause graph frame.question (plain_clause clause) (element_at (table decider) id)
            (subst (IsClauseOfQuestion graph frame.question) (sym clause_is) of) element inside,
      )

  pub clause_begun : (after : Frame) (doing : Doing) → GoesBy (partials frame.conjuncts) (partials conjuncts) (advance.Complete clause)
      → AllOf (IsPartialOf graph frame.question) (partials frame.conjuncts)
      → Begins decider (plain_clause clause) (record frame { conjuncts = conjuncts }) after doing
      → IsDoing graph decider frame after doing
  clause_begun after Worked (kind, conjunct, before_is, clause_is) partials begun = is_begun after kind conjunct before_is clause_is begun
  clause_begun after (Found id) (kind, conjunct, before_is, clause_is) partials begun =
      is_found after id kind conjunct before_is clause_is partials (begun graph)
  clause_begun after Nothing goes partials begun = absurd begun
  clause_begun after (Wants question) goes partials begun = absurd begun
