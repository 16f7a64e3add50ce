-- What comes of a look at a branch, and of an attempt at it, is something that the machine does.
use Rattle.std.proofs.Common.{◌≡◌, List, ◌∷◌, ◌++◌, length, map, refl, sym, ap, subst, ◌∙◌}
use Rattle.std.specs.Option.{option_map}
use Rattle.std.proofs.lemmas.List.{map-append}
use Rattle.cd_sets.specs.declared.question.Question.{Question}
use Rattle.cd_model.specs.AllOf.{AllOf, AnyOf}
use Rattle.cd_model.specs.Formula.{Graph}
use Rattle.cd_elements.specs.declared.shape.ElementId.{ElementId}
use Rattle.cd_elements.specs.Table.{Names, element_at, pairs_of}
use Rattle.cd_rules.specs.Machine.{work, Works, drops, splits}
use Rattle.cd_members.specs.Attempts.{IsElementFor}
use Rattle.cd_normal.specs.Partials.{partials}
use Rattle.cd_normal.specs.PlainClause.{plain_clause}
use Rattle.cd_rules.specs.Family.{IsSubsumed, AsksNodes}
use Rattle.cd_rules.specs.Tasks as rules
use Rattle.cd_rules.specs.Tasks.{AreCases, questions_of}
use Rattle.cd_rules.proofs.Among.{of_each}
use Rattle.cd_tasks.specs.PlainTask.{plain_task}
use Rattle.cd_tasks.specs.declared.task.Task.{Task}
use Rattle.cd_empty.specs.declared.decider.Decider.{Decider}
use Rattle.cd_empty.specs.declared.doing.Doing.TheVariants.{Worked, Wants, Found}
use Rattle.cd_empty.specs.declared.frame.Frame.{Frame}
use Rattle.cd_empty.specs.Inner.Doing.{IsDoing, IsUnknown}
use Rattle.cd_empty.specs.Inner.Fit.{IsFit, IsFunctionSoFar}
use Rattle.cd_empty.specs.Inner.PlainFrame.{plain_work, known}
use Rattle.cd_empty.specs.Inner.Working.{IsReady, with_branch}
use Rattle.cd_empty.specs.Kept.{table}
use Rattle.cd_empty.proofs.FunctionsSoFar.{made_is_witness, function_drops, function_splits}

-- a frame is itself with these branches, where they are its own
pub same_frame : (frame : Frame) (branches : List Task) → frame.branches ≡ branches → frame ≡ record frame { branches = branches }
same_frame frame branches same = λ i. record frame { branches = same i }

module _ (graph : Graph) (decider : Decider) (frame : Frame) (branch : Task) where
  -- a question of the branch is subsumed
  pub dropped : IsFit graph (table decider) (with_branch branch frame)
      → AnyOf (λ question. IsSubsumed question (known decider)) (questions_of (plain_task branch))
      → IsDoing graph decider (with_branch branch frame) frame Worked
  dropped fit subsumed = (
    drops (partials frame.conjuncts) (option_map plain_clause frame.clause) (map plain_task frame.later) (plain_task branch)
        (map plain_task frame.branches) subsumed,
    record {
      conjuncts = fit.conjuncts;
      named = fit.named;
      function = function_drops graph (option_map plain_clause frame.clause) (pairs_of (table decider) frame.pairs.items)
          (map plain_task frame.later) (plain_task branch) (map plain_task frame.branches) fit.function;
    },
  )

  -- nothing is known of a question, and the branch is put back
  pub put_back : (branches : List Task) (question : Question) → branches ≡ branch ∷ frame.branches
      → IsFit graph (table decider) (with_branch branch frame) → IsUnknown decider question → AsksNodes (length graph) question
      → IsDoing graph decider (with_branch branch frame) (record frame { branches = branches }) (Wants question)
  put_back branches question put fit unknown asks =
      subst (λ (branches : List Task). IsDoing graph decider (with_branch branch frame) (record frame { branches = branches }) (Wants question))
      (sym put) ((refl, fit), unknown, asks)

  -- so where it is one of the branch
  pub wanted : (branches : List Task) (question : Question) → branches ≡ branch ∷ frame.branches
      → IsFit graph (table decider) (with_branch branch frame)
      → AllOf (AsksNodes (length graph)) (questions_of (plain_task branch))
      → AnyOf (λ other. other ≡ question) (questions_of (plain_task branch)) → IsUnknown decider question
      → IsDoing graph decider (with_branch branch frame) (record frame { branches = branches }) (Wants question)
  wanted branches question put fit asks one unknown = put_back branches question put fit unknown
      (of_each (AsksNodes (length graph)) (questions_of (plain_task branch)) question asks one)

  -- the branch becomes its cases
  pub split : (cases branches : List Task) → branches ≡ cases ++ frame.branches
      → IsFit graph (table decider) (with_branch branch frame) → AreCases (plain_task branch) (map plain_task cases)
      → IsDoing graph decider (with_branch branch frame) (record frame { branches = branches }) Worked
  split cases branches put fit are =
      let plain = ap (map plain_task) put ∙ map-append plain_task cases frame.branches in
      let clause = option_map plain_clause frame.clause in
      let later = map plain_task frame.later in
      let rest = map plain_task frame.branches in (
        subst (λ (branches : List rules.Task). Works (known decider) (plain_work (with_branch branch frame)) (work (partials frame.conjuncts) clause later branches))
            (sym plain) (splits (partials frame.conjuncts) clause later (plain_task branch) rest (map plain_task cases) are),
        record {
          conjuncts = fit.conjuncts;
          named = fit.named;
          function = subst (IsFunctionSoFar graph clause (pairs_of (table decider) frame.pairs.items) later) (sym plain)
              (function_splits graph clause (pairs_of (table decider) frame.pairs.items) later (plain_task branch)
              (map plain_task cases) rest are fit.function);
        },
      )

  -- an element is made for the branch
  pub made : (after : Frame) (id : ElementId) → IsReady graph decider (with_branch branch frame) → Names (table decider) id
      → IsElementFor graph (plain_task branch) (element_at (table decider) id)
      → IsDoing graph decider (with_branch branch frame) after (Found id)
  made after id ready named serves = (
    named,
    made_is_witness graph frame.question (option_map plain_clause frame.clause) (plain_task branch) (map plain_task frame.branches)
        (element_at (table decider) id) ready.work.branches_are serves,
  )
