-- What may come of each state of the machine. A step is right where whatever may come of the new
-- state may come of the old one.
use Rattle.std.specs.Prelude.{List, [], ◌∷◌}
use Rattle.cd_model.specs.Thing.{Thing, Pair}
use Rattle.cd_matching.specs.Sequences.{nil, items}
use Rattle.cd_program.specs.Expr.{AnExpr}
use Rattle.cd_evaluation.specs.Runs.{Outcome, Done, Raised, Stuck, Result, Run, ends, ticked}
use Rattle.cd_evaluation.specs.Runs.{on_value, on_raised, followed, bound, for_each}
use Rattle.cd_evaluation.specs.Environment.{with_all}
use Rattle.cd_evaluation.specs.Lists.{before}
use Rattle.cd_evaluation.specs.RecordFields.{put}
use Rattle.cd_evaluation.specs.Operations.{truth_of, operate, word_outcome, xml}
use Rattle.cd_evaluation.specs.Code.{Code}
use Rattle.cd_evaluation.specs.Evaluation.{by_pattern, items_or_stuck, by_truth, mapped, joined}
use Rattle.cd_evaluation.specs.Evaluation.{eval, eval_tuple, eval_items, eval_fields, eval_tails}
use Rattle.cd_evaluation.specs.Evaluation.{applied_to, chosen}
use Rattle.cd_evaluation.specs.Machine.{Frame, First, Second, Iteming, Splicing, Fielding, Tagging}
use Rattle.cd_evaluation.specs.Machine.{Attributing, Filling, Called, Argument, Matching, Trying}
use Rattle.cd_evaluation.specs.Machine.{Letting, Asking, Wording, Tailing, Operating, Listing}
use Rattle.cd_evaluation.specs.Machine.{Mapping, Sifting, Joining}
use Rattle.cd_evaluation.specs.Machine.{Control, Evaluating, Returning, State}

module _ (code : Code) (call : Thing → Thing → Run) where
  -- what a frame does with a value
  abbrev pub resumes : Frame → Thing → Run
  resumes (First next rest env) v =
      bound (eval_tuple code call (AnExpr next rest) env) (λ w. ends (Done (Pair v w)))
  resumes (Second first) v = ends (Done (Pair first v))
  resumes (Iteming done rest env) v = eval_items code call rest env (v ∷ done)
  resumes (Splicing done rest env) v = ticked (items_or_stuck (items v)
      (λ all. eval_items code call rest env (before all done)))
  resumes (Fielding done label rest env) v = eval_fields code call rest env (put label v done)
  resumes (Tagging attributes content env) v = bound (eval code call attributes env) (λ w.
      bound (eval code call content env) (λ last. ends (xml v w last)))
  resumes (Attributing tag content env) v =
      bound (eval code call content env) (λ last. ends (xml tag v last))
  resumes (Filling tag attributes) v = ends (xml tag attributes v)
  resumes (Called arguments env) v = applied_to code call arguments env v
  resumes (Argument self arguments env) v =
      bound (ticked (call self v)) (λ w. applied_to code call arguments env w)
  resumes (Matching branches env) v = ticked (chosen code call branches env v Stuck)
  resumes (Trying branches env) v = ends (Done v)
  resumes (Letting pattern rest env) v = ticked (by_pattern code pattern v
      (λ own. eval code call rest (with_all own env)) (ends Stuck))
  resumes (Asking then_one else_one env) v = ticked (by_truth (truth_of v)
      (eval code call then_one env) (eval code call else_one env))
  resumes (Wording word) v = ticked (ends (word_outcome word v))
  resumes (Tailing tails env) v = eval_tails code call tails env v
  resumes (Operating op left rest env) v =
      bound (ticked (ends (operate op left v))) (λ w. eval_tails code call rest env w)
  resumes (Listing branches env) v = items_or_stuck (items v) (λ all.
      for_each (λ w. chosen code call branches env w Stuck) all (λ ws. ends (mapped ws)))
  resumes (Mapping branches env done left) v =
      for_each (λ w. chosen code call branches env w Stuck) left
      (λ ws. ends (mapped (before done (v ∷ ws))))
  resumes (Sifting branches env) v = items_or_stuck (items v) (λ all.
      for_each (λ w. chosen code call branches env w (Done nil)) all (λ ws. ends (joined ws)))
  resumes (Joining branches env done left) v =
      for_each (λ w. chosen code call branches env w (Done nil)) left
      (λ ws. ends (joined (before done (v ∷ ws))))

  -- `try` takes values that were raised; any other frame takes values
  abbrev pub back : Frame → Outcome → Run
  back (Trying branches env) =
      on_raised (λ v. ticked (chosen code call branches env v (Raised v)))
  back frame = on_value (resumes frame)

  -- an outcome goes back through all frames
  abbrev pub through : List Frame → Outcome → Run
  through [] = ends
  through (frame ∷ stack) = λ outcome. followed (back frame outcome) (through stack)

  abbrev pub control_run : Control → Run
  control_run (Evaluating e env) = eval code call e env
  control_run (Returning outcome) = ends outcome

  -- a result that a state may come to
  abbrev pub Ends : State → Result → Type 0
  Ends state result =
      followed (control_run state.control) (through state.stack) state.units result

  -- a step from the old state to the new one is right
  abbrev pub Keeps : (old new : State) → Type 0
  Keeps old new = (result : Result) → Ends new result → Ends old result
