-- Evaluation is put together from few parts: a relation of runs that these keep holds of the runs of
-- each expression, with two meanings of application that it holds of.
use Rattle.std.proofs.Common.{Bool, true, false, List, [], ◌∷◌, map, Option, Some, None}
use Rattle.cd_syntax.specs.TypeTree.{Tree}
use Rattle.cd_model.specs.Thing as thing
use Rattle.cd_model.specs.Thing.{Thing, Character}
use Rattle.cd_matching.specs.Sequences.{nil, items}
use Rattle.cd_program.specs.declared.operator.Op.{Op}
use Rattle.cd_program.specs.declared.operator.Op.TheVariants as op
use Rattle.cd_program.specs.Expr as form
use Rattle.cd_program.specs.Expr.{Expr, expr, Kind, Exprs, NoExpr, AnExpr, Items, NoItem, AnItem, One, Splice}
use Rattle.cd_program.specs.Expr.{Tails, NoTail, ATail, Tail, Operand, Without, Select}
use Rattle.cd_program.specs.Expr.{Branches, NoBranch, ABranch, FunctionTree, function}
use Rattle.cd_evaluation.specs.Runs.{Outcome, Done, Raised, Overflow, Spent, Stuck, Run, ends, ticked, on_value, on_raised, followed, bound, for_each}
use Rattle.cd_evaluation.specs.Environment.{Env, with_all, with_name}
use Rattle.cd_evaluation.specs.RecordFields.{put}
use Rattle.cd_evaluation.specs.Lists.{before}
use Rattle.cd_evaluation.specs.Operations.{truth_of, operate}
use Rattle.cd_evaluation.specs.Code.{Code}
use Rattle.cd_evaluation.specs.Evaluation.{picked, by_pattern, items_or_stuck, by_truth, operated, mapped, joined}
use Rattle.cd_evaluation.specs.Evaluation.{eval, eval_kind, eval_tuple, eval_items, eval_fields, eval_tails, eval_tail, applied, applied_to, chosen}
use Rattle.cd_evaluation.specs.Meaning.{enter}

-- an answer of a pattern, and what is done with it
abbrev pub answered : (code : Code) → Tree → Thing → (Option Env → Run) → Run
answered code pattern v next units result =
    (answer : Option Env) × code.take pattern v answer × next answer units result

-- a relation that holds of the parts holds of what is made of them
pub record IsCongruence (code : Code) (Same : Run → Run → Type 0) : Type 1 where
  pub of_end : (outcome : Outcome) → Same (ends outcome) (ends outcome)
  pub of_two : (one other : Run) (next next' : Outcome → Run) → Same one other
      → ((outcome : Outcome) → Same (next outcome) (next' outcome)) → Same (followed one next) (followed other next')
  pub of_tick : (one other : Run) → Same one other → Same (ticked one) (ticked other)
  pub of_answer : (pattern : Tree) (v : Thing) (next next' : Option Env → Run)
      → ((answer : Option Env) → Same (next answer) (next' answer)) → Same (answered code pattern v next) (answered code pattern v next')

module _ (code : Code) (Same : Run → Run → Type 0) (kept : IsCongruence code Same) where
  of_values : (next next' : Thing → Run) → ((v : Thing) → Same (next v) (next' v))
      → (outcome : Outcome) → Same (on_value next outcome) (on_value next' outcome)
  of_values next next' same (Done v) = same v
  of_values next next' same (Raised v) = kept.of_end (Raised v)
  of_values next next' same Overflow = kept.of_end Overflow
  of_values next next' same Spent = kept.of_end Spent
  of_values next next' same Stuck = kept.of_end Stuck

  of_bound : (one other : Run) (next next' : Thing → Run) → Same one other → ((v : Thing) → Same (next v) (next' v))
      → Same (bound one next) (bound other next')
  of_bound one other next next' first later =
      kept.of_two one other (on_value next) (on_value next') first (of_values next next' later)

  of_raised : (next next' : Thing → Run) → ((v : Thing) → Same (next v) (next' v))
      → (outcome : Outcome) → Same (on_raised next outcome) (on_raised next' outcome)
  of_raised next next' same (Done v) = kept.of_end (Done v)
  of_raised next next' same (Raised v) = same v
  of_raised next next' same Overflow = kept.of_end Overflow
  of_raised next next' same Spent = kept.of_end Spent
  of_raised next next' same Stuck = kept.of_end Stuck

  of_picked : (some some' : Env → Run) (none none' : Run) → ((captures : Env) → Same (some captures) (some' captures))
      → Same none none' → (answer : Option Env) → Same (picked answer some none) (picked answer some' none')
  of_picked some some' none none' takes fails None = fails
  of_picked some some' none none' takes fails (Some captures) = takes captures

  of_pattern : (pattern : Tree) (v : Thing) (some some' : Env → Run) (none none' : Run)
      → ((captures : Env) → Same (some captures) (some' captures)) → Same none none'
      → Same (by_pattern code pattern v some none) (by_pattern code pattern v some' none')
  of_pattern pattern v some some' none none' takes fails =
      kept.of_answer pattern v _ _ (of_picked some some' none none' takes fails)

  of_items : (found : Option (List Thing)) (next next' : List Thing → Run) → ((all : List Thing) → Same (next all) (next' all))
      → Same (items_or_stuck found next) (items_or_stuck found next')
  of_items None next next' same = kept.of_end Stuck
  of_items (Some all) next next' same = same all

  of_each : (run run' : Thing → Run) → ((v : Thing) → Same (run v) (run' v)) → (all : List Thing)
      → (next next' : List Thing → Run) → ((results : List Thing) → Same (next results) (next' results))
      → Same (for_each run all next) (for_each run' all next')
  of_each run run' same [] next next' later = later []
  of_each run run' same (v ∷ rest) next next' later = of_bound (ticked (run v)) (ticked (run' v)) _ _
      (kept.of_tick (run v) (run' v) (same v))
      (λ w. of_each run run' same rest _ _ (λ results. later (w ∷ results)))

  of_truth : (is : Option Bool) (one one' other other' : Run) → Same one one' → Same other other'
      → Same (by_truth is one other) (by_truth is one' other')
  of_truth None one one' other other' first second = kept.of_end Stuck
  of_truth (Some true) one one' other other' first second = first
  of_truth (Some false) one one' other other' first second = second

  -- an operator that takes the value of its right operand
  of_right : (is : Op) (v : Thing) (right right' : Run) → Same right right'
      → Same (bound right (λ w. ticked (ends (operate is v w)))) (bound right' (λ w. ticked (ends (operate is v w))))
  of_right is v right right' same = of_bound right right' _ _ same (λ w. kept.of_tick _ _ (kept.of_end (operate is v w)))

  of_operated : (is : Op) (v : Thing) (right right' : Run) → Same right right' → Same (operated is v right) (operated is v right')
  of_operated op.And v right right' same = kept.of_tick _ _ (of_truth (truth_of v) _ _ _ _ same (kept.of_end _))
  of_operated op.Or v right right' same = kept.of_tick _ _ (of_truth (truth_of v) _ _ _ _ (kept.of_end _) same)
  of_operated op.Equal v right right' same = of_right op.Equal v right right' same
  of_operated op.Unequal v right right' same = of_right op.Unequal v right right' same
  of_operated op.Less v right right' same = of_right op.Less v right right' same
  of_operated op.AtMost v right right' same = of_right op.AtMost v right right' same
  of_operated op.Greater v right right' same = of_right op.Greater v right right' same
  of_operated op.AtLeast v right right' same = of_right op.AtLeast v right right' same
  of_operated op.Concat v right right' same = of_right op.Concat v right right' same
  of_operated op.Plus v right right' same = of_right op.Plus v right right' same
  of_operated op.Minus v right right' same = of_right op.Minus v right right' same
  of_operated op.Times v right right' same = of_right op.Times v right right' same
  of_operated op.Div v right right' same = of_right op.Div v right right' same
  of_operated op.Mod v right right' same = of_right op.Mod v right right' same

  module _ (call call' : Thing → Thing → Run)
      (of_call : (self v : Thing) → Same (ticked (call self v)) (ticked (call' self v))) where
    mutual
      pub of_eval : (e : Expr) (env : Env) → Same (eval code call e env) (eval code call' e env)
      of_eval (expr span kind) = λ env. of_kind kind env

      of_kind : (kind : Kind) (env : Env) → Same (eval_kind code call kind env) (eval_kind code call' kind env)
      of_kind (form.Constant is) = λ env. kept.of_end _
      of_kind (form.Variable name) = λ env. kept.of_end _
      of_kind (form.Tuple exprs) = λ env. of_tuple exprs env
      of_kind (form.Function f) = λ env. kept.of_end _
      of_kind (form.Apply exprs) = λ env. of_applied exprs env
      of_kind (form.Match e branches) = λ env. of_bound _ _ _ _ (of_eval e env)
          (λ v. kept.of_tick _ _ (of_chosen branches env v Stuck))
      of_kind (form.Sequence all) = λ env. of_sequence all env []
      of_kind (form.Record fields) = λ env. of_fields fields env thing.NoField
      of_kind (form.Xml tag attributes content) = λ env. of_bound _ _ _ _ (of_eval tag env) (λ v. of_bound _ _ _ _ (of_eval attributes env)
          (λ w. of_bound _ _ _ _ (of_eval content env) (λ last. kept.of_end _)))
      of_kind (form.Let pattern e rest) = λ env. of_bound _ _ _ _ (of_eval e env)
          (λ v. kept.of_tick _ _ (of_pattern pattern v _ _ _ _ (λ own. of_eval rest (with_all own env)) (kept.of_end Stuck)))
      of_kind (form.If condition then_one else_one) = λ env. of_bound _ _ _ _ (of_eval condition env)
          (λ v. kept.of_tick _ _ (of_truth (truth_of v) _ _ _ _ (of_eval then_one env) (of_eval else_one env)))
      of_kind (form.Try body branches) = λ env. kept.of_two _ _ _ _ (of_eval body env)
          (of_raised _ _ (λ v. kept.of_tick _ _ (of_chosen branches env v (Raised v))))
      of_kind (form.Map e branches) = λ env. of_bound _ _ _ _ (of_eval e env)
          (λ v. of_items (items v) _ _ (λ all. of_each _ _ (λ one. of_chosen branches env one Stuck) all _ _
          (λ results. kept.of_end (mapped results))))
      of_kind (form.Transform e branches) = λ env. of_bound _ _ _ _ (of_eval e env)
          (λ v. of_items (items v) _ _ (λ all. of_each _ _ (λ one. of_chosen branches env one (Done nil)) all _ _
          (λ results. kept.of_end (joined results))))
      of_kind (form.Chain first tails) = λ env. of_bound _ _ _ _ (of_eval first env) (λ v. of_tails tails env v)
      of_kind (form.Call word e) = λ env. of_bound _ _ _ _ (of_eval e env) (λ v. kept.of_tick _ _ (kept.of_end _))

      of_sequence : (all : Items) (env : Env) (done : List Thing) → Same (eval_items code call all env done) (eval_items code call' all env done)
      of_sequence NoItem = λ env done. kept.of_end _
      of_sequence (AnItem (One e) rest) = λ env done. of_bound _ _ _ _ (of_eval e env) (λ v. of_sequence rest env (v ∷ done))
      of_sequence (AnItem (Splice e) rest) = λ env done. of_bound _ _ _ _ (of_eval e env)
          (λ v. kept.of_tick _ _ (of_items (items v) _ _ (λ all. of_sequence rest env (before all done))))
      of_sequence (AnItem (form.Run characters) rest) = λ env done. of_sequence rest env (before (map Character characters) done)

      of_fields : (fields : form.Fields) (env : Env) (done : thing.Fields) → Same (eval_fields code call fields env done) (eval_fields code call' fields env done)
      of_fields form.NoField = λ env done. kept.of_end _
      of_fields (form.AField label at e rest) = λ env done. of_bound _ _ _ _ (of_eval e env) (λ v. of_fields rest env (put label v done))

      of_tails : (tails : Tails) (env : Env) (v : Thing) → Same (eval_tails code call tails env v) (eval_tails code call' tails env v)
      of_tails NoTail = λ env v. kept.of_end (Done v)
      of_tails (ATail tail rest) = λ env v. of_bound _ _ _ _ (of_tail tail env v) (λ w. of_tails rest env w)

      of_tail : (tail : Tail) (env : Env) (v : Thing) → Same (eval_tail code call tail env v) (eval_tail code call' tail env v)
      of_tail (Operand is e) = λ env v. of_operated is v _ _ (of_eval e env)
      of_tail (Without label) = λ env v. kept.of_tick _ _ (kept.of_end _)
      of_tail (Select label) = λ env v. kept.of_tick _ _ (kept.of_end _)

      of_tuple : (exprs : Exprs) (env : Env) → Same (eval_tuple code call exprs env) (eval_tuple code call' exprs env)
      of_tuple NoExpr = λ env. kept.of_end _
      of_tuple (AnExpr e NoExpr) = λ env. of_eval e env
      of_tuple (AnExpr e (AnExpr next rest)) = λ env. of_bound _ _ _ _ (of_eval e env)
          (λ v. of_bound _ _ _ _ (of_tuple (AnExpr next rest) env) (λ w. kept.of_end _))

      of_applied : (exprs : Exprs) (env : Env) → Same (applied code call exprs env) (applied code call' exprs env)
      of_applied NoExpr = λ env. kept.of_end Stuck
      of_applied (AnExpr e rest) = λ env. of_bound _ _ _ _ (of_eval e env) (λ v. of_applied_to rest env v)

      of_applied_to : (arguments : Exprs) (env : Env) (self : Thing) → Same (applied_to code call arguments env self) (applied_to code call' arguments env self)
      of_applied_to NoExpr = λ env self. kept.of_end (Done self)
      of_applied_to (AnExpr e rest) = λ env self. of_bound _ _ _ _ (of_eval e env)
          (λ v. of_bound _ _ _ _ (of_call self v) (λ w. of_applied_to rest env w))

      of_chosen : (branches : Branches) (env : Env) (v : Thing) (otherwise : Outcome)
          → Same (chosen code call branches env v otherwise) (chosen code call' branches env v otherwise)
      of_chosen NoBranch = λ env v otherwise. kept.of_end otherwise
      of_chosen (ABranch pattern body rest) = λ env v otherwise. of_pattern pattern v _ _ _ _
          (λ own. of_eval body (with_all own env)) (of_chosen rest env v otherwise)

    pub of_enter : (tree : Option FunctionTree) (self : Thing) (env : Env) (v : Thing)
        → Same (enter code call tree self env v) (enter code call' tree self env v)
    of_enter None self env v = kept.of_end Stuck
    of_enter (Some (function at name name_at interface branches)) self env v =
        of_chosen branches (with_name name self env) v Stuck
