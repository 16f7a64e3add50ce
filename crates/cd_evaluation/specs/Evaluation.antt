-- The meaning of expressions, where it is known what an application does.
use Rattle.std.specs.Prelude.{Bool, true, false, List, [], ◌∷◌, map, Option, Some, None}
use Rattle.cd_syntax.specs.TypeTree.{Tree}
use Rattle.cd_model.specs.Thing as thing
use Rattle.cd_model.specs.Thing.{Thing, Character, Closure}
use Rattle.cd_matching.specs.Sequences.{nil, sequence_of, items, thing_of}
use Rattle.cd_program.specs.declared.operator.Op.{Op}
use Rattle.cd_program.specs.declared.operator.Op.TheVariants as op
use Rattle.cd_program.specs.Expr.{Expr, expr, Kind, Constant, Variable, Tuple, Sequence, Record}
use Rattle.cd_program.specs.Expr.{Xml, Function, Apply, Match, Try, Map, Transform, Let, If, Chain}
use Rattle.cd_program.specs.Expr.{Call, Exprs, NoExpr, AnExpr, Items, NoItem, AnItem, One, Splice}
use Rattle.cd_program.specs.Expr.{Fields, NoField, AField, Tails, NoTail, ATail, Tail, Operand}
use Rattle.cd_program.specs.Expr.{Without, Select, Branches, NoBranch, ABranch, Run as Letters}
use Rattle.cd_typing.specs.Operators.{truth}
use Rattle.cd_evaluation.specs.Runs.{Outcome, Done, Raised, Stuck, Run, ends, ticked, bound, caught}
use Rattle.cd_evaluation.specs.Runs.{found, for_each}
use Rattle.cd_evaluation.specs.Environment.{Env, with_all}
use Rattle.cd_evaluation.specs.Lists.{before, all_items, listed}
use Rattle.cd_evaluation.specs.RecordFields.{put}
use Rattle.cd_evaluation.specs.Operations.{truth_of, operate, word_outcome, dropped, selected, xml}
use Rattle.cd_evaluation.specs.Code.{Code, place_of, named}

-- what is done with the captures of a pattern, and where it fails
abbrev pub picked : Option Env → (taken : Env → Run) → (fails : Run) → Run
picked None taken fails = fails
picked (Some captures) taken fails = taken captures

-- a pattern takes the value, or fails
abbrev pub by_pattern : Code → Tree → Thing → (taken : Env → Run) → (fails : Run) → Run
by_pattern code pattern v taken fails units result =
    (answer : Option Env) × code.take pattern v answer × picked answer taken fails units result

-- what is done with the items of a sequence
abbrev pub items_or_stuck : Option (List Thing) → (List Thing → Run) → Run
items_or_stuck None next = ends Stuck
items_or_stuck (Some all) next = next all

-- what is done for `true`, and for `false`
abbrev pub by_truth : Option Bool → (then_run else_run : Run) → Run
by_truth None then_run else_run = ends Stuck
by_truth (Some true) then_run else_run = then_run
by_truth (Some false) then_run else_run = else_run

-- an operator between a value and an operand that is still to be evaluated
abbrev pub operated : Op → Thing → (right : Run) → Run
operated op.And v right = ticked (by_truth (truth_of v) right (ends (Done (truth false))))
operated op.Or v right = ticked (by_truth (truth_of v) (ends (Done (truth true))) right)
operated is v right = bound right (λ w. ticked (ends (operate is v w)))

-- an operator that takes the value of its right operand
abbrev pub IsStrict : Op → Type 0
IsStrict op.And = ⊥
IsStrict op.Or = ⊥
IsStrict is = Unit {0}

-- what `map` makes of the results for all items, and what `transform` makes of them
abbrev pub mapped : List Thing → Outcome
mapped results = Done (sequence_of results)

abbrev pub joined : List Thing → Outcome
joined results = listed (all_items results)

-- `call` is what the application of a value to a value does once its unit is taken
module _ (code : Code) (call : Thing → Thing → Run) where
  abbrev mutual
    pub eval : Expr → Env → Run
    eval (expr span kind) env = eval_kind kind env

    pub eval_kind : Kind → Env → Run
    eval_kind (Constant is) env = ends (Done (thing_of is))
    eval_kind (Variable name) env = ends (found (named code env name))
    eval_kind (Tuple exprs) env = eval_tuple exprs env
    eval_kind (Sequence all) env = eval_items all env []
    eval_kind (Record fields) env = eval_fields fields env thing.NoField
    eval_kind (Xml tag attributes content) env = bound (eval tag env) (λ v.
        bound (eval attributes env) (λ w. bound (eval content env) (λ last. ends (xml v w last))))
    eval_kind (Function f) env = ends (Done (Closure (place_of f) env))
    eval_kind (Apply exprs) env = applied exprs env
    eval_kind (Match e branches) env =
        bound (eval e env) (λ v. ticked (chosen branches env v Stuck))
    eval_kind (Try body branches) env =
        caught (eval body env) (λ v. ticked (chosen branches env v (Raised v)))
    eval_kind (Map e branches) env = bound (eval e env) (λ v. items_or_stuck (items v)
        (λ all. for_each (λ w. chosen branches env w Stuck) all (λ ws. ends (mapped ws))))
    eval_kind (Transform e branches) env = bound (eval e env) (λ v. items_or_stuck (items v)
        (λ all. for_each (λ w. chosen branches env w (Done nil)) all (λ ws. ends (joined ws))))
    eval_kind (Let pattern e rest) env = bound (eval e env) (λ v.
        ticked (by_pattern code pattern v (λ own. eval rest (with_all own env)) (ends Stuck)))
    eval_kind (If condition then_one else_one) env = bound (eval condition env) (λ v.
        ticked (by_truth (truth_of v) (eval then_one env) (eval else_one env)))
    eval_kind (Chain first tails) env = bound (eval first env) (λ v. eval_tails tails env v)
    eval_kind (Call word e) env = bound (eval e env) (λ v. ticked (ends (word_outcome word v)))

    -- a tuple of more than two parts is grouped to the right
    pub eval_tuple : Exprs → Env → Run
    eval_tuple NoExpr env = ends (Done nil)
    eval_tuple (AnExpr e NoExpr) env = eval e env
    eval_tuple (AnExpr e (AnExpr next rest)) env = bound (eval e env) (λ v.
        bound (eval_tuple (AnExpr next rest) env) (λ w. ends (Done (thing.Pair v w))))

    -- items after those that are done, which are kept from the last
    pub eval_items : Items → Env → (done : List Thing) → Run
    eval_items NoItem env done = ends (Done (sequence_of (before done [])))
    eval_items (AnItem (One e) rest) env done =
        bound (eval e env) (λ v. eval_items rest env (v ∷ done))
    eval_items (AnItem (Splice e) rest) env done = bound (eval e env) (λ v.
        ticked (items_or_stuck (items v) (λ all. eval_items rest env (before all done))))
    eval_items (AnItem (Letters characters) rest) env done =
        eval_items rest env (before (map Character characters) done)

    -- fields beside those that are done
    pub eval_fields : Fields → Env → (done : thing.Fields) → Run
    eval_fields NoField env done = ends (Done (thing.Record done))
    eval_fields (AField label at e rest) env done =
        bound (eval e env) (λ v. eval_fields rest env (put label v done))

    -- operators after an operand with this value
    pub eval_tails : Tails → Env → Thing → Run
    eval_tails NoTail env v = ends (Done v)
    eval_tails (ATail tail rest) env v =
        bound (eval_tail tail env v) (λ w. eval_tails rest env w)

    pub eval_tail : Tail → Env → Thing → Run
    eval_tail (Operand is e) env v = operated is v (eval e env)
    eval_tail (Without label) env v = ticked (ends (dropped label v))
    eval_tail (Select label) env v = ticked (ends (selected label v))

    -- a function is applied to one argument after the other
    pub applied : Exprs → Env → Run
    applied NoExpr env = ends Stuck
    applied (AnExpr e rest) env = bound (eval e env) (λ v. applied_to rest env v)

    pub applied_to : (arguments : Exprs) → Env → Thing → Run
    applied_to NoExpr env self = ends (Done self)
    applied_to (AnExpr e rest) env self = bound (eval e env) (λ v.
        bound (ticked (call self v)) (λ w. applied_to rest env w))

    -- the body of the first branch that takes a value, and an outcome where none does
    pub chosen : Branches → Env → Thing → (otherwise : Outcome) → Run
    chosen NoBranch env v otherwise = ends otherwise
    chosen (ABranch pattern body rest) env v otherwise = by_pattern code pattern v
        (λ own. eval body (with_all own env)) (chosen rest env v otherwise)
