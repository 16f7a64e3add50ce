-- Where the machine enters an expression, it goes on rightly.
use Rattle.std.proofs.Common.{◌≡◌, ◌<◌, ℕ, Bool, false, MatchBool, List, [], map, refl, sym, subst}
use Rattle.cd_syntax.specs.declared.tokens.Span.{Span}
use Rattle.cd_model.specs.Thing as thing
use Rattle.cd_model.specs.Thing.{Thing, Character, Closure}
use Rattle.cd_matching.specs.Sequences.{nil, thing_of}
use Rattle.cd_program.specs.Expr as form
use Rattle.cd_program.specs.Expr.{Expr, expr, Kind, Exprs, NoExpr, AnExpr, Items, NoItem, AnItem, One, Splice}
use Rattle.cd_evaluation.specs.Runs.{Outcome, Done, Stuck, found}
use Rattle.cd_evaluation.specs.Environment.{Env}
use Rattle.cd_evaluation.specs.Lists.{before}
use Rattle.cd_evaluation.specs.Code.{Code, place_of, named}
use Rattle.cd_evaluation.specs.Meaning.{calls}
use Rattle.cd_evaluation.specs.Machine.{Frame, Control, Evaluating, State, evaluating, returning}
use Rattle.cd_evaluation.specs.Steps.{items_next, fields_next}
use Rattle.cd_evaluation.specs.Ends.{Keeps}
use Rattle.cd_evaluation.specs.Measure.{measure}
use Rattle.cd_evaluation.proofs.EnteringSteps as entering
use Rattle.cd_evaluation.proofs.MeasureFalls as falls
use Rattle.cd_machine.specs.Inner.Turn.{Turn, after, give, GoesFreely, GoesByUnit, GoesOn}
use Rattle.cd_machine.specs.Inner.Entering.{tuple_turn, items_turn, fields_turn, apply_turn, kind_turn, expr_turn}

-- a turn that takes no unit
pub freely : (code : Code) (control : Control) (top : List Frame) (turn : Turn) → turn.takes ≡ false
    → GoesFreely code control top turn → GoesOn code control top turn
freely code control top turn same goes =
    subst (λ (takes : Bool). MatchBool takes (GoesByUnit code control top turn) (GoesFreely code control top turn)) (sym same) goes

-- the items that are left, and the fields, as the steps of the machine have them
pub items_after : (all : Items) (env : Env) (done : List Thing) (units : ℕ) (below : List Frame)
    → after (items_turn all env done) units below ≡ items_next all env done units below
items_after NoItem env done units below = refl
items_after (AnItem (One e) rest) env done units below = refl
items_after (AnItem (Splice e) rest) env done units below = refl
items_after (AnItem (form.Run characters) rest) env done units below =
    items_after rest env (before (map Character characters) done) units below

pub items_free : (all : Items) (env : Env) (done : List Thing) → (items_turn all env done).takes ≡ false
items_free NoItem env done = refl
items_free (AnItem (One e) rest) env done = refl
items_free (AnItem (Splice e) rest) env done = refl
items_free (AnItem (form.Run characters) rest) env done = items_free rest env (before (map Character characters) done)

pub fields_after : (fields : form.Fields) (env : Env) (done : thing.Fields) (units : ℕ) (below : List Frame)
    → after (fields_turn fields env done) units below ≡ fields_next fields env done units below
fields_after form.NoField env done units below = refl
fields_after (form.AField label at e rest) env done units below = refl

pub fields_free : (fields : form.Fields) (env : Env) (done : thing.Fields) → (fields_turn fields env done).takes ≡ false
fields_free form.NoField env done = refl
fields_free (form.AField label at e rest) env done = refl

module _ (code : Code) (span : Span) (env : Env) where
  abbrev Free : Kind → Type 0
  Free kind = GoesFreely code (Evaluating (expr span kind) env) [] (kind_turn code kind env)

  tuple_goes : (exprs : Exprs) → Free (form.Tuple exprs)
  tuple_goes NoExpr = record {
    keeps = λ depth units below. entering.no_part code (calls code depth) span env units below;
    falls = λ units below. falls.value_made span env units below (form.Tuple NoExpr) (Done nil);
  }
  tuple_goes (AnExpr e NoExpr) = record {
    keeps = λ depth units below. entering.one_part code (calls code depth) span env units below e;
    falls = λ units below. falls.one_part span env units below e;
  }
  tuple_goes (AnExpr e (AnExpr next rest)) = record {
    keeps = λ depth units below. entering.tuple code (calls code depth) span env units below e next rest;
    falls = λ units below. falls.tuple span env units below e next rest;
  }

  apply_goes : (exprs : Exprs) → Free (form.Apply exprs)
  apply_goes NoExpr = record {
    keeps = λ depth units below. entering.nothing_applied code (calls code depth) span env units below;
    falls = λ units below. falls.value_made span env units below (form.Apply NoExpr) Stuck;
  }
  apply_goes (AnExpr self arguments) = record {
    keeps = λ depth units below. entering.apply code (calls code depth) span env units below self arguments;
    falls = λ units below. falls.apply span env units below self arguments;
  }

  sequence_goes : (all : Items) → Free (form.Sequence all)
  sequence_goes all = record {
    keeps = λ depth units below. subst (Keeps code (calls code depth) (evaluating (expr span (form.Sequence all)) env units below))
        (sym (items_after all env [] units below)) (entering.sequence_ code (calls code depth) span env units below all);
    falls = λ units below. subst (λ (new : State). measure new < measure (evaluating (expr span (form.Sequence all)) env units below))
        (sym (items_after all env [] units below)) (falls.sequence_ span env units below all);
  }

  record_goes : (fields : form.Fields) → Free (form.Record fields)
  record_goes fields = record {
    keeps = λ depth units below. subst (Keeps code (calls code depth) (evaluating (expr span (form.Record fields)) env units below))
        (sym (fields_after fields env thing.NoField units below)) (entering.record_ code (calls code depth) span env units below fields);
    falls = λ units below. subst (λ (new : State). measure new < measure (evaluating (expr span (form.Record fields)) env units below))
        (sym (fields_after fields env thing.NoField units below)) (falls.record_ span env units below fields);
  }

  tuple_free : (exprs : Exprs) → (tuple_turn exprs env).takes ≡ false
  tuple_free NoExpr = refl
  tuple_free (AnExpr e NoExpr) = refl
  tuple_free (AnExpr e (AnExpr next rest)) = refl

  apply_free : (exprs : Exprs) → (apply_turn exprs env).takes ≡ false
  apply_free NoExpr = refl
  apply_free (AnExpr self arguments) = refl

  -- an outcome, without a unit
  given : (kind : Kind) (outcome : Outcome) → ((depth units : ℕ) (below : List Frame)
      → Keeps code (calls code depth) (evaluating (expr span kind) env units below) (returning outcome units below))
      → GoesFreely code (Evaluating (expr span kind) env) [] (give outcome)
  given kind outcome keeps = record { keeps = keeps; falls = λ units below. falls.value_made span env units below kind outcome }

  pub kind_goes : (kind : Kind) → GoesOn code (Evaluating (expr span kind) env) [] (kind_turn code kind env)
  kind_goes (form.Constant is) = given (form.Constant is) (Done (thing_of is))
      (λ depth units below. entering.constant code (calls code depth) span env units below is)
  kind_goes (form.Variable name) = given (form.Variable name) (found (named code env name))
      (λ depth units below. entering.variable code (calls code depth) span env units below name)
  kind_goes (form.Tuple exprs) = freely code (Evaluating (expr span (form.Tuple exprs)) env) [] (tuple_turn exprs env) (tuple_free exprs) (tuple_goes exprs)
  kind_goes (form.Sequence all) =
      freely code (Evaluating (expr span (form.Sequence all)) env) [] (items_turn all env []) (items_free all env []) (sequence_goes all)
  kind_goes (form.Record fields) = freely code (Evaluating (expr span (form.Record fields)) env) []
      (fields_turn fields env thing.NoField) (fields_free fields env thing.NoField) (record_goes fields)
  kind_goes (form.Xml tag attributes content) = record {
    keeps = λ depth units below. entering.xml_ code (calls code depth) span env units below tag attributes content;
    falls = λ units below. falls.xml_ span env units below tag attributes content;
  }
  kind_goes (form.Function f) = given (form.Function f) (Done (Closure (place_of f) env))
      (λ depth units below. entering.function_ code (calls code depth) span env units below f)
  kind_goes (form.Apply exprs) = freely code (Evaluating (expr span (form.Apply exprs)) env) [] (apply_turn exprs env) (apply_free exprs) (apply_goes exprs)
  kind_goes (form.Match e branches) = record {
    keeps = λ depth units below. entering.match_ code (calls code depth) span env units below e branches;
    falls = λ units below. falls.match_ span env units below e branches;
  }
  kind_goes (form.Try body branches) = record {
    keeps = λ depth units below. entering.try_ code (calls code depth) span env units below body branches;
    falls = λ units below. falls.try_ span env units below body branches;
  }
  kind_goes (form.Map e branches) = record {
    keeps = λ depth units below. entering.map_ code (calls code depth) span env units below e branches;
    falls = λ units below. falls.map_ span env units below e branches;
  }
  kind_goes (form.Transform e branches) = record {
    keeps = λ depth units below. entering.transform_ code (calls code depth) span env units below e branches;
    falls = λ units below. falls.transform_ span env units below e branches;
  }
  kind_goes (form.Let pattern e rest) = record {
    keeps = λ depth units below. entering.let_ code (calls code depth) span env units below pattern e rest;
    falls = λ units below. falls.let_ span env units below pattern e rest;
  }
  kind_goes (form.If condition then_one else_one) = record {
    keeps = λ depth units below. entering.if_ code (calls code depth) span env units below condition then_one else_one;
    falls = λ units below. falls.if_ span env units below condition then_one else_one;
  }
  kind_goes (form.Chain first tails) = record {
    keeps = λ depth units below. entering.chain code (calls code depth) span env units below first tails;
    falls = λ units below. falls.chain span env units below first tails;
  }
  kind_goes (form.Call word e) = record {
    keeps = λ depth units below. entering.word_ code (calls code depth) span env units below word e;
    falls = λ units below. falls.word_ span env units below word e;
  }

pub expr_goes : (code : Code) (e : Expr) (env : Env) → GoesOn code (Evaluating e env) [] (expr_turn code e env)
expr_goes code (expr span kind) env = kind_goes code span env kind
