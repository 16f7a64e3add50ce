-- The steps of the machine that enter an expression are right.
use Rattle.std.proofs.Common.{ℕ, List, [], ◌∷◌, map}
use Rattle.cd_syntax.specs.Name.{Name}
use Rattle.cd_syntax.specs.TypeTree.{Tree}
use Rattle.cd_syntax.specs.declared.tokens.Span.{Span}
use Rattle.cd_syntax.specs.declared.constant.Constant.{Constant as AConstant}
use Rattle.cd_model.specs.Thing as thing
use Rattle.cd_model.specs.Thing.{Thing, Character, Closure}
use Rattle.cd_matching.specs.Sequences.{nil, thing_of}
use Rattle.cd_program.specs.declared.operator.BuiltIn.{BuiltIn as Word}
use Rattle.cd_program.specs.Expr as form
use Rattle.cd_program.specs.Expr.{Expr, expr, Kind, Exprs, NoExpr, AnExpr, Items, NoItem, AnItem, One, Splice, Tails, Branches, FunctionTree}
use Rattle.cd_evaluation.specs.Runs.{Done, Stuck, Result, Run, found, followed}
use Rattle.cd_evaluation.specs.Environment.{Env}
use Rattle.cd_evaluation.specs.Lists.{before}
use Rattle.cd_evaluation.specs.Code.{Code, place_of, named}
use Rattle.cd_evaluation.specs.Evaluation.{eval_items, eval_fields}
use Rattle.cd_evaluation.specs.Machine.{State, evaluating, returning}
use Rattle.cd_evaluation.specs.Machine.{Frame, First, Tagging, Called, Matching, Trying, Letting, Asking, Wording, Tailing, Listing, Sifting}
use Rattle.cd_evaluation.specs.Steps.{items_next, fields_next}
use Rattle.cd_evaluation.specs.Ends.{Ends, Keeps, through}

module _ (code : Code) (call : Thing → Thing → Run) where
  -- where items are left, the next one is met; so for fields
  pub items_go : (all : Items) (env : Env) (done : List Thing) (units : ℕ) (stack : List Frame) (result : Result)
      → Ends code call (items_next all env done units stack) result
      → followed (eval_items code call all env done) (through code call stack) units result
  items_go NoItem env done units stack result h = h
  items_go (AnItem (One e) rest) env done units stack result h = (h.2.0, (h.0, h.1, h.2.1), h.2.2)
  items_go (AnItem (Splice e) rest) env done units stack result h = (h.2.0, (h.0, h.1, h.2.1), h.2.2)
  items_go (AnItem (form.Run characters) rest) env done units stack result h =
      items_go rest env (before (map Character characters) done) units stack result h

  pub fields_go : (fields : form.Fields) (env : Env) (done : thing.Fields) (units : ℕ) (stack : List Frame) (result : Result)
      → Ends code call (fields_next fields env done units stack) result
      → followed (eval_fields code call fields env done) (through code call stack) units result
  fields_go form.NoField env done units stack result h = h
  fields_go (form.AField label at e rest) env done units stack result h = (h.2.0, (h.0, h.1, h.2.1), h.2.2)

  module _ (span : Span) (env : Env) (units : ℕ) (stack : List Frame) where
    -- the step from an expression of this kind
    abbrev pub KeepsForm : Kind → (new : State) → Type 0
    KeepsForm kind new = Keeps code call (evaluating (expr span kind) env units stack) new

    pub constant : (is : AConstant) → KeepsForm (form.Constant is) (returning (Done (thing_of is)) units stack)
    constant is result h = h

    pub variable : (name : Name) → KeepsForm (form.Variable name) (returning (found (named code env name)) units stack)
    variable name result h = h

    pub function_ : (f : FunctionTree) → KeepsForm (form.Function f) (returning (Done (Closure (place_of f) env)) units stack)
    function_ f result h = h

    pub no_part : KeepsForm (form.Tuple NoExpr) (returning (Done nil) units stack)
    no_part result h = h

    pub one_part : (e : Expr) → KeepsForm (form.Tuple (AnExpr e NoExpr)) (evaluating e env units stack)
    one_part e result h = h

    pub tuple : (e next : Expr) (rest : Exprs)
        → KeepsForm (form.Tuple (AnExpr e (AnExpr next rest))) (evaluating e env units (First next rest env ∷ stack))
    tuple e next rest result h = (h.2.0, (h.0, h.1, h.2.1), h.2.2)

    pub sequence_ : (all : Items) → KeepsForm (form.Sequence all) (items_next all env [] units stack)
    sequence_ all result h = items_go all env [] units stack result h

    pub record_ : (fields : form.Fields) → KeepsForm (form.Record fields) (fields_next fields env thing.NoField units stack)
    record_ fields result h = fields_go fields env thing.NoField units stack result h

    pub xml_ : (tag attributes content : Expr)
        → KeepsForm (form.Xml tag attributes content) (evaluating tag env units (Tagging attributes content env ∷ stack))
    xml_ tag attributes content result h = (h.2.0, (h.0, h.1, h.2.1), h.2.2)

    pub nothing_applied : KeepsForm (form.Apply NoExpr) (returning Stuck units stack)
    nothing_applied result h = h

    pub apply : (self : Expr) (arguments : Exprs)
        → KeepsForm (form.Apply (AnExpr self arguments)) (evaluating self env units (Called arguments env ∷ stack))
    apply self arguments result h = (h.2.0, (h.0, h.1, h.2.1), h.2.2)

    pub match_ : (e : Expr) (branches : Branches) → KeepsForm (form.Match e branches) (evaluating e env units (Matching branches env ∷ stack))
    match_ e branches result h = (h.2.0, (h.0, h.1, h.2.1), h.2.2)

    pub try_ : (body : Expr) (branches : Branches) → KeepsForm (form.Try body branches) (evaluating body env units (Trying branches env ∷ stack))
    try_ body branches result h = (h.2.0, (h.0, h.1, h.2.1), h.2.2)

    pub map_ : (e : Expr) (branches : Branches) → KeepsForm (form.Map e branches) (evaluating e env units (Listing branches env ∷ stack))
    map_ e branches result h = (h.2.0, (h.0, h.1, h.2.1), h.2.2)

    pub transform_ : (e : Expr) (branches : Branches) → KeepsForm (form.Transform e branches) (evaluating e env units (Sifting branches env ∷ stack))
    transform_ e branches result h = (h.2.0, (h.0, h.1, h.2.1), h.2.2)

    pub let_ : (pattern : Tree) (e rest : Expr) → KeepsForm (form.Let pattern e rest) (evaluating e env units (Letting pattern rest env ∷ stack))
    let_ pattern e rest result h = (h.2.0, (h.0, h.1, h.2.1), h.2.2)

    pub if_ : (condition then_one else_one : Expr)
        → KeepsForm (form.If condition then_one else_one) (evaluating condition env units (Asking then_one else_one env ∷ stack))
    if_ condition then_one else_one result h = (h.2.0, (h.0, h.1, h.2.1), h.2.2)

    pub chain : (first : Expr) (tails : Tails) → KeepsForm (form.Chain first tails) (evaluating first env units (Tailing tails env ∷ stack))
    chain first tails result h = (h.2.0, (h.0, h.1, h.2.1), h.2.2)

    pub word_ : (word : Word) (e : Expr) → KeepsForm (form.Call word e) (evaluating e env units (Wording word ∷ stack))
    word_ word e result h = (h.2.0, (h.0, h.1, h.2.1), h.2.2)
