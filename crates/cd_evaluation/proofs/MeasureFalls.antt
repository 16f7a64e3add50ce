-- Between two units the machine goes on only so often: with each step that takes no unit its measure falls.
use Rattle.std.proofs.Common.{◌<◌, ◌+◌, ℕ, List, [], ◌∷◌, map, arith}
use Rattle.cd_syntax.specs.Name.{Name}
use Rattle.cd_syntax.specs.TypeTree.{Tree}
use Rattle.cd_syntax.specs.declared.tokens.Span.{Span}
use Rattle.cd_model.specs.Thing as thing
use Rattle.cd_model.specs.Thing.{Thing, Character}
use Rattle.cd_program.specs.declared.operator.Op.{Op}
use Rattle.cd_program.specs.declared.operator.BuiltIn.{BuiltIn as Word}
use Rattle.cd_program.specs.Expr as form
use Rattle.cd_program.specs.Expr.{Expr, expr, Kind, Exprs, NoExpr, AnExpr, Items, NoItem, AnItem, One, Splice, Tails, ATail, Operand, Branches}
use Rattle.cd_evaluation.specs.Runs.{Outcome}
use Rattle.cd_evaluation.specs.Environment.{Env}
use Rattle.cd_evaluation.specs.Lists.{before}
use Rattle.cd_evaluation.specs.Machine.{State, evaluating, returning}
use Rattle.cd_evaluation.specs.Machine.{Frame, First, Second, Iteming, Fielding, Tagging, Attributing, Filling, Called, Argument, Matching, Trying, Letting, Asking, Wording, Tailing, Operating, Listing, Sifting}
use Rattle.cd_evaluation.specs.Steps.{items_next, fields_next}
use Rattle.cd_evaluation.specs.Measure.{size_items, size_fields, weight, weights, measure}

some : (frame : Frame) → 0 < weight frame
some (First next rest env) = omega arith
some frame = omega arith

-- a frame that ends at once: values that are made, lists without items, outcomes that are no value
pub popped : (frame : Frame) (outcome outcome' : Outcome) (units : ℕ) (stack : List Frame)
    → measure (returning outcome' units stack) < measure (returning outcome units (frame ∷ stack))
popped frame outcome outcome' units stack = let one = some frame in omega (arith, one)

items_less : (all : Items) (env : Env) (done : List Thing) (units : ℕ) (stack : List Frame)
    → measure (items_next all env done units stack) < 1 + size_items all + weights stack
items_less NoItem env done units stack = omega arith
items_less (AnItem (One e) rest) env done units stack = omega arith
items_less (AnItem (Splice e) rest) env done units stack = omega arith
items_less (AnItem (form.Run characters) rest) env done units stack =
    let less = items_less rest env (before (map Character characters) done) units stack in omega (arith, less)

fields_less : (fields : form.Fields) (env : Env) (done : thing.Fields) (units : ℕ) (stack : List Frame)
    → measure (fields_next fields env done units stack) < 1 + size_fields fields + weights stack
fields_less form.NoField env done units stack = omega arith
fields_less (form.AField label at e rest) env done units stack = omega arith

-- where an expression is entered
module _ (span : Span) (env : Env) (units : ℕ) (stack : List Frame) where
  abbrev Falls : Kind → State → Type 0
  Falls kind new = measure new < measure (evaluating (expr span kind) env units stack)

  pub value_made : (kind : Kind) (outcome : Outcome) → Falls kind (returning outcome units stack)
  value_made kind outcome = omega arith

  pub one_part : (e : Expr) → Falls (form.Tuple (AnExpr e NoExpr)) (evaluating e env units stack)
  one_part e = omega arith

  pub tuple : (e next : Expr) (rest : Exprs) → Falls (form.Tuple (AnExpr e (AnExpr next rest))) (evaluating e env units (First next rest env ∷ stack))
  tuple e next rest = omega arith

  pub sequence_ : (all : Items) → Falls (form.Sequence all) (items_next all env [] units stack)
  sequence_ all = items_less all env [] units stack

  pub record_ : (fields : form.Fields) → Falls (form.Record fields) (fields_next fields env thing.NoField units stack)
  record_ fields = fields_less fields env thing.NoField units stack

  pub xml_ : (tag attributes content : Expr) → Falls (form.Xml tag attributes content) (evaluating tag env units (Tagging attributes content env ∷ stack))
  xml_ tag attributes content = omega arith

  pub apply : (self : Expr) (arguments : Exprs) → Falls (form.Apply (AnExpr self arguments)) (evaluating self env units (Called arguments env ∷ stack))
  apply self arguments = omega arith

  pub match_ : (e : Expr) (branches : Branches) → Falls (form.Match e branches) (evaluating e env units (Matching branches env ∷ stack))
  match_ e branches = omega arith

  pub try_ : (body : Expr) (branches : Branches) → Falls (form.Try body branches) (evaluating body env units (Trying branches env ∷ stack))
  try_ body branches = omega arith

  pub map_ : (e : Expr) (branches : Branches) → Falls (form.Map e branches) (evaluating e env units (Listing branches env ∷ stack))
  map_ e branches = omega arith

  pub transform_ : (e : Expr) (branches : Branches) → Falls (form.Transform e branches) (evaluating e env units (Sifting branches env ∷ stack))
  transform_ e branches = omega arith

  pub let_ : (pattern : Tree) (e rest : Expr) → Falls (form.Let pattern e rest) (evaluating e env units (Letting pattern rest env ∷ stack))
  let_ pattern e rest = omega arith

  pub if_ : (condition then_one else_one : Expr)
      → Falls (form.If condition then_one else_one) (evaluating condition env units (Asking then_one else_one env ∷ stack))
  if_ condition then_one else_one = omega arith

  pub chain : (first : Expr) (tails : Tails) → Falls (form.Chain first tails) (evaluating first env units (Tailing tails env ∷ stack))
  chain first tails = omega arith

  pub word_ : (word : Word) (e : Expr) → Falls (form.Call word e) (evaluating e env units (Wording word ∷ stack))
  word_ word e = omega arith

-- where a frame goes on without a unit
module _ (env : Env) (units : ℕ) (stack : List Frame) (outcome : Outcome) where
  abbrev Lessens : Frame → State → Type 0
  Lessens frame new = measure new < measure (returning outcome units (frame ∷ stack))

  pub last_part : (v : Thing) (next : Expr) → Lessens (First next NoExpr env) (evaluating next env units (Second v ∷ stack))
  last_part v next = omega arith

  pub more_parts : (v : Thing) (next third : Expr) (rest : Exprs)
      → Lessens (First next (AnExpr third rest) env) (evaluating next env units (First third rest env ∷ Second v ∷ stack))
  more_parts v next third rest = omega arith

  pub item : (done done' : List Thing) (rest : Items) → Lessens (Iteming done rest env) (items_next rest env done' units stack)
  item done done' rest = let less = items_less rest env done' units stack in omega (arith, less)

  pub field : (done done' : thing.Fields) (label : Name) (rest : form.Fields)
      → Lessens (Fielding done label rest env) (fields_next rest env done' units stack)
  field done done' label rest = let less = fields_less rest env done' units stack in omega (arith, less)

  pub tagged : (v : Thing) (attributes content : Expr)
      → Lessens (Tagging attributes content env) (evaluating attributes env units (Attributing v content env ∷ stack))
  tagged v attributes content = omega arith

  pub attributed : (tag v : Thing) (content : Expr)
      → Lessens (Attributing tag content env) (evaluating content env units (Filling tag v ∷ stack))
  attributed tag v content = omega arith

  pub next_argument : (self : Thing) (e : Expr) (rest : Exprs)
      → Lessens (Called (AnExpr e rest) env) (evaluating e env units (Argument self rest env ∷ stack))
  next_argument self e rest = omega arith

  pub operand : (is : Op) (left : Thing) (e : Expr) (rest : Tails)
      → Lessens (Tailing (ATail (Operand is e) rest) env) (evaluating e env units (Operating is left rest env ∷ stack))
  operand is left e rest = omega arith
