-- Where the machine goes from an expression.
use Rattle.std.specs.Prelude.{List, [], ◌∷◌, map}
use Rattle.cd_model.specs.Thing as thing
use Rattle.cd_model.specs.Thing.{Thing, Character, Closure}
use Rattle.cd_matching.specs.Sequences.{nil, thing_of, sequence_of}
use Rattle.cd_program.specs.Expr.{Expr, expr, Kind, Constant, Variable, Tuple, Sequence, Record}
use Rattle.cd_program.specs.Expr.{Xml, Function, Apply, Match, Try, Map, Transform, Let, If, Chain}
use Rattle.cd_program.specs.Expr.{Call, Exprs, NoExpr, AnExpr, Items, NoItem, AnItem, One, Splice}
use Rattle.cd_program.specs.Expr.{Run, Fields, NoField, AField}
use Rattle.cd_evaluation.specs.Runs.{Done, Stuck, found}
use Rattle.cd_evaluation.specs.Environment.{Env}
use Rattle.cd_evaluation.specs.Lists.{before}
use Rattle.cd_evaluation.specs.Code.{Code, place_of, named}
use Rattle.cd_evaluation.specs.Machine.{First, Iteming, Splicing, Fielding, Tagging, Called}
use Rattle.cd_evaluation.specs.Machine.{Matching, Trying, Letting, Asking, Wording, Tailing}
use Rattle.cd_evaluation.specs.Machine.{Listing, Sifting}
use Rattle.cd_machine.specs.Inner.Turn.{Turn, evaluate, give}

-- to the first part of a tuple
abbrev pub tuple_turn : Exprs → Env → Turn
tuple_turn NoExpr env = give (Done nil)
tuple_turn (AnExpr e NoExpr) env = evaluate e env []
tuple_turn (AnExpr e (AnExpr next rest)) env = evaluate e env (First next rest env ∷ [])

-- to the next expression of some items, after those that are done, which are kept from the last
abbrev pub items_turn : Items → Env → (done : List Thing) → Turn
items_turn NoItem env done = give (Done (sequence_of (before done [])))
items_turn (AnItem (One e) rest) env done = evaluate e env (Iteming done rest env ∷ [])
items_turn (AnItem (Splice e) rest) env done = evaluate e env (Splicing done rest env ∷ [])
items_turn (AnItem (Run characters) rest) env done =
    items_turn rest env (before (map Character characters) done)

-- to the next field, beside those that are done
abbrev pub fields_turn : Fields → Env → (done : thing.Fields) → Turn
fields_turn NoField env done = give (Done (thing.Record done))
fields_turn (AField label at e rest) env done =
    evaluate e env (Fielding done label rest env ∷ [])

-- to the function of an application
abbrev pub apply_turn : Exprs → Env → Turn
apply_turn NoExpr env = give Stuck
apply_turn (AnExpr self arguments) env = evaluate self env (Called arguments env ∷ [])

abbrev pub kind_turn : Code → Kind → Env → Turn
kind_turn code (Constant is) env = give (Done (thing_of is))
kind_turn code (Variable name) env = give (found (named code env name))
kind_turn code (Tuple exprs) env = tuple_turn exprs env
kind_turn code (Sequence all) env = items_turn all env []
kind_turn code (Record fields) env = fields_turn fields env thing.NoField
kind_turn code (Xml tag attributes content) env =
    evaluate tag env (Tagging attributes content env ∷ [])
kind_turn code (Function f) env = give (Done (Closure (place_of f) env))
kind_turn code (Apply exprs) env = apply_turn exprs env
kind_turn code (Match e branches) env = evaluate e env (Matching branches env ∷ [])
kind_turn code (Try body branches) env = evaluate body env (Trying branches env ∷ [])
kind_turn code (Map e branches) env = evaluate e env (Listing branches env ∷ [])
kind_turn code (Transform e branches) env = evaluate e env (Sifting branches env ∷ [])
kind_turn code (Let pattern e rest) env = evaluate e env (Letting pattern rest env ∷ [])
kind_turn code (If condition then_one else_one) env =
    evaluate condition env (Asking then_one else_one env ∷ [])
kind_turn code (Chain first tails) env = evaluate first env (Tailing tails env ∷ [])
kind_turn code (Call word e) env = evaluate e env (Wording word ∷ [])

abbrev pub expr_turn : Code → Expr → Env → Turn
expr_turn code (expr span kind) env = kind_turn code kind env
