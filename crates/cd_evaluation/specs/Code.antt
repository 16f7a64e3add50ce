-- Code: what evaluation asks of a program.
use Rattle.std.specs.Prelude.{◌≡◌, ℕ, Option, option_map}
use Rattle.cd_syntax.specs.Name.{Name}
use Rattle.cd_syntax.specs.TypeTree.{Tree}
use Rattle.cd_model.specs.Thing.{Thing, Closure, NoField}
use Rattle.cd_rules.specs.InRow.{thing_at}
use Rattle.cd_matching.specs.Captures.{or_else}
use Rattle.cd_program.specs.Expr.{FunctionTree, function}
use Rattle.cd_evaluation.specs.Environment.{Env}

pub record Code : Type 1 where
  -- the function that begins at a place, and the place of the function that is declared by a name
  pub function : (at : ℕ) → Option FunctionTree
  pub declared : Name → Option ℕ
  -- whether a pattern takes a value with these captures, or fails
  pub take : (pattern : Tree) → Thing → Option Env → Type 0

-- a function is known by the place of its word `fun`
abbrev pub place_of : FunctionTree → ℕ
place_of (function at name name_at interface branches) = at

-- a declared function as a value, whose environment is empty
abbrev pub declared_value : Code → Name → Option Thing
declared_value code name = option_map (λ at. Closure at NoField) (code.declared name)

-- the value of a name: that of the environment, or else the declared function
abbrev pub named : Code → Env → Name → Option Thing
named code env name = or_else (thing_at env name) (declared_value code name)

-- a value has at most one answer of a pattern
abbrev pub TakesOnce : Code → Type 0
TakesOnce code = (pattern : Tree) (v : Thing) (one other : Option Env) → code.take pattern v one
    → code.take pattern v other → one ≡ other

-- a value has an answer of each pattern
abbrev pub TakesOrFails : Code → Type 0
TakesOrFails code =
    (pattern : Tree) (v : Thing) → (answer : Option Env) × code.take pattern v answer
