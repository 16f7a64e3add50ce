-- The steps of the machine that enter a function are right, where there are as many applications as units.
use Rattle.std.proofs.Common.{◌≡◌, ℕ, zero, suc, ◌<◌, List, ◌∷◌, Option, Some, None, refl, arith}
use Rattle.cd_syntax.specs.Name.{Name}
use Rattle.cd_model.specs.Thing as thing
use Rattle.cd_model.specs.Thing.{Thing, Closure}
use Rattle.cd_program.specs.Expr.{Expr, Exprs, Branches, Signature, function}
use Rattle.cd_evaluation.specs.Runs.{Done, Stuck, Result}
use Rattle.cd_evaluation.specs.Environment.{Env, with_all, with_name}
use Rattle.cd_evaluation.specs.Code.{Code}
use Rattle.cd_evaluation.specs.Evaluation.{eval}
use Rattle.cd_evaluation.specs.Meaning.{calls}
use Rattle.cd_evaluation.specs.Machine.{Frame, Called, Argument, State, evaluating, returning}
use Rattle.cd_evaluation.specs.Ends.{Keeps}
use Rattle.cd_evaluation.specs.Picks.{Picks}
use Rattle.cd_evaluation.proofs.AtOnce.{with_left, at_once}
use Rattle.cd_evaluation.proofs.MoreUnits.{evaluated}
use Rattle.cd_evaluation.proofs.PickedBranches.{some_picked, none_picked}

abbrev pub IsNoClosure : Thing → Type 0
IsNoClosure (Closure at env) = ⊥
IsNoClosure v = Unit {0}

module _ (code : Code) (depth : ℕ) (env : Env) (rest : Exprs) (stack : List Frame) (v : Thing) (units : ℕ) (below : units < depth) where
  -- the step from an argument that comes to a function
  abbrev KeepsCall : (self : Thing) → (new : State) → Type 0
  KeepsCall self new = Keeps code (calls code depth) (returning (Done v) (suc units) (Argument self rest env ∷ stack)) new

  pub entered : (at : ℕ) (inner : Env) (at' : ℕ) (name : Option Name) (name_at : ℕ) (interface : List Signature) (branches : Branches)
      (body : Expr) (captures : Env) → code.function at ≡ Some (function at' name name_at interface branches)
      → Picks code branches v (Some (body, captures))
      → KeepsCall (Closure at inner) (evaluating body (with_all captures (with_name name (Closure at inner) inner)) units (Called rest env ∷ stack))
  entered at inner at' name name_at interface branches body captures found picks result h =
      (with_left (Done v) (suc units), refl, (h.2.0, (h.0, called depth below h.0 h.1, h.2.1), h.2.2))
    where
      called : (depth' : ℕ) → units < depth' → (middle : Result)
          → eval code (calls code depth) body (with_all captures (with_name name (Closure at inner) inner)) units middle
          → calls code depth' (Closure at inner) v units middle
      called zero less middle h = absurd (omega arith)
      called (suc depth') less middle h = rw found (some_picked code (calls code depth') branches
          (with_name name (Closure at inner) inner) v Stuck body captures picks units middle
          (evaluated code depth depth' body _ units middle (omega (arith, below)) (omega (arith, less)) h))

  -- the application has no meaning
  stuck : (self : Thing) → calls code depth self v units (with_left Stuck units) → KeepsCall self (returning Stuck units stack)
  stuck self ends = at_once code (calls code depth) (Argument self rest env) (Done v) Stuck (suc units) units stack
      (with_left Stuck units, ends, refl)

  pub none_entered : (at : ℕ) (inner : Env) (at' : ℕ) (name : Option Name) (name_at : ℕ) (interface : List Signature) (branches : Branches)
      → code.function at ≡ Some (function at' name name_at interface branches) → Picks code branches v None
      → KeepsCall (Closure at inner) (returning Stuck units stack)
  none_entered at inner at' name name_at interface branches found picks = stuck (Closure at inner) (called depth below)
    where
      called : (depth' : ℕ) → units < depth' → calls code depth' (Closure at inner) v units (with_left Stuck units)
      called zero less = absurd (omega arith)
      called (suc depth') less = rw found (none_picked code (calls code depth') branches
          (with_name name (Closure at inner) inner) v Stuck picks units _ refl)

  pub no_function : (at : ℕ) (inner : Env) → code.function at ≡ None → KeepsCall (Closure at inner) (returning Stuck units stack)
  no_function at inner found = stuck (Closure at inner) (called depth below)
    where
      called : (depth' : ℕ) → units < depth' → calls code depth' (Closure at inner) v units (with_left Stuck units)
      called zero less = absurd (omega arith)
      called (suc depth') less = rw found refl

  pub no_closure : (self : Thing) → IsNoClosure self → KeepsCall self (returning Stuck units stack)
  no_closure self other = stuck self (called depth below self other)
    where
      called : (depth' : ℕ) → units < depth' → (self : Thing) → IsNoClosure self → calls code depth' self v units (with_left Stuck units)
      called zero less self other = absurd (omega arith)
      called (suc depth') less (thing.Closure at inner) other = absurd other
      called (suc depth') less (thing.Integer n) other = refl
      called (suc depth') less (thing.Character c) other = refl
      called (suc depth') less (thing.Atom name) other = refl
      called (suc depth') less (thing.Pair first second) other = refl
      called (suc depth') less (thing.Xml tag attributes content) other = refl
      called (suc depth') less (thing.Record fields) other = refl
      called (suc depth') less (thing.Function pairs) other = refl
