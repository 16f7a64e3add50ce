-- Where an expression or a function has no fault of its names, its parts, patterns and types have none, and no label of a record is
-- written twice.
use Rattle.std.proofs.Common.{ℕ, List, [], ◌∷◌, inl, inr, refl, ap, map, bytes_eq}
use Rattle.std.proofs.lemmas.Bool.{false_from_ne_true}
use Rattle.cd_syntax.specs.Name.{Name}
use Rattle.cd_syntax.specs.TypeTree.{Tree, Declarations}
use Rattle.cd_syntax.specs.declared.tokens.Span.{Span}
use Rattle.cd_resolve.specs.Faults.{Fault, IsFaultOfType}
use Rattle.cd_variables.specs.VariableFaults.{IsOneIn}
use Rattle.cd_program.specs.Expr.{Expr, expr, Kind, Fields, NoField, AField, FunctionTree}
use Rattle.cd_names.specs.Labels.{LacksLabel, LabelsDiffer}
use Rattle.cd_names.specs.ProgramFaults as faults
use Rattle.cd_names.specs.ProgramFaults.{Seen, IsFaultOfPattern, IsFaultOfExpr, IsFaultOfFunction, Part, part, parts}
use Rattle.cd_names.specs.ProgramFaults.{function_bodies, patterns_in, function_patterns, types_in, function_types}
use Rattle.cd_names.specs.ProgramFaults.{HasField, LabelAgain}
use Rattle.cd_names.proofs.OccurrenceNames.{name_is}

in_map : {X Y : Type 0} (f : X → Y) (x : X) (xs : List X) → IsOneIn x xs → IsOneIn (f x) (map f xs)
in_map f x [] one = one
in_map f x (y ∷ xs) (inl here) = inl (ap f here)
in_map f x (y ∷ xs) (inr later) = inr (in_map f x xs later)

module _ (types : Declarations) where
  -- no fault of an expression, of each of some, and of parts, patterns and types
  abbrev pub NoFault : Seen → Expr → Type 0
  NoFault seen e = (fault : Fault) → IsFaultOfExpr types seen e fault → ⊥

  abbrev pub NoFaults : Seen → List Expr → Type 0
  NoFaults seen all = (e : Expr) → IsOneIn e all → NoFault seen e

  abbrev pub PartsAreFree : List Part → Type 0
  PartsAreFree all = (seen : Seen) (e : Expr) → IsOneIn (part seen e) all → NoFault seen e

  abbrev pub PatternsAreFree : List Tree → Type 0
  PatternsAreFree all = (pattern : Tree) → IsOneIn pattern all → (fault : Fault) → IsFaultOfPattern types pattern fault → ⊥

  abbrev pub TypesAreFree : List Tree → Type 0
  TypesAreFree all = (t : Tree) → IsOneIn t all → (fault : Fault) → IsFaultOfType types t fault → ⊥

  -- no fault of what stands directly in something
  pub record AreFree (all : List Part) (patterns trees : List Tree) : Type 0 where
    pub parts_are : PartsAreFree all
    pub patterns_are : PatternsAreFree patterns
    pub types_are : TypesAreFree trees

  pub free_in_expr : (seen : Seen) (span : Span) (kind : Kind) → NoFault seen (expr span kind)
      → AreFree (parts seen kind) (patterns_in kind) (types_in kind)
  free_in_expr seen span kind none = record {
    parts_are = λ inner e is fault has. none fault (faults.IsFaultOfExpr.in_part seen inner span kind e fault is has);
    patterns_are = λ pattern is fault has. none fault (faults.IsFaultOfExpr.in_pattern seen span kind pattern fault is has);
    types_are = λ t is fault has. none fault (faults.IsFaultOfExpr.in_type seen span kind t fault is has);
  }

  pub free_in_function : (seen : Seen) (f : FunctionTree) → ((fault : Fault) → IsFaultOfFunction types seen f fault → ⊥)
      → AreFree (function_bodies seen f) (function_patterns f) (function_types f)
  free_in_function seen f none = record {
    parts_are = λ inner e is fault has. none fault (faults.IsFaultOfFunction.in_body inner e fault is has);
    patterns_are = λ pattern is fault has. none fault (faults.IsFaultOfFunction.in_pattern pattern fault is has);
    types_are = λ t is fault has. none fault (faults.IsFaultOfFunction.in_type t fault is has);
  }

  -- of expressions that see the same names
  pub each_free : (seen : Seen) (all : List Expr) → PartsAreFree (map (part seen) all) → NoFaults seen all
  each_free seen all free e is = free seen e (in_map (part seen) e all is)

-- no label of a record is written twice
pub lacks_label : (label : Name) (fields : Fields) → ((at : ℕ) → HasField label at fields → ⊥) → LacksLabel label fields
lacks_label label NoField none = tt
lacks_label label (AField other at e rest) none = (
  false_from_ne_true (bytes_eq other label) (λ same. none at (inl (name_is other label same, refl))),
  lacks_label label rest (λ there has. none there (inr has)),
)

pub labels_differ : (fields : Fields) → ((label : Name) (at : ℕ) → LabelAgain label at fields → ⊥) → LabelsDiffer fields
labels_differ NoField once = tt
labels_differ (AField label at e rest) once = (
  lacks_label label rest (λ there has. once label there (inl (refl, has))),
  labels_differ rest (λ other there again. once other there (inr again)),
)
