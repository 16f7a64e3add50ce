-- Nothing is wrong with the names of the workload's program.
use Rattle.std.proofs.Common.{◌≡◌, ◌∙◌, ℕ, true, true≢false, List, [], ◌∷◌, ◌++◌, Some, None, refl, sym, subst, inl, inr}
use Rattle.std.specs.Prelude.{codes}
use Rattle.cd_syntax.specs.declared.tokens.Span.{Span}
use Rattle.cd_syntax.specs.TypeTree.{Tree, Declarations}
use Rattle.cd_tables.specs.Rows.{row_of}
use Rattle.cd_program.specs.Expr.{expr, Kind, Variable, Record, FunctionTree}
use Rattle.cd_model.specs.AllOf.{AllOf}
use Rattle.cd_resolve.specs.Faults.{Fault, IsFaultOfType, IsFaultOfDeclarations}
use Rattle.cd_resolve.specs.Inner.BuiltinNames.{is_builtin}
use Rattle.cd_resolve.specs.Least.{least_from}
use Rattle.cd_resolve.specs.Inner.Check.{found_in_type, all_faults}
use Rattle.cd_resolve.proofs.Checking.{type_sound, declared_sound}
use Rattle.cd_variables.specs.VariableFaults.{IsOneIn}
use Rattle.cd_variables.specs.FindingVariables.{variable_faults}
use Rattle.cd_variables.proofs.VariablesFound.{variables_found}
use Rattle.cd_names.specs.ProgramFaults as faults
use Rattle.cd_names.specs.ProgramFaults.{Seen, is_seen, names_of, with_name, IsFaultOfPattern, Part, part, parts}
use Rattle.cd_names.specs.ProgramFaults.{patterns_in, types_in, function_bodies, function_patterns, function_types}
use Rattle.cd_names.specs.ProgramFaults.{LabelAgain, DeclaredAgain, declared_names, all_functions}
use Rattle.cd_names.specs.ProgramFaults.{IsFaultOfExpr, IsFaultOfFunction, IsFaultOfProgram}
use Rattle.cd_grammar.specs.TreesAt.{named_at, any_at}
use Rattle.cd_running.specs.Inner.WorkProgram.{integers_at, log_pattern, entry_pattern, only_zero}
use Rattle.cd_running.specs.Inner.WorkProgram.{body, main, work_program}

-- what holds of all members of a list holds of each
each : {X : Type 0} (fact : X → Type 0) (all : List X) (one : X) → AllOf fact all → IsOneIn one all → fact one
each fact [] one are there = elim there [ ]
each fact (first ∷ rest) one are (inl same) = subst fact same are.0
each fact (first ∷ rest) one are (inr there) = each fact rest one are.1 there

module _ (types : Declarations) where
  -- nothing is wrong with a type, a pattern, an expression and a function
  abbrev IsFreeType : Tree → Type 0
  IsFreeType t = (fault : Fault) → IsFaultOfType types t fault → ⊥

  abbrev IsFreePattern : Tree → Type 0
  IsFreePattern t = (fault : Fault) → IsFaultOfPattern types t fault → ⊥

  abbrev IsFreePart : Part → Type 0
  IsFreePart one = (fault : Fault) → IsFaultOfExpr types one.seen one.expr fault → ⊥

  -- where a walk over it finds nothing
  free_type : (t : Tree) → least_from None (all_faults (found_in_type types t)) ≡ None → IsFreeType t
  free_type t none = type_sound types t none

  free_pattern : (t : Tree) → least_from None (all_faults (found_in_type types t)) ≡ None
      → variable_faults t [] ≡ [] → IsFreePattern t
  free_pattern t none no_variable fault (inl is) = type_sound types t none fault is
  free_pattern t none no_variable fault (inr is) =
      let there : IsOneIn fault [] = subst (IsOneIn fault) no_variable ((variables_found t [] fault).1 (inr is)) in
      elim there [ ]

  -- what an expression of a kind is to fulfil itself
  abbrev IsRight : Seen → Kind → Type 0
  IsRight seen (Variable name) = is_seen seen name ≡ true
  IsRight seen (Record fields) = (label : List ℕ) (at : ℕ) → LabelAgain label at fields → ⊥
  IsRight seen kind = Unit {0}

  free_expr : (seen : Seen) (span : Span) (kind : Kind) → IsRight seen kind → AllOf IsFreeType (types_in kind)
      → AllOf IsFreePattern (patterns_in kind) → AllOf IsFreePart (parts seen kind)
      → IsFreePart (part seen (expr span kind))
  free_expr seen span kind right trees patterns all fault is = by kind fault right trees patterns all is
    where
      by : (kind : Kind) (fault : Fault) → IsRight seen kind → AllOf IsFreeType (types_in kind)
          → AllOf IsFreePattern (patterns_in kind) → AllOf IsFreePart (parts seen kind)
          → IsFaultOfExpr types seen (expr span kind) fault → ⊥
      by _ _ right trees patterns all (faults.IsFaultOfExpr.unknown _ _ name not) = true≢false (sym right ∙ not)
      by _ _ right trees patterns all (faults.IsFaultOfExpr.label_twice _ _ fields label at again) =
          right label at again
      by kind fault right trees patterns all (faults.IsFaultOfExpr.in_type _ _ _ t _ there is) =
          each IsFreeType (types_in kind) t trees there fault is
      by kind fault right trees patterns all (faults.IsFaultOfExpr.in_pattern _ _ _ pattern _ there is) =
          each IsFreePattern (patterns_in kind) pattern patterns there fault is
      by kind fault right trees patterns all (faults.IsFaultOfExpr.in_part _ inner _ _ e _ there is) =
          each IsFreePart (parts seen kind) (part inner e) all there fault is

  free_function : (seen : Seen) (f : FunctionTree) → AllOf IsFreeType (function_types f)
      → AllOf IsFreePattern (function_patterns f) → AllOf IsFreePart (function_bodies seen f)
      → (fault : Fault) → IsFaultOfFunction types seen f fault → ⊥
  free_function seen f trees patterns all fault (faults.IsFaultOfFunction.in_type t _ there is) =
      each IsFreeType (function_types f) t trees there fault is
  free_function seen f trees patterns all fault (faults.IsFaultOfFunction.in_pattern pattern _ there is) =
      each IsFreePattern (function_patterns f) pattern patterns there fault is
  free_function seen f trees patterns all fault (faults.IsFaultOfFunction.in_body inner e _ there is) =
      each IsFreePart (function_bodies seen f) (part inner e) all there fault is

-- the types of the program, the names that its body sees, and those that the first branch sees
abbrev types : Declarations
types = work_program.types

abbrev outside : Seen
outside = names_of log_pattern ++ with_name (Some (codes "main")) (all_functions work_program)

abbrev inside : Seen
inside = names_of entry_pattern ++ outside

-- nothing is wrong with the patterns, the expressions and the function
any_is_free : IsFreePattern types (any_at 138)
any_is_free = free_pattern types (any_at 138) refl refl

entry_is_free : IsFreePattern types entry_pattern
entry_is_free = free_pattern types entry_pattern refl refl

log_is_free : IsFreePattern types log_pattern
log_is_free = free_pattern types log_pattern refl refl

zero_is_free : IsFreePart types (part outside only_zero)
zero_is_free = free_expr types outside _ _ tt tt tt (free_expr types outside _ _ tt tt tt tt, tt)

body_is_free : IsFreePart types (part outside body)
body_is_free =
    free_expr types outside _ _ tt tt (entry_is_free, (any_is_free, tt)) (
      free_expr types outside _ _ refl tt tt tt,
      (free_expr types inside _ _ refl tt tt tt, (zero_is_free, tt)),
    )

main_is_free : (fault : Fault) → IsFaultOfFunction types (all_functions work_program) main fault → ⊥
main_is_free =
    free_function types (all_functions work_program) main
    (free_type types (named_at "Log" 68) refl, (free_type types (integers_at 75 81) refl, tt))
    (log_is_free, tt) (body_is_free, tt)

-- nothing is wrong with the types, and with the whole program
declarations_are_free : (fault : Fault) → IsFaultOfDeclarations types fault → ⊥
unfolding is_builtin row_of
declarations_are_free = declared_sound types refl

pub program_named : (fault : Fault) → IsFaultOfProgram work_program fault → ⊥
program_named fault (faults.IsFaultOfProgram.in_types _ is) = declarations_are_free fault is
program_named _ (faults.IsFaultOfProgram.declared_again o is) = once is
  where
    once : DeclaredAgain o (declared_names work_program.functions) → ⊥
    once (inl both) = both.1
    once (inr again) = again
program_named fault (faults.IsFaultOfProgram.in_function f _ there is) =
    each (λ f. (fault : Fault) → IsFaultOfFunction types (all_functions work_program) f fault → ⊥)
    work_program.functions f (main_is_free, tt) there fault is
program_named _ (faults.IsFaultOfProgram.no_main not) = true≢false not
