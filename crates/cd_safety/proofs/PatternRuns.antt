-- Branches at a value of a type: where all runs of bodies that it may come to are fine, so is the run of the branches; and so for a `let`.
use Rattle.std.proofs.Common.{List, [], ◌∷◌, ◌++◌, Option, Some, None, sym, subst}
use Rattle.cd_syntax.specs.Name.{Name}
use Rattle.cd_syntax.specs.TypeTree.{Tree}
use Rattle.cd_model.specs.AllOf.{AllOf}
use Rattle.cd_model.specs.Interfaces.{Interfaces}
use Rattle.cd_model.specs.Scope.{Scope}
use Rattle.cd_model.specs.Thing.{Thing}
use Rattle.cd_matching.specs.Captures.{Captures}
use Rattle.cd_matching.specs.Takes.{WrittenValueTakes}
use Rattle.cd_program.specs.Expr.{Expr, Branches, NoBranch, ABranch}
use Rattle.cd_meaning.specs.Sets.{Set, ◌⊆◌}
use Rattle.cd_evaluation.specs.Code.{Code}
use Rattle.cd_evaluation.specs.Environment.{Env, with_all}
use Rattle.cd_evaluation.specs.Evaluation.{picked, by_pattern, eval, chosen}
use Rattle.cd_evaluation.specs.Runs.{Outcome, Stuck, Run, ends}
use Rattle.cd_typing.specs.Branches.{IsFirst, HoldCaptured, Cover, patterns_of}
use Rattle.cd_typing.specs.Kept.{Kept}
use Rattle.cd_typing.specs.Rules.{Has, BodiesHave}
use Rattle.cd_typing.specs.Typ.{Typ, In, IsType, Types, AreTypes}
use Rattle.cd_safety.specs.ComesWithin.{IsExpected}
use Rattle.cd_safety.specs.PatternAnswers.{Says, TakesAsWritten}
use Rattle.cd_safety.specs.PatternTypes.{IsTypedPattern, AreTypedPatterns}
use Rattle.cd_safety.specs.PatternValues.{ValuesFit, FailAll}
use Rattle.cd_safety.specs.ValueIn.{ValueIn, IsTypedValue}
use Rattle.cd_safety.specs.Ways.{Way, code_by}
use Rattle.cd_safety.proofs.PatternBranches.{some_branch_takes, body_has, rest_has}

module _ (kept : Kept) (code : Code) (call : Way → Thing → Thing → Run) (interfaces : Interfaces) (scope : Scope)
    (env_of : Tree → Captures Name → Env) (meant : TakesAsWritten interfaces scope env_of code) (Fine : (Way → Run) → Type 0)
    (by_answers : (pattern : Tree) (v : Thing) → IsExpected interfaces kept pattern v → (taken : Way → Env → Run) (fails : Way → Run)
    → ((answer : Option Env) → code.take pattern v answer → Fine (λ way. picked answer (taken way) (fails way)))
    → Fine (λ way. by_pattern (code_by interfaces kept code way) pattern v (taken way) (fails way)))
    (types : Types) (matched : Typ) (is_type : IsType matched) (v : Thing) (typed : IsTypedValue interfaces v)
    (inside : ValueIn interfaces matched v) (env : Env) where
  -- the pattern may be asked of the value
  abbrev pub IsAsked : Tree → Type 0
  IsAsked pattern = IsExpected interfaces kept pattern v

  abbrev by : Way → Code
  by = code_by interfaces kept code

  -- branches at the value, and one body where its pattern captures these
  abbrev branches_run : Branches → Outcome → Way → Run
  branches_run branches otherwise way = chosen (by way) (call way) branches env v otherwise

  abbrev body_run : Expr → Way → Env → Run
  body_run body way own = eval (by way) (call way) body (with_all own env)

  -- what is to be known of the body of a branch: that its run is fine, where its names have types that hold what they capture
  abbrev pub BodyIsFine : (pattern : Tree) → (body : Expr) → (Typ → Type 0) → Type 0
  BodyIsFine pattern body Wanted = (own : Types) (s : Typ) (captures : Captures Name) → AreTypes own → ValuesFit interfaces own captures
      → WrittenValueTakes interfaces scope pattern v (Some captures) → IsType s → Has kept scope (own ++ types) body s → Wanted s
      → Fine (λ way. body_run body way (env_of pattern captures))

  abbrev pub BodiesAreFine : Branches → (Typ → Type 0) → Type 0
  BodiesAreFine NoBranch Wanted = Unit {0}
  BodiesAreFine (ABranch pattern body rest) Wanted = BodyIsFine pattern body Wanted × BodiesAreFine rest Wanted

  module _ (wanted : Set) (otherwise : Outcome) where
    -- branches after those that failed
    pub chosen_after : (before : List Tree) → AllOf (IsTypedPattern scope) before
        → AllOf (λ other. WrittenValueTakes interfaces scope other v None) before → (branches : Branches)
        → AreTypedPatterns scope branches → AllOf IsAsked (patterns_of branches)
        → BodiesHave kept scope types before (In matched) branches wanted → BodiesAreFine branches (λ s. In s ⊆ wanted)
        → (FailAll interfaces scope branches v → Fine (λ way. ends otherwise)) → Fine (branches_run branches otherwise)
    chosen_after before before_typed failed NoBranch patterns asked have fine none = none tt
    chosen_after before before_typed failed (ABranch pattern body rest) patterns asked have fine none =
        by_answers pattern v asked.0 (body_run body) (branches_run rest otherwise)
        (λ answer takes. by_answer answer (meant pattern v answer typed.is_value takes)
        (λ fails. chosen_after (pattern ∷ before) (patterns.0, before_typed) (fails, failed) rest patterns.1 asked.1 have.1 fine.1
        (λ later. none (fails, later))))
      where
        by_answer : (answer : Option Env) → Says interfaces scope env_of pattern v answer
            → (WrittenValueTakes interfaces scope pattern v None → Fine (branches_run rest otherwise))
            → Fine (λ way. picked answer (body_run body way) (branches_run rest otherwise way))
        by_answer None fails later = later fails
        by_answer (Some caught) took later =
            let known = body_has interfaces scope before before_typed pattern patterns.0 matched is_type v took.0
            (record { typed = typed; in_type = inside; earlier = failed; takes = took.1 }) kept types body wanted have.0 in
            subst (λ own. Fine (λ way. body_run body way own)) (sym took.2)
            (fine.0 known.0 known.1 took.0 known.2 known.3 took.1 known.4 known.5 known.6)

    pub chosen_is_fine : (branches : Branches) → AreTypedPatterns scope branches → AllOf IsAsked (patterns_of branches)
        → BodiesHave kept scope types [] (In matched) branches wanted → BodiesAreFine branches (λ s. In s ⊆ wanted)
        → (FailAll interfaces scope branches v → Fine (λ way. ends otherwise)) → Fine (branches_run branches otherwise)
    chosen_is_fine = chosen_after [] tt tt

    -- branches that take all elements of the type, so that it does not matter what is done where none takes the value
    pub covering_is_fine : (branches : Branches) → AreTypedPatterns scope branches → AllOf IsAsked (patterns_of branches)
        → Cover scope branches (In matched) → BodiesHave kept scope types [] (In matched) branches wanted
        → BodiesAreFine branches (λ s. In s ⊆ wanted) → Fine (branches_run branches otherwise)
    covering_is_fine branches patterns asked cover have fine = chosen_is_fine branches patterns asked have fine
        (λ fail. absurd (some_branch_takes interfaces scope branches patterns matched is_type cover v typed inside fail))

  pub let_is_fine : (pattern : Tree) → IsTypedPattern scope pattern → IsAsked pattern → (rest : Expr) (t : Typ)
      → Cover scope (ABranch pattern rest NoBranch) (In matched)
      → ((e : Thing) (caught : Captures Name) → IsFirst scope [] pattern (In matched) e caught
      → (own : Types) × AreTypes own × HoldCaptured scope own [] pattern (In matched) × Has kept scope (own ++ types) rest t)
      → ((own : Types) (captures : Captures Name) → AreTypes own → ValuesFit interfaces own captures
      → WrittenValueTakes interfaces scope pattern v (Some captures) → Has kept scope (own ++ types) rest t
      → Fine (λ way. body_run rest way (env_of pattern captures)))
      → Fine (λ way. by_pattern (by way) pattern v (body_run rest way) (ends Stuck))
  let_is_fine pattern pattern_typed asked rest t cover have fine =
      by_answers pattern v asked (body_run rest) (λ way. ends Stuck)
      (λ answer takes. by_answer answer (meant pattern v answer typed.is_value takes))
    where
      by_answer : (answer : Option Env) → Says interfaces scope env_of pattern v answer
          → Fine (λ way. picked answer (body_run rest way) (ends Stuck))
      by_answer None fails = absurd (some_branch_takes interfaces scope (ABranch pattern rest NoBranch) (pattern_typed, tt) matched is_type cover v
          typed inside (fails, tt))
      by_answer (Some caught) took =
          let known = rest_has interfaces scope [] tt pattern pattern_typed matched is_type v took.0
          (record { typed = typed; in_type = inside; earlier = tt; takes = took.1 }) kept types rest t have in
          subst (λ own. Fine (λ way. body_run rest way own)) (sym took.2)
          (fine known.0 took.0 known.1 known.2 took.1 known.3)
