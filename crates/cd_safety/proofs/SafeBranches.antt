-- Forms with branches, and `let`, are safe where the bodies of their branches are.
use Rattle.std.proofs.Common.{ℕ, [], ◌++◌, ◌⊎◌, inl, inr, sym, subst}
use Rattle.cd_syntax.specs.TypeTree.{Tree}
use Rattle.cd_model.specs.AllOf.{AllOf}
use Rattle.cd_model.specs.Interfaces.{Interfaces}
use Rattle.cd_model.specs.Scope.{Scope}
use Rattle.cd_model.specs.Thing as thing
use Rattle.cd_model.specs.Thing.{Thing}
use Rattle.cd_model.proofs.Ones.{each_weaker}
use Rattle.cd_matching.specs.Sequences.{nil}
use Rattle.cd_program.specs.Expr.{Expr, Match, Try, Map, Transform, Let, Branches, NoBranch, ABranch}
use Rattle.cd_meaning.specs.Sets.{Set, ◌⊆◌}
use Rattle.cd_meaning.specs.Sequences.{IsListOf}
use Rattle.cd_typing.specs.Branches.{Cover, patterns_of}
use Rattle.cd_typing.specs.Kept.{Kept, Matches}
use Rattle.cd_typing.specs.Rules.{BodiesHave}
use Rattle.cd_typing.specs.Typ.{Typ, In, IsType, Types}
use Rattle.cd_evaluation.specs.Code.{Code}
use Rattle.cd_evaluation.specs.Environment.{Env, with_all}
use Rattle.cd_evaluation.specs.Evaluation.{items_or_stuck, mapped, joined, chosen}
use Rattle.cd_evaluation.specs.Runs.{Outcome, Done, Raised, Stuck, Run, ends, for_each}
use Rattle.cd_safety.specs.ComesWithin.{IsExpected}
use Rattle.cd_safety.specs.PatternTypes.{AreTypedPatterns}
use Rattle.cd_safety.specs.Sound.{data_type, IsGood, AreGood, IsFine}
use Rattle.cd_safety.specs.TypedClosure.{IsGoodPattern}
use Rattle.cd_safety.specs.ValueIn.{ValueIn}
use Rattle.cd_safety.specs.Ways.{Way, code_by}
use Rattle.cd_safety.proofs.ConstantsSafe.{good_within}
use Rattle.cd_safety.proofs.ListsSafe.{list_in, mapped_fine, joined_fine, nil_listed}
use Rattle.cd_safety.proofs.OperandsStandIn.{data_is_type}
use Rattle.cd_safety.proofs.PatternRuns.{BodiesAreFine, chosen_is_fine, covering_is_fine, let_is_fine}
use Rattle.cd_safety.proofs.ProgramPatterns.{env_of}
use Rattle.cd_safety.proofs.SafeNames.{Fact, IsSafeCode, Sees, sees_captured}
use Rattle.cd_safety.proofs.SafeParts.{GoodAt, SafeFor, SafeIn, ExprIsSafe, KindIsSafe, BranchesAreSafe}
use Rattle.cd_safety.proofs.SafeRuns.{end_safe, weaker_safe, tick_safe, bound_safe, caught_safe, each_safe, answers_safe}
use Rattle.cd_safety.proofs.SequencesGood.{nil_of}
use Rattle.cd_safety.proofs.SortsByParts.{good_by_parts}
use Rattle.cd_safety.proofs.ValuesExpected.{condition_of, all_expected}

module _ (kept : Kept) (scope : Scope) (code : Code) (interfaces : Interfaces) (given : IsSafeCode kept scope code interfaces)
    (call : Way → Thing → Thing → Run) where
  abbrev by : Way → Code
  by = code_by interfaces kept code

  abbrev fact : ℕ → thing.Fields → Type 0
  fact = Fact kept scope code interfaces

  patterns_are_typed : (branches : Branches) → BranchesAreSafe kept scope code interfaces call branches → AreTypedPatterns scope branches
  patterns_are_typed NoBranch safe = tt
  patterns_are_typed (ABranch pattern body rest) safe = (safe.0.typed, patterns_are_typed rest safe.2)

  -- a value of a type may come to each of these patterns
  abbrev pub MayCome : Branches → Thing → Type 0
  MayCome branches v = AllOf (λ pattern. IsExpected interfaces kept pattern v) (patterns_of branches)

  pub may_come : (s : Typ) → IsType s → (v : Thing) → GoodAt kept scope code interfaces s v → (branches : Branches) (condition : Type 0)
      → Matches kept (patterns_of branches) (In s) condition → MayCome branches v
  may_come s s_is v good branches condition =
      all_expected interfaces s s_is v good.0.typed good.1 kept given.keeps (patterns_of branches) condition

  -- branches at a value of a type, whose bodies have types within a set. What such types make of values is wanted
  module _ (types : Types) (env : Env) (sees : Sees kept scope code interfaces types env) (matched : Typ) (type : IsType matched) (v : Thing)
      (good : GoodAt kept scope code interfaces matched v) where
    module _ (wanted : Thing → Type 0) (set : Set)
        (follows : (s : Typ) → IsType s → In s ⊆ set → (w : Thing) → GoodAt kept scope code interfaces s w → wanted w) where
      abbrev Fine : (Way → Run) → Type 0
      Fine run = SafeFor kept scope code interfaces wanted run

      bodies_fine : (branches : Branches) → BranchesAreSafe kept scope code interfaces call branches
          → BodiesAreFine kept code call interfaces scope env_of given.takes Fine (answers_safe fact interfaces kept code wanted) types matched
          type v good.0.typed good.1 env branches (λ s. In s ⊆ set)
      bodies_fine NoBranch safe = tt
      bodies_fine (ABranch pattern body rest) safe = (
        λ own s captures own_are own_fit takes s_is has within.
            weaker_safe fact interfaces (ValueIn interfaces s) wanted (λ w w_good w_in. follows s s_is within w (w_good, w_in))
            (safe.1 (own ++ types) (with_all (env_of pattern captures) env)
            (sees_captured kept scope code interfaces pattern safe.0 v good.0 captures takes own types env own_are own_fit sees) s s_is has),
        bodies_fine rest safe.2,
      )

      pub chosen_safe : (branches : Branches) → BranchesAreSafe kept scope code interfaces call branches
          → MayCome branches v → BodiesHave kept scope types [] (In matched) branches set → (otherwise : Outcome)
          → IsFine fact interfaces wanted otherwise ⊎ Cover scope branches (In matched)
          → Fine (λ way. chosen (by way) (call way) branches env v otherwise)
      chosen_safe branches safe come have otherwise (inl fine) = chosen_is_fine kept code call interfaces scope env_of given.takes Fine
          (answers_safe fact interfaces kept code wanted) types matched type v good.0.typed good.1 env set otherwise branches
          (patterns_are_typed branches safe) come have (bodies_fine branches safe) (λ fail. end_safe fact interfaces wanted otherwise fine)
      chosen_safe branches safe come have otherwise (inr cover) = covering_is_fine kept code call interfaces scope env_of given.takes Fine
          (answers_safe fact interfaces kept code wanted) types matched type v good.0.typed good.1 env set otherwise branches
          (patterns_are_typed branches safe) come cover have (bodies_fine branches safe)

    -- where a type is wanted
    pub chosen_in : (t : Typ) → IsType t → (branches : Branches) → BranchesAreSafe kept scope code interfaces call branches
        → MayCome branches v → BodiesHave kept scope types [] (In matched) branches (In t) → (otherwise : Outcome)
        → IsFine fact interfaces (ValueIn interfaces t) otherwise ⊎ Cover scope branches (In matched)
        → SafeIn kept scope code interfaces t (λ way. chosen (by way) (call way) branches env v otherwise)
    chosen_in t t_is = chosen_safe (ValueIn interfaces t) (In t)
        (λ s s_is within w w_good. (good_within fact interfaces s t s_is t_is within w w_good).1)

  -- branches that take all elements of a type
  pub closed_in : (types : Types) (env : Env) → Sees kept scope code interfaces types env → (matched : Typ) → IsType matched → (v : Thing)
      → GoodAt kept scope code interfaces matched v → (t : Typ) → IsType t → (branches : Branches)
      → BranchesAreSafe kept scope code interfaces call branches
      → Matches kept (patterns_of branches) (In matched) (Cover scope branches (In matched))
      → BodiesHave kept scope types [] (In matched) branches (In t)
      → SafeIn kept scope code interfaces t (λ way. chosen (by way) (call way) branches env v Stuck)
  closed_in types env sees matched type v good t t_is branches safe matches have =
      let cover = Cover scope branches (In matched) in
      chosen_in types env sees matched type v good t t_is branches safe (may_come matched type v good branches cover matches) have Stuck
      (inr (condition_of kept (patterns_of branches) (In matched) cover matches))

  pub match_safe : (e : Expr) (branches : Branches) → ExprIsSafe kept scope code interfaces call e
      → BranchesAreSafe kept scope code interfaces call branches → KindIsSafe kept scope code interfaces call (Match e branches)
  match_safe e branches e_is safe types env sees t type have =
      bound_safe fact interfaces (ValueIn interfaces have.0) (ValueIn interfaces t) (e_is types env sees have.0 have.1 have.2)
      (λ v good inside. tick_safe fact interfaces (ValueIn interfaces t)
      (closed_in types env sees have.0 have.1 v (good, inside) t type branches safe have.3 have.4))

  pub try_safe : (body : Expr) (branches : Branches) → ExprIsSafe kept scope code interfaces call body
      → BranchesAreSafe kept scope code interfaces call branches → KindIsSafe kept scope code interfaces call (Try body branches)
  try_safe body branches body_is safe types env sees t type have =
      let bodies = BodiesHave kept scope types [] (In data_type) branches (In t) in
      caught_safe fact interfaces (ValueIn interfaces t) (body_is types env sees t type have.0)
      (λ v fine. tick_safe fact interfaces (ValueIn interfaces t)
      (chosen_in types env sees data_type data_is_type v fine t type branches safe
      (may_come data_type data_is_type v fine branches bodies have.1)
      (condition_of kept (patterns_of branches) (In data_type) bodies have.1) (Raised v) (inl fine)))

  pub map_safe : (e : Expr) (branches : Branches) → ExprIsSafe kept scope code interfaces call e
      → BranchesAreSafe kept scope code interfaces call branches → KindIsSafe kept scope code interfaces call (Map e branches)
  map_safe e branches e_is safe types env sees t type have =
      bound_safe fact interfaces (ValueIn interfaces have.0) (ValueIn interfaces t) (e_is types env sees have.0 have.3 have.4)
      (λ v good inside. let list = list_in fact interfaces have.0 have.1 have.3 have.5 have.6 v (good, inside) in
      subst (λ what. SafeIn kept scope code interfaces t (λ way. items_or_stuck what
      (λ all. for_each (λ w. chosen (by way) (call way) branches env w Stuck) all (λ ws. ends (mapped ws))))) (sym list.1)
      (each_safe fact interfaces (ValueIn interfaces have.1) (ValueIn interfaces have.2) (ValueIn interfaces t)
      (λ w w_good w_in. closed_in types env sees have.1 have.5 w (w_good, w_in) have.2 have.8 branches safe have.7 have.9)
      list.0 list.2
      (λ ws are. end_safe fact interfaces (ValueIn interfaces t) (mapped ws)
      (mapped_fine fact interfaces have.2 t have.8 type have.10 ws are))))

  pub transform_safe : (e : Expr) (branches : Branches) → ExprIsSafe kept scope code interfaces call e
      → BranchesAreSafe kept scope code interfaces call branches → KindIsSafe kept scope code interfaces call (Transform e branches)
  transform_safe e branches e_is safe types env sees t type have =
      let Listed = IsListOf (GoodAt kept scope code interfaces have.2) in
      let bodies = BodiesHave kept scope types [] (In have.1) branches (IsListOf (In have.2)) in
      bound_safe fact interfaces (ValueIn interfaces have.0) (ValueIn interfaces t) (e_is types env sees have.0 have.3 have.4)
      (λ v good inside. let list = list_in fact interfaces have.0 have.1 have.3 have.5 have.6 v (good, inside) in
      subst (λ what. SafeIn kept scope code interfaces t (λ way. items_or_stuck what
      (λ all. for_each (λ w. chosen (by way) (call way) branches env w (Done nil)) all (λ ws. ends (joined ws))))) (sym list.1)
      (each_safe fact interfaces (ValueIn interfaces have.1) Listed (ValueIn interfaces t)
      (λ w w_good w_in. chosen_safe types env sees have.1 have.5 w (w_good, w_in) Listed (IsListOf (In have.2))
      (λ s s_is within r r_good. list_in fact interfaces s have.2 s_is have.7 within r r_good)
      branches safe (may_come have.1 have.5 w (w_good, w_in) branches bodies have.8)
      (condition_of kept (patterns_of branches) (In have.1) bodies have.8) (Done nil)
      (inl (nil_of (IsGood fact interfaces) (AreGood fact interfaces) (good_by_parts fact interfaces), nil_listed fact interfaces have.2)))
      list.0 list.2
      (λ ws are. end_safe fact interfaces (ValueIn interfaces t) (joined ws)
      (joined_fine fact interfaces have.2 t have.7 type have.9 ws
      (each_weaker (λ w. IsGood fact interfaces w × Listed w) Listed (λ w is. is.1) ws are)))))

  pub let_safe : (pattern : Tree) → IsGoodPattern scope pattern → (e rest : Expr) → ExprIsSafe kept scope code interfaces call e
      → ExprIsSafe kept scope code interfaces call rest → KindIsSafe kept scope code interfaces call (Let pattern e rest)
  let_safe pattern is e rest e_is rest_is types env sees t type have =
      let branch = ABranch pattern rest NoBranch in
      let cover = Cover scope branch (In have.0) in
      bound_safe fact interfaces (ValueIn interfaces have.0) (ValueIn interfaces t) (e_is types env sees have.0 have.1 have.2)
      (λ v good inside. tick_safe fact interfaces (ValueIn interfaces t)
      (let_is_fine kept code call interfaces scope env_of given.takes (λ run. SafeIn kept scope code interfaces t run)
      (answers_safe fact interfaces kept code (ValueIn interfaces t)) types have.0 have.1 v good.typed inside env pattern is.typed
      (may_come have.0 have.1 v (good, inside) branch cover have.3).0 rest t
      (condition_of kept (patterns_of branch) (In have.0) cover have.3) have.4
      (λ own captures own_are own_fit takes has. rest_is (own ++ types) (with_all (env_of pattern captures) env)
      (sees_captured kept scope code interfaces pattern is v good captures takes own types env own_are own_fit sees) t type has)))
