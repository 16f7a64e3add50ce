-- A branch is tried after the other.
use Rattle.std.proofs.Common.{◌≡◌, ◌<◌, ◌+◌, ℕ, Bool, true, false, List, [], ◌∷◌, ◌++◌, length, get_or, drop, map, Option, Some, None, option_map, refl, sym, ap, subst, ◌∙◌}
use Rattle.std.proofs.lemmas.List.{drop_more}
use Rattle.cd_syntax.specs.TypeTree.{Tree}
use Rattle.cd_model.specs.Thing.{Thing, Field}
use Rattle.cd_program.specs.Expr.{Expr, Branches, ABranch, branches_of}
use Rattle.cd_program.specs.PlainExpr.{plain_branch}
use Rattle.cd_program.specs.declared.expr.Branch.{Branch as CodeBranch}
use Rattle.cd_cells.specs.Cells.{name_at, thing_at}
use Rattle.cd_cells.specs.Table.{table, names}
use Rattle.cd_cells.specs.declared.cell.Part.{Part}
use Rattle.cd_cells.specs.declared.values.Values.{Values}
use Rattle.cd_evaluation.specs.Environment.{Env, with_all}
use Rattle.cd_evaluation.specs.Code.{Code}
use Rattle.cd_evaluation.specs.Picks.{Picks}
use Rattle.cd_code.specs.Compiled.{env_of, if_taken}
use Rattle.cd_machine.specs.Inner.Entries.{Takes}
use Rattle.cd_machine.specs.Inner.Nodes.{parts_at, Longer}
use Rattle.cd_machine.specs.Inner.PlainFrame.{env_at}
use Rattle.cd_machine.specs.declared.environments.EnvId.{EnvId}
use Rattle.cd_machine.proofs.NodesAdded.{stays}
use Rattle.cd_machine.specs.Inner.Resuming.{Entry, Chooses, LetsIn}

-- what is captured stands before what is around
pub with_parts : (values : Values) (parts around : List Part) → env_of values (parts ++ around) ≡ with_all (env_of values parts) (env_of values around)
with_parts values [] around = refl
with_parts values (part ∷ parts) around =
    ap (Field (name_at (names values) part.label) (thing_at (table values) part.value)) (with_parts values parts around)

-- what an option holds
abbrev unwrap : Entry → Option Entry → Entry
unwrap other None = other
unwrap other (Some found) = found

module _ (code : Code) (pattern : Tree) (body : Expr) (rest : Branches) (v : Thing) (env : Env) where
  -- the pattern takes the value
  pub taken : (entry : Entry) → LetsIn code pattern body env v (Some entry) → Chooses code (ABranch pattern body rest) v env (Some entry)
  taken entry lets = by_answer lets.0 lets.1 lets.2
    where
      by_answer : (answer : Option Env) → code.take pattern v answer → Some entry ≡ option_map (λ own. (body, with_all own env)) answer
          → Chooses code (ABranch pattern body rest) v env (Some entry)
      by_answer None takes is = cc
      by_answer (Some own) takes is = record { choice = Some (body, own); picks = (Some own, takes, refl); is = is }

  abbrev let_entry : Option Env → Option Entry
  let_entry answer = option_map (λ own. (body, with_all own env)) answer

  -- or it does not
  pub not_taken : LetsIn code pattern body env v None → (choice : Option (Expr × Env)) → Picks code rest v choice
      → Picks code (ABranch pattern body rest) v choice
  not_taken lets choice picks = by_answer lets.0 lets.1 lets.2
    where
      by_answer : (answer : Option Env) → code.take pattern v answer → None ≡ let_entry answer
          → Picks code (ABranch pattern body rest) v choice
      by_answer None takes is = (None, takes, picks)
      by_answer (Some own) takes is = cc

-- the branches from one of them on
pub next_branch : (items : List CodeBranch) (index : ℕ) (item : CodeBranch) → item ≡ get_or items index item → index < length items
    → branches_of (map plain_branch (drop index items))
    ≡ ABranch (plain_branch item).pattern (plain_branch item).body (branches_of (map plain_branch (drop (index + 1) items)))
next_branch items index item is within = ap (λ (items : List CodeBranch). branches_of (map plain_branch items))
    (drop_more items index item within ∙ ap (λ (one : CodeBranch). one ∷ drop (index + 1) items) (sym is))

-- the branch that takes the value, of all branches
pub chosen : (code code' : Code) (whole from rest : Branches) (pattern : Tree) (body : Expr) (v v' v'' : Thing) (env : Env) (entry : Entry) (found : Option Entry)
    → code' ≡ code → v' ≡ v → v'' ≡ v → found ≡ Some entry → from ≡ ABranch pattern body rest
    → ((choice : Option (Expr × Env)) → Picks code from v choice → Picks code whole v choice) → LetsIn code' pattern body env v' found
    → Chooses code whole v'' env (Some entry)
chosen code code' whole from rest pattern body v v' v'' env entry found same_code same last is begins picks lets =
    let here : LetsIn code pattern body env v (Some entry) = subst (λ (found : Option Entry). LetsIn code pattern body env v found) is
    (subst (λ (v : Thing). LetsIn code pattern body env v found) same
    (subst (λ (code : Code). LetsIn code pattern body env v' found) same_code lets)) in
    let one = taken code pattern body rest v env entry here in
    subst (λ (v : Thing). Chooses code whole v env (Some entry)) (sym last) record {
      choice = one.choice;
      picks = picks one.choice (subst (λ (branches : Branches). Picks code branches v one.choice) (sym begins) one.picks);
      is = one.is;
    }

-- the branches after one that does not
pub passed : (code code' : Code) (whole from rest : Branches) (pattern : Tree) (body : Expr) (v v' : Thing) (env : Env) (found : Option Entry)
    → code' ≡ code → v' ≡ v → found ≡ None → from ≡ ABranch pattern body rest
    → ((choice : Option (Expr × Env)) → Picks code from v choice → Picks code whole v choice) → LetsIn code' pattern body env v' found
    → (choice : Option (Expr × Env)) → Picks code rest v choice → Picks code whole v choice
passed code code' whole from rest pattern body v v' env found same_code same is begins picks lets choice later =
    let here : LetsIn code pattern body env v None = subst (λ (found : Option Entry). LetsIn code pattern body env v found) is
    (subst (λ (v : Thing). LetsIn code pattern body env v found) same
    (subst (λ (code : Code). LetsIn code pattern body env v' found) same_code lets)) in
    picks choice (subst (λ (branches : Branches). Picks code branches v choice) (sym begins) (not_taken code pattern body rest v env here choice later))

-- a pattern that takes a value
pub takes_some : (code : Code) (values : Values) (environments longer : List (List Part)) (pattern : Tree) (v : Thing) (env id : EnvId) (captured : List Part)
    (takes : Bool) → takes ≡ true → code.take pattern v (if_taken takes (env_of values captured)) → Longer environments longer → env.0 < length environments
    → parts_at longer id.0 ≡ captured ++ parts_at environments env.0
    → Takes values longer code pattern v (env_at values longer env) (Some id)
takes_some code values environments longer pattern v env id captured takes is take more within parts = (
  Some (env_of values captured),
  subst (λ (takes : Bool). code.take pattern v (if_taken takes (env_of values captured))) is take,
  ap Some (ap (env_of values) (parts ∙ ap (λ around. captured ++ around) (sym (stays environments longer more env.0 within)))
      ∙ with_parts values captured (parts_at longer env.0)),
)

-- and one that does not
pub takes_none : (code : Code) (values : Values) (environments : List (List Part)) (pattern : Tree) (v : Thing) (env : Env) (captured : Env)
    (takes : Bool) → takes ≡ false → code.take pattern v (if_taken takes captured) → Takes values environments code pattern v env None
takes_none code values environments pattern v env captured takes is take =
    (None, subst (λ (takes : Bool). code.take pattern v (if_taken takes captured)) is take, refl)
