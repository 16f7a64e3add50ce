-- What enters a function that is applied.
use Rattle.std.proofs.Common.{◌≡◌, ℕ, Option, Some, None, refl, sym, ap, subst, ◌∙◌}
use Rattle.cd_syntax.specs.Name.{Name}
use Rattle.cd_model.specs.Thing.{Thing, Closure}
use Rattle.cd_program.specs.Expr.{FunctionTree}
use Rattle.cd_evaluation.specs.Environment.{Env, with_name}
use Rattle.cd_evaluation.specs.Code.{Code}
use Rattle.cd_machine.specs.Inner.Resuming.{Entry, Enters, EntersOf, EntersTree}

module _ (code : Code) (at : ℕ) (env : Env) (self v : Thing) (is : Closure at env ≡ self) where
  pub no_tree : None ≡ code.function at → Enters code self v None
  no_tree none = subst (λ (self : Thing). Enters code self v None) is
      (subst (λ (found : Option FunctionTree). EntersOf code found (Closure at env) env v None) none refl)

  pub by_tree : (tree : FunctionTree) (inner : Env) (entry : Option Entry) → Some tree ≡ code.function at → inner ≡ env
      → EntersTree code tree self inner v entry → Enters code self v entry
  by_tree tree inner entry found same enters = subst (λ (self : Thing). Enters code self v entry) is
      (subst (λ (found : Option FunctionTree). EntersOf code found (Closure at env) env v entry) found
      (subst (λ (inner : Env). EntersTree code tree (Closure at env) inner v entry) same
      (subst (λ (self : Thing). EntersTree code tree self inner v entry) (sym is) enters)))

-- the same name, before the same
pub name_stays : (name : Option Name) (self self' : Thing) (env env' : Env) → self ≡ self' → env ≡ env' → with_name name self env ≡ with_name name self' env'
name_stays name self self' env env' same around = ap (λ self. with_name name self env) same ∙ ap (with_name name self') around
