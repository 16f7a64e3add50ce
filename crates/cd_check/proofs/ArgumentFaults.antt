-- What is no function, and what is outside of what functions accept.
use Rattle.std.proofs.Common.{◌≡◌, ℕ, refl}
use Rattle.cd_sets.specs.declared.node_id.NodeId.{NodeId}
use Rattle.cd_model.specs.Formula.{Graph}
use Rattle.cd_model.specs.Scope.{Scope}
use Rattle.cd_model.specs.Thing.{Thing, Function, IsElement}
use Rattle.cd_program.specs.Expr.{Expr}
use Rattle.cd_meaning.specs.Functions.{IsFunction, IsOutsideDomain, AllMapInto}
use Rattle.cd_meaning.specs.Sets.{Set, ◌⊆◌, elements_of}
use Rattle.cd_typing.specs.Typ.{In, Types}
use Rattle.cd_typing.specs.declared.rule.Rule.TheVariants as rule
use Rattle.cd_least.specs.Faults.{Breaks, IsAccepted, HasWithin}
use Rattle.cd_least.specs.Misses.{place_of}
use Rattle.cd_check.specs.Inner.Environment.{Nodes, AreOfTypes}
use Rattle.cd_check.specs.Inner.Known.{IsKnown}
use Rattle.cd_check.proofs.Needed.{known_misses}

-- where one of the functions fails, all do not map
pub fails_outside : (functions more arguments results : Set) → functions ⊆ more → (d : Thing) → IsOutsideDomain functions d
    → AllMapInto more arguments results → arguments d → ⊥
fails_outside functions more arguments results fewer d outside all inside =
    (all.into outside.0 (outside.1.0, fewer (Function outside.0) outside.1.0 outside.1.1)).total d outside.2 inside

module _ (scope : Scope) (old : Graph) (nodes : Nodes) (graph : Graph) (f : Expr) (self : NodeId) (known : IsKnown old nodes scope graph f self)
    (types : Types) (of : AreOfTypes old nodes types) (e : Expr) (d : Thing) (element : IsElement d) where
  pub no_function : elements_of graph self d → (IsFunction d → ⊥) → (at : ℕ) → at ≡ place_of f
      → Breaks scope types f IsFunction rule.NotFunction at rule.NotFunction d
  no_function inside missed at place = (refl, known_misses scope old nodes graph f self known types of IsFunction at place d element inside missed)

  pub outside_domain : elements_of graph self ⊆ IsFunction → (id : NodeId) → IsKnown old nodes scope graph e id → elements_of graph id d
      → IsOutsideDomain (elements_of graph self) d → (at : ℕ) → at ≡ place_of e
      → HasWithin scope types f IsFunction × Breaks scope types e (IsAccepted scope types f) rule.Argument at rule.Argument d
  outside_domain functions id known_argument inside outside at place = let one = known types of in (
    (_, one.is_type, one.has, functions),
    (
      refl,
      known_misses scope old nodes graph e id known_argument types of (IsAccepted scope types f) at place d element inside
          (λ accepted. fails_outside (elements_of graph self) (In accepted.0) (In accepted.1) (In accepted.2)
          (one.least accepted.0 accepted.3 accepted.4) d outside accepted.7 accepted.8),
    ),
  )
