-- The names of a list of declarations in which no fault stands are guarded.
use Rattle.std.proofs.Common.{[], ◌∷◌}
use Rattle.cd_syntax.specs.declared.builtin.BuiltinName.TheVariants as builtin
use Rattle.cd_syntax.specs.declared.tokens.Span.{Span}
use Rattle.cd_syntax.specs.TypeTree.{Tree, tree, Builtin, Declarations}
use Rattle.cd_model.specs.AllOf.{AllOf}
use Rattle.cd_model.specs.Guarded.{IsGuarded}
use Rattle.cd_model.specs.Scope.{Scope, names_over}
use Rattle.cd_resolve.specs.Faults.{Fault, IsPart, IsFault, IsFaultOfList}
use Rattle.cd_resolve.specs.Faults as fault
use Rattle.cd_resolve.proofs.GuardedNames.{names_are_guarded}

no_part : (scope inner : Scope) (part : Tree) → IsPart scope (Builtin builtin.Any) inner part → ⊥
no_part scope inner part is = elim is [ ]

-- no fault stands in a built-in name
no_fault : (outer scope : Scope) (span : Span) (fault : Fault)
    → IsFault outer scope (tree span (Builtin builtin.Any)) fault → ⊥
no_fault outer scope span _ (fault.IsFault.in_part _ _ inner _ _ part _ is_part _) = no_part scope inner part is_part

pub list_is_guarded : (base : Declarations) → ((fault : Fault) → IsFaultOfList [] (base ∷ []) base fault → ⊥)
    → AllOf IsGuarded (names_over (base ∷ []))
list_is_guarded base none = names_are_guarded base none (tree (record { from = 0; to = 0 }) (Builtin builtin.Any))
    (no_fault (base ∷ []) (base ∷ []) (record { from = 0; to = 0 }))
