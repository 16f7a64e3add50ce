-- Names of declarations without a fault.
use Rattle.std.proofs.Common.{◌≡◌, ◌≤◌, ◌++◌, ℕ, length, length-append, ap, ◌∙◌, arith}
use Rattle.cd_syntax.specs.Name.{Name}
use Rattle.cd_syntax.specs.TypeTree.{Declarations}
use Rattle.cd_model.specs.BuiltIns.{built_ins}
use Rattle.cd_model.specs.Formula.{Graph}
use Rattle.cd_resolve.specs.Errors.{IsReportedError}
use Rattle.cd_resolve.specs.Faults.{Fault, IsFaultOfDeclarations}
use Rattle.cd_resolve.specs.declared.error.NameError.TheVariants as error
use Rattle.cd_resolve.specs.declared.fault.NameFault.{NameFault}

pub not_reported : (types : Declarations) → ((fault : Fault) → IsFaultOfDeclarations types fault → ⊥)
    → (fault : NameFault) (name : Name) (at : ℕ) → IsReportedError (IsFaultOfDeclarations types) (error.Fault fault name at) → ⊥
not_reported types sound fault name at reported = sound (record { fault = fault; name = name; at = at }) reported.is

pub enough_nodes : (graph more : Graph) → graph ≡ built_ins ++ more → (count : ℕ) → count ≡ length graph → 14 ≤ count
enough_nodes graph more begins count is = omega (arith, is ∙ ap length begins, length-append built_ins more)
