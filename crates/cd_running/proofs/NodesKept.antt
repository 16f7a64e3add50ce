-- What stands for a type does so in each longer graph; and a type with no naming fault has none to report.
use Rattle.std.proofs.Common.{◌≡◌, ℕ, ◌++◌, sym, subst}
use Rattle.cd_syntax.specs.Name.{Name}
use Rattle.cd_syntax.specs.TypeTree.{Tree, Declarations, NoDeclaration}
use Rattle.cd_model.specs.Formula.{Graph, IsGraph}
use Rattle.cd_model.specs.StandsFor.{StandsFor}
use Rattle.cd_model.proofs.StandsKept.{stands_kept}
use Rattle.cd_resolve.specs.Errors.{IsReportedError}
use Rattle.cd_resolve.specs.Faults.{Fault, IsFaultOfType}
use Rattle.cd_resolve.specs.declared.error.NameError.TheVariants as error
use Rattle.cd_resolve.specs.declared.fault.NameFault.{NameFault}
use Rattle.cd_running.specs.Inner.Asking.{Keeps}

pub grown_keeps : (old new : Graph) → IsGraph old → (more : Graph) × (new ≡ old ++ more) → Keeps old new
grown_keeps old new sound (more, grows) = λ id type stands.
    subst (λ graph. StandsFor graph id type) (sym grows) (stands_kept old more id type sound stands)

pub not_reported : (declared : Declarations) (is : Tree) → declared ≡ NoDeclaration
    → ((fault : Fault) → IsFaultOfType NoDeclaration is fault → ⊥) → (fault : NameFault) (name : Name) (at : ℕ)
    → IsReportedError (IsFaultOfType declared is) (error.Fault fault name at) → ⊥
not_reported declared is none sound fault name at reported =
    sound (record { fault = fault; name = name; at = at })
    (subst (λ list. IsFaultOfType list is (record { fault = fault; name = name; at = at })) none reported.is)
