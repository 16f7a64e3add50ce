-- A document is of the input type, or not.
use Rattle.std.proofs.Common.{true, false, List, [], ◌∷◌, inl, inr}
use Rattle.cd_model.specs.AllOf.{AllOf, AnyOf}
use Rattle.cd_model.specs.Thing.{Thing}
use Rattle.cd_model.specs.Written.{in_written}
use Rattle.cd_model.proofs.ApartAtWritten.{not_both}
use Rattle.cd_program.specs.Expr.{Program, Signature}
use Rattle.cd_running.specs.Input.{argument}

-- a document is in an argument of `main`, or in none
pub in_or_none : (program : Program) (v : Thing) (signatures : List Signature)
    → AnyOf (λ signature. in_written v (argument program signature) true) signatures
    → AllOf (λ signature. in_written v (argument program signature) false) signatures → ⊥
in_or_none program v [] inside outside = inside
in_or_none program v (signature ∷ rest) (inl inside) outside = not_both (argument program signature) v inside outside.0
in_or_none program v (signature ∷ rest) (inr inside) outside = in_or_none program v rest inside outside.1
