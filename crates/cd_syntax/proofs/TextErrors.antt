-- Errors of texts.
use Rattle.std.proofs.Common.{◌≡◌, sym, subst}
use Rattle.cd_syntax.specs.Faults.{IfFault}
use Rattle.cd_syntax.specs.declared.fault.TextError.{TextError}
use Rattle.cd_syntax.specs.declared.fault.TextError.TheVariants.{Fault, Memory}
use Rattle.cd_syntax.specs.declared.fault.TextFault.{TextFault}

-- what follows of a fault follows of an error
pub if_fault_weaker : (error : TextError) (A B : TextFault → Type 0) → ((fault : TextFault) → A fault → B fault) → IfFault error A → IfFault error B
if_fault_weaker (Fault fault) A B leads is = leads fault is
if_fault_weaker Memory A B leads is = tt

-- want of memory is no fault
pub memory_is_no_fault : (error : TextError) (A : TextFault → Type 0) → error ≡ Memory → IfFault error A
memory_is_no_fault error A is = subst (λ (error : TextError). IfFault error A) (sym is) tt
