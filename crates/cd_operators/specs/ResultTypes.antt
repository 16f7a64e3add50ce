-- The least types that operators, and words before an operand, give.
use Rattle.cd_program.specs.declared.operator.Op.{Op}
use Rattle.cd_program.specs.declared.operator.BuiltIn.{BuiltIn as Word}
use Rattle.cd_meaning.specs.Sets.{Set, ◌⊆◌}
use Rattle.cd_typing.specs.Operators.{Operates, WordGives}
use Rattle.cd_typing.specs.Typ.{Typ, In}

-- an operator gives this for operands of two types, and it is within all that the operator gives
-- for wider ones
pub record IsLeastResult (is : Op) (first second result : Set) : Type 0 where
  pub gives : Operates is first second result
  pub within : (wider other given : Typ) → first ⊆ In wider → second ⊆ In other
      → Operates is (In wider) (In other) (In given) → result ⊆ In given

-- likewise a word for an operand
pub record IsLeastResultOfWord (word : Word) (operand result : Set) : Type 0 where
  pub gives : WordGives word operand result
  pub within : (wider given : Typ) → operand ⊆ In wider → WordGives word (In wider) (In given)
      → result ⊆ In given
