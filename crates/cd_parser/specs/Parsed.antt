-- What a refusal of tokens says of them.
use Rattle.std.specs.Prelude.{ℕ, List}
use Rattle.cd_syntax.specs.declared.fault.TextFault.{TextFault}
use Rattle.cd_syntax.specs.declared.fault.TextFault.TheVariants.{Syntax, TooDeep}
use Rattle.cd_syntax.specs.declared.tokens.Token.{Token}
use Rattle.cd_syntax.specs.SyntaxFaults.{Form, IsSyntaxFault, IsDepthFault}

-- the place of the token that nothing of the form has there, or that of one that is too deep
pub data IsFault (form : Form) (most : ℕ) (tokens : List Token) (end : ℕ) : TextFault → Type 0 where
  syntax : (place : ℕ) → IsSyntaxFault form most tokens end place
      → IsFault form most tokens end (Syntax place)
  too_deep : (place : ℕ) → IsDepthFault form most tokens end place
      → IsFault form most tokens end (TooDeep place)
