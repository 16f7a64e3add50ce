-- What a text has before its names are known, and when they are: what it is written as, the naming
-- fault of that, or a node for it.
use Rattle.std.specs.Prelude.{List}
use Rattle.cd_sets.specs.declared.node_id.NodeId.{NodeId}
use Rattle.cd_syntax.specs.declared.tokens.Token.{Token}
use Rattle.cd_syntax.specs.TypeTree.{Declarations}
use Rattle.cd_grammar.specs.Language.{AreDeclared}
use Rattle.cd_model.specs.Formula.{Graph}
use Rattle.cd_model.specs.StandsFor.{StandsFor}
use Rattle.cd_model.specs.Written.{Written}
use Rattle.cd_resolve.specs.Faults.{Fault, IsFaultOfDeclarations, IsReported}
use Rattle.cd_replies.specs.Bytes.{Bytes}
use Rattle.cd_replies.specs.Refusals.{naming_of}
use Rattle.cd_replies.specs.Texts.{HasTokens, ReadsAs}
use Rattle.cd_replies.specs.declared.refusal.Refusal.{Refusal}

-- the text is written as these type declarations, with whatever names
pub record Writes (text : Bytes) (declared : Declarations) : Type 0 where
  pub tokens : List Token
  pub spelled : HasTokens text tokens
  pub written : AreDeclared 1000 tokens declared

-- no naming fault stands in the declarations
abbrev pub AreNamedWell : Declarations → Type 0
AreNamedWell declared = (fault : Fault) → IsFaultOfDeclarations declared fault → ⊥

-- the naming fault that is reported of the declarations stands against them
pub data RefusesNames (declared : Declarations) : Refusal → Type 0 where
  naming : (fault : Fault) → IsReported (IsFaultOfDeclarations declared) fault
      → RefusesNames declared (naming_of fault)

-- the node stands for the type that the text reads as, which sees these declarations
pub record StandsForText (graph : Graph) (id : NodeId) (declared : Declarations) (text : Bytes)
    : Type 0 where
  pub type : Written
  pub reads : ReadsAs declared text type
  pub stands : StandsFor graph id type
