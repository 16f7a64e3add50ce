-- What a text says, and what stands against it: a type text, a file of type declarations, or a
-- program.
use Rattle.std.specs.Prelude.{◌≡◌, ℕ, false, List, [], ◌∷◌, length}
use Rattle.std.specs.Str.{chars}
use Rattle.cd_syntax.specs.declared.tokens.Token.{Token}
use Rattle.cd_syntax.specs.declared.fault.TextFault.{TextFault}
use Rattle.cd_syntax.specs.declared.fault.TextFault.TheVariants.{Syntax, TooDeep}
use Rattle.cd_syntax.specs.Tokens.{Lexes}
use Rattle.cd_syntax.specs.Faults.{HasFirstFault}
use Rattle.cd_syntax.specs.TypeTree.{Tree, Declarations}
use Rattle.cd_syntax.specs.SyntaxFaults.{Form, IsSyntaxFault, IsDepthFault}
use Rattle.cd_program.specs.Expr.{Program}
use Rattle.cd_grammar.specs.Language.{IsTree, AreDeclared, IsProgram}
use Rattle.cd_grammar.specs.Forms.{AType, SomeDeclarations, AProgram}
use Rattle.cd_model.specs.Written.{Written}
use Rattle.cd_resolve.specs.Faults.{Fault, IsFaultOfType, IsFaultOfDeclarations, IsReported}
use Rattle.cd_names.specs.ProgramFaults.{IsFaultOfProgram}
use Rattle.cd_replies.specs.Bytes.{Bytes}
use Rattle.cd_replies.specs.Refusals.{naming_of}
use Rattle.cd_replies.specs.declared.refusal.Refusal.{Refusal}
use Rattle.cd_replies.specs.declared.refusal.Refusal.TheVariants.{Text}

-- the text lexes to these tokens
abbrev pub HasTokens : Bytes → List Token → Type 0
HasTokens text tokens = Lexes false 0 (chars text) tokens

-- the type that a tree is, which sees these declarations
abbrev pub type_of : Declarations → Tree → Written
type_of declared is = record { scope = declared ∷ []; tree = is }

-- the text reads as the type, which sees these declarations, and its names are sound
pub record ReadsAs (declared : Declarations) (text : Bytes) (type : Written) : Type 0 where
  pub tokens : List Token
  pub spelled : HasTokens text tokens
  pub tree : Tree
  pub written : IsTree 1000 tokens tree
  pub sound : (fault : Fault) → IsFaultOfType declared tree fault → ⊥
  pub means : type ≡ type_of declared tree

-- the text reads as these type declarations, whose names are sound
pub record Declares (text : Bytes) (declared : Declarations) : Type 0 where
  pub tokens : List Token
  pub spelled : HasTokens text tokens
  pub written : AreDeclared 1000 tokens declared
  pub sound : (fault : Fault) → IsFaultOfDeclarations declared fault → ⊥

-- the text reads as this program, which ends where the text does, and its names are sound
pub record ReadsAsProgram (text : Bytes) (program : Program) : Type 0 where
  pub tokens : List Token
  pub spelled : HasTokens text tokens
  pub written : IsProgram 1000 tokens program
  pub ends : program.end ≡ length text
  pub sound : (fault : Fault) → IsFaultOfProgram program fault → ⊥

-- what stands against a text, whose tokens are to be of a form: its first lexical fault, the place
-- of its fault of syntax, or that of a form too deep, or the naming fault that is reported of it;
-- `reported` says of tokens that are of the form which naming fault is reported of what they write
pub data Refuses (form : Form) (reported : List Token → Fault → Type 0) (text : Bytes) : Refusal
    → Type 0 where
  lexical : (fault : TextFault) → HasFirstFault false 0 (chars text) fault
      → Refuses form reported text (Text fault)
  syntax : (tokens : List Token) → HasTokens text tokens → (place : ℕ)
      → IsSyntaxFault form 1000 tokens (length text) place
      → Refuses form reported text (Text (Syntax place))
  too_deep : (tokens : List Token) → HasTokens text tokens → (place : ℕ)
      → IsDepthFault form 1000 tokens (length text) place
      → Refuses form reported text (Text (TooDeep place))
  naming : (tokens : List Token) → HasTokens text tokens → (fault : Fault) → reported tokens fault
      → Refuses form reported text (naming_of fault)

-- the fault is reported of the type that the tokens write, of the declarations, and of the program,
-- whose text ends there
abbrev pub IsReportedOfType : Declarations → List Token → Fault → Type 0
IsReportedOfType declared tokens fault = (is : Tree) × IsTree 1000 tokens is
    × IsReported (IsFaultOfType declared is) fault

abbrev pub IsReportedOfDeclarations : List Token → Fault → Type 0
IsReportedOfDeclarations tokens fault =
    (declared : Declarations) × AreDeclared 1000 tokens declared
    × IsReported (IsFaultOfDeclarations declared) fault

abbrev pub IsReportedOfProgram : (end : ℕ) → List Token → Fault → Type 0
IsReportedOfProgram end tokens fault =
    (program : Program) × IsProgram 1000 tokens program × (program.end ≡ end)
    × IsReported (IsFaultOfProgram program) fault

-- what stands against a type text that sees these declarations, against a file of declarations, and
-- against a program, its types aside
abbrev pub RefusesType : Declarations → Bytes → Refusal → Type 0
RefusesType declared text found = Refuses AType (IsReportedOfType declared) text found

abbrev pub RefusesDeclarations : Bytes → Refusal → Type 0
RefusesDeclarations text found = Refuses SomeDeclarations IsReportedOfDeclarations text found

abbrev pub RefusesProgram : Bytes → Refusal → Type 0
RefusesProgram text found = Refuses AProgram (IsReportedOfProgram (length text)) text found
