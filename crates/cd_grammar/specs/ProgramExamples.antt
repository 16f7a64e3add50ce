-- What an example of a program is: its tokens, and the types and functions that they write.
use Rattle.std.specs.Prelude.{◌<◌, ℕ, ◌+◌, List, [], ◌∷◌, ◌++◌}
use Rattle.cd_syntax.specs.declared.sign.Sign.TheVariants as sign
use Rattle.cd_syntax.specs.declared.tokens.Token.{Token}
use Rattle.cd_syntax.specs.SyntaxFaults.{IsWrong, IsUnfinished}
use Rattle.cd_syntax.specs.TypeTree.{Tree, Declaration, declarations_of}
use Rattle.cd_program.specs.Expr as code
use Rattle.cd_program.specs.Expr.{Expr, FunctionTree, Program}
use Rattle.cd_grammar.specs.Language.{IsProgram}
use Rattle.cd_grammar.specs.Forms.{AProgram}
use Rattle.cd_grammar.specs.TreesAt.{sign_at, word_at, named_at}
use Rattle.cd_grammar.specs.ExprsAt.{expr_from, bound_at, used_at, branch, arrow, function_at}

-- a text, how deep it is, and the types and functions that it writes
pub record ProgramExample : Type 0 where
  pub depth : ℕ
  pub tokens : List Token
  pub types : List Declaration
  pub functions : List FunctionTree

abbrev pub program_of : ProgramExample → (end : ℕ) → Program
program_of one end = record {
  types = declarations_of one.types;
  functions = one.functions;
  end = end;
}

-- it writes the program at this depth, wherever its text ends, and none at a smaller depth
abbrev pub IsProgramExample : ProgramExample → Type 0
IsProgramExample one =
    ((end : ℕ) → IsProgram one.depth one.tokens (program_of one end))
    × ((less : ℕ) (other : Program) → less < one.depth → IsProgram less one.tokens other → ⊥)

abbrev pub AreProgramExamples : List ProgramExample → Type 0
AreProgramExamples [] = Unit {0}
AreProgramExamples (one ∷ rest) = IsProgramExample one × AreProgramExamples rest

abbrev pub program : (depth : ℕ) → List Token → List Declaration → List FunctionTree
    → ProgramExample
program depth tokens types functions = record {
  depth = depth;
  tokens = tokens;
  types = types;
  functions = functions;
}

-- `let fun f (A->A) x->(`
abbrev pub opening : List Token
opening = word_at "let" 0 ∷ word_at "fun" 4 ∷ word_at "f" 8 ∷ sign_at sign.OpenParenthesis 10
    ∷ word_at "A" 11 ∷ sign_at sign.Arrow 12 ∷ word_at "A" 14 ∷ sign_at sign.CloseParenthesis 15
    ∷ word_at "x" 17 ∷ sign_at sign.Arrow 18 ∷ sign_at sign.OpenParenthesis 20 ∷ []

-- the program of one function that gives this expression, which stands in parentheses from byte 21
-- to another one, four levels deep
abbrev pub body : (depth : ℕ) → List Token → (to : ℕ) → Expr → ProgramExample
body depth tokens to is =
    program depth (opening ++ (tokens ++ sign_at sign.CloseParenthesis to ∷ [])) []
    (function_at "f" 4 8 (arrow (named_at "A" 11) (named_at "A" 14) ∷ [])
    (branch (bound_at "x" 17) is ∷ []) ∷ [])

-- the same of `let P=x in x` with this pattern, which stands from byte 25 on, five levels deep
abbrev pub pattern : (depth : ℕ) → List Token → (to : ℕ) → Tree → ProgramExample
pattern depth tokens to is =
    body depth (word_at "let" 21 ∷ tokens ++ (sign_at sign.Equal to ∷ word_at "x" (to + 1)
    ∷ word_at "in" (to + 3) ∷ word_at "x" (to + 6) ∷ [])) (to + 7)
    (expr_from 21 (to + 7) (code.Let is (used_at "x" (to + 1)) (used_at "x" (to + 6))))

-- a text with a token that no program has there, and its number
pub record WrongText : Type 0 where
  pub index : ℕ
  pub tokens : List Token

abbrev pub wrong : (index : ℕ) → List Token → WrongText
wrong index tokens = record { index = index; tokens = tokens }

abbrev pub AreWrong : List WrongText → Type 0
AreWrong [] = Unit {0}
AreWrong (one ∷ rest) = IsWrong AProgram 1000 one.tokens one.index × AreWrong rest

-- texts that begin a program
abbrev pub AreUnfinished : List (List Token) → Type 0
AreUnfinished [] = Unit {0}
AreUnfinished (one ∷ rest) = IsUnfinished AProgram 1000 one × AreUnfinished rest
