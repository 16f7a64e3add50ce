-- The terminal of each token.
use Rattle.std.specs.Prelude.{ℕ, List, [], ◌∷◌, Option, Some, None, bytes_eq, codes}
use Rattle.cd_syntax.specs.declared.tokens.TokenKind.{TokenKind}
use Rattle.cd_syntax.specs.declared.tokens.TokenKind.TheVariants as token
use Rattle.cd_syntax.specs.Signs.{characters}
use Rattle.cd_syntax.specs.Name.{Name, is_type_name}
use Rattle.cd_tables.specs.declared.keyword.Keyword.{Keyword}
use Rattle.cd_tables.specs.declared.keyword.Keyword.TheVariants as keyword
use Rattle.cd_tables.specs.Rows.{row_of}
use Rattle.cd_tables.specs.Words.{keywords}
use Rattle.cd_lr.specs.Tables.{choose}
use Rattle.cd_grammar.specs.declared.goal.Goal.{Goal}
use Rattle.cd_grammar.specs.declared.goal.Goal.TheVariants as goal
use Rattle.cd_grammar.specs.Bnf.{number_of}
use Rattle.cd_grammar.specs.Rules.{terminals}

abbrev pub terminal : List ℕ → ℕ
terminal name = number_of terminals name

-- a keyword stands for itself, as `_` does, and another word for what its first character says
abbrev pub terminal_of_keyword : Keyword → ℕ
terminal_of_keyword keyword.And = terminal (codes "'and")
terminal_of_keyword keyword.Div = terminal (codes "'div")
terminal_of_keyword keyword.Else = terminal (codes "'else")
terminal_of_keyword keyword.Flatten = terminal (codes "'flatten")
terminal_of_keyword keyword.From = terminal (codes "'from")
terminal_of_keyword keyword.Fun = terminal (codes "'fun")
terminal_of_keyword keyword.If = terminal (codes "'if")
terminal_of_keyword keyword.In = terminal (codes "'in")
terminal_of_keyword keyword.IntOf = terminal (codes "'int_of")
terminal_of_keyword keyword.Let = terminal (codes "'let")
terminal_of_keyword keyword.Map = terminal (codes "'map")
terminal_of_keyword keyword.Match = terminal (codes "'match")
terminal_of_keyword keyword.MaxOf = terminal (codes "'max_of")
terminal_of_keyword keyword.MinOf = terminal (codes "'min_of")
terminal_of_keyword keyword.Mod = terminal (codes "'mod")
terminal_of_keyword keyword.Not = terminal (codes "'not")
terminal_of_keyword keyword.Raise = terminal (codes "'raise")
terminal_of_keyword keyword.Select = terminal (codes "'select")
terminal_of_keyword keyword.StringOf = terminal (codes "'string_of")
terminal_of_keyword keyword.Then = terminal (codes "'then")
terminal_of_keyword keyword.Transform = terminal (codes "'transform")
terminal_of_keyword keyword.Try = terminal (codes "'try")
terminal_of_keyword keyword.Type = terminal (codes "'type")
terminal_of_keyword keyword.Where = terminal (codes "'where")
terminal_of_keyword keyword.With = terminal (codes "'with")

abbrev pub terminal_of_other : Name → ℕ
terminal_of_other name =
    choose (bytes_eq name (codes "_")) (terminal (codes "'_"))
    (choose (is_type_name name) (terminal (codes "TypeName")) (terminal (codes "Variable")))

abbrev pub terminal_by : Option Keyword → Name → ℕ
terminal_by (Some word) name = terminal_of_keyword word
terminal_by None name = terminal_of_other name

abbrev pub terminal_of_word : Name → ℕ
terminal_of_word name = terminal_by (row_of keywords name) name

abbrev pub terminal_of : TokenKind → ℕ
terminal_of (token.Word name) = terminal_of_word name
terminal_of (token.Int n) = terminal (codes "Int")
terminal_of (token.Chars (c ∷ [])) = terminal (codes "Char1")
terminal_of (token.Chars characters) = terminal (codes "CharN")
terminal_of (token.Text characters) = terminal (codes "Text")
terminal_of (token.Atom name) = terminal (codes "Atom")
terminal_of (token.Sign sign) = terminal (39 ∷ characters sign)

abbrev pub terminal_of_goal : Goal → ℕ
terminal_of_goal goal.TypeText = terminal (codes "TypeText")
terminal_of_goal goal.TypeFile = terminal (codes "TypeFile")
terminal_of_goal goal.ProgramText = terminal (codes "ProgramText")
