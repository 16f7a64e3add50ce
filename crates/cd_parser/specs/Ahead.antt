-- The terminal of the next token.
use Rattle.std.specs.Prelude.{ℕ, List, [], ◌∷◌}
use Rattle.cd_syntax.specs.declared.tokens.Token.{Token}
use Rattle.cd_grammar.specs.Terminals.{terminal_of}
use Rattle.cd_grammar.specs.Listed.{automaton}

abbrev pub terminal_ahead : List Token → ℕ
terminal_ahead [] = automaton.finish
terminal_ahead (token ∷ rest) = terminal_of token.kind
