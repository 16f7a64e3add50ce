-- The rules that the lines of the grammar are, and those of tables.
use Rattle.std.specs.Prelude.{ℕ, List, [], ◌∷◌, ◌++◌, map}
use Rattle.cd_lr.specs.Grammar.{Symbol}
use Rattle.cd_lr.specs.Tables.{Table, leaf, node, Rule, left_of, right_of}
use Rattle.cd_grammar.specs.declared.make.Make.{Make}
use Rattle.cd_grammar.specs.Bnf.{left_side, right_side}
use Rattle.cd_grammar.specs.Rules.{lines, terminals, nonterminals}

abbrev pub rules : List (ℕ × List Symbol)
rules =
    map (λ line. (
      left_side terminals nonterminals line.text,
      right_side terminals nonterminals line.text,
    )) lines

-- what each line makes
abbrev pub makes : List Make
makes = map (λ line. line.make) lines

abbrev pub in_order : Table Rule → List (ℕ × List Symbol)
in_order leaf = []
in_order (node k r left right) =
    let before = in_order left in let after = in_order right in
    before ++ (left_of r, right_of r) ∷ after
