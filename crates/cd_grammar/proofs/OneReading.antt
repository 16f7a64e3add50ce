-- Tokens write one type at most, one list of declarations, and one program's types and functions.
use Rattle.std.proofs.Common.{◌≡◌, ℕ, List, ◌∷◌, map, ap, sym, ◌∙◌}
use Rattle.cd_syntax.specs.declared.tokens.Token.{Token}
use Rattle.cd_syntax.specs.TypeTree.{Tree, Declarations, declarations_of}
use Rattle.cd_program.specs.Expr.{Program}
use Rattle.cd_grammar.specs.declared.goal.Goal.{Goal}
use Rattle.cd_grammar.specs.declared.goal.Goal.TheVariants as goal
use Rattle.cd_grammar.specs.Parts.{Part, ATree, AFile, AProgram}
use Rattle.cd_grammar.specs.Language.{To, Read, Writes, IsTree, AreDeclared, IsProgram}
use Rattle.cd_grammar.proofs.Exact.{one_part}

-- for each goal they write one part at most
one_written : (goal : Goal) (a b : ℕ) (tokens : List Token) (p q : Part) → Writes goal a tokens p
    → Writes goal b tokens q → p ≡ q
one_written goal a b tokens p q (place, first) (other, second) =
    ap (λ placed. placed.1) (one_part a b (To goal ∷ map Read tokens) (place, p) (other, q) first second)

pub one_tree : (a b : ℕ) (tokens : List Token) (first second : Tree) → IsTree a tokens first
    → IsTree b tokens second → first ≡ second
one_tree a b tokens first second one other =
    let same : ATree first ≡ ATree second =
    one_written goal.TypeText a b tokens (ATree first) (ATree second) one other in
    cc

pub one_declared : (a b : ℕ) (tokens : List Token) (first second : Declarations) → AreDeclared a tokens first
    → AreDeclared b tokens second → first ≡ second
one_declared a b tokens first second one other =
    let same : AFile first ≡ AFile second =
    one_written goal.TypeFile a b tokens (AFile first) (AFile second) one other in
    cc

pub one_program : (a b : ℕ) (tokens : List Token) (first second : Program) → IsProgram a tokens first
    → IsProgram b tokens second → (first.types ≡ second.types) × (first.functions ≡ second.functions)
one_program a b tokens first second (types, these, one) (others, those, other) =
    let same : AProgram types first.functions ≡ AProgram others second.functions =
    one_written goal.ProgramText a b tokens (AProgram types first.functions) (AProgram others second.functions) one
    other in
    let lists : types ≡ others = cc in
    (these ∙ ap declarations_of lists ∙ sym those, cc)
