-- What is written as a type is a tree, what is written as a file is one, and so is what is written as a program.
use Rattle.std.proofs.Common.{◌≡◌, ℕ, false, List, [], ◌∷◌, map}
use Rattle.std.specs.List.{AllByRecursion as AllOf}
use Rattle.cd_syntax.specs.declared.tokens.Span.{Span}
use Rattle.cd_syntax.specs.declared.tokens.Token.{Token}
use Rattle.cd_syntax.specs.declared.tokens.TokenKind.{TokenKind}
use Rattle.cd_syntax.specs.declared.tokens.TokenKind.TheVariants as token
use Rattle.cd_syntax.specs.TypeTree.{Tree, Declaration, Declarations}
use Rattle.cd_program.specs.Expr.{FunctionTree}
use Rattle.cd_lr.specs.Grammar.{Whole}
use Rattle.cd_grammar.specs.declared.goal.Goal.{Goal}
use Rattle.cd_grammar.specs.declared.goal.Goal.TheVariants as goal
use Rattle.cd_grammar.specs.Parts.{Part, ATree, AFile, AProgram}
use Rattle.cd_grammar.specs.Language.{Entry, To, Read, Later, Placed, Writes, cduce_grammar}
use Rattle.cd_grammar.proofs.SortedParts.{Facts, AreKept, Fits, tree_in, file_in, program_in}
use Rattle.cd_grammar.proofs.SortedTokens.{IsNamed, IsProper}
use Rattle.cd_grammar.proofs.SortedWholes.{sort_of_goal, whole_fits}

-- where no fact is kept, each token is proper
abbrev no_fact : Facts
no_fact = record {
  of_tree = λ pattern is. Unit {0};
  of_regular = λ pattern is. Unit {0};
  of_label = λ name. Unit {0};
  of_file = λ is. Unit {0};
  of_expr = λ is. Unit {0};
  of_function = λ is. Unit {0};
}

nothing_kept : AreKept no_fact
nothing_kept = record {
  trees_kept = λ pattern. record {
    built_in = λ here name. tt;
    named = λ here name. tt;
    ints = λ here low high. tt;
    chars = λ here low high. tt;
    letters = λ here characters. tt;
    atom = λ here name is. tt;
    tuple = λ here first second rest are. tt;
    arrows = λ here first second rest are. tt;
    union = λ here first second rest are. tt;
    meet = λ here first rest is are. tt;
    sequence = λ here one is. tt;
    fields = λ here all others are so. tt;
    xml = λ here tag attributes content is so too. tt;
    where_names = λ here one all is are. tt;
    nothing = λ here. tt;
    item = λ here one is. tt;
    in_turn = λ here all are. tt;
    alternatives = λ here all are. tt;
    repeated = λ here one mark is. tt;
  };
  patterns_kept = record {
    variable = λ here name is. tt;
    default = λ here name value is so. tt;
    capture = λ here name one is so. tt;
  };
  exprs_kept = record {
    constant = λ here value is. tt;
    variable = λ here name is. tt;
    tuple = λ here first second rest are. tt;
    apply = λ here first second rest are. tt;
    sequence = λ here all are. tt;
    fields = λ here all are. tt;
    xml = λ here tag attributes content is so too. tt;
    chain = λ here first next rest is are. tt;
    call = λ word here one is. tt;
    matching = λ form here value first rest is are. tt;
    let_in = λ here pattern value rest is so too. tt;
    if_else = λ here condition one other is so too. tt;
    unnamed = λ here word arrow arrows first rest are so. tt;
    named = λ here word name name_at arrow arrows first rest is are so. tt;
    declared = λ word name name_at arrow arrows first rest is are so. tt;
  };
  hidden_kept = record { content = tt; child = tt };
  file = λ all are. tt;
}

each_named : (kind : TokenKind) → IsNamed no_fact.of_label kind
each_named (token.Word name) = λ other. tt
each_named _ = tt

each_proper : (entry : Entry) → IsProper no_fact.of_label entry
each_proper (To goal) = tt
each_proper (Read token) = each_named token.kind
each_proper (Later token) = each_named token.kind

all_proper : (entries : List Entry) → AllOf (IsProper no_fact.of_label) entries
all_proper [] = tt
all_proper (first ∷ rest) = (each_proper first, all_proper rest)

whole_is : (is : Goal) (depth : ℕ) (rest : List Entry) (v : Placed) → Whole cduce_grammar depth (To is ∷ rest) v
    → Fits no_fact (sort_of_goal is) v.1
whole_is is depth rest v derived = whole_fits no_fact nothing_kept is depth rest v (all_proper rest) derived

-- over any entries
pub whole_type : (depth : ℕ) (rest : List Entry) (place : Span) (part : Part)
    → Whole cduce_grammar depth (To goal.TypeText ∷ rest) (place, part) → (is : Tree) × (part ≡ ATree is)
whole_type depth rest place part derived =
    let found = tree_in no_fact false part (whole_is goal.TypeText depth rest (place, part) derived) in
    (found.0, found.1)

pub whole_file : (depth : ℕ) (rest : List Entry) (place : Span) (part : Part)
    → Whole cduce_grammar depth (To goal.TypeFile ∷ rest) (place, part) → (is : Declarations) × (part ≡ AFile is)
whole_file depth rest place part derived =
    let found = file_in no_fact part (whole_is goal.TypeFile depth rest (place, part) derived) in
    (found.0, found.1)

pub whole_program : (depth : ℕ) (rest : List Entry) (place : Span) (part : Part)
    → Whole cduce_grammar depth (To goal.ProgramText ∷ rest) (place, part)
    → (types : List Declaration) × (functions : List FunctionTree) × (part ≡ AProgram types functions)
whole_program depth rest place part derived =
    let found = program_in no_fact part (whole_is goal.ProgramText depth rest (place, part) derived) in
    (found.0, found.1, found.2)

-- over the tokens of a text
pub writes_type : (depth : ℕ) (tokens : List Token) (part : Part) → Writes goal.TypeText depth tokens part
    → (is : Tree) × (part ≡ ATree is)
writes_type depth tokens part written = whole_type depth (map Read tokens) written.0 part written.1

pub writes_file : (depth : ℕ) (tokens : List Token) (part : Part) → Writes goal.TypeFile depth tokens part
    → (is : Declarations) × (part ≡ AFile is)
writes_file depth tokens part written = whole_file depth (map Read tokens) written.0 part written.1

pub writes_program : (depth : ℕ) (tokens : List Token) (part : Part) → Writes goal.ProgramText depth tokens part
    → (types : List Declaration) × (functions : List FunctionTree) × (part ≡ AProgram types functions)
writes_program depth tokens part written = whole_program depth (map Read tokens) written.0 part written.1
