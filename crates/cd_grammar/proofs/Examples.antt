-- Texts whose runs are computed: the trees that they write, and the tokens that cannot come.
use Rattle.std.proofs.Common.{◌≡◌, ap, refl, ℕ, zero, suc, List, [], ◌∷◌, ◌++◌, Option, Some, map, arith}
use Rattle.std.specs.Prelude.{◌<◌}
use Rattle.cd_syntax.specs.declared.sign.Sign.TheVariants as sign
use Rattle.cd_syntax.specs.declared.tokens.Span.{Span}
use Rattle.cd_syntax.specs.declared.tokens.Token.{Token}
use Rattle.cd_syntax.specs.declared.tokens.TokenKind.TheVariants as token
use Rattle.cd_syntax.specs.SyntaxFaults.{BeginNone, IsWrong, IsUnfinished}
use Rattle.cd_syntax.specs.Tokens.{at}
use Rattle.cd_syntax.specs.TypeTree.{Tree, Declarations, NoDeclaration}
use Rattle.cd_tables.specs.Rows.{row_of}
use Rattle.cd_lr.specs.Automaton.{Next, TooDeep}
use Rattle.cd_grammar.specs.declared.goal.Goal.TheVariants as goal
use Rattle.cd_grammar.specs.Parts.{Part, ATree, AFile}
use Rattle.cd_grammar.specs.Language.{Entry, Placed, IsTree, AreDeclared}
use Rattle.cd_grammar.specs.Forms.{AType, SomeDeclarations}
use Rattle.cd_grammar.specs.Examples.{Example, IsExample, AreExamples, group_tokens, group_tree, tuple_tokens, tuple_tree, arrows_tokens, arrows_tree, record_tokens, record_tree, where_tokens, where_tree, signs_tokens, signs_tree, characters_tokens, characters_tree, at_most_tokens, at_most_tree, at_least_tokens, at_least_tree, argument_tokens, argument_tree, sequence_tokens, sequence_tree, union_tokens, union_tree, group_sequence_tokens, group_sequence_tree, arrow_item_tokens, arrow_item_tree, xml_tokens, xml_tree, any_xml_tokens, any_xml_tree, alternative_tokens, alternative_tree, mixed_tokens, mixed_tree, nested_tokens, nested_tree, typed_xml_tokens, typed_xml_tree, keyword_tokens, keyword_tree, arrow_tokens, attributes_tokens, content_tokens, group_front, declared_tokens, declared_declarations, declared_alone_tokens, declared_alone_declarations, constant_texts, chain_texts, record_texts, xml_texts, keyword_texts, sequence_texts, item_texts, group_texts, longer_texts, comma_after_group, and_after_group, and_after_letters, two_postfixes, no_semicolon, no_label, semicolon_after_others, others_again, union_of_attribute, two_letters, no_part, keyword_alone, label_alone, two_types, where_again, no_keyword, no_type_name, semicolons_again, begun_arrow, begun_declaration}
use Rattle.cd_grammar.proofs.Runs.{steps, ending, made, written, not_written, wrong_at, begun_only}

writes : (depth : ℕ) (tokens : List Token) (is : Tree) → made (ending goal.TypeText depth steps tokens) ≡ Some (ATree is)
    → IsTree depth tokens is
writes depth tokens is is_made = written goal.TypeText depth steps tokens (ATree is) is_made

writes_none : (depth : ℕ) (tokens : List Token) → ending goal.TypeText depth steps tokens ≡ TooDeep → (is : Tree)
    → IsTree depth tokens is → ⊥
writes_none depth tokens ends is = not_written goal.TypeText depth tokens ends depth (ATree is) (omega arith)

declares : (depth : ℕ) (tokens : List Token) (declarations : Declarations)
    → made (ending goal.TypeFile depth steps tokens) ≡ Some (AFile declarations) → AreDeclared depth tokens declarations
declares depth tokens declarations is_made = written goal.TypeFile depth steps tokens (AFile declarations) is_made

-- the trees of texts
pub group_is : IsTree 1 group_tokens group_tree
unfolding row_of
group_is = writes 1 group_tokens group_tree refl

pub tuple_is : IsTree 1 tuple_tokens tuple_tree
unfolding row_of
tuple_is = writes 1 tuple_tokens tuple_tree refl

pub arrows_is : IsTree 2 arrows_tokens arrows_tree
unfolding row_of
arrows_is = writes 2 arrows_tokens arrows_tree refl

pub record_is : IsTree 1 record_tokens record_tree
unfolding row_of
record_is = writes 1 record_tokens record_tree refl

pub where_is : IsTree 1 where_tokens where_tree
unfolding row_of
where_is = writes 1 where_tokens where_tree refl

pub signs_is : IsTree 0 signs_tokens signs_tree
unfolding row_of
signs_is = writes 0 signs_tokens signs_tree refl

pub characters_is : IsTree 0 characters_tokens characters_tree
unfolding row_of
characters_is = writes 0 characters_tokens characters_tree refl

pub at_most_is : IsTree 0 at_most_tokens at_most_tree
unfolding row_of
at_most_is = writes 0 at_most_tokens at_most_tree refl

pub at_least_is : IsTree 0 at_least_tokens at_least_tree
unfolding row_of
at_least_is = writes 0 at_least_tokens at_least_tree refl

pub argument_is : IsTree 1 argument_tokens argument_tree
unfolding row_of
argument_is = writes 1 argument_tokens argument_tree refl

pub sequence_is : IsTree 1 sequence_tokens sequence_tree
unfolding row_of
sequence_is = writes 1 sequence_tokens sequence_tree refl

pub union_is : IsTree 2 union_tokens union_tree
unfolding row_of
union_is = writes 2 union_tokens union_tree refl

pub group_sequence_is : IsTree 2 group_sequence_tokens group_sequence_tree
unfolding row_of
group_sequence_is = writes 2 group_sequence_tokens group_sequence_tree refl

pub arrow_item_is : IsTree 3 arrow_item_tokens arrow_item_tree
unfolding row_of
arrow_item_is = writes 3 arrow_item_tokens arrow_item_tree refl

pub xml_is : IsTree 2 xml_tokens xml_tree
unfolding row_of
xml_is = writes 2 xml_tokens xml_tree refl

pub any_xml_is : IsTree 1 any_xml_tokens any_xml_tree
unfolding row_of
any_xml_is = writes 1 any_xml_tokens any_xml_tree refl

pub alternative_is : IsTree 2 alternative_tokens alternative_tree
unfolding row_of
alternative_is = writes 2 alternative_tokens alternative_tree refl

pub mixed_is : IsTree 2 mixed_tokens mixed_tree
unfolding row_of
mixed_is = writes 2 mixed_tokens mixed_tree refl

pub nested_is : IsTree 3 nested_tokens nested_tree
unfolding row_of
nested_is = writes 3 nested_tokens nested_tree refl

pub typed_xml_is : IsTree 2 typed_xml_tokens typed_xml_tree
unfolding row_of
typed_xml_is = writes 2 typed_xml_tokens typed_xml_tree refl

pub keyword_is : IsTree 1 keyword_tokens keyword_tree
unfolding row_of
keyword_is = writes 1 keyword_tokens keyword_tree refl

pub declared_are : AreDeclared 0 declared_tokens declared_declarations
unfolding row_of
declared_are = declares 0 declared_tokens declared_declarations refl

pub declared_alone_are : AreDeclared 0 declared_alone_tokens declared_alone_declarations
unfolding row_of
declared_alone_are = declares 0 declared_alone_tokens declared_alone_declarations refl

pub none_are : AreDeclared 0 [] NoDeclaration
unfolding row_of
none_are = declares 0 [] NoDeclaration refl

-- texts that are too deep
pub arrow_is_deep : (is : Tree) → IsTree 0 arrow_tokens is → ⊥
unfolding row_of
arrow_is_deep = writes_none 0 arrow_tokens refl

pub group_is_deep : (is : Tree) → IsTree 0 group_tokens is → ⊥
unfolding row_of
group_is_deep = writes_none 0 group_tokens refl

pub record_is_deep : (is : Tree) → IsTree 0 record_tokens is → ⊥
unfolding row_of
record_is_deep = writes_none 0 record_tokens refl

pub arrows_is_deep : (is : Tree) → IsTree 1 arrows_tokens is → ⊥
unfolding row_of
arrows_is_deep = writes_none 1 arrows_tokens refl

pub sequence_is_deep : (is : Tree) → IsTree 0 sequence_tokens is → ⊥
unfolding row_of
sequence_is_deep = writes_none 0 sequence_tokens refl

pub group_sequence_is_deep : (is : Tree) → IsTree 1 group_sequence_tokens is → ⊥
unfolding row_of
group_sequence_is_deep = writes_none 1 group_sequence_tokens refl

pub nested_is_deep : (is : Tree) → IsTree 2 nested_tokens is → ⊥
unfolding row_of
nested_is_deep = writes_none 2 nested_tokens refl

pub arrow_item_is_deep : (is : Tree) → IsTree 2 arrow_item_tokens is → ⊥
unfolding row_of
arrow_item_is_deep = writes_none 2 arrow_item_tokens refl

pub any_xml_is_deep : (is : Tree) → IsTree 0 any_xml_tokens is → ⊥
unfolding row_of
any_xml_is_deep = writes_none 0 any_xml_tokens refl

pub typed_xml_is_deep : (is : Tree) → IsTree 1 typed_xml_tokens is → ⊥
unfolding row_of
typed_xml_is_deep = writes_none 1 typed_xml_tokens refl

pub attributes_is_deep : (is : Tree) → IsTree 1 attributes_tokens is → ⊥
unfolding row_of
attributes_is_deep = writes_none 1 attributes_tokens refl

pub content_is_deep : (is : Tree) → IsTree 1 content_tokens is → ⊥
unfolding row_of
content_is_deep = writes_none 1 content_tokens refl

pub keyword_is_deep : (is : Tree) → IsTree 0 keyword_tokens is → ⊥
unfolding row_of
keyword_is_deep = writes_none 0 keyword_tokens refl

-- what the run of a text makes at its depth, and how one ends at a smaller depth
abbrev below : (depth : ℕ) → List Token → Next Entry Placed
below zero tokens = TooDeep
below (suc depth) tokens = ending goal.TypeText depth steps tokens

abbrev result : Example → Option Part × Next Entry Placed
result one = (made (ending goal.TypeText one.depth steps one.tokens), below one.depth one.tokens)

abbrev expected : Example → Option Part × Next Entry Placed
expected one = (Some (ATree one.is), TooDeep)

is_least : (depth : ℕ) (tokens : List Token) → below depth tokens ≡ TooDeep → (less : ℕ) (other : Tree) → less < depth
    → IsTree less tokens other → ⊥
is_least zero tokens ends less other small is = absurd (omega (arith, small))
is_least (suc depth) tokens ends less other small is =
    not_written goal.TypeText depth tokens ends less (ATree other) (omega (arith, small)) is

is_example : (one : Example) → result one ≡ expected one → IsExample one
is_example one same = (
  writes one.depth one.tokens one.is (ap (λ both. both.0) same),
  is_least one.depth one.tokens (ap (λ both. both.1) same),
)

parts : {X : Type 0} (x y : X) (xs ys : List X) → x ∷ xs ≡ y ∷ ys → (x ≡ y) × (xs ≡ ys)
parts x y xs ys same = (cc, cc)

are_examples : (all : List Example) → map result all ≡ map expected all → AreExamples all
are_examples [] same = tt
are_examples (one ∷ rest) same =
    let both = parts (result one) (expected one) (map result rest) (map expected rest) same in
    (is_example one both.0, are_examples rest both.1)

pub constants_are : AreExamples constant_texts
unfolding row_of
constants_are = are_examples constant_texts refl

pub chains_are : AreExamples chain_texts
unfolding row_of
chains_are = are_examples chain_texts refl

pub records_are : AreExamples record_texts
unfolding row_of
records_are = are_examples record_texts refl

pub xml_types_are : AreExamples xml_texts
unfolding row_of
xml_types_are = are_examples xml_texts refl

pub keywords_are : AreExamples keyword_texts
unfolding row_of
keywords_are = are_examples keyword_texts refl

pub sequences_are : AreExamples sequence_texts
unfolding row_of
sequences_are = are_examples sequence_texts refl

pub items_are : AreExamples item_texts
unfolding row_of
items_are = are_examples item_texts refl

pub groups_are : AreExamples group_texts
unfolding row_of
groups_are = are_examples group_texts refl

pub longer_are : AreExamples longer_texts
unfolding row_of
longer_are = are_examples longer_texts refl

-- the first token that cannot come
pub comma_after_group_is_wrong : IsWrong AType 1000 comma_after_group 4
unfolding row_of
comma_after_group_is_wrong = wrong_at goal.TypeText 1000 comma_after_group ATree 4 refl refl

pub and_after_group_is_wrong : IsWrong AType 1000 and_after_group 5
unfolding row_of
and_after_group_is_wrong = wrong_at goal.TypeText 1000 and_after_group ATree 5 refl refl

pub and_after_letters_is_wrong : IsWrong AType 1000 and_after_letters 2
unfolding row_of
and_after_letters_is_wrong = wrong_at goal.TypeText 1000 and_after_letters ATree 2 refl refl

pub two_postfixes_is_wrong : IsWrong AType 1000 two_postfixes 3
unfolding row_of
two_postfixes_is_wrong = wrong_at goal.TypeText 1000 two_postfixes ATree 3 refl refl

pub no_semicolon_is_wrong : IsWrong AType 1000 no_semicolon 4
unfolding row_of
no_semicolon_is_wrong = wrong_at goal.TypeText 1000 no_semicolon ATree 4 refl refl

pub no_label_is_wrong : IsWrong AType 1000 no_label 2
unfolding row_of
no_label_is_wrong = wrong_at goal.TypeText 1000 no_label ATree 2 refl refl

pub semicolon_after_others_is_wrong : IsWrong AType 1000 semicolon_after_others 4
unfolding row_of
semicolon_after_others_is_wrong = wrong_at goal.TypeText 1000 semicolon_after_others ATree 4 refl refl

pub others_again_is_wrong : IsWrong AType 1000 others_again 2
unfolding row_of
others_again_is_wrong = wrong_at goal.TypeText 1000 others_again ATree 2 refl refl

pub union_of_attribute_is_wrong : IsWrong AType 1000 union_of_attribute 5
unfolding row_of
union_of_attribute_is_wrong = wrong_at goal.TypeText 1000 union_of_attribute ATree 5 refl refl

pub two_letters_is_wrong : IsWrong AType 1000 two_letters 0
unfolding row_of
two_letters_is_wrong = wrong_at goal.TypeText 1000 two_letters ATree 0 refl refl

pub no_part_is_wrong : IsWrong AType 1000 no_part 1
unfolding row_of
no_part_is_wrong = wrong_at goal.TypeText 1000 no_part ATree 1 refl refl

pub keyword_alone_is_wrong : IsWrong AType 1000 keyword_alone 0
unfolding row_of
keyword_alone_is_wrong = wrong_at goal.TypeText 1000 keyword_alone ATree 0 refl refl

pub label_alone_is_wrong : IsWrong AType 1000 label_alone 0
unfolding row_of
label_alone_is_wrong = wrong_at goal.TypeText 1000 label_alone ATree 0 refl refl

pub two_types_is_wrong : IsWrong AType 1000 two_types 1
unfolding row_of
two_types_is_wrong = wrong_at goal.TypeText 1000 two_types ATree 1 refl refl

pub where_again_is_wrong : IsWrong AType 1000 where_again 5
unfolding row_of
where_again_is_wrong = wrong_at goal.TypeText 1000 where_again ATree 5 refl refl

pub no_keyword_is_wrong : IsWrong SomeDeclarations 1000 no_keyword 0
unfolding row_of
no_keyword_is_wrong = wrong_at goal.TypeFile 1000 no_keyword AFile 0 refl refl

pub no_type_name_is_wrong : IsWrong SomeDeclarations 1000 no_type_name 1
unfolding row_of
no_type_name_is_wrong = wrong_at goal.TypeFile 1000 no_type_name AFile 1 refl refl

pub semicolons_again_is_wrong : IsWrong SomeDeclarations 1000 semicolons_again 5
unfolding row_of
semicolons_again_is_wrong = wrong_at goal.TypeFile 1000 semicolons_again AFile 5 refl refl

pub no_type_after_group : (depth : ℕ) (span : Span)
    → BeginNone AType depth (group_front ++ at (token.Sign sign.And) span ∷ [])
unfolding row_of
no_type_after_group depth span =
    let is : IsWrong AType 1000 (group_front ++ at (token.Sign sign.And) span ∷ []) 5 =
    wrong_at goal.TypeText 1000 (group_front ++ at (token.Sign sign.And) span ∷ []) ATree 5 refl refl in
    is.wrong depth

-- texts that end too soon
pub begun_arrow_is_unfinished : IsUnfinished AType 1000 begun_arrow
unfolding row_of
begun_arrow_is_unfinished = begun_only goal.TypeText 1000 begun_arrow ATree refl

pub no_tokens_are_unfinished : IsUnfinished AType 1000 []
unfolding row_of
no_tokens_are_unfinished = begun_only goal.TypeText 1000 [] ATree refl

pub begun_declaration_is_unfinished : IsUnfinished SomeDeclarations 1000 begun_declaration
unfolding row_of
begun_declaration_is_unfinished = begun_only goal.TypeFile 1000 begun_declaration AFile refl
