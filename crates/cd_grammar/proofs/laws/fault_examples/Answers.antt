use Rattle.cd_grammar.proofs.Examples.{two_letters_is_wrong, no_part_is_wrong, keyword_alone_is_wrong, label_alone_is_wrong, two_types_is_wrong, where_again_is_wrong, begun_arrow_is_unfinished, no_tokens_are_unfinished, no_keyword_is_wrong, no_type_name_is_wrong, semicolons_again_is_wrong, begun_declaration_is_unfinished}
use Rattle.cd_grammar.proofs.laws.fault_examples.Goals as goal

pub returns-clause-two_letters : goal.returns-clause-two_letters
returns-clause-two_letters c = two_letters_is_wrong

pub returns-clause-no_part : goal.returns-clause-no_part
returns-clause-no_part c = no_part_is_wrong

pub returns-clause-keyword_alone : goal.returns-clause-keyword_alone
returns-clause-keyword_alone c = keyword_alone_is_wrong

pub returns-clause-label_alone : goal.returns-clause-label_alone
returns-clause-label_alone c = label_alone_is_wrong

pub returns-clause-two_types : goal.returns-clause-two_types
returns-clause-two_types c = two_types_is_wrong

pub returns-clause-where_again : goal.returns-clause-where_again
returns-clause-where_again c = where_again_is_wrong

pub returns-clause-begun_arrow : goal.returns-clause-begun_arrow
returns-clause-begun_arrow c = begun_arrow_is_unfinished

pub returns-clause-no_type : goal.returns-clause-no_type
returns-clause-no_type c = no_tokens_are_unfinished

pub returns-clause-no_keyword : goal.returns-clause-no_keyword
returns-clause-no_keyword c = no_keyword_is_wrong

pub returns-clause-no_type_name : goal.returns-clause-no_type_name
returns-clause-no_type_name c = no_type_name_is_wrong

pub returns-clause-semicolons_again : goal.returns-clause-semicolons_again
returns-clause-semicolons_again c = semicolons_again_is_wrong

pub returns-clause-begun_declaration : goal.returns-clause-begun_declaration
returns-clause-begun_declaration c = begun_declaration_is_unfinished
