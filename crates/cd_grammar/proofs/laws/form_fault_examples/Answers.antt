use Rattle.cd_grammar.proofs.Examples.{comma_after_group_is_wrong, and_after_group_is_wrong, and_after_letters_is_wrong, two_postfixes_is_wrong, no_semicolon_is_wrong, no_label_is_wrong, union_of_attribute_is_wrong, semicolon_after_others_is_wrong, others_again_is_wrong}
use Rattle.cd_grammar.proofs.laws.form_fault_examples.Goals as goal

pub returns-clause-comma_after_group : goal.returns-clause-comma_after_group
returns-clause-comma_after_group c = comma_after_group_is_wrong

pub returns-clause-and_after_group : goal.returns-clause-and_after_group
returns-clause-and_after_group c = and_after_group_is_wrong

pub returns-clause-and_after_letters : goal.returns-clause-and_after_letters
returns-clause-and_after_letters c = and_after_letters_is_wrong

pub returns-clause-two_postfixes : goal.returns-clause-two_postfixes
returns-clause-two_postfixes c = two_postfixes_is_wrong

pub returns-clause-no_semicolon : goal.returns-clause-no_semicolon
returns-clause-no_semicolon c = no_semicolon_is_wrong

pub returns-clause-no_label : goal.returns-clause-no_label
returns-clause-no_label c = no_label_is_wrong

pub returns-clause-union_of_attribute : goal.returns-clause-union_of_attribute
returns-clause-union_of_attribute c = union_of_attribute_is_wrong

pub returns-clause-semicolon_after_others : goal.returns-clause-semicolon_after_others
returns-clause-semicolon_after_others c = semicolon_after_others_is_wrong

pub returns-clause-others_again : goal.returns-clause-others_again
returns-clause-others_again c = others_again_is_wrong
