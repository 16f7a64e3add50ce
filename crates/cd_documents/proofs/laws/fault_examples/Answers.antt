use Rattle.std.proofs.Common.{refl}
use Rattle.cd_documents.specs.Examples.{no_semicolon, only_semicolon, label_again, no_tag, no_character, two_values, begun_tuple, two_brackets}
use Rattle.cd_documents.proofs.Faulting.{too_deep}
use Rattle.cd_documents.proofs.Refusing.{wrong_document, unfinished_document}
use Rattle.cd_documents.proofs.laws.fault_examples.Goals as goal

pub returns-clause-no_semicolon : goal.returns-clause-no_semicolon
returns-clause-no_semicolon c = wrong_document 1000 no_semicolon 9 5 refl

pub returns-clause-only_semicolon : goal.returns-clause-only_semicolon
returns-clause-only_semicolon c = wrong_document 1000 only_semicolon 3 1 refl

pub returns-clause-label_again : goal.returns-clause-label_again
returns-clause-label_again c = wrong_document 1000 label_again 9 5 refl

pub returns-clause-no_tag : goal.returns-clause-no_tag
returns-clause-no_tag c = wrong_document 1000 no_tag 4 1 refl

pub returns-clause-no_character : goal.returns-clause-no_character
returns-clause-no_character c = wrong_document 1000 no_character 2 0 refl

pub returns-clause-two_values : goal.returns-clause-two_values
returns-clause-two_values c = wrong_document 1000 two_values 3 2 refl

pub returns-clause-begun_tuple : goal.returns-clause-begun_tuple
returns-clause-begun_tuple c = unfinished_document 1000 begun_tuple 3 refl

pub returns-clause-two_brackets : goal.returns-clause-two_brackets
returns-clause-two_brackets c = wrong_document 1000 two_brackets 2 1 refl

pub returns-clause-too_deep : goal.returns-clause-too_deep
returns-clause-too_deep c = too_deep 1 two_brackets 2 1 refl
