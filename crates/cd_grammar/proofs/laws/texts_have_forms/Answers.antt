use Rattle.cd_grammar.proofs.FormsOfTexts.{type_form, declarations_form, program_form}
use Rattle.cd_grammar.proofs.laws.texts_have_forms.Goals as goal

pub returns-clause-types : goal.returns-clause-types
returns-clause-types c = type_form

pub returns-clause-declarations : goal.returns-clause-declarations
returns-clause-declarations c = declarations_form

pub returns-clause-programs : goal.returns-clause-programs
returns-clause-programs c = program_form
