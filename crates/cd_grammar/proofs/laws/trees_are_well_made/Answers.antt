use Rattle.cd_grammar.proofs.MadeWell.{text_makes_type, text_makes_declarations, text_makes_program}
use Rattle.cd_grammar.proofs.laws.trees_are_well_made.Goals as goal

pub returns-clause-types : goal.returns-clause-types
returns-clause-types c = text_makes_type

pub returns-clause-declarations : goal.returns-clause-declarations
returns-clause-declarations c = text_makes_declarations

pub returns-clause-programs : goal.returns-clause-programs
returns-clause-programs c = text_makes_program
