use Rattle.cd_safety.proofs.MainDeclared.{has_main}
use Rattle.cd_safety.proofs.laws.typed_programs_have_main.Goals as goal

pub returns : goal.returns
returns c program typed none places = has_main program none typed places
