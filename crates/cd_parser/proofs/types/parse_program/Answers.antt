use Rattle.std.proofs.Common.{sym, subst}
use Rattle.cd_syntax.specs.SyntaxFaults.{IsSyntaxFault, IsDepthFault}
use Rattle.cd_program.specs.PlainProgram.{plain_program}
use Rattle.cd_grammar.specs.Forms.{AProgram}
use Rattle.cd_parser.specs.Parsed.{syntax, too_deep}
use Rattle.cd_parser.proofs.TextsRead.{program_read, program_of, program_wrong, program_deep}
use Rattle.cd_parser.proofs.types.parse_program.Goals as goal

pub program_in-requires : goal.program_in-requires
program_in-requires c =
    program_read c.args.tokens.now c.args.end c.in_ok-part.field-0 c.in-Whole.part c.in_ok-part.ensures c.in-Whole.is

pub returns-in-Whole-clause-program : goal.returns-in-Whole-clause-program
returns-in-Whole-clause-program c =
    let found = c.program_in.ensures.program in
    program_of c.args.tokens.now c.args.end c.in_ok-part.field-0 c.in-Whole.part found.0 (plain_program c.program_in.result)
    c.in_ok-part.ensures c.in-Whole.is found.1 (sym found.2)

pub returns-in-Wrong-clause-fault : goal.returns-in-Wrong-clause-fault
returns-in-Wrong-clause-fault c =
    syntax c.place_of-at.result (subst (IsSyntaxFault AProgram 1000 c.args.tokens.now c.args.end) (sym c.place_of-at.ensures)
    (program_wrong c.args.tokens.now c.args.end c.in_ok-part.field-0 c.in-Wrong.index c.in_ok-part.ensures c.in-Wrong.is))

pub returns-in-TooDeep-clause-fault : goal.returns-in-TooDeep-clause-fault
returns-in-TooDeep-clause-fault c =
    too_deep c.place_of-at-in-TooDeep.result (subst (IsDepthFault AProgram 1000 c.args.tokens.now c.args.end) (sym c.place_of-at-in-TooDeep.ensures)
    (program_deep c.args.tokens.now c.args.end c.in_ok-part.field-0 c.in-TooDeep.index c.in_ok-part.ensures c.in-TooDeep.is))
