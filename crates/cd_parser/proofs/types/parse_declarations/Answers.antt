use Rattle.std.proofs.Common.{sym, subst}
use Rattle.cd_syntax.specs.PlainTree.{plain_declarations}
use Rattle.cd_syntax.specs.SyntaxFaults.{IsSyntaxFault, IsDepthFault}
use Rattle.cd_grammar.specs.Forms.{SomeDeclarations}
use Rattle.cd_parser.specs.Parsed.{syntax, too_deep}
use Rattle.cd_parser.proofs.TextsRead.{file_read, file_of, file_wrong, file_deep}
use Rattle.cd_parser.proofs.types.parse_declarations.Goals as goal

pub file_in-requires : goal.file_in-requires
file_in-requires c = file_read c.args.tokens.now c.args.end c.in_ok-part.field-0 c.in-Whole.part c.in_ok-part.ensures c.in-Whole.is

pub returns-in-Whole-clause-declarations : goal.returns-in-Whole-clause-declarations
returns-in-Whole-clause-declarations c =
    file_of c.args.tokens.now c.args.end c.in_ok-part.field-0 c.in-Whole.part (plain_declarations c.file_in.result)
    c.in_ok-part.ensures c.in-Whole.is c.file_in.ensures

pub returns-in-Wrong-clause-fault : goal.returns-in-Wrong-clause-fault
returns-in-Wrong-clause-fault c =
    syntax c.place_of-at.result (subst (IsSyntaxFault SomeDeclarations 1000 c.args.tokens.now c.args.end) (sym c.place_of-at.ensures)
    (file_wrong c.args.tokens.now c.args.end c.in_ok-part.field-0 c.in-Wrong.index c.in_ok-part.ensures c.in-Wrong.is))

pub returns-in-TooDeep-clause-fault : goal.returns-in-TooDeep-clause-fault
returns-in-TooDeep-clause-fault c =
    too_deep c.place_of-at-in-TooDeep.result (subst (IsDepthFault SomeDeclarations 1000 c.args.tokens.now c.args.end) (sym c.place_of-at-in-TooDeep.ensures)
    (file_deep c.args.tokens.now c.args.end c.in_ok-part.field-0 c.in-TooDeep.index c.in_ok-part.ensures c.in-TooDeep.is))
