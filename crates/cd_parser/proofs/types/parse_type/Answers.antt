use Rattle.std.proofs.Common.{sym, subst}
use Rattle.cd_syntax.specs.PlainTree.{plain}
use Rattle.cd_syntax.specs.SyntaxFaults.{IsSyntaxFault, IsDepthFault}
use Rattle.cd_grammar.specs.Forms.{AType}
use Rattle.cd_parser.specs.Parsed.{syntax, too_deep}
use Rattle.cd_parser.proofs.TextsRead.{type_read, type_of, type_wrong, type_deep}
use Rattle.cd_parser.proofs.types.parse_type.Goals as goal

pub tree_in-requires : goal.tree_in-requires
tree_in-requires c = type_read c.args.tokens.now c.args.end c.in_ok-part.field-0 c.in-Whole.part c.in_ok-part.ensures c.in-Whole.is

pub returns-in-Whole-clause-tree : goal.returns-in-Whole-clause-tree
returns-in-Whole-clause-tree c =
    type_of c.args.tokens.now c.args.end c.in_ok-part.field-0 c.in-Whole.part (plain c.tree_in.result)
    c.in_ok-part.ensures c.in-Whole.is c.tree_in.ensures

pub returns-in-Wrong-clause-fault : goal.returns-in-Wrong-clause-fault
returns-in-Wrong-clause-fault c =
    syntax c.place_of-at.result (subst (IsSyntaxFault AType 1000 c.args.tokens.now c.args.end) (sym c.place_of-at.ensures)
    (type_wrong c.args.tokens.now c.args.end c.in_ok-part.field-0 c.in-Wrong.index c.in_ok-part.ensures c.in-Wrong.is))

pub returns-in-TooDeep-clause-fault : goal.returns-in-TooDeep-clause-fault
returns-in-TooDeep-clause-fault c =
    too_deep c.place_of-at-in-TooDeep.result (subst (IsDepthFault AType 1000 c.args.tokens.now c.args.end) (sym c.place_of-at-in-TooDeep.ensures)
    (type_deep c.args.tokens.now c.args.end c.in_ok-part.field-0 c.in-TooDeep.index c.in_ok-part.ensures c.in-TooDeep.is))
