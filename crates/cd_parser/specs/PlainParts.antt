-- The parts of the code as plain data.
use Rattle.std.specs.Prelude.{map, reverse, option_map}
use Rattle.cd_syntax.specs.PlainTree.{plain_declaration}
use Rattle.cd_program.specs.PlainExpr.{plain as plain_expr, plain_tail, plain_item}
use Rattle.cd_program.specs.PlainExpr.{plain_field as plain_expr_field, plain_branch}
use Rattle.cd_program.specs.PlainExpr.{plain_signature, plain_function}
use Rattle.cd_query.specs.PlainParts.{plain_step, plain_source}
use Rattle.cd_grammar.specs.Parts as parts
use Rattle.cd_tree_actions.specs.PlainTreeParts.{plain_tree_part}
use Rattle.cd_parser.specs.declared.part.Part.{Part}
use Rattle.cd_parser.specs.declared.part.Part.TheVariants as part

abbrev pub plain_part : Part → parts.Part
plain_part (part.Tree is) = plain_tree_part is
plain_part (part.Expr is) = parts.AnExpr (plain_expr is.value)
plain_part (part.Exprs all) = parts.Exprs (map plain_expr all.items)
plain_part (part.Chain first rest) =
    parts.AChain (plain_expr first.value) (map plain_tail rest.items)
plain_part (part.Items all) = parts.Items (map plain_item all.items)
plain_part (part.ExprFields all) = parts.ExprFields (map plain_expr_field all.items)
plain_part (part.Branches all) = parts.Branches (map plain_branch all.items)
plain_part (part.Signatures all) = parts.Signatures (map plain_signature all.items)
plain_part (part.Steps all) = parts.Steps (reverse (map plain_step all.items))
plain_part (part.Sources all condition) =
    parts.Sources (reverse (map plain_source all.items))
    (option_map (λ is. plain_expr is.value) condition)
plain_part (part.Function is) = parts.AFunction (plain_function is.value)
plain_part (part.Program types functions) =
    parts.AProgram (map plain_declaration types.items) (map plain_function functions.items)
plain_part part.Junk = parts.Junk
