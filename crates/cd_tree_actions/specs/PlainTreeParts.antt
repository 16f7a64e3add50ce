-- The parts of the code as plain data.
use Rattle.std.specs.Prelude.{map}
use Rattle.cd_syntax.specs.PlainTree.{plain, plain_signed, plain_field, plain_declaration}
use Rattle.cd_syntax.specs.PlainTree.{plain_declarations, plain_regular, plain_rest}
use Rattle.cd_grammar.specs.Parts as parts
use Rattle.cd_tree_actions.specs.declared.part.TreePart.{TreePart}
use Rattle.cd_tree_actions.specs.declared.part.TreePart.TheVariants as part

abbrev pub plain_tree_part : TreePart → parts.Part
plain_tree_part (part.Token token) = parts.AToken token.now
plain_tree_part (part.Tree is) = parts.ATree (plain is.value)
plain_tree_part (part.Trees all) = parts.Trees (map plain all.items)
plain_tree_part (part.Signs first rest) =
    parts.Signs (plain first.value) (map plain_signed rest.items)
plain_tree_part (part.Fields all rest) =
    parts.SomeFields (map plain_field all.items) (plain_rest rest)
plain_tree_part (part.Names all) = parts.Names (map plain_declaration all.items)
plain_tree_part (part.File declarations) = parts.AFile (plain_declarations declarations)
plain_tree_part (part.Regular is) = parts.ARegular (plain_regular is.value)
plain_tree_part (part.Regulars all) = parts.Regulars (map plain_regular all.items)
plain_tree_part (part.Mark mark) = parts.AMark mark
plain_tree_part (part.Constant is) = parts.AConstant is.value
plain_tree_part part.Junk = parts.Junk
