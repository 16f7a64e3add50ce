-- What is made of three parts is in range where they are.
use Rattle.std.proofs.Common.{[], ◌∷◌}
use Rattle.cd_syntax.specs.declared.tokens.Span.{Span}
use Rattle.cd_model.proofs.Ones.{each_of_lists}
use Rattle.cd_program.specs.Expr.{Operand, Without}
use Rattle.cd_grammar.specs.declared.make.Three.{Three}
use Rattle.cd_grammar.specs.declared.make.Three.TheVariants as three
use Rattle.cd_grammar.specs.Parts.{Part, AToken, ATree, Trees, Signs, SomeFields, Names, ARegular, Regulars, AnExpr}
use Rattle.cd_grammar.specs.Parts.{Exprs, AChain, Items, ExprFields, Branches, Signatures, token_in, tree_in}
use Rattle.cd_grammar.specs.Parts.{signatures_in, steps_in}
use Rattle.cd_grammar.specs.Actions.{item_of}
use Rattle.cd_grammar.specs.Makes.{made_of_three}
use Rattle.cd_nodes.specs.ConstantsInRange.{ConstantsInRange, RegularInRange}
use Rattle.cd_texts.proofs.PartsInRange.{SignInRange, TreeFieldInRange, DeclarationInRange, ExprInRange, TailInRange}
use Rattle.cd_texts.proofs.PartsInRange.{FieldInRange, PartInRange, plain_two, plain_three, characters_in_range}
use Rattle.cd_texts.proofs.TreesInRange.{trees_in_range, tree_fields_in_range, declared_in_range, item_in_range}
use Rattle.cd_texts.proofs.TreesInRange.{items_in_range}
use Rattle.cd_texts.proofs.ExprsInRange.{exprs_in_range, row_in_range, fields_in_range, branches_in_range}

pub three_in_range : (m : Three) (here : Span) (a b c : Part) → PartInRange a → PartInRange b → PartInRange c
    → PartInRange (made_of_three m here a b c)
three_in_range three.Between here a b c is so too = so
-- trees
three_in_range three.TwoTrees here (ATree one) b (ATree other) is so too = (is, (too, tt))
three_in_range three.NextTree here (Trees all) b (ATree one) are so too =
    each_of_lists ConstantsInRange all (one ∷ []) are (too, tt)
three_in_range three.BeforeTrees here (ATree one) b (Trees all) is so too = (is, too)
three_in_range three.Tuple here a (Trees all) c is are too = trees_in_range all are
three_in_range (three.FirstSign kept) here (ATree one) b (ATree other) is so too = (is, (too, tt))
three_in_range (three.NextSign kept) here (Signs first rest) b (ATree one) are so too =
    (are.0, each_of_lists SignInRange rest (record { kept = kept; tree = one } ∷ []) are.1 (too, tt))
three_in_range three.Interval here a b c is so too = plain_two (token_in a) (token_in c) _ (λ low high. tt)
three_in_range three.Characters here a b c is so too = characters_in_range here a c
three_in_range three.Name here (AToken word) b (ATree one) is so too = (too, tt)
three_in_range three.AndNames here (Names all) b (Names rest) are so too =
    each_of_lists DeclarationInRange all rest are too
three_in_range three.Where here (ATree one) b (Names all) is so too = (is, declared_in_range all too)
three_in_range (three.Field optional) here (AToken word) b (ATree one) is so too = ((too, tt), tt)
three_in_range three.SeparateFields here (SomeFields all before) b (SomeFields more after) are so too =
    (each_of_lists TreeFieldInRange all more are.0 too.0, tt)
three_in_range three.SeparateOthers here (SomeFields all before) b (SomeFields none rest) are so too = (are.0, too.1)
three_in_range three.TypedOthers here a b (ATree one) is so too = (tt, too)
three_in_range three.Record here a (SomeFields all rest) c is are too = (tree_fields_in_range all are.0, are.1)
three_in_range three.Sequence here a (ARegular one) c is so too = so
-- expressions of sequences
three_in_range three.EitherRegular here (ARegular one) b (ARegular other) is so too = (is, (too, tt))
three_in_range three.OrRegular here (Regulars all) b (ARegular one) are so too =
    each_of_lists RegularInRange all (one ∷ []) are (too, tt)
three_in_range three.OrItem here (Regulars all) b (ATree one) are so too =
    each_of_lists RegularInRange all (item_of one ∷ []) are (item_in_range one too, tt)
three_in_range three.RegularOrItem here (ARegular one) b (ATree other) is so too =
    (is, (item_in_range other too, tt))
three_in_range three.ItemOrRegular here (ATree one) b (ARegular other) is so too = (item_in_range one is, (too, tt))
three_in_range three.ItemsOrRegular here (Trees all) b (ARegular one) are so too =
    each_of_lists RegularInRange _ (one ∷ []) (items_in_range all are) (too, tt)
three_in_range three.Capture here (AToken word) b (ARegular one) is so too = too
-- functions and branches
three_in_range three.Signature here a b c is so too = plain_two (tree_in a) (tree_in c) _ (λ takes gives. tt)
three_in_range three.SeparateSignatures here a b c is so too =
    plain_two (signatures_in a) (signatures_in c) _ (λ all rest. tt)
three_in_range three.Branch here (ATree takes) b (AnExpr gives) is so too = ((is, too), tt)
three_in_range three.UnnamedFunction here (AToken word) (Signatures arrows) (Branches all) is so are =
    branches_in_range all are
-- operators of one level
three_in_range (three.FirstOperand op) here (AnExpr one) b (AnExpr other) is so too = (is, (too, tt))
three_in_range (three.NextOperand op) here (AChain first rest) b (AnExpr e) are so too =
    (are.0, each_of_lists TailInRange rest (Operand op e ∷ []) are.1 (too, tt))
three_in_range three.FirstWithout here (AnExpr one) b (AToken word) is so too = (is, (tt, tt))
three_in_range three.NextWithout here (AChain first rest) b (AToken word) are so too =
    (are.0, each_of_lists TailInRange rest (Without _ ∷ []) are.1 (tt, tt))
-- steps before others, and a source
three_in_range three.BeforeFieldStep here a b c is so too = plain_two (token_in b) (steps_in c) _ (λ word all. tt)
three_in_range three.BeforeChildStep here a b c is so too =
    plain_three (token_in a) (token_in b) (steps_in c) _ (λ sign word all. tt)
three_in_range three.BeforeAttributeStep here a b c is so too =
    plain_three (token_in a) (token_in b) (steps_in c) _ (λ sign word all. tt)
three_in_range three.Source here (ATree takes) b (AnExpr e) is so too = (((is, too), tt), tt)
-- expressions
three_in_range three.TwoExprs here (AnExpr one) b (AnExpr other) is so too = (is, (too, tt))
three_in_range three.NextExpr here (Exprs all) b (AnExpr e) are so too =
    each_of_lists ExprInRange all (e ∷ []) are (too, tt)
three_in_range three.TupleExpr here a (Exprs all) c is are too = exprs_in_range all are
three_in_range three.SequenceExpr here a (Items all) c is are too = row_in_range all are
three_in_range three.RecordExpr here a (ExprFields all) c is are too = fields_in_range all are
three_in_range three.ExprField here (AToken word) b (AnExpr e) is so too = (too, tt)
three_in_range three.SeparateExprFields here (ExprFields all) b (ExprFields rest) are so too =
    each_of_lists FieldInRange all rest are too
three_in_range _ here _ _ _ is so too = tt
