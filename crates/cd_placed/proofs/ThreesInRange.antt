-- What is made of three parts is in range where they are.
use Rattle.std.proofs.Common.{[], ◌∷◌}
use Rattle.cd_syntax.specs.declared.tokens.Span.{Span}
use Rattle.cd_model.proofs.Ones.{each_of_lists}
use Rattle.cd_program.specs.Expr.{Operand, Without}
use Rattle.cd_grammar.specs.declared.make.Three.{Three}
use Rattle.cd_grammar.specs.declared.make.Three.TheVariants as three
use Rattle.cd_grammar.specs.Parts.{Part, AToken, ATree, AnExpr, Exprs, AChain, Items, ExprFields, Branches, Signatures}
use Rattle.cd_grammar.specs.Parts.{token_in, tree_in, trees_in, signs_in, fields_in, names_in, regular_in, regulars_in}
use Rattle.cd_grammar.specs.Parts.{signatures_in, steps_in}
use Rattle.cd_grammar.specs.Makes.{made_of_three}
use Rattle.cd_placed.proofs.PartsInRange.{ExprInRange, TailInRange, FieldInRange, PartInRange, plain_one, plain_two}
use Rattle.cd_placed.proofs.PartsInRange.{plain_three, characters_in_range}
use Rattle.cd_placed.proofs.ExprsInRange.{tuple_in_range, sequence_in_range, record_in_range, unnamed_in_range}

pub three_in_range : (m : Three) (here : Span) (a b c : Part) → PartInRange a → PartInRange b → PartInRange c
    → PartInRange (made_of_three m here a b c)
three_in_range three.Between here a b c is so too = so
-- trees
three_in_range three.TwoTrees here a b c is so too = plain_two (tree_in a) (tree_in c) _ (λ one other. tt)
three_in_range three.NextTree here a b c is so too = plain_two (trees_in a) (tree_in c) _ (λ all one. tt)
three_in_range three.BeforeTrees here a b c is so too = plain_two (tree_in a) (trees_in c) _ (λ one all. tt)
three_in_range three.Tuple here a b c is so too = plain_one (trees_in b) _ (λ all. tt)
three_in_range (three.FirstSign kept) here a b c is so too = plain_two (tree_in a) (tree_in c) _ (λ one other. tt)
three_in_range (three.NextSign kept) here a b c is so too = plain_two (signs_in a) (tree_in c) _ (λ all one. tt)
three_in_range three.Interval here a b c is so too = plain_two (token_in a) (token_in c) _ (λ low high. tt)
three_in_range three.Characters here a b c is so too = characters_in_range here a c
three_in_range three.Name here a b c is so too = plain_two (token_in a) (tree_in c) _ (λ word one. tt)
three_in_range three.AndNames here a b c is so too = plain_two (names_in a) (names_in c) _ (λ all rest. tt)
three_in_range three.Where here a b c is so too = plain_two (tree_in a) (names_in c) _ (λ one all. tt)
three_in_range (three.Field optional) here a b c is so too = plain_two (token_in a) (tree_in c) _ (λ word one. tt)
three_in_range three.SeparateFields here a b c is so too = plain_two (fields_in a) (fields_in c) _ (λ all rest. tt)
three_in_range three.SeparateOthers here a b c is so too = plain_two (fields_in a) (fields_in c) _ (λ all rest. tt)
three_in_range three.TypedOthers here a b c is so too = plain_one (tree_in c) _ (λ one. tt)
three_in_range three.Record here a b c is so too = plain_one (fields_in b) _ (λ all. tt)
three_in_range three.Sequence here a b c is so too = plain_one (regular_in b) _ (λ one. tt)
-- expressions of sequences
three_in_range three.EitherRegular here a b c is so too = plain_two (regular_in a) (regular_in c) _ (λ one other. tt)
three_in_range three.OrRegular here a b c is so too = plain_two (regulars_in a) (regular_in c) _ (λ all one. tt)
three_in_range three.OrItem here a b c is so too = plain_two (regulars_in a) (tree_in c) _ (λ all one. tt)
three_in_range three.RegularOrItem here a b c is so too = plain_two (regular_in a) (tree_in c) _ (λ one other. tt)
three_in_range three.ItemOrRegular here a b c is so too = plain_two (tree_in a) (regular_in c) _ (λ one other. tt)
three_in_range three.ItemsOrRegular here a b c is so too = plain_two (trees_in a) (regular_in c) _ (λ all one. tt)
three_in_range three.Capture here a b c is so too = plain_two (token_in a) (regular_in c) _ (λ word one. tt)
-- functions and branches
three_in_range three.Signature here a b c is so too = plain_two (tree_in a) (tree_in c) _ (λ takes gives. tt)
three_in_range three.SeparateSignatures here a b c is so too =
    plain_two (signatures_in a) (signatures_in c) _ (λ all rest. tt)
three_in_range three.Branch here (ATree takes) b (AnExpr gives) is so too = (too, tt)
three_in_range three.UnnamedFunction here (AToken word) (Signatures arrows) (Branches all) is so are =
    unnamed_in_range here word.span.from arrows all are
-- operators of one level
three_in_range (three.FirstOperand op) here (AnExpr one) b (AnExpr other) is so too = (is, (too, tt))
three_in_range (three.NextOperand op) here (AChain first rest) b (AnExpr e) are so too =
    (are.0, each_of_lists TailInRange rest (Operand op e ∷ []) are.1 (too, tt))
three_in_range three.FirstWithout here (AnExpr one) b (AToken word) is so too = (is, (tt, tt))
three_in_range three.NextWithout here (AChain first rest) b (AToken word) are so too =
    (are.0, each_of_lists TailInRange rest (Without _ ∷ []) are.1 (tt, tt))
-- steps before others, and a source
three_in_range three.BeforeFieldStep here a b c is so too = plain_two (token_in b) (steps_in c) _ (λ word all. tt)
three_in_range three.BeforeChildStep here a b c is so too =
    plain_three (token_in a) (token_in b) (steps_in c) _ (λ sign word all. tt)
three_in_range three.BeforeAttributeStep here a b c is so too =
    plain_three (token_in a) (token_in b) (steps_in c) _ (λ sign word all. tt)
three_in_range three.Source here (ATree takes) b (AnExpr e) is so too = ((too, tt), tt)
-- expressions
three_in_range three.TwoExprs here (AnExpr one) b (AnExpr other) is so too = (is, (too, tt))
three_in_range three.NextExpr here (Exprs all) b (AnExpr e) are so too =
    each_of_lists ExprInRange all (e ∷ []) are (too, tt)
three_in_range three.TupleExpr here a (Exprs all) c is are too = tuple_in_range here all are
three_in_range three.SequenceExpr here a (Items all) c is are too = sequence_in_range here all are
three_in_range three.RecordExpr here a (ExprFields all) c is are too = record_in_range here all are
three_in_range three.ExprField here (AToken word) b (AnExpr e) is so too = (too, tt)
three_in_range three.SeparateExprFields here (ExprFields all) b (ExprFields rest) are so too =
    each_of_lists FieldInRange all rest are too
three_in_range _ here _ _ _ is so too = tt
