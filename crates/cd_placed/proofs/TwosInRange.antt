-- What is made of two parts is in range where they are.
use Rattle.std.proofs.Common.{[], ◌∷◌}
use Rattle.cd_syntax.specs.declared.tokens.Span.{Span}
use Rattle.cd_model.proofs.Ones.{each_of_lists}
use Rattle.cd_grammar.specs.declared.make.Two.{Two}
use Rattle.cd_grammar.specs.declared.make.Two.TheVariants as two
use Rattle.cd_grammar.specs.Parts.{Part, Names, AnExpr, Exprs, Items, ExprFields, Branches, Steps, AFunction, AProgram}
use Rattle.cd_grammar.specs.Parts.{token_in, tree_in, fields_in, names_in, regular_in, regulars_in, mark_in}
use Rattle.cd_grammar.specs.Makes.{made_of_two}
use Rattle.cd_placed.proofs.PartsInRange.{ExprInRange, FunctionInRange, ItemInRange, FieldInRange, BranchInRange}
use Rattle.cd_placed.proofs.PartsInRange.{PartInRange, plain_one, plain_two}
use Rattle.cd_placed.proofs.ExprsInRange.{call_in_range, sequence_in_range, record_in_range}
use Rattle.cd_placed.proofs.QueriesInRange.{path_in_range}

pub two_in_range : (m : Two) (here : Span) (a b : Part) → PartInRange a → PartInRange b
    → PartInRange (made_of_two m here a b)
two_in_range two.First here a b is so = is
two_in_range two.Second here a b is so = so
two_in_range two.HalfInterval here a b is so = plain_two (token_in a) (token_in b) _ (λ low high. tt)
two_in_range two.AndOthers here a b is so = plain_two (fields_in a) (fields_in b) _ (λ all rest. tt)
two_in_range two.NextFields here a b is so = plain_two (fields_in a) (fields_in b) _ (λ all rest. tt)
two_in_range two.NoFields here a b is so = tt
two_in_range two.EmptySequence here a b is so = plain_one (token_in b) _ (λ end. tt)
two_in_range two.TwoRegulars here a b is so = plain_two (regular_in a) (regular_in b) _ (λ one other. tt)
two_in_range two.NextRegular here a b is so = plain_two (regulars_in a) (regular_in b) _ (λ all one. tt)
two_in_range two.ItemRegular here a b is so = plain_two (tree_in a) (regular_in b) _ (λ one other. tt)
two_in_range two.Repeated here a b is so = plain_two (regular_in a) (mark_in b) _ (λ one mark. tt)
two_in_range two.RepeatedItem here a b is so = plain_two (tree_in a) (mark_in b) _ (λ one mark. tt)
two_in_range two.NextNames here a b is so = plain_two (names_in a) (names_in b) _ (λ all rest. tt)
two_in_range two.File here a b is so = plain_one (names_in b) _ (λ all. tt)
two_in_range two.Nil here a b is so = tt
-- programs
two_in_range two.NextType here (AProgram types functions) (Names all) are so = are
two_in_range two.NextFunction here (AProgram types functions) (AFunction f) are so =
    each_of_lists FunctionInRange functions (f ∷ []) are (so, tt)
two_in_range two.NextBranches here (Branches all) (Branches rest) are so = each_of_lists BranchInRange all rest are so
two_in_range (two.Call word) here a (AnExpr e) is so = call_in_range word here e so
two_in_range two.Applied here (AnExpr one) (AnExpr other) is so = (is, (so, tt))
two_in_range two.NextApplied here (Exprs all) (AnExpr e) are so =
    each_of_lists ExprInRange all (e ∷ []) are (so, tt)
two_in_range two.NoItems here a b is so = sequence_in_range here [] tt
two_in_range two.NextItems here (Items all) (Items rest) are so = each_of_lists ItemInRange all rest are so
two_in_range two.Splice here a (AnExpr e) is so = (so, tt)
two_in_range two.NoExprFields here a b is so = record_in_range here [] tt
two_in_range two.NextExprFields here (ExprFields all) (ExprFields rest) are so =
    each_of_lists FieldInRange all rest are so
-- paths and their steps
two_in_range two.Path here (AnExpr e) (Steps all) is so = path_in_range here here e [] all is tt
two_in_range two.FieldStep here a b is so = plain_one (token_in b) _ (λ word. tt)
two_in_range two.ChildStep here a b is so = plain_two (token_in a) (token_in b) _ (λ sign word. tt)
two_in_range two.AttributeStep here a b is so = plain_two (token_in a) (token_in b) _ (λ sign word. tt)
two_in_range _ here _ _ is so = tt
