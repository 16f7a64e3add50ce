-- What is made of two parts is in range where they are.
use Rattle.std.proofs.Common.{[], ◌∷◌}
use Rattle.cd_syntax.specs.declared.tokens.Span.{Span}
use Rattle.cd_model.proofs.Ones.{each_of_lists}
use Rattle.cd_model.proofs.SoundBuiltIns.{nil_is_label}
use Rattle.cd_grammar.specs.declared.make.Two.{Two}
use Rattle.cd_grammar.specs.declared.make.Two.TheVariants as two
use Rattle.cd_grammar.specs.Parts.{Part, ATree, SomeFields, Names, ARegular, Regulars, AMark, AnExpr, Exprs, Items}
use Rattle.cd_grammar.specs.Parts.{ExprFields, Branches, Steps, AFunction, AProgram, token_in, names_in}
use Rattle.cd_grammar.specs.Makes.{made_of_two}
use Rattle.cd_nodes.specs.ConstantsInRange.{RegularInRange}
use Rattle.cd_texts.proofs.PartsInRange.{TreeFieldInRange, DeclarationInRange, ExprInRange, FunctionInRange}
use Rattle.cd_texts.proofs.PartsInRange.{ItemInRange, FieldInRange, BranchInRange, PartInRange, plain_one, plain_two}
use Rattle.cd_texts.proofs.TreesInRange.{item_in_range}
use Rattle.cd_texts.proofs.QueriesInRange.{path_in_range}

pub two_in_range : (m : Two) (here : Span) (a b : Part) → PartInRange a → PartInRange b
    → PartInRange (made_of_two m here a b)
two_in_range two.First here a b is so = is
two_in_range two.Second here a b is so = so
two_in_range two.HalfInterval here a b is so = plain_two (token_in a) (token_in b) _ (λ low high. tt)
two_in_range two.AndOthers here (SomeFields all before) (SomeFields none rest) are so = (are.0, so.1)
two_in_range two.NextFields here (SomeFields all before) (SomeFields more after) are so =
    (each_of_lists TreeFieldInRange all more are.0 so.0, tt)
two_in_range two.NoFields here a b is so = (tt, tt)
two_in_range two.EmptySequence here a b is so = plain_one (token_in b) _ (λ end. tt)
two_in_range two.TwoRegulars here (ARegular one) (ARegular other) is so = (is, (so, tt))
two_in_range two.NextRegular here (Regulars all) (ARegular one) are so =
    each_of_lists RegularInRange all (one ∷ []) are (so, tt)
two_in_range two.ItemRegular here (ATree one) (ARegular other) is so = (item_in_range one is, (so, tt))
two_in_range two.Repeated here (ARegular one) (AMark mark) is so = is
two_in_range two.RepeatedItem here (ATree one) (AMark mark) is so = item_in_range one is
two_in_range two.NextNames here (Names all) (Names rest) are so = each_of_lists DeclarationInRange all rest are so
two_in_range two.File here a b is so = plain_one (names_in b) _ (λ all. tt)
two_in_range two.Nil here a b is so = nil_is_label
-- programs
two_in_range two.NextType here (AProgram types functions) (Names all) are so = are
two_in_range two.NextFunction here (AProgram types functions) (AFunction f) are so =
    each_of_lists FunctionInRange functions (f ∷ []) are (so, tt)
two_in_range two.NextBranches here (Branches all) (Branches rest) are so = each_of_lists BranchInRange all rest are so
two_in_range (two.Call word) here a (AnExpr e) is so = so
two_in_range two.Applied here (AnExpr one) (AnExpr other) is so = (is, (so, tt))
two_in_range two.NextApplied here (Exprs all) (AnExpr e) are so =
    each_of_lists ExprInRange all (e ∷ []) are (so, tt)
two_in_range two.NoItems here a b is so = tt
two_in_range two.NextItems here (Items all) (Items rest) are so = each_of_lists ItemInRange all rest are so
two_in_range two.Splice here a (AnExpr e) is so = (so, tt)
two_in_range two.NoExprFields here a b is so = tt
two_in_range two.NextExprFields here (ExprFields all) (ExprFields rest) are so =
    each_of_lists FieldInRange all rest are so
-- paths and their steps
two_in_range two.Path here (AnExpr e) (Steps all) is so = path_in_range here here e [] all is tt
two_in_range two.FieldStep here a b is so = plain_one (token_in b) _ (λ word. tt)
two_in_range two.ChildStep here a b is so = plain_two (token_in a) (token_in b) _ (λ sign word. tt)
two_in_range two.AttributeStep here a b is so = plain_two (token_in a) (token_in b) _ (λ sign word. tt)
two_in_range _ here _ _ is so = tt
