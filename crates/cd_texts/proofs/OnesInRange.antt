-- What is made of one part is in range where the part is.
use Rattle.cd_syntax.specs.declared.tokens.Span.{Span}
use Rattle.cd_tables.specs.Rows.{row_of}
use Rattle.cd_tables.specs.Words.{type_names}
use Rattle.cd_grammar.specs.declared.make.One.{One}
use Rattle.cd_grammar.specs.declared.make.One.TheVariants as one
use Rattle.cd_grammar.specs.Parts.{Part, AToken, ATree, Trees, Signs, SomeFields, Regulars, AnExpr, Exprs, AChain}
use Rattle.cd_grammar.specs.Parts.{ExprFields, AFunction, token_in, names_in}
use Rattle.cd_grammar.specs.Actions.{constant_of, characters_in, name_in}
use Rattle.cd_grammar.specs.Makes.{made_of_one}
use Rattle.cd_texts.proofs.PartsInRange.{PartInRange, plain_one, plain_two, characters_in_range}
use Rattle.cd_texts.proofs.TreesInRange.{constant_in_range, name_in_range, trees_in_range, signs_in_range}
use Rattle.cd_texts.proofs.TreesInRange.{tree_fields_in_range, item_in_range, letters_in_range, regulars_in_range}
use Rattle.cd_texts.proofs.ExprsInRange.{exprs_in_range, fields_in_range, tails_in_range}

pub one_in_range : (m : One) (here : Span) (a : Part) → PartInRange a → PartInRange (made_of_one m here a)
one_in_range one.That here a is = is
one_in_range one.Union here (Trees all) are = trees_in_range all are
one_in_range one.Arrows here (Trees all) are = trees_in_range all are
one_in_range one.Meet here (Signs first rest) are = (are.0, signs_in_range rest are.1)
one_in_range one.Number here a is = plain_two (token_in a) (token_in a) _ (λ low high. tt)
one_in_range one.Character here a is = characters_in_range here a a
one_in_range one.Text here a is = plain_one (token_in a) _ (λ one. tt)
one_in_range one.Atom here a is = plain_one (token_in a) _ (λ one. tt)
one_in_range one.Named here a is =
    plain_one (token_in a) _ (λ one. name_in_range (row_of type_names (name_in one.kind)) (name_in one.kind))
one_in_range one.Any here a is = tt
one_in_range one.Label here a is = plain_one (token_in a) _ (λ one. tt)
one_in_range one.Others here a is = (tt, tt)
one_in_range one.Attributes here (SomeFields all rest) is = (tree_fields_in_range all is.0, is.1)
one_in_range one.Item here (ATree one) is = item_in_range one is
one_in_range one.Run here a is = plain_one (token_in a) _ (λ one. letters_in_range here (characters_in one.kind))
one_in_range one.Alternatives here (Regulars all) are = regulars_in_range all are
one_in_range one.InTurn here (Regulars all) are = regulars_in_range all are
one_in_range (one.Mark mark) here a is = tt
one_in_range one.NoFile here a is = tt
one_in_range one.Variable here a is = plain_one (token_in a) _ (λ one. tt)
one_in_range one.Constant here (AToken token) is = constant_in_range token.kind is
-- programs
one_in_range one.NoProgram here a is = tt
one_in_range one.FirstType here a is = plain_one (names_in a) _ (λ all. tt)
one_in_range one.FirstFunction here (AFunction f) is = (is, tt)
one_in_range one.Chain here (AChain first rest) is = (is.0, tails_in_range rest is.1)
one_in_range one.Apply here (Exprs all) are = exprs_in_range all are
one_in_range one.ConstantExpr here a is =
    plain_one (token_in a) _ (λ one. plain_one (constant_of one.kind) _ (λ value. tt))
one_in_range one.VariableExpr here a is = plain_one (token_in a) _ (λ one. tt)
one_in_range one.LabelExpr here a is = plain_one (token_in a) _ (λ one. tt)
one_in_range one.AttributesExpr here (ExprFields all) are = fields_in_range all are
one_in_range one.RunItem here a is = plain_one (token_in a) _ (λ one. (tt, tt))
one_in_range one.OneItem here (AnExpr e) is = (is, tt)
one_in_range _ here _ is = tt
