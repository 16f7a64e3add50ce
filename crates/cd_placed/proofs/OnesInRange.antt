-- What is made of one part is in range where the part is.
use Rattle.cd_syntax.specs.declared.tokens.Span.{Span}
use Rattle.cd_grammar.specs.declared.make.One.{One}
use Rattle.cd_grammar.specs.declared.make.One.TheVariants as one
use Rattle.cd_grammar.specs.Parts.{Part, AToken, AnExpr, Exprs, AChain, ExprFields, AFunction, trees_in, signs_in}
use Rattle.cd_grammar.specs.Parts.{token_in, tree_in, fields_in, names_in, regulars_in}
use Rattle.cd_grammar.specs.Actions.{constant_of}
use Rattle.cd_grammar.specs.Makes.{made_of_one}
use Rattle.cd_placed.proofs.PartsInRange.{PartInRange, plain_one, plain_two, characters_in_range}
use Rattle.cd_placed.proofs.ExprsInRange.{constant_in_range, run_in_range, apply_in_range, record_in_range, chain_in_range}

pub one_in_range : (m : One) (here : Span) (a : Part) → PartInRange a → PartInRange (made_of_one m here a)
one_in_range one.That here a is = is
one_in_range one.Union here a is = plain_one (trees_in a) _ (λ all. tt)
one_in_range one.Arrows here a is = plain_one (trees_in a) _ (λ all. tt)
one_in_range one.Meet here a is = plain_one (signs_in a) _ (λ all. tt)
one_in_range one.Number here a is = plain_two (token_in a) (token_in a) _ (λ low high. tt)
one_in_range one.Character here a is = characters_in_range here a a
one_in_range one.Text here a is = plain_one (token_in a) _ (λ one. tt)
one_in_range one.Atom here a is = plain_one (token_in a) _ (λ one. tt)
one_in_range one.Named here a is = plain_one (token_in a) _ (λ one. tt)
one_in_range one.Any here a is = tt
one_in_range one.Label here a is = plain_one (token_in a) _ (λ one. tt)
one_in_range one.Others here a is = tt
one_in_range one.Attributes here a is = plain_one (fields_in a) _ (λ all. tt)
one_in_range one.Item here a is = plain_one (tree_in a) _ (λ one. tt)
one_in_range one.Run here a is = plain_one (token_in a) _ (λ one. tt)
one_in_range one.Alternatives here a is = plain_one (regulars_in a) _ (λ all. tt)
one_in_range one.InTurn here a is = plain_one (regulars_in a) _ (λ all. tt)
one_in_range (one.Mark mark) here a is = tt
one_in_range one.NoFile here a is = tt
one_in_range one.Variable here a is = plain_one (token_in a) _ (λ one. tt)
one_in_range one.Constant here a is =
    plain_one (token_in a) _ (λ one. plain_one (constant_of one.kind) _ (λ value. tt))
-- programs
one_in_range one.NoProgram here a is = tt
one_in_range one.FirstType here a is = plain_one (names_in a) _ (λ all. tt)
one_in_range one.FirstFunction here (AFunction f) is = (is, tt)
one_in_range one.Chain here (AChain first rest) is = chain_in_range here first rest is.0 is.1
one_in_range one.Apply here (Exprs all) are = apply_in_range here all are
one_in_range one.ConstantExpr here (AToken token) is = constant_in_range here token.kind is
one_in_range one.VariableExpr here a is = plain_one (token_in a) _ (λ one made. (tt, tt))
one_in_range one.LabelExpr here a is = plain_one (token_in a) _ (λ one label. (label, tt))
one_in_range one.AttributesExpr here (ExprFields all) are = record_in_range here all are
one_in_range one.RunItem here (AToken token) is = (run_in_range token.kind is, tt)
one_in_range one.OneItem here (AnExpr e) is = (is, tt)
one_in_range _ here _ is = tt
