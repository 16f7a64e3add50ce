-- What is made of one part holds no place more often than it does.
use Rattle.std.proofs.Common.{ℕ, List, [], ◌++◌}
use Rattle.std.specs.Prelude.{flat_map}
use Rattle.cd_syntax.specs.declared.tokens.Span.{Span}
use Rattle.cd_syntax.specs.declared.constant.Constant.TheVariants as constants
use Rattle.cd_program.specs.Expr.{Expr, FunctionTree}
use Rattle.cd_grammar.specs.declared.make.One.{One}
use Rattle.cd_grammar.specs.declared.make.One.TheVariants as one
use Rattle.cd_grammar.specs.Parts.{Part, trees_in, signs_in, token_in, tree_in, fields_in, names_in, regulars_in}
use Rattle.cd_grammar.specs.Parts.{function_in, chain_in, exprs_in, expr_fields_in, expr_in}
use Rattle.cd_grammar.specs.Actions.{constant_of, characters_in, name_in}
use Rattle.cd_grammar.specs.Makes.{made_of_one}
use Rattle.cd_placed.proofs.Once.{first, of_one}
use Rattle.cd_placed.proofs.HeldPlaces.{IsWalk, of_field, held, in_chain, expr_read, exprs_read, chain_read}
use Rattle.cd_placed.proofs.HeldPlaces.{fields_read, function_read}
use Rattle.cd_placed.proofs.KeptPlaces.{Keeps, follows, IsPlain, plain, no_place, start, of_none, between_plain}
use Rattle.cd_placed.proofs.KeptPlaces.{closed, plain_one, plain_two, one_follows}

module _ (E : Expr → List ℕ) (F : FunctionTree → List ℕ) (walk : IsWalk E F) where
  abbrev H : Part → List ℕ
  H = held E F

  -- types, patterns and constants begin where the part does, or have no place
  one_plain : (m : One) (here : Span) (a : Part) → IsPlain here.from (H (made_of_one m here a))
      → Keeps here.from (H a ++ []) (H (made_of_one m here a))
  one_plain m here a = plain here.from (H a ++ []) (H (made_of_one m here a))

  pub one_keeps : (m : One) (here : Span) (a : Part) → Keeps here.from (H a ++ []) (H (made_of_one m here a))
  one_keeps one.That here a = follows _ _ _ (first (H a) [])
  one_keeps one.Union here a = one_plain one.Union here a (plain_one E F _ (trees_in a) _ (λ all. start _))
  one_keeps one.Arrows here a = one_plain one.Arrows here a (plain_one E F _ (trees_in a) _ (λ all. start _))
  one_keeps one.Meet here a = one_plain one.Meet here a (plain_one E F _ (signs_in a) _ (λ all. start _))
  one_keeps one.Number here a =
      one_plain one.Number here a (plain_two E F _ (token_in a) (token_in a) _ (λ low high. start _))
  one_keeps one.Character here a =
      one_plain one.Character here a
      (plain_two E F _ (token_in a) (token_in a) _
      (λ low high. between_plain E F here (characters_in low.kind) (characters_in high.kind)))
  one_keeps one.Text here a = one_plain one.Text here a (plain_one E F _ (token_in a) _ (λ is. start _))
  one_keeps one.Atom here a = one_plain one.Atom here a (plain_one E F _ (token_in a) _ (λ is. start _))
  one_keeps one.Named here a = one_plain one.Named here a (plain_one E F _ (token_in a) _ (λ is. start _))
  one_keeps one.Any here a = one_plain one.Any here a (start _)
  one_keeps one.Label here a = one_plain one.Label here a (plain_one E F _ (token_in a) _ (λ is. start _))
  one_keeps one.Others here a = one_plain one.Others here a (no_place _)
  one_keeps one.Attributes here a = one_plain one.Attributes here a (plain_one E F _ (fields_in a) _ (λ all. start _))
  one_keeps one.Item here a = one_plain one.Item here a (plain_one E F _ (tree_in a) _ (λ is. no_place _))
  one_keeps one.Run here a = one_plain one.Run here a (plain_one E F _ (token_in a) _ (λ is. no_place _))
  one_keeps one.Alternatives here a =
      one_plain one.Alternatives here a (plain_one E F _ (regulars_in a) _ (λ all. no_place _))
  one_keeps one.InTurn here a = one_plain one.InTurn here a (plain_one E F _ (regulars_in a) _ (λ all. no_place _))
  one_keeps (one.Mark mark) here a = one_plain (one.Mark mark) here a (no_place _)
  one_keeps one.NoFile here a = one_plain one.NoFile here a (no_place _)
  one_keeps one.Variable here a = one_plain one.Variable here a (plain_one E F _ (token_in a) _ (λ is. start _))
  one_keeps one.Constant here a =
      one_plain one.Constant here a
      (plain_one E F _ (token_in a) _ (λ is. plain_one E F _ (constant_of is.kind) _ (λ value. no_place _)))
  -- programs
  one_keeps one.NoProgram here a = one_plain one.NoProgram here a (no_place _)
  one_keeps one.FirstType here a = one_plain one.FirstType here a (plain_one E F _ (names_in a) _ (λ all. no_place _))
  one_keeps one.FirstFunction here a =
      follows _ _ _ (one_follows E F F _ (λ is. of_one F is) (function_in a) (H a) (function_read E F a))
  one_keeps one.Chain here a =
      follows _ _ _
      (one_follows E F (in_chain E F) _ (λ all. walk.chain here all.0 all.1) (chain_in a) (H a) (chain_read E F a))
  one_keeps one.Apply here a =
      follows _ _ _
      (one_follows E F (flat_map E) _ (λ all. walk.apply here all) (exprs_in a) (H a) (exprs_read E F a))
  one_keeps one.ConstantExpr here a =
      one_plain one.ConstantExpr here a
      (plain_one E F _ (token_in a) _
      (λ is. plain_one E F _ (constant_of is.kind) _ (λ value. of_none _ _ (walk.constant here value))))
  one_keeps one.VariableExpr here a =
      one_plain one.VariableExpr here a
      (plain_one E F _ (token_in a) _ (λ is. of_none _ _ (walk.variable here (name_in is.kind))))
  one_keeps one.LabelExpr here a =
      one_plain one.LabelExpr here a
      (plain_one E F _ (token_in a) _ (λ is. of_none _ _ (walk.constant here (constants.Atom (name_in is.kind)))))
  one_keeps one.AttributesExpr here a =
      follows _ _ _
      (one_follows E F (flat_map (of_field E)) _ (λ all. walk.fields here all) (expr_fields_in a) (H a)
      (fields_read E F a))
  one_keeps one.RunItem here a = one_plain one.RunItem here a (plain_one E F _ (token_in a) _ (λ is. no_place _))
  one_keeps one.OneItem here a =
      follows _ _ _ (one_follows E F E _ (λ is. closed (E is)) (expr_in a) (H a) (expr_read E F a))
