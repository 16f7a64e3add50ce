-- What is made of three parts holds no place more often than they do.
use Rattle.std.proofs.Common.{ℕ, List, [], ◌∷◌, ◌++◌}
use Rattle.std.specs.Prelude.{flat_map}
use Rattle.cd_syntax.specs.declared.tokens.Span.{Span}
use Rattle.cd_program.specs.Expr.{Expr, FunctionTree}
use Rattle.cd_placed.specs.Patterns.{start_of}
use Rattle.cd_grammar.specs.declared.make.Three.{Three}
use Rattle.cd_grammar.specs.declared.make.Three.TheVariants as three
use Rattle.cd_grammar.specs.Parts.{Part, token_in, tree_in, trees_in, signs_in, fields_in, names_in, regular_in}
use Rattle.cd_grammar.specs.Parts.{regulars_in, signatures_in, branches_in, expr_in, exprs_in, chain_in, items_in}
use Rattle.cd_grammar.specs.Parts.{expr_fields_in, steps_in}
use Rattle.cd_grammar.specs.Actions.{characters_in}
use Rattle.cd_grammar.specs.Makes.{made_of_three}
use Rattle.cd_placed.proofs.Once.{Follows, itself, through, none, first, next, later, of_two_lists, of_one_more}
use Rattle.cd_placed.proofs.HeldPlaces.{IsWalk, of_step, of_item, of_field, of_branch, held, in_chain, token_read}
use Rattle.cd_placed.proofs.HeldPlaces.{tree_read, expr_read, exprs_read, chain_read, items_read, fields_read}
use Rattle.cd_placed.proofs.HeldPlaces.{branches_read, signatures_read, steps_read}
use Rattle.cd_placed.proofs.KeptPlaces.{Keeps, follows, IsPlain, plain, no_place, start, between_plain, behind, closed}
use Rattle.cd_placed.proofs.KeptPlaces.{more_in_chain, plain_one, plain_two, one_follows, two_follow, three_follow}

module _ (E : Expr → List ℕ) (F : FunctionTree → List ℕ) (walk : IsWalk E F) where
  abbrev H : Part → List ℕ
  H = held E F

  -- made of these
  abbrev Of : Three → Span → (a b c : Part) → Type 0
  Of m here a b c = Keeps here.from (H a ++ (H b ++ (H c ++ []))) (H (made_of_three m here a b c))

  plainly : (m : Three) (here : Span) (a b c : Part) → IsPlain here.from (H (made_of_three m here a b c))
      → Of m here a b c
  plainly m here a b c = plain here.from (H a ++ (H b ++ (H c ++ []))) (H (made_of_three m here a b c))

  -- of the second alone, or of the first and the third
  inside : (m : Three) (here : Span) (a b c : Part) → Follows (H (made_of_three m here a b c)) (H b ++ [])
      → Of m here a b c
  inside m here a b c is =
      follows _ _ _
      (later (H a) (H (made_of_three m here a b c)) (H b ++ (H c ++ []))
      (through _ _ _ is (behind (H b) [] (H c ++ []) (none (H c ++ [])))))

  outside : (m : Three) (here : Span) (a b c : Part) → Follows (H (made_of_three m here a b c)) (H a ++ (H c ++ []))
      → Of m here a b c
  outside m here a b c is =
      follows _ _ _
      (through _ _ _ is
      (behind (H a) (H c ++ []) (H b ++ (H c ++ [])) (later (H b) (H c ++ []) (H c ++ []) (itself (H c ++ [])))))

  pub three_keep : (m : Three) (here : Span) (a b c : Part) → Of m here a b c
  three_keep three.Between here a b c = inside three.Between here a b c (first (H b) [])
  -- trees
  three_keep three.TwoTrees here a b c =
      plainly three.TwoTrees here a b c (plain_two E F _ (tree_in a) (tree_in c) _ (λ one other. no_place _))
  three_keep three.NextTree here a b c =
      plainly three.NextTree here a b c (plain_two E F _ (trees_in a) (tree_in c) _ (λ all one. no_place _))
  three_keep three.BeforeTrees here a b c =
      plainly three.BeforeTrees here a b c (plain_two E F _ (tree_in a) (trees_in c) _ (λ one all. no_place _))
  three_keep three.Tuple here a b c =
      plainly three.Tuple here a b c (plain_one E F _ (trees_in b) _ (λ all. start _))
  three_keep (three.FirstSign kept) here a b c =
      plainly (three.FirstSign kept) here a b c (plain_two E F _ (tree_in a) (tree_in c) _ (λ one other. no_place _))
  three_keep (three.NextSign kept) here a b c =
      plainly (three.NextSign kept) here a b c (plain_two E F _ (signs_in a) (tree_in c) _ (λ all one. no_place _))
  three_keep three.Interval here a b c =
      plainly three.Interval here a b c (plain_two E F _ (token_in a) (token_in c) _ (λ low high. start _))
  three_keep three.Characters here a b c =
      plainly three.Characters here a b c
      (plain_two E F _ (token_in a) (token_in c) _
      (λ low high. between_plain E F here (characters_in low.kind) (characters_in high.kind)))
  three_keep three.Name here a b c =
      plainly three.Name here a b c (plain_two E F _ (token_in a) (tree_in c) _ (λ word is. no_place _))
  three_keep three.AndNames here a b c =
      plainly three.AndNames here a b c (plain_two E F _ (names_in a) (names_in c) _ (λ all rest. no_place _))
  three_keep three.Where here a b c =
      plainly three.Where here a b c (plain_two E F _ (tree_in a) (names_in c) _ (λ is all. start _))
  three_keep (three.Field optional) here a b c =
      plainly (three.Field optional) here a b c (plain_two E F _ (token_in a) (tree_in c) _ (λ word is. no_place _))
  three_keep three.SeparateFields here a b c =
      plainly three.SeparateFields here a b c (plain_two E F _ (fields_in a) (fields_in c) _ (λ all rest. no_place _))
  three_keep three.SeparateOthers here a b c =
      plainly three.SeparateOthers here a b c (plain_two E F _ (fields_in a) (fields_in c) _ (λ all rest. no_place _))
  three_keep three.TypedOthers here a b c =
      plainly three.TypedOthers here a b c (plain_one E F _ (tree_in c) _ (λ one. no_place _))
  three_keep three.Record here a b c =
      plainly three.Record here a b c (plain_one E F _ (fields_in b) _ (λ all. start _))
  three_keep three.Sequence here a b c =
      plainly three.Sequence here a b c (plain_one E F _ (regular_in b) _ (λ is. start _))
  -- expressions of sequences
  three_keep three.EitherRegular here a b c =
      plainly three.EitherRegular here a b c
      (plain_two E F _ (regular_in a) (regular_in c) _ (λ one other. no_place _))
  three_keep three.OrRegular here a b c =
      plainly three.OrRegular here a b c (plain_two E F _ (regulars_in a) (regular_in c) _ (λ all one. no_place _))
  three_keep three.OrItem here a b c =
      plainly three.OrItem here a b c (plain_two E F _ (regulars_in a) (tree_in c) _ (λ all one. no_place _))
  three_keep three.RegularOrItem here a b c =
      plainly three.RegularOrItem here a b c (plain_two E F _ (regular_in a) (tree_in c) _ (λ one other. no_place _))
  three_keep three.ItemOrRegular here a b c =
      plainly three.ItemOrRegular here a b c (plain_two E F _ (tree_in a) (regular_in c) _ (λ one other. no_place _))
  three_keep three.ItemsOrRegular here a b c =
      plainly three.ItemsOrRegular here a b c (plain_two E F _ (trees_in a) (regular_in c) _ (λ all one. no_place _))
  three_keep three.Capture here a b c =
      plainly three.Capture here a b c (plain_two E F _ (token_in a) (regular_in c) _ (λ word is. no_place _))
  -- functions and branches
  three_keep three.Signature here a b c =
      plainly three.Signature here a b c (plain_two E F _ (tree_in a) (tree_in c) _ (λ takes gives. no_place _))
  three_keep three.SeparateSignatures here a b c =
      plainly three.SeparateSignatures here a b c
      (plain_two E F _ (signatures_in a) (signatures_in c) _ (λ all rest. no_place _))
  three_keep three.Branch here a b c =
      outside three.Branch here a b c
      (two_follow E F (λ takes. start_of takes ∷ []) E _
      (λ takes gives. behind (start_of takes ∷ []) (E gives ++ []) (E gives) (closed (E gives))) (tree_in a) (H a)
      (tree_read E F a) (expr_in c) (H c) (expr_read E F c))
  three_keep three.UnnamedFunction here a b c =
      follows _ _ _
      (three_follow E F (λ word. word.span.from ∷ []) (λ all. []) (flat_map (of_branch E)) _
      (λ word arrows all. through _ _ _ (walk.of_function here _) (walk.branches word.span.from _ word.span.from arrows all))
      (token_in a) (H a) (token_read E F a) (signatures_in b) (H b) (signatures_read E F b) (branches_in c) (H c)
      (branches_read E F c))
  -- operators of one level
  three_keep (three.FirstOperand op) here a b c =
      outside (three.FirstOperand op) here a b c
      (two_follow E F E E _ (λ one other. behind (E one) (E other ++ []) (E other) (closed (E other))) (expr_in a) (H a)
      (expr_read E F a) (expr_in c) (H c) (expr_read E F c))
  three_keep (three.NextOperand op) here a b c =
      outside (three.NextOperand op) here a b c
      (two_follow E F (in_chain E F) E _ (λ all is. more_in_chain E F all.0 all.1 _) (chain_in a) (H a)
      (chain_read E F a) (expr_in c) (H c) (expr_read E F c))
  three_keep three.FirstWithout here a b c =
      outside three.FirstWithout here a b c
      (two_follow E F E (λ word. word.span.from ∷ []) _
      (λ one word. behind (E one) [] (word.span.from ∷ []) (none _)) (expr_in a) (H a) (expr_read E F a) (token_in c)
      (H c) (token_read E F c))
  three_keep three.NextWithout here a b c =
      outside three.NextWithout here a b c
      (two_follow E F (in_chain E F) (λ word. word.span.from ∷ []) _
      (λ all word. through _ _ _ (more_in_chain E F all.0 all.1 _)
      (behind (in_chain E F all) [] (word.span.from ∷ []) (none _))) (chain_in a) (H a) (chain_read E F a) (token_in c)
      (H c) (token_read E F c))
  -- steps before others, and a source
  three_keep three.BeforeFieldStep here a b c =
      follows _ _ _
      (later (H a) (H (made_of_three three.BeforeFieldStep here a b c)) (H b ++ (H c ++ []))
      (two_follow E F (λ word. word.span.from ∷ []) (flat_map of_step) _
      (λ word all. later (word.span.from ∷ []) (flat_map of_step all) (flat_map of_step all)
      (itself (flat_map of_step all))) (token_in b) (H b) (token_read E F b) (steps_in c) (H c) (steps_read E F c)))
  three_keep three.BeforeChildStep here a b c =
      follows _ _ _
      (three_follow E F (λ sign. sign.span.from ∷ []) (λ word. word.span.from ∷ []) (flat_map of_step) _
      (λ sign word all. itself _) (token_in a) (H a) (token_read E F a) (token_in b) (H b) (token_read E F b)
      (steps_in c) (H c) (steps_read E F c))
  three_keep three.BeforeAttributeStep here a b c =
      follows _ _ _
      (three_follow E F (λ sign. sign.span.from ∷ []) (λ word. word.span.from ∷ []) (flat_map of_step) _
      (λ sign word all. next sign.span.from (flat_map of_step all) (word.span.from ∷ flat_map of_step all)
      (later (word.span.from ∷ []) (flat_map of_step all) (flat_map of_step all) (itself (flat_map of_step all))))
      (token_in a) (H a) (token_read E F a) (token_in b) (H b) (token_read E F b) (steps_in c) (H c) (steps_read E F c))
  three_keep three.Source here a b c =
      outside three.Source here a b c
      (two_follow E F (λ takes. start_of takes ∷ []) E _
      (λ takes one. through _ _ _ (closed (start_of takes ∷ E one ++ [])) (closed (start_of takes ∷ E one))) (tree_in a)
      (H a) (tree_read E F a) (expr_in c) (H c) (expr_read E F c))
  -- expressions
  three_keep three.TwoExprs here a b c =
      outside three.TwoExprs here a b c
      (two_follow E F E E _ (λ one other. behind (E one) (E other ++ []) (E other) (closed (E other))) (expr_in a) (H a)
      (expr_read E F a) (expr_in c) (H c) (expr_read E F c))
  three_keep three.NextExpr here a b c =
      outside three.NextExpr here a b c
      (two_follow E F (flat_map E) E _ (λ all is. of_one_more E all is) (exprs_in a) (H a) (exprs_read E F a)
      (expr_in c) (H c) (expr_read E F c))
  three_keep three.TupleExpr here a b c =
      inside three.TupleExpr here a b c
      (one_follows E F (flat_map E) _ (λ all. walk.tuple here all) (exprs_in b) (H b) (exprs_read E F b))
  three_keep three.SequenceExpr here a b c =
      inside three.SequenceExpr here a b c
      (one_follows E F (flat_map (of_item E)) _ (λ all. walk.sequence here all) (items_in b) (H b) (items_read E F b))
  three_keep three.RecordExpr here a b c =
      inside three.RecordExpr here a b c
      (one_follows E F (flat_map (of_field E)) _ (λ all. walk.fields here all) (expr_fields_in b) (H b)
      (fields_read E F b))
  three_keep three.ExprField here a b c =
      outside three.ExprField here a b c
      (two_follow E F (λ word. word.span.from ∷ []) E _
      (λ word is. later (word.span.from ∷ []) (E is ++ []) (E is) (closed (E is))) (token_in a) (H a) (token_read E F a)
      (expr_in c) (H c) (expr_read E F c))
  three_keep three.SeparateExprFields here a b c =
      outside three.SeparateExprFields here a b c
      (two_follow E F (flat_map (of_field E)) (flat_map (of_field E)) _
      (λ all rest. of_two_lists (of_field E) all rest) (expr_fields_in a) (H a) (fields_read E F a) (expr_fields_in c)
      (H c) (fields_read E F c))
