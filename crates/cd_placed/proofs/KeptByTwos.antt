-- What is made of two parts holds no place more often than they do.
use Rattle.std.proofs.Common.{ℕ, List, [], ◌∷◌, ◌++◌}
use Rattle.std.specs.Prelude.{flat_map}
use Rattle.cd_syntax.specs.declared.tokens.Span.{Span}
use Rattle.cd_program.specs.Expr.{Expr, FunctionTree}
use Rattle.cd_grammar.specs.declared.make.Two.{Two}
use Rattle.cd_grammar.specs.declared.make.Two.TheVariants as two
use Rattle.cd_grammar.specs.Parts.{Part, token_in, tree_in, fields_in, names_in, regular_in, regulars_in, mark_in}
use Rattle.cd_grammar.specs.Parts.{program_in, function_in, branches_in, expr_in, exprs_in, items_in, expr_fields_in}
use Rattle.cd_grammar.specs.Parts.{steps_in}
use Rattle.cd_grammar.specs.Makes.{made_of_two}
use Rattle.cd_placed.proofs.Once.{Follows, itself, first, later, of_two_lists, of_one_more}
use Rattle.cd_placed.proofs.HeldPlaces.{IsWalk, of_step, of_item, of_field, of_branch, held, in_program, token_read}
use Rattle.cd_placed.proofs.HeldPlaces.{expr_read, exprs_read, items_read, fields_read, branches_read, function_read}
use Rattle.cd_placed.proofs.HeldPlaces.{program_read, names_read, steps_read}
use Rattle.cd_placed.proofs.KeptPlaces.{Keeps, follows, IsPlain, plain, no_place, start, of_none, behind, closed}
use Rattle.cd_placed.proofs.KeptPlaces.{plain_one, plain_two, one_follows, two_follow}
use Rattle.cd_placed.proofs.QueryPlaces.{path_follows}

module _ (E : Expr → List ℕ) (F : FunctionTree → List ℕ) (walk : IsWalk E F) where
  abbrev H : Part → List ℕ
  H = held E F

  two_plain : (m : Two) (here : Span) (a b : Part) → IsPlain here.from (H (made_of_two m here a b))
      → Keeps here.from (H a ++ (H b ++ [])) (H (made_of_two m here a b))
  two_plain m here a b = plain here.from (H a ++ (H b ++ [])) (H (made_of_two m here a b))

  -- of the second alone
  second : (m : Two) (here : Span) (a b : Part) → Follows (H (made_of_two m here a b)) (H b ++ [])
      → Keeps here.from (H a ++ (H b ++ [])) (H (made_of_two m here a b))
  second m here a b is = follows _ _ _ (later (H a) (H (made_of_two m here a b)) (H b ++ []) is)

  pub two_keep : (m : Two) (here : Span) (a b : Part)
      → Keeps here.from (H a ++ (H b ++ [])) (H (made_of_two m here a b))
  two_keep two.First here a b = follows _ _ _ (first (H a) (H b ++ []))
  two_keep two.Second here a b = second two.Second here a b (first (H b) [])
  two_keep two.HalfInterval here a b =
      two_plain two.HalfInterval here a b (plain_two E F _ (token_in a) (token_in b) _ (λ low high. start _))
  two_keep two.AndOthers here a b =
      two_plain two.AndOthers here a b (plain_two E F _ (fields_in a) (fields_in b) _ (λ all rest. no_place _))
  two_keep two.NextFields here a b =
      two_plain two.NextFields here a b (plain_two E F _ (fields_in a) (fields_in b) _ (λ all rest. no_place _))
  two_keep two.NoFields here a b = two_plain two.NoFields here a b (start _)
  two_keep two.EmptySequence here a b =
      two_plain two.EmptySequence here a b (plain_one E F _ (token_in b) _ (λ end. start _))
  two_keep two.TwoRegulars here a b =
      two_plain two.TwoRegulars here a b (plain_two E F _ (regular_in a) (regular_in b) _ (λ one other. no_place _))
  two_keep two.NextRegular here a b =
      two_plain two.NextRegular here a b (plain_two E F _ (regulars_in a) (regular_in b) _ (λ all one. no_place _))
  two_keep two.ItemRegular here a b =
      two_plain two.ItemRegular here a b (plain_two E F _ (tree_in a) (regular_in b) _ (λ one other. no_place _))
  two_keep two.Repeated here a b =
      two_plain two.Repeated here a b (plain_two E F _ (regular_in a) (mark_in b) _ (λ one mark. no_place _))
  two_keep two.RepeatedItem here a b =
      two_plain two.RepeatedItem here a b (plain_two E F _ (tree_in a) (mark_in b) _ (λ one mark. no_place _))
  two_keep two.NextNames here a b =
      two_plain two.NextNames here a b (plain_two E F _ (names_in a) (names_in b) _ (λ all rest. no_place _))
  two_keep two.File here a b = two_plain two.File here a b (plain_one E F _ (names_in b) _ (λ all. no_place _))
  two_keep two.Nil here a b = two_plain two.Nil here a b (no_place _)
  -- programs
  two_keep two.NextType here a b =
      follows _ _ _
      (two_follow E F (in_program E F) (λ all. []) _ (λ both all. first (flat_map F both.1) []) (program_in a) (H a)
      (program_read E F a) (names_in b) (H b) (names_read E F b))
  two_keep two.NextFunction here a b =
      follows _ _ _
      (two_follow E F (in_program E F) F _ (λ both is. of_one_more F both.1 is) (program_in a) (H a)
      (program_read E F a) (function_in b) (H b) (function_read E F b))
  two_keep two.NextBranches here a b =
      follows _ _ _
      (two_follow E F (flat_map (of_branch E)) (flat_map (of_branch E)) _
      (λ all rest. of_two_lists (of_branch E) all rest) (branches_in a) (H a) (branches_read E F a) (branches_in b) (H b)
      (branches_read E F b))
  two_keep (two.Call word) here a b =
      second (two.Call word) here a b
      (one_follows E F E _ (λ is. walk.call word here is) (expr_in b) (H b) (expr_read E F b))
  two_keep two.Applied here a b =
      follows _ _ _
      (two_follow E F E E _ (λ one other. behind (E one) (E other ++ []) (E other) (closed (E other))) (expr_in a) (H a)
      (expr_read E F a) (expr_in b) (H b) (expr_read E F b))
  two_keep two.NextApplied here a b =
      follows _ _ _
      (two_follow E F (flat_map E) E _ (λ all is. of_one_more E all is) (exprs_in a) (H a) (exprs_read E F a)
      (expr_in b) (H b) (expr_read E F b))
  two_keep two.NoItems here a b = two_plain two.NoItems here a b (of_none _ _ (walk.sequence here []))
  two_keep two.NextItems here a b =
      follows _ _ _
      (two_follow E F (flat_map (of_item E)) (flat_map (of_item E)) _
      (λ all rest. of_two_lists (of_item E) all rest) (items_in a) (H a) (items_read E F a) (items_in b) (H b)
      (items_read E F b))
  two_keep two.Splice here a b =
      second two.Splice here a b
      (one_follows E F E _ (λ is. closed (E is)) (expr_in b) (H b) (expr_read E F b))
  two_keep two.NoExprFields here a b = two_plain two.NoExprFields here a b (of_none _ _ (walk.fields here []))
  two_keep two.NextExprFields here a b =
      follows _ _ _
      (two_follow E F (flat_map (of_field E)) (flat_map (of_field E)) _
      (λ all rest. of_two_lists (of_field E) all rest) (expr_fields_in a) (H a) (fields_read E F a) (expr_fields_in b)
      (H b) (fields_read E F b))
  -- paths and their steps
  two_keep two.Path here a b =
      follows _ _ _
      (two_follow E F E (flat_map of_step) _ (λ one all. path_follows E F walk here one all) (expr_in a) (H a)
      (expr_read E F a) (steps_in b) (H b) (steps_read E F b))
  two_keep two.FieldStep here a b =
      two_plain two.FieldStep here a b (plain_one E F _ (token_in b) _ (λ word. no_place _))
  two_keep two.ChildStep here a b =
      follows _ _ _
      (two_follow E F (λ sign. sign.span.from ∷ []) (λ word. word.span.from ∷ []) _ (λ sign word. itself _) (token_in a)
      (H a) (token_read E F a) (token_in b) (H b) (token_read E F b))
  two_keep two.AttributeStep here a b =
      follows _ _ _
      (two_follow E F (λ sign. sign.span.from ∷ []) (λ word. word.span.from ∷ []) _
      (λ sign word. first (sign.span.from ∷ []) (word.span.from ∷ [])) (token_in a) (H a) (token_read E F a)
      (token_in b) (H b) (token_read E F b))
