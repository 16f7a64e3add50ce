-- What a make makes of parts holds no place more often than they do; or it begins where they do.
use Rattle.std.proofs.Common.{ℕ, List, [], ◌∷◌, ◌++◌, append_assoc, Some}
use Rattle.std.specs.Prelude.{flat_map}
use Rattle.cd_syntax.specs.declared.tokens.Span.{Span}
use Rattle.cd_syntax.specs.declared.tokens.Token.{Token}
use Rattle.cd_program.specs.Expr as exprs
use Rattle.cd_program.specs.Expr.{Expr, Branch, Signature, FunctionTree}
use Rattle.cd_placed.specs.Patterns.{start_of}
use Rattle.cd_grammar.specs.declared.make.Make.{Make}
use Rattle.cd_grammar.specs.declared.make.Make.TheVariants as make
use Rattle.cd_grammar.specs.declared.make.Four.{Four}
use Rattle.cd_grammar.specs.declared.make.Four.TheVariants as four
use Rattle.cd_grammar.specs.declared.make.Five.{Five}
use Rattle.cd_grammar.specs.declared.make.Five.TheVariants as five
use Rattle.cd_grammar.specs.declared.make.Six.{Six}
use Rattle.cd_grammar.specs.declared.make.Six.TheVariants as six
use Rattle.cd_grammar.specs.Parts.{Part, token_in, tree_in, constant_in, signatures_in, branches_in, expr_in}
use Rattle.cd_grammar.specs.Parts.{sources_in}
use Rattle.cd_grammar.specs.Actions.{name_in}
use Rattle.cd_grammar.specs.ProgramActions.{named, no_attributes_expr}
use Rattle.cd_grammar.specs.Makes.{made, made_of_four, made_of_five, made_of_six}
use Rattle.cd_placed.proofs.Once.{Follows, itself, through, same_places, none, both, later}
use Rattle.cd_placed.proofs.HeldPlaces.{IsWalk, of_branch, of_source, of_condition, in_sources, held, all_held}
use Rattle.cd_placed.proofs.HeldPlaces.{token_read, tree_read, expr_read, branches_read, sources_read}
use Rattle.cd_placed.proofs.KeptPlaces.{Keeps, follows, plain, no_place, start, behind, closed, plain_two}
use Rattle.cd_placed.proofs.KeptPlaces.{plain_three, two_follow, three_follow, four_follow}
use Rattle.cd_placed.proofs.QueryPlaces.{select_follows}
use Rattle.cd_placed.proofs.KeptByOnes.{one_keeps}
use Rattle.cd_placed.proofs.KeptByTwos.{two_keep}
use Rattle.cd_placed.proofs.KeptByThrees.{three_keep}

-- lists that stand among others
second_of : (us vs ws : List ℕ) → Follows (us ++ ws) (us ++ (vs ++ ws))
second_of us vs ws = behind us ws (vs ++ ws) (later vs ws ws (itself ws))

-- the second and the last of four
of_four_lists : (us vs ws xs : List ℕ) → Follows (vs ++ (xs ++ [])) (us ++ (vs ++ (ws ++ (xs ++ []))))
of_four_lists us vs ws xs =
    later us (vs ++ (xs ++ [])) (vs ++ (ws ++ (xs ++ []))) (second_of vs ws (xs ++ []))

module _ (E : Expr → List ℕ) (F : FunctionTree → List ℕ) (walk : IsWalk E F) where
  abbrev H : Part → List ℕ
  H = held E F

  -- an element has no places in attributes that are not written
  no_attributes_follow : (here close : Span) (tag content : Expr)
      → Follows (E (exprs.expr here (exprs.Xml tag (no_attributes_expr close.from) content)))
      (E tag ++ ((close.from ∷ []) ++ E content))
  no_attributes_follow here close tag content =
      through _ _ _ (walk.xml here tag (no_attributes_expr close.from) content)
      (behind (E tag) (E (no_attributes_expr close.from) ++ E content) ((close.from ∷ []) ++ E content)
      (both (E (no_attributes_expr close.from)) (E content) (close.from ∷ []) (E content)
      (through _ _ _ (walk.fields _ []) (none (close.from ∷ []))) (itself (E content))))

  -- a function's name has no place
  named_follows : (word name : Token) (arrows : List Signature) (all : List Branch)
      → Follows (F (named word name arrows all)) ((word.span.from ∷ []) ++ flat_map (of_branch E) all)
  named_follows word name arrows all =
      walk.branches word.span.from (Some (name_in name.kind)) name.span.from arrows all

  pub four_keep : (m : Four) (here : Span) (a b c d : Part)
      → Keeps here.from (H a ++ (H b ++ (H c ++ (H d ++ [])))) (H (made_of_four m here a b c d))
  four_keep four.Declaration here a b c d =
      plain _ _ _ (plain_two E F _ (token_in b) (tree_in d) _ (λ word is. no_place _))
  four_keep four.Xml here a b c d =
      plain _ _ _ (plain_three E F _ (tree_in b) (token_in c) (tree_in d) _ (λ tag close content. start _))
  four_keep (four.Matching form) here a b c d =
      follows _ _ _
      (through _ _ _
      (two_follow E F E (flat_map (of_branch E)) _ (λ value all. walk.matching form here value all) (expr_in b) (H b)
      (expr_read E F b) (branches_in d) (H d) (branches_read E F d))
      (of_four_lists (H a) (H b) (H c) (H d)))
  four_keep four.NamedFunction here a b c d =
      follows _ _ _
      (four_follow E F (λ word. word.span.from ∷ []) (flat_map (of_branch E)) _
      (λ word name arrows all. through _ _ _ (walk.of_function here (named word name arrows all))
      (named_follows word name arrows all)) (token_in a) (H a) (token_read E F a) (token_in b) (H b) (signatures_in c)
      (H c) (branches_in d) (H d) (branches_read E F d))
  four_keep four.XmlExpr here a b c d =
      follows _ _ _
      (later (H a) (H (made_of_four four.XmlExpr here a b c d)) (H b ++ (H c ++ (H d ++ [])))
      (three_follow E F E (λ close. close.span.from ∷ []) E _
      (λ tag close content. no_attributes_follow here close.span tag content) (expr_in b) (H b) (expr_read E F b)
      (token_in c) (H c) (token_read E F c) (expr_in d) (H d) (expr_read E F d)))

  -- the first, the third and the last of five
  of_five_lists : (us vs ws xs ys : List ℕ)
      → Follows (us ++ (ws ++ (ys ++ []))) (us ++ (vs ++ (ws ++ (xs ++ (ys ++ [])))))
  of_five_lists us vs ws xs ys =
      behind us (ws ++ (ys ++ [])) (vs ++ (ws ++ (xs ++ (ys ++ []))))
      (later vs (ws ++ (ys ++ [])) (ws ++ (xs ++ (ys ++ []))) (second_of ws xs (ys ++ [])))

  pub five_keep : (m : Five) (here : Span) (a b c d e : Part)
      → Keeps here.from (H a ++ (H b ++ (H c ++ (H d ++ (H e ++ []))))) (H (made_of_five m here a b c d e))
  five_keep five.XmlWith here a b c d e =
      plain _ _ _ (plain_three E F _ (tree_in b) (tree_in c) (tree_in e) _ (λ tag all content. start _))
  five_keep five.Default here a b c d e =
      plain _ _ _ (plain_two E F _ (token_in b) (constant_in d) _ (λ word value. start _))
  five_keep five.DeclaredFunction here a b c d e =
      follows _ _ _
      (later (H a) (H (made_of_five five.DeclaredFunction here a b c d e)) (H b ++ (H c ++ (H d ++ (H e ++ []))))
      (four_follow E F (λ word. word.span.from ∷ []) (flat_map (of_branch E)) _
      (λ word name arrows all. named_follows word name arrows all) (token_in b) (H b) (token_read E F b) (token_in c)
      (H c) (signatures_in d) (H d) (branches_in e) (H e) (branches_read E F e)))
  five_keep five.XmlExprWith here a b c d e =
      follows _ _ _
      (through _ _ _
      (three_follow E F E E E _ (λ tag all content. walk.xml here tag all content) (expr_in b) (H b) (expr_read E F b)
      (expr_in c) (H c) (expr_read E F c) (expr_in e) (H e) (expr_read E F e))
      (later (H a) (H b ++ (H c ++ (H e ++ []))) (H b ++ (H c ++ (H d ++ (H e ++ []))))
      (behind (H b) (H c ++ (H e ++ [])) (H c ++ (H d ++ (H e ++ []))) (second_of (H c) (H d) (H e ++ [])))))
  five_keep five.SourceWhere here a b c d e =
      follows _ _ _
      (through _ _ _
      (three_follow E F (λ takes. start_of takes ∷ []) E E _
      (λ takes one test. both (start_of takes ∷ E one ++ []) (E test) (start_of takes ∷ E one) (E test)
      (closed (start_of takes ∷ E one)) (itself (E test))) (tree_in a) (H a) (tree_read E F a) (expr_in c) (H c)
      (expr_read E F c) (expr_in e) (H e) (expr_read E F e)) (of_five_lists (H a) (H b) (H c) (H d) (H e)))
  five_keep five.BeforeSources here a b c d e =
      follows _ _ _
      (through _ _ _
      (three_follow E F (λ takes. start_of takes ∷ []) E (in_sources E) _
      (λ takes one all. same_places _ _
      (append_assoc (start_of takes ∷ E one) (flat_map (of_source E) all.0) (of_condition E all.1))) (tree_in a) (H a)
      (tree_read E F a) (expr_in c) (H c) (expr_read E F c) (sources_in e) (H e) (sources_read E F e))
      (of_five_lists (H a) (H b) (H c) (H d) (H e)))

  -- the second, the fourth and the last of six
  of_six_lists : (us vs ws xs ys zs : List ℕ)
      → Follows (vs ++ (xs ++ (zs ++ []))) (us ++ (vs ++ (ws ++ (xs ++ (ys ++ (zs ++ []))))))
  of_six_lists us vs ws xs ys zs =
      later us (vs ++ (xs ++ (zs ++ []))) (vs ++ (ws ++ (xs ++ (ys ++ (zs ++ [])))))
      (behind vs (xs ++ (zs ++ [])) (ws ++ (xs ++ (ys ++ (zs ++ []))))
      (later ws (xs ++ (zs ++ [])) (xs ++ (ys ++ (zs ++ []))) (second_of xs ys (zs ++ []))))

  -- the third and the fifth of six
  third_and_fifth : (us vs ws xs ys zs : List ℕ)
      → Follows (ws ++ (ys ++ [])) (us ++ (vs ++ (ws ++ (xs ++ (ys ++ (zs ++ []))))))
  third_and_fifth us vs ws xs ys zs =
      later us (ws ++ (ys ++ [])) (vs ++ (ws ++ (xs ++ (ys ++ (zs ++ [])))))
      (later vs (ws ++ (ys ++ [])) (ws ++ (xs ++ (ys ++ (zs ++ []))))
      (behind ws (ys ++ []) (xs ++ (ys ++ (zs ++ [])))
      (later xs (ys ++ []) (ys ++ (zs ++ [])) (behind ys [] (zs ++ []) (none (zs ++ []))))))

  pub six_keep : (m : Six) (here : Span) (a b c d e f : Part)
      → Keeps here.from (H a ++ (H b ++ (H c ++ (H d ++ (H e ++ (H f ++ [])))))) (H (made_of_six m here a b c d e f))
  six_keep six.Let here a b c d e f =
      follows _ _ _
      (through _ _ _
      (three_follow E F (λ is. start_of is ∷ []) E E _ (λ pattern value rest. walk.let_in here pattern value rest)
      (tree_in b) (H b) (tree_read E F b) (expr_in d) (H d) (expr_read E F d) (expr_in f) (H f) (expr_read E F f))
      (of_six_lists (H a) (H b) (H c) (H d) (H e) (H f)))
  six_keep six.If here a b c d e f =
      follows _ _ _
      (through _ _ _
      (three_follow E F E E E _ (λ test one other. walk.if_else here test one other) (expr_in b) (H b)
      (expr_read E F b) (expr_in d) (H d) (expr_read E F d) (expr_in f) (H f) (expr_read E F f))
      (of_six_lists (H a) (H b) (H c) (H d) (H e) (H f)))
  six_keep six.Selecting here a b c d e f =
      follows _ _ _
      (through _ _ _
      (two_follow E F E (in_sources E) _ (λ head all. select_follows E F walk here all.0 all.1 head) (expr_in c) (H c)
      (expr_read E F c) (sources_in e) (H e) (sources_read E F e))
      (third_and_fifth (H a) (H b) (H c) (H d) (H e) (H f)))

  -- of as many parts as it wants, or nothing of use
  pub made_keeps : (m : Make) (here : Span) (parts : List Part)
      → Keeps here.from (all_held E F parts) (H (made m here parts))
  made_keeps (make.One m) here (a ∷ []) = one_keeps E F walk m here a
  made_keeps (make.Two m) here (a ∷ b ∷ []) = two_keep E F walk m here a b
  made_keeps (make.Three m) here (a ∷ b ∷ c ∷ []) = three_keep E F walk m here a b c
  made_keeps (make.Four m) here (a ∷ b ∷ c ∷ d ∷ []) = four_keep m here a b c d
  made_keeps (make.Five m) here (a ∷ b ∷ c ∷ d ∷ e ∷ []) = five_keep m here a b c d e
  made_keeps (make.Six m) here (a ∷ b ∷ c ∷ d ∷ e ∷ f ∷ []) = six_keep m here a b c d e f
  made_keeps _ here _ = plain _ _ _ (no_place _)
