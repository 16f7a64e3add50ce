-- What is made of three parts of their sorts is of its own sort, and the facts hold of it.
use Rattle.std.proofs.Common.{Bool, false, [], ◌∷◌, ◌++◌, map, None}
use Rattle.cd_syntax.specs.declared.tokens.Span.{Span}
use Rattle.cd_syntax.specs.TypeTree.{Closed, Typed}
use Rattle.cd_grammar.specs.declared.make.Three.{Three}
use Rattle.cd_grammar.specs.declared.make.Three.TheVariants as three
use Rattle.cd_grammar.specs.Parts.{Part}
use Rattle.cd_grammar.specs.Actions.{item_of}
use Rattle.cd_grammar.specs.Makes.{made_of_three}
use Rattle.cd_grammar.proofs.Sorts.{Sort}
use Rattle.cd_grammar.proofs.SortsOfMakes.{of_three}
use Rattle.cd_grammar.proofs.SortedParts.{Facts, AreKept, joined, OfSign, OfField, OfName, OfExprField, OfTail}
use Rattle.cd_grammar.proofs.SortedParts.{OfSignature, Fits, one_tree, some_trees, some_signs, some_fields, some_names}
use Rattle.cd_grammar.proofs.SortedParts.{one_regular, some_regulars, one_expr, some_exprs, one_chain, some_items}
use Rattle.cd_grammar.proofs.SortedParts.{some_expr_fields, some_branches, some_signatures, one_token, one_character}
use Rattle.cd_grammar.proofs.SortedParts.{one_label, some_steps, some_sources}
use Rattle.cd_grammar.proofs.SortedOnes.{item_fits, items_fit}

module _ (facts : Facts) (kept : AreKept facts) where
  open facts use {of_tree as T, of_regular as R, of_label as L, of_expr as E}
  open kept use {trees_kept, patterns_kept, exprs_kept}

  pub three_fit : (p : Bool) (own : Sort) (m : Three) (here : Span) (a b c : Part) → Fits facts (of_three p own m).0 a
      → Fits facts (of_three p own m).1 b → Fits facts (of_three p own m).2 c
      → Fits facts (of_three p own m).3 (made_of_three m here a b c)
  three_fit p own three.Between here a b c left is right = is
  -- trees
  three_fit p own three.TwoTrees here _ b _ (one_tree first is) sign (one_tree second so) =
      some_trees first second [] (is, (so, tt))
  three_fit p own three.NextTree here _ b _ (some_trees first second rest are) sign (one_tree last so) =
      some_trees first second (rest ++ last ∷ []) (joined (T p) (first ∷ second ∷ rest) (last ∷ []) are (so, tt))
  three_fit p own three.BeforeTrees here _ b _ (one_tree first so) sign (some_trees next second rest are) =
      some_trees first next (second ∷ rest) (so, are)
  three_fit p own three.Tuple here a _ c left (some_trees first second rest are) right =
      one_tree _ ((trees_kept p).tuple here first second rest are)
  three_fit p own (three.FirstSign keep) here _ b _ (one_tree first is) sign (one_tree second so) =
      some_signs first _ is (so, tt)
  three_fit p own (three.NextSign keep) here _ b _ (some_signs first rest is are) sign (one_tree last so) =
      some_signs first _ is (joined (OfSign (T p)) rest _ are (so, tt))
  three_fit p own three.Interval here _ b _ (one_token low) sign (one_token high) =
      one_tree _ ((trees_kept p).ints here _ _)
  three_fit p own three.Characters here _ b _ (one_character low from) sign (one_character high end) =
      one_tree _ ((trees_kept p).chars here low high)
  three_fit p own three.Name here _ b _ (one_label word name) sign (one_tree is so) = some_names _ (so, tt)
  three_fit p own three.AndNames here _ b _ (some_names all are) word (some_names rest so) =
      some_names _ (joined (OfName (T p)) all rest are so)
  three_fit p own three.Where here _ b _ (one_tree is so) word (some_names all are) =
      one_tree _ ((trees_kept p).where_names here is all so are)
  three_fit p own (three.Field optional) here _ b _ (one_label word name) sign (one_tree is so) =
      some_fields _ Closed ((name, so), tt) tt
  three_fit p own three.SeparateFields here _ b _ (some_fields all none are it) sign (some_fields rest others so is) =
      some_fields _ Closed (joined (OfField (T p) L) all rest are so) tt
  three_fit p own three.SeparateOthers here _ b _ (some_fields all none are it) sign (some_fields rest others so is) =
      some_fields all others are is
  three_fit p own three.TypedOthers here a b _ line sign (one_tree is so) = some_fields [] (Typed is) tt so
  three_fit p own three.Record here a _ c left (some_fields all others are so) right =
      one_tree _ ((trees_kept p).fields here all others are so)
  three_fit p own three.Sequence here a _ c left (one_regular is so) right =
      one_tree _ ((trees_kept p).sequence here is so)
  -- expressions of sequences
  three_fit p own three.EitherRegular here _ b _ (one_regular first is) sign (one_regular second so) =
      some_regulars first second [] (is, (so, tt))
  three_fit p own three.OrRegular here _ b _ (some_regulars first second rest are) sign (one_regular last so) =
      some_regulars first second (rest ++ last ∷ []) (joined (R p) (first ∷ second ∷ rest) (last ∷ []) are (so, tt))
  three_fit p own three.OrItem here _ b _ (some_regulars first second rest are) sign (one_tree last so) =
      some_regulars first second (rest ++ item_of last ∷ [])
      (joined (R p) (first ∷ second ∷ rest) (item_of last ∷ []) are (item_fits facts kept p last so, tt))
  three_fit p own three.RegularOrItem here _ b _ (one_regular first is) sign (one_tree second so) =
      some_regulars first _ [] (is, (item_fits facts kept p second so, tt))
  three_fit p own three.ItemOrRegular here _ b _ (one_tree first is) sign (one_regular second so) =
      some_regulars _ second [] (item_fits facts kept p first is, (so, tt))
  three_fit p own three.ItemsOrRegular here _ b _ (some_trees first second rest are) sign (one_regular last so) =
      some_regulars (item_of first) (item_of second) (map item_of rest ++ last ∷ [])
      (joined (R p) (map item_of (first ∷ second ∷ rest)) (last ∷ [])
      (items_fit facts kept p (first ∷ second ∷ rest) are) (so, tt))
  three_fit p own three.Capture here _ b _ (one_label word name) sign (one_regular is so) =
      one_regular _ (patterns_kept.capture here _ is name so)
  -- functions and branches
  three_fit p own three.Signature here _ b _ (one_tree first is) sign (one_tree second so) =
      some_signatures _ [] ((is, so), tt)
  three_fit p own three.SeparateSignatures here _ b _ (some_signatures first rest are) sign
      (some_signatures next others so) =
      some_signatures first (rest ++ next ∷ others)
      (joined (OfSignature (T false)) (first ∷ rest) (next ∷ others) are so)
  three_fit p own three.Branch here _ b _ (one_tree pattern is) sign (one_expr body so) =
      some_branches _ [] ((is, so), tt)
  three_fit p own three.UnnamedFunction here _ _ _ (one_label word name) (some_signatures arrow arrows are)
      (some_branches first rest so) =
      one_expr _ (exprs_kept.unnamed here _ arrow arrows first rest are so)
  -- operators of one level
  three_fit p own (three.FirstOperand op) here _ b _ (one_expr first is) sign (one_expr second so) =
      one_chain first _ [] is (so, tt)
  three_fit p own (three.NextOperand op) here _ b _ (one_chain first next rest is are) sign (one_expr last so) =
      one_chain first next _ is (joined (OfTail E L) (next ∷ rest) _ are (so, tt))
  three_fit p own three.FirstWithout here _ b _ (one_expr first is) sign (one_label word so) =
      one_chain first _ [] is (so, tt)
  three_fit p own three.NextWithout here _ b _ (one_chain first next rest is are) sign (one_label word so) =
      one_chain first next _ is (joined (OfTail E L) (next ∷ rest) _ are (so, tt))
  -- steps and sources
  three_fit p own three.BeforeFieldStep here a _ _ sign (one_label word so) (some_steps steps are) =
      some_steps _ (so, are)
  three_fit p own three.BeforeChildStep here _ _ _ (one_token sign) (one_label word so) (some_steps steps are) =
      some_steps _ (so, are)
  three_fit p own three.BeforeAttributeStep here _ _ _ (one_token sign) (one_label word so) (some_steps steps are) =
      some_steps _ (so, are)
  three_fit p own three.Source here _ b _ (one_tree pattern is) word (one_expr value so) =
      some_sources _ None ((is, so), tt) tt
  -- expressions
  three_fit p own three.TwoExprs here _ b _ (one_expr first is) sign (one_expr second so) =
      some_exprs first second [] (is, (so, tt))
  three_fit p own three.NextExpr here _ b _ (some_exprs first second rest are) sign (one_expr last so) =
      some_exprs first second (rest ++ last ∷ []) (joined E (first ∷ second ∷ rest) (last ∷ []) are (so, tt))
  three_fit p own three.TupleExpr here a _ c left (some_exprs first second rest are) right =
      one_expr _ (exprs_kept.tuple here first second rest are)
  three_fit p own three.SequenceExpr here a _ c left (some_items all are) right =
      one_expr _ (exprs_kept.sequence here all are)
  three_fit p own three.RecordExpr here a _ c left (some_expr_fields all are) right =
      one_expr _ (exprs_kept.fields here all are)
  three_fit p own three.ExprField here _ b _ (one_label word name) sign (one_expr is so) =
      some_expr_fields _ ((name, so), tt)
  three_fit p own three.SeparateExprFields here _ b _ (some_expr_fields all are) sign (some_expr_fields rest so) =
      some_expr_fields _ (joined (OfExprField E L) all rest are so)
