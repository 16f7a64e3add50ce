-- What is made of two parts of their sorts is of its own sort, and the facts hold of it.
use Rattle.std.proofs.Common.{Bool, true, false, [], ◌∷◌, ◌++◌}
use Rattle.cd_syntax.specs.declared.tokens.Span.{Span}
use Rattle.cd_syntax.specs.TypeTree.{Closed}
use Rattle.cd_grammar.specs.declared.make.Two.{Two}
use Rattle.cd_grammar.specs.declared.make.Two.TheVariants as two
use Rattle.cd_grammar.specs.Parts.{Part}
use Rattle.cd_grammar.specs.Makes.{made_of_two}
use Rattle.cd_grammar.proofs.Sorts.{Sort}
use Rattle.cd_grammar.proofs.SortsOfMakes.{of_two}
use Rattle.cd_grammar.proofs.SortedParts.{Facts, AreKept, joined, OfField, OfName, OfItem, OfExprField, OfBranch, Fits}
use Rattle.cd_grammar.proofs.SortedParts.{one_tree, some_fields, some_names, one_regular, some_regulars, one_file}
use Rattle.cd_grammar.proofs.SortedParts.{one_mark, one_constant, one_expr, some_exprs, some_items, some_expr_fields}
use Rattle.cd_grammar.proofs.SortedParts.{some_branches, some_steps, one_function, one_program, one_token, one_label}
use Rattle.cd_grammar.proofs.SortedOnes.{item_fits}
use Rattle.cd_grammar.proofs.SortedQueries.{path_fits}

module _ (facts : Facts) (kept : AreKept facts) where
  open facts use {of_tree as T, of_regular as R, of_label as L, of_expr as E, of_function as F}
  open kept use {trees_kept, exprs_kept, file}

  pub two_fit : (p : Bool) (own : Sort) (m : Two) (here : Span) (a b : Part) → Fits facts (of_two p own m).0 a
      → Fits facts (of_two p own m).1 b → Fits facts (of_two p own m).2 (made_of_two m here a b)
  two_fit p own two.First here a b is so = is
  two_fit p own two.Second here a b is so = so
  two_fit p own two.HalfInterval here _ _ (one_token low) (one_token high) = one_tree _ ((trees_kept p).ints here _ _)
  two_fit p own two.AndOthers here _ _ (some_fields all none are it) (some_fields rest others so is) =
      some_fields all others are is
  two_fit p own two.NextFields here _ _ (some_fields all none are it) (some_fields rest others so is) =
      some_fields _ Closed (joined (OfField (T p) L) all rest are so) tt
  two_fit p own two.NoFields here a b is so = one_tree _ ((trees_kept p).fields here [] Closed tt tt)
  two_fit p own two.EmptySequence here a _ is (one_token close) =
      one_tree _ ((trees_kept p).sequence here _ ((trees_kept p).nothing _))
  two_fit p own two.TwoRegulars here _ _ (one_regular first is) (one_regular second so) =
      some_regulars first second [] (is, (so, tt))
  two_fit p own two.NextRegular here _ _ (some_regulars first second rest are) (one_regular last so) =
      some_regulars first second (rest ++ last ∷ [])
      (joined (R p) (first ∷ second ∷ rest) (last ∷ []) are (so, tt))
  two_fit p own two.ItemRegular here _ _ (one_tree first is) (one_regular second so) =
      some_regulars _ second [] (item_fits facts kept p first is, (so, tt))
  two_fit p own two.Repeated here _ _ (one_regular is so) (one_mark sign) =
      one_regular _ ((trees_kept p).repeated here is sign so)
  two_fit p own two.RepeatedItem here _ _ (one_tree is so) (one_mark sign) =
      one_regular _ ((trees_kept p).repeated here _ sign (item_fits facts kept p is so))
  two_fit p own two.NextNames here _ _ (some_names all are) (some_names rest so) =
      some_names _ (joined (OfName (T p)) all rest are so)
  two_fit p own two.File here a _ is (some_names all are) = one_file _ (file all are)
  two_fit p own two.Nil here a b is so = one_constant _ tt
  two_fit p own two.NextType here _ _ (one_program types functions are so) (some_names all more) =
      one_program _ functions (joined (OfName (T false)) types all are more) so
  two_fit p own two.NextFunction here _ _ (one_program types functions are so) (one_function is it) =
      one_program types _ are (joined F functions (is ∷ []) so (it, tt))
  two_fit p own two.NextBranches here _ _ (some_branches first rest are) (some_branches next others so) =
      some_branches first (rest ++ next ∷ others)
      (joined (OfBranch (T true) E) (first ∷ rest) (next ∷ others) are so)
  two_fit p own (two.Call word) here a _ is (one_expr operand so) = one_expr _ (exprs_kept.call word here operand so)
  two_fit p own two.Applied here _ _ (one_expr first is) (one_expr second so) =
      some_exprs first second [] (is, (so, tt))
  two_fit p own two.NextApplied here _ _ (some_exprs first second rest are) (one_expr last so) =
      some_exprs first second (rest ++ last ∷ []) (joined E (first ∷ second ∷ rest) (last ∷ []) are (so, tt))
  two_fit p own two.NoItems here a b is so = one_expr _ (exprs_kept.sequence here [] tt)
  two_fit p own two.NextItems here _ _ (some_items all are) (some_items rest so) =
      some_items _ (joined (OfItem E) all rest are so)
  two_fit p own two.Splice here a _ is (one_expr it so) = some_items _ (so, tt)
  two_fit p own two.NoExprFields here a b is so = one_expr _ (exprs_kept.fields here [] tt)
  two_fit p own two.NextExprFields here _ _ (some_expr_fields all are) (some_expr_fields rest so) =
      some_expr_fields _ (joined (OfExprField E L) all rest are so)
  two_fit p own two.Path here _ _ (one_expr first is) (some_steps steps are) =
      one_expr _ (path_fits facts kept here here first [] steps is tt are)
  two_fit p own two.FieldStep here a _ sign (one_label word so) = some_steps _ (so, tt)
  two_fit p own two.ChildStep here _ _ (one_token sign) (one_label word so) = some_steps _ (so, tt)
  two_fit p own two.AttributeStep here _ _ (one_token sign) (one_label word so) = some_steps _ (so, tt)
