-- What a make makes of parts of its sorts is of the sort that it gives, and the facts hold of it.
use Rattle.std.proofs.Common.{Bool, List, [], Some}
use Rattle.cd_syntax.specs.declared.tokens.Span.{Span}
use Rattle.cd_grammar.specs.declared.make.Make.{Make}
use Rattle.cd_grammar.specs.declared.make.Make.TheVariants as make
use Rattle.cd_grammar.specs.declared.make.Four.{Four}
use Rattle.cd_grammar.specs.declared.make.Four.TheVariants as four
use Rattle.cd_grammar.specs.declared.make.Five.{Five}
use Rattle.cd_grammar.specs.declared.make.Five.TheVariants as five
use Rattle.cd_grammar.specs.declared.make.Six.{Six}
use Rattle.cd_grammar.specs.declared.make.Six.TheVariants as six
use Rattle.cd_grammar.specs.Parts.{Part}
use Rattle.cd_grammar.specs.Makes.{made, made_of_four, made_of_five, made_of_six}
use Rattle.cd_grammar.proofs.Sorts.{Sort}
use Rattle.cd_grammar.proofs.SortsOfMakes.{of_four, of_five, of_six, sorts_of}
use Rattle.cd_grammar.proofs.SortedParts.{Facts, AreKept, Fits, one_tree, some_names, one_constant, one_expr}
use Rattle.cd_grammar.proofs.SortedParts.{some_branches, some_signatures, some_sources, one_function, one_token}
use Rattle.cd_grammar.proofs.SortedParts.{one_label}
use Rattle.cd_grammar.proofs.SortedParts.{AreFit, none, and}
use Rattle.cd_grammar.proofs.SortedOnes.{one_fits}
use Rattle.cd_grammar.proofs.SortedQueries.{select_fits}
use Rattle.cd_grammar.proofs.SortedTwos.{two_fit}
use Rattle.cd_grammar.proofs.SortedThrees.{three_fit}

module _ (facts : Facts) (kept : AreKept facts) where
  open kept use {trees_kept, patterns_kept, exprs_kept}

  four_fit : (p : Bool) (own : Sort) (m : Four) (here : Span) (a b c d : Part) → Fits facts (of_four p own m).0 a
      → Fits facts (of_four p own m).1 b → Fits facts (of_four p own m).2 c → Fits facts (of_four p own m).3 d
      → Fits facts (of_four p own m).4 (made_of_four m here a b c d)
  four_fit p own four.Declaration here a _ c _ word (one_label name so) sign (one_tree is it) = some_names _ (it, tt)
  four_fit p own four.Xml here a _ _ _ left (one_tree tag so) (one_token close) (one_tree content is) =
      one_tree _ ((trees_kept p).xml here tag _ content so ((trees_kept p).fields _ [] _ tt tt) is)
  four_fit p own (four.Matching form) here a _ c _ word (one_expr value is) with_word (some_branches first rest are) =
      one_expr _ (exprs_kept.matching form here value first rest is are)
  four_fit p own four.NamedFunction here _ _ _ _ (one_label word fun) (one_label name so)
      (some_signatures arrow arrows are) (some_branches first rest they) =
      one_expr _ (exprs_kept.named here _ _ _ arrow arrows first rest so are they)
  four_fit p own four.XmlExpr here a _ _ _ left (one_expr tag so) (one_token close) (one_expr content is) =
      one_expr _ (exprs_kept.xml here tag _ content so (exprs_kept.fields _ [] tt) is)

  five_fit : (p : Bool) (own : Sort) (m : Five) (here : Span) (a b c d e : Part) → Fits facts (of_five p own m).0 a
      → Fits facts (of_five p own m).1 b → Fits facts (of_five p own m).2 c → Fits facts (of_five p own m).3 d
      → Fits facts (of_five p own m).4 e → Fits facts (of_five p own m).5 (made_of_five m here a b c d e)
  five_fit p own five.XmlWith here a _ _ d _ left (one_tree tag so) (one_tree all are) right (one_tree content is) =
      one_tree _ ((trees_kept p).xml here tag all content so are is)
  five_fit p own five.Default here a _ c _ e left (one_label name so) sign (one_constant value is) right =
      one_tree _ (patterns_kept.default here _ value so is)
  five_fit p own five.DeclaredFunction here a _ _ _ _ let_word (one_label word fun) (one_label name so)
      (some_signatures arrow arrows are) (some_branches first rest they) =
      one_function _ (exprs_kept.declared _ _ _ arrow arrows first rest so are they)
  five_fit p own five.XmlExprWith here a _ _ d _ left (one_expr tag so) (one_expr all are) right
      (one_expr content is) =
      one_expr _ (exprs_kept.xml here tag all content so are is)
  five_fit p own five.SourceWhere here _ b _ d _ (one_tree pattern is) in_word (one_expr value so) where_word
      (one_expr test it) =
      some_sources _ (Some test) ((is, so), tt) it
  five_fit p own five.BeforeSources here _ b _ d _ (one_tree pattern is) in_word (one_expr value so) sign
      (some_sources all condition are it) =
      some_sources _ condition ((is, so), are) it

  six_fit : (p : Bool) (own : Sort) (m : Six) (here : Span) (a b c d e f : Part) → Fits facts (of_six p own m).0 a
      → Fits facts (of_six p own m).1 b → Fits facts (of_six p own m).2 c → Fits facts (of_six p own m).3 d
      → Fits facts (of_six p own m).4 e → Fits facts (of_six p own m).5 f
      → Fits facts (of_six p own m).6 (made_of_six m here a b c d e f)
  six_fit p own six.Let here a _ c _ e _ word (one_tree pattern is) sign (one_expr value so) in_word
      (one_expr inner it) =
      one_expr _ (exprs_kept.let_in here pattern value inner is so it)
  six_fit p own six.If here a _ c _ e _ word (one_expr test is) then_word (one_expr first so) else_word
      (one_expr second it) =
      one_expr _ (exprs_kept.if_else here test first second is so it)
  six_fit p own six.Selecting here a b _ d _ f left select_word (one_expr head is) from_word
      (some_sources all condition are so) right =
      one_expr _ (select_fits facts kept here all condition head are so is)

  pub made_fits : (p : Bool) (own : Sort) (m : Make) (here : Span) (parts : List Part)
      → AreFit facts (sorts_of p own m).0 parts → Fits facts (sorts_of p own m).1 (made m here parts)
  made_fits p own (make.One m) here _ (and a none) = one_fits facts kept p own m here _ a
  made_fits p own (make.Two m) here _ (and a (and b none)) = two_fit facts kept p own m here _ _ a b
  made_fits p own (make.Three m) here _ (and a (and b (and c none))) = three_fit facts kept p own m here _ _ _ a b c
  made_fits p own (make.Four m) here _ (and a (and b (and c (and d none)))) = four_fit p own m here _ _ _ _ a b c d
  made_fits p own (make.Five m) here _ (and a (and b (and c (and d (and e none))))) =
      five_fit p own m here _ _ _ _ _ a b c d e
  made_fits p own (make.Six m) here _ (and a (and b (and c (and d (and e (and f none)))))) =
      six_fit p own m here _ _ _ _ _ _ a b c d e f
