-- What a make makes of parts is in range where they are.
use Rattle.std.proofs.Common.{List, [], ◌∷◌}
use Rattle.cd_syntax.specs.declared.tokens.Span.{Span}
use Rattle.cd_model.specs.AllOf.{AllOf}
use Rattle.cd_grammar.specs.declared.make.Make.{Make}
use Rattle.cd_grammar.specs.declared.make.Make.TheVariants as make
use Rattle.cd_grammar.specs.declared.make.Four.{Four}
use Rattle.cd_grammar.specs.declared.make.Four.TheVariants as four
use Rattle.cd_grammar.specs.declared.make.Five.{Five}
use Rattle.cd_grammar.specs.declared.make.Five.TheVariants as five
use Rattle.cd_grammar.specs.declared.make.Six.{Six}
use Rattle.cd_grammar.specs.declared.make.Six.TheVariants as six
use Rattle.cd_grammar.specs.Parts.{Part, AToken, ATree, AConstant, AnExpr, Branches, Signatures, Sources}
use Rattle.cd_grammar.specs.Makes.{made, made_of_four, made_of_five, made_of_six}
use Rattle.cd_texts.proofs.PartsInRange.{PartInRange}
use Rattle.cd_texts.proofs.ExprsInRange.{matching_in_range, branches_in_range}
use Rattle.cd_texts.proofs.QueriesInRange.{select_in_range}
use Rattle.cd_texts.proofs.OnesInRange.{one_in_range}
use Rattle.cd_texts.proofs.TwosInRange.{two_in_range}
use Rattle.cd_texts.proofs.ThreesInRange.{three_in_range}

four_in_range : (m : Four) (here : Span) (a b c d : Part) → PartInRange a → PartInRange b → PartInRange c
    → PartInRange d → PartInRange (made_of_four m here a b c d)
four_in_range four.Declaration here a (AToken word) c (ATree one) is so too last = (last, tt)
four_in_range four.Xml here a (ATree tag) (AToken close) (ATree content) is so too last = (so, (tt, tt), last)
four_in_range (four.Matching form) here a (AnExpr value) c (Branches all) is so too are =
    matching_in_range form here value all so are
four_in_range four.NamedFunction here (AToken word) (AToken name) (Signatures arrows) (Branches all) is so too are =
    branches_in_range all are
four_in_range four.XmlExpr here a (AnExpr tag) (AToken close) (AnExpr content) is so too last = (so, tt, last)
four_in_range _ here _ _ _ _ is so too last = tt

five_in_range : (m : Five) (here : Span) (a b c d e : Part) → PartInRange a → PartInRange b → PartInRange c
    → PartInRange d → PartInRange e → PartInRange (made_of_five m here a b c d e)
five_in_range five.XmlWith here a (ATree tag) (ATree all) d (ATree content) is so too more last = (so, too, last)
five_in_range five.Default here a (AToken word) c (AConstant value) e is so too more last = more
five_in_range five.DeclaredFunction here a (AToken word) (AToken name) (Signatures arrows) (Branches all) is so too more
    are =
    branches_in_range all are
five_in_range five.XmlExprWith here a (AnExpr tag) (AnExpr all) d (AnExpr content) is so too more last =
    (so, too, last)
five_in_range five.SourceWhere here (ATree takes) b (AnExpr one) d (AnExpr test) is so too more last =
    (((is, too), tt), last)
five_in_range five.BeforeSources here (ATree takes) b (AnExpr one) d (Sources all condition) is so too more are =
    (((is, too), are.0), are.1)
five_in_range _ here _ _ _ _ _ is so too more last = tt

six_in_range : (m : Six) (here : Span) (a b c d e f : Part) → PartInRange a → PartInRange b → PartInRange c
    → PartInRange d → PartInRange e → PartInRange f → PartInRange (made_of_six m here a b c d e f)
six_in_range six.Let here a (ATree takes) c (AnExpr value) e (AnExpr inner) is so too more next last =
    (so, more, last)
six_in_range six.If here a (AnExpr test) c (AnExpr one) e (AnExpr other) is so too more next last = (so, more, last)
six_in_range six.Selecting here a b (AnExpr head) d (Sources all condition) f is so too more are last =
    select_in_range here all condition head are.0 are.1 too
six_in_range _ here _ _ _ _ _ _ is so too more next last = tt

-- of as many parts as it wants, or nothing of use
pub made_in_range : (m : Make) (here : Span) (parts : List Part) → AllOf PartInRange parts
    → PartInRange (made m here parts)
made_in_range (make.One m) here (a ∷ []) are = one_in_range m here a are.0
made_in_range (make.Two m) here (a ∷ b ∷ []) are = two_in_range m here a b are.0 are.1.0
made_in_range (make.Three m) here (a ∷ b ∷ c ∷ []) are = three_in_range m here a b c are.0 are.1.0 are.1.1.0
made_in_range (make.Four m) here (a ∷ b ∷ c ∷ d ∷ []) are =
    four_in_range m here a b c d are.0 are.1.0 are.1.1.0 are.1.1.1.0
made_in_range (make.Five m) here (a ∷ b ∷ c ∷ d ∷ e ∷ []) are =
    five_in_range m here a b c d e are.0 are.1.0 are.1.1.0 are.1.1.1.0 are.1.1.1.1.0
made_in_range (make.Six m) here (a ∷ b ∷ c ∷ d ∷ e ∷ f ∷ []) are =
    six_in_range m here a b c d e f are.0 are.1.0 are.1.1.0 are.1.1.1.0 are.1.1.1.1.0 are.1.1.1.1.1.0
made_in_range _ here _ are = tt
