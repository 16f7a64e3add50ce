-- The conjuncts of the formulas of the code.
use Rattle.std.proofs.Common.{◌≡◌, List, [], ◌∷◌, refl, sym, ap, subst, ◌∙◌}
use Rattle.cd_model.specs.Formula.{Formula, formulas_of}
use Rattle.cd_graph.specs.PlainFormula.{plain, plain_list}
use Rattle.cd_graph.specs.declared.formula.Formula.TheOpen as layer
use Rattle.cd_graph.specs.declared.formula.Formula.TheVariants as code
use Rattle.cd_graph.specs.declared.formula.Formula.{Formula as CodeFormula, Formula-F}
use Rattle.cd_graph.specs.declared.formula.Formula.{out-Formula, roll-Formula, roll-out-Formula}
use Rattle.cd_graph.specs.declared.formula.Formulas.{Formulas as CodeFormulas}
use Rattle.cd_graph.proofs.Reading.{plain_none, plain_all, plain_ints, plain_chars, plain_atoms}
use Rattle.cd_graph.proofs.Reading.{plain_pair, plain_xml, plain_record, plain_arrow, plain_and}
use Rattle.cd_graph.proofs.Reading.{plain_or, plain_not}
use Rattle.cd_filter.specs.Simpler.{listed, conjuncts}

-- those of a meet are its formulas
listed_of : (formulas : List Formula) → listed (formulas_of formulas) ≡ formulas
listed_of [] = refl
listed_of (f ∷ formulas) = ap (λ rest. f ∷ rest) (listed_of formulas)

pub of_meet : (f : CodeFormula) (members : CodeFormulas) → f ≡ code.And members
    → conjuncts (plain f) ≡ plain_list members
of_meet f members is = ap (λ one. conjuncts (plain one)) is ∙ ap conjuncts (plain_and members)
    ∙ listed_of (plain_list members)

-- any other formula is the one of itself
module _ (f : CodeFormula) where
  alone_as : (g : Formula) → conjuncts g ≡ g ∷ [] → (one : CodeFormula) → roll-Formula (out-Formula f) ≡ one
      → plain one ≡ g → conjuncts (plain f) ≡ plain f ∷ []
  alone_as g alone one is same = subst (λ h. conjuncts h ≡ h ∷ [])
      (sym (ap plain (sym (roll-out-Formula f) ∙ is) ∙ same)) alone

  by_layer : ((members : CodeFormulas) → f ≡ code.And members → ⊥)
      → (one : Formula-F CodeFormula CodeFormulas) → out-Formula f ≡ one
      → conjuncts (plain f) ≡ plain f ∷ []
  by_layer other layer.None is = alone_as _ refl _ (ap roll-Formula is ∙ code.rolls-None) plain_none
  by_layer other layer.All is = alone_as _ refl _ (ap roll-Formula is ∙ code.rolls-All) plain_all
  by_layer other (layer.Ints set) is =
      alone_as _ refl _ (ap roll-Formula is ∙ code.rolls-Ints set) (plain_ints set)
  by_layer other (layer.Chars set) is =
      alone_as _ refl _ (ap roll-Formula is ∙ code.rolls-Chars set) (plain_chars set)
  by_layer other (layer.Atoms set) is =
      alone_as _ refl _ (ap roll-Formula is ∙ code.rolls-Atoms set) (plain_atoms set)
  by_layer other (layer.Pair p q) is =
      alone_as _ refl _ (ap roll-Formula is ∙ code.rolls-Pair p q) (plain_pair p q)
  by_layer other (layer.Xml p q r) is =
      alone_as _ refl _ (ap roll-Formula is ∙ code.rolls-Xml p q r) (plain_xml p q r)
  by_layer other (layer.Record fields) is =
      alone_as _ refl _ (ap roll-Formula is ∙ code.rolls-Record fields) (plain_record fields)
  by_layer other (layer.Arrow p q) is =
      alone_as _ refl _ (ap roll-Formula is ∙ code.rolls-Arrow p q) (plain_arrow p q)
  by_layer other (layer.And members) is =
      absurd (other members (sym (roll-out-Formula f) ∙ ap roll-Formula is ∙ code.rolls-And members))
  by_layer other (layer.Or members) is =
      alone_as _ refl _ (ap roll-Formula is ∙ code.rolls-Or members) (plain_or members)
  by_layer other (layer.Not negated) is =
      alone_as _ refl _ (ap roll-Formula is ∙ code.rolls-Not negated) (plain_not negated)

  pub of_other : ((members : CodeFormulas) → f ≡ code.And members → ⊥)
      → conjuncts (plain f) ≡ plain f ∷ []
  of_other other = by_layer other (out-Formula f) refl
