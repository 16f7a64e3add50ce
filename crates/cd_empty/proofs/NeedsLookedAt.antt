-- What comes of a look at the needs of the first conjunct.
use Rattle.std.proofs.Common.{◌≡◌, List, ◌∷◌, Option, Some, None, refl, sym, ap, ◌∙◌, drop}
use Rattle.cd_sets.specs.declared.question.Question.{Question}
use Rattle.cd_model.specs.AllOf.{AllOf, AnyOf}
use Rattle.cd_model.specs.Formula.{Graph}
use Rattle.cd_normal.specs.ConjunctsGoOn.{IsNeededByTop}
use Rattle.cd_rules.specs.Family.{AreAmong, IsSubsumed}
use Rattle.cd_rules.specs.PartialConjuncts.{Partial, PartialFails}
use Rattle.cd_rules.proofs.Subsumption.{subsumes_on, subsumed_where}
use Rattle.cd_model.proofs.Ones.{one_leads, one_with_each}
use Rattle.cd_empty.specs.declared.decider.Decider.{Decider}
use Rattle.cd_empty.specs.declared.doing.Doing.{Doing}
use Rattle.cd_empty.specs.Inner.Working.{IsLook}

-- the first conjunct fails, and is taken away
abbrev pub IsCut : (known : List Question) (before after : List Partial) → Type 0
IsCut known before after = (first : Partial) × (before ≡ first ∷ after)
    × ((family : List Question) → AreAmong known family → PartialFails family first)

cut_by_one : (known : List Question) (before after : List Partial) → after ≡ drop 1 before → (question : Question)
    → IsSubsumed question known × IsNeededByTop before question → IsCut known before after
cut_by_one known before after cut question (subsumed, (first, rest, is, fails)) = (
  first,
  is ∙ ap (λ (rest : List Partial). first ∷ rest) (sym (cut ∙ ap (drop 1) is)),
  λ family among. fails family (subsumes_on known family (subsumed_where known family among) question subsumed),
)

pub cut_by : (known : List Question) (before after : List Partial) (questions : List Question) → after ≡ drop 1 before
    → AllOf (IsNeededByTop before) questions → AnyOf (λ question. IsSubsumed question known) questions → IsCut known before after
cut_by known before after questions cut needed subsumed =
    one_leads (λ question. IsSubsumed question known × IsNeededByTop before question) (cut_by_one known before after cut) questions
    (one_with_each (λ question. IsSubsumed question known) (IsNeededByTop before) questions subsumed needed)

-- where it gave nothing, the conjuncts are as they were
pub looked_on : (graph : Graph) (decider : Decider) (before after : List Partial) (found : Option Doing)
    → ((doing : Doing) → found ≡ Some doing → ⊥) → IsLook graph decider before after found → after ≡ before
looked_on graph decider before after None not_some is = is
looked_on graph decider before after (Some doing) not_some is = absurd (not_some doing refl)
