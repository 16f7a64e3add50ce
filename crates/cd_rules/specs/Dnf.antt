-- The conjuncts of a formula and of a question: the ways in which a thing can be in it, as lists of
-- literals.
use Rattle.std.specs.Prelude.{Bool, true, false, not, List, [], ◌∷◌, ◌++◌, map}
use Rattle.cd_sets.specs.declared.node_id.NodeId.{NodeId}
use Rattle.cd_sets.specs.declared.question.Question.{Question}
use Rattle.cd_model.specs.AllOf.{AllOf}
use Rattle.cd_model.specs.Formula as formula
use Rattle.cd_model.specs.Formula.{Formula, Formulas, NoFormula, AFormula, Graph, formula_at}
use Rattle.cd_model.specs.Membership.{Reader}

-- a formula, and whether a thing is to be in it or outside it; conjuncts have none of connectives
pub record Literal : Type 0 where
  pub wanted : Bool
  pub is : Formula

-- what is to be so all at once
abbrev pub Conjunct : Type 0
Conjunct = List Literal

-- each of these with each of those
abbrev pub joined : List Conjunct → List Conjunct → List Conjunct
joined [] others = []
joined (conjunct ∷ dnf) others = map (λ other. conjunct ++ other) others ++ joined dnf others

-- one conjunct that asks for nothing
abbrev pub always : List Conjunct
always = [] ∷ []

-- that one, or no conjunct
abbrev pub when : Bool → List Conjunct
when true = always
when false = []

abbrev mutual
  pub dnf : Formula → (wanted : Bool) → List Conjunct
  dnf formula.Nothing wanted = when (not wanted)
  dnf formula.Everything wanted = when wanted
  dnf (formula.And formulas) true = dnf_of_each formulas true
  dnf (formula.And formulas) false = dnf_of_one formulas false
  dnf (formula.Or formulas) true = dnf_of_one formulas true
  dnf (formula.Or formulas) false = dnf_of_each formulas false
  dnf (formula.Not is) wanted = dnf is (not wanted)
  dnf is wanted = (record { wanted = wanted; is = is } ∷ []) ∷ []

  -- one conjunct of each of these, and a conjunct of one of them
  pub dnf_of_each : Formulas → Bool → List Conjunct
  dnf_of_each NoFormula wanted = always
  dnf_of_each (AFormula is rest) wanted =
      joined (dnf is wanted) (dnf_of_each rest wanted)

  pub dnf_of_one : Formulas → Bool → List Conjunct
  dnf_of_one NoFormula wanted = []
  dnf_of_one (AFormula is rest) wanted = dnf is wanted ++ dnf_of_one rest wanted

-- one conjunct of each of these nodes
abbrev pub dnf_at : Graph → List NodeId → (wanted : Bool) → List Conjunct
dnf_at graph [] wanted = always
dnf_at graph (id ∷ ids) wanted =
    joined (dnf (formula_at graph id) wanted) (dnf_at graph ids wanted)

abbrev pub dnf_of : Graph → Question → List Conjunct
dnf_of graph question =
    joined (dnf_at graph question.pos true) (dnf_at graph question.neg false)

-- a thing meets a conjunct where it answers as each literal asks
abbrev pub Meets : Reader → Conjunct → Type 0
Meets reader conjunct = AllOf (λ literal. reader literal.is literal.wanted) conjunct
