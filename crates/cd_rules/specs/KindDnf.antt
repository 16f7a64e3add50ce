-- The conjuncts of one kind alone: those whose wanted literals are all of the kind, without their
-- refused literals of other kinds.
use Rattle.std.specs.Prelude.{Bool, true, false, not, ◌&&◌, List, [], ◌∷◌, ◌++◌, is_some}
use Rattle.std.specs.Prelude.{if◌then◌else◌}
use Rattle.cd_sets.specs.declared.node_id.NodeId.{NodeId}
use Rattle.cd_sets.specs.declared.question.Question.{Question}
use Rattle.cd_model.specs.Formula as formula
use Rattle.cd_model.specs.Formula.{Formula, Formulas, NoFormula, AFormula, Graph, formula_at}
use Rattle.cd_model.specs.Kinds.{Kind, AnInteger, ACharacter, AnAtom, APair, AnXml, ARecord}
use Rattle.cd_model.specs.Kinds.{AFunction}
use Rattle.cd_rules.specs.Dnf.{Literal, Conjunct, joined, always, when}
use Rattle.cd_rules.specs.Clauses.{integers_of, characters_of, atoms_of, pair_of, xml_of, record_of}
use Rattle.cd_rules.specs.Clauses.{arrow_of}

-- the formula is of the things of this kind
abbrev pub is_of : Kind → Formula → Bool
is_of AnInteger is = is_some (integers_of is)
is_of ACharacter is = is_some (characters_of is)
is_of AnAtom is = is_some (atoms_of is)
is_of APair is = is_some (pair_of is)
is_of AnXml is = is_some (xml_of is)
is_of ARecord is = is_some (record_of is)
is_of AFunction is = is_some (arrow_of is)

-- a literal of a formula of the kind; of another one no conjunct, where it is wanted, or one that
-- asks for nothing
abbrev pub literal_by : (of_kind wanted : Bool) → Formula → List Conjunct
literal_by true wanted is = (record { wanted = wanted; is = is } ∷ []) ∷ []
literal_by false true is = []
literal_by false false is = always

abbrev mutual
  pub kind_dnf : Kind → Formula → (wanted : Bool) → List Conjunct
  kind_dnf kind formula.Nothing wanted = when (not wanted)
  kind_dnf kind formula.Everything wanted = when wanted
  kind_dnf kind (formula.And formulas) true = kind_of_each kind formulas true
  kind_dnf kind (formula.And formulas) false = kind_of_one kind formulas false
  kind_dnf kind (formula.Or formulas) true = kind_of_one kind formulas true
  kind_dnf kind (formula.Or formulas) false = kind_of_each kind formulas false
  kind_dnf kind (formula.Not is) wanted = kind_dnf kind is (not wanted)
  kind_dnf kind is wanted = literal_by (is_of kind is) wanted is

  pub kind_of_each : Kind → Formulas → Bool → List Conjunct
  kind_of_each kind NoFormula wanted = always
  kind_of_each kind (AFormula is rest) wanted =
      joined (kind_dnf kind is wanted) (kind_of_each kind rest wanted)

  pub kind_of_one : Kind → Formulas → Bool → List Conjunct
  kind_of_one kind NoFormula wanted = []
  kind_of_one kind (AFormula is rest) wanted =
      kind_dnf kind is wanted ++ kind_of_one kind rest wanted

abbrev pub kind_at : Kind → Graph → List NodeId → (wanted : Bool) → List Conjunct
kind_at kind graph [] wanted = always
kind_at kind graph (id ∷ ids) wanted =
    joined (kind_dnf kind (formula_at graph id) wanted) (kind_at kind graph ids wanted)

abbrev pub kind_dnf_of : Kind → Graph → Question → List Conjunct
kind_dnf_of kind graph question =
    joined (kind_at kind graph question.pos true) (kind_at kind graph question.neg false)

-- what a conjunct is for a kind
abbrev pub of_kind : Kind → Conjunct → Conjunct
of_kind kind [] = []
of_kind kind (literal ∷ conjunct) =
    if is_of kind literal.is then literal ∷ of_kind kind conjunct else of_kind kind conjunct

abbrev pub allows : Kind → Literal → Bool
allows kind literal = if literal.wanted then is_of kind literal.is else true

abbrev pub fits : Kind → Conjunct → Bool
fits kind [] = true
fits kind (literal ∷ conjunct) = allows kind literal && fits kind conjunct

abbrev pub for_kind : Kind → List Conjunct → List Conjunct
for_kind kind [] = []
for_kind kind (conjunct ∷ conjuncts) =
    if fits kind conjunct then of_kind kind conjunct ∷ for_kind kind conjuncts
    else for_kind kind conjuncts
