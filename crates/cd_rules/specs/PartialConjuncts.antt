-- A conjunct of one kind in the making: its literals so far, and the formulas of which it has none
-- yet.
use Rattle.std.specs.Prelude.{Bool, true, false, not, List, [], ◌∷◌, ◌++◌, map}
use Rattle.cd_sets.specs.declared.question.Question.{Question}
use Rattle.cd_model.specs.AllOf.{AllOf}
use Rattle.cd_model.specs.Formula.{Formula, Formulas, NoFormula, AFormula, And, Or, Not}
use Rattle.cd_model.specs.Formula.{Graph, formula_at}
use Rattle.cd_model.specs.Kinds.{Kind, AnInteger, ACharacter, AnAtom, APair, AnXml, ARecord}
use Rattle.cd_model.specs.Kinds.{AFunction}
use Rattle.cd_rules.specs.Dnf.{Conjunct, joined, always}
use Rattle.cd_rules.specs.Clauses.{Clause, Ints, Chars, Atoms, Pairs, Xmls, Records, Arrows}
use Rattle.cd_rules.specs.Clauses.{IsClauseOfQuestion, parts_in, integers_of, characters_of}
use Rattle.cd_rules.specs.Clauses.{atoms_of, pair_of, xml_of, record_of, arrow_of}
use Rattle.cd_rules.specs.Family.{AreAmong, Refutes}
use Rattle.cd_rules.specs.KindDnf.{kind_dnf}

-- what a conjunct says of the things of a kind
abbrev pub clause_by : Kind → Conjunct → Clause
clause_by AnInteger conjunct =
    Ints (parts_in integers_of true conjunct) (parts_in integers_of false conjunct)
clause_by ACharacter conjunct =
    Chars (parts_in characters_of true conjunct) (parts_in characters_of false conjunct)
clause_by AnAtom conjunct =
    Atoms (parts_in atoms_of true conjunct) (parts_in atoms_of false conjunct)
clause_by APair conjunct = Pairs (parts_in pair_of true conjunct) (parts_in pair_of false conjunct)
clause_by AnXml conjunct = Xmls (parts_in xml_of true conjunct) (parts_in xml_of false conjunct)
clause_by ARecord conjunct =
    Records (parts_in record_of true conjunct) (parts_in record_of false conjunct)
clause_by AFunction conjunct =
    Arrows (parts_in arrow_of true conjunct) (parts_in arrow_of false conjunct)

-- a formula, and whether a thing is to be in it or outside it
abbrev pub Signed : Type 0
Signed = Formula × Bool

pub record Partial : Type 0 where
  pub kind : Kind
  pub conjunct : Conjunct
  pub left : List Signed

abbrev pub partial : Kind → Conjunct → List Signed → Partial
partial kind conjunct left = record { kind = kind; conjunct = conjunct; left = left }

-- the literals that complete it
abbrev pub completions : Kind → List Signed → List Conjunct
completions kind [] = always
completions kind (one ∷ left) = joined (kind_dnf kind one.0 one.1) (completions kind left)

-- a fact of the clause of each conjunct that it may become
abbrev pub EachClause : (Clause → Type 0) → Partial → Type 0
EachClause fact is = AllOf (λ rest. fact (clause_by is.kind (is.conjunct ++ rest)))
    (completions is.kind is.left)

-- it fails in a family that refutes each of these clauses
abbrev pub PartialFails : List Question → Partial → Type 0
PartialFails family = EachClause (Refutes family)

-- a formula that is one of several at once, and these
abbrev pub each_signed : Formulas → (wanted : Bool) → List Signed
each_signed NoFormula wanted = []
each_signed (AFormula is rest) wanted = (is, wanted) ∷ each_signed rest wanted

pub data IsConjunction : Signed → List Signed → Type 0 where
  wants_each : (formulas : Formulas)
      → IsConjunction (And formulas, true) (each_signed formulas true)
  refuses_each : (formulas : Formulas)
      → IsConjunction (Or formulas, false) (each_signed formulas false)
  denies : (is : Formula) (wanted : Bool)
      → IsConjunction (Not is, wanted) ((is, not wanted) ∷ [])

-- a formula that is one of several, and these
pub data IsDisjunction : Signed → List Signed → Type 0 where
  wants_one : (formulas : Formulas)
      → IsDisjunction (Or formulas, true) (each_signed formulas true)
  refuses_one : (formulas : Formulas)
      → IsDisjunction (And formulas, false) (each_signed formulas false)

-- with one more formula each conjunct becomes some
abbrev pub extensions : Kind → Conjunct → Signed → List Signed → List Partial
extensions kind conjunct one left =
    map (λ more. partial kind (conjunct ++ more) left) (kind_dnf kind one.0 one.1)

-- A conjunct goes on by its next formula: the members of a conjunction take its place; of a
-- disjunction there is a conjunct for each member; or there is one for each way to meet the formula
pub data GoesOn : Partial → List Partial → Type 0 where
  unfolds : (kind : Kind) (conjunct : Conjunct) (one : Signed) (members left : List Signed)
      → IsConjunction one members
      → GoesOn (partial kind conjunct (one ∷ left)) (partial kind conjunct (members ++ left) ∷ [])
  divides : (kind : Kind) (conjunct : Conjunct) (one : Signed) (members left : List Signed)
      → IsDisjunction one members
      → GoesOn (partial kind conjunct (one ∷ left))
      (map (λ member. partial kind conjunct (member ∷ left)) members)
  extends : (kind : Kind) (conjunct : Conjunct) (one : Signed) (left : List Signed)
      → GoesOn (partial kind conjunct (one ∷ left)) (extensions kind conjunct one left)

-- the formulas of a question, and a conjunct of each kind that is made of parts, with nothing of it
-- yet
abbrev pub signed : Graph → Question → List Signed
signed graph question = map (λ id. (formula_at graph id, true)) question.pos
    ++ map (λ id. (formula_at graph id, false)) question.neg

abbrev pub partial_conjuncts : Graph → Question → List Partial
partial_conjuncts graph question =
    map (λ kind. partial kind [] (signed graph question)) (APair ∷ AnXml ∷ ARecord ∷ AFunction ∷ [])

module _ (graph : Graph) where
  -- each clause that it may become is one of the question
  abbrev pub IsPartialOf : Question → Partial → Type 0
  IsPartialOf question = EachClause (IsClauseOfQuestion graph question)

  -- where these conjuncts fail in a family that has all of `base`, it refutes each clause of the
  -- question
  abbrev pub AccountForClauses : (base : List Question) → Question → List Partial → Type 0
  AccountForClauses base question conjuncts = (family : List Question) → AreAmong base family
      → AllOf (PartialFails family) conjuncts
      → (clause : Clause) → IsClauseOfQuestion graph question clause → Refutes family clause
