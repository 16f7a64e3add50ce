-- Questions that others subsume, and what families subsume.
use Rattle.std.proofs.Common.{◌≡◌, true, false, List, inl, inr, sym, subst}
use Rattle.cd_sets.specs.declared.node_id.NodeId.{NodeId}
use Rattle.cd_sets.specs.declared.question.Question.{Question}
use Rattle.cd_syntax.specs.Name.{Name}
use Rattle.cd_model.specs.AllOf.{AllOf, AnyOf}
use Rattle.cd_model.specs.Membership.{Answers, asked}
use Rattle.cd_rules.specs.Clauses.{Clause, Ints, Chars, Atoms, Pairs, Xmls, Records, Arrows}
use Rattle.cd_rules.specs.Needs.{Way, Need, question}
use Rattle.cd_rules.specs.Rows.{Cell, Row, rows_of}
use Rattle.cd_rules.specs.Family.{IsSubsumedBy, ContradictsItself, IsOfFamily, IsSubsumed, RefutesNeed, RefutesRow, HasRefutedNeed, Refutes, AreAmong}
use Rattle.cd_rules.proofs.Among.{of_each, one_of_among, each_of_its, each_of_among, among_itself, among_on, among_sets}
use Rattle.cd_model.proofs.Ones.{each_weaker, one_weaker, one_leads, one_with_each}

-- each question is subsumed by itself
pub asks_itself : (question : Question) → IsSubsumedBy question question
asks_itself question = (among_itself question.pos, among_itself question.neg)

-- one that is subsumed by a second, which is subsumed by a third, is subsumed by that
pub asks_on : (more question less : Question) → IsSubsumedBy more question → IsSubsumedBy question less → IsSubsumedBy more less
asks_on more question less asks on =
    (among_on less.pos question.pos more.pos on.0 asks.0, among_on less.neg question.neg more.neg on.1 asks.1)

-- where nodes are among others, the question of the others is subsumed
pub asks_more : (pos neg more_pos more_neg : List NodeId) → AreAmong pos more_pos → AreAmong neg more_neg
    → IsSubsumedBy (question more_pos more_neg) (question pos neg)
asks_more pos neg more_pos more_neg wanted refused = (among_sets pos more_pos wanted, among_sets neg more_neg refused)

-- what is in a question that another subsumes is in the other
pub asked_less : (answers : Answers) (question other : Question) → IsSubsumedBy question other → asked answers question true
    → asked answers other true
asked_less answers question other asks is = (
  each_of_among (λ id. answers id true) other.pos question.pos asks.0 is.0,
  each_of_among (λ id. answers id false) other.neg question.neg asks.1 is.1,
)

-- a family subsumes its own questions
pub subsumes_own : (family : List Question) (question : Question) → IsOfFamily question family → IsSubsumed question family
subsumes_own family question is = inl (one_weaker (λ other. other ≡ question) (IsSubsumedBy question)
    (λ other same. subst (IsSubsumedBy question) (sym same) (asks_itself question)) family is)

-- what is subsumed by a question that contradicts itself contradicts itself too
contradicts_more : (more question : Question) → IsSubsumedBy more question → ContradictsItself question → ContradictsItself more
contradicts_more more question asks is = one_of_among (λ id. AnyOf (λ other. other ≡ id) more.neg) question.pos more.pos asks.0
    (one_weaker (λ id. AnyOf (λ other. other ≡ id) question.neg) (λ id. AnyOf (λ other. other ≡ id) more.neg)
    (λ id refused. one_of_among (λ other. other ≡ id) question.neg more.neg asks.1 refused) question.pos is)

-- and nothing is in it, whatever answers each node in one way
pub contradicts_none : (answers : Answers) → ((id : NodeId) → answers id true → answers id false → ⊥)
    → (question : Question) → ContradictsItself question → asked answers question true → ⊥
contradicts_none answers one_way question is asking =
    let both = one_with_each (λ id. AnyOf (λ other. other ≡ id) question.neg) (λ id. answers id true) question.pos is asking.0 in
    one_leads (λ id. AnyOf (λ other. other ≡ id) question.neg × answers id true)
    (λ id here. one_way id here.1 (of_each (λ id. answers id false) question.neg id asking.1 here.0)) question.pos both

-- and what is subsumed by a question that it subsumes
pub subsumes_more : (family : List Question) (more question : Question) → IsSubsumedBy more question → IsSubsumed question family
    → IsSubsumed more family
subsumes_more family more question asks (inl subsumed) = inl (one_weaker (IsSubsumedBy question) (IsSubsumedBy more)
    (λ other on. asks_on more question other asks on) family subsumed)
subsumes_more family more question asks (inr contradicts) = inr (contradicts_more more question asks contradicts)

-- what is so of each question of a family, and comes from a question to each that it subsumes, and is so of each that contradicts
-- itself, is so of each that the family subsumes
pub of_subsumed : (Fact : Question → Type 0) (family : List Question) (question : Question)
    → ((other : Question) → IsSubsumedBy question other → Fact other → Fact question)
    → (ContradictsItself question → Fact question) → AllOf Fact family → IsSubsumed question family → Fact question
of_subsumed Fact family question comes nothing each (inl subsumed) = one_leads (λ other. IsSubsumedBy question other × Fact other)
    (λ other both. comes other both.0 both.1) family (one_with_each (IsSubsumedBy question) Fact family subsumed each)
of_subsumed Fact family question comes nothing each (inr contradicts) = nothing contradicts

-- a family subsumes each of some questions, as where they are all of it
abbrev pub AreSubsumed : (some all : List Question) → Type 0
AreSubsumed some all = AllOf (λ question. IsSubsumed question all) some

pub subsumed_where : (some all : List Question) → AreAmong some all → AreSubsumed some all
subsumed_where some all among =
    each_weaker (λ question. IsOfFamily question all) (λ question. IsSubsumed question all) (subsumes_own all) some among

-- then it subsumes what they subsume, and refutes what they refute
module _ (some all : List Question) (subsumed : AreSubsumed some all) where
  pub subsumes_on : (question : Question) → IsSubsumed question some → IsSubsumed question all
  subsumes_on question is = of_subsumed (λ question. IsSubsumed question all) some question (subsumes_more all question) (λ contradicts. inr contradicts) subsumed is

  way_on : (way : Way) → AnyOf (λ question. IsSubsumed question some) way → AnyOf (λ question. IsSubsumed question all) way
  way_on = one_weaker (λ question. IsSubsumed question some) (λ question. IsSubsumed question all) subsumes_on

  need_on : (need : Need) → RefutesNeed some need → RefutesNeed all need
  need_on = each_weaker (λ way. AnyOf (λ question. IsSubsumed question some) way) (λ way. AnyOf (λ question. IsSubsumed question all) way) way_on

  row_on : (row : Row) → RefutesRow some row → RefutesRow all row
  row_on row (inl cell) = inl (one_weaker (λ (cell : Name × Cell). (cell.1.absent ≡ false) × IsSubsumed cell.1.value some)
      (λ cell. (cell.1.absent ≡ false) × IsSubsumed cell.1.value all) (λ cell is. (is.0, subsumes_on cell.1.value is.1)) row.cells cell)
  row_on row (inr one) = inr (way_on row.some one)

  refuted_on : (clause : Clause) → HasRefutedNeed some clause → HasRefutedNeed all clause
  refuted_on clause refuted = (refuted.0, refuted.1, one_weaker (RefutesNeed some) (RefutesNeed all) need_on refuted.0 refuted.2)

  pub refutes_on : (clause : Clause) → Refutes some clause → Refutes all clause
  refutes_on (Records wanted refused) refuted = each_weaker (RefutesRow some) (RefutesRow all) row_on (rows_of wanted refused) refuted
  refutes_on (Ints wanted refused) refuted = refuted_on (Ints wanted refused) refuted
  refutes_on (Chars wanted refused) refuted = refuted_on (Chars wanted refused) refuted
  refutes_on (Atoms wanted refused) refuted = refuted_on (Atoms wanted refused) refuted
  refutes_on (Pairs wanted refused) refuted = refuted_on (Pairs wanted refused) refuted
  refutes_on (Xmls wanted refused) refuted = refuted_on (Xmls wanted refused) refuted
  refutes_on (Arrows wanted refused) refuted = refuted_on (Arrows wanted refused) refuted

-- so a family that has all questions of another refutes what the other refutes
pub refutes_more : (some all : List Question) → ((question : Question) → IsOfFamily question some → IsOfFamily question all)
    → (clause : Clause) → Refutes some clause → Refutes all clause
refutes_more some all within = refutes_on some all (subsumed_where some all (each_of_its (λ question. IsOfFamily question all) some within))
