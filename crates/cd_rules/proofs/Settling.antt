-- A clause all of whose questions have a fact or are subsumed by a family has all that it needs, or
-- is refuted.
use Rattle.std.proofs.Common.{◌≡◌, true, false, List, [], ◌∷◌, ◌⊎◌, inl, inr}
use Rattle.std.proofs.lemmas.Bool.{cases_Bool}
use Rattle.cd_sets.specs.declared.question.Question.{Question}
use Rattle.cd_syntax.specs.Name.{Name}
use Rattle.cd_model.specs.AllOf.{AllOf, AnyOf}
use Rattle.cd_rules.specs.Clauses.{Clause, Ints, Chars, Atoms, Pairs, Xmls, Records, Arrows}
use Rattle.cd_rules.specs.Family.{IsSubsumed, RefutesNeed, RefutesRow, HasRefutedNeed, Refutes}
use Rattle.cd_rules.specs.Members.{IsMet, HasWitnesses, HasAllNeeds, IsSupplied}
use Rattle.cd_rules.specs.Needs.{Way, Need}
use Rattle.cd_rules.specs.Rows.{Cell, Row, rows_of}
use Rattle.cd_model.proofs.Ones.{each_weaker}
use Rattle.cd_rules.specs.Settled.{IsSettled, AreSettled, HasSettledRow, HasSettledNeeds, IsSettledClause}

-- each of a list has the one fact, or one of them has the other
pub each_or_one : {X : Type 0} (fact other : X → Type 0) (xs : List X) → AllOf (λ x. fact x ⊎ other x) xs
    → AllOf fact xs ⊎ AnyOf other xs
each_or_one fact other [] settled = inl tt
each_or_one fact other (x ∷ xs) settled = by_first settled.0 (each_or_one fact other xs settled.1)
  where
    by_first : fact x ⊎ other x → AllOf fact xs ⊎ AnyOf other xs → AllOf fact (x ∷ xs) ⊎ AnyOf other (x ∷ xs)
    by_first (inr out) rest = inr (inl out)
    by_first (inl is) (inl each) = inl (is, each)
    by_first (inl is) (inr one) = inr (inr one)

turned : {A B : Type 0} → A ⊎ B → B ⊎ A
turned (inl a) = inr a
turned (inr b) = inl b

module _ (fact : Question → Type 0) (family : List Question) where
  abbrev HasOne : Way → Type 0
  HasOne way = AnyOf (λ question. IsSubsumed question family) way

  -- a need is met, or refuted
  need_settled : (need : Need) → AreSettled fact family need → IsMet fact need ⊎ RefutesNeed family need
  need_settled need settled = turned (each_or_one HasOne (λ way. AllOf fact way) need
      (each_weaker (λ way. AllOf (IsSettled fact family) way) (λ way. HasOne way ⊎ AllOf fact way)
      (λ way each. turned (each_or_one fact (λ question. IsSubsumed question family) way each)) need settled))

  -- all needs are met, or one is refuted
  needs_settled : (needs : List Need) → AllOf (AreSettled fact family) needs
      → AllOf (IsMet fact) needs ⊎ AnyOf (RefutesNeed family) needs
  needs_settled needs settled = each_or_one (IsMet fact) (RefutesNeed family) needs
      (each_weaker (AreSettled fact family) (λ need. IsMet fact need ⊎ RefutesNeed family need) need_settled needs settled)

  -- a cell may be absent, or has the fact, or has to be there and is subsumed
  cell_settled : (cell : Name × Cell) → IsSettled fact family cell.1.value
      → ((cell.1.absent ≡ true) ⊎ fact cell.1.value) ⊎ ((cell.1.absent ≡ false) × IsSubsumed cell.1.value family)
  cell_settled cell settled = by_absent (cases_Bool cell.1.absent) settled
    where
      by_absent : (cell.1.absent ≡ true) ⊎ (cell.1.absent ≡ false) → IsSettled fact family cell.1.value
          → ((cell.1.absent ≡ true) ⊎ fact cell.1.value) ⊎ ((cell.1.absent ≡ false) × IsSubsumed cell.1.value family)
      by_absent (inl absent) settled = inl (inl absent)
      by_absent (inr there) (inl is) = inl (inr is)
      by_absent (inr there) (inr out) = inr (there, out)

  row_settled : (row : Row) → HasSettledRow fact family row → RefutesRow family row ⊎ HasWitnesses fact row
  row_settled row settled = joined
      (each_or_one (λ cell. (cell.1.absent ≡ true) ⊎ fact cell.1.value)
      (λ cell. (cell.1.absent ≡ false) × IsSubsumed cell.1.value family) row.cells
      (each_weaker (λ cell. IsSettled fact family cell.1.value)
      (λ cell. ((cell.1.absent ≡ true) ⊎ fact cell.1.value) ⊎ ((cell.1.absent ≡ false) × IsSubsumed cell.1.value family))
      cell_settled row.cells settled.0))
      (each_or_one fact (λ question. IsSubsumed question family) row.some settled.1)
    where
      joined : AllOf (λ cell. (cell.1.absent ≡ true) ⊎ fact cell.1.value) row.cells
          ⊎ AnyOf (λ cell. (cell.1.absent ≡ false) × IsSubsumed cell.1.value family) row.cells
          → AllOf fact row.some ⊎ AnyOf (λ question. IsSubsumed question family) row.some
          → RefutesRow family row ⊎ HasWitnesses fact row
      joined (inr cell) some = inl (inl cell)
      joined (inl cells) (inr question) = inl (inr question)
      joined (inl cells) (inl some) = inr (cells, some)

  by_needs : (clause : Clause) → HasSettledNeeds fact family clause → HasAllNeeds fact clause ⊎ HasRefutedNeed family clause
  by_needs clause settled = with_needs (needs_settled settled.0 settled.2)
    where
      with_needs : AllOf (IsMet fact) settled.0 ⊎ AnyOf (RefutesNeed family) settled.0
          → HasAllNeeds fact clause ⊎ HasRefutedNeed family clause
      with_needs (inl met) = inl (settled.0, settled.1, met)
      with_needs (inr refuted) = inr (settled.0, settled.1, refuted)

  pub clause_settled : (clause : Clause) → IsSettledClause fact family clause → IsSupplied fact clause ⊎ Refutes family clause
  clause_settled (Ints wanted refused) settled = by_needs (Ints wanted refused) settled
  clause_settled (Chars wanted refused) settled = by_needs (Chars wanted refused) settled
  clause_settled (Atoms wanted refused) settled = by_needs (Atoms wanted refused) settled
  clause_settled (Pairs wanted refused) settled = by_needs (Pairs wanted refused) settled
  clause_settled (Xmls wanted refused) settled = by_needs (Xmls wanted refused) settled
  clause_settled (Arrows wanted refused) settled = by_needs (Arrows wanted refused) settled
  clause_settled (Records wanted refused) settled = turned (each_or_one (RefutesRow family) (HasWitnesses fact) (rows_of wanted refused)
      (each_weaker (HasSettledRow fact family) (λ row. RefutesRow family row ⊎ HasWitnesses fact row) row_settled
      (rows_of wanted refused) settled))
