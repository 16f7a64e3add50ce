-- The steps of products, triples and rows, and the entries of a table.
use Rattle.std.proofs.Common.{◌≡◌, ℕ, List, [], ◌∷◌, inl, inr, Some, None, ap}
use Rattle.std.proofs.Common.{subst}
use Rattle.cd_sets.specs.declared.question.Question.{Question}
use Rattle.cd_model.specs.AllOf.{AllOf, AnyOf}
use Rattle.cd_filter.specs.Table.{Place, Step, Leads, Gathers, Table, HasPlace, IsAmong, HasStep}
use Rattle.cd_filter.specs.Table.{at}
use Rattle.cd_filter.specs.Table.{pair_steps, gather_steps, triple_steps}

abbrev pub Product : Type 0
Product = Question × Question

abbrev pub Triple : Type 0
Triple = Question × Question × Question

-- the steps of one product, and of one triple
abbrev pub PairLeads : (first second : ℕ) → List Product → Product → Type 0
PairLeads first second products product =
    IsAmong (Leads None (at first product.0)) (pair_steps first second products)
    × IsAmong (Leads None (at second product.1)) (pair_steps first second products)

abbrev pub GatherLeads : (variable first second : ℕ) → List Product → Product → Type 0
GatherLeads variable first second products product =
    IsAmong (Leads None (at first product.0)) (gather_steps variable first second products)
    × IsAmong (Leads (Some variable) (at second product.1))
    (gather_steps variable first second products)
    × IsAmong (Gathers variable product.0 (at second product.1))
    (gather_steps variable first second products)

abbrev pub TripleLeads : (tag attributes content : ℕ) → List Triple → Triple → Type 0
TripleLeads tag attributes content triples triple =
    IsAmong (Leads None (at tag triple.0)) (triple_steps tag attributes content triples)
    × IsAmong (Leads None (at attributes triple.1)) (triple_steps tag attributes content triples)
    × IsAmong (Leads None (at content triple.2)) (triple_steps tag attributes content triples)

pub pair_leads : (first second : ℕ) (product : Product) (products : List Product)
    → AnyOf (λ other. other ≡ product) products → PairLeads first second products product
pair_leads first second product [] among = absurd among
pair_leads first second product (other ∷ products) (inl same) = (
  inl (ap (λ (p : Product). Leads None (at first p.0)) same),
  inr (inl (ap (λ (p : Product). Leads None (at second p.1)) same)),
)
pair_leads first second product (other ∷ products) (inr later) =
    let found = pair_leads first second product products later in
    (inr (inr found.0), inr (inr found.1))

pub gather_leads : (variable first second : ℕ) (product : Product) (products : List Product)
    → AnyOf (λ other. other ≡ product) products
    → GatherLeads variable first second products product
gather_leads variable first second product [] among = absurd among
gather_leads variable first second product (other ∷ products) (inl same) = (
  inl (ap (λ (p : Product). Leads None (at first p.0)) same),
  inr (inl (ap (λ (p : Product). Leads (Some variable) (at second p.1)) same)),
  inr (inr (inl (ap (λ (p : Product). Gathers variable p.0 (at second p.1)) same))),
)
gather_leads variable first second product (other ∷ products) (inr later) =
    let found = gather_leads variable first second product products later in
    (inr (inr (inr found.0)), inr (inr (inr found.1)), inr (inr (inr found.2)))

pub triple_leads : (tag attributes content : ℕ) (triple : Triple) (triples : List Triple)
    → AnyOf (λ other. other ≡ triple) triples
    → TripleLeads tag attributes content triples triple
triple_leads tag attributes content triple [] among = absurd among
triple_leads tag attributes content triple (other ∷ triples) (inl same) = (
  inl (ap (λ (t : Triple). Leads None (at tag t.0)) same),
  inr (inl (ap (λ (t : Triple). Leads None (at attributes t.1)) same)),
  inr (inr (inl (ap (λ (t : Triple). Leads None (at content t.2)) same))),
)
triple_leads tag attributes content triple (other ∷ triples) (inr later) =
    let found = triple_leads tag attributes content triple triples later in
    (inr (inr (inr found.0)), inr (inr (inr found.1)), inr (inr (inr found.2)))

-- the entry of a place
pub record Found (Fact : Place × List Step → Type 0) (table : Table) (place : Place) : Type 0 where
  pub steps : List Step
  pub fact : Fact (place, steps)
  pub there : (step : Step) → IsAmong step steps → HasStep table place step

pub find_entry : (Fact : Place × List Step → Type 0) (table : Table) (place : Place)
    → HasPlace table place → AllOf Fact table → Found Fact table place
find_entry Fact [] place one all = absurd one
find_entry Fact (entry ∷ table) place (inl same) all = record {
  steps = entry.1;
  fact = subst (λ (p : Place). Fact (p, entry.1)) same all.0;
  there = λ step is. inl (same, is);
}
find_entry Fact (entry ∷ table) place (inr later) all =
    let found = find_entry Fact table place later all.1 in record {
      steps = found.steps;
      fact = found.fact;
      there = λ step is. inr (found.there step is);
    }

-- the entry of a step: its facts, and the step among its steps
pub entry_of : (Fact : Place × List Step → Type 0) (table : Table) → AllOf Fact table
    → (place : Place) (step : Step) → HasStep table place step
    → (steps : List Step) × Fact (place, steps) × IsAmong step steps
entry_of Fact [] all place step is = absurd is
entry_of Fact (entry ∷ table) all place step (inl (same, among)) =
    (entry.1, subst (λ (p : Place). Fact (p, entry.1)) same all.0, among)
entry_of Fact (entry ∷ table) all place step (inr later) =
    entry_of Fact table all.1 place step later
