-- Tables of places: for each place, what is captured there.
use Rattle.std.specs.Prelude.{◌≡◌, ℕ, List, [], ◌∷◌, ◌++◌, Option, Some, None}
use Rattle.cd_sets.specs.declared.node_id.NodeId.{NodeId}
use Rattle.cd_sets.specs.declared.question.Question.{Question}
use Rattle.cd_syntax.specs.Name.{Name}
use Rattle.cd_syntax.specs.declared.constant.Constant.{Constant}
use Rattle.cd_model.specs.AllOf.{AnyOf}
use Rattle.cd_matching.specs.Kernel.{Kernel, KernelField, Present, Optional}
use Rattle.cd_rules.specs.Needs.{with_id}

-- the things of a question come to the node with this number
pub record Place : Type 0 where
  pub number : ℕ
  pub question : Question

abbrev pub at : ℕ → Question → Place
at number question = record { number = number; question = question }

-- what is captured at a place
pub data Step : Type 0 where
  -- by this variable what comes there, and this constant
  Takes : (variable : ℕ) → Step
  Puts : (variable : ℕ) → Constant → Step
  -- what is captured at another place, but by this variable
  Leads : (but : Option ℕ) → Place → Step
  -- by this variable an item of the question and then what it captures at another place
  Gathers : (variable : ℕ) → (item : Question) → Place → Step

abbrev pub Table : Type 0
Table = List (Place × List Step)

abbrev pub HasPlace : Table → Place → Type 0
HasPlace table place = AnyOf (λ entry. entry.0 ≡ place) table

abbrev pub IsAmong : Step → List Step → Type 0
IsAmong step = AnyOf (λ other. other ≡ step)

abbrev pub HasStep : Table → Place → Step → Type 0
HasStep table place step = AnyOf (λ entry. (entry.0 ≡ place) × IsAmong step entry.1) table

-- the steps of products, of triples, and of rows, which have a cell for each field that has to be
-- present
abbrev pub pair_steps : (first second : ℕ) → List (Question × Question) → List Step
pair_steps first second [] = []
pair_steps first second (product ∷ products) = Leads None (at first product.0)
    ∷ Leads None (at second product.1) ∷ pair_steps first second products

abbrev pub gather_steps : (variable first second : ℕ) → List (Question × Question) → List Step
gather_steps variable first second [] = []
gather_steps variable first second (product ∷ products) = Leads None (at first product.0)
    ∷ Leads (Some variable) (at second product.1)
    ∷ Gathers variable product.0 (at second product.1)
    ∷ gather_steps variable first second products

abbrev pub triple_steps : (tag attributes content : ℕ) → List (Question × Question × Question)
    → List Step
triple_steps tag attributes content [] = []
triple_steps tag attributes content (triple ∷ triples) = Leads None (at tag triple.0)
    ∷ Leads None (at attributes triple.1) ∷ Leads None (at content triple.2)
    ∷ triple_steps tag attributes content triples

abbrev pub cell_steps : List (Name × KernelField NodeId) → (row : List Question) → List Step
cell_steps [] row = []
cell_steps ((label, Present number) ∷ named) [] = []
cell_steps ((label, Present number) ∷ named) (cell ∷ row) =
    Leads None (at number cell) ∷ cell_steps named row
cell_steps ((label, Optional type) ∷ named) row = cell_steps named row

abbrev pub row_steps : List (Name × KernelField NodeId) → (rows : List (List Question))
    → List Step
row_steps named [] = []
row_steps named (row ∷ rows) = cell_steps named row ++ row_steps named rows

-- the place of what is matched and taken by the root
abbrev pub first_place : Kernel NodeId → (matched : NodeId) → (accepts : ℕ → NodeId) → Place
first_place kernel matched accepts =
    at kernel.root (record { pos = with_id (accepts kernel.root) (matched ∷ []); neg = [] })
