-- Formulas for the nodes of a kernel as they are formed, in rows with a place for each node.
use Rattle.std.specs.Prelude.{◌≡◌, ◌<◌, ◌==◌, ℕ, Bool, true, List, [], ◌∷◌, ◌++◌, map}
use Rattle.std.specs.Prelude.{length, Option, Some, None, is_some, if◌then◌else◌}
use Rattle.std.specs.List.{slice_get, list_any, list_all}
use Rattle.std.specs.Option.{unwrap_or}
use Rattle.cd_sets.specs.declared.node_id.NodeId.{NodeId}
use Rattle.cd_model.specs.Formula as formula
use Rattle.cd_model.specs.Formula.{Graph, Formula, formulas_of, AreRisingLabels}
use Rattle.cd_graph.specs.PlainFormula.{plain}
use Rattle.cd_matching.specs.Kernel.{KernelNode, Test, Record, Both, First}
use Rattle.cd_filter.specs.Accepting.{AreMembers, own_formula, Accepts}
use Rattle.cd_filter.specs.Simpler.{IsSimpler}
use Rattle.cd_filter.specs.declared.formed.Formed.{Formed}

abbrev pub is_among : List ℕ → ℕ → Bool
is_among numbers number = list_any (λ one. one == number) numbers

-- the numbers of one list, and those of another that are not among them
abbrev pub others : (one other : List ℕ) → List ℕ
others one [] = []
others one (number ∷ rest) =
    if is_among one number then others one rest else number ∷ others one rest

abbrev pub joined : (one other : List ℕ) → List ℕ
joined one other = one ++ others one other

-- what is in a row, and in the row of a number
abbrev pub row_formula : Option Formed → Formula
row_formula None = formula.Nothing
row_formula (Some formed) = plain formed.formula

abbrev pub row_members : Option Formed → List ℕ
row_members None = []
row_members (Some formed) = formed.members.items

abbrev pub row_at : List (Option Formed) → ℕ → Option Formed
row_at rows number = unwrap_or (slice_get rows number) None

abbrev pub is_there : List (Option Formed) → ℕ → Bool
is_there rows number = is_some (row_at rows number)

abbrev pub formula_in : List (Option Formed) → ℕ → Formula
formula_in rows number = row_formula (row_at rows number)

abbrev pub members_in : List (Option Formed) → ℕ → List ℕ
members_in rows number = row_members (row_at rows number)

-- the union of the members of two
pub record IsUnion (rows : List (Option Formed)) (p q : ℕ) (formed : Formed) : Type 0 where
  pub members_are : formed.members.items ≡ joined (members_in rows p) (members_in rows q)
  pub first_there : is_there rows p ≡ true
  pub second_there : is_there rows q ≡ true
  pub there : list_all (is_there rows) formed.members.items ≡ true
  pub simpler : IsSimpler (formula.Or (formulas_of (map (formula_in rows) formed.members.items)))
      (plain formed.formula)

-- the formula of two
pub record IsMeet (rows : List (Option Formed)) (number p q : ℕ) (formed : Formed) : Type 0 where
  pub members_are : formed.members.items ≡ number ∷ []
  pub first_there : is_there rows p ≡ true
  pub second_there : is_there rows q ≡ true
  pub simpler : IsSimpler
      (formula.And (formulas_of (formula_in rows p ∷ formula_in rows q ∷ [])))
      (plain formed.formula)

pub record IsAlone (number : ℕ) (f : Formula) (formed : Formed) : Type 0 where
  pub members_are : formed.members.items ≡ number ∷ []
  pub formula_is : plain formed.formula ≡ f

-- what is formed for a node with this number
abbrev pub IsFormOf : Graph → (first : ℕ) → List (Option Formed) → (number : ℕ)
    → KernelNode NodeId → Formed → Type 0
IsFormOf graph first rows number (Both p q) = IsMeet rows number p q
IsFormOf graph first rows number (First p q) = IsUnion rows p q
IsFormOf graph first rows number node = IsAlone number (own_formula graph first node)

-- a node whose types are those of a graph with so many nodes, and whose labels rise
abbrev pub HasTypes : (types : ℕ) → KernelNode NodeId → Type 0
HasTypes types (Test id) = id.0 < types
HasTypes types (Record named more) = AreRisingLabels None named
HasTypes types node = Unit {0}

module _ (graph : Graph) (nodes : List (KernelNode NodeId)) (first : ℕ) where
  -- what is formed is right
  pub record IsFormed (number : ℕ) (formed : Formed) : Type 0 where
    pub members : AreMembers nodes number formed.members.items
    pub accepts : Accepts graph nodes first number (plain formed.formula)

  pub record AreFormed (rows : List (Option Formed)) : Type 0 where
    pub formed : (number : ℕ) (one : Formed) → slice_get rows number ≡ Some (Some one)
        → IsFormed number one

  -- a formula for each node
  pub record IsBatch (batch : List Formula) : Type 0 where
    pub count : length batch ≡ length nodes
    pub accepts : (number : ℕ) (f : Formula) → slice_get batch number ≡ Some f
        → Accepts graph nodes first number f
