-- The clauses of the functions in a node: the arrows that are wanted, and those that are refused.
use Rattle.std.specs.Prelude.{◌≡◌, ℕ, List, [], ◌∷◌, ◌++◌}
use Rattle.cd_sets.specs.declared.node_id.NodeId.{NodeId}
use Rattle.cd_model.specs.AllOf.{AllOf, AnyOf}
use Rattle.cd_model.specs.Formula.{Graph}
use Rattle.cd_model.specs.Thing.{Thing}
use Rattle.cd_rules.specs.Clauses.{Clause, Pair, Arrows, IsClauseOfQuestion}
use Rattle.cd_rules.specs.Members.{HasMember}
use Rattle.cd_rules.specs.Needs.{question}
use Rattle.cd_rules.specs.Within.{IsPairWithin}
use Rattle.cd_apply.specs.Inner.Results.{IsBeyond, IsResult}

pub record FunctionClause : Type 0 where
  pub wanted : List Pair
  pub refused : List Pair

-- its arrows are of nodes among so many
abbrev pub IsClauseWithin : ℕ → FunctionClause → Type 0
IsClauseWithin nodes clause =
    AllOf (IsPairWithin nodes) clause.wanted × AllOf (IsPairWithin nodes) clause.refused

-- those of functions among clauses
abbrev pub function_clause_of : Clause → List FunctionClause
function_clause_of (Arrows wanted refused) = record { wanted = wanted; refused = refused } ∷ []
function_clause_of clause = []

abbrev pub functions_among : List Clause → List FunctionClause
functions_among [] = []
functions_among (clause ∷ clauses) = function_clause_of clause ++ functions_among clauses

module _ (graph : Graph) where
  abbrev pub IsClauseOf : (function : NodeId) → FunctionClause → Type 0
  IsClauseOf function clause = IsClauseOfQuestion graph (question (function ∷ []) [])
      (Arrows clause.wanted clause.refused)

  -- these are all of a node's
  pub record AreClausesOf (function : NodeId) (clauses : List FunctionClause) : Type 0 where
    pub sound : AllOf (IsClauseOf function) clauses
    pub complete : (clause : FunctionClause) → IsClauseOf function clause
        → AnyOf (λ other. other ≡ clause) clauses

  -- some function is in a clause
  abbrev pub HasFunction : FunctionClause → Type 0
  HasFunction clause = HasMember graph (Arrows clause.wanted clause.refused)

  -- some function of a clause has a result for an argument in a node, and may fail at an argument
  abbrev pub GivesResult : (argument : NodeId) → (to : Thing) → FunctionClause → Type 0
  GivesResult argument to clause =
      HasFunction clause × IsResult graph (question (argument ∷ []) []) clause.wanted to

  abbrev pub MayFailAt : (from : Thing) → FunctionClause → Type 0
  MayFailAt from clause = HasFunction clause × AllOf (IsBeyond graph from) clause.wanted
