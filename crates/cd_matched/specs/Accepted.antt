-- Nodes of what patterns take.
use Rattle.std.specs.Prelude.{List, [], ◌∷◌}
use Rattle.cd_sets.specs.declared.node_id.NodeId.{NodeId}
use Rattle.cd_syntax.specs.TypeTree.{Tree}
use Rattle.cd_model.specs.Formula.{Graph}
use Rattle.cd_model.specs.Scope.{Scope}
use Rattle.cd_typing.specs.Sites.{Site, Closed, IsMatched}

-- a closed site with these patterns
abbrev pub closed : List Tree → Site
closed patterns = record { kind = Closed; patterns = patterns }

module _ (scope : Scope) (graph : Graph) where
  -- the node holds just what the pattern takes
  abbrev pub IsAccepted : Tree → NodeId → Type 0
  IsAccepted pattern = IsMatched scope graph (closed (pattern ∷ []))

  -- a node for each pattern
  abbrev pub AreAccepted : List Tree → List NodeId → Type 0
  AreAccepted [] [] = Unit {0}
  AreAccepted [] (id ∷ ids) = ⊥
  AreAccepted (pattern ∷ patterns) [] = ⊥
  AreAccepted (pattern ∷ patterns) (id ∷ ids) =
      IsAccepted pattern id × AreAccepted patterns ids
