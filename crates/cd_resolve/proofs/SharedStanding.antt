-- What nodes stand for, in the formulas in which equal nodes are named by one number.
use Rattle.std.proofs.Common.{◌≡◌, ℕ, ◌+◌, ◌<◌, List, [], ◌∷◌, ◌++◌, map, length, Option, Some, None, refl, sym}
use Rattle.std.proofs.Common.{subst, arith}
use Rattle.std.proofs.lemmas.List.{length-append}
use Rattle.cd_sets.specs.declared.node_id.NodeId.{NodeId}
use Rattle.cd_syntax.specs.Name.{Name}
use Rattle.cd_syntax.specs.TypeTree.{Tree, Declarations}
use Rattle.cd_model.specs.Formula.{Graph, Formula}
use Rattle.cd_model.specs.Scope.{tree_in}
use Rattle.cd_model.specs.StandsFor.{StandsFor}
use Rattle.cd_model.specs.Written.{Written}
use Rattle.cd_shared.specs.Equation.{Equations}
use Rattle.cd_shared.proofs.Images.{stand}
use Rattle.cd_resolve.specs.Named.{Names, AreNamed, IsNamed, node_of}
use Rattle.cd_resolve.specs.Wanted.{Pairwise}
use Rattle.cd_resolve.specs.Inner.Solves.{AgreesWith, IsSolution}
use Rattle.cd_resolve.proofs.BuiltInNodes.{Begins}
use Rattle.cd_resolve.proofs.Resolving.{begins_longer}

module _ (old : Graph) (first : ℕ) (equations : Equations) (class : NodeId → NodeId)
    (batch : List Formula) (is : IsSolution old first equations class batch)
    (size : length batch ≡ length equations) (graph : Graph) (long : length graph ≡ first)
    (agrees : AgreesWith old graph) (begins : Begins graph) where
  abbrev by_itself : Graph
  by_itself = graph ++ is.formulas

  abbrev together : Graph
  together = graph ++ batch

  total : length together ≡ first + length equations
  total = let more = length-append graph batch in omega (arith, more, size, long)

  plain_total : length by_itself ≡ first + length equations
  plain_total = let more = length-append graph is.formulas in
      let number = is.number in omega (arith, more, number, long)

  -- a node stands for the same type
  pub stands_too : (id : NodeId) (type : Written) → StandsFor by_itself id type
      → StandsFor together id type
  stands_too id type stands =
      let node = stands.is_node in
      stand class by_itself together (is.image graph long agrees) id id type refl
      (omega (arith, node, total, plain_total)) (begins_longer graph batch begins) stands

  -- and so does its class
  pub class_stands : (id : NodeId) (type : Written) → StandsFor by_itself id type
      → StandsFor together (class id) type
  class_stands id type stands =
      let image = is.image graph long agrees in
      let node = stands.is_node in
      let below = is.below id (omega (arith, node, plain_total)) in
      stand class by_itself together image id (class id) type (sym (image.once id))
      (omega (arith, below, total)) (begins_longer graph batch begins) stands

  named_one : (declarations : Declarations) (name : Name) (found : Option Tree)
      (id : Option NodeId) → IsNamed by_itself declarations name found id
      → IsNamed together declarations name found id
  named_one declarations name None None named = tt
  named_one declarations name None (Some id) named = absurd named
  named_one declarations name (Some found) None named = absurd named
  named_one declarations name (Some found) (Some id) named = stands_too id _ named

  pub named_too : (names : Names) → AreNamed by_itself names → AreNamed together names
  named_too names named = record {
    each = λ name. named_one names.declarations name (tree_in names.declarations name)
        (node_of names name) (named.each name);
  }

  pub classes_stand : (ids : List NodeId) (types : List Written)
      → Pairwise (StandsFor by_itself) ids types
      → Pairwise (StandsFor together) (map class ids) types
  classes_stand [] [] stand = tt
  classes_stand [] (type ∷ types) stand = absurd stand
  classes_stand (id ∷ ids) [] stand = absurd stand
  classes_stand (id ∷ ids) (type ∷ types) stand =
      (class_stands id type stand.0, classes_stand ids types stand.1)
