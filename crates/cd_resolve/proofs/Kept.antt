-- Names whose nodes stand for what a list declares do so in each longer graph.
use Rattle.std.proofs.Common.{◌++◌, Option, Some, None}
use Rattle.cd_sets.specs.declared.node_id.NodeId.{NodeId}
use Rattle.cd_syntax.specs.Name.{Name}
use Rattle.cd_syntax.specs.TypeTree.{Tree, Declarations}
use Rattle.cd_model.specs.Formula.{Graph, IsGraph}
use Rattle.cd_model.specs.Scope.{tree_in}
use Rattle.cd_model.proofs.StandsKept.{stands_kept}
use Rattle.cd_resolve.specs.Named.{Names, IsNamed, AreNamed, node_of, type_named}

named_kept : (graph more : Graph) (declarations : Declarations) (name : Name) (is : Option Tree) (id : Option NodeId)
    → IsGraph graph → IsNamed graph declarations name is id → IsNamed (graph ++ more) declarations name is id
named_kept graph more declarations name None None sound named = tt
named_kept graph more declarations name (Some is) (Some id) sound named =
    stands_kept graph more id (type_named declarations name) sound named
named_kept graph more declarations name None (Some id) sound named = named
named_kept graph more declarations name (Some is) None sound named = named

pub names_kept : (graph more : Graph) (names : Names) → IsGraph graph → AreNamed graph names
    → AreNamed (graph ++ more) names
names_kept graph more names sound are = record {
  each = λ name. named_kept graph more names.declarations name (tree_in names.declarations name)
      (node_of names name) sound (are.each name);
}
