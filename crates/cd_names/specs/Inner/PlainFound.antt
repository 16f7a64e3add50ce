-- What the code finds, as plain data.
use Rattle.std.specs.Prelude.{List, map}
use Rattle.std.specs.Borrow.{Bor}
use Rattle.cd_syntax.specs.PlainTree.{plain as plain_tree}
use Rattle.cd_syntax.specs.TypeTree.{Tree}
use Rattle.cd_syntax.specs.declared.type_tree.Tree.{Tree as CodeTree}
use Rattle.cd_names.specs.Inner.FindingInPrograms as walk
use Rattle.cd_resolve.specs.PlainReported.{plain_reported}
use Rattle.cd_names.specs.declared.found.Found.{Found}

abbrev pub plain_trees : List (Bor CodeTree) → List Tree
plain_trees trees = map (λ one. plain_tree one.now) trees

abbrev pub plain_found : Found → walk.Found
plain_found found = record {
  faults = map plain_reported found.faults.items;
  trees = plain_trees found.trees.items;
}
