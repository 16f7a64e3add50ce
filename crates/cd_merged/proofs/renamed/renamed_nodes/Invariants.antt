use Rattle.std.proofs.Common.{◌≡◌, ◌++◌, map, drop}
use Rattle.cd_matching.specs.PlainKernel.{plain_nodes}
use Rattle.cd_merged.specs.Inner.Classes.{class_of, nodes_at}
use Rattle.cd_merged.specs.Merged.{renamed}
use Rattle.cd_merged.proofs.renamed.renamed_nodes.Given as goal

-- those that were gone over, and those that are left
abbrev pub invariant-loop-first : goal.invariant-loop-first
invariant-loop-first l = plain_nodes l.all.items
    ++ map (renamed (class_of l.numbers))
    (plain_nodes (nodes_at l.nodes (drop l.first-index l.firsts)))
    ≡ map (renamed (class_of l.numbers)) (plain_nodes (nodes_at l.nodes l.firsts))
