use Rattle.std.proofs.Common.{◌≡◌, ◌++◌, map, drop}
use Rattle.cd_matching.specs.PlainKernel.{plain_nodes}
use Rattle.cd_explored.specs.Inner.Plan.{text_in}
use Rattle.cd_explored.proofs.constants.texts_of.Given as goal

-- the texts so far, and those of the nodes that are left, are those of all
abbrev pub invariant-loop-node : goal.invariant-loop-node
invariant-loop-node l = map (λ text. text.items) l.texts.items
    ++ map text_in (plain_nodes (drop l.node-index l.nodes)) ≡ map text_in (plain_nodes l.nodes)
