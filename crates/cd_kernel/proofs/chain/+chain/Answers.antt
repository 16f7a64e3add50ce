use Rattle.std.proofs.Common.{◌∙◌, ap}
use Rattle.cd_matching.specs.PlainKernel.{plain_nodes}
use Rattle.cd_kernel.specs.Inner.Building.{put}
use Rattle.cd_kernel.specs.Inner.PlainJoint.{plain_joint}
use Rattle.cd_kernel.proofs.ChainsBuilt.{by_halves}
use Rattle.cd_kernel.proofs.chain.+chain.Goals as goal

-- the node over both halves is put after their chains
pub returns-in_ok-put-in-len1-up-2 : goal.returns-in_ok-put-in-len1-up-2
returns-in_ok-put-in-len1-up-2 t c =
    by_halves (plain_joint c.args.joint) c.args.none c.args.numbers.now
    (plain_nodes c.args.nodes.now.items)
    (c.in_ok-first-in-len1-up-2.first, plain_nodes c.chain.new.nodes.items)
    (c.in_ok-second-in-len1-up-2.second, plain_nodes c.chain-in-len1-up-2.new.nodes.items)
    (c.in_ok-put-in-len1-up-2.field-0, plain_nodes c.put-in-len1-up-2.new.nodes.items)
    c.if-is_empty.ensures c.in_ok-first-in-len1-up-2.ensures c.in_ok-second-in-len1-up-2.ensures
    (c.in_ok-put-in-len1-up-2.ensures
    ∙ ap (λ node. put node (plain_nodes c.chain-in-len1-up-2.new.nodes.items)) c.node.ensures)
