use Rattle.std.proofs.Common.{arith, ◌≡◌, ◌∷◌, ◌+◌, ◌-◌, ◌<◌, List, ap, ◌∙◌, sym, get_or, length}
use Rattle.cd_cells.specs.declared.cell.Part.{Part}
use Rattle.cd_machine.specs.declared.environments.Node.{Node}
use Rattle.cd_machine.specs.Inner.Nodes.{parts_at, lists}
use Rattle.cd_machine.proofs.NodesAdded.{first_empty, beyond, node_found}
use Rattle.cd_machine.proofs.environments.Environments.node.Goals as goal

pub returns-then-number-eq0 : goal.returns-then-number-eq0
returns-then-number-eq0 c =
    ap (λ all. parts_at all c.args.number) (sym c.self.view_is) ∙ ap (parts_at (lists c.self.inside.nodes.items)) c.if-number-eq0.true ∙ first_empty c.self.inside.nodes.items

pub returns-in-Some : goal.returns-in-Some
returns-in-Some c =
    let nodes = c.self.inside.nodes.items in
    let place : c.args.number ≡ 1 + (c.args.number - 1) = omega arith in
    let node = c.in-Some.node.now in
    let same : length c.as_slice-nodes.result.now ≡ length nodes = ap length c.as_slice-nodes.ensures.value in
    let less : c.args.number - 1 < length nodes = omega (arith, same, c.in-Some.ensures.lookup.3.0) in
    let found = node_found nodes (c.args.number - 1) node node c.self.invariant less
    (ap (λ (all : List Node). get_or all (c.args.number - 1) node) (sym c.as_slice-nodes.ensures.value) ∙ sym (c.in-Some.ensures.lookup.3.1 node)) in (
      ap (λ all. parts_at all c.args.number) (sym c.self.view_is) ∙ ap (parts_at (lists nodes)) place ∙ found.0
          ∙ ap (λ (all : List (List Part)). node.part ∷ parts_at all node.around) c.self.view_is,
      omega (arith, found.1),
    )

pub returns-in-None : goal.returns-in-None
returns-in-None c =
    let nodes = c.self.inside.nodes.items in
    let place : c.args.number ≡ 1 + (c.args.number - 1) = omega arith in
    let same : length c.as_slice-nodes.result.now ≡ length nodes = ap length c.as_slice-nodes.ensures.value in
    ap (λ all. parts_at all c.args.number) (sym c.self.view_is) ∙ ap (parts_at (lists nodes)) place
    ∙ beyond nodes (c.args.number - 1) (omega (arith, same, c.in-None.ensures.lookup.3))
