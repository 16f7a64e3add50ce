use Rattle.std.proofs.Common.{◌∙◌, ap, ap₂, take}
use Rattle.cd_lr.specs.Automaton as machine
use Rattle.cd_grammar.specs.Listed.{automaton}
use Rattle.cd_parser.specs.PlainStacks.{plain_stack}
use Rattle.cd_parser.proofs.Stacks.{changed}
use Rattle.cd_parser.proofs.stack.reduce_top.Goals as goal

pub returns : goal.returns
returns g c =
    let cells = c.args.stack.now.items in
    let below = ap (λ items. plain_stack g.P.Parts.plain (take c.args.top items)) c.deref.ensures.value in
    let to =
    c.goto_at-state.ensures
    ∙ ap₂ automaton.goto (c.state_of.ensures ∙ ap machine.state_of below) c.left_of.ensures in
    changed g.P.Parts.plain c.args.most c.args.rule c.args.top cells c.index_mut-cell.result.now _ c.requires
    c.index_mut-cell.ensures.value c.in_ok-remake.ensures to
    (c.room_of-room.ensures ∙ ap (machine.room_of c.args.most) below)
