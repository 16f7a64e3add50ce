use Rattle.std.proofs.Common.{◌≡◌, true, List, sym, ap, ap₂, subst, ◌∙◌}
use Rattle.cd_moves.specs.Automaton.{Move}
use Rattle.cd_moves.specs.declared.moves.Move.{Move as CodeMove}
use Rattle.cd_moves.specs.Inner.PlainMoves.{plain_moves, has_each_once}
use Rattle.cd_moves.specs.Inner.Rows.{plain_row, followed, end_of}
use Rattle.cd_moves.proofs.RowsFollowed.{followed_has_once, without_end_followed, made_followed}
use Rattle.cd_moves.proofs.moves.Moves.followed.Goals as goal
use Rattle.cd_moves.proofs.moves.Moves.followed.Goals.{In_ok-moves-in-Some}

-- a row without an end stays as it is
pub returns-in_ok-copy-in-None : goal.returns-in_ok-copy-in-None
returns-in_ok-copy-in-None c =
    c.in_ok-copy-in-None.ensures
    ∙ sym (without_end_followed (plain_row c.args.self.now) (plain_row c.args.next.now)
    c.args.self.now.once
    (ap (λ (moves : List CodeMove). end_of (plain_moves moves)) (sym c.as_slice-moves.ensures.value)
    ∙ sym c.end.ensures.is ∙ c.in-None.is))

made : (c : In_ok-moves-in-Some)
    → plain_moves c.in_ok-moves-in-Some.moves.items
    ≡ followed (plain_row c.args.self.now) (plain_row c.args.next.now)
made c =
    let row = c.as_slice-moves.ensures.value in
    let others = c.as_slice-others.ensures.value in
    made_followed c.as_slice-moves.result.now c.as_slice-others.result.now
    c.in_ok-moves-in-Some.moves.items c.in-Some.end
    (subst (λ (moves : List CodeMove). has_each_once (plain_moves moves) ≡ true) (sym row)
    c.args.self.now.once)
    (subst (λ (moves : List CodeMove). has_each_once (plain_moves moves) ≡ true) (sym others)
    c.args.next.now.once)
    (sym c.end.ensures.is ∙ c.in-Some.is) c.in_ok-moves-in-Some.ensures
    ∙ ap₂ (λ (one other : List CodeMove). followed (plain_moves one) (plain_moves other)) row others

pub invariant_of-result : goal.invariant_of-result
invariant_of-result c = record {
  once = subst (λ (moves : List Move). has_each_once moves ≡ true) (sym (made c))
      (followed_has_once (plain_row c.args.self.now) (plain_row c.args.next.now));
}

pub returns-in_ok-moves-in-Some : goal.returns-in_ok-moves-in-Some
returns-in_ok-moves-in-Some c =
    made (goal.at.returns-in_ok-moves-in-Some c).In_ok-moves-in-Some
