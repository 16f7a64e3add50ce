use Rattle.std.proofs.Common.{sym, subst}
use Rattle.cd_program.specs.PlainExpr.{plain}
use Rattle.cd_cells.specs.Cells.{thing_at}
use Rattle.cd_cells.specs.Table.{table}
use Rattle.cd_evaluation.specs.Environment.{Env}
use Rattle.cd_machine.specs.Inner.AtHand.{Gives}
use Rattle.cd_machine.specs.Inner.CodeIn.{code_in}
use Rattle.cd_machine.specs.Inner.PlainFrame.{env_at}
use Rattle.cd_machine.proofs.NodesAdded.{longer_same}
use Rattle.cd_cells.proofs.GrownTables.{thing_grown, further}
use Rattle.cd_machine.proofs.Staying.{still_each, env_stays}
use Rattle.cd_machine.proofs.at_hand.strictly.Goals as goal

pub at_hand-requires-2-clause-sound : goal.at_hand-requires-2-clause-sound
at_hand-requires-2-clause-sound c =
    still_each c.args.values.now c.at_hand.new.values c.at_hand.ensures.grows c.args.environments.now c.requires.sound

pub returns-clause-computes : goal.returns-clause-computes
returns-clause-computes c =
    let code = code_in c.args.code.now in
    let environments = c.args.environments.now in
    let env = c.args.env in
    let one = c.at_hand.new.values in
    let two = c.at_hand-2.new.values in
    let new = c.operated.new.values in
    let later = further one two new c.at_hand-2.ensures.grows c.operated.ensures.grows in
    let sound_one = still_each c.args.values.now one c.at_hand.ensures.grows environments c.requires.sound in
    let sound_two = still_each one two c.at_hand-2.ensures.grows environments sound_one in
    let first = rw c.in-Some.is at c.in_ok-left.ensures.gives in
    let second = rw c.in-Some-2.is at c.in_ok-right.ensures.gives in
    record {
      strict = c.requires.strict;
      left = thing_at (table new) c.in-Some.left.0;
      right = thing_at (table new) c.in-Some-2.right.0;
      first_gives = subst (λ (around : Env). Gives code (plain c.args.first.now) around (thing_at (table new) c.in-Some.left.0))
          (sym (env_stays one new later environments environments (longer_same environments) sound_one env c.requires.env))
          (subst (Gives code (plain c.args.first.now) (env_at one environments env))
          (sym (thing_grown one new later c.in-Some.left.0 (rw c.in-Some.is at c.in_ok-left.ensures.within))) first);
      second_gives = subst (λ (around : Env). Gives code (plain c.args.second.now) around (thing_at (table new) c.in-Some-2.right.0))
          (sym (env_stays two new c.operated.ensures.grows environments environments (longer_same environments) sound_two env c.requires.env))
          (subst (Gives code (plain c.args.second.now) (env_at two environments env))
          (sym (thing_grown two new c.operated.ensures.grows c.in-Some-2.right.0 (rw c.in-Some-2.is at c.in_ok-right.ensures.within))) second);
      makes = c.in_ok-outcome.ensures.is;
    }
