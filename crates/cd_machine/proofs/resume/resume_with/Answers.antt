use Rattle.cd_machine.proofs.Afterwards.{after_values}
use Rattle.cd_machine.proofs.resume.resume_with.Goals as goal

pub returns-in_ok-paired-in-Second-clause-after : goal.returns-in_ok-paired-in-Second-clause-after
returns-in_ok-paired-in-Second-clause-after c = after_values c.args.code.now c.args.values.now c.paired.new.values c.args.environments.now c.requires.order c.paired.ensures.grows

pub returns-in_err-paired-in-Second-clause-after : goal.returns-in_err-paired-in-Second-clause-after
returns-in_err-paired-in-Second-clause-after c = after_values c.args.code.now c.args.values.now c.paired.new.values c.args.environments.now c.requires.order c.paired.ensures.grows

pub returns-in_ok-put_item-in-Iteming-clause-after : goal.returns-in_ok-put_item-in-Iteming-clause-after
returns-in_ok-put_item-in-Iteming-clause-after c = after_values c.args.code.now c.args.values.now c.put_item.new.values c.args.environments.now c.requires.order c.put_item.ensures.grows

pub returns-in_err-put_item-in-Iteming-clause-after : goal.returns-in_err-put_item-in-Iteming-clause-after
returns-in_err-put_item-in-Iteming-clause-after c = after_values c.args.code.now c.args.values.now c.put_item.new.values c.args.environments.now c.requires.order c.put_item.ensures.grows

pub returns-in_ok-splice-in-Splicing-clause-after : goal.returns-in_ok-splice-in-Splicing-clause-after
returns-in_ok-splice-in-Splicing-clause-after c = after_values c.args.code.now c.args.values.now c.splice.new.values c.args.environments.now c.requires.order c.splice.ensures.grows

pub returns-in_err-splice-in-Splicing-clause-after : goal.returns-in_err-splice-in-Splicing-clause-after
returns-in_err-splice-in-Splicing-clause-after c = after_values c.args.code.now c.args.values.now c.splice.new.values c.args.environments.now c.requires.order c.splice.ensures.grows

pub returns-in_ok-put_field-in-Fielding-clause-after : goal.returns-in_ok-put_field-in-Fielding-clause-after
returns-in_ok-put_field-in-Fielding-clause-after c = after_values c.args.code.now c.args.values.now c.put_field.new.values c.args.environments.now c.requires.order c.put_field.ensures.grows

pub returns-in_err-put_field-in-Fielding-clause-after : goal.returns-in_err-put_field-in-Fielding-clause-after
returns-in_err-put_field-in-Fielding-clause-after c = after_values c.args.code.now c.args.values.now c.put_field.new.values c.args.environments.now c.requires.order c.put_field.ensures.grows

pub returns-in_ok-filled-in-Filling-clause-after : goal.returns-in_ok-filled-in-Filling-clause-after
returns-in_ok-filled-in-Filling-clause-after c = after_values c.args.code.now c.args.values.now c.filled.new.values c.args.environments.now c.requires.order c.filled.ensures.grows

pub returns-in_err-filled-in-Filling-clause-after : goal.returns-in_err-filled-in-Filling-clause-after
returns-in_err-filled-in-Filling-clause-after c = after_values c.args.code.now c.args.values.now c.filled.new.values c.args.environments.now c.requires.order c.filled.ensures.grows

pub returns-in_ok-outcome-in-Wording-clause-after : goal.returns-in_ok-outcome-in-Wording-clause-after
returns-in_ok-outcome-in-Wording-clause-after c = after_values c.args.code.now c.args.values.now c.worded.new.values c.args.environments.now c.requires.order c.worded.ensures.grows

pub returns-in_err-outcome-in-Wording-clause-after : goal.returns-in_err-outcome-in-Wording-clause-after
returns-in_err-outcome-in-Wording-clause-after c = after_values c.args.code.now c.args.values.now c.worded.new.values c.args.environments.now c.requires.order c.worded.ensures.grows

pub returns-in_ok-next_tail-in-Tailing-clause-after : goal.returns-in_ok-next_tail-in-Tailing-clause-after
returns-in_ok-next_tail-in-Tailing-clause-after c = after_values c.args.code.now c.args.values.now c.next_tail.new.values c.args.environments.now c.requires.order c.next_tail.ensures.grows

pub returns-in_err-next_tail-in-Tailing-clause-after : goal.returns-in_err-next_tail-in-Tailing-clause-after
returns-in_err-next_tail-in-Tailing-clause-after c = after_values c.args.code.now c.args.values.now c.next_tail.new.values c.args.environments.now c.requires.order c.next_tail.ensures.grows

pub returns-in_ok-outcome-in-Operating-clause-after : goal.returns-in_ok-outcome-in-Operating-clause-after
returns-in_ok-outcome-in-Operating-clause-after c = after_values c.args.code.now c.args.values.now c.operated.new.values c.args.environments.now c.requires.order c.operated.ensures.grows

pub returns-in_err-outcome-in-Operating-clause-after : goal.returns-in_err-outcome-in-Operating-clause-after
returns-in_err-outcome-in-Operating-clause-after c = after_values c.args.code.now c.args.values.now c.operated.new.values c.args.environments.now c.requires.order c.operated.ensures.grows
