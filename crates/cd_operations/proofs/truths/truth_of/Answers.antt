use Rattle.std.proofs.Common.{ap, ◌∙◌}
use Rattle.cd_evaluation.specs.Operations as operations
use Rattle.cd_operations.proofs.TruthNames.{is_true, is_false, is_neither}
use Rattle.cd_operations.proofs.truths.truth_of.Goals as goal

pub returns-then-is_named : goal.returns-then-is_named
returns-then-is_named c = is_true _ c.if-is_named.ensures ∙ ap operations.truth_of c.in-Atom.ensures.thing

pub returns-then-is_named-2 : goal.returns-then-is_named-2
returns-then-is_named-2 c = is_false _ c.if-is_named.ensures c.if-is_named-2.ensures ∙ ap operations.truth_of c.in-Atom.ensures.thing

pub returns : goal.returns
returns c = is_neither _ c.if-is_named.ensures c.if-is_named-2.ensures ∙ ap operations.truth_of c.in-Atom.ensures.thing
