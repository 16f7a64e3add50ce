use Rattle.std.proofs.Common.{◌∙◌, ap, sym, subst, IfOk}
use Rattle.cd_model.specs.Thing.{Atom}
use Rattle.cd_cells.specs.Table.{table, IsAt}
use Rattle.cd_typing.specs.Operators as operators
use Rattle.cd_operations.proofs.Literals.{true_characters, false_characters}
use Rattle.cd_operations.proofs.Labels.{true_label, false_label}
use Rattle.cd_operations.proofs.truths.truth.Goals as goal

pub atom-requires : goal.atom-requires
atom-requires c = true_label

pub atom-requires-2 : goal.atom-requires-2
atom-requires-2 c = false_label

pub returns-then-is_true-clause-is : goal.returns-then-is_true-clause-is
returns-then-is_true-clause-is c =
    subst (λ v. IfOk c.atom.result (λ id. IsAt (table c.atom.new.self) id.0 v))
    (ap Atom true_characters ∙ ap operators.truth (sym c.if-is_true.true)) c.atom.ensures.is

pub returns-clause-is : goal.returns-clause-is
returns-clause-is c =
    subst (λ v. IfOk c.atom-2.result (λ id. IsAt (table c.atom-2.new.self) id.0 v))
    (ap Atom false_characters ∙ ap operators.truth (sym c.if-is_true.false)) c.atom-2.ensures.is
