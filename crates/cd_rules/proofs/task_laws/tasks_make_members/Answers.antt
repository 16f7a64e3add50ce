use Rattle.cd_model.specs.Membership.{answers}
use Rattle.cd_rules.specs.InRow.{thing_at}
use Rattle.cd_rules.specs.Rows.{labels_of}
use Rattle.std.proofs.Common.{◌++◌}
use Rattle.cd_rules.proofs.MembersOfTasks.{pair_of_task, xml_of_task, record_of_task, record_in_row}
use Rattle.cd_rules.proofs.task_laws.tasks_make_members.Goals as goal

pub returns-clause-pair : goal.returns-clause-pair
returns-clause-pair c = λ graph first second wanted refused given left is in_way outside.
    pair_of_task graph first second wanted refused given left is in_way.0 in_way.1.0 outside

pub returns-clause-xml : goal.returns-clause-xml
returns-clause-xml c = λ graph tag attributes content wanted refused given left is in_way outside.
    xml_of_task graph tag attributes content wanted refused given left is in_way.0 in_way.1.0 in_way.1.1.0 outside

pub returns-clause-record_of_row : goal.returns-clause-record_of_row
returns-clause-record_of_row c = λ graph fields wanted refused given left is for_row outside.
    record_of_task graph fields wanted refused given left is
    (record_in_row (answers graph) (thing_at fields) (labels_of (wanted ++ refused)) wanted given for_row) outside
