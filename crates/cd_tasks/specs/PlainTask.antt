-- The tasks of the code as tasks of the rules.
use Rattle.cd_needs.specs.RecordType.{record_types}
use Rattle.cd_needs.specs.PlainReasons.{plain_reasons}
use Rattle.cd_rules.specs.Tasks as rules
use Rattle.cd_tasks.specs.declared.task.Task.{Task}
use Rattle.cd_tasks.specs.declared.task.Task.TheVariants.{Pair, Xml, Arrow, Record}

abbrev pub plain_task : Task → rules.Task
plain_task (Pair task) = rules.PairTask task.wanted.value.items task.refused.value.items
    (task.firsts.items, task.seconds.items) task.left.value.items
plain_task (Xml task) = rules.XmlTask task.wanted.value.items task.refused.value.items
    (task.tags.items, task.attributes.items, task.contents.items) task.left.value.items
plain_task (Arrow task) = rules.ArrowTask task.refused task.wanted.value.items
    (task.outside.items, task.results.items) task.left.value.items
plain_task (Record task) = rules.RecordTask (record_types task.wanted.value.items)
    (record_types task.refused.value.items) (plain_reasons task.given.items)
    (record_types task.left.value.items)
