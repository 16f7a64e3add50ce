use Rattle.cd_sets.proofs.Parts.{each_is_part, each_part_is}
use Rattle.cd_sets.proofs.laws.subsets_are_parts.Goals as goal

pub returns-clause-each_is_part : goal.returns-clause-each_is_part
returns-clause-each_is_part c = each_is_part

pub returns-clause-each_part_is : goal.returns-clause-each_part_is
returns-clause-each_part_is c = each_part_is
