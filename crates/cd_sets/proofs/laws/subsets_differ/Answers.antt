use Rattle.std.proofs.Common.{None}
use Rattle.cd_sets.proofs.Parts.{count, all_differ, all_rise}
use Rattle.cd_sets.proofs.laws.subsets_differ.Goals as goal

pub returns-clause-count : goal.returns-clause-count
returns-clause-count c = count

pub returns-clause-differ : goal.returns-clause-differ
returns-clause-differ c = all_differ None

pub returns-clause-rise : goal.returns-clause-rise
returns-clause-rise c = all_rise None
