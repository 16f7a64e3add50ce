use Rattle.cd_empty.specs.Seen.{graph_of}
use Rattle.cd_closures.proofs.FunctionsAdded.{code_adds}
use Rattle.cd_closures.proofs.functions.add_unlisted.Goals as goal

pub returns-clause-table : goal.returns-clause-table
returns-clause-table c = λ scope left has. code_adds (graph_of c.args.world.now) scope c.args.asked.now c.args.function.now has
    c.args.maps.now c.list.new.self c.add_entries.new.maps c.requires.unlisted c.in_ok-list.ensures.listed
    c.in_ok-add_entries.ensures.added left
