use Rattle.std.proofs.Common.{rules}
use Rattle.cd_notation.proofs.LastPlaces.{last_within}
use Rattle.cd_notation.proofs.open_labels.OpenLabels.pop.Goals as goal

pub index_mut-requires : goal.index_mut-requires
index_mut-requires c =
    let old = c.args.self.now in
    let within = last_within c.pop.new.self.items c.in-Some.last old.open.items old.ends.items (search rules) old.sound in
    search (rules, within)
