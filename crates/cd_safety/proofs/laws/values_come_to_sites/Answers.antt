use Rattle.cd_safety.proofs.SitesKept.{stays_in_sites}
use Rattle.cd_safety.proofs.laws.values_come_to_sites.Goals as goal

pub returns : goal.returns
returns c = stays_in_sites
