use Rattle.cd_sites.proofs.SitesStay.{site_stays, site_grown}
use Rattle.cd_sites.proofs.laws.sites_stay.Goals as goal

pub returns-clause-longer : goal.returns-clause-longer
returns-clause-longer c = λ graph more scope written site is sound.
    site_stays graph more sound site scope written is

pub returns-clause-grown : goal.returns-clause-grown
returns-clause-grown c = site_grown
