-- The places that steps lead to.
use Rattle.cd_filter.specs.Table.{Place, Step, Takes, Puts, Leads, Gathers}

-- the place that the step leads to, where it leads to one, has the fact
abbrev pub NextHas : (Place → Type 0) → Step → Type 0
NextHas fact (Takes variable) = Unit {0}
NextHas fact (Puts variable constant) = Unit {0}
NextHas fact (Leads but next) = fact next
NextHas fact (Gathers variable item next) = fact next
