-- Ranks of names, with which links lead from greater to lesser ones.
use Rattle.std.specs.Prelude.{ℕ, Bool, true, false, nat_lt, List, Option, Some, None, slice_get}
use Rattle.std.specs.List.{list_all}
use Rattle.std.specs.Option.{option_flatten}
use Rattle.cd_syntax.specs.Name.{Name}
use Rattle.cd_resolve.specs.FirstPlaces.{first_place}
use Rattle.cd_resolve.specs.Inner.Finding.{Link}
use Rattle.cd_resolve.specs.declared.ranks.Ranks.{Ranks}

-- the rank at a place, if there is one
abbrev pub rank_at : List (Option ℕ) → Option ℕ → Option ℕ
rank_at ranks None = None
rank_at ranks (Some place) = option_flatten (slice_get ranks place)

abbrev pub rank_of : Ranks → Name → Option ℕ
rank_of ranks name = rank_at ranks.ranks.items (first_place ranks.names name)

-- the end of a link has a lesser rank than its start, if that has one
abbrev pub falls : Option ℕ → Option ℕ → Bool
falls None to = true
falls (Some start) None = false
falls (Some start) (Some to) = nat_lt to start

abbrev pub link_falls : Ranks → Link → Bool
link_falls ranks link = falls (rank_of ranks link.start.name) (rank_of ranks link.to.name)

abbrev pub all_fall : Ranks → List Link → Bool
all_fall ranks links = list_all (link_falls ranks) links
