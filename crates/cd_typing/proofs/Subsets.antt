-- Sets within one another.
use Rattle.cd_meaning.specs.Sets.{Set, ◌⊆◌}

pub itself : (set : Set) → set ⊆ set
itself set e element inside = inside

pub through : (one other last : Set) → one ⊆ other → other ⊆ last → one ⊆ last
through one other last first second e element inside = second e element (first e element inside)
