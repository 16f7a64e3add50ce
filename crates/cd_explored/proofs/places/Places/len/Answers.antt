use Rattle.std.proofs.Common.{◌≡◌, ℕ, List, Some, subst}
use Rattle.std.specs.List.{slice_get}
use Rattle.cd_explored.specs.declared.place.Place.{Place}
use Rattle.cd_explored.proofs.SamePlaces.{one_number}
use Rattle.cd_explored.proofs.places.Places.len.Goals as goal

pub returns-clause-once : goal.returns-clause-once
returns-clause-once c = subst (λ (places : List Place). (one other : ℕ) (place : Place)
    → slice_get places one ≡ Some place → slice_get places other ≡ Some place → one ≡ other)
    c.self.view_is
    (λ one other place. one_number c.self.inside.places.keys one other place
    c.len.ensures.unique)
