-- The parts of an element's pairs are elements, and what maps one set into another maps fewer into
-- more.
use Rattle.std.proofs.Common.{inl, inr, subst}
use Rattle.cd_model.specs.Thing.{Thing, IsElement, Pairs, NoPair, Maps, Fails, ArePairs}
use Rattle.cd_meaning.specs.Functions.{HasPair, FailsAt, MapsInto}
use Rattle.cd_meaning.specs.Sets.{Set, ◌⊆◌}

pub from_is_element : (pairs : Pairs) → ArePairs pairs → (from to : Thing) → HasPair pairs from to → IsElement from × IsElement to
from_is_element NoPair are from to has = absurd has
from_is_element (Maps one other rest) are from to (inl here) = (subst IsElement here.0 are.0, subst IsElement here.1 are.1)
from_is_element (Maps one other rest) are from to (inr later) = from_is_element rest are.2 from to later
from_is_element (Fails one rest) are from to has = from_is_element rest are.1 from to has

failing_is_element : (pairs : Pairs) → ArePairs pairs → (from : Thing) → FailsAt pairs from → IsElement from
failing_is_element NoPair are from has = absurd has
failing_is_element (Maps one other rest) are from has = failing_is_element rest are.2 from has
failing_is_element (Fails one rest) are from (inl here) = subst IsElement here are.0
failing_is_element (Fails one rest) are from (inr later) = failing_is_element rest are.1 from later

pub maps_same : (pairs : Pairs) → ArePairs pairs → (arguments fewer results more : Set) → fewer ⊆ arguments → results ⊆ more
    → MapsInto pairs arguments results → MapsInto pairs fewer more
maps_same pairs are arguments fewer results more less wider maps = record {
  total = λ from fails inside. maps.total from fails (less from (failing_is_element pairs are from fails) inside);
  into = λ from to has inside. let elements = from_is_element pairs are from to has in
      wider to elements.1 (maps.into from to has (less from elements.0 inside));
}
