-- Values along the right of pairs, whatever stands at the end of the pairs.
use Rattle.std.specs.Prelude.{List, [], ◌∷◌}
use Rattle.cd_model.specs.Thing.{Thing, Pair}

-- the items of a sequence. Of another thing, the first parts of the pairs along its right
abbrev pub items_along : Thing → List Thing
items_along (Pair first rest) = first ∷ items_along rest
items_along _ = []

-- Items are put before a thing one by one, so that they stand there in the opposite order
abbrev pub turned : (done : List Thing) → (onto : Thing) → Thing
turned [] onto = onto
turned (v ∷ done) onto = turned done (Pair v onto)
