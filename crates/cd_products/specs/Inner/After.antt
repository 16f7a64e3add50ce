-- What the making of products leaves of a world.
use Rattle.std.specs.Prelude.{◌≡◌}
use Rattle.cd_empty.specs.Growth.{Grows}
use Rattle.cd_empty.specs.Seen.{Seen, graph_of}

-- the graph is the same, and what is kept stays
pub record IsAfter (old new : Seen) : Type 0 where
  pub graph : graph_of new ≡ graph_of old
  pub grows : Grows old new
