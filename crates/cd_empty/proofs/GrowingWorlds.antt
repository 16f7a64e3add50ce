-- Worlds grow to themselves, and on and on.
use Rattle.cd_empty.specs.Growth.{Grows}
use Rattle.cd_empty.specs.Seen.{Seen, graph_of, table_of, kept}
use Rattle.cd_empty.proofs.Growing.{grows_not, grows_then}

pub to_itself : (world : Seen) → Grows world world
to_itself world = record {
  graph = grows_not (graph_of world);
  table = grows_not (table_of world);
  verdicts = grows_not (kept world);
}

pub and_further : (first second third : Seen) → Grows first second → Grows second third → Grows first third
and_further first second third one other = record {
  graph = grows_then (graph_of first) (graph_of second) (graph_of third) one.graph other.graph;
  table = grows_then (table_of first) (table_of second) (table_of third) one.table other.table;
  verdicts = grows_then (kept first) (kept second) (kept third) one.verdicts other.verdicts;
}
