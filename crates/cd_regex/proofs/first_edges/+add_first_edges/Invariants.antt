use Rattle.std.proofs.Common.{drop}
use Rattle.cd_regex.specs.PlainRegular.{plain_all}
use Rattle.cd_regex.specs.Automaton.{first_edges_in_turn, first_edges_of_one}
use Rattle.cd_regex.proofs.SoFar.{AreLeft}
use Rattle.cd_regex.proofs.first_edges.+add_first_edges.Given as goal

abbrev pub invariant-add_first_edges_in_turn-loop-is : goal.invariant-add_first_edges_in_turn-loop-is
invariant-add_first_edges_in_turn-loop-is l = AreLeft first_edges_in_turn (plain_all l.all) (plain_all (drop l.is-index l.all))
    l.before l.at l.fn.edges.items l.edges.items

abbrev pub invariant-add_first_edges_of_one-loop-is : goal.invariant-add_first_edges_of_one-loop-is
invariant-add_first_edges_of_one-loop-is l = AreLeft first_edges_of_one (plain_all l.all) (plain_all (drop l.is-index l.all))
    l.before l.at l.fn.edges.items l.edges.items
