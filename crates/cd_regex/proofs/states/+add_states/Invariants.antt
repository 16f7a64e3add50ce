use Rattle.std.proofs.Common.{map, drop}
use Rattle.cd_graph.specs.PlainFormula.{plain as plain_formula}
use Rattle.cd_regex.specs.PlainRegular.{plain_all}
use Rattle.cd_regex.proofs.SoFar.{AreLeft, formulas_in_turn, formulas_of_one}
use Rattle.cd_regex.proofs.states.+add_states.Given as goal

abbrev pub invariant-add_in_turn-loop-place : goal.invariant-add_in_turn-loop-place
invariant-add_in_turn-loop-place l = AreLeft (formulas_in_turn l.follow) (plain_all l.all) (plain_all (drop l.place l.all))
    l.before l.at (map plain_formula l.fn.batch.items) (map plain_formula l.batch.items)

abbrev pub invariant-add_of_one-loop-is : goal.invariant-add_of_one-loop-is
invariant-add_of_one-loop-is l = AreLeft (formulas_of_one l.follow) (plain_all l.all) (plain_all (drop l.is-index l.all))
    l.before l.at (map plain_formula l.fn.batch.items) (map plain_formula l.batch.items)
