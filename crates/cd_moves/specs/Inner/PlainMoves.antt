-- The moves of the code as plain data, and rows that have each move once.
use Rattle.std.specs.Prelude.{Bool, true, ◌&&◌, not, List, [], ◌∷◌, map}
use Rattle.std.specs.List.{list_any}
use Rattle.cd_moves.specs.Automaton.{Move, End, To, same_move}
use Rattle.cd_moves.specs.declared.moves.Move.{Move as CodeMove}
use Rattle.cd_moves.specs.declared.moves.Move.TheVariants as move

abbrev pub plain_move : CodeMove → Move
plain_move move.End = End
plain_move (move.To number) = To number

abbrev pub plain_moves : List CodeMove → List Move
plain_moves = map plain_move

abbrev pub has : List Move → Move → Bool
has row move = list_any (λ other. same_move other move) row

abbrev pub has_each_once : List Move → Bool
has_each_once [] = true
has_each_once (move ∷ moves) = not (has moves move) && has_each_once moves
