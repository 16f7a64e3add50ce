use Rattle.std.proofs.Common.{sym, ◌∙◌}
use Rattle.cd_sets.specs.Characters.{bounding_characters}
use Rattle.cd_shared.proofs.SameLists.{ended, made_none}
use Rattle.cd_shared.proofs.sets.have_same_characters.Goals as goal

-- both lists end here
pub returns-in-None-None : goal.returns-in-None-None
returns-in-None-None c = λ _. ended c.args.one.now c.args.other.now c.loop-index.index
    c.loop-index.invariant
    (made_none bounding_characters c.args.one.now c.loop-index.index
    (sym c.piece.ensures ∙ c.in-None-None.is-0))
    (made_none bounding_characters c.args.other.now c.loop-index.index
    (sym c.piece-in-loop-index.ensures ∙ c.in-None-None.is-1))
