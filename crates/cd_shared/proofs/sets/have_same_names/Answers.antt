use Rattle.std.proofs.Common.{sym, ap, ◌∙◌}
use Rattle.std.specs.Option.{option_map}
use Rattle.cd_shared.proofs.SameLists.{ended}
use Rattle.cd_shared.proofs.sets.have_same_names.Goals as goal

-- both lists end here
pub returns-in-None-None : goal.returns-in-None-None
returns-in-None-None c = λ _. ended c.args.one.now.names c.args.other.now.names c.loop-index.index
    c.loop-index.invariant
    (sym c.listed.ensures ∙ ap (option_map (λ name. name.now)) c.in-None-None.is-0)
    (sym c.listed-in-loop-index.ensures ∙ ap (option_map (λ name. name.now)) c.in-None-None.is-1)
