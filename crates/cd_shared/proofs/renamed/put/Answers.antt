use Rattle.std.proofs.Common.{ap, ◌∙◌, set}
use Rattle.std.specs.Option.{option_map}
use Rattle.std.proofs.lemmas.List.{map-set}
use Rattle.cd_shared.specs.Equation.{plain_equation, plain_equations}
use Rattle.cd_shared.proofs.renamed.put.Goals as goal

pub returns : goal.returns
returns c = map-set (option_map plain_equation) c.args.equations.now.items c.args.number
    c.replace.new.dest
    ∙ ap (λ equation. set (plain_equations c.args.equations.now.items) c.args.number
    (option_map plain_equation equation)) c.replace.ensures.after
