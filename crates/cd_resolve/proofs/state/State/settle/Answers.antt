use Rattle.std.proofs.Common.{Some}
use Rattle.std.specs.Option.{option_map}
use Rattle.std.proofs.lemmas.List.{map-set}
use Rattle.cd_shared.specs.Equation.{plain_equation}
use Rattle.cd_shared.specs.declared.equation.Equation.TheVariants as code
use Rattle.cd_resolve.proofs.state.State.settle.Goals as goal

pub returns-in-Some : goal.returns-in-Some
returns-in-Some c = map-set (option_map plain_equation) c.args.self.now.equations.items c.args.number
    (Some (code.Same c.args.root))
