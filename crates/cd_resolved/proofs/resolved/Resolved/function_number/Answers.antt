use Rattle.std.proofs.Common.{◌≡◌, Some, sym, subst}
use Rattle.cd_program.specs.PlainExpr.{plain_function}
use Rattle.cd_evaluation.specs.Code.{place_of}
use Rattle.cd_evaluation.specs.ProgramFunctions.{all_functions, function_at}
use Rattle.cd_resolved.specs.Resolved.{program_of}
use Rattle.cd_resolved.specs.Inner.ByPlace.{IsNumberOf}
use Rattle.cd_resolved.proofs.SlotsFilled.{at_its_place}
use Rattle.cd_resolved.proofs.resolved.Resolved.function_number.Goals as goal
use Rattle.cd_resolved.proofs.resolved.Resolved.function_number.Goals.{After-number}

-- the function is found at its place, with its number
found : (c : After-number) → IsNumberOf (all_functions (program_of c.args.self.now)) (plain_function c.args.function.now) c.number.result
found c =
    c.number.ensures (plain_function c.args.function.now)
    (subst (λ at. function_at (program_of c.args.self.now) at ≡ Some (plain_function c.args.function.now)) (sym c.place.ensures)
    (at_its_place (program_of c.args.self.now) c.requires.resolved.places_differ (plain_function c.args.function.now) c.requires.function))

pub unreachable-requires : goal.unreachable-requires
unreachable-requires c = rw c.in-None.is at (found (goal.at.unreachable-requires c).After-number)

pub returns : goal.returns
returns c = rw c.in-Some.is at (found (goal.at.returns c).After-number)
