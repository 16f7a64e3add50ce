use Rattle.std.proofs.Common.{◌∙◌, [], ap, sym}
use Rattle.cd_evaluation.specs.ProgramInterfaces.{interfaces_of}
use Rattle.cd_resolved.specs.Resolved.{program_of, asked_graph}
use Rattle.cd_closures.specs.Inner.Collected.{with_nodes}
use Rattle.cd_closures.proofs.MapsMade.{none_stand, no_items}
use Rattle.cd_closures.proofs.maps.maps_of.Goals as goal

pub returns-in-empty-clause-right : goal.returns-in-empty-clause-right
returns-in-empty-clause-right c = λ function. none_stand (asked_graph c.args.program.now)
    (sym (c.as_slice.ensures ∙ c.in_ok-arrows.ensures.arrows ∙ ap (with_nodes []) c.asked.ensures) ∙ no_items c.as_slice.result.now c.in-empty.len_below)
    (interfaces_of (program_of c.args.program.now)) c.new.result function
