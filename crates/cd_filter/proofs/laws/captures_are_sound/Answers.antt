use Rattle.std.specs.Prelude.{◌<◌}
use Rattle.cd_sets.specs.declared.node_id.NodeId.{NodeId}
use Rattle.cd_filter.proofs.CapturedSound.{elements_captured, values_captured}
use Rattle.cd_filter.proofs.laws.captures_are_sound.Goals as goal

pub returns-clause-elements : goal.returns-clause-elements
returns-clause-elements c types test nodes variables number variable e what captures sound is =
    elements_captured NodeId test nodes variables (λ type. type.0 < types) sound variable e is
    number captures what

pub returns-clause-values : goal.returns-clause-values
returns-clause-values c types test nodes variables number variable v what captures sound is =
    values_captured NodeId test nodes variables (λ type. type.0 < types) sound variable v is
    number captures what
