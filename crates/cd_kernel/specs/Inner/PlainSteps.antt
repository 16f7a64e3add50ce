-- What the code knows of a copy of an automaton, as plain data.
use Rattle.std.specs.Prelude.{List, map}
use Rattle.cd_matching.specs.PlainKernel.{plain_kernel_field}
use Rattle.cd_kernel.specs.Inner.Building.{Steps, KernelFields}
use Rattle.cd_matching.specs.declared.kernel.KernelField.{KernelField as CodeField}
use Rattle.cd_kernel.specs.declared.rows.Steps.{Steps as CodeSteps}

abbrev pub plain_steps : CodeSteps → Steps
plain_steps steps = record {
  group = steps.group.items;
  gatherers = steps.gatherers.items;
  items = steps.items.items;
  states = steps.states.items;
}

abbrev pub plain_kernel_fields : List CodeField → KernelFields
plain_kernel_fields = map plain_kernel_field
