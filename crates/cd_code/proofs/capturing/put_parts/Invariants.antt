use Rattle.std.proofs.Common.{◌≡◌, ◌<◌, ℕ, List, drop}
use Rattle.cd_syntax.specs.Name.{Name}
use Rattle.cd_model.specs.AllOf.{AllOf}
use Rattle.cd_model.specs.Thing.{Thing}
use Rattle.cd_cells.specs.Cells.{fields_of, IsPart}
use Rattle.cd_evaluation.specs.Environment.{with_all}
use Rattle.cd_code.specs.Inner.Bindings.{all_named, HaveLabels}
use Rattle.cd_code.specs.Inner.Numbered.{env_by}
use Rattle.cd_taking.specs.Taken.{captured}
use Rattle.cd_code.proofs.capturing.put_parts.Given as goal

-- what is there, before what is to come, is all
abbrev pub invariant-loop-binding : goal.invariant-loop-binding
invariant-loop-binding l =
    ((names : List Name) (table : List Thing) → with_all (fields_of names table l.parts.items)
    (env_by (all_named names (drop l.binding-index l.bindings)) (captured table l.captures))
    ≡ env_by (all_named names l.fn.bindings) (captured table l.fn.captures))
    × ((names : List Name) (bound : ℕ) → HaveLabels names l.fn.bindings
    → AllOf (λ capture. capture.value.0 < bound) l.fn.captures
    → HaveLabels names (drop l.binding-index l.bindings) × AllOf (IsPart names bound) l.parts.items)
