use Rattle.std.proofs.Common.{◌≡◌, ◌++◌, map, drop}
use Rattle.cd_syntax.specs.Name.{IsLabel}
use Rattle.cd_model.specs.AllOf.{AllOf}
use Rattle.cd_cells.specs.Table.{names, Grows}
use Rattle.cd_code.specs.Inner.Bindings.{all_named, HaveLabels}
use Rattle.cd_code.specs.Inner.Numbered.{numbered}
use Rattle.cd_code.proofs.bindings.bind_all.Given as goal

-- those that are bound, and those to come, are all
abbrev pub invariant-loop-one : goal.invariant-loop-one
invariant-loop-one l =
    (all_named (names l.values) l.bindings.items
    ++ numbered l.variables (map (λ one. one.name.now) (drop l.one-index l.bound))
    ≡ numbered l.variables (map (λ one. one.name.now) l.fn.bound))
    × HaveLabels (names l.values) l.bindings.items
    × AllOf (λ one. IsLabel one.name.now) (drop l.one-index l.bound)
    × Grows l.fn.values l.values
