-- The names that a pattern binds, as numbers of variables and of labels.
use Rattle.std.specs.Prelude.{◌≡◌, ℕ, List, Vec, map}
use Rattle.std.specs.Global.{Global}
use Rattle.std.specs.List.{AllZip}
use Rattle.cd_syntax.specs.Name.{Name, IsLabel}
use Rattle.cd_model.specs.AllOf.{AllOf}
use Rattle.cd_names.specs.ProgramFaults.{names_of}
use Rattle.cd_cells.specs.Cells.{name_at}
use Rattle.cd_resolved.specs.Resolved.{pattern_of}
use Rattle.cd_resolved.specs.declared.pattern_kernel.PatternKernel.{PatternKernel}
use Rattle.cd_code.specs.Inner.Numbered.{numbered}
use Rattle.cd_code.specs.declared.binding.Binding.{Binding}

-- the number of the variable, and the name
abbrev pub named_by : List Name → Binding → ℕ × Name
named_by names binding = (binding.variable, name_at names binding.label)

abbrev pub all_named : List Name → List Binding → List (ℕ × Name)
all_named names bindings = map (named_by names) bindings

-- the names are labels
abbrev pub HaveLabels : List Name → List Binding → Type 0
HaveLabels names bindings = AllOf (λ binding. IsLabel (name_at names binding.label)) bindings

-- they are the names that a pattern binds, by the numbers of the variables of its kernel
pub record AreBindingsOf (names : List Name) (one : PatternKernel) (bindings : Vec Binding Global)
    : Type 0 where
  pub bound : all_named names bindings.items
      ≡ numbered one.kernel.variables.items (names_of (pattern_of one))
  pub labels : HaveLabels names bindings.items

-- and so of each of some patterns
abbrev pub AreAllBound : List Name → List PatternKernel → List (Vec Binding Global) → Type 0
AreAllBound names kernels all = AllZip (AreBindingsOf names) kernels all
