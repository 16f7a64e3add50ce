-- Labels of parts, among those that a node names.
use Rattle.std.proofs.Common.{◌≡◌, refl, ap, ap₂, ◌||◌, ◌&&◌, List, [], ◌∷◌, map, bytes_eq}
use Rattle.std.specs.List.{list_any, list_all}
use Rattle.cd_syntax.specs.Name.{Name}
use Rattle.cd_model.specs.Thing.{Thing}
use Rattle.cd_matching.specs.Kernel.{is_named, all_named}
use Rattle.cd_matching.specs.PlainKernel.{plain_kernel_field}
use Rattle.cd_matching.specs.declared.kernel.KernelField.{KernelField}
use Rattle.cd_cells.specs.declared.cell.Part.{Part}
use Rattle.cd_cells.specs.Cells.{name_at, fields_of}
use Rattle.cd_taking.specs.Inner.Coded.{names_it, names_part}

pub named_is : (fields : List KernelField) (label : Name)
    → list_any (names_it label) fields ≡ is_named (map plain_kernel_field fields) label
named_is [] label = refl
named_is (field ∷ fields) label = ap (λ b. bytes_eq field.label label || b) (named_is fields label)

pub all_named_is : (names : List Name) (table : List Thing) (fields : List KernelField) (parts : List Part)
    → list_all (names_part names fields) parts ≡ all_named (map plain_kernel_field fields) (fields_of names table parts)
all_named_is names table fields [] = refl
all_named_is names table fields (part ∷ parts) =
    ap₂ (λ a b. a && b) (named_is fields (name_at names part.label)) (all_named_is names table fields parts)
