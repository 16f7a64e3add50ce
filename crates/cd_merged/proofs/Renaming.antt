-- What nodes keep where the nodes that they name are replaced by their classes.
use Rattle.std.proofs.Common.{◌≡◌, ℕ, ◌||◌, ◌&&◌, List, [], ◌∷◌, ◌++◌, map, Option, Some}
use Rattle.std.proofs.Common.{refl, ap, ap₂, bytes_eq}
use Rattle.cd_syntax.specs.Name.{Name}
use Rattle.cd_model.specs.Formula.{AreRisingLabels}
use Rattle.cd_model.specs.Thing as thing
use Rattle.cd_matching.specs.Kernel.{KernelNode, KernelField, Present, Optional, Test, Bind, Put}
use Rattle.cd_matching.specs.Kernel.{Pair, Xml, Record, Both, First, Gather, leads_to, parts_of}
use Rattle.cd_matching.specs.Kernel.{field_nodes, optional_types, variables_of, is_named, all_named}
use Rattle.cd_merged.specs.Merged.{renamed, renamed_field}

module _ {T : Type 0} (class : ℕ → ℕ) where
  pub fields_named : (fields : List (Name × KernelField T))
      → field_nodes (map (renamed_field class) fields) ≡ map class (field_nodes fields)
  fields_named [] = refl
  fields_named ((label, Present node) ∷ fields) =
      ap (λ rest. class node ∷ rest) (fields_named fields)
  fields_named ((label, Optional type) ∷ fields) = fields_named fields

  pub types_kept : (fields : List (Name × KernelField T))
      → optional_types (map (renamed_field class) fields) ≡ optional_types fields
  types_kept [] = refl
  types_kept ((label, Present node) ∷ fields) = types_kept fields
  types_kept ((label, Optional type) ∷ fields) = ap (λ rest. type ∷ rest) (types_kept fields)

  pub labels_kept : (before : Option Name) (fields : List (Name × KernelField T))
      → AreRisingLabels before fields → AreRisingLabels before (map (renamed_field class) fields)
  labels_kept before [] rising = rising
  labels_kept before (field ∷ fields) (label, above, rising) =
      (label, above, labels_kept (Some field.0) fields rising)

  is_named_kept : (fields : List (Name × KernelField T)) (label : Name)
      → is_named (map (renamed_field class) fields) label ≡ is_named fields label
  is_named_kept [] label = refl
  is_named_kept (field ∷ fields) label =
      ap (λ rest. bytes_eq field.0 label || rest) (is_named_kept fields label)

  pub all_named_kept : (fields : List (Name × KernelField T)) (those : thing.Fields)
      → all_named (map (renamed_field class) fields) those ≡ all_named fields those
  all_named_kept fields thing.NoField = refl
  all_named_kept fields (thing.Field label d rest) =
      ap₂ (λ one other. one && other) (is_named_kept fields label) (all_named_kept fields rest)

  -- the nodes that are named
  pub names : (node : KernelNode T)
      → leads_to (renamed class node) ++ parts_of (renamed class node)
      ≡ map class (leads_to node ++ parts_of node)
  names (Test type) = refl
  names (Bind variable) = refl
  names (Put variable constant) = refl
  names (Pair first second) = refl
  names (Xml tag attributes content) = refl
  names (Record fields more) = fields_named fields
  names (Both first second) = refl
  names (First first second) = refl
  names (Gather variable first second) = refl

  pub variables_kept : (node : KernelNode T) → variables_of (renamed class node) ≡ variables_of node
  variables_kept (Test type) = refl
  variables_kept (Bind variable) = refl
  variables_kept (Put variable constant) = refl
  variables_kept (Pair first second) = refl
  variables_kept (Xml tag attributes content) = refl
  variables_kept (Record fields more) = refl
  variables_kept (Both first second) = refl
  variables_kept (First first second) = refl
  variables_kept (Gather variable first second) = refl
