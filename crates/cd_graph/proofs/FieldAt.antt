-- What a record type says of a label, where the next one of its fields that are left is of this label.
use Rattle.std.proofs.Common.{◌≡◌, ◌∙◌, ap, refl, sym, true, bytes_eq, ℕ, ◌+◌, ◌<◌, List, ◌∷◌, drop, get_or, length}
use Rattle.std.proofs.lemmas.List.{at_drop_more}
use Rattle.cd_sets.specs.declared.node_id.NodeId.{NodeId}
use Rattle.cd_syntax.specs.Name.{Name}
use Rattle.cd_model.specs.Formula.{Field as FieldOfNodes}
use Rattle.cd_model.specs.Types.{field_of}
use Rattle.cd_graph.specs.PlainFormula.{plain_field, plain_named}
use Rattle.cd_graph.specs.declared.fields.Field.{Field}

module _ (rest : NodeId) (label : Name) where
  abbrev says : List (Name × Field) → FieldOfNodes
  says fields = field_of (plain_named fields) rest label

  first_says : (field : Name × Field) (fields : List (Name × Field)) → bytes_eq field.0 label ≡ true
      → says (field ∷ fields) ≡ plain_field field.1
  first_says field fields same = rw same refl

  pub next_says : (fields : List (Name × Field)) (index : ℕ) (field : Name × Field) → field ≡ get_or fields index field
      → index < length fields → bytes_eq field.0 label ≡ true → says (drop index fields) ≡ plain_field field.1
  next_says fields index field is more same = at_drop_more says fields index field more
      ∙ ap (λ (next : Name × Field). says (next ∷ drop (index + 1) fields)) (sym is)
      ∙ first_says field (drop (index + 1) fields) same
