-- Fields of the code in the order of their labels.
use Rattle.std.proofs.Common.{◌≡◌, ◌++◌, ◌∙◌, ℕ, take, drop, ap₂, List, ◌∷◌, sym}
use Rattle.std.proofs.lemmas.List.{map-append, take-map, drop-map}
use Rattle.cd_syntax.specs.Name.{Name}
use Rattle.cd_model.specs.Formula.{Field}
use Rattle.cd_graph.specs.PlainFormula.{plain_field, plain_named}
use Rattle.cd_graph.specs.declared.fields.Field.{Field as CodeField}

abbrev pub plain_one : Name × CodeField → Name × Field
plain_one field = (field.0, plain_field field.1)

pub map_inserted : (fields : List (Name × CodeField)) (index : ℕ) (field : Name × CodeField)
    → plain_named (take index fields ++ field ∷ drop index fields)
    ≡ take index (plain_named fields) ++ plain_one field ∷ drop index (plain_named fields)
map_inserted fields index field =
    map-append plain_one (take index fields) (field ∷ drop index fields)
    ∙ ap₂ (λ (before after : List (Name × Field)). before ++ plain_one field ∷ after)
    (sym (take-map plain_one index fields)) (sym (drop-map plain_one index fields))
