-- The labels of a record expression that is sound, and how many types its fields have.
use Rattle.std.proofs.Common.{◌≡◌, ◌≢◌, ◌∙◌, refl, ap, sym, suc, List, [], ◌∷◌, map, length}
use Rattle.std.proofs.lemmas.Bool.{true≢false}
use Rattle.std.proofs.lemmas.List.{length-map}
use Rattle.std.proofs.lemmas.Slice.Eq.{bytes_eq-Decides}
use Rattle.cd_sets.specs.declared.node_id.NodeId.{NodeId}
use Rattle.cd_syntax.specs.Name.{Name}
use Rattle.cd_program.specs.Expr.{Program}
use Rattle.cd_model.specs.AllOf.{AllOf}
use Rattle.cd_model.specs.Formula.{Graph}
use Rattle.cd_model.specs.Scope.{Scope}
use Rattle.cd_program.specs.Expr.{Field, Fields, NoField, AField, fields_of}
use Rattle.cd_names.specs.Labels.{LacksLabel}
use Rattle.cd_names.specs.ProgramFaults.{Seen}
use Rattle.cd_forms.specs.Labels.{labels_of, AreLabels, AreOnce}
use Rattle.cd_typing.specs.Typ.{Typ, typ, Types}
use Rattle.cd_typing.specs.Typing.{FieldsHave}
use Rattle.cd_typing.proofs.Subsets.{itself}
use Rattle.cd_meaning.specs.Sets.{elements_of}
use Rattle.cd_coming.specs.CapturedTypes.{types_of}
use Rattle.cd_check.specs.Inner.Environment.{Nodes, AreOfTypes}
use Rattle.cd_check.specs.Inner.SoundNames.{FieldsAreSound}

pub are_labels : (program : Program) (seen : Seen) (fields : Fields) → FieldsAreSound program seen fields → AreLabels fields
are_labels program seen NoField sound = tt
are_labels program seen (AField label at e rest) sound = (sound.0, are_labels program seen rest sound.3)

others : (label : Name) (fields : Fields) → LacksLabel label fields → AllOf (λ other. label ≢ other) (labels_of fields)
others label NoField lacks = tt
others label (AField other at e rest) lacks =
    (λ same. true≢false (sym ((bytes_eq-Decides other label).1 (sym same)) ∙ lacks.0), others label rest lacks.1)

pub are_once : (program : Program) (seen : Seen) (fields : Fields) → FieldsAreSound program seen fields → AreOnce (labels_of fields)
are_once program seen NoField sound = tt
are_once program seen (AField label at e rest) sound = (others label rest sound.1, are_once program seen rest sound.3)

pub some_types : (graph : Graph) (nodes : Nodes) → AreOfTypes graph nodes (types_of graph nodes)
some_types graph [] = tt
some_types graph (node ∷ nodes) =
    (refl, record { within = itself (elements_of graph node.1); whole = itself (elements_of graph node.1) }, some_types graph nodes)

types_count : (scope : Scope) (types : Types) (fields : List Field) (parts : List Typ) → FieldsHave scope types (fields_of fields) parts
    → length parts ≡ length fields
types_count scope types [] [] have = refl
types_count scope types [] (part ∷ parts) have = absurd have
types_count scope types (field ∷ fields) [] have = absurd have
types_count scope types (field ∷ fields) (part ∷ parts) have = ap suc (types_count scope types fields parts have.2)

pub parts_count : (scope : Scope) (graph new : Graph) (nodes : Nodes) (fields : List Field) (ids : List NodeId)
    → ((types : Types) → AreOfTypes graph nodes types → FieldsHave scope types (fields_of fields) (map (typ new) ids))
    → length ids ≡ length fields
parts_count scope graph new nodes fields ids have = sym (length-map ids (typ new))
    ∙ types_count scope (types_of graph nodes) fields (map (typ new) ids) (have (types_of graph nodes) (some_types graph nodes))
