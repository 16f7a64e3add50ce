-- What is found at labels in turn.
use Rattle.std.proofs.Common.{◌≡◌, ◌∙◌, ap, refl, Bool, true, List, [], ◌∷◌, ◌++◌, Option}
use Rattle.cd_sets.specs.declared.node_id.NodeId.{NodeId}
use Rattle.cd_syntax.specs.Name.{Name}
use Rattle.cd_model.specs.Formula.{Field, field_of}
use Rattle.cd_elements.specs.declared.shape.ElementId.{ElementId}
use Rattle.cd_facts.specs.declared.finding.Finding.{Finding}
use Rattle.cd_facts.specs.declared.finding.Finding.TheVariants.{Known}
use Rattle.cd_facts.specs.Inner.Rising.{item_at}
use Rattle.cd_facts.specs.Inner.Finding.{both, finding_at_field, finding_at_labels}

both_in_turn : (first second third : Finding) → both (both first second) third ≡ both first (both second third)
both_in_turn (Known true) second third = refl
both_in_turn _ second third = refl

-- at some labels and then at others
pub labels_in_turn : (known : ElementId → NodeId → Option Bool) (parts : List (Name × ElementId)) (named : List (Name × Field))
    (rest : NodeId) (labels others : List Name)
    → both (finding_at_labels known parts named rest labels) (finding_at_labels known parts named rest others)
    ≡ finding_at_labels known parts named rest (labels ++ others)
labels_in_turn known parts named rest [] others = refl
labels_in_turn known parts named rest (label ∷ labels) others =
    both_in_turn (finding_at_field known (item_at parts label) (field_of named rest label))
    (finding_at_labels known parts named rest labels) (finding_at_labels known parts named rest others)
    ∙ ap (both (finding_at_field known (item_at parts label) (field_of named rest label)))
    (labels_in_turn known parts named rest labels others)
