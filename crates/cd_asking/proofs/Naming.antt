-- What a record type says of the labels that it names, label by label.
use Rattle.std.proofs.Common.{◌≡◌, ℕ, zero, suc, ◌+◌, ◌<◌, ◌&&◌, Bool, List, [], ◌∷◌, drop, get_or, length, refl, sym, ap, ◌∙◌, arith, Some, None, Option, subst}
use Rattle.std.specs.List.{list_all}
use Rattle.std.specs.Ordering.{nat_cmp}
use Rattle.std.specs.Cmp.Lexicographic.{slice_cmp}
use Rattle.std.specs.declared.cmp.Ordering.TheVariants.{Less}
use Rattle.std.proofs.lemmas.Cmp.{nat_list_cmp_total}
use Rattle.std.proofs.lemmas.List.{at_drop_more}
use Rattle.std.proofs.lemmas.Slice.Eq.{bytes_eq-Decides}
use Rattle.cd_sets.specs.declared.node_id.NodeId.{NodeId}
use Rattle.cd_syntax.specs.Name.{Name}
use Rattle.cd_model.specs.Formula.{AreRisingLabels, field_of}
use Rattle.cd_graph.specs.PlainFormula.{plain_field, plain_named}
use Rattle.cd_graph.specs.declared.fields.Field.{Field}
use Rattle.cd_asking.specs.Inner.Shapes.{Nodes, item_at, labels, in_field}
use Rattle.cd_asking.proofs.InNode.{differs}

later_above : (before : Name) (items : List (Name × Field)) (index : ℕ) (item : Name × Field) → AreRisingLabels (Some before) (plain_named items)
    → item ≡ get_or items index item → index < length items → slice_cmp nat_cmp before item.0 ≡ Less
later_above before [] index item rising is within = absurd (omega arith)
later_above before (first ∷ items) zero item rising is within =
    subst (λ (one : Name × Field). slice_cmp nat_cmp before one.0 ≡ Less) (sym is) rising.1
later_above before (first ∷ items) (suc index) item rising is within =
    nat_list_cmp_total.trans before first.0 item.0 rising.1 (later_above first.0 items index item rising.2 is (omega arith))

-- each field is what is said of its label
named_is : (before : Option Name) (items : List (Name × Field)) (rest : NodeId) (index : ℕ) (item : Name × Field)
    → AreRisingLabels before (plain_named items) → item ≡ get_or items index item → index < length items
    → field_of (plain_named items) rest item.0 ≡ plain_field item.1
named_is before [] rest index item rising is within = absurd (omega arith)
named_is before (first ∷ items) rest zero item rising is within =
    subst (λ (one : Name × Field). field_of (plain_named (first ∷ items)) rest one.0 ≡ plain_field one.1) (sym is)
    (rw ((bytes_eq-Decides first.0 first.0).1 refl) refl)
named_is before (first ∷ items) rest (suc index) item rising is within =
    let other = differs first.0 item.0 (later_above first.0 items index item rising.2 is (omega arith)) in
    rw other (named_is (Some first.0) items rest index item rising.2 is (omega arith))

pub next_label : (fields : List (Name × Nodes)) (named items : List (Name × Field)) (rest : NodeId) (index : ℕ) (item : Name × Field) (is all : Bool)
    → items ≡ named → AreRisingLabels None (plain_named named) → item ≡ get_or items index item → index < length items
    → is ≡ in_field (item_at fields item.0) (plain_field item.1)
    → list_all (λ label. in_field (item_at fields label) (field_of (plain_named named) rest label)) (labels (plain_named (drop index items))) ≡ all
    → (is && list_all (λ label. in_field (item_at fields label) (field_of (plain_named named) rest label)) (labels (plain_named (drop (index + 1) items)))) ≡ all
next_label fields named items rest index item is all same rising item_is within says whole =
    let test : Name → Bool = λ label. in_field (item_at fields label) (field_of (plain_named named) rest label) in
    let rises : AreRisingLabels None (plain_named items) = subst (λ (named : List (Name × Field)). AreRisingLabels None (plain_named named)) (sym same) rising in
    let field : field_of (plain_named named) rest item.0 ≡ plain_field item.1 =
    ap (λ (named : List (Name × Field)). field_of (plain_named named) rest item.0) (sym same) ∙ named_is None items rest index item rises item_is within in
    let here : is ≡ test item.0 = says ∙ ap (in_field (item_at fields item.0)) (sym field) in
    let left = at_drop_more (λ left. list_all test (labels (plain_named left))) items index item within in
    ap (λ b. b && list_all test (labels (plain_named (drop (index + 1) items)))) here
    ∙ ap (λ (one : Name × Field). list_all test (labels (plain_named (one ∷ drop (index + 1) items)))) item_is
    ∙ sym left ∙ whole
