-- Sets that have the nodes at which formulas ask a child, formula by formula.
use Rattle.std.proofs.Common.{◌≡◌, Option, ◌==◌, ◌||◌, ◌⊎◌, inl, inr, ℕ, zero, suc, ◌+◌, ◌<◌, Bool, true, false, List, [], ◌∷◌, map, drop, get_or, length, refl, sym, ap, ◌∙◌, subst, arith, bytes_eq}
use Rattle.std.specs.Prelude.{Result, Ok, Err, OnOk, OnErr, IfSome}
use Rattle.std.proofs.lemmas.Bool.{cases_Bool, eqb-true, eq-eqb}
use Rattle.std.proofs.lemmas.List.{at_drop_more}
use Rattle.cd_sets.specs.declared.node_id.NodeId.{NodeId}
use Rattle.cd_sets.specs.IdSet.{holds}
use Rattle.cd_syntax.specs.Name.{Name}
use Rattle.cd_model.specs.AllOf.{AllOf}
use Rattle.cd_model.specs.Formula as formula
use Rattle.cd_model.specs.Formula.{Formula, Field, Graph, IsFormula, AreFormulas, formulas_of, formula_at, field_of}
use Rattle.cd_graph.specs.PlainFormula.{plain}
use Rattle.cd_graph.specs.declared.formula.Formula.{Formula as CodeFormula}
use Rattle.cd_asking.specs.Inner.Tasks.{Child, First, Second, Tag, Attributes, Content, At, led, AsksIn, AskIn, Covers, Includes, HoldsBelow}
use Rattle.cd_asking.specs.Inner.Asked.{AreBelow}
use Rattle.cd_asking.proofs.Agreeing.{basic_by, some_by}

-- the nodes at which formulas of a graph ask are below its length
named_below : (bound : ℕ) (named : List (Name × Field)) (rest : NodeId) (label : Name) → AllOf (λ field. field.1.type.0 < bound) named → rest.0 < bound
    → (field_of named rest label).type.0 < bound
named_below bound [] rest label named_are rest_is = rest_is
named_below bound (field ∷ named) rest label named_are rest_is =
    by_label (cases_Bool (bytes_eq field.0 label)) (named_below bound named rest label named_are.1 rest_is)
  where
    by_label : (bytes_eq field.0 label ≡ true) ⊎ (bytes_eq field.0 label ≡ false) → (field_of named rest label).type.0 < bound
        → (field_of (field ∷ named) rest label).type.0 < bound
    by_label (inl is) later = rw is named_are.0
    by_label (inr other) later = rw other later

pub pair_below : (bound : ℕ) (child : Child) (first second : NodeId) → IsFormula bound (formula.Pair first second)
    → IfSome (led (formula.Pair first second) child) (λ id. id.0 < bound)
pair_below bound First first second is = is.0
pair_below bound Second first second is = is.1
pair_below bound Tag first second is = tt
pair_below bound Attributes first second is = tt
pair_below bound Content first second is = tt
pair_below bound (At label) first second is = tt

pub xml_below : (bound : ℕ) (child : Child) (tag attributes content : NodeId) → IsFormula bound (formula.Xml tag attributes content)
    → IfSome (led (formula.Xml tag attributes content) child) (λ id. id.0 < bound)
xml_below bound First tag attributes content is = tt
xml_below bound Second tag attributes content is = tt
xml_below bound Tag tag attributes content is = is.0
xml_below bound Attributes tag attributes content is = is.1
xml_below bound Content tag attributes content is = is.2
xml_below bound (At label) tag attributes content is = tt

pub record_below : (bound : ℕ) (child : Child) (named : List (Name × Field)) (rest : NodeId) → IsFormula bound (formula.Record named rest)
    → IfSome (led (formula.Record named rest) child) (λ id. id.0 < bound)
record_below bound First named rest is = tt
record_below bound Second named rest is = tt
record_below bound Tag named rest is = tt
record_below bound Attributes named rest is = tt
record_below bound Content named rest is = tt
record_below bound (At label) named rest is = named_below bound named rest label is.1 is.2

pub asked_below : (bound : ℕ) (child : Child) (is form : Formula) (id : Option NodeId)
    → (IsFormula bound form → IfSome (led form child) (λ id. id.0 < bound)) → is ≡ form → id ≡ led form child
    → IsFormula bound is → IfSome id (λ id. id.0 < bound)
asked_below bound child is form id below form_is id_is sound = subst (λ (id : Option NodeId). IfSome id (λ id. id.0 < bound)) (sym id_is)
    (below (subst (λ (is : Formula). IsFormula bound is) form_is sound))

-- each formula of a list
pub item_sound : (bound : ℕ) (items : List CodeFormula) (index : ℕ) (item : CodeFormula) → item ≡ get_or items index item → index < length items
    → AreFormulas bound (formulas_of (map plain items)) → IsFormula bound (plain item)
item_sound bound [] index item is within are = absurd (omega arith)
item_sound bound (first ∷ items) zero item is within are = subst (λ (one : CodeFormula). IsFormula bound (plain one)) (sym is) are.0
item_sound bound (first ∷ items) (suc index) item is within are = item_sound bound items index item is (omega arith) are.1

-- a set with one number more
pub inserted_below : {R E : Type 0} (done : Result R E) (old new : List NodeId) (id : NodeId) (bound : ℕ)
    → OnOk done ((one : NodeId) → holds new one ≡ ((one.0 == id.0) || holds old one)) → OnErr done (new ≡ old)
    → id.0 < bound → HoldsBelow bound old → HoldsBelow bound new
inserted_below (Ok done) old new id bound added kept low below one there = by_test (cases_Bool (one.0 == id.0))
  where
    by_test : ((one.0 == id.0) ≡ true) ⊎ ((one.0 == id.0) ≡ false) → one.0 < bound
    by_test (inl same) = subst (λ (number : ℕ). number < bound) (sym (eqb-true one.0 id.0 same)) low
    by_test (inr other) = below one (sym (ap (λ b. b || holds old one) other) ∙ sym (added one) ∙ there)
inserted_below (Err error) old new id bound added kept low below one there = below one (ap (λ set. holds set one) (sym kept) ∙ there)

-- what a set holds is what it lists
pub each_held : (bound : ℕ) (set : List NodeId) → HoldsBelow bound set → AreBelow bound set
each_held bound [] below = tt
each_held bound (id ∷ set) below = (
  below id (ap (λ b. b || holds set id) (eq-eqb id.0 id.0 refl)),
  each_held bound set (λ one there. below one (by_test one (id.0 == one.0) there)),
)
  where
    by_test : (one : NodeId) (b : Bool) → holds set one ≡ true → (b || holds set one) ≡ true
    by_test one true there = refl
    by_test one false there = there

module _ (child : Child) where
  -- a set with more nodes serves too
  pub asks_more : (next final : List NodeId) (is : Formula) → Includes next final → AsksIn child next is → AsksIn child final is
  asks_more next final is more asks = basic_by _ _ (λ one found. some_by _ _ (λ id there. more id there) (led one child) found) is asks

  pub next_formula : (next final : List NodeId) (items : List CodeFormula) (index : ℕ) (item : CodeFormula)
      → item ≡ get_or items index item → index < length items → Includes next final → AsksIn child next (plain item)
      → AskIn child final (formulas_of (map plain (drop (index + 1) items))) → AskIn child final (formulas_of (map plain (drop index items)))
  next_formula next final items index item is within more asks rest =
      subst (λ (items : List CodeFormula). AskIn child final (formulas_of (map plain items))) (sym (at_drop_more (λ left. left) items index item within))
      (subst (λ (one : CodeFormula). AsksIn child final (plain one)) is (asks_more next final (plain item) more asks), rest)

  pub next_node : (graph : Graph) (next final : List NodeId) (set : List NodeId) (index : ℕ) (default : NodeId) (id : NodeId)
      → id ≡ get_or set index default → index < length set → Includes next final → AsksIn child next (formula_at graph id)
      → Covers graph child (drop (index + 1) set) final → Covers graph child (drop index set) final
  next_node graph next final set index default id is within more asks rest =
      subst (λ (set : List NodeId). Covers graph child set final) (sym (at_drop_more (λ left. left) set index default within))
      (subst (λ (one : NodeId). AsksIn child final (formula_at graph one)) is (asks_more next final (formula_at graph id) more asks), rest)
