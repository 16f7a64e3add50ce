-- A node whose formula is `nil`, or the pairs of an item and the node itself, holds the lists of
-- such items.
use Rattle.std.proofs.Common.{◌≡◌, ◌↔◌, true, List, [], ◌∷◌, inl, inr, refl, sym, ap, subst}
use Rattle.std.proofs.Common.{true≢false}
use Rattle.cd_sets.specs.declared.node_id.NodeId.{NodeId}
use Rattle.cd_syntax.specs.Name.{Name}
use Rattle.cd_model.specs.AllOf.{AllOf}
use Rattle.cd_model.specs.Formula as formula
use Rattle.cd_model.specs.Formula.{Graph, Formula, IsIn, formula_at}
use Rattle.cd_model.specs.Membership.{holds, reader}
use Rattle.cd_model.specs.Thing as thing
use Rattle.cd_model.specs.Thing.{Thing, IsElement}
use Rattle.cd_model.proofs.BuiltInReaders.{nil_is}
use Rattle.cd_matching.specs.Sequences.{nil, sequence_of}
use Rattle.cd_meaning.specs.Sets.{Set}
use Rattle.cd_meaning.specs.Sequences.{IsListOf}
use Rattle.cd_forms.specs.Inner.ListFormulas.{nil_formula, list_formula}
use Rattle.cd_meaning.proofs.SequencesFollowed.{nil_is_list, pair_is_list, sequence_of_items}

module _ (graph : Graph) (item list : NodeId) (set : Set)
    (same : formula_at graph list ≡ list_formula item list)
    (holds_item : (e : Thing) → IsElement e → IsIn graph e item ↔ set e) where
  abbrev At : Thing → Type 0
  At e = holds (reader graph e) (list_formula item list) true

  at_it : (e : Thing) → IsIn graph e list → At e
  at_it e = subst (λ (f : Formula). holds (reader graph e) f true) same

  of_it : (e : Thing) → At e → IsIn graph e list
  of_it e = subst (λ (f : Formula). holds (reader graph e) f true) (sym same)

  pair_at : (first second : Thing) → At (thing.Pair first second)
      → IsIn graph first item × IsIn graph second list
  pair_at first second (inl here) = here
  pair_at first second (inr (inl none)) = absurd (true≢false none)
  pair_at first second (inr (inr none)) = absurd none

  atom_at : (name : Name) → At (thing.Atom name) → thing.Atom name ≡ nil
  atom_at name (inl none) = absurd (true≢false none)
  atom_at name (inr (inl is)) = ap thing.Atom ((nil_is name).0 is)
  atom_at name (inr (inr none)) = absurd none

  nowhere : (e : Thing) → (holds (reader graph e) (formula.Pair item list) true → ⊥)
      → (holds (reader graph e) nil_formula true → ⊥) → IsIn graph e list → ⊥
  nowhere e no_pair no_nil inside = none (at_it e inside)
    where
      none : At e → ⊥
      none (inl here) = no_pair here
      none (inr (inl here)) = no_nil here
      none (inr (inr here)) = here

  pub in_list : (e : Thing) → IsElement e → IsIn graph e list → IsListOf set e
  in_list (thing.Pair first second) element inside =
      let parts = pair_at first second (at_it (thing.Pair first second) inside) in
      (pair_is_list set first second).1
      ((holds_item first element.0).0 parts.0, in_list second element.1 parts.1)
  in_list (thing.Atom name) element inside =
      subst (IsListOf set) (sym (atom_at name (at_it (thing.Atom name) inside))) (nil_is_list set)
  in_list (thing.Integer n) element inside =
      absurd (nowhere (thing.Integer n) true≢false true≢false inside)
  in_list (thing.Character c) element inside =
      absurd (nowhere (thing.Character c) true≢false true≢false inside)
  in_list (thing.Xml tag attributes content) element inside =
      absurd (nowhere (thing.Xml tag attributes content) true≢false true≢false inside)
  in_list (thing.Record fields) element inside =
      absurd (nowhere (thing.Record fields) true≢false true≢false inside)
  in_list (thing.Function pairs) element inside =
      absurd (nowhere (thing.Function pairs) true≢false true≢false inside)
  in_list (thing.Closure function environment) element inside = absurd element

  pub list_in : (ds : List Thing) → IsElement (sequence_of ds) → AllOf set ds
      → IsIn graph (sequence_of ds) list
  list_in [] element each = of_it nil (inr (inl refl))
  list_in (first ∷ ds) element each = of_it (thing.Pair first (sequence_of ds))
      (inl ((holds_item first element.0).1 each.0, list_in ds element.1 each.1))

  pub list_is_in : (e : Thing) → IsElement e → IsListOf set e → IsIn graph e list
  list_is_in e element (ds, has, each) =
      let same = sequence_of_items e ds has in
      subst (λ (e : Thing). IsIn graph e list) (sym same)
      (list_in ds (subst IsElement same element) each)
