-- The nodes of sequences hold the lists of what is in the node of their items, and those of integers are data.
use Rattle.std.proofs.Common.{◌≡◌, true, List, [], ◌∷◌, inl, inr, Some, None, codes, bytes_eq, refl, sym, ap, subst, ◌∙◌, lit<, true≢false, if◌then◌else◌}
use Rattle.std.proofs.Math.Bool.{or-false}
use Rattle.cd_sets.specs.declared.node_id.NodeId.{NodeId}
use Rattle.cd_syntax.specs.Name.{Name}
use Rattle.cd_model.specs.AllOf.{AllOf}
use Rattle.cd_model.specs.BuiltIns.{atoms_of, node, INT, DATA}
use Rattle.cd_model.specs.Formula as formula
use Rattle.cd_model.specs.Formula.{Graph, Formula, Or, formulas_of, formula_at, IsIn}
use Rattle.cd_model.specs.Membership.{holds, reader}
use Rattle.cd_model.specs.Kinds.{kind_of, AnInteger}
use Rattle.cd_model.specs.Thing.{Thing, Integer, Atom, Pair, IsElement, IsData}
use Rattle.cd_model.specs.Types.{no_closure}
use Rattle.cd_model.proofs.BuiltIns.{elements_are_sound, integers_are, data_are}
use Rattle.cd_matching.specs.Sequences.{sequence_of}
use Rattle.cd_meaning.specs.Sequences.{IsListOf}
use Rattle.cd_meaning.specs.Sets.{◌⊆◌, elements_of}
use Rattle.cd_meaning.proofs.SequencesFollowed.{sequence_of_items, items_are_elements, pair_is_list}
use Rattle.cd_typing.specs.Typ.{BuiltIn}
use Rattle.cd_typing.proofs.BuiltInSets.{node_within}
use Rattle.cd_running.proofs.WorkTypes.{graph, more, INTS, ENTRY, ENTRIES}

-- the formula of any number of items, where that of what follows an item is such a formula too
abbrev pub any_number : (item next : NodeId) → Formula
any_number item next = Or (formulas_of (formula.Pair item next ∷ atoms_of (codes "nil" ∷ []) ∷ []))

module _ (graph : Graph) (item next : NodeId) (again : formula_at graph next ≡ any_number item next) where
  -- what a thing answers at the formula, it answers at a node of it
  here : (first : NodeId) → formula_at graph first ≡ any_number item next → (e : Thing)
      → holds (reader graph e) (any_number item next) true → IsIn graph e first
  here first is e = subst (λ form. holds (reader graph e) form true) (sym is)

  there : (first : NodeId) → formula_at graph first ≡ any_number item next → (e : Thing) → IsIn graph e first
      → holds (reader graph e) (any_number item next) true
  there first is e = subst (λ form. holds (reader graph e) form true) is

  pub sequence_in : (first : NodeId) → formula_at graph first ≡ any_number item next → (ds : List Thing)
      → AllOf (elements_of graph item) ds → IsIn graph (sequence_of ds) first
  sequence_in first is [] each = here first is (sequence_of []) (inr (inl refl))
  sequence_in first is (d ∷ ds) each = here first is (sequence_of (d ∷ ds)) (inl (each.0, sequence_in next again ds each.1))

  pub list_in : (first : NodeId) → formula_at graph first ≡ any_number item next
      → IsListOf (elements_of graph item) ⊆ elements_of graph first
  list_in first is e element (ds, has, each) = subst (λ d. IsIn graph d first) (sym (sequence_of_items e ds has))
      (sequence_in first is ds each)

  abbrev IsList : Thing → Type 0
  IsList e = IsListOf (elements_of graph item) e

  nil_is_list : (name : Name) → bytes_eq name (codes "nil") ≡ true → IsList (Atom name)
  nil_is_list name same = ([], ap (λ b. if b then Some [] else None) same, tt)

  atom_is_list : (name : Name) → holds (reader graph (Atom name)) (any_number item next) true → IsList (Atom name)
  atom_is_list name (inl pair) = absurd (true≢false pair)
  atom_is_list name (inr (inl nil)) = nil_is_list name (sym (or-false _) ∙ nil)
  atom_is_list name (inr (inr none)) = absurd none

  pair_is : (d rest : Thing) → (IsIn graph rest next → IsList rest)
      → holds (reader graph (Pair d rest)) (any_number item next) true → IsList (Pair d rest)
  pair_is d rest later (inl pair) = (pair_is_list (elements_of graph item) d rest).1 (pair.0, later pair.1)
  pair_is d rest later (inr (inl nil)) = absurd (true≢false nil)
  pair_is d rest later (inr (inr none)) = absurd none

  pub list_of : (first : NodeId) → formula_at graph first ≡ any_number item next → (e : Thing) → IsIn graph e first → IsList e
  list_of first is (Atom name) inside = atom_is_list name (there first is (Atom name) inside)
  list_of first is (Pair d rest) inside =
      pair_is d rest (list_of next again rest) (there first is (Pair d rest) inside)
  list_of first is e inside = elim (there first is e inside) [
    | inl pair ↦ absurd (true≢false pair)
    | inr (inl nil) ↦ absurd (true≢false nil)
    | inr (inr none) ↦ absurd none
  ]

-- the sequences of integers, and of entries
pub integers_within : elements_of graph INTS ⊆ IsListOf (elements_of graph INT)
integers_within e element inside = list_of graph INT (node 15) refl INTS refl e inside

pub lists_of_integers : IsListOf (elements_of graph INT) ⊆ elements_of graph INTS
lists_of_integers = list_in graph INT (node 15) refl INTS refl

pub entries_within : elements_of graph ENTRIES ⊆ IsListOf (elements_of graph ENTRY)
entries_within e element inside = list_of graph ENTRY (node 20) refl ENTRIES refl e inside

-- a sequence of data is data
sequence_is_data : (ds : List Thing) → AllOf IsData ds → IsData (sequence_of ds)
sequence_is_data [] each = tt
sequence_is_data (d ∷ ds) each = (each.0, sequence_is_data ds each.1)

integer_is_data : (d : Thing) → kind_of d ≡ AnInteger → IsData d
integer_is_data (Integer n) is = tt
integer_is_data _ is = absurd cc

integers_are_data : (ds : List Thing) → AllOf IsElement ds → AllOf (elements_of graph INT) ds → AllOf IsData ds
integers_are_data [] elements each = tt
integers_are_data (d ∷ ds) elements each = (
  integer_is_data d ((integers_are more no_closure d (elements_are_sound d elements.0)).0 each.0),
  integers_are_data ds elements.1 each.1,
)

pub integers_in_data : elements_of graph INTS ⊆ BuiltIn DATA
integers_in_data e element inside =
    let (ds, has, each) = integers_within e element inside in
    let is_data : IsData e = subst IsData (sym (sequence_of_items e ds has))
    (sequence_is_data ds (integers_are_data ds (items_are_elements e ds has element) each)) in
    node_within graph more refl DATA (lit< tt) e element ((data_are more no_closure e (elements_are_sound e element)).1 is_data)
