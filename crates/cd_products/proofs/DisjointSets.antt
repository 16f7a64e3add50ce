-- Nodes that hold atoms of disjoint sets, or XML elements with tags apart, have nothing in common.
use Rattle.std.proofs.Common.{◌≡◌, ◌&&◌, true, List, ℕ, [], ◌∷◌, sym, ap₂, subst, ◌∙◌, true≢false}
use Rattle.cd_sets.specs.declared.node_id.NodeId.{NodeId}
use Rattle.cd_sets.specs.Atoms.{Atoms, IsAtom, holds as holds_name, HoldsNoAtom}
use Rattle.cd_syntax.specs.Name.{Name, IsLabel}
use Rattle.cd_model.specs.Formula as formula
use Rattle.cd_model.specs.Formula.{Formula, Graph, formula_at}
use Rattle.cd_model.specs.Membership.{answers, holds, reader}
use Rattle.cd_model.specs.Thing as thing
use Rattle.cd_model.specs.Thing.{Thing, IsElement}
use Rattle.cd_verdicts.specs.Verdicts.{HasNoElement}
use Rattle.cd_rules.specs.Needs.{question}
use Rattle.cd_products.specs.Inner.Apart.{AreApart, HasTagsIn}
use Rattle.cd_products.proofs.OneMore.{each_without}

-- the thing is an atom of the set
abbrev IsAtomOf : Atoms → Thing → Type 0
IsAtomOf atoms (thing.Atom name) = holds_name atoms name ≡ true
IsAtomOf atoms _ = ⊥

atom : (name : Name) → IsLabel name → IsAtom name
atom [] is = is
atom (c ∷ name) is = is

-- no atom is in both sets
in_neither : (one other both : Atoms)
    → ((name : List ℕ) → holds_name both name ≡ (holds_name one name && holds_name other name))
    → HoldsNoAtom both → (e : Thing) → IsElement e → IsAtomOf one e → IsAtomOf other e → ⊥
in_neither one other both are none (thing.Atom name) element first second =
    true≢false (sym (ap₂ (λ a b. a && b) first second) ∙ sym (are name)
    ∙ none name (atom name element))
in_neither one other both are none (thing.Integer n) element first second = absurd first
in_neither one other both are none (thing.Character c) element first second = absurd first
in_neither one other both are none (thing.Pair d e) element first second = absurd first
in_neither one other both are none (thing.Xml d e f) element first second = absurd first
in_neither one other both are none (thing.Record fields) element first second = absurd first
in_neither one other both are none (thing.Function pairs) element first second = absurd first
in_neither one other both are none (thing.Closure f e) element first second = absurd first

module _ (graph : Graph) where
  atom_of : (e : Thing) (atoms : Atoms) → reader graph e (formula.Atoms atoms) true
      → IsAtomOf atoms e
  atom_of (thing.Atom name) atoms is = is
  atom_of (thing.Integer n) atoms is = absurd (true≢false is)
  atom_of (thing.Character c) atoms is = absurd (true≢false is)
  atom_of (thing.Pair first second) atoms is = absurd (true≢false is)
  atom_of (thing.Xml tag attributes content) atoms is = absurd (true≢false is)
  atom_of (thing.Record fields) atoms is = absurd (true≢false is)
  atom_of (thing.Function pairs) atoms is = absurd (true≢false is)
  atom_of (thing.Closure function environment) atoms is = absurd (true≢false is)

  in_atoms : (e : Thing) (id : NodeId) (atoms : Atoms) → formula_at graph id ≡ formula.Atoms atoms
      → answers graph e id true → IsAtomOf atoms e
  in_atoms e id atoms is inside =
      atom_of e atoms (subst (λ (f : Formula). holds (reader graph e) f true) is inside)

  pub atoms_apart : (one other : NodeId) (atoms others both : Atoms)
      → formula_at graph one ≡ formula.Atoms atoms → formula_at graph other ≡ formula.Atoms others
      → ((name : List ℕ) → holds_name both name ≡ (holds_name atoms name && holds_name others name))
      → HoldsNoAtom both → AreApart graph one other
  atoms_apart one other atoms others both are_atoms are_others are none e element first second =
      in_neither atoms others both are none e element (in_atoms e one atoms are_atoms first)
      (in_atoms e other others are_others second)

  -- the tag of what is in both is in both
  tags_meet : (e : Thing) (tag attributes content tag' attributes' content' : NodeId)
      → AreApart graph tag tag' → IsElement e
      → reader graph e (formula.Xml tag attributes content) true
      → reader graph e (formula.Xml tag' attributes' content') true → ⊥
  tags_meet (thing.Xml d with_ of) tag a c tag' a' c' apart element first second =
      apart d element.2 first.0 second.0
  tags_meet (thing.Atom name) tag a c tag' a' c' apart element first second = true≢false first
  tags_meet (thing.Integer n) tag a c tag' a' c' apart element first second = true≢false first
  tags_meet (thing.Character x) tag a c tag' a' c' apart element first second = true≢false first
  tags_meet (thing.Pair d e) tag a c tag' a' c' apart element first second = true≢false first
  tags_meet (thing.Record fields) tag a c tag' a' c' apart element first second = true≢false first
  tags_meet (thing.Function pairs) tag a c tag' a' c' apart element first second = true≢false first
  tags_meet (thing.Closure f e) tag a c tag' a' c' apart element first second = true≢false first

  pub tags_apart : (one other tags others : NodeId) → HasTagsIn graph one tags
      → HasTagsIn graph other others → AreApart graph tags others → AreApart graph one other
  tags_apart one other tags others (_, a, c, is) (_, a', c', is') apart e element first second =
      tags_meet e tags a c others a' c' apart element
      (subst (λ (f : Formula). holds (reader graph e) f true) is first)
      (subst (λ (f : Formula). holds (reader graph e) f true) is' second)

  -- so nothing is in the question of both
  pub apart_has_none : (one other : NodeId) → AreApart graph one other
      → HasNoElement graph (question (one ∷ other ∷ []) [])
  apart_has_none one other apart e element (inside, _) =
      let each = each_without (λ (id : NodeId). answers graph e id true) one (other ∷ []) inside in
      apart e element each.0 each.1.0
