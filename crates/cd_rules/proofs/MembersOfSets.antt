-- A clause of integers, of characters or of atoms whose needs are all met has a member.
use Rattle.std.proofs.Common.{List, inl, inr, refl, subst}
use Rattle.cd_sets.specs.declared.interval.Interval.{Interval}
use Rattle.cd_sets.specs.Characters.{CharInterval}
use Rattle.cd_sets.specs.Atoms.{Atoms as AtomSet}
use Rattle.cd_model.specs.Thing as thing
use Rattle.cd_model.specs.AllOf.{AllOf}
use Rattle.cd_model.specs.Formula.{Graph}
use Rattle.cd_rules.specs.Clauses.{Ints, Chars, Atoms}
use Rattle.cd_rules.specs.Needs.{Need, empty_or_not}
use Rattle.cd_rules.specs.Members.{HasElement, HasMember, IsMet, HasAllNeeds}

-- where all needs of a basic kind are met, something is in each wanted set and in no refused one
member_of_met : {X : Type 0} (graph : Graph) (IsMember : X → Type 0) (needs : List Need)
    → empty_or_not IsMember needs → AllOf (IsMet (HasElement graph)) needs → (x : X) × IsMember x
member_of_met graph IsMember needs (inl empty) met = elim ((subst (AllOf (IsMet (HasElement graph))) empty.1 met).0) [ ]
member_of_met graph IsMember needs (inr member) met = (member.0, member.1)

-- a clause of integers has a member
pub integers_have : (graph : Graph) (wanted refused : List (List Interval))
    → HasAllNeeds (HasElement graph) (Ints wanted refused) → HasMember graph (Ints wanted refused)
integers_have graph wanted refused has =
    let member = member_of_met graph _ has.0 has.1 has.2 in
    (thing.Integer member.0, member.1.0, (refl, member.1.1, member.1.2))

-- a clause of characters has a member
pub characters_have : (graph : Graph) (wanted refused : List (List CharInterval))
    → HasAllNeeds (HasElement graph) (Chars wanted refused) → HasMember graph (Chars wanted refused)
characters_have graph wanted refused has =
    let member = member_of_met graph _ has.0 has.1 has.2 in
    (thing.Character member.0, member.1.0, (refl, member.1.1, member.1.2))

-- a clause of atoms has a member
pub atoms_have : (graph : Graph) (wanted refused : List AtomSet)
    → HasAllNeeds (HasElement graph) (Atoms wanted refused) → HasMember graph (Atoms wanted refused)
atoms_have graph wanted refused has =
    let member = member_of_met graph _ has.0 has.1 has.2 in
    (thing.Atom member.0, member.1.0, (refl, member.1.1, member.1.2))
