use Rattle.std.proofs.Common.{subst, sym, ap, ◌∙◌, ◌==◌, List, length, String, Global, Bool, not, IsTrue}
use Rattle.cd_sets.specs.Atoms.{Atoms, HoldsNoAtom}
use Rattle.cd_sets.proofs.ListedAtoms.{rest_is_some, some_are_none}
use Rattle.cd_sets.proofs.atom_set.AtomSet.is_empty.Goals as goal

-- the answer is true where the set holds no atom
abbrev IsAnswer : Bool → Atoms → Type 0
IsAnswer b set = (IsTrue b → HoldsNoAtom set) × (HoldsNoAtom set → IsTrue b)

pub returns-then-not-self : goal.returns-then-not-self
returns-then-not-self c =
    let none = c.is_empty.ensures ∙ ap (λ (names : List (String Global)). length names == 0) c.as_slice.ensures.value in
    subst (λ (b : Bool). IsAnswer b c.args.self.now) (sym none)
    (subst (IsAnswer (length c.self.inside.names.items == 0)) c.self.view_is
    (some_are_none c.self.inside.names.items c.self.inside.all_but c.if-not-self.true c.self.invariant))

pub returns-else-not-self : goal.returns-else-not-self
returns-else-not-self c =
    subst (IsAnswer (not c.self.inside.all_but)) c.self.view_is
    (rest_is_some c.self.inside.names.items c.self.inside.all_but c.if-not-self.false)
