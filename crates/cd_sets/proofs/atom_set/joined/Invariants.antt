use Rattle.std.proofs.Common.{◌≡◌, ℕ, List, ◌||◌, take}
use Rattle.cd_sets.specs.Atoms.{AreAtoms, is_listed, texts}
use Rattle.cd_sets.proofs.atom_set.joined.Given as goal

-- the names of the first list, and those so far of the second
abbrev pub invariant-loop-name : goal.invariant-loop-name
invariant-loop-name l = record {
  atoms : AreAtoms (texts l.all.items);
  exact : (q : List ℕ) → is_listed (texts l.all.items) q
      ≡ (is_listed (texts l.first.items) q || is_listed (texts (take l.name-index l.second.items)) q);
}
