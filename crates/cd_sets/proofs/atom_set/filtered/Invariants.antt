use Rattle.std.proofs.Common.{◌≡◌, ℕ, List, ◌&&◌, take}
use Rattle.cd_sets.specs.Atoms.{AreAtoms, is_listed, is_kept, texts}
use Rattle.cd_sets.proofs.atom_set.filtered.Given as goal

-- those that are kept of the names so far
abbrev pub invariant-loop-name : goal.invariant-loop-name
invariant-loop-name l = record {
  atoms : AreAtoms (texts l.all.items);
  exact : (q : List ℕ) → is_listed (texts l.all.items) q
      ≡ (is_listed (texts (take l.name-index l.first.items)) q && is_kept l.kept (is_listed (texts l.second.items) q));
}
