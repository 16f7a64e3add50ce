-- The text of an atom is ASCII, so its bytes are its characters.
use Rattle.std.proofs.Common.{◌≡◌, ℕ, true, List, sym, ◌∙◌, subst}
use Rattle.std.proofs.lemmas.Str.{chars-IsAscii}
use Rattle.std.specs.Str.{chars}
use Rattle.cd_sets.specs.Atoms.{Atoms, IsAtom, holds}
use Rattle.cd_syntax.specs.Name.{Name, IsLabel}
use Rattle.cd_graph.proofs.Labels.{same_names, word_is_ascii}

-- a name with the characters of an atom of a set is a label, and in the set
pub atom_named : (set : Atoms) (bytes : List ℕ) (name : Name) → name ≡ chars bytes → IsAtom bytes → holds set bytes ≡ true
    → IsLabel name × (holds set name ≡ true)
atom_named set bytes name is atom held =
    let label = (same_names bytes).1 atom in
    let same = sym (is ∙ chars-IsAscii bytes (word_is_ascii bytes label.0)) in
    subst (λ (name : Name). IsLabel name × (holds set name ≡ true)) same (label, held)
