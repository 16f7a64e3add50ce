use Rattle.std.proofs.Common.{List, ℕ, subst, sym}
use Rattle.cd_syntax.specs.Name.{IsLabel}
use Rattle.cd_model.specs.Thing.{Atom}
use Rattle.cd_model.proofs.SoundBuiltIns.{nil_is_label}
use Rattle.cd_cells.specs.Table.{table, IsAt}
use Rattle.cd_cells.proofs.SharedCells.{nil_text, nil_cell}
use Rattle.cd_cells.proofs.values.Values.new_nil.Goals as goal

pub atom-requires : goal.atom-requires
atom-requires c = subst IsLabel (sym nil_text) nil_is_label

pub invariant_of-self : goal.invariant_of-self
invariant_of-self c =
    let new = c.atom.new.self in
    let at = subst (λ (name : List ℕ). IsAt (table new) c.in_ok-id.id.0 (Atom name)) nil_text
    c.in_ok-id.ensures.is in
    let is = nil_cell new.lists new.cells.items new.sound c.in_ok-id.id at in
    record { sound = new.sound; known = (new.known.0, new.known.1, is, new.known.3) }

pub returns-clause-is : goal.returns-clause-is
returns-clause-is c =
    subst (λ (name : List ℕ). IsAt (table c.atom.new.self) c.in_ok-id.id.0 (Atom name)) nil_text
    c.in_ok-id.ensures.is
