use Rattle.std.proofs.Common.{List, ℕ, subst}
use Rattle.cd_model.specs.Thing.{Atom}
use Rattle.cd_cells.specs.Table.{table, IsAt}
use Rattle.cd_operations.proofs.Labels.{invalid_label}
use Rattle.cd_operations.proofs.Literals.{invalid_characters}
use Rattle.cd_operations.proofs.words.invalid_int.Goals as goal

pub atom-requires : goal.atom-requires
atom-requires c = invalid_label

pub returns-clause-is : goal.returns-clause-is
returns-clause-is c =
    subst (λ (name : List ℕ). IsAt (table c.atom.new.self) c.in_ok-atom.field-0.0 (Atom name)) invalid_characters
    c.in_ok-atom.ensures.is
