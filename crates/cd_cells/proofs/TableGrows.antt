-- A table whose values and names stay, with one more value or none, has grown.
use Rattle.std.proofs.Common.{◌≡◌, ℕ, List, [], ◌∷◌, ◌++◌, ◌∙◌, arith, length, length-append, subst}
use Rattle.std.proofs.Common.{sym, append-nil}
use Rattle.std.proofs.lemmas.List.{get_or_at}
use Rattle.cd_model.specs.Thing.{Thing, Atom}
use Rattle.cd_cells.specs.declared.values.Values.{Values}
use Rattle.cd_cells.specs.Table.{table, names, IsAt, Grows}

pub stayed : (old new : Values) → table new ≡ table old → names new ≡ names old → Grows old new
stayed old new things labels = record {
  things = ([], things ∙ sym (append-nil (table old)));
  labels = ([], labels ∙ sym (append-nil (names old)));
}

pub grew : (old new : Values) (one : Thing) → table new ≡ table old ++ one ∷ []
    → names new ≡ names old → Grows old new
grew old new one things labels = record {
  things = (one ∷ [], things);
  labels = ([], labels ∙ sym (append-nil (names old)));
}

-- the value that was added
pub last_at : (all new : List Thing) (number : ℕ) (value : Thing) → new ≡ all ++ value ∷ []
    → number ≡ length all → IsAt new number value
last_at all new number value is last =
    subst (λ (table : List Thing). IsAt table number value) (sym is)
    record {
      within = omega (arith, last, length-append all (value ∷ []));
      is = get_or_at all value [] (Atom []) number (sym last);
    }
