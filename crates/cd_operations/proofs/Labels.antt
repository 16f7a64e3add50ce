-- The names of some atoms are labels.
use Rattle.std.proofs.Common.{refl, sym, subst, true≢false}
use Rattle.std.specs.Prelude.{codes}
use Rattle.std.specs.Str.{chars}
use Rattle.std.proofs.lemmas.Slice.Eq.{bytes_eq-Decides}
use Rattle.cd_syntax.specs.Name.{IsLabel}
use Rattle.cd_operations.proofs.Literals.{true_characters, false_characters, invalid_characters}

pub true_label : IsLabel (chars (codes "true"))
true_label = subst IsLabel (sym true_characters)
    (refl, λ same. true≢false (sym ((bytes_eq-Decides (codes "true") (codes "_")).1 same)))

pub false_label : IsLabel (chars (codes "false"))
false_label = subst IsLabel (sym false_characters)
    (refl, λ same. true≢false (sym ((bytes_eq-Decides (codes "false") (codes "_")).1 same)))

pub invalid_label : IsLabel (chars (codes "Invalid_int"))
invalid_label = subst IsLabel (sym invalid_characters)
    (refl, λ same. true≢false (sym ((bytes_eq-Decides (codes "Invalid_int") (codes "_")).1 same)))
