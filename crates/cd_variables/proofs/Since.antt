-- What was bound last.
use Rattle.std.proofs.Common.{◌≡◌, ◌∙◌, ap, sym, ℕ, List, ◌++◌, length, map, drop}
use Rattle.std.proofs.lemmas.List.{length-map, drop-map}
use Rattle.std.proofs.Math.Seq.{drop-append_seam}
use Rattle.cd_variables.specs.Occurrences.{Occurrence}
use Rattle.cd_variables.specs.PlainOccurrences.{plain_occurrence}
use Rattle.cd_variables.specs.declared.occurrence.Occurrence.{Occurrence as CodeOccurrence}

-- from here on the rest of a list is left
pub last_part : (before all since : List CodeOccurrence) (from : ℕ) (part : List Occurrence)
    → map plain_occurrence all ≡ map plain_occurrence before ++ part → from ≡ length before
    → since ≡ drop from all → map plain_occurrence since ≡ part
last_part before all since from part is long since_is = ap (map plain_occurrence) since_is
    ∙ sym (drop-map plain_occurrence from all) ∙ ap (drop from) is
    ∙ ap (λ (n : ℕ). drop n (map plain_occurrence before ++ part))
    (long ∙ sym (length-map before plain_occurrence))
    ∙ drop-append_seam (map plain_occurrence before) part
