-- The empty sequence is an element.
use Rattle.std.proofs.Common.{true≢false, refl, sym}
use Rattle.std.specs.Prelude.{codes}
use Rattle.std.proofs.lemmas.Slice.Eq.{bytes_eq-Decides}
use Rattle.cd_model.specs.Thing.{IsElement}
use Rattle.cd_matching.specs.Sequences.{nil}

pub nil_is_element : IsElement nil
nil_is_element =
    (refl, λ same. true≢false (sym ((bytes_eq-Decides (codes "nil") (codes "_")).1 same)))
