-- ASCII texts, and what is made of them.
use Rattle.std.proofs.Common.{◌≡◌, ◌<◌, true, List, ℕ, [], ◌∷◌, ◌++◌, nat_lt, refl, arith}
use Rattle.std.specs.Prelude.{codes}
use Rattle.std.specs.List.{list_all}
use Rattle.std.specs.Str.{IsAscii}
use Rattle.std.proofs.lemmas.Bool.{and_parts}
use Rattle.std.proofs.lemmas.Bool.Decides.{nat_tests}
use Rattle.std.proofs.lemmas.Str.{IsAscii-append}
use Rattle.std.proofs.lemmas.Str.Ascii.{IsAscii-nil, IsAscii-cons}
use Rattle.cd_model.specs.AllOf.{AllOf}
use Rattle.cd_running.specs.Workload.{spaced}

is_below : (c : ℕ) → nat_lt c 128 ≡ true → c < 128
is_below c test = grind (arith, nat_tests)

-- each byte of a text that is written out is looked at
pub known_ascii : (text : List ℕ) → list_all (λ c. nat_lt c 128) text ≡ true → IsAscii text
known_ascii [] test = IsAscii-nil
known_ascii (c ∷ text) test =
    let parts = and_parts (nat_lt c 128) (list_all (λ c. nat_lt c 128) text) test in
    IsAscii-cons c text (is_below c parts.0) (known_ascii text parts.1)

-- a text between two others
pub between_ascii : (before text after : List ℕ) → IsAscii before → IsAscii text → IsAscii after → IsAscii (before ++ text ++ after)
between_ascii before text after one two three = IsAscii-append (before ++ text) after (IsAscii-append before text one two) three

pub spaced_ascii : (texts : List (List ℕ)) → AllOf IsAscii texts → IsAscii (spaced texts)
spaced_ascii [] all = IsAscii-nil
spaced_ascii (text ∷ []) all = all.0
spaced_ascii (text ∷ next ∷ rest) all =
    IsAscii-append (text ++ codes " ") (spaced (next ∷ rest)) (IsAscii-append text (codes " ") all.0 (known_ascii (codes " ") refl))
    (spaced_ascii (next ∷ rest) all.1)
