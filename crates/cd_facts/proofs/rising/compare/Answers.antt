use Rattle.std.proofs.Common.{◌≡◌, ◌∙◌, ap₂, refl, rules}
use Rattle.std.specs.Ordering.{nat_cmp}
use Rattle.std.specs.Cmp.Lexicographic.{slice_cmp}
use Rattle.std.proofs.lemmas.Iterator.{YieldsList-from_chars}
use Rattle.std.proofs.lemmas.Iterator.Search.{cmp_from_yields_List}
use Rattle.cd_facts.proofs.rising.compare.Goals as goal

-- the characters of both are compared
pub returns : goal.returns
returns c =
    cmp_from_yields_List (λ x y. y ≡ x) _ nat_cmp _ c.cmp.ensures.ran
    (YieldsList-from_chars c.as_str.result.now (search rules) cc)
    (λ it same. YieldsList-from_chars c.as_str-2.result.now (search rules) cc) (λ x y. refl)
    ∙ ap₂ (slice_cmp nat_cmp) c.as_str.ensures c.as_str-2.ensures
