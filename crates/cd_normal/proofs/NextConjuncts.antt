-- What a conjunct becomes by its next formula is how it goes on.
use Rattle.std.proofs.Common.{◌≡◌, Bool, true, false, not, List, [], ◌∷◌, ◌++◌, refl}
use Rattle.cd_model.specs.Formula as formula
use Rattle.cd_model.specs.Formula.{Formula}
use Rattle.cd_rules.specs.PartialConjuncts.{Partial, GoesOn, unfolds, divides, extends, partial, each_signed}
use Rattle.cd_rules.specs.PartialConjuncts.{wants_each, denies, refuses_one}
use Rattle.cd_normal.specs.ConjunctsGoOn.{TopGoesOn}
use Rattle.cd_normal.specs.Inner.NextConjuncts.{next_conjuncts, are_flat}
use Rattle.cd_normal.proofs.Refusals.{goes_on_refusing, goes_on_wanting}

pub next_goes_on : (is : Partial) (one : Formula) (wanted : Bool)
    → GoesOn (partial is.kind is.conjunct ((one, wanted) ∷ is.left)) (next_conjuncts is one wanted)
next_goes_on is (formula.And formulas) true =
    unfolds is.kind is.conjunct (formula.And formulas, true) (each_signed formulas true) is.left (wants_each formulas)
next_goes_on is (formula.And formulas) false =
    divides is.kind is.conjunct (formula.And formulas, false) (each_signed formulas false) is.left (refuses_one formulas)
next_goes_on is (formula.Or formulas) true = goes_on_wanting is formulas (are_flat formulas) refl
next_goes_on is (formula.Or formulas) false = goes_on_refusing is formulas (are_flat formulas) refl
next_goes_on is (formula.Not one) wanted =
    unfolds is.kind is.conjunct (formula.Not one, wanted) ((one, not wanted) ∷ []) is.left (denies one wanted)
next_goes_on is formula.Nothing wanted = extends is.kind is.conjunct (formula.Nothing, wanted) is.left
next_goes_on is formula.Everything wanted = extends is.kind is.conjunct (formula.Everything, wanted) is.left
next_goes_on is (formula.Ints set) wanted = extends is.kind is.conjunct (formula.Ints set, wanted) is.left
next_goes_on is (formula.Chars set) wanted = extends is.kind is.conjunct (formula.Chars set, wanted) is.left
next_goes_on is (formula.Atoms set) wanted = extends is.kind is.conjunct (formula.Atoms set, wanted) is.left
next_goes_on is (formula.Pair first second) wanted = extends is.kind is.conjunct (formula.Pair first second, wanted) is.left
next_goes_on is (formula.Xml tag attributes content) wanted =
    extends is.kind is.conjunct (formula.Xml tag attributes content, wanted) is.left
next_goes_on is (formula.Record named rest) wanted = extends is.kind is.conjunct (formula.Record named rest, wanted) is.left
next_goes_on is (formula.Arrow argument result) wanted =
    extends is.kind is.conjunct (formula.Arrow argument result, wanted) is.left

pub top_goes_on : (before rest after : List Partial) (is : Partial) (one : Formula) (wanted : Bool)
    → before ≡ partial is.kind is.conjunct ((one, wanted) ∷ is.left) ∷ rest → after ≡ next_conjuncts is one wanted ++ rest
    → TopGoesOn before after
top_goes_on before rest after is one wanted was made =
    (partial is.kind is.conjunct ((one, wanted) ∷ is.left), next_conjuncts is one wanted, rest, was, made, next_goes_on is one wanted)
