-- Laws of the first option that is something.
use Rattle.std.proofs.Common.{◌≡◌, Option, Some, None, refl, ap}
use Rattle.cd_matching.specs.Captures.{or_else}

pub or_else_assoc : {A : Type 0} (a b c : Option A)
    → or_else (or_else a b) c ≡ or_else a (or_else b c)
or_else_assoc (Some x) b c = refl
or_else_assoc None b c = refl

pub or_else_none : {A : Type 0} (a : Option A) → or_else a None ≡ a
or_else_none (Some x) = refl
or_else_none None = refl

pub or_else_again : {A : Type 0} (a b : Option A) → or_else a (or_else a b) ≡ or_else a b
or_else_again (Some x) b = refl
or_else_again None b = refl

pub or_else_between : {A : Type 0} (a b c d : Option A) → or_else a c ≡ or_else a d
    → or_else a (or_else b c) ≡ or_else a (or_else b d)
or_else_between (Some x) b c d same = refl
or_else_between None b c d same = ap (or_else b) same
