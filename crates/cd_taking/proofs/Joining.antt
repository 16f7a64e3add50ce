-- Captures that are joined.
use Rattle.std.proofs.Common.{◌≡◌, ℕ, List, [], ◌∷◌, ◌++◌, Option, Some, None, option_map, refl, sym, ap, ◌∙◌}
use mathlib.Core.Path.{fun_ext}
use Rattle.cd_model.specs.Thing.{Thing}
use Rattle.cd_matching.specs.Captures.{Captures, nothing, or_else, joined, both}
use Rattle.cd_matching.specs.Kernel.{just, before, gathered}
use Rattle.cd_taking.specs.Inner.Machine.{Caught, caught, gather}
use Rattle.cd_taking.specs.Inner.Meaning.{join_second}

or_else_assoc : {X : Type 0} (a b c : Option X) → or_else (or_else a b) c ≡ or_else a (or_else b c)
or_else_assoc (Some x) b c = refl
or_else_assoc None b c = refl

or_else_none : {X : Type 0} (a : Option X) → or_else a None ≡ a
or_else_none (Some x) = refl
or_else_none None = refl

pub joined_assoc : (a b c : Captures ℕ) → joined (joined a b) c ≡ joined a (joined b c)
joined_assoc a b c = fun_ext (λ variable. or_else_assoc (a variable) (b variable) (c variable))

pub joined_nothing : (a : Captures ℕ) → joined a nothing ≡ a
joined_nothing a = fun_ext (λ variable. or_else_none (a variable))

pub caught_append : (t u : List Caught) → caught (t ++ u) ≡ joined (caught t) (caught u)
caught_append [] u = refl
caught_append (one ∷ t) u =
    ap (joined (just one.0 one.1)) (caught_append t u)
    ∙ sym (joined_assoc (just one.0 one.1) (caught t) (caught u))

pub map_joined : (a b : Captures ℕ) (r : Option (Captures ℕ))
    → option_map (joined a) (option_map (joined b) r) ≡ option_map (joined (joined a b)) r
map_joined a b (Some c) = ap Some (sym (joined_assoc a b c))
map_joined a b None = refl

pub both_shift : (a : Captures ℕ) (r s : Option (Captures ℕ))
    → both (option_map (joined a) r) s ≡ option_map (joined a) (both r s)
both_shift a (Some c) (Some d) = ap Some (joined_assoc a c d)
both_shift a (Some c) None = refl
both_shift a None s = refl

gathered_shift : (variable : ℕ) (d : Thing) (a : Captures ℕ) (r s : Option (Captures ℕ))
    → gathered variable d (option_map (joined a) r) s ≡ option_map (joined a) (gathered variable d r s)
gathered_shift variable d a (Some c) (Some e) = ap Some (joined_assoc a c (before variable d e))
gathered_shift variable d a (Some c) None = refl
gathered_shift variable d a None s = refl

pub second_shift : (variable : Option ℕ) (d : Thing) (a : Captures ℕ) (r s : Option (Captures ℕ))
    → join_second variable d (option_map (joined a) r) s ≡ option_map (joined a) (join_second variable d r s)
second_shift None d a r s = both_shift a r s
second_shift (Some variable) d a r s = gathered_shift variable d a r s

pub both_nothing : (r : Option (Captures ℕ)) → both (Some nothing) r ≡ r
both_nothing (Some c) = refl
both_nothing None = refl

pub second_nothing : (variable : Option ℕ) (d : Thing) (r : Option (Captures ℕ))
    → join_second variable d (Some nothing) r ≡ option_map (gather variable d) r
second_nothing None d (Some c) = refl
second_nothing None d None = refl
second_nothing (Some variable) d (Some c) = refl
second_nothing (Some variable) d None = refl

-- a part that fails
pub second_fails : (variable : Option ℕ) (d : Thing) (s : Option (Captures ℕ)) → join_second variable d None s ≡ None
second_fails None d s = refl
second_fails (Some variable) d s = refl

pub map_is_none : {X Y : Type 0} (f : X → Y) (r : Option X) → option_map f r ≡ None → r ≡ None
map_is_none f (Some x) h = absurd (cc)
map_is_none f None h = refl

pub map_nothing : (r : Option (Captures ℕ)) → option_map (joined nothing) r ≡ r
map_nothing (Some c) = refl
map_nothing None = refl
