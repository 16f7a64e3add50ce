-- Things that are there once stand under one number.
use Rattle.std.proofs.Common.{◌≡◌, ◌&&◌, ℕ, zero, suc, Bool, true, false, List, [], ◌∷◌, Some, refl, sym, ap}
use Rattle.std.proofs.Common.{◌∙◌, true≢false}
use Rattle.std.specs.List.{slice_get, IsDistinct, AllByRecursion}
use Rattle.std.proofs.lemmas.Bool.Decides.{Decides-eqb}
use Rattle.std.proofs.lemmas.Map.Keys.{IsDistinct-head, IsDistinct-tail}
use Rattle.std.proofs.lemmas.Option.{none-some, same_Some}
use Rattle.cd_explored.specs.contracts.want.WantPartialEq.TheImpl as equality
use Rattle.cd_explored.specs.declared.want.Want.{Want}
use Rattle.cd_explored.specs.declared.want.Want.TheVariants.{Comes, Captures, Text, Character}
use Rattle.cd_explored.specs.Inner.Wanted.{AreOnce}

module _ {X : Type 0} (test : X → X → Bool) (itself : (x : X) → test x x ≡ true) where
  not_later : (x : X) (xs : List X) → AllByRecursion (λ y. test x y ≡ false) xs → (k : ℕ)
      → slice_get xs k ≡ Some x → ⊥
  not_later x [] differ k is = none-some x is
  not_later x (y ∷ xs) differ zero is =
      true≢false (sym (itself x) ∙ ap (test x) (sym (same_Some y x is)) ∙ differ.0)
  not_later x (y ∷ xs) differ (suc k) is = not_later x xs differ.1 k is

  pub stands_once : (xs : List X) → IsDistinct test xs → (one other : ℕ) (x : X)
      → slice_get xs one ≡ Some x → slice_get xs other ≡ Some x → one ≡ other
  stands_once [] distinct one other x is same = absurd (none-some x is)
  stands_once (y ∷ xs) distinct zero zero x is same = refl
  stands_once (y ∷ xs) distinct zero (suc other) x is same = absurd (not_later y xs
      (IsDistinct-head test y xs distinct) other (same ∙ sym is))
  stands_once (y ∷ xs) distinct (suc one) zero x is same = absurd (not_later y xs
      (IsDistinct-head test y xs distinct) one (is ∙ sym same))
  stands_once (y ∷ xs) distinct (suc one) (suc other) x is same =
      ap suc (stands_once xs (IsDistinct-tail test y xs distinct) one other x is same)

abbrev pub same_want : Want → Want → Bool
same_want = (equality.ghosts).eq

both_so : (a b : Bool) → a ≡ true → b ≡ true → (a && b) ≡ true
both_so a b first second = rw (first, second) refl

same_itself : (want : Want) → same_want want want ≡ true
same_itself (Comes number) = (Decides-eqb number number).1 refl
same_itself (Captures variable number) = both_so _ _ ((Decides-eqb variable variable).1 refl)
    ((Decides-eqb number number).1 refl)
same_itself (Text number from) = both_so _ _ ((Decides-eqb number number).1 refl)
    ((Decides-eqb from from).1 refl)
same_itself (Character c) = (Decides-eqb c c).1 refl

pub wants_once : (wants : List Want) → IsDistinct same_want wants → AreOnce wants
wants_once = stands_once same_want same_itself
