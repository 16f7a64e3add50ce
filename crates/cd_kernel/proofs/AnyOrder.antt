-- What holds of things and of captures in any order.
use Rattle.std.proofs.Common.{◌≡◌, List, [], ◌∷◌, ◌++◌, ◌⊎◌, inl, inr, Option, Some}
use Rattle.std.proofs.Common.{None, refl, sym, ap, subst, ◌∙◌}
use Rattle.std.proofs.lemmas.Option.{none-some}
use Rattle.cd_syntax.specs.Name.{Name}
use Rattle.cd_model.specs.AllOf.{AllOf, AnyOf}
use Rattle.cd_model.specs.Thing.{Thing}
use Rattle.cd_matching.specs.Captures.{Captures, nothing, or_else, both}
use Rattle.cd_matching.proofs.UnboundVariables.{Lacks}
use Rattle.cd_kernel.specs.Making.{IsReordered}
use Rattle.cd_kernel.proofs.OrElse.{or_else_none}

pub all_among : {A : Type 0} (P : A → Type 0) (xs : List A) (x : A) → AllOf P xs
    → AnyOf (λ other. other ≡ x) xs → P x
all_among P [] x all one = absurd one
all_among P (y ∷ xs) x all (inl same) = subst P same all.0
all_among P (y ∷ xs) x all (inr later) = all_among P xs x all.1 later

any_put : {A : Type 0} (P : A → Type 0) (before after : List A) (x : A) → P x
    → AnyOf P (before ++ x ∷ after)
any_put P [] after x fact = inl fact
any_put P (y ∷ before) after x fact = inr (any_put P before after x fact)

any_beside : {A : Type 0} (P : A → Type 0) (before after : List A) (x : A)
    → AnyOf P (before ++ after) → AnyOf P (before ++ x ∷ after)
any_beside P [] after x any = inr any
any_beside P (y ∷ before) after x (inl fact) = inl fact
any_beside P (y ∷ before) after x (inr later) = inr (any_beside P before after x later)

pub any_reordered : {A : Type 0} (P : A → Type 0) (xs ys : List A) → IsReordered xs ys → AnyOf P xs
    → AnyOf P ys
any_reordered P [] ys same any = absurd any
any_reordered P (x ∷ xs) ys (before, after, same, rest) (inl fact) =
    subst (AnyOf P) (sym same) (any_put P before after x fact)
any_reordered P (x ∷ xs) ys (before, after, same, rest) (inr later) =
    subst (AnyOf P) (sym same)
    (any_beside P before after x (any_reordered P xs (before ++ after) rest later))

module _ {A : Type 0} where
  all_put : (P : A → Type 0) (before after : List A) (x : A) → P x → AllOf P (before ++ after)
      → AllOf P (before ++ x ∷ after)
  all_put P [] after x fact all = (fact, all)
  all_put P (y ∷ before) after x fact all = (all.0, all_put P before after x fact all.1)

  pub all_before : (P : A → Type 0) (before after : List A) → AllOf P (before ++ after)
      → AllOf P before
  all_before P [] after all = tt
  all_before P (y ∷ before) after all = (all.0, all_before P before after all.1)

  pub all_reordered : (P : A → Type 0) (xs ys : List A) → IsReordered xs ys → AllOf P xs
      → AllOf P ys
  all_reordered P [] ys same all = subst (AllOf P) (sym same) tt
  all_reordered P (x ∷ xs) ys (before, after, same, rest) all =
      subst (AllOf P) (sym same)
      (all_put P before after x all.0 (all_reordered P xs (before ++ after) rest all.1))

  -- a fact of each two things
  abbrev pub EachTwo : (R : A → A → Type 0) → List A → Type 0
  EachTwo R [] = Unit {0}
  EachTwo R (x ∷ xs) = AllOf (R x) xs × EachTwo R xs

  two_put : (R : A → A → Type 0) → ((x y : A) → R x y → R y x) → (before after : List A) (x : A)
      → AllOf (R x) (before ++ after) → EachTwo R (before ++ after)
      → EachTwo R (before ++ x ∷ after)
  two_put R turned [] after x all two = (all, two)
  two_put R turned (y ∷ before) after x all two = (
    all_put (R y) before after x (turned x y all.0) two.0,
    two_put R turned before after x all.1 two.1,
  )

  pub two_reordered : (R : A → A → Type 0) → ((x y : A) → R x y → R y x) → (xs ys : List A)
      → IsReordered xs ys → EachTwo R xs → EachTwo R ys
  two_reordered R turned [] ys same two = subst (EachTwo R) (sym same) tt
  two_reordered R turned (x ∷ xs) ys (before, after, same, rest) two =
      subst (EachTwo R) (sym same) (two_put R turned before after x
      (all_reordered (R x) xs (before ++ after) rest two.0)
      (two_reordered R turned xs (before ++ after) rest two.1))

-- no variable is captured by both
abbrev pub CaptureDisjoint : (one other : Option (Captures Name)) → Type 0
CaptureDisjoint a b = (name : Name) → Lacks name a ⊎ Lacks name b

or_swap : (a b c : Option Thing) → (a ≡ None) ⊎ (b ≡ None)
    → or_else a (or_else b c) ≡ or_else b (or_else a c)
or_swap None b c apart = refl
or_swap (Some x) None c apart = refl
or_swap (Some x) (Some y) c (inl none) = absurd (none-some x (sym none))
or_swap (Some x) (Some y) c (inr none) = absurd (none-some y (sym none))

both_swap : (a b c : Option (Captures Name)) → CaptureDisjoint a b
    → both a (both b c) ≡ both b (both a c)
both_swap None None c apart = refl
both_swap None (Some d) None apart = refl
both_swap None (Some d) (Some e) apart = refl
both_swap (Some d) None c apart = refl
both_swap (Some d) (Some e) None apart = refl
both_swap (Some d) (Some e) (Some f) apart =
    λ i. Some (λ name. or_swap (d name) (e name) (f name) (apart name) i)

pub both_none : (a : Option (Captures Name)) → both a (Some nothing) ≡ a
both_none None = refl
both_none (Some c) = λ i. Some (λ name. or_else_none (c name) i)

module _ {A : Type 0} (has : A → Option (Captures Name)) where
  abbrev pub all_both : List A → Option (Captures Name)
  all_both [] = Some nothing
  all_both (x ∷ xs) = both (has x) (all_both xs)

  abbrev pub HaveDisjoint : A → A → Type 0
  HaveDisjoint x y = CaptureDisjoint (has x) (has y)

  put_first : (before after : List A) (x : A) → AllOf (HaveDisjoint x) before
      → all_both (before ++ x ∷ after) ≡ both (has x) (all_both (before ++ after))
  put_first [] after x apart = refl
  put_first (y ∷ before) after x apart =
      ap (both (has y)) (put_first before after x apart.1)
      ∙ sym (both_swap (has x) (has y) (all_both (before ++ after)) apart.0)

  pub any_order : (xs ys : List A) → IsReordered xs ys → EachTwo HaveDisjoint xs
      → all_both xs ≡ all_both ys
  any_order [] ys same apart = ap all_both (sym same)
  any_order (x ∷ xs) ys (before, after, same, rest) apart =
      ap (both (has x)) (any_order xs (before ++ after) rest apart.1)
      ∙ sym (put_first before after x (all_before (HaveDisjoint x) before after
      (all_reordered (HaveDisjoint x) xs (before ++ after) rest apart.0)))
      ∙ ap all_both (sym same)
