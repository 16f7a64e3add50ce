-- A formula holds what one of its members holds.
use Rattle.std.proofs.Common.{◌↔◌, ℕ, true, List, [], ◌∷◌, ◌++◌, ◌⊎◌, inl, inr, true≢false}
use Rattle.cd_model.proofs.BothWays.{through, turned, itself, one_agrees}
use Rattle.cd_model.specs.AllOf.{AllOf}
use Rattle.cd_model.specs.Formula as formula
use Rattle.cd_model.specs.Formula.{Formula, Formulas, NoFormula, AFormula, AreFormulas, IsFormula}
use Rattle.cd_model.specs.Formula.{formulas_of}
use Rattle.cd_model.specs.Membership.{Reader, holds, one_holds}
use Rattle.cd_sites.specs.Inner.Members.{basic_members, all_basic_members, other_members}
use Rattle.cd_sites.specs.Inner.Members.{all_other_members, with_union, members_of}
use Rattle.cd_model.proofs.FormulasAmongMore.{are_formulas}

pub crossed : {A B C D : Type 0} → ((A ⊎ B) ⊎ (C ⊎ D)) ↔ ((A ⊎ C) ⊎ (B ⊎ D))
crossed = (
  λ one. elim one [
    | inl (inl a) ↦ inl (inl a)
    | inl (inr b) ↦ inr (inl b)
    | inr (inl c) ↦ inl (inr c)
    | inr (inr d) ↦ inr (inr d)
  ],
  λ one. elim one [
    | inl (inl a) ↦ inl (inl a)
    | inl (inr c) ↦ inr (inl c)
    | inr (inl b) ↦ inl (inr b)
    | inr (inr d) ↦ inr (inr d)
  ],
)

module _ (read : Reader) where
  abbrev OneOf : List Formula → Type 0
  OneOf all = one_holds read (formulas_of all) true

  pub among_both : (one other : List Formula) → OneOf (one ++ other) ↔ (OneOf one ⊎ OneOf other)
  among_both [] other = (
    λ here. inr here,
    λ here. elim here [ inl none ↦ absurd none | inr there ↦ there ],
  )
  among_both (f ∷ one) other = (
    λ here. elim here [
      | inl first ↦ inl (inl first)
      | inr later ↦ elim ((among_both one other).0 later) [
        | inl there ↦ inl (inr there)
        | inr there ↦ inr there
      ]
    ],
    λ here. elim here [
      | inl (inl first) ↦ inl first
      | inl (inr later) ↦ inr ((among_both one other).1 (inl later))
      | inr there ↦ inr ((among_both one other).1 (inr there))
    ],
  )

  pub alone : (f : Formula) → OneOf (f ∷ []) ↔ holds read f true
  alone f = (
    λ one. elim one [ inl here ↦ here | inr none ↦ absurd none ],
    λ here. inl here,
  )

  pub among_more : (all : List Formula) (f : Formula)
      → OneOf (all ++ (f ∷ [])) ↔ (OneOf all ⊎ holds read f true)
  among_more all f = through (among_both all (f ∷ [])) (one_agrees itself (alone f))

  abbrev Members : Formula → Type 0
  Members f = OneOf (other_members f) ⊎ OneOf (basic_members f)

  one_other : (f : Formula) → holds read f true ↔ (OneOf (f ∷ []) ⊎ OneOf [])
  one_other f = (
    λ here. inl (inl here),
    λ one. elim one [
      | inl (inl here) ↦ here
      | inl (inr none) ↦ absurd none
      | inr none ↦ absurd none
    ],
  )

  one_basic : (f : Formula) → holds read f true ↔ (OneOf [] ⊎ OneOf (f ∷ []))
  one_basic f = (
    λ here. inr (inl here),
    λ one. elim one [
      | inl none ↦ absurd none
      | inr (inl here) ↦ here
      | inr (inr none) ↦ absurd none
    ],
  )

  nowhere : holds read formula.Nothing true ↔ (OneOf [] ⊎ OneOf [])
  nowhere = (
    λ none. absurd (true≢false none),
    λ one. elim one [ inl none ↦ absurd none | inr none ↦ absurd none ],
  )

  mutual
    held : (f : Formula) → holds read f true ↔ Members f
    held formula.Nothing = nowhere
    held (formula.Or all) = held_by_one all
    held (formula.Ints set) = one_basic (formula.Ints set)
    held (formula.Chars set) = one_basic (formula.Chars set)
    held (formula.Atoms set) = one_basic (formula.Atoms set)
    held formula.Everything = one_other formula.Everything
    held (formula.Pair p q) = one_other (formula.Pair p q)
    held (formula.Xml p q r) = one_other (formula.Xml p q r)
    held (formula.Record named rest) = one_other (formula.Record named rest)
    held (formula.Arrow p q) = one_other (formula.Arrow p q)
    held (formula.And all) = one_other (formula.And all)
    held (formula.Not f) = one_other (formula.Not f)

    held_by_one : (all : Formulas) → one_holds read all true
        ↔ (OneOf (all_other_members all) ⊎ OneOf (all_basic_members all))
    held_by_one NoFormula = (
      λ none. absurd none,
      λ one. elim one [ inl none ↦ absurd none | inr none ↦ absurd none ],
    )
    held_by_one (AFormula f rest) = through (one_agrees (held f) (held_by_one rest))
        (through crossed
        (one_agrees (turned (among_both (other_members f) (all_other_members rest)))
        (turned (among_both (basic_members f) (all_basic_members rest)))))

  of_both : (others basic : List Formula)
      → (OneOf others ⊎ OneOf basic) ↔ OneOf (with_union others basic)
  of_both others [] = (
    λ one. elim one [ inl here ↦ here | inr none ↦ absurd none ],
    λ here. inl here,
  )
  of_both others (f ∷ basic) =
      turned (among_more others (formula.Or (formulas_of (f ∷ basic))))

  pub held_by_members : (f : Formula)
      → holds read f true ↔ one_holds read (formulas_of (members_of f)) true
  held_by_members f = through (held f) (of_both (other_members f) (basic_members f))

module _ (count : ℕ) where
  abbrev Sound : List Formula → Type 0
  Sound = AllOf (IsFormula count)

  pub both_sound : (one other : List Formula) → Sound one → Sound other → Sound (one ++ other)
  both_sound [] other each others = others
  both_sound (f ∷ one) other each others = (each.0, both_sound one other each.1 others)

  mutual
    sound_members : (f : Formula) → IsFormula count f
        → Sound (other_members f) × Sound (basic_members f)
    sound_members formula.Nothing is = (tt, tt)
    sound_members (formula.Or all) is = all_sound all is
    sound_members (formula.Ints set) is = (tt, (is, tt))
    sound_members (formula.Chars set) is = (tt, (is, tt))
    sound_members (formula.Atoms set) is = (tt, (is, tt))
    sound_members formula.Everything is = ((is, tt), tt)
    sound_members (formula.Pair p q) is = ((is, tt), tt)
    sound_members (formula.Xml p q r) is = ((is, tt), tt)
    sound_members (formula.Record named rest) is = ((is, tt), tt)
    sound_members (formula.Arrow p q) is = ((is, tt), tt)
    sound_members (formula.And all) is = ((is, tt), tt)
    sound_members (formula.Not f) is = ((is, tt), tt)

    all_sound : (all : Formulas) → AreFormulas count all
        → Sound (all_other_members all) × Sound (all_basic_members all)
    all_sound NoFormula are = (tt, tt)
    all_sound (AFormula f rest) are = let first = sound_members f are.0 in
        let later = all_sound rest are.1 in (
          both_sound (other_members f) (all_other_members rest) first.0 later.0,
          both_sound (basic_members f) (all_basic_members rest) first.1 later.1,
        )

  union_sound : (others basic : List Formula) → Sound others → Sound basic
      → Sound (with_union others basic)
  union_sound others [] each basics = each
  union_sound others (f ∷ basic) each basics =
      both_sound others (formula.Or (formulas_of (f ∷ basic)) ∷ []) each
      (are_formulas count (f ∷ basic) basics, tt)

  pub members_sound : (f : Formula) → IsFormula count f → Sound (members_of f)
  members_sound f is = let both = sound_members f is in
      union_sound (other_members f) (basic_members f) both.0 both.1
