-- Types that hold just what variables capture are narrower than others that hold it.
use Rattle.std.proofs.Common.{◌≡◌, refl, sym, subst, ap, ◌∙◌, List, ◌++◌, Option, Some, None}
use Rattle.cd_syntax.specs.Name.{Name}
use Rattle.cd_syntax.specs.TypeTree.{Tree}
use Rattle.cd_model.specs.Scope.{Scope}
use Rattle.cd_model.specs.Thing.{Thing}
use Rattle.cd_matching.specs.Captures.{Captures, or_else}
use Rattle.cd_meaning.specs.Sets.{Set, ◌⊆◌}
use Rattle.cd_typing.specs.Branches.{IsFirst, HoldCaptured, FitsOne}
use Rattle.cd_typing.specs.Typ.{Typ, In, Types, type_at, AreNarrower}
use Rattle.cd_typing.proofs.NamesBefore.{type_before}
use Rattle.cd_typing.proofs.Subsets.{itself}
use Rattle.cd_least.specs.Misses.{AreCaptured}

module _ (scope : Scope) (before : List Tree) (pattern : Tree) (matched more : Set) (fewer : matched ⊆ more) where
  pub first_of_more : (e : Thing) (captures : Captures Name) → IsFirst scope before pattern matched e captures
      → IsFirst scope before pattern more e captures
  first_of_more e captures first = record {
    element = first.element;
    in_set = fewer e first.element first.in_set;
    earlier = first.earlier;
    takes = first.takes;
  }

  module _ (own others types : Types) (are : AreCaptured scope own before pattern matched) (hold : HoldCaptured scope others before pattern more) where
    -- what is captured is in the other types too
    inside : (name : Name) (s t : Typ) → type_at own name ≡ Some s → type_at others name ≡ Some t → In s ⊆ In t
    inside name s t here there d sound is =
        let from = are.only name s here d sound is in
        by from.1 name from.3 (subst (λ (found : Option Typ). FitsOne found (from.1 name)) there (hold from.0 from.1 (first_of_more from.0 from.1 from.2) name))
      where
        by : (captures : Captures Name) (name : Name) → captures name ≡ Some d → FitsOne (Some t) (captures name) → In t d
        by captures name is fits = subst (In t) (same fits.0 (sym fits.1 ∙ is)) fits.2
          where
            same : (one : Thing) → Some one ≡ Some d → one ≡ d
            same one equal = cc

    pub below_captured : (e : Thing) (captures : Captures Name) → IsFirst scope before pattern matched e captures
        → AreNarrower (own ++ types) (others ++ types)
    below_captured e captures first name t is =
        by (type_at own name) (type_at others name) refl refl (are.hold e captures first name)
        (hold e captures (first_of_more e captures first) name) (sym (type_before others types name) ∙ is)
      where
        by : (mine found : Option Typ) → type_at own name ≡ mine → type_at others name ≡ found → FitsOne mine (captures name)
            → FitsOne found (captures name) → or_else found (type_at types name) ≡ Some t
            → (s : Typ) × (type_at (own ++ types) name ≡ Some s) × (In s ⊆ In t)
        by None None here there fits other is =
            (t, type_before own types name ∙ ap (λ one. or_else one (type_at types name)) here ∙ is, itself (In t))
        by (Some s) (Some r) here there fits other is = (
          s,
          type_before own types name ∙ ap (λ one. or_else one (type_at types name)) here,
          inside name s t here (there ∙ is),
        )
        by None (Some r) here there fits other is = absurd (lacks fits other.0 other.1)
          where
            lacks : captures name ≡ None → (one : Thing) → captures name ≡ Some one → ⊥
            lacks none one some = cc
        by (Some s) None here there fits other is = absurd (lacks other fits.0 fits.1)
          where
            lacks : captures name ≡ None → (one : Thing) → captures name ≡ Some one → ⊥
            lacks none one some = cc
