-- A variable of a regular expression is plain, or gathers items.
use Rattle.std.proofs.Common.{◌≡◌, Bool, true, false, ◌||◌, refl, sym, ap, ap₂, ◌∙◌, bytes_eq}
use Rattle.cd_syntax.specs.Name.{Name}
use Rattle.cd_matching.specs.Pattern.{Regular, Nothing, Item, Seq, Alt, Repeat, Capture, Regulars}
use Rattle.cd_matching.specs.Pattern.{NoRegular, ARegular}
use Rattle.cd_matching.specs.Variables.{binds, regular_binds, regulars_bind, is_gathered}
use Rattle.cd_matching.specs.Variables.{one_is_gathered, is_plain, one_is_plain}

pub or_nothing : (b : Bool) → (b || false) ≡ b
or_nothing true = refl
or_nothing false = refl

exchanged : (a b c d : Bool) → ((a || b) || (c || d)) ≡ ((a || c) || (b || d))
exchanged true b c d = refl
exchanged false true true d = refl
exchanged false true false d = refl
exchanged false false true d = refl
exchanged false false false d = refl

swapped : (a b c : Bool) → (a || (b || c)) ≡ (b || (a || c))
swapped true true c = refl
swapped true false c = refl
swapped false b c = refl

mutual
  pub plain_or_gathered : {T : Type 0} (r : Regular T) (name : Name)
      → regular_binds r name ≡ (is_plain r name || is_gathered r name)
  plain_or_gathered Nothing name = refl
  plain_or_gathered (Item p) name = sym (or_nothing (binds p name))
  plain_or_gathered (Seq all) name = one_plain_or_gathered all name
  plain_or_gathered (Alt all) name = one_plain_or_gathered all name
  plain_or_gathered (Repeat r post) name = plain_or_gathered r name
  plain_or_gathered (Capture variable r) name =
      ap (λ (b : Bool). bytes_eq variable name || b) (plain_or_gathered r name)
      ∙ swapped (bytes_eq variable name) (is_plain r name) (is_gathered r name)

  one_plain_or_gathered : {T : Type 0} (all : Regulars T) (name : Name)
      → regulars_bind all name ≡ (one_is_plain all name || one_is_gathered all name)
  one_plain_or_gathered NoRegular name = refl
  one_plain_or_gathered (ARegular first rest) name =
      ap₂ (λ (a b : Bool). a || b) (plain_or_gathered first name) (one_plain_or_gathered rest name)
      ∙ exchanged (is_plain first name) (is_gathered first name) (one_is_plain rest name)
      (one_is_gathered rest name)
