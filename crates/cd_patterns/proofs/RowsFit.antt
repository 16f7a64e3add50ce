-- What holds of what is left of a row, one item on and at its end; and texts are elements.
use Rattle.std.proofs.Common.{◌≡◌, ◌+◌, ◌<◌, ◌≤◌, ℕ, true, List, [], ◌∷◌, drop, get_or, length}
use Rattle.std.proofs.Common.{sym, subst}
use Rattle.std.specs.Str.{chars, IsUtf8}
use Rattle.std.proofs.lemmas.Bool.{and_parts}
use Rattle.std.proofs.lemmas.List.{at_drop_more, at_drop_all}
use Rattle.std.proofs.lemmas.Str.{scalars-chars}
use Rattle.std.proofs.Math.Utf8.{scalar, scalars}
use Rattle.cd_syntax.specs.Name.{Name}
use Rattle.cd_model.specs.Thing.{IsElement}
use Rattle.cd_matching.specs.Sequences.{text_of}
use Rattle.cd_matching.proofs.NilIsElement.{nil_is_element}

module _ {X Ps : Type 0} (made_of : List X → Ps) (Holds : Ps → Type 0) where
  pub one_more_holds : (items : List X) (index : ℕ) (item : X) → item ≡ get_or items index item
      → index < length items → Holds (made_of (item ∷ drop (index + 1) items))
      → Holds (made_of (drop index items))
  one_more_holds items index item is within holds =
      subst Holds (sym (at_drop_more made_of items index item within))
      (subst (λ (next : X). Holds (made_of (next ∷ drop (index + 1) items))) is holds)

  pub none_left_holds : (items : List X) (index : ℕ) → length items ≤ index → Holds (made_of [])
      → Holds (made_of (drop index items))
  none_left_holds items index long holds =
      subst Holds (sym (at_drop_all made_of items index long)) holds

scalars_element : (text : List ℕ) → scalars text ≡ true → IsElement (text_of text)
scalars_element [] are = nil_is_element
scalars_element (c ∷ text) are =
    let parts = and_parts (scalar c) (scalars text) are in
    (parts.0, scalars_element text parts.1)

pub text_is_element : (bytes : List ℕ) (text : Name) → IsUtf8 bytes → chars bytes ≡ text
    → IsElement (text_of text)
text_is_element bytes text utf8 is = subst (λ (cs : List ℕ). IsElement (text_of cs)) is
    (scalars_element (chars bytes) (scalars-chars bytes utf8))
