-- What was made before others: one more after it, and no others.
use Rattle.std.proofs.Common.{◌≡◌, ◌+◌, ◌<◌, ◌≤◌, ℕ, List, [], ◌∷◌, ◌++◌, map, drop, get_or}
use Rattle.std.proofs.Common.{length, refl, sym, ap, ◌∙◌, arith}
use Rattle.std.proofs.lemmas.List.{at_drop_more, map-append}
use Rattle.cd_sets.specs.declared.node_id.NodeId.{NodeId}
use Rattle.cd_matching.specs.Pattern.{Pattern, Patterns, NoPattern, APattern, Fields, NoField}
use Rattle.cd_matching.specs.Pattern.{Regular, Regulars, NoRegular, ARegular, Alt, patterns_of}
use Rattle.cd_matching.specs.Pattern.{regulars_of}
use Rattle.cd_matching.specs.PlainPattern.{Field, fields_of, plain_regular}
use Rattle.cd_matching.specs.declared.pattern.RegPat.{RegPat}
use Rattle.cd_kernel.specs.Inner.Completed.{choice, before_all, before_fields}
use Rattle.cd_kernel.specs.Inner.Completed.{before_regulars}

pub one_before_all : (made : List (Pattern NodeId)) (one : Pattern NodeId) (rest : Patterns NodeId)
    → before_all (made ++ one ∷ []) rest ≡ before_all made (APattern one rest)
one_before_all [] one rest = refl
one_before_all (first ∷ made) one rest = ap (APattern first) (one_before_all made one rest)

pub none_after_all : (made : List (Pattern NodeId)) → before_all made NoPattern ≡ patterns_of made
none_after_all [] = refl
none_after_all (first ∷ made) = ap (APattern first) (none_after_all made)

pub one_before_fields : (made : List Field) (one : Field) (rest : Fields NodeId)
    → before_fields (made ++ one ∷ []) rest ≡ before_fields made (one rest)
one_before_fields [] one rest = refl
one_before_fields (first ∷ made) one rest = ap first (one_before_fields made one rest)

pub none_after_fields : (made : List Field) → before_fields made NoField ≡ fields_of made
none_after_fields [] = refl
none_after_fields (first ∷ made) = ap first (none_after_fields made)

pub one_before_regulars : (made : List (Regular NodeId)) (one : Regular NodeId)
    (rest : Regulars NodeId)
    → before_regulars (made ++ one ∷ []) rest ≡ before_regulars made (ARegular one rest)
one_before_regulars [] one rest = refl
one_before_regulars (first ∷ made) one rest =
    ap (ARegular first) (one_before_regulars made one rest)

pub none_after_regulars : (made : List (Regular NodeId))
    → before_regulars made NoRegular ≡ regulars_of made
none_after_regulars [] = refl
none_after_regulars (first ∷ made) = ap (ARegular first) (none_after_regulars made)

-- a choice of some is one
pub choice_of_some : (all : List RegPat) → 1 ≤ length all
    → choice (regulars_of (map plain_regular all)) ≡ Alt (regulars_of (map plain_regular all))
choice_of_some [] some = absurd (omega (arith, some))
choice_of_some (first ∷ rest) some = refl

-- one more of a row is made, and is put after what was made
module _ {X P Ps : Type 0} (plain : X → P) (made_of : List X → Ps) (before : List P → Ps → Ps)
    (one_before : (made : List P) (one : P) (rest : Ps)
    → before (made ++ one ∷ []) rest ≡ before made (before (one ∷ []) rest)) where
  pub one_more : (items : List X) (index : ℕ) (item : X) (made more : List X) (one : X)
      → item ≡ get_or items index item → index < length items
      → made_of (item ∷ drop (index + 1) items)
      ≡ before (plain one ∷ []) (made_of (drop (index + 1) items))
      → more ≡ made ++ one ∷ []
      → before (map plain more) (made_of (drop (index + 1) items))
      ≡ before (map plain made) (made_of (drop index items))
  one_more items index item made more one is within step are =
      let rest = made_of (drop (index + 1) items) in
      ap (λ (list : List X). before (map plain list) rest) are
      ∙ ap (λ (list : List P). before list rest) (map-append plain made (one ∷ []))
      ∙ one_before (map plain made) (plain one) rest
      ∙ ap (before (map plain made)) (sym step
      ∙ ap (λ (next : X). made_of (next ∷ drop (index + 1) items)) is
      ∙ sym (at_drop_more made_of items index item within))
