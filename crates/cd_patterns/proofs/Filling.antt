-- Patterns that are made with nodes in the places of types: lists of them after what was made, and
-- tuples.
use Rattle.std.proofs.Common.{◌≡◌, ℕ, Bool, true, false, true≢false, List, [], ◌∷◌, ◌++◌, map, refl}
use Rattle.std.proofs.Common.{sym, ap, ◌∙◌, append_assoc}
use Rattle.std.proofs.lemmas.List.{append-nil, map-append}
use Rattle.cd_sets.specs.declared.node_id.NodeId.{NodeId}
use Rattle.cd_syntax.specs.Name.{Name}
use Rattle.cd_syntax.specs.TypeTree as type
use Rattle.cd_syntax.specs.TypeTree.{Tree, Trees, NoTree, ATree, Rest, Closed, Open, Typed}
use Rattle.cd_matching.specs.Pattern as pattern
use Rattle.cd_matching.specs.Pattern.{Pattern, Patterns, NoPattern, APattern, Fields, NoField}
use Rattle.cd_matching.specs.Pattern.{Present, Optional, Regular, Regulars, NoRegular, ARegular}
use Rattle.cd_matching.specs.PlainPattern.{Field, plain, plain_field}
use Rattle.cd_matching.specs.declared.pattern.Pat.{Pat}
use Rattle.cd_matching.specs.declared.pattern.PatField.{PatField}
use Rattle.cd_matching.specs.WrittenPattern.{pattern_of, kind_pattern, tuple_pattern, patterns}
use Rattle.cd_matching.specs.WrittenPattern.{field_patterns}
use Rattle.cd_patterns.specs.Inner.Types.{Filled, taken, one_more, filled, all_filled}
use Rattle.cd_patterns.specs.Inner.Types.{fields_filled}
use Rattle.cd_patterns.specs.Inner.Types.{regular_filled, regulars_filled, pair_with, paired}
use Rattle.cd_patterns.specs.Inner.Types.{rest_filled}

-- what was made before these
abbrev pub with_made : {X : Type 0} → List X → Filled (List X) → Filled (List X)
with_made made all = (made ++ all.0, all.1)

none_more : {X : Type 0} (made : List X) (ids : List NodeId) → (made, ids) ≡ with_made made
    ([], ids)
none_more made ids = ap (λ all. (all, ids)) (sym (append-nil made))

one_before : {X : Type 0} (made : List X) (next : X) (all : Filled (List X))
    → with_made (one_more made next) all ≡ with_made made (with_made (next ∷ []) all)
one_before made next all = ap (λ made. (made, all.1)) (append_assoc made (next ∷ []) all.0)

pub all_later : {T : Type 0} (all : Patterns T) (made : List (Pattern NodeId)) (ids : List NodeId)
    → all_filled all made ids ≡ with_made made (all_filled all [] ids)
all_later NoPattern made ids = none_more made ids
all_later (APattern first rest) made ids =
    let one = filled first ids in
    all_later rest (one_more made one.0) one.1
    ∙ one_before made one.0 (all_filled rest [] one.1)
    ∙ ap (with_made made) (sym (all_later rest (one.0 ∷ []) one.1))

pub fields_later : {T : Type 0} (fields : Fields T) (made : List Field) (ids : List NodeId)
    → fields_filled fields made ids ≡ with_made made (fields_filled fields [] ids)
fields_later NoField made ids = none_more made ids
fields_later (Present label is rest) made ids =
    let one = filled is ids in
    let next : Field = Present label one.0 in
    fields_later rest (one_more made next) one.1
    ∙ one_before made next (fields_filled rest [] one.1)
    ∙ ap (with_made made) (sym (fields_later rest (next ∷ []) one.1))
fields_later (Optional label type rest) made ids =
    let one = taken ids in
    let next : Field = Optional label one.0 in
    fields_later rest (one_more made next) one.1
    ∙ one_before made next (fields_filled rest [] one.1)
    ∙ ap (with_made made) (sym (fields_later rest (next ∷ []) one.1))

pub regulars_later : {T : Type 0} (all : Regulars T) (made : List (Regular NodeId))
    (ids : List NodeId)
    → regulars_filled all made ids ≡ with_made made (regulars_filled all [] ids)
regulars_later NoRegular made ids = none_more made ids
regulars_later (ARegular first rest) made ids =
    let one = regular_filled first ids in
    regulars_later rest (one_more made one.0) one.1
    ∙ one_before made one.0 (regulars_filled rest [] one.1)
    ∙ ap (with_made made) (sym (regulars_later rest (one.0 ∷ []) one.1))

-- patterns as the parts of pairs
abbrev pub all_paired : Filled (List (Pattern NodeId)) → Filled (Pattern NodeId)
all_paired all = (paired all.0, all.1)

-- where there is one more before others
pair_before : (first next : Pattern NodeId) (all : Filled (List (Pattern NodeId)))
    → pair_with first (all_paired (with_made (next ∷ []) all))
    ≡ all_paired (with_made (first ∷ []) (with_made (next ∷ []) all))
pair_before first next all = refl

-- a tuple's pattern is of those of its trees
pub tuple_filled : (trees : Trees) (ids : List NodeId)
    → filled (tuple_pattern [] trees) ids ≡ all_paired (all_filled (patterns [] trees) [] ids)
tuple_filled NoTree ids = refl
tuple_filled (ATree first NoTree) ids = refl
tuple_filled (ATree first (ATree next rest)) ids =
    let one = filled (pattern_of [] first) ids in
    let two = filled (pattern_of [] next) one.1 in
    let others = all_filled (patterns [] rest) [] two.1 in
    let later = all_later (patterns [] rest) (two.0 ∷ []) two.1 in
    ap (pair_with one.0) (tuple_filled (ATree next rest) one.1 ∙ ap all_paired later)
    ∙ pair_before one.0 two.0 others
    ∙ ap (λ all. all_paired (with_made (one.0 ∷ []) all)) (sym later)
    ∙ ap all_paired (sym (all_later (patterns [] (ATree next rest)) (one.0 ∷ []) one.1))

-- a record's pattern is of those of its fields
pub record_filled : (fields : type.Fields) (rest : Rest) (ids left : List NodeId) (all : List Field)
    (p : Filled (Pattern NodeId))
    → (all, left) ≡ fields_filled (field_patterns [] fields) [] ids → p ≡ rest_filled all rest left
    → p ≡ filled (kind_pattern [] (type.Record fields rest)) ids
record_filled fields rest ids left all p are is =
    is ∙ ap (λ (made : Filled (List Field)). rest_filled made.0 rest made.1) are ∙ by rest
  where
    by : (rest : Rest)
        → rest_filled (fields_filled (field_patterns [] fields) [] ids).0 rest
        (fields_filled (field_patterns [] fields) [] ids).1
        ≡ filled (kind_pattern [] (type.Record fields rest)) ids
    by Closed = refl
    by Open = refl
    by (Typed is) = refl

-- the last two as a pair
pub last_paired : (init : List (Pattern NodeId)) (first second : Pattern NodeId)
    → paired (init ++ first ∷ second ∷ []) ≡ paired (init ++ pattern.Pair first second ∷ [])
last_paired [] first second = refl
last_paired (one ∷ []) first second = refl
last_paired (one ∷ next ∷ rest) first second =
    ap (λ other. pattern.Pair one other) (last_paired (next ∷ rest) first second)

-- so the last two of these may be made one
pub pair_last : (all rest : List Pat) (first last pair : Pat) (whole : Pattern NodeId)
    → all ≡ rest ++ first ∷ []
    → plain pair ≡ pattern.Pair (plain first) (plain last) → paired
    (map plain all ++ plain last ∷ []) ≡ whole
    → paired (map plain rest ++ plain pair ∷ []) ≡ whole
pair_last all rest first last pair whole are is whole_is =
    ap (λ one. paired (map plain rest ++ one ∷ [])) is
    ∙ sym (last_paired (map plain rest) (plain first) (plain last))
    ∙ ap paired (sym (append_assoc (map plain rest) (plain first ∷ []) (plain last ∷ [])))
    ∙ ap (λ (list : List (Pattern NodeId)). paired (list ++ plain last ∷ []))
    (sym (ap (map plain) are ∙ map-append plain rest (first ∷ [])))
    ∙ whole_is

-- patterns of trees, as the parts of pairs, are the pattern of the tuple
pub tuple_made : (trees : Trees) (ids left : List NodeId) (all : List (Pattern NodeId))
    (p : Pattern NodeId)
    → (all, left) ≡ all_filled (patterns [] trees) [] ids → p ≡ paired all
    → (p, left) ≡ filled (tuple_pattern [] trees) ids
tuple_made trees ids left all p are is =
    ap (λ (p : Pattern NodeId). (p, left)) is ∙ ap all_paired are ∙ sym (tuple_filled trees ids)

-- one more field of a record: of a type, where it may be absent, and else of a pattern
pub optional_next : (made new : List PatField) (one : PatField) (label other : Name) (at : ℕ)
    (optional : Bool)
    (is : Tree) (rest : type.Fields) (ids left : List NodeId) (id : NodeId) → optional ≡ true
    → other ≡ label
    → (id, left) ≡ taken ids → plain_field one ≡ pattern.Optional other id → new ≡ made ++ one ∷ []
    → fields_filled (field_patterns [] rest) (map plain_field new) left
    ≡ fields_filled (field_patterns [] (type.AField label at optional is rest))
    (map plain_field made) ids
optional_next made new one label other at optional is rest ids left id may named first one_is are =
    ap (λ (fields : List Field). fields_filled (field_patterns [] rest) fields left)
    (ap (map plain_field) are ∙ map-append plain_field made (one ∷ [])
    ∙ ap (λ (field : Field). map plain_field made ++ field ∷ [])
    (one_is ∙ ap (λ name. pattern.Optional name id) named))
    ∙ ap (λ (next : Filled NodeId). fields_filled (field_patterns [] rest)
    (one_more (map plain_field made) (pattern.Optional label next.0)) next.1) first
    ∙ by optional may
  where
    by : (may_be_absent : Bool) → may_be_absent ≡ true
        → fields_filled (field_patterns [] rest)
        (one_more (map plain_field made) (pattern.Optional label (taken ids).0))
        (taken ids).1
        ≡ fields_filled (field_patterns [] (type.AField label at may_be_absent is rest))
        (map plain_field made) ids
    by true same = refl
    by false same = absurd (true≢false (sym same))

pub present_next : (made new : List PatField) (one : PatField) (label other : Name) (at : ℕ)
    (optional : Bool)
    (is : Tree) (rest : type.Fields) (ids left : List NodeId) (p : Pattern NodeId) → optional
    ≡ false → other ≡ label
    → (p, left) ≡ filled (pattern_of [] is) ids → plain_field one ≡ pattern.Present other p
    → new ≡ made ++ one ∷ []
    → fields_filled (field_patterns [] rest) (map plain_field new) left
    ≡ fields_filled (field_patterns [] (type.AField label at optional is rest))
    (map plain_field made) ids
present_next made new one label other at optional is rest ids left p must named first one_is are =
    ap (λ (fields : List Field). fields_filled (field_patterns [] rest) fields left)
    (ap (map plain_field) are ∙ map-append plain_field made (one ∷ [])
    ∙ ap (λ (field : Field). map plain_field made ++ field ∷ [])
    (one_is ∙ ap (λ name. pattern.Present name p) named))
    ∙ ap (λ (next : Filled (Pattern NodeId)). fields_filled (field_patterns [] rest)
    (one_more (map plain_field made) (pattern.Present label next.0)) next.1) first
    ∙ by optional must
  where
    by : (may_be_absent : Bool) → may_be_absent ≡ false
        → fields_filled (field_patterns [] rest)
        (one_more (map plain_field made) (pattern.Present label (filled (pattern_of [] is) ids).0))
        (filled (pattern_of [] is) ids).1
        ≡ fields_filled (field_patterns [] (type.AField label at may_be_absent is rest))
        (map plain_field made) ids
    by false same = refl
    by true same = absurd (true≢false same)
