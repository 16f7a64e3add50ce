-- A pattern with other types at its places.
use Rattle.std.proofs.Common.{refl}
use Rattle.cd_matching.specs.Pattern as pattern
use Rattle.cd_matching.specs.Pattern.{Pattern, Patterns, NoPattern, APattern, Fields, NoField}
use Rattle.cd_matching.specs.Pattern.{Present, Optional, Regular, Regulars, NoRegular, ARegular}
use Rattle.cd_matching.specs.PatternsAlike.{Alike, AlikeAll, AlikeFields, AlikeRegular}
use Rattle.cd_matching.specs.PatternsAlike.{AlikeRegulars}

module _ {T U : Type 0} (on : T → U) where
  abbrev mutual
    pub retyped : Pattern T → Pattern U
    retyped (pattern.OfType type) = pattern.OfType (on type)
    retyped (pattern.Bind variable) = pattern.Bind variable
    retyped (pattern.Default variable constant) = pattern.Default variable constant
    retyped (pattern.Pair first second) = pattern.Pair (retyped first) (retyped second)
    retyped (pattern.Xml tag attributes content) =
        pattern.Xml (retyped tag) (retyped attributes) (retyped content)
    retyped (pattern.Record fields more) = pattern.Record (retyped_fields fields) more
    retyped (pattern.Both all) = pattern.Both (all_retyped all)
    retyped (pattern.First all) = pattern.First (all_retyped all)
    retyped (pattern.Sequence r) = pattern.Sequence (retyped_regular r)

    pub all_retyped : Patterns T → Patterns U
    all_retyped NoPattern = NoPattern
    all_retyped (APattern first rest) = APattern (retyped first) (all_retyped rest)

    pub retyped_fields : Fields T → Fields U
    retyped_fields NoField = NoField
    retyped_fields (Present label p rest) = Present label (retyped p) (retyped_fields rest)
    retyped_fields (Optional label type rest) = Optional label (on type) (retyped_fields rest)

    pub retyped_regular : Regular T → Regular U
    retyped_regular pattern.Nothing = pattern.Nothing
    retyped_regular (pattern.Item p) = pattern.Item (retyped p)
    retyped_regular (pattern.Seq all) = pattern.Seq (retyped_regulars all)
    retyped_regular (pattern.Alt all) = pattern.Alt (retyped_regulars all)
    retyped_regular (pattern.Repeat r post) = pattern.Repeat (retyped_regular r) post
    retyped_regular (pattern.Capture name r) = pattern.Capture name (retyped_regular r)

    pub retyped_regulars : Regulars T → Regulars U
    retyped_regulars NoRegular = NoRegular
    retyped_regulars (ARegular first rest) =
        ARegular (retyped_regular first) (retyped_regulars rest)

-- it is alike where each type is as the one in its place
module _ {T U : Type 0} (on : T → U) (Are : T → U → Type 0)
    (each : (type : T) → Are type (on type)) where
  mutual
    pub alike_retyped : (p : Pattern T) → Alike Are p (retyped on p)
    alike_retyped (pattern.OfType type) = each type
    alike_retyped (pattern.Bind variable) = refl
    alike_retyped (pattern.Default variable constant) = (refl, refl)
    alike_retyped (pattern.Pair first second) = (alike_retyped first, alike_retyped second)
    alike_retyped (pattern.Xml tag attributes content) =
        (alike_retyped tag, alike_retyped attributes, alike_retyped content)
    alike_retyped (pattern.Record fields more) = (fields_retyped fields, refl)
    alike_retyped (pattern.Both all) = alike_all all
    alike_retyped (pattern.First all) = alike_all all
    alike_retyped (pattern.Sequence r) = alike_regular r

    alike_all : (all : Patterns T) → AlikeAll Are all (all_retyped on all)
    alike_all NoPattern = tt
    alike_all (APattern first rest) = (alike_retyped first, alike_all rest)

    fields_retyped : (fields : Fields T) → AlikeFields Are fields (retyped_fields on fields)
    fields_retyped NoField = tt
    fields_retyped (Present label p rest) = (refl, alike_retyped p, fields_retyped rest)
    fields_retyped (Optional label type rest) = (refl, each type, fields_retyped rest)

    alike_regular : (r : Regular T) → AlikeRegular Are r (retyped_regular on r)
    alike_regular pattern.Nothing = tt
    alike_regular (pattern.Item p) = alike_retyped p
    alike_regular (pattern.Seq all) = alike_regulars all
    alike_regular (pattern.Alt all) = alike_regulars all
    alike_regular (pattern.Repeat r post) = (alike_regular r, refl)
    alike_regular (pattern.Capture name r) = (refl, alike_regular r)

    alike_regulars : (all : Regulars T) → AlikeRegulars Are all (retyped_regulars on all)
    alike_regulars NoRegular = tt
    alike_regulars (ARegular first rest) = (alike_regular first, alike_regulars rest)
