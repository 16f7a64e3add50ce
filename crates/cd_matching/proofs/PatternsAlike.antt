-- Patterns that are alike: one after another, and the same backwards.
use Rattle.std.proofs.Common.{sym, ◌∙◌}
use Rattle.cd_matching.specs.Pattern as pattern
use Rattle.cd_matching.specs.Pattern.{Pattern, Patterns, NoPattern, APattern, Fields, NoField}
use Rattle.cd_matching.specs.Pattern.{Present, Optional, Regular, Regulars, NoRegular, ARegular}
use Rattle.cd_matching.specs.PatternsAlike.{Alike, AlikeAll, AlikeFields, AlikeRegular}
use Rattle.cd_matching.specs.PatternsAlike.{AlikeRegulars}

-- two patterns that one is like are alike, by what follows of their types
module _ {T U V : Type 0} (One : T → U → Type 0) (Other : T → V → Type 0) (Both : U → V → Type 0)
    (both : (t : T) (u : U) (v : V) → One t u → Other t v → Both u v) where
  mutual
    pub composed : (first : Pattern T) (second : Pattern U) (third : Pattern V)
        → Alike One first second → Alike Other first third → Alike Both second third
    composed (pattern.OfType x0) (pattern.OfType y0) (pattern.OfType z0) h g = both x0 y0 z0 h g
    composed (pattern.OfType x0) (pattern.OfType y0) _ h g = absurd g
    composed (pattern.Bind x0) (pattern.Bind y0) (pattern.Bind z0) h g = sym h ∙ g
    composed (pattern.Bind x0) (pattern.Bind y0) _ h g = absurd g
    composed (pattern.Default x0 x1) (pattern.Default y0 y1) (pattern.Default z0 z1) h g =
        (sym h.0 ∙ g.0, sym h.1 ∙ g.1)
    composed (pattern.Default x0 x1) (pattern.Default y0 y1) _ h g = absurd g
    composed (pattern.Pair x0 x1) (pattern.Pair y0 y1) (pattern.Pair z0 z1) h g =
        (composed x0 y0 z0 h.0 g.0, composed x1 y1 z1 h.1 g.1)
    composed (pattern.Pair x0 x1) (pattern.Pair y0 y1) _ h g = absurd g
    composed (pattern.Xml x0 x1 x2) (pattern.Xml y0 y1 y2) (pattern.Xml z0 z1 z2) h g =
        (composed x0 y0 z0 h.0 g.0, composed x1 y1 z1 h.1 g.1, composed x2 y2 z2 h.2 g.2)
    composed (pattern.Xml x0 x1 x2) (pattern.Xml y0 y1 y2) _ h g = absurd g
    composed (pattern.Record x0 x1) (pattern.Record y0 y1) (pattern.Record z0 z1) h g =
        (composed_fields x0 y0 z0 h.0 g.0, sym h.1 ∙ g.1)
    composed (pattern.Record x0 x1) (pattern.Record y0 y1) _ h g = absurd g
    composed (pattern.Both x0) (pattern.Both y0) (pattern.Both z0) h g = composed_all x0 y0 z0 h g
    composed (pattern.Both x0) (pattern.Both y0) _ h g = absurd g
    composed (pattern.First x0) (pattern.First y0) (pattern.First z0) h g =
        composed_all x0 y0 z0 h g
    composed (pattern.First x0) (pattern.First y0) _ h g = absurd g
    composed (pattern.Sequence x0) (pattern.Sequence y0) (pattern.Sequence z0) h g =
        composed_regular x0 y0 z0 h g
    composed (pattern.Sequence x0) (pattern.Sequence y0) _ h g = absurd g
    composed _ _ _ h g = absurd h

    pub composed_all : (first : Patterns T) (second : Patterns U) (third : Patterns V)
        → AlikeAll One first second → AlikeAll Other first third → AlikeAll Both second third
    composed_all NoPattern NoPattern NoPattern h g = tt
    composed_all NoPattern NoPattern _ h g = absurd g
    composed_all (APattern x0 x1) (APattern y0 y1) (APattern z0 z1) h g =
        (composed x0 y0 z0 h.0 g.0, composed_all x1 y1 z1 h.1 g.1)
    composed_all (APattern x0 x1) (APattern y0 y1) _ h g = absurd g
    composed_all _ _ _ h g = absurd h

    pub composed_fields : (first : Fields T) (second : Fields U) (third : Fields V)
        → AlikeFields One first second → AlikeFields Other first third
        → AlikeFields Both second third
    composed_fields NoField NoField NoField h g = tt
    composed_fields NoField NoField _ h g = absurd g
    composed_fields (Present x0 x1 x2) (Present y0 y1 y2) (Present z0 z1 z2) h g =
        (sym h.0 ∙ g.0, composed x1 y1 z1 h.1 g.1, composed_fields x2 y2 z2 h.2 g.2)
    composed_fields (Present x0 x1 x2) (Present y0 y1 y2) _ h g = absurd g
    composed_fields (Optional x0 x1 x2) (Optional y0 y1 y2) (Optional z0 z1 z2) h g =
        (sym h.0 ∙ g.0, both x1 y1 z1 h.1 g.1, composed_fields x2 y2 z2 h.2 g.2)
    composed_fields (Optional x0 x1 x2) (Optional y0 y1 y2) _ h g = absurd g
    composed_fields _ _ _ h g = absurd h

    pub composed_regular : (first : Regular T) (second : Regular U) (third : Regular V)
        → AlikeRegular One first second → AlikeRegular Other first third
        → AlikeRegular Both second third
    composed_regular pattern.Nothing pattern.Nothing pattern.Nothing h g = tt
    composed_regular pattern.Nothing pattern.Nothing _ h g = absurd g
    composed_regular (pattern.Item x0) (pattern.Item y0) (pattern.Item z0) h g =
        composed x0 y0 z0 h g
    composed_regular (pattern.Item x0) (pattern.Item y0) _ h g = absurd g
    composed_regular (pattern.Seq x0) (pattern.Seq y0) (pattern.Seq z0) h g =
        composed_regulars x0 y0 z0 h g
    composed_regular (pattern.Seq x0) (pattern.Seq y0) _ h g = absurd g
    composed_regular (pattern.Alt x0) (pattern.Alt y0) (pattern.Alt z0) h g =
        composed_regulars x0 y0 z0 h g
    composed_regular (pattern.Alt x0) (pattern.Alt y0) _ h g = absurd g
    composed_regular (pattern.Repeat x0 x1) (pattern.Repeat y0 y1) (pattern.Repeat z0 z1) h g =
        (composed_regular x0 y0 z0 h.0 g.0, sym h.1 ∙ g.1)
    composed_regular (pattern.Repeat x0 x1) (pattern.Repeat y0 y1) _ h g = absurd g
    composed_regular (pattern.Capture x0 x1) (pattern.Capture y0 y1) (pattern.Capture z0 z1) h g =
        (sym h.0 ∙ g.0, composed_regular x1 y1 z1 h.1 g.1)
    composed_regular (pattern.Capture x0 x1) (pattern.Capture y0 y1) _ h g = absurd g
    composed_regular _ _ _ h g = absurd h

    pub composed_regulars : (first : Regulars T) (second : Regulars U) (third : Regulars V)
        → AlikeRegulars One first second → AlikeRegulars Other first third
        → AlikeRegulars Both second third
    composed_regulars NoRegular NoRegular NoRegular h g = tt
    composed_regulars NoRegular NoRegular _ h g = absurd g
    composed_regulars (ARegular x0 x1) (ARegular y0 y1) (ARegular z0 z1) h g =
        (composed_regular x0 y0 z0 h.0 g.0, composed_regulars x1 y1 z1 h.1 g.1)
    composed_regulars (ARegular x0 x1) (ARegular y0 y1) _ h g = absurd g
    composed_regulars _ _ _ h g = absurd h

-- alike the other way round
module _ {T U : Type 0} (One : T → U → Type 0) where
  mutual
    pub turned : (first : Pattern T) (second : Pattern U) → Alike One first second
        → Alike (λ (other : U) (type : T). One type other) second first
    turned (pattern.OfType x0) (pattern.OfType y0) h = h
    turned (pattern.Bind x0) (pattern.Bind y0) h = sym h
    turned (pattern.Default x0 x1) (pattern.Default y0 y1) h = (sym h.0, sym h.1)
    turned (pattern.Pair x0 x1) (pattern.Pair y0 y1) h = (turned x0 y0 h.0, turned x1 y1 h.1)
    turned (pattern.Xml x0 x1 x2) (pattern.Xml y0 y1 y2) h =
        (turned x0 y0 h.0, turned x1 y1 h.1, turned x2 y2 h.2)
    turned (pattern.Record x0 x1) (pattern.Record y0 y1) h = (turned_fields x0 y0 h.0, sym h.1)
    turned (pattern.Both x0) (pattern.Both y0) h = turned_all x0 y0 h
    turned (pattern.First x0) (pattern.First y0) h = turned_all x0 y0 h
    turned (pattern.Sequence x0) (pattern.Sequence y0) h = turned_regular x0 y0 h
    turned _ _ h = absurd h

    pub turned_all : (first : Patterns T) (second : Patterns U) → AlikeAll One first second
        → AlikeAll (λ (other : U) (type : T). One type other) second first
    turned_all NoPattern NoPattern h = tt
    turned_all (APattern x0 x1) (APattern y0 y1) h = (turned x0 y0 h.0, turned_all x1 y1 h.1)
    turned_all _ _ h = absurd h

    pub turned_fields : (first : Fields T) (second : Fields U) → AlikeFields One first second
        → AlikeFields (λ (other : U) (type : T). One type other) second first
    turned_fields NoField NoField h = tt
    turned_fields (Present x0 x1 x2) (Present y0 y1 y2) h =
        (sym h.0, turned x1 y1 h.1, turned_fields x2 y2 h.2)
    turned_fields (Optional x0 x1 x2) (Optional y0 y1 y2) h =
        (sym h.0, h.1, turned_fields x2 y2 h.2)
    turned_fields _ _ h = absurd h

    pub turned_regular : (first : Regular T) (second : Regular U) → AlikeRegular One first second
        → AlikeRegular (λ (other : U) (type : T). One type other) second first
    turned_regular pattern.Nothing pattern.Nothing h = tt
    turned_regular (pattern.Item x0) (pattern.Item y0) h = turned x0 y0 h
    turned_regular (pattern.Seq x0) (pattern.Seq y0) h = turned_regulars x0 y0 h
    turned_regular (pattern.Alt x0) (pattern.Alt y0) h = turned_regulars x0 y0 h
    turned_regular (pattern.Repeat x0 x1) (pattern.Repeat y0 y1) h =
        (turned_regular x0 y0 h.0, sym h.1)
    turned_regular (pattern.Capture x0 x1) (pattern.Capture y0 y1) h =
        (sym h.0, turned_regular x1 y1 h.1)
    turned_regular _ _ h = absurd h

    pub turned_regulars : (first : Regulars T) (second : Regulars U)
        → AlikeRegulars One first second
        → AlikeRegulars (λ (other : U) (type : T). One type other) second first
    turned_regulars NoRegular NoRegular h = tt
    turned_regulars (ARegular x0 x1) (ARegular y0 y1) h =
        (turned_regular x0 y0 h.0, turned_regulars x1 y1 h.1)
    turned_regulars _ _ h = absurd h

-- alike by what follows of their types
module _ {T U : Type 0} (One Other : T → U → Type 0)
    (follows : (t : T) (u : U) → One t u → Other t u) where
  mutual
    pub alike_too : (p : Pattern T) (q : Pattern U) → Alike One p q → Alike Other p q
    alike_too (pattern.OfType type) (pattern.OfType other) h = follows type other h
    alike_too (pattern.Bind variable) (pattern.Bind other) h = h
    alike_too (pattern.Default variable constant) (pattern.Default other same) h = h
    alike_too (pattern.Pair p q) (pattern.Pair r s) h = (alike_too p r h.0, alike_too q s h.1)
    alike_too (pattern.Xml p q r) (pattern.Xml s t u) h =
        (alike_too p s h.0, alike_too q t h.1, alike_too r u h.2)
    alike_too (pattern.Record fields more) (pattern.Record others same) h =
        (fields_too fields others h.0, h.1)
    alike_too (pattern.Both all) (pattern.Both others) h = all_too all others h
    alike_too (pattern.First all) (pattern.First others) h = all_too all others h
    alike_too (pattern.Sequence r) (pattern.Sequence s) h = regular_too r s h
    alike_too _ _ h = absurd h

    all_too : (all : Patterns T) (others : Patterns U) → AlikeAll One all others
        → AlikeAll Other all others
    all_too NoPattern NoPattern h = tt
    all_too (APattern p all) (APattern q others) h = (alike_too p q h.0, all_too all others h.1)
    all_too _ _ h = absurd h

    fields_too : (fields : Fields T) (others : Fields U) → AlikeFields One fields others
        → AlikeFields Other fields others
    fields_too NoField NoField h = tt
    fields_too (Present label p fields) (Present name q others) h =
        (h.0, alike_too p q h.1, fields_too fields others h.2)
    fields_too (Optional label type fields) (Optional name other others) h =
        (h.0, follows type other h.1, fields_too fields others h.2)
    fields_too _ _ h = absurd h

    regular_too : (r : Regular T) (s : Regular U) → AlikeRegular One r s → AlikeRegular Other r s
    regular_too pattern.Nothing pattern.Nothing h = tt
    regular_too (pattern.Item p) (pattern.Item q) h = alike_too p q h
    regular_too (pattern.Seq all) (pattern.Seq others) h = regulars_too all others h
    regular_too (pattern.Alt all) (pattern.Alt others) h = regulars_too all others h
    regular_too (pattern.Repeat r post) (pattern.Repeat s same) h = (regular_too r s h.0, h.1)
    regular_too (pattern.Capture name r) (pattern.Capture same s) h = (h.0, regular_too r s h.1)
    regular_too _ _ h = absurd h

    regulars_too : (all : Regulars T) (others : Regulars U) → AlikeRegulars One all others
        → AlikeRegulars Other all others
    regulars_too NoRegular NoRegular h = tt
    regulars_too (ARegular r all) (ARegular s others) h =
        (regular_too r s h.0, regulars_too all others h.1)
    regulars_too _ _ h = absurd h
