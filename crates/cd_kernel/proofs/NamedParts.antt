-- Where no variable of a pattern is at fault, none of its parts is.
use Rattle.std.proofs.Common.{Bool}
use Rattle.cd_syntax.specs.Name.{Name}
use Rattle.cd_matching.specs.Naming.{IsNamed, AreNamedDisjoint, AreNamedSame, AreNamedAs}
use Rattle.cd_matching.specs.Naming.{IsNamedRegular, AreNamedInTurn, AreNamedEither, AreNamedLike}
use Rattle.cd_matching.specs.Pattern as pattern
use Rattle.cd_matching.specs.Pattern.{Patterns, NoPattern, APattern}
use Rattle.cd_matching.specs.Pattern.{Regular, Regulars, NoRegular, ARegular}
use Rattle.cd_matching.specs.Variables.{binds, is_plain}

module _ {T : Type 0} where
  abbrev pub AreNamed : Patterns T → Type 0
  AreNamed NoPattern = Unit {0}
  AreNamed (APattern first rest) = IsNamed first × AreNamed rest

  abbrev mutual
    pub ItemsNamed : Regular T → Type 0
    ItemsNamed pattern.Nothing = Unit {0}
    ItemsNamed (pattern.Item p) = IsNamed p
    ItemsNamed (pattern.Seq all) = AllItemsNamed all
    ItemsNamed (pattern.Alt all) = AllItemsNamed all
    ItemsNamed (pattern.Repeat r post) = ItemsNamed r
    ItemsNamed (pattern.Capture name r) = ItemsNamed r

    pub AllItemsNamed : Regulars T → Type 0
    AllItemsNamed NoRegular = Unit {0}
    AllItemsNamed (ARegular first rest) = ItemsNamed first × AllItemsNamed rest

  pub disjoint_named : (all : Patterns T) → AreNamedDisjoint all → AreNamed all
  disjoint_named NoPattern named = tt
  disjoint_named (APattern first rest) named = (named.1, disjoint_named rest named.2)

  as_named : (all : Patterns T) (bound : Name → Bool) → AreNamedAs bound all → AreNamed all
  as_named NoPattern bound named = tt
  as_named (APattern first rest) bound named = (named.1, as_named rest bound named.2)

  pub same_named : (all : Patterns T) → AreNamedSame all → AreNamed all
  same_named NoPattern named = tt
  same_named (APattern first rest) named = (named.0, as_named rest (binds first) named.1)

  mutual
    pub items_named : (r : Regular T) → IsNamedRegular r → ItemsNamed r
    items_named pattern.Nothing named = tt
    items_named (pattern.Item p) named = named
    items_named (pattern.Seq all) named = in_turn_named all named
    items_named (pattern.Alt all) named = either_named all named
    items_named (pattern.Repeat r post) named = items_named r named.1
    items_named (pattern.Capture name r) named = items_named r named

    in_turn_named : (all : Regulars T) → AreNamedInTurn all → AllItemsNamed all
    in_turn_named NoRegular named = tt
    in_turn_named (ARegular first rest) named =
        (items_named first named.1, in_turn_named rest named.2)

    either_named : (all : Regulars T) → AreNamedEither all → AllItemsNamed all
    either_named NoRegular named = tt
    either_named (ARegular first rest) named =
        (items_named first named.0, like_named rest (is_plain first) named.1)

    like_named : (all : Regulars T) (plain : Name → Bool) → AreNamedLike plain all
        → AllItemsNamed all
    like_named NoRegular plain named = tt
    like_named (ARegular first rest) plain named =
        (items_named first named.1, like_named rest plain named.2)
