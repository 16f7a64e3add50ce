-- Where no variable of a pattern is at fault, none of the completed pattern is.
use Rattle.std.proofs.Common.{Bool, ◌||◌, List, [], ◌∷◌, sym, ap₂, ◌∙◌}
use Rattle.cd_syntax.specs.Name.{Name}
use Rattle.cd_matching.specs.Naming.{AreDisjointNames, AreSame, GathersDisjoint, GatherDisjoint, FieldsDisjoint}
use Rattle.cd_matching.specs.Naming.{LabelsDiffer, IsNamed, AreNamedDisjoint, AreNamedSame, AreNamedAs}
use Rattle.cd_matching.specs.Naming.{AreNamedFields, IsNamedRegular, AreNamedInTurn}
use Rattle.cd_matching.specs.Naming.{AreNamedEither, AreNamedLike}
use Rattle.cd_matching.specs.Pattern as pattern
use Rattle.cd_matching.specs.Pattern.{Pattern, Patterns, NoPattern, APattern, Fields, NoField}
use Rattle.cd_matching.specs.Pattern.{Present, Optional, Regular, Regulars, NoRegular, ARegular}
use Rattle.cd_matching.specs.Variables.{binds, all_bind, fields_bind, is_gathered, is_plain}
use Rattle.cd_matching.specs.Variables.{one_is_plain}
use Rattle.cd_kernel.specs.Inner.Completed.{choice, completed, completed_all, completed_fields}
use Rattle.cd_kernel.specs.Inner.Completed.{completed_regular, completed_regulars}
use Rattle.cd_kernel.proofs.CompletedVariables.{binds_same, all_bind_same, fields_bind_same}
use Rattle.cd_kernel.proofs.CompletedVariables.{gathered_same, plain_same, one_plain_same}
use Rattle.cd_kernel.proofs.CompletedVariables.{labels_same}

disjoint_still : (a b c d : Name → Bool) → AreSame a b → AreSame c d → AreDisjointNames b d → AreDisjointNames a c
disjoint_still a b c d one other apart name h = other name ∙ apart name (sym (one name) ∙ h)

same_still : (a b c d : Name → Bool) → AreSame a b → AreSame c d → AreSame b d → AreSame a c
same_still a b c d one other same name = one name ∙ same name ∙ sym (other name)

module _ {T : Type 0} where
  choice_disjoint : (around : List Name) (all : Regulars T) → GatherDisjoint around all
      → GathersDisjoint around (choice all)
  choice_disjoint around NoRegular apart = tt
  choice_disjoint around (ARegular first rest) apart = apart

  choice_named : (all : Regulars T) → AreNamedEither all → IsNamedRegular (choice all)
  choice_named NoRegular named = tt
  choice_named (ARegular first rest) named = named

  mutual
    gathers_disjoint : (around : List Name) (r : Regular T) → GathersDisjoint around r
        → GathersDisjoint around (completed_regular r)
    gathers_disjoint around pattern.Nothing apart = tt
    gathers_disjoint around (pattern.Item p) apart = tt
    gathers_disjoint around (pattern.Seq all) apart = gather_disjoint around all apart
    gathers_disjoint around (pattern.Alt all) apart =
        choice_disjoint around (completed_regulars all) (gather_disjoint around all apart)
    gathers_disjoint around (pattern.Repeat r post) apart = gathers_disjoint around r apart
    gathers_disjoint around (pattern.Capture name r) apart =
        (apart.0, gathers_disjoint (name ∷ around) r apart.1)

    gather_disjoint : (around : List Name) (all : Regulars T) → GatherDisjoint around all
        → GatherDisjoint around (completed_regulars all)
    gather_disjoint around NoRegular apart = tt
    gather_disjoint around (ARegular first rest) apart =
        (gathers_disjoint around first apart.0, gather_disjoint around rest apart.1)

  fields_disjoint : (fields : Fields T) → FieldsDisjoint fields → FieldsDisjoint (completed_fields fields)
  fields_disjoint NoField apart = tt
  fields_disjoint (Present label p rest) apart = (
    disjoint_still (binds (completed p)) (binds p) (fields_bind (completed_fields rest))
        (fields_bind rest) (binds_same p) (fields_bind_same rest) apart.0,
    fields_disjoint rest apart.1,
  )
  fields_disjoint (Optional label type rest) apart = fields_disjoint rest apart

  labels_differ : (fields : Fields T) → LabelsDiffer fields → LabelsDiffer (completed_fields fields)
  labels_differ NoField differ = tt
  labels_differ (Present label p rest) differ =
      (labels_same rest label ∙ differ.0, labels_differ rest differ.1)
  labels_differ (Optional label type rest) differ =
      (labels_same rest label ∙ differ.0, labels_differ rest differ.1)

  mutual
    pub completed_named : (p : Pattern T) → IsNamed p → IsNamed (completed p)
    completed_named (pattern.OfType type) named = tt
    completed_named (pattern.Bind name) named = tt
    completed_named (pattern.Default name constant) named = tt
    completed_named (pattern.Pair p q) named = (
      disjoint_still (binds (completed p)) (binds p) (binds (completed q)) (binds q) (binds_same p)
          (binds_same q) named.0,
      completed_named p named.1,
      completed_named q named.2,
    )
    completed_named (pattern.Xml p q r) named = (
      disjoint_still (binds (completed p)) (binds p)
          (λ name. binds (completed q) name || binds (completed r) name)
          (λ name. binds q name || binds r name) (binds_same p)
          (λ name. ap₂ (λ (a b : Bool). a || b) (binds_same q name) (binds_same r name)) named.0,
      disjoint_still (binds (completed q)) (binds q) (binds (completed r)) (binds r) (binds_same q)
          (binds_same r) named.1,
      completed_named p named.2,
      completed_named q named.3,
      completed_named r named.4,
    )
    completed_named (pattern.Record fields more) named =
        (labels_differ fields named.0, fields_disjoint fields named.1, fields_named fields named.2)
    completed_named (pattern.Both all) named = all_disjoint all named
    completed_named (pattern.First all) named = all_same all named
    completed_named (pattern.Sequence r) named = (
      gathers_disjoint [] r named.0,
      disjoint_still (is_gathered (completed_regular r)) (is_gathered r)
          (is_plain (completed_regular r)) (is_plain r) (gathered_same r) (plain_same r) named.1,
      regular_named r named.2,
    )

    all_disjoint : (all : Patterns T) → AreNamedDisjoint all → AreNamedDisjoint (completed_all all)
    all_disjoint NoPattern named = tt
    all_disjoint (APattern first rest) named = (
      disjoint_still (binds (completed first)) (binds first) (all_bind (completed_all rest))
          (all_bind rest) (binds_same first) (all_bind_same rest) named.0,
      completed_named first named.1,
      all_disjoint rest named.2,
    )

    all_same : (all : Patterns T) → AreNamedSame all → AreNamedSame (completed_all all)
    all_same NoPattern named = tt
    all_same (APattern first rest) named = (
      completed_named first named.0,
      all_as rest (binds (completed first)) (binds first) (binds_same first) named.1,
    )

    all_as : (all : Patterns T) (bound same : Name → Bool) → AreSame bound same
        → AreNamedAs same all → AreNamedAs bound (completed_all all)
    all_as NoPattern bound same is named = tt
    all_as (APattern first rest) bound same is named = (
      same_still (binds (completed first)) (binds first) bound same (binds_same first) is named.0,
      completed_named first named.1,
      all_as rest bound same is named.2,
    )

    fields_named : (fields : Fields T) → AreNamedFields fields
        → AreNamedFields (completed_fields fields)
    fields_named NoField named = tt
    fields_named (Present label p rest) named =
        (completed_named p named.0, fields_named rest named.1)
    fields_named (Optional label type rest) named = fields_named rest named

    regular_named : (r : Regular T) → IsNamedRegular r → IsNamedRegular (completed_regular r)
    regular_named pattern.Nothing named = tt
    regular_named (pattern.Item p) named = completed_named p named
    regular_named (pattern.Seq all) named = in_turn_named all named
    regular_named (pattern.Alt all) named =
        choice_named (completed_regulars all) (either_named all named)
    regular_named (pattern.Repeat r post) named =
        (λ name. plain_same r name ∙ named.0 name, regular_named r named.1)
    regular_named (pattern.Capture name r) named = regular_named r named

    in_turn_named : (all : Regulars T) → AreNamedInTurn all
        → AreNamedInTurn (completed_regulars all)
    in_turn_named NoRegular named = tt
    in_turn_named (ARegular first rest) named = (
      disjoint_still (is_plain (completed_regular first)) (is_plain first)
          (one_is_plain (completed_regulars rest)) (one_is_plain rest) (plain_same first)
          (one_plain_same rest) named.0,
      regular_named first named.1,
      in_turn_named rest named.2,
    )

    either_named : (all : Regulars T) → AreNamedEither all
        → AreNamedEither (completed_regulars all)
    either_named NoRegular named = tt
    either_named (ARegular first rest) named = (
      regular_named first named.0,
      like_named rest (is_plain (completed_regular first)) (is_plain first) (plain_same first)
          named.1,
    )

    like_named : (all : Regulars T) (plain same : Name → Bool) → AreSame plain same
        → AreNamedLike same all → AreNamedLike plain (completed_regulars all)
    like_named NoRegular plain same is named = tt
    like_named (ARegular first rest) plain same is named = (
      same_still (is_plain (completed_regular first)) (is_plain first) plain same
          (plain_same first) is named.0,
      regular_named first named.1,
      like_named rest plain same is named.2,
    )
