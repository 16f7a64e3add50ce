-- A node that is made has its equation, and several nodes have those of the trees that they were made of.
use Rattle.std.proofs.Common.{◌≡◌, ℕ, suc, ◌+◌, true, false, List, [], ◌∷◌, ◌++◌, map, length, Option, Some, None, refl}
use Rattle.std.proofs.Common.{sym, subst, ◌∙◌, arith}
use Rattle.std.specs.List.{slice_get}
use Rattle.cd_sets.specs.declared.node_id.NodeId.{NodeId}
use Rattle.cd_syntax.specs.Name.{Name}
use Rattle.cd_syntax.specs.TypeTree as type
use Rattle.cd_syntax.specs.TypeTree.{Trees, NoTree, ATree, Signs, Fields}
use Rattle.cd_model.specs.Formula.{Formula, Field, Pair}
use Rattle.cd_model.proofs.ByNumber.{got_after}
use Rattle.cd_regex.specs.Regular.{Regular, regulars_of}
use Rattle.cd_regex.specs.Automaton.{sequence_formulas}
use Rattle.cd_shared.specs.Equation.{Equation, Equations, Is, And, Or}
use Rattle.cd_resolve.specs.Inner.ScopeLevels.{ScopeLevels}
use Rattle.cd_resolve.specs.Inner.Leaves.{characters, Joint, joined}
use Rattle.cd_resolve.specs.Inner.Members.{Sign}
use Rattle.cd_resolve.specs.Inner.Equates.{IsAt, HasLeaf, EquatesText, HasUnion, HasMeet, HaveFormulas, EquatesChain}
use Rattle.cd_resolve.specs.Inner.Equates.{EquatesEach, EquatesSigns, EquatesFields, EquatesRegulars}
use Rattle.cd_resolve.specs.Inner.Walk.{pushed, leaf, walked_text, chained, united, met, ReadRegular, sequenced}
use Rattle.cd_resolve.proofs.GrowingLists.{get_next}
use Rattle.cd_resolve.proofs.Growing.{Grows, grows_then, appends_grows, pushed_appends, leaf_appends}

-- The equations grow to the final ones, in which what was made stands still
module _ (first : ℕ) (final : Equations) where
  -- an equation that is made
  pub pushed_at : (equation : Equation) (s : Equations) → Grows (pushed first equation s).1 final
      → IsAt first final (pushed first equation s).0 equation
  pushed_at equation s grows = record {
    number = length s;
    there = refl;
    is = grows.still (length s) equation (get_next (Some equation) s []);
  }

  pub leaf_at : (formula : Option Formula) (s : Equations) → Grows (leaf first formula s).1 final
      → HasLeaf first final formula (leaf first formula s).0
  leaf_at (Some formula) s grows = pushed_at (Is formula) s grows
  leaf_at None s grows = refl

  pub text_at : (text : List ℕ) (s : Equations) → Grows (walked_text first text s).1 final
      → EquatesText first final text (walked_text first text s).0
  text_at [] s grows = refl
  text_at (c ∷ text) s grows =
      let rest = walked_text first text s in
      let one = leaf first (characters c c) rest.1 in
      let equation : Equation = Is (Pair one.0 rest.0) in
      let ends = grows_then one.1 _ final (appends_grows one.1 _ (pushed_appends first equation one.1)) grows in
      let on = grows_then rest.1 one.1 final
      (appends_grows rest.1 one.1 (leaf_appends first (characters c c) rest.1)) ends in (
        one.0,
        rest.0,
        pushed_at equation one.1 grows,
        leaf_at (characters c c) rest.1 ends,
        text_at text s on,
      )

  pub united_at : (ids : List NodeId) (s : Equations) → Grows (united first ids s).1 final
      → HasUnion first final (united first ids s).0 ids
  united_at [] s grows = refl
  united_at (one ∷ []) s grows = refl
  united_at (one ∷ other ∷ rest) s grows = pushed_at (Or (one ∷ other ∷ rest)) s grows

  pub met_at : (signs : List Sign) (s : Equations) → Grows (met first signs s).1 final
      → HasMeet first final (met first signs s).0 signs
  met_at [] s grows = refl
  met_at ((true, one) ∷ []) s grows = refl
  met_at ((false, one) ∷ []) s grows = pushed_at (And ((false, one) ∷ [])) s grows
  met_at ((true, one) ∷ other ∷ rest) s grows = pushed_at (And ((true, one) ∷ other ∷ rest)) s grows
  met_at ((false, one) ∷ other ∷ rest) s grows = pushed_at (And ((false, one) ∷ other ∷ rest)) s grows

  -- formulas one after another
  formulas_at : (number : ℕ) (formulas : List Formula)
      → ((n : ℕ) (formula : Formula)
      → slice_get (map (λ formula. Some (Is formula)) formulas) n ≡ Some (Some (Is formula))
      → slice_get final (number + n) ≡ Some (Some (Is formula)))
      → HaveFormulas first final (first + number) formulas
  formulas_at number [] each = tt
  formulas_at number (formula ∷ rest) each =
      let here : number + 0 ≡ number = omega arith in
      let next : first + (number + 1) ≡ first + number + 1 = omega arith in (
        record {
          number = number;
          there = refl;
          is = subst (λ (number : ℕ). slice_get final number ≡ Some (Some (Is formula))) here (each 0 formula refl);
        },
        subst (λ (number : ℕ). HaveFormulas first final number rest) next
            (formulas_at (number + 1) rest (λ n one is.
            let later : number + suc n ≡ number + 1 + n = omega arith in
            subst (λ (number : ℕ). slice_get final number ≡ Some (Some (Is one))) later (each (suc n) one is))),
      )

  pub sequenced_at : (one : ReadRegular) → Grows (sequenced first one).1 final
      → HaveFormulas first final (sequenced first one).0.0 (sequence_formulas (first + length one.1) one.0)
  sequenced_at one grows =
      let formulas = sequence_formulas (first + length one.1) one.0 in
      formulas_at (length one.1) formulas (λ n formula is.
      grows.still (length one.1 + n) (Is formula)
      (got_after one.1 (map (λ formula. Some (Is formula)) formulas) n ∙ is))

  module _ (names : List (Name × NodeId)) where
    -- a chain of the nodes of trees is a chain of the trees
    pub chained_at : (levels : ScopeLevels) (joint : Joint) (trees : Trees) (ids : List NodeId) (s : Equations)
        → Grows (chained first joint ids s).1 final → EquatesEach first final names levels trees ids
        → EquatesChain first final names levels joint trees (chained first joint ids s).0
    chained_at levels joint NoTree [] s grows each = refl
    chained_at levels joint NoTree (id ∷ ids) s grows each = elim each [ ]
    chained_at levels joint (ATree is rest) [] s grows each = elim each [ ]
    chained_at levels joint (ATree is NoTree) (id ∷ []) s grows each = each.0
    chained_at levels joint (ATree is NoTree) (id ∷ other ∷ ids) s grows each = elim each.1 [ ]
    chained_at levels joint (ATree is (ATree next rest)) (id ∷ []) s grows each = elim each.1 [ ]
    chained_at levels joint (ATree is (ATree next rest)) (id ∷ other ∷ ids) s grows each =
        let later = chained first joint (other ∷ ids) s in
        let equation : Equation = Is (joined joint id later.0) in
        let on = grows_then later.1 _ final (appends_grows later.1 _ (pushed_appends first equation later.1)) grows in (
          id,
          later.0,
          pushed_at equation later.1 grows,
          each.0,
          chained_at levels joint (ATree next rest) (other ∷ ids) s on each.1,
        )

    -- the nodes of trees after those that were made
    pub record TreesAt (levels : ScopeLevels) (trees : Trees) (made all : List NodeId) : Type 0 where
      pub ids : List NodeId
      pub are : all ≡ made ++ ids
      pub each : EquatesEach first final names levels trees ids

    pub record SignsAt (levels : ScopeLevels) (signs : Signs) (made all : List Sign) : Type 0 where
      pub signed : List Sign
      pub are : all ≡ made ++ signed
      pub each : EquatesSigns first final names levels signs signed

    pub record FieldsAt (levels : ScopeLevels) (fields : Fields) (made all : List (Name × Field)) : Type 0 where
      pub named : List (Name × Field)
      pub are : all ≡ made ++ named
      pub each : EquatesFields first final names levels fields named

    pub record RegularsAt (levels : ScopeLevels) (regulars : type.Regulars) (made all : List Regular) : Type 0 where
      pub parts : List Regular
      pub are : all ≡ made ++ parts
      pub each : EquatesRegulars first final names levels regulars (regulars_of parts)

    -- and those that were made after none
    pub all_trees : (levels : ScopeLevels) (trees : Trees) (all : List NodeId) → TreesAt levels trees [] all
        → EquatesEach first final names levels trees all
    all_trees levels trees all each =
        subst (λ ids. EquatesEach first final names levels trees ids) (sym each.are) each.each

    pub all_fields : (levels : ScopeLevels) (fields : Fields) (all : List (Name × Field)) → FieldsAt levels fields [] all
        → EquatesFields first final names levels fields all
    all_fields levels fields all each =
        subst (λ named. EquatesFields first final names levels fields named) (sym each.are) each.each

    pub all_regulars : (levels : ScopeLevels) (regulars : type.Regulars) (all : List Regular)
        → RegularsAt levels regulars [] all
        → EquatesRegulars first final names levels regulars (regulars_of all)
    all_regulars levels regulars all each =
        subst (λ parts. EquatesRegulars first final names levels regulars (regulars_of parts)) (sym each.are) each.each
