-- The node that a walk gives has the equations of the tree.
use Rattle.std.proofs.Common.{◌≡◌, ℕ, ◌+◌, ◌≤◌, true, List, [], ◌∷◌, map, length, Some, refl, sym, subst, ◌∙◌}
use Rattle.std.proofs.Common.{append_assoc, arith}
use Rattle.std.proofs.lemmas.List.{append-nil}
use Rattle.cd_sets.specs.declared.node_id.NodeId.{NodeId}
use Rattle.cd_syntax.specs.Name.{Name}
use Rattle.cd_syntax.specs.TypeTree as type
use Rattle.cd_syntax.specs.TypeTree.{Tree, tree, Kind, Trees, NoTree, ATree, Signs, NoSign, ASign, Fields, NoField}
use Rattle.cd_syntax.specs.TypeTree.{AField, Declarations, NoDeclaration, ADeclaration}
use Rattle.cd_model.specs.Formula.{Formula, Field, Xml, Record}
use Rattle.cd_regex.specs.Regular.{Regular, regulars_of}
use Rattle.cd_regex.specs.Automaton.{sequence_formulas}
use Rattle.cd_resolve.specs.Inner.Names.{AreBelow}
use Rattle.cd_shared.specs.Equation.{Equation, Equations, Is, Same}
use Rattle.cd_resolve.specs.Inner.ScopeLevels.{ScopeLevels, number_in}
use Rattle.cd_resolve.specs.Inner.Leaves.{Pairs, Arrows, sorted}
use Rattle.cd_resolve.specs.Inner.Members.{Sign, union_of, meet_of}
use Rattle.cd_resolve.specs.Inner.Equates.{HasMeet, Equates, EquatesKind, EquatesRegular, EquatesRegularKind}
use Rattle.cd_resolve.specs.Inner.Equates.{EquatesRest, AreEquated}
use Rattle.cd_resolve.specs.Inner.Walk.{entered, settled, met, one_more, level_after, walked, walked_kind, walked_trees}
use Rattle.cd_resolve.specs.Inner.Walk.{walked_signs, walked_fields, walked_regular, walked_regular_kind}
use Rattle.cd_resolve.specs.Inner.Walk.{walked_regulars, walked_rest, walked_declared, walked_list}
use Rattle.cd_resolve.proofs.Growing.{Grows, grows_then, appends_grows, appends_longer, AreUnread, unread_later}
use Rattle.cd_resolve.proofs.Growing.{entered_length, entered_unread, settled_is, settled_grows, settled_unread}
use Rattle.cd_resolve.proofs.Growing.{settled_length, pushed_appends, chained_appends, united_appends, met_appends}
use Rattle.cd_resolve.proofs.Growing.{walked_appends, trees_append, signs_append, fields_append, regular_appends}
use Rattle.cd_resolve.proofs.Growing.{rest_appends, regulars_append, declared_grows, list_longer}
use Rattle.cd_resolve.proofs.NodesBelow.{AreBefore, before_later, before_inside, regular_below}
use Rattle.cd_resolve.proofs.MadeEquations.{pushed_at, leaf_at, text_at, united_at, met_at, sequenced_at, chained_at}
use Rattle.cd_resolve.proofs.MadeEquations.{TreesAt, SignsAt, FieldsAt, RegularsAt, all_trees, all_fields, all_regulars}

module _ (first : ℕ) (names : List (Name × NodeId)) (enough : 14 ≤ first) (named : AreBelow first names) where
  mutual
    -- a tree, and what trees are made of
    pub walked_equates : (levels : ScopeLevels) (is : Tree) (s final : Equations) → AreBefore first s levels
        → Grows (walked first names levels is s).1 final
        → Equates first final names levels is (walked first names levels is s).0
    walked_equates levels (tree span kind) s final before grows = kind_equates levels kind s final before grows

    pub kind_equates : (levels : ScopeLevels) (kind : Kind) (s final : Equations) → AreBefore first s levels
        → Grows (walked_kind first names levels kind s).1 final
        → EquatesKind first final names levels kind (walked_kind first names levels kind s).0
    kind_equates levels (type.Builtin name) s final before grows = refl
    kind_equates levels (type.Ints low high) s final before grows = leaf_at first final _ s grows
    kind_equates levels (type.Chars low high) s final before grows = leaf_at first final _ s grows
    kind_equates levels (type.Atom name) s final before grows = pushed_at first final _ s grows
    kind_equates levels (type.Text text) s final before grows = text_at first final text s grows
    kind_equates levels (type.Tuple NoTree) s final before grows = refl
    kind_equates levels (type.Tuple (ATree one NoTree)) s final before grows = refl
    kind_equates levels (type.Tuple (ATree one (ATree next rest))) s final before grows =
        let trees : Trees = ATree one (ATree next rest) in
        let all = walked_trees first names levels trees [] s in
        let on = grows_then all.1 _ final (appends_grows all.1 _ (chained_appends first Pairs all.0 all.1)) grows in
        chained_at first final names levels Pairs trees all.0 all.1 grows
        (all_trees first final names levels trees all.0
        (trees_equate levels (ATree one (ATree next rest)) [] s final before on))
    kind_equates levels (type.Arrows NoTree) s final before grows = refl
    kind_equates levels (type.Arrows (ATree one NoTree)) s final before grows = refl
    kind_equates levels (type.Arrows (ATree one (ATree next rest))) s final before grows =
        let trees : Trees = ATree one (ATree next rest) in
        let all = walked_trees first names levels trees [] s in
        let on = grows_then all.1 _ final (appends_grows all.1 _ (chained_appends first Arrows all.0 all.1)) grows in
        chained_at first final names levels Arrows trees all.0 all.1 grows
        (all_trees first final names levels trees all.0
        (trees_equate levels (ATree one (ATree next rest)) [] s final before on))
    kind_equates levels (type.Union trees) s final before grows =
        let all = walked_trees first names levels trees [] s in
        let on = grows_then all.1 _ final
        (appends_grows all.1 _ (united_appends first (union_of all.0) all.1)) grows in (
          all.0,
          united_at first final (union_of all.0) all.1 grows,
          all_trees first final names levels trees all.0 (trees_equate levels trees [] s final before on),
        )
    kind_equates levels (type.Meet one signs) s final before grows =
        let kept = walked first names levels one s in
        let all = walked_signs first names levels signs ((true, kept.0) ∷ []) kept.1 in
        let later = grows_then all.1 _ final (appends_grows all.1 _ (met_appends first (meet_of all.0) all.1)) grows in
        let on = grows_then kept.1 all.1 final
        (appends_grows kept.1 all.1 (signs_append first names levels signs ((true, kept.0) ∷ []) kept.1)) later in
        let longer = appends_longer s kept.1 (walked_appends first names levels one s) in
        let each = signs_equate levels signs ((true, kept.0) ∷ []) kept.1 final
        (before_later first s kept.1 levels longer before) later in (
          kept.0,
          each.signed,
          subst (λ (signed : List Sign). HasMeet first final (met first (meet_of all.0) all.1).0
              (meet_of signed)) each.are
              (met_at first final (meet_of all.0) all.1 grows),
          walked_equates levels one s final before on,
          each.each,
        )
    kind_equates levels (type.Sequence is) s final before grows =
        let one = walked_regular first names levels is s in
        let states = map (λ (formula : Formula). Some (Is formula)) (sequence_formulas (first + length one.1) one.0) in
        let on = grows_then one.1 _ final (appends_grows one.1 _ (record { more = states; are = refl })) grows in (
          one.0,
          sequenced_at first final one grows,
          regular_equates levels is s final before on,
          regular_below first names enough named levels is s before,
        )
    kind_equates levels (type.Record fields rest) s final before grows =
        let all = walked_fields first names levels fields [] s in
        let other = walked_rest first names levels rest all.1 in
        let equation : Equation = Is (Record (sorted all.0) other.0) in
        let later = grows_then other.1 _ final (appends_grows other.1 _ (pushed_appends first equation other.1)) grows in
        let on = grows_then all.1 other.1 final
        (appends_grows all.1 other.1 (rest_appends first names levels rest all.1)) later in
        let longer = appends_longer s all.1 (fields_append first names levels fields [] s) in (
          all.0,
          other.0,
          pushed_at first final equation other.1 grows,
          all_fields first final names levels fields all.0 (fields_equate levels fields [] s final before on),
          rest_equates levels rest all.1 final (before_later first s all.1 levels longer before) later,
        )
    kind_equates levels (type.Xml tag attributes content) s final before grows =
        let one = walked first names levels tag s in
        let two = walked first names levels attributes one.1 in
        let three = walked first names levels content two.1 in
        let equation : Equation = Is (Xml one.0 two.0 three.0) in
        let last = grows_then three.1 _ final (appends_grows three.1 _ (pushed_appends first equation three.1)) grows in
        let second = walked_appends first names levels attributes one.1 in
        let later = grows_then two.1 three.1 final
        (appends_grows two.1 three.1 (walked_appends first names levels content two.1)) last in
        let on = grows_then one.1 two.1 final (appends_grows one.1 two.1 second) later in
        let after = before_later first s one.1 levels
        (appends_longer s one.1 (walked_appends first names levels tag s)) before in (
          one.0,
          two.0,
          three.0,
          pushed_at first final equation three.1 grows,
          walked_equates levels tag s final before on,
          walked_equates levels attributes one.1 final after later,
          walked_equates levels content two.1 final
              (before_later first one.1 two.1 levels (appends_longer one.1 two.1 second) after) last,
        )
    kind_equates levels (type.Named name) s final before grows = refl
    kind_equates levels (type.Where is declarations) s final before grows =
        let under : ScopeLevels = level_after first declarations s ∷ levels in
        let all = walked_list first names levels declarations s in
        let on = grows_then all _ final (appends_grows all _ (walked_appends first names under is all)) grows in
        let one = entered declarations s in
        let long = entered_length declarations s in (
          first + length s,
          declared_equates under (length s) declarations one final
              (before_inside first s one levels declarations (omega arith) before)
              (entered_unread declarations s) (omega arith) on,
          walked_equates under is all final
              (before_inside first s all levels declarations
              (list_longer first names levels declarations s) before) grows,
        )
    kind_equates levels (type.Variable name) s final before grows = refl
    kind_equates levels (type.Default name constant) s final before grows = refl

    pub trees_equate : (levels : ScopeLevels) (trees : Trees) (made : List NodeId) (s final : Equations)
        → AreBefore first s levels
        → Grows (walked_trees first names levels trees made s).1 final
        → TreesAt first final names levels trees made (walked_trees first names levels trees made s).0
    trees_equate levels NoTree made s final before grows = record { ids = []; are = sym (append-nil made); each = tt }
    trees_equate levels (ATree is rest) made s final before grows =
        let one = walked first names levels is s in
        let all = walked_trees first names levels rest (one_more made one.0) one.1 in
        let on = grows_then one.1 all.1 final
        (appends_grows one.1 all.1 (trees_append first names levels rest (one_more made one.0) one.1)) grows in
        let longer = appends_longer s one.1 (walked_appends first names levels is s) in
        let later = trees_equate levels rest (one_more made one.0) one.1 final
        (before_later first s one.1 levels longer before) grows in
        record {
          ids = one.0 ∷ later.ids;
          are = later.are ∙ append_assoc made (one.0 ∷ []) later.ids;
          each = (walked_equates levels is s final before on, later.each);
        }

    signs_equate : (levels : ScopeLevels) (signs : Signs) (made : List Sign) (s final : Equations) → AreBefore first s levels
        → Grows (walked_signs first names levels signs made s).1 final
        → SignsAt first final names levels signs made (walked_signs first names levels signs made s).0
    signs_equate levels NoSign made s final before grows =
        record { signed = []; are = sym (append-nil made); each = tt }
    signs_equate levels (ASign kept is rest) made s final before grows =
        let one = walked first names levels is s in
        let next : Sign = (kept, one.0) in
        let all = walked_signs first names levels rest (one_more made next) one.1 in
        let on = grows_then one.1 all.1 final
        (appends_grows one.1 all.1 (signs_append first names levels rest (one_more made next) one.1)) grows in
        let longer = appends_longer s one.1 (walked_appends first names levels is s) in
        let later = signs_equate levels rest (one_more made next) one.1 final
        (before_later first s one.1 levels longer before) grows in
        record {
          signed = next ∷ later.signed;
          are = later.are ∙ append_assoc made (next ∷ []) later.signed;
          each = (refl, walked_equates levels is s final before on, later.each);
        }

    fields_equate : (levels : ScopeLevels) (fields : Fields) (made : List (Name × Field)) (s final : Equations)
        → AreBefore first s levels → Grows (walked_fields first names levels fields made s).1 final
        → FieldsAt first final names levels fields made (walked_fields first names levels fields made s).0
    fields_equate levels NoField made s final before grows =
        record { named = []; are = sym (append-nil made); each = tt }
    fields_equate levels (AField label at optional is rest) made s final before grows =
        let one = walked first names levels is s in
        let next : Name × Field = (label, record { optional = optional; type = one.0 }) in
        let all = walked_fields first names levels rest (one_more made next) one.1 in
        let on = grows_then one.1 all.1 final
        (appends_grows one.1 all.1 (fields_append first names levels rest (one_more made next) one.1)) grows in
        let longer = appends_longer s one.1 (walked_appends first names levels is s) in
        let later = fields_equate levels rest (one_more made next) one.1 final
        (before_later first s one.1 levels longer before) grows in
        record {
          named = next ∷ later.named;
          are = later.are ∙ append_assoc made (next ∷ []) later.named;
          each = (refl, refl, walked_equates levels is s final before on, later.each);
        }

    rest_equates : (levels : ScopeLevels) (rest : type.Rest) (s final : Equations) → AreBefore first s levels
        → Grows (walked_rest first names levels rest s).1 final
        → EquatesRest first final names levels rest (walked_rest first names levels rest s).0
    rest_equates levels type.Closed s final before grows = refl
    rest_equates levels type.Open s final before grows = refl
    rest_equates levels (type.Typed is) s final before grows = walked_equates levels is s final before grows

    regular_equates : (levels : ScopeLevels) (is : type.Regular) (s final : Equations) → AreBefore first s levels
        → Grows (walked_regular first names levels is s).1 final
        → EquatesRegular first final names levels is (walked_regular first names levels is s).0
    regular_equates levels (type.regular span kind) s final before grows =
        regular_kind_equates levels kind s final before grows

    regular_kind_equates : (levels : ScopeLevels) (kind : type.RegularKind) (s final : Equations) → AreBefore first s levels
        → Grows (walked_regular_kind first names levels kind s).1 final
        → EquatesRegularKind first final names levels kind (walked_regular_kind first names levels kind s).0
    regular_kind_equates levels type.Nothing s final before grows = refl
    regular_kind_equates levels (type.Item is) s final before grows =
        ((walked first names levels is s).0, refl, walked_equates levels is s final before grows)
    regular_kind_equates levels (type.Seq regulars) s final before grows =
        let all = walked_regulars first names levels regulars [] s in (
          regulars_of all.0,
          refl,
          all_regulars first final names levels regulars all.0
              (regulars_equate levels regulars [] s final before grows),
        )
    regular_kind_equates levels (type.Alt regulars) s final before grows =
        let all = walked_regulars first names levels regulars [] s in (
          regulars_of all.0,
          refl,
          all_regulars first final names levels regulars all.0
              (regulars_equate levels regulars [] s final before grows),
        )
    regular_kind_equates levels (type.Repeat is post) s final before grows =
        ((walked_regular first names levels is s).0, refl, regular_equates levels is s final before grows)
    regular_kind_equates levels (type.Capture name is) s final before grows = refl

    regulars_equate : (levels : ScopeLevels) (regulars : type.Regulars) (made : List Regular) (s final : Equations)
        → AreBefore first s levels → Grows (walked_regulars first names levels regulars made s).1 final
        → RegularsAt first final names levels regulars made (walked_regulars first names levels regulars made s).0
    regulars_equate levels type.NoRegular made s final before grows =
        record { parts = []; are = sym (append-nil made); each = tt }
    regulars_equate levels (type.ARegular is rest) made s final before grows =
        let one = walked_regular first names levels is s in
        let all = walked_regulars first names levels rest (one_more made one.0) one.1 in
        let on = grows_then one.1 all.1 final
        (appends_grows one.1 all.1 (regulars_append first names levels rest (one_more made one.0) one.1)) grows in
        let longer = appends_longer s one.1 (regular_appends first names levels is s) in
        let later = regulars_equate levels rest (one_more made one.0) one.1 final
        (before_later first s one.1 levels longer before) grows in
        record {
          parts = one.0 ∷ later.parts;
          are = later.are ∙ append_assoc made (one.0 ∷ []) later.parts;
          each = (regular_equates levels is s final before on, later.each);
        }

    -- the names of a list, which had no equations before
    pub declared_equates : (levels : ScopeLevels) (number : ℕ) (declarations : Declarations) (s final : Equations)
        → AreBefore first s levels → AreUnread s number (number_in declarations)
        → number + number_in declarations ≤ length s
        → Grows (walked_declared first names levels number declarations s) final
        → AreEquated first final names levels (first + number) declarations
    declared_equates levels number NoDeclaration s final before are within grows = tt
    declared_equates levels number (ADeclaration name at is rest) s final before are within grows =
        let one = walked first names levels is s in
        let appends = walked_appends first names levels is s in
        let longer = appends_longer s one.1 appends in
        let unread = unread_later s one.1 number (number_in rest + 1) appends are in
        let after = settled number one in
        let long = settled_length number one in
        let still = settled_unread number (number_in rest) one unread in
        let later = grows_then after _ final (declared_grows first names levels (number + 1) rest after still) grows in
        let on = grows_then one.1 after final
        (settled_grows number one (unread.none number (omega arith) (omega arith))) later in
        let next : first + (number + 1) ≡ first + number + 1 = omega arith in (
          (
            one.0,
            record {
              number = number;
              there = refl;
              is = later.still number (Same one.0) (settled_is number one (omega arith));
            },
            walked_equates levels is s final before on,
          ),
          subst (λ (number : ℕ). AreEquated first final names levels number rest) next
              (declared_equates levels (number + 1) rest after final
              (before_later first s after levels (omega arith) before) still (omega arith) grows),
        )

  -- a list of declarations
  pub list_equates : (levels : ScopeLevels) (declarations : Declarations) (s final : Equations) → AreBefore first s levels
      → Grows (walked_list first names levels declarations s) final
      → AreEquated first final names (level_after first declarations s ∷ levels) (first + length s) declarations
  list_equates levels declarations s final before grows =
      let long = entered_length declarations s in
      declared_equates (level_after first declarations s ∷ levels) (length s) declarations
      (entered declarations s) final
      (before_inside first s (entered declarations s) levels declarations (omega arith) before)
      (entered_unread declarations s) (omega arith) grows
