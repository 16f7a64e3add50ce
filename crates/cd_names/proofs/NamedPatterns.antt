-- The pattern that a tree without a naming fault writes has no fault of its variables or labels.
use Rattle.std.proofs.Common.{◌≡◌, ℕ, Bool, true, false, not, ◌||◌, List, [], ◌∷◌, ◌++◌, map, inl}
use Rattle.std.proofs.Common.{inr, refl, sym, ap, ◌∙◌, append-nil, if◌then◌else◌}
use Rattle.std.proofs.lemmas.Bool.{true≢false, or_left}
use Rattle.cd_syntax.specs.Name.{Name}
use Rattle.cd_syntax.specs.TypeTree.{Tree, tree, Kind, Tuple}
use Rattle.cd_syntax.specs.TypeTree.{Union, Meet, Sequence, Record, Xml}
use Rattle.cd_syntax.specs.TypeTree.{Variable, Default, Trees, NoTree, ATree, Signs, NoSign, ASign}
use Rattle.cd_syntax.specs.TypeTree.{Fields, NoField, AField, Regular, regular, RegularKind}
use Rattle.cd_syntax.specs.TypeTree.{Nothing, Item, Seq, Alt, Repeat, Capture, Regulars, NoRegular}
use Rattle.cd_syntax.specs.TypeTree.{ARegular, Rest, Closed, Open, Typed}
use Rattle.cd_syntax.specs.declared.tokens.Span.{Span}
use Rattle.cd_model.specs.Guarded as guarded
use Rattle.cd_model.specs.Guarded.{IsOneOf, IsSigned}
use Rattle.cd_model.specs.Scope.{Scope}
use Rattle.cd_matching.specs.Naming.{AreDisjointNames, IsNamed, FieldsDisjoint, AreNamedDisjoint}
use Rattle.cd_matching.specs.Naming.{AreNamedAs, AreNamedFields, IsNamedRegular, AreNamedInTurn}
use Rattle.cd_matching.specs.Naming.{AreNamedLike}
use Rattle.cd_matching.specs.Pattern as pattern
use Rattle.cd_matching.specs.Variables.{binds, all_bind, fields_bind, is_gathered, is_plain}
use Rattle.cd_matching.specs.Variables.{one_is_plain}
use Rattle.cd_matching.specs.WrittenPattern.{kind_has, in_scope, pattern_of}
use Rattle.cd_matching.specs.WrittenPattern.{kind_pattern, tuple_pattern, patterns}
use Rattle.cd_matching.specs.WrittenPattern.{signed_patterns, field_patterns, regular_pattern}
use Rattle.cd_matching.specs.WrittenPattern.{regular_kind_pattern, regular_patterns}
use Rattle.cd_resolve.specs.Faults as faults
use Rattle.cd_resolve.specs.Faults.{Fault, IsFault, IsField, IsItem, IsItemOfOne, IsPart}
use Rattle.cd_resolve.specs.declared.fault.NameFault.TheVariants.{Twice}
use Rattle.cd_variables.specs.Occurrences.{Occurrence, has, takes_away, bound, bound_by_all}
use Rattle.cd_variables.specs.Occurrences.{bound_by_signs, bound_by_fields, plain, plain_of_all}
use Rattle.cd_variables.specs.Occurrences.{gathered}
use Rattle.cd_variables.specs.VariableFaults.{IsOneIn, StandsAgain, all_trees, all_regulars}
use Rattle.cd_variables.specs.VariableFaults.{kept_trees, side_trees, present_trees, binding_parts}
use Rattle.cd_variables.specs.VariableFaults.{twice, differs, begins, alternative_differs, stands_again}
use Rattle.cd_names.proofs.GatheredDisjoint.{AreOnce, sequence_once, later_once, plain_later}
use Rattle.cd_names.proofs.GatheredDisjoint.{alternative_same, not_repeated, not_plain, gathers_disjoint}
use Rattle.cd_names.proofs.LabelsOnce.{labels_once}
use Rattle.cd_names.proofs.OccurrenceNames.{has_both, nothing_among, same_names, joined, row_disjoint}
use Rattle.cd_names.proofs.NoVariables.{no_variable}
use Rattle.cd_names.proofs.PatternVariables.{two_lists, kept_are_sound, sides_are_bare}
use Rattle.cd_names.proofs.PatternVariables.{first_is_sound, first_is_bare, signs_are_sound}
use Rattle.cd_names.proofs.PatternVariables.{signs_are_bare, type_binds, gathers, tree_binds}
use Rattle.cd_names.proofs.PatternVariables.{tuple_binds, signs_bind, fields_bound}
use Rattle.cd_names.proofs.PatternVariables.{plain_binds, one_plain}
use Rattle.cd_names.proofs.SoundParts.{IsSound, IsSoundRegular, AreSound, AreSoundRegulars, IsBare}
use Rattle.cd_names.proofs.SoundParts.{AreBare, one_unless, one_if, parts_are_sound}
use Rattle.cd_names.proofs.SoundParts.{alternatives_are_sound, sequence_is_sound, item_is_sound}
use Rattle.cd_names.proofs.SoundParts.{regulars_are_sound}

-- no variable stands in two of these trees
abbrev AreDisjoint : List Tree → Type 0
AreDisjoint trees = (o : Occurrence) → StandsAgain o (map bound trees) → ⊥

parts_disjoint : (span : Span) (kind : Kind) → IsSound (tree span kind)
    → AreDisjoint (binding_parts kind)
parts_disjoint span kind sound o again = sound (twice o) (stands_again span kind o again)

-- what the parts bind
trees_joined : (trees : Trees) → joined (map bound (all_trees trees)) ≡ bound_by_all trees
trees_joined NoTree = refl
trees_joined (ATree first rest) =
    ap (λ (all : List Occurrence). bound first ++ all) (trees_joined rest)

signs_joined : (signs : Signs) → joined (map bound (kept_trees signs)) ≡ bound_by_signs signs
signs_joined NoSign = refl
signs_joined (ASign kept t rest) = by_kept (not kept || takes_away rest) (signs_joined rest)
  where
    by_kept : (b : Bool) → joined (map bound (kept_trees rest)) ≡ bound_by_signs rest
        → joined (map bound (if b then kept_trees rest else t ∷ kept_trees rest))
        ≡ (if b then [] else bound t) ++ bound_by_signs rest
    by_kept true same = same
    by_kept false same = ap (λ (all : List Occurrence). bound t ++ all) same

fields_joined : (fields : Fields) → joined (map bound (present_trees fields))
    ≡ bound_by_fields fields
fields_joined NoField = refl
fields_joined (AField label at true t rest) = fields_joined rest
fields_joined (AField label at false t rest) =
    ap (λ (all : List Occurrence). bound t ++ all) (fields_joined rest)

-- tests of names that no name passes both
apart : (one other : Name → Bool) (ones others : List Occurrence)
    → ((name : Name) → one name ≡ has ones name) → ((name : Name) → other name ≡ has others name)
    → ((name : Name) → has ones name ≡ true → has others name ≡ false) → AreDisjointNames one other
apart one other ones others same alike none name h =
    alike name ∙ none name (sym (same name) ∙ h)

-- the tree before others, and those
module _ (t : Tree) (trees : List Tree) where
  later_disjoint : AreDisjoint (t ∷ trees) → AreDisjoint trees
  later_disjoint once o again = once o (inr again)

  rest_apart : AreDisjoint (t ∷ trees) → (others : List Occurrence)
      → joined (map bound trees) ≡ others → (name : Name) → has (bound t) name ≡ true
      → has others name ≡ false
  rest_apart once others is name h = ap (λ (all : List Occurrence). has all name) (sym is)
      ∙ row_disjoint (bound t) (map bound trees) once name h

  rest_disjoint : (b : Bool) → AreDisjoint (if b then trees else t ∷ trees) → AreDisjoint trees
  rest_disjoint true once = once
  rest_disjoint false once = later_disjoint once

  front_disjoint : (b : Bool) → AreDisjoint ((if b then [] else t ∷ []) ++ trees)
      → AreDisjoint (if b then trees else t ∷ trees)
  front_disjoint true once = once
  front_disjoint false once = once

with_nothing : (p : Bool) (all : List Occurrence) (name : Name) → p ≡ has all name
    → p ≡ has (all ++ []) name
with_nothing p all name is =
    is ∙ ap (λ (list : List Occurrence). has list name) (sym (append-nil all))

module _ (scope outer seen : Scope) where
  -- no type is at fault
  abbrev IsTyped : Tree → Type 0
  IsTyped t = (fault : Fault) → IsFault outer seen t fault → ⊥

  part_typed : (span : Span) (kind : Kind) → IsTyped (tree span kind) → (t : Tree)
      → IsPart seen kind seen t → IsTyped t
  part_typed span kind typed t part fault is =
      typed fault (faults.IsFault.in_part outer seen seen span kind t fault part is)

  type_named : (t : Tree) → IsBare t → IsNamed (pattern_of scope t)
  type_named (tree span kind) bare = by_test (kind_has kind)
      (no_variable (tree span kind) (nothing_among _ bare))
    where
      by_test : (b : Bool) → b ≡ false → IsNamed (if b then kind_pattern scope kind
          else pattern.OfType (in_scope scope (tree span kind)))
      by_test true h = absurd (true≢false h)
      by_test false h = tt

  -- a tree on a side of `\`, or none
  one_named : (b : Bool) (t : Tree) → (b ≡ false → IsSound t) → (b ≡ true → IsBare t)
      → (IsSound t → IsNamed (pattern_of scope t)) → IsNamed (pattern_of scope t)
  one_named true t sound bare on = type_named t (bare refl)
  one_named false t sound bare on = on (sound refl)

  one_disjoint : (b : Bool) (t : Tree) (rest : Signs) → (b ≡ false → IsSound t)
      → (b ≡ true → IsBare t) → AreSound (kept_trees rest) → AreBare (side_trees rest)
      → AreDisjoint (if b then kept_trees rest else t ∷ kept_trees rest)
      → AreDisjointNames (binds (pattern_of scope t)) (all_bind (signed_patterns scope rest))
  one_disjoint true t rest sound bare kept sides once =
      λ name h. absurd (true≢false (sym h ∙ type_binds scope t (bare refl) name))
  one_disjoint false t rest sound bare kept sides once = apart (binds (pattern_of scope t))
      (all_bind (signed_patterns scope rest)) (bound t) (bound_by_signs rest)
      (tree_binds scope t (sound refl)) (signs_bind scope rest kept sides)
      (rest_apart t (kept_trees rest) once (bound_by_signs rest) (signs_joined rest))

  fields_disjoint : (fields : Fields) → AreSound (present_trees fields)
      → AreDisjoint (present_trees fields) → FieldsDisjoint (field_patterns scope fields)
  fields_disjoint NoField sound once = tt
  fields_disjoint (AField label at true t rest) sound once = fields_disjoint rest sound once
  fields_disjoint (AField label at false t rest) sound once = (
    apart (binds (pattern_of scope t)) (fields_bind (field_patterns scope rest)) (bound t)
        (bound_by_fields rest) (tree_binds scope t (sound t (inl refl)))
        (fields_bound scope rest (λ other among. sound other (inr among)))
        (rest_apart t (present_trees rest) once (bound_by_fields rest) (fields_joined rest)),
    fields_disjoint rest (λ other among. sound other (inr among))
        (later_disjoint t (present_trees rest) once),
  )

  -- the fields of a record, whatever its rest is
  fields_typed : (span : Span) (fields : Fields) (rest : Rest)
      → IsTyped (tree span (Record fields rest)) → (label : Name) (at : ℕ) (t : Tree)
      → IsField label at t fields → IsTyped t
  fields_typed span fields rest typed label at t field =
      part_typed span (Record fields rest) typed t
      (faults.IsPart.in_record seen label at t fields rest field)

  record_named : (span : Span) (fields : Fields) (rest : Rest)
      → IsSound (tree span (Record fields rest)) → IsTyped (tree span (Record fields rest))
      → AreNamedFields (field_patterns scope fields)
      → IsNamed (pattern.Record (field_patterns scope fields) true)
  record_named span fields rest sound typed named = (
    labels_once scope fields (λ label at again. typed
        (record { fault = Twice; name = label; at = at })
        (faults.IsFault.label_twice outer seen span fields rest label at again)),
    fields_disjoint fields (parts_are_sound span (Record fields rest) sound)
        (parts_disjoint span (Record fields rest) sound),
    named,
  )

  module _ (tag attributes content : Tree) (sound : AreSound (tag ∷ attributes ∷ content ∷ []))
      (once : AreDisjoint (tag ∷ attributes ∷ content ∷ [])) where
    attributes_bind : (name : Name) → binds (pattern_of scope attributes) name
        ≡ has (bound attributes) name
    attributes_bind = tree_binds scope attributes (sound attributes (inr (inl refl)))

    content_binds : (name : Name) → binds (pattern_of scope content) name
        ≡ has (bound content ++ []) name
    content_binds name = with_nothing (binds (pattern_of scope content) name) (bound content) name
        (tree_binds scope content (sound content (inr (inr (inl refl)))) name)

    tag_disjoint : AreDisjointNames (binds (pattern_of scope tag)) (λ name. binds (pattern_of scope attributes)
        name || binds (pattern_of scope content) name)
    tag_disjoint = apart (binds (pattern_of scope tag)) (λ name. binds (pattern_of scope attributes)
        name || binds (pattern_of scope content) name) (bound tag)
        (bound attributes ++ (bound content ++ []))
        (tree_binds scope tag (sound tag (inl refl)))
        (λ name. two_lists (binds (pattern_of scope attributes) name)
        (binds (pattern_of scope content) name) (bound attributes) (bound content ++ []) name
        (attributes_bind name) (content_binds name))
        (rest_apart tag (attributes ∷ content ∷ []) once
        (bound attributes ++ (bound content ++ [])) refl)

    attributes_disjoint : AreDisjointNames (binds (pattern_of scope attributes))
        (binds (pattern_of scope content))
    attributes_disjoint = apart (binds (pattern_of scope attributes))
        (binds (pattern_of scope content)) (bound attributes) (bound content ++ [])
        attributes_bind content_binds (rest_apart attributes (content ∷ [])
        (later_disjoint tag (attributes ∷ content ∷ []) once) (bound content ++ []) refl)

  mutual
    pub tree_named : (t : Tree) → IsSound t → IsTyped t → IsNamed (pattern_of scope t)
    tree_named (tree span kind) sound typed =
        by_test (kind_has kind) (kind_named span kind sound typed)
      where
        by_test : (b : Bool) → IsNamed (kind_pattern scope kind)
            → IsNamed (if b then kind_pattern scope kind
            else pattern.OfType (in_scope scope (tree span kind)))
        by_test true named = named
        by_test false named = tt

    kind_named : (span : Span) (kind : Kind) → IsSound (tree span kind) → IsTyped (tree span kind)
        → IsNamed (kind_pattern scope kind)
    kind_named span (Variable variable) sound typed = tt
    kind_named span (Default variable constant) sound typed = tt
    kind_named span (Tuple trees) sound typed =
        tuple_named trees (parts_are_sound span (Tuple trees) sound)
        (parts_disjoint span (Tuple trees) sound)
        (λ t among. part_typed span (Tuple trees) typed t
        (faults.IsPart.in_tuple seen t trees among))
    kind_named span (Union NoTree) sound typed = tt
    kind_named span (Union (ATree first rest)) sound typed =
        let fine = alternatives_are_sound span (Union (ATree first rest)) sound in
        let types = (λ (t : Tree) (among : IsOneOf t (ATree first rest)). part_typed span
        (Union (ATree first rest)) typed t
        (faults.IsPart.in_union seen t (ATree first rest) among)) in (
          tree_named first (fine first (inl refl)) (types first (guarded.IsOneOf.first first rest)),
          alike_named (binds (pattern_of scope first)) (bound first)
              (tree_binds scope first (fine first (inl refl))) rest
              (λ t among. fine t (inr among))
              (λ t among. same_names (bound first) (bound t) (λ differ. sound (differs (begins t))
              (alternative_differs span first t rest among differ)))
              (λ t among. types t (guarded.IsOneOf.later t first rest among)),
        )
    kind_named span (Meet first signs) sound typed =
        let fine = first_is_sound span first signs sound in
        let bare = first_is_bare span first signs sound in
        let kept = signs_are_sound span first signs sound in
        let sides = signs_are_bare span first signs sound in
        let types = part_typed span (Meet first signs) typed in
        let once = front_disjoint first (kept_trees signs) (takes_away signs)
        (parts_disjoint span (Meet first signs) sound) in (
          one_disjoint (takes_away signs) first signs fine bare kept sides once,
          one_named (takes_away signs) first fine bare
              (λ h. tree_named first h (types first (faults.IsPart.in_first seen first signs))),
          signs_named signs kept sides
              (rest_disjoint first (kept_trees signs) (takes_away signs) once)
              (λ t among. types t (faults.IsPart.in_signed seen first t signs among)),
        )
    kind_named span (Sequence r) sound typed =
        let fine = sequence_is_sound span r sound in (
          gathers_disjoint scope r [] fine (λ name h. absurd (true≢false (sym h))),
          apart (is_gathered (regular_pattern scope r)) (is_plain (regular_pattern scope r))
              (gathered r) (plain r) (gathers scope r) (plain_binds scope r fine)
              (λ name h. not_plain name r fine h),
          regular_named r fine (λ t among. part_typed span (Sequence r) typed t
              (faults.IsPart.in_sequence seen t r among)),
        )
    kind_named span (Record fields Closed) sound typed =
        record_named span fields Closed sound typed
        (fields_named fields (parts_are_sound span (Record fields Closed) sound)
        (fields_typed span fields Closed typed))
    kind_named span (Record fields Open) sound typed =
        record_named span fields Open sound typed
        (fields_named fields (parts_are_sound span (Record fields Open) sound)
        (fields_typed span fields Open typed))
    kind_named span (Record fields (Typed is)) sound typed = (
      λ name h. refl,
      record_named span fields (Typed is) sound typed
          (fields_named fields (parts_are_sound span (Record fields (Typed is)) sound)
          (fields_typed span fields (Typed is) typed)),
      (λ name h. refl, tt, tt),
    )
    kind_named span (Xml tag attributes content) sound typed =
        let fine = parts_are_sound span (Xml tag attributes content) sound in
        let types = part_typed span (Xml tag attributes content) typed in
        let once = parts_disjoint span (Xml tag attributes content) sound in (
          tag_disjoint tag attributes content fine once,
          attributes_disjoint tag attributes content fine once,
          tree_named tag (fine tag (inl refl))
              (types tag (faults.IsPart.in_tag seen tag attributes content)),
          tree_named attributes (fine attributes (inr (inl refl)))
              (types attributes (faults.IsPart.in_attributes seen tag attributes content)),
          tree_named content (fine content (inr (inr (inl refl))))
              (types content (faults.IsPart.in_content seen tag attributes content)),
        )
    kind_named span _ sound typed = tt

    tuple_named : (trees : Trees) → AreSound (all_trees trees) → AreDisjoint (all_trees trees)
        → ((t : Tree) → IsOneOf t trees → IsTyped t) → IsNamed (tuple_pattern scope trees)
    tuple_named NoTree sound once typed = tt
    tuple_named (ATree first NoTree) sound once typed =
        tree_named first (sound first (inl refl)) (typed first (guarded.IsOneOf.first first NoTree))
    tuple_named (ATree first (ATree next rest)) sound once typed = (
      apart (binds (pattern_of scope first)) (binds (tuple_pattern scope (ATree next rest)))
          (bound first) (bound_by_all (ATree next rest))
          (tree_binds scope first (sound first (inl refl)))
          (tuple_binds scope (ATree next rest) (λ t among. sound t (inr among)))
          (rest_apart first (all_trees (ATree next rest)) once (bound_by_all (ATree next rest))
          (trees_joined (ATree next rest))),
      tree_named first (sound first (inl refl))
          (typed first (guarded.IsOneOf.first first (ATree next rest))),
      tuple_named (ATree next rest) (λ t among. sound t (inr among))
          (later_disjoint first (all_trees (ATree next rest)) once)
          (λ t among. typed t (guarded.IsOneOf.later t first (ATree next rest) among)),
    )

    -- alternatives with the variables of the first one
    alike_named : (test : Name → Bool) (names : List Occurrence)
        → ((name : Name) → test name ≡ has names name) → (trees : Trees)
        → AreSound (all_trees trees)
        → ((t : Tree) → IsOneIn t (all_trees trees) → (name : Name)
        → has names name ≡ has (bound t) name)
        → ((t : Tree) → IsOneOf t trees → IsTyped t) → AreNamedAs test (patterns scope trees)
    alike_named test names is NoTree sound same typed = tt
    alike_named test names is (ATree first rest) sound same typed = (
      λ name. tree_binds scope first (sound first (inl refl)) name
          ∙ sym (is name ∙ same first (inl refl) name),
      tree_named first (sound first (inl refl)) (typed first (guarded.IsOneOf.first first rest)),
      alike_named test names is rest (λ t among. sound t (inr among))
          (λ t among. same t (inr among))
          (λ t among. typed t (guarded.IsOneOf.later t first rest among)),
    )

    signs_named : (signs : Signs) → AreSound (kept_trees signs) → AreBare (side_trees signs)
        → AreDisjoint (kept_trees signs) → ((t : Tree) → IsSigned t signs → IsTyped t)
        → AreNamedDisjoint (signed_patterns scope signs)
    signs_named NoSign sound bare once typed = tt
    signs_named (ASign false t rest) sound bare once typed = (
      λ name h. absurd (true≢false (sym h)),
      tt,
      signs_named rest (kept_are_sound false t rest sound) (sides_are_bare false t rest bare)
          (rest_disjoint t (kept_trees rest) true once)
          (λ other among. typed other (guarded.IsSigned.later false other t rest among)),
    )
    signs_named (ASign true t rest) sound bare once typed = (
      one_disjoint (takes_away rest) t rest
          (λ h. sound t (one_unless (takes_away rest) t (kept_trees rest) h))
          (λ h. bare t (one_if (takes_away rest) t (side_trees rest) h))
          (kept_are_sound true t rest sound) (sides_are_bare true t rest bare) once,
      one_named (takes_away rest) t
          (λ h. sound t (one_unless (takes_away rest) t (kept_trees rest) h))
          (λ h. bare t (one_if (takes_away rest) t (side_trees rest) h))
          (λ fine. tree_named t fine (typed t (guarded.IsSigned.first true t rest))),
      signs_named rest (kept_are_sound true t rest sound) (sides_are_bare true t rest bare)
          (rest_disjoint t (kept_trees rest) (takes_away rest) once)
          (λ other among. typed other (guarded.IsSigned.later true other t rest among)),
    )

    fields_named : (fields : Fields) → AreSound (present_trees fields)
        → ((label : Name) (at : ℕ) (t : Tree) → IsField label at t fields → IsTyped t)
        → AreNamedFields (field_patterns scope fields)
    fields_named NoField sound typed = tt
    fields_named (AField label at true t rest) sound typed =
        fields_named rest sound (λ name place other field. typed name place other
        (faults.IsField.later name label place at true other t rest field))
    fields_named (AField label at false t rest) sound typed = (
      tree_named t (sound t (inl refl))
          (typed label at t (faults.IsField.first label at false t rest)),
      fields_named rest (λ other among. sound other (inr among)) (λ name place other field.
          typed name place other
          (faults.IsField.later name label place at false other t rest field)),
    )

    regular_named : (r : Regular) → IsSoundRegular r → ((t : Tree) → IsItem t r → IsTyped t)
        → IsNamedRegular (regular_pattern scope r)
    regular_named (regular span kind) sound typed = regular_kind_named span kind sound typed

    regular_kind_named : (span : Span) (kind : RegularKind) → IsSoundRegular (regular span kind)
        → ((t : Tree) → IsItem t (regular span kind) → IsTyped t)
        → IsNamedRegular (regular_kind_pattern scope kind)
    regular_kind_named span Nothing sound typed = tt
    regular_kind_named span (Item t) sound typed =
        tree_named t (item_is_sound span t sound) (typed t (faults.IsItem.item span t))
    regular_kind_named span (Seq all) sound typed =
        turn_named all (regulars_are_sound span (Seq all) sound) (sequence_once span all sound)
        (λ t among. typed t (faults.IsItem.in_seq span t all among))
    regular_kind_named span (Alt NoRegular) sound typed = tt
    regular_kind_named span (Alt (ARegular first rest)) sound typed =
        let fine = regulars_are_sound span (Alt (ARegular first rest)) sound in
        let types = (λ (t : Tree) (among : IsItemOfOne t (ARegular first rest)). typed t
        (faults.IsItem.in_alt span t (ARegular first rest) among)) in (
          regular_named first (fine first (inl refl))
              (λ t item. types t (faults.IsItemOfOne.first t first rest item)),
          like_named (is_plain (regular_pattern scope first)) (plain first)
              (plain_binds scope first (fine first (inl refl))) rest
              (λ r among. fine r (inr among)) (alternative_same span first rest sound)
              (λ t among. types t (faults.IsItemOfOne.later t first rest among)),
        )
    regular_kind_named span (Repeat r post) sound typed =
        let fine = regulars_are_sound span (Repeat r post) sound r (inl refl) in (
          λ name. plain_binds scope r fine name ∙ not_repeated span r post sound name,
          regular_named r fine (λ t item. typed t (faults.IsItem.repeated span t r post item)),
        )
    regular_kind_named span (Capture variable r) sound typed =
        regular_named r (regulars_are_sound span (Capture variable r) sound r (inl refl))
        (λ t item. typed t (faults.IsItem.captured span t variable r item))

    turn_named : (all : Regulars) → AreSoundRegulars (all_regulars all)
        → AreOnce (all_regulars all) → ((t : Tree) → IsItemOfOne t all → IsTyped t)
        → AreNamedInTurn (regular_patterns scope all)
    turn_named NoRegular sound once typed = tt
    turn_named (ARegular first rest) sound once typed = (
      apart (is_plain (regular_pattern scope first)) (one_is_plain (regular_patterns scope rest))
          (plain first) (plain_of_all rest) (plain_binds scope first (sound first (inl refl)))
          (one_plain scope rest (λ r among. sound r (inr among)))
          (λ name h. plain_later first rest once name (has_both (plain first) (gathered first) name
          ∙ or_left (has (plain first) name) (has (gathered first) name) h)),
      regular_named first (sound first (inl refl))
          (λ t item. typed t (faults.IsItemOfOne.first t first rest item)),
      turn_named rest (λ r among. sound r (inr among)) (later_once first rest once)
          (λ t among. typed t (faults.IsItemOfOne.later t first rest among)),
    )

    like_named : (test : Name → Bool) (names : List Occurrence)
        → ((name : Name) → test name ≡ has names name) → (all : Regulars)
        → AreSoundRegulars (all_regulars all)
        → ((r : Regular) → IsOneIn r (all_regulars all) → (name : Name)
        → has names name ≡ has (plain r) name)
        → ((t : Tree) → IsItemOfOne t all → IsTyped t)
        → AreNamedLike test (regular_patterns scope all)
    like_named test names is NoRegular sound same typed = tt
    like_named test names is (ARegular first rest) sound same typed = (
      λ name. plain_binds scope first (sound first (inl refl)) name
          ∙ sym (is name ∙ same first (inl refl) name),
      regular_named first (sound first (inl refl))
          (λ t item. typed t (faults.IsItemOfOne.first t first rest item)),
      like_named test names is rest (λ r among. sound r (inr among))
          (λ r among. same r (inr among))
          (λ t among. typed t (faults.IsItemOfOne.later t first rest among)),
    )
