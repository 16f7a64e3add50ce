-- The variables of the pattern that a tree writes are those that the tree binds, where these are
-- not at fault.
use Rattle.std.proofs.Common.{◌≡◌, Bool, true, false, not, ◌||◌, List, [], ◌∷◌, ◌++◌, inl, inr}
use Rattle.std.proofs.Common.{refl, sym, ap, ap₂, ◌∙◌, append_assoc, bytes_eq}
use Rattle.std.proofs.Common.{if◌then◌else◌}
use Rattle.cd_syntax.specs.Name.{Name}
use Rattle.cd_syntax.specs.TypeTree.{Tree, tree, Kind, Tuple}
use Rattle.cd_syntax.specs.TypeTree.{Union, Meet, Sequence, Record, Xml}
use Rattle.cd_syntax.specs.TypeTree.{Variable, Default, Trees, NoTree, ATree, Signs, NoSign, ASign}
use Rattle.cd_syntax.specs.TypeTree.{Fields, NoField, AField, Regular, regular, RegularKind}
use Rattle.cd_syntax.specs.TypeTree.{Nothing, Item, Seq, Alt, Repeat, Capture, Regulars, NoRegular}
use Rattle.cd_syntax.specs.TypeTree.{ARegular, Closed, Open, Typed}
use Rattle.cd_syntax.specs.declared.tokens.Span.{Span}
use Rattle.cd_model.specs.Scope.{Scope}
use Rattle.cd_model.proofs.Ones.{one_on_left, one_on_right}
use Rattle.cd_matching.specs.Pattern as pattern
use Rattle.cd_matching.specs.Pattern.{Pattern}
use Rattle.cd_matching.specs.Variables.{binds, all_bind, fields_bind, is_gathered}
use Rattle.cd_matching.specs.Variables.{one_is_gathered, is_plain, one_is_plain}
use Rattle.cd_matching.specs.WrittenPattern.{kind_has, in_scope, pattern_of}
use Rattle.cd_matching.specs.WrittenPattern.{kind_pattern, tuple_pattern, patterns}
use Rattle.cd_matching.specs.WrittenPattern.{signed_patterns, field_patterns, regular_pattern}
use Rattle.cd_matching.specs.WrittenPattern.{regular_kind_pattern, regular_patterns}
use Rattle.cd_variables.specs.Occurrences.{Occurrence, has, takes_away, bound, bound_in, bound_by_all}
use Rattle.cd_variables.specs.Occurrences.{bound_by_signs, bound_by_fields, plain, plain_in}
use Rattle.cd_variables.specs.Occurrences.{plain_of_all, gathered, gathered_in, gathered_of_all}
use Rattle.cd_variables.specs.VariableFaults.{all_trees, all_regulars, kept_trees, side_trees}
use Rattle.cd_variables.specs.VariableFaults.{present_trees}
use Rattle.cd_names.proofs.OccurrenceNames.{has_both, nothing_among}
use Rattle.cd_names.proofs.NoVariables.{no_variable, kind_binds_none}
use Rattle.cd_names.proofs.RegularVariables.{or_nothing, plain_or_gathered}
use Rattle.cd_names.proofs.SoundParts.{IsSound, IsSoundRegular, AreSound, AreSoundRegulars, IsBare}
use Rattle.cd_names.proofs.SoundParts.{AreBare, one_unless, rest_unless}
use Rattle.cd_names.proofs.SoundParts.{one_if, rest_if, parts_are_sound, alternatives_are_sound}
use Rattle.cd_names.proofs.SoundParts.{others_are_bare, sequence_is_sound, item_is_sound}
use Rattle.cd_names.proofs.SoundParts.{regulars_are_sound}

-- of two lists one after the other
pub two_lists : (p q : Bool) (ones others : List Occurrence) (name : Name) → p ≡ has ones name
    → q ≡ has others name → (p || q) ≡ has (ones ++ others) name
two_lists p q ones others name one other =
    ap₂ (λ (a b : Bool). a || b) one other ∙ sym (has_both ones others name)

three_lists : (p q r : Bool) (ones others more : List Occurrence) (name : Name)
    → p ≡ has ones name → q ≡ has others name → r ≡ has more name
    → (p || (q || r)) ≡ has (ones ++ others ++ more) name
three_lists p q r ones others more name one other third =
    two_lists p (q || r) ones (others ++ more) name one
    (two_lists q r others more name other third)
    ∙ ap (λ (all : List Occurrence). has all name) (sym (append_assoc ones others more))

-- the trees of a chain of signs after the first one
pub kept_are_sound : (kept : Bool) (t : Tree) (rest : Signs)
    → AreSound (kept_trees (ASign kept t rest)) → AreSound (kept_trees rest)
kept_are_sound kept t rest sound other among =
    sound other (rest_unless (not kept || takes_away rest) t other (kept_trees rest) among)

pub sides_are_bare : (kept : Bool) (t : Tree) (rest : Signs)
    → AreBare (side_trees (ASign kept t rest)) → AreBare (side_trees rest)
sides_are_bare kept t rest bare other among =
    bare other (rest_if (not kept || takes_away rest) t other (side_trees rest) among)

-- the first tree of a chain
module _ (span : Span) (first : Tree) (signs : Signs) (sound : IsSound (tree span (Meet first
    signs))) where
  pub first_is_sound : takes_away signs ≡ false → IsSound first
  first_is_sound h = parts_are_sound span (Meet first signs) sound first (one_on_left
      (λ other. other ≡ first) (if takes_away signs then [] else first ∷ []) (kept_trees signs)
      (one_unless (takes_away signs) first [] h))

  pub first_is_bare : takes_away signs ≡ true → IsBare first
  first_is_bare h = others_are_bare span (Meet first signs) sound first (one_on_left
      (λ other. other ≡ first) (if takes_away signs then first ∷ [] else []) (side_trees signs)
      (one_if (takes_away signs) first [] h))

  pub signs_are_sound : AreSound (kept_trees signs)
  signs_are_sound t among = parts_are_sound span (Meet first signs) sound t (one_on_right
      (λ other. other ≡ t) (if takes_away signs then [] else first ∷ []) (kept_trees signs) among)

  pub signs_are_bare : AreBare (side_trees signs)
  signs_are_bare t among = others_are_bare span (Meet first signs) sound t (one_on_right
      (λ other. other ≡ t) (if takes_away signs then first ∷ [] else []) (side_trees signs) among)

module _ (scope : Scope) where
  pub type_binds : (t : Tree) → IsBare t → (name : Name) → binds (pattern_of scope t) name ≡ false
  type_binds (tree span kind) bare name =
      ap (λ (b : Bool). binds (if b then kind_pattern scope kind
      else pattern.OfType (in_scope scope (tree span kind))) name)
      (no_variable (tree span kind) (nothing_among _ bare))

  -- a tree that binds nothing, or binds
  one_binds : (b : Bool) (t : Tree) (name : Name) → (b ≡ false → IsSound t) → (b ≡ true → IsBare t)
      → (IsSound t → binds (pattern_of scope t) name ≡ has (bound t) name)
      → binds (pattern_of scope t) name ≡ has (if b then [] else bound t) name
  one_binds true t name sound bare on = type_binds t (bare refl) name
  one_binds false t name sound bare on = on (sound refl)

  mutual
    pub gathers : (r : Regular) (name : Name)
        → is_gathered (regular_pattern scope r) name ≡ has (gathered r) name
    gathers (regular span kind) name = kind_gathers span kind name

    kind_gathers : (span : Span) (kind : RegularKind) (name : Name)
        → is_gathered (regular_kind_pattern scope kind) name ≡ has (gathered_in span.from kind) name
    kind_gathers span Nothing name = refl
    kind_gathers span (Item t) name = refl
    kind_gathers span (Seq all) name = one_gathers all name
    kind_gathers span (Alt all) name = one_gathers all name
    kind_gathers span (Repeat r post) name = gathers r name
    kind_gathers span (Capture variable r) name =
        ap (λ (b : Bool). bytes_eq variable name || b) (gathers r name)

    one_gathers : (all : Regulars) (name : Name)
        → one_is_gathered (regular_patterns scope all) name ≡ has (gathered_of_all all) name
    one_gathers NoRegular name = refl
    one_gathers (ARegular first rest) name =
        two_lists (is_gathered (regular_pattern scope first) name)
        (one_is_gathered (regular_patterns scope rest) name) (gathered first)
        (gathered_of_all rest) name (gathers first name) (one_gathers rest name)

  mutual
    pub tree_binds : (t : Tree) → IsSound t → (name : Name)
        → binds (pattern_of scope t) name ≡ has (bound t) name
    tree_binds (tree span kind) sound name =
        by_test (kind_has kind) refl (kind_binds span kind sound name)
      where
        by_test : (b : Bool) → kind_has kind ≡ b
            → binds (kind_pattern scope kind) name ≡ has (bound_in span.from kind) name
            → binds (if b then kind_pattern scope kind
            else pattern.OfType (in_scope scope (tree span kind))) name
            ≡ has (bound_in span.from kind) name
        by_test true is whole = whole
        by_test false is whole = sym (ap (λ (all : List Occurrence). has all name)
            (kind_binds_none span.from kind is))

    kind_binds : (span : Span) (kind : Kind) → IsSound (tree span kind) → (name : Name)
        → binds (kind_pattern scope kind) name ≡ has (bound_in span.from kind) name
    kind_binds span (Variable variable) sound name = sym (or_nothing (bytes_eq variable name))
    kind_binds span (Default variable constant) sound name =
        sym (or_nothing (bytes_eq variable name))
    kind_binds span (Tuple trees) sound name =
        tuple_binds trees (parts_are_sound span (Tuple trees) sound) name
    kind_binds span (Union trees) sound name =
        trees_bind trees (alternatives_are_sound span (Union trees) sound) name
    kind_binds span (Meet first signs) sound name =
        two_lists (binds (pattern_of scope first) name)
        (all_bind (signed_patterns scope signs) name)
        (if takes_away signs then [] else bound first) (bound_by_signs signs) name
        (one_binds (takes_away signs) first name (first_is_sound span first signs sound)
        (first_is_bare span first signs sound) (λ fine. tree_binds first fine name))
        (signs_bind signs (signs_are_sound span first signs sound)
        (signs_are_bare span first signs sound) name)
    kind_binds span (Sequence r) sound name =
        plain_or_gathered (regular_pattern scope r) name
        ∙ two_lists (is_plain (regular_pattern scope r) name)
        (is_gathered (regular_pattern scope r) name) (plain r) (gathered r) name
        (plain_binds r (sequence_is_sound span r sound) name) (gathers r name)
    kind_binds span (Record fields Closed) sound name =
        fields_bound fields (parts_are_sound span (Record fields Closed) sound) name
    kind_binds span (Record fields Open) sound name =
        fields_bound fields (parts_are_sound span (Record fields Open) sound) name
    kind_binds span (Record fields (Typed is)) sound name =
        or_nothing (fields_bind (field_patterns scope fields) name)
        ∙ fields_bound fields (parts_are_sound span (Record fields (Typed is)) sound) name
    kind_binds span (Xml tag attributes content) sound name =
        let fine = parts_are_sound span (Xml tag attributes content) sound in
        three_lists (binds (pattern_of scope tag) name) (binds (pattern_of scope attributes) name)
        (binds (pattern_of scope content) name) (bound tag) (bound attributes) (bound content) name
        (tree_binds tag (fine tag (inl refl)) name)
        (tree_binds attributes (fine attributes (inr (inl refl))) name)
        (tree_binds content (fine content (inr (inr (inl refl)))) name)
    kind_binds span _ sound name = refl

    trees_bind : (trees : Trees) → AreSound (all_trees trees) → (name : Name)
        → all_bind (patterns scope trees) name ≡ has (bound_by_all trees) name
    trees_bind NoTree sound name = refl
    trees_bind (ATree first rest) sound name =
        two_lists (binds (pattern_of scope first) name) (all_bind (patterns scope rest) name)
        (bound first) (bound_by_all rest) name (tree_binds first (sound first (inl refl)) name)
        (trees_bind rest (λ t among. sound t (inr among)) name)

    pub tuple_binds : (trees : Trees) → AreSound (all_trees trees) → (name : Name)
        → binds (tuple_pattern scope trees) name ≡ has (bound_by_all trees) name
    tuple_binds NoTree sound name = refl
    tuple_binds (ATree first NoTree) sound name =
        tree_binds first (sound first (inl refl)) name
        ∙ sym (has_both (bound first) [] name ∙ or_nothing (has (bound first) name))
    tuple_binds (ATree first (ATree next rest)) sound name =
        two_lists (binds (pattern_of scope first) name)
        (binds (tuple_pattern scope (ATree next rest)) name) (bound first)
        (bound_by_all (ATree next rest)) name (tree_binds first (sound first (inl refl)) name)
        (tuple_binds (ATree next rest) (λ t among. sound t (inr among)) name)

    pub signs_bind : (signs : Signs) → AreSound (kept_trees signs) → AreBare (side_trees signs)
        → (name : Name) → all_bind (signed_patterns scope signs) name
        ≡ has (bound_by_signs signs) name
    signs_bind NoSign sound bare name = refl
    signs_bind (ASign false t rest) sound bare name =
        signs_bind rest (kept_are_sound false t rest sound) (sides_are_bare false t rest bare) name
    signs_bind (ASign true t rest) sound bare name =
        two_lists (binds (pattern_of scope t) name) (all_bind (signed_patterns scope rest) name)
        (if takes_away rest then [] else bound t) (bound_by_signs rest) name
        (one_binds (takes_away rest) t name
        (λ h. sound t (one_unless (takes_away rest) t (kept_trees rest) h))
        (λ h. bare t (one_if (takes_away rest) t (side_trees rest) h))
        (λ fine. tree_binds t fine name))
        (signs_bind rest (kept_are_sound true t rest sound) (sides_are_bare true t rest bare) name)

    pub fields_bound : (fields : Fields) → AreSound (present_trees fields) → (name : Name)
        → fields_bind (field_patterns scope fields) name ≡ has (bound_by_fields fields) name
    fields_bound NoField sound name = refl
    fields_bound (AField label at true t rest) sound name = fields_bound rest sound name
    fields_bound (AField label at false t rest) sound name =
        two_lists (binds (pattern_of scope t) name) (fields_bind (field_patterns scope rest) name)
        (bound t) (bound_by_fields rest) name (tree_binds t (sound t (inl refl)) name)
        (fields_bound rest (λ other among. sound other (inr among)) name)

    pub plain_binds : (r : Regular) → IsSoundRegular r → (name : Name)
        → is_plain (regular_pattern scope r) name ≡ has (plain r) name
    plain_binds (regular span kind) sound name = kind_plain span kind sound name

    kind_plain : (span : Span) (kind : RegularKind) → IsSoundRegular (regular span kind)
        → (name : Name) → is_plain (regular_kind_pattern scope kind) name
        ≡ has (plain_in kind) name
    kind_plain span Nothing sound name = refl
    kind_plain span (Item t) sound name = tree_binds t (item_is_sound span t sound) name
    kind_plain span (Seq all) sound name =
        one_plain all (regulars_are_sound span (Seq all) sound) name
    kind_plain span (Alt all) sound name =
        one_plain all (regulars_are_sound span (Alt all) sound) name
    kind_plain span (Repeat r post) sound name =
        plain_binds r (regulars_are_sound span (Repeat r post) sound r (inl refl)) name
    kind_plain span (Capture variable r) sound name =
        plain_binds r (regulars_are_sound span (Capture variable r) sound r (inl refl)) name

    pub one_plain : (all : Regulars) → AreSoundRegulars (all_regulars all) → (name : Name)
        → one_is_plain (regular_patterns scope all) name ≡ has (plain_of_all all) name
    one_plain NoRegular sound name = refl
    one_plain (ARegular first rest) sound name =
        two_lists (is_plain (regular_pattern scope first) name)
        (one_is_plain (regular_patterns scope rest) name) (plain first) (plain_of_all rest) name
        (plain_binds first (sound first (inl refl)) name)
        (one_plain rest (λ r among. sound r (inr among)) name)
