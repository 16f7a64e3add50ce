-- The types of a well made pattern are well made, and no naming fault stands in one where none
-- stands in the pattern.
use Rattle.std.proofs.Common.{ℕ, Bool, true, false, cond, List, [], ◌∷◌}
use Rattle.cd_syntax.specs.Name.{Name}
use Rattle.cd_syntax.specs.declared.builtin.BuiltinName.TheVariants as builtin
use Rattle.cd_syntax.specs.declared.tokens.Span.{Span}
use Rattle.cd_syntax.specs.TypeTree as type
use Rattle.cd_syntax.specs.TypeTree.{Tree, tree, Kind, Trees, NoTree, ATree, Signs, NoSign, ASign}
use Rattle.cd_syntax.specs.TypeTree.{Fields, NoField}
use Rattle.cd_syntax.specs.TypeTree.{AField, Regular, regular, RegularKind, Regulars, NoRegular}
use Rattle.cd_syntax.specs.TypeTree.{ARegular}
use Rattle.cd_syntax.specs.WellMadePattern.{IsWellMadePattern, IsWellMadePatternKind}
use Rattle.cd_syntax.specs.WellMadePattern.{AreWellMadePatterns}
use Rattle.cd_syntax.specs.WellMadePattern.{AreWellMadePatternSigns, AreWellMadePatternFields}
use Rattle.cd_syntax.specs.WellMadePattern.{IsWellMadePatternRegular, IsWellMadePatternRegularKind}
use Rattle.cd_syntax.specs.WellMadePattern.{AreWellMadePatternRegulars}
use Rattle.cd_model.specs.AllOf.{AllOf}
use Rattle.cd_model.specs.Guarded.{IsOneOf, IsSigned}
use Rattle.cd_model.specs.Guarded as guarded
use Rattle.cd_model.specs.Scope.{Scope}
use Rattle.cd_model.specs.Written.{Written}
use Rattle.cd_matching.specs.Pattern as pattern
use Rattle.cd_matching.specs.WrittenPattern.{kind_has, in_scope, outside, pattern_of, kind_pattern}
use Rattle.cd_matching.specs.WrittenPattern.{tuple_pattern, free_fields, others_in}
use Rattle.cd_matching.specs.WrittenPattern.{patterns, signed_patterns, field_patterns}
use Rattle.cd_matching.specs.WrittenPattern.{regular_pattern}
use Rattle.cd_matching.specs.WrittenPattern.{regular_kind_pattern, regular_patterns}
use Rattle.cd_resolve.specs.Faults.{Fault, IsField, LabelAgain, IsItem, IsItemOfOne, IsPart, IsFault}
use Rattle.cd_resolve.specs.Faults as naming
use Rattle.cd_patterns.proofs.TypesInTurn.{types_before, all_before, fields_before, regular_before}
use Rattle.cd_patterns.proofs.TypesInTurn.{regulars_before}

no_part : (scope inner : Scope) (part : Tree) → IsPart scope (type.Builtin builtin.Any) inner part
    → ⊥
no_part scope inner part is = elim is [ ]

-- no fault stands in the built-in name of everything
none_in_any : (scope : Scope) (span : Span) (fault : Fault)
    → IsFault scope scope (tree span (type.Builtin builtin.Any)) fault → ⊥
none_in_any scope span _ (naming.IsFault.in_part _ _ inner _ _ part _ is_part _) =
    no_part scope inner part is_part

-- and none in what is outside a tree, where none stands in the tree
none_outside : (scope : Scope) (span : Span) (kind : Kind)
    → ((fault : Fault) → IsFault scope scope (tree span kind) fault → ⊥)
    → (fault : Fault) → IsFault scope scope (outside (tree span kind)) fault → ⊥
none_outside scope span kind none fault
    (naming.IsFault.in_part _ _ _ _ _ _ _ (naming.IsPart.in_first _ _ _) wrong) = none_in_any scope
    span fault wrong
none_outside scope span kind none fault
    (naming.IsFault.in_part _ _ _ _ _ _ _
    (naming.IsPart.in_signed _ _ _ _ (guarded.IsSigned.first _ _ _)) wrong) =
    none fault wrong
none_outside scope span kind none fault
    (naming.IsFault.in_part _ _ _ _ _ _ _
    (naming.IsPart.in_signed _ _ _ _ (guarded.IsSigned.later _ _ _ _ on)) wrong) =
    elim on [ ]

-- none in fields that may be absent or anything, where no label of them stands twice
free_any : (scope : Scope) (fields : Fields) (label : Name) (at : ℕ) (is : Tree)
    → IsField label at is (free_fields fields) → (fault : Fault) → IsFault scope scope is fault → ⊥
free_any scope NoField label at is one fault wrong = elim one [ ]
free_any scope (AField name there optional (tree span kind) rest) label at _
    (naming.IsField.first _ _ _ _ _) fault wrong = none_in_any scope span fault wrong
free_any scope (AField name there optional (tree span kind) rest) label at is
    (naming.IsField.later _ _ _ _ _ _ _ _ one) fault wrong =
    free_any scope rest label at is one fault wrong

free_field : (fields : Fields) (label : Name) (at : ℕ) (is : Tree)
    → IsField label at is (free_fields fields) → (other : Tree) × IsField label at other fields
free_field NoField label at is one = elim one [ ]
free_field (AField name there optional (tree span kind) rest) label at _
    (naming.IsField.first _ _ _ _ _) =
    (tree span kind, naming.IsField.first name there optional (tree span kind) rest)
free_field (AField name there optional (tree span kind) rest) label at is
    (naming.IsField.later _ _ _ _ _ _ _ _ one) =
    let found = free_field rest label at is one in
    (found.0, naming.IsField.later label name at there optional found.0 (tree span kind) rest found.1)

free_again : (fields : Fields) (label : Name) (at : ℕ) → LabelAgain label at (free_fields fields)
    → LabelAgain label at fields
free_again NoField label at again = elim again [ ]
free_again (AField name there optional is rest) label at
    (naming.LabelAgain.here _ _ _ _ again _ _ one) =
    let found = free_field rest name at again one in
    naming.LabelAgain.here name at there optional found.0 is rest found.1
free_again (AField name there optional is rest) label at
    (naming.LabelAgain.later _ _ _ _ _ _ _ again) =
    naming.LabelAgain.later label name at there optional is rest (free_again rest label at again)

none_in_others : (scope : Scope) (fields : Fields) (span : Span) (kind : Kind)
    → ((label : Name) (at : ℕ) → LabelAgain label at fields → ⊥)
    → ((fault : Fault) → IsFault scope scope (tree span kind) fault → ⊥)
    → (fault : Fault) → IsFault scope scope (others_in fields (tree span kind)) fault → ⊥
none_in_others scope fields span kind once none fault
    (naming.IsFault.label_twice _ _ _ _ _ label at again) =
    once label at (free_again fields label at again)
none_in_others scope fields span kind once none fault
    (naming.IsFault.in_part _ _ _ _ _ _ _ (naming.IsPart.in_record _ label at is _ _ one) wrong) =
    free_any scope fields label at is one fault wrong
none_in_others scope fields span kind once none fault
    (naming.IsFault.in_part _ _ _ _ _ _ _ (naming.IsPart.in_rest _ _ _) wrong) = none fault wrong

-- they have the labels of the fields
free_made : (fields : Fields) → AreWellMadePatternFields fields
    → AreWellMadePatternFields (free_fields fields)
free_made NoField made = tt
free_made (AField label at optional (tree span kind) rest) made =
    (made.0, tt, free_made rest made.2)

module _ (scope : Scope) where
  -- no fault stands in the tree
  abbrev pub NoFault : Tree → Type 0
  NoFault is = (fault : Fault) → IsFault scope scope is fault → ⊥

  abbrev pub IsSound : Written → Type 0
  IsSound type = IsWellMadePattern type.tree × NoFault type.tree

  -- nor in a part of a tree
  abbrev NoneIn : Kind → Type 0
  NoneIn kind = (is : Tree) → IsPart scope kind scope is → NoFault is

  none_in : (span : Span) (kind : Kind) → NoFault (tree span kind) → NoneIn kind
  none_in span kind none is part fault wrong =
      none fault (naming.IsFault.in_part scope scope scope span kind is fault part wrong)

  -- what is outside a sound type is sound
  outside_sound : (is : Tree) → IsSound (in_scope [] is) → IsSound (in_scope [] (outside is))
  outside_sound (tree span kind) sound = ((tt, (sound.0, tt)), none_outside scope span kind sound.1)

  -- the records of a rest are sound, where no label of the fields stands twice
  others_sound : (fields : Fields) (is : Tree) → AreWellMadePatternFields fields
      → ((label : Name) (at : ℕ) → LabelAgain label at fields → ⊥) → IsSound (in_scope [] is)
      → IsSound (in_scope [] (others_in fields is))
  others_sound fields (tree span kind) made once sound =
      ((free_made fields made, sound.0), none_in_others scope fields span kind once sound.1)

  -- a tree is a type, or what its kind is
  by_kind : (span : Span) (kind : Kind) (more : List Written) → IsSound
      (in_scope [] (tree span kind))
      → AllOf IsSound more → AllOf IsSound (types_before (kind_pattern [] kind) more) → (has : Bool)
      → AllOf IsSound
      (types_before
      (cond has (kind_pattern [] kind) (pattern.OfType (in_scope [] (tree span kind)))) more)
  by_kind span kind more one sound all true = all
  by_kind span kind more one sound all false = (one, sound)

  mutual
    pub tree_sound : (is : Tree) (more : List Written) → IsWellMadePattern is → NoFault is
        → AllOf IsSound more
        → AllOf IsSound (types_before (pattern_of [] is) more)
    tree_sound (tree span kind) more made none sound =
        by_kind span kind more (made, none) sound
        (kind_sound span kind more made none (none_in span kind none) sound)
        (kind_has kind)

    kind_sound : (span : Span) (kind : Kind) (more : List Written) → IsWellMadePatternKind kind
        → NoFault (tree span kind) → NoneIn kind → AllOf IsSound more
        → AllOf IsSound (types_before (kind_pattern [] kind) more)
    kind_sound span (type.Builtin _) more made whole none sound = sound
    kind_sound span (type.Ints _ _) more made whole none sound = sound
    kind_sound span (type.Chars _ _) more made whole none sound = sound
    kind_sound span (type.Atom _) more made whole none sound = sound
    kind_sound span (type.Text _) more made whole none sound = sound
    kind_sound span (type.Tuple trees) more made whole none sound =
        tuple_sound trees more made.1
        (λ is one. none is (naming.IsPart.in_tuple scope is trees one)) sound
    kind_sound span (type.Arrows _) more made whole none sound = sound
    kind_sound span (type.Union trees) more made whole none sound =
        all_sound trees more made (λ is one. none is (naming.IsPart.in_union scope is trees one))
        sound
    kind_sound span (type.Meet first signs) more made whole none sound =
        tree_sound first (all_before (signed_patterns [] signs) more) made.0
        (none first (naming.IsPart.in_first scope first signs))
        (signs_sound signs more made.1
        (λ is one. none is (naming.IsPart.in_signed scope first is signs one)) sound)
    kind_sound span (type.Sequence is) more made whole none sound =
        regular_sound is more made
        (λ item one. none item (naming.IsPart.in_sequence scope item is one)) sound
    kind_sound span (type.Record fields type.Closed) more made whole none sound =
        fields_sound fields more made.0
        (λ label at is one. none is (naming.IsPart.in_record scope label at is fields type.Closed one))
        sound
    kind_sound span (type.Record fields type.Open) more made whole none sound =
        fields_sound fields more made.0
        (λ label at is one. none is (naming.IsPart.in_record scope label at is fields type.Open one))
        sound
    kind_sound span (type.Record fields (type.Typed other)) more made whole none sound =
        fields_sound fields (in_scope [] (others_in fields other) ∷ more) made.0
        (λ label at is one. none is
        (naming.IsPart.in_record scope label at is fields (type.Typed other) one)) (
          others_sound fields other made.0
              (λ label at again. whole _
              (naming.IsFault.label_twice scope scope span fields (type.Typed other) label at again))
              (made.1, none other (naming.IsPart.in_rest scope fields other)),
          sound,
        )
    kind_sound span (type.Xml tag attributes content) more made whole none sound =
        tree_sound tag (types_before (pattern_of [] attributes)
        (types_before (pattern_of [] content) more)) made.0
        (none tag (naming.IsPart.in_tag scope tag attributes content))
        (tree_sound attributes (types_before (pattern_of [] content) more) made.1
        (none attributes (naming.IsPart.in_attributes scope tag attributes content))
        (tree_sound content more made.2
        (none content (naming.IsPart.in_content scope tag attributes content)) sound))
    kind_sound span (type.Named _) more made whole none sound = sound
    kind_sound span (type.Where _ _) more made whole none sound = sound
    kind_sound span (type.Variable _) more made whole none sound = sound
    kind_sound span (type.Default _ _) more made whole none sound = sound

    tuple_sound : (trees : Trees) (more : List Written) → AreWellMadePatterns trees
        → ((is : Tree) → IsOneOf is trees → NoFault is) → AllOf IsSound more
        → AllOf IsSound (types_before (tuple_pattern [] trees) more)
    tuple_sound NoTree more made none sound = sound
    tuple_sound (ATree first NoTree) more made none sound =
        tree_sound first more made.0 (none first (guarded.IsOneOf.first first NoTree)) sound
    tuple_sound (ATree first (ATree next rest)) more made none sound =
        tree_sound first (types_before (tuple_pattern [] (ATree next rest)) more) made.0
        (none first (guarded.IsOneOf.first first (ATree next rest)))
        (tuple_sound (ATree next rest) more made.1
        (λ is one. none is (guarded.IsOneOf.later is first (ATree next rest) one)) sound)

    all_sound : (trees : Trees) (more : List Written) → AreWellMadePatterns trees
        → ((is : Tree) → IsOneOf is trees → NoFault is) → AllOf IsSound more
        → AllOf IsSound (all_before (patterns [] trees) more)
    all_sound NoTree more made none sound = sound
    all_sound (ATree first rest) more made none sound =
        tree_sound first (all_before (patterns [] rest) more) made.0
        (none first (guarded.IsOneOf.first first rest))
        (all_sound rest more made.1 (λ is one. none is (guarded.IsOneOf.later is first rest one))
        sound)

    signs_sound : (signs : Signs) (more : List Written) → AreWellMadePatternSigns signs
        → ((is : Tree) → IsSigned is signs → NoFault is) → AllOf IsSound more
        → AllOf IsSound (all_before (signed_patterns [] signs) more)
    signs_sound NoSign more made none sound = sound
    signs_sound (ASign true is rest) more made none sound =
        tree_sound is (all_before (signed_patterns [] rest) more) made.0
        (none is (guarded.IsSigned.first true is rest))
        (signs_sound rest more made.1
        (λ other one. none other (guarded.IsSigned.later true other is rest one)) sound)
    signs_sound (ASign false is rest) more made none sound = (
      outside_sound is (made.0, none is (guarded.IsSigned.first false is rest)),
      signs_sound rest more made.1
          (λ other one. none other (guarded.IsSigned.later false other is rest one)) sound,
    )

    fields_sound : (fields : Fields) (more : List Written) → AreWellMadePatternFields fields
        → ((label : Name) (at : ℕ) (is : Tree) → IsField label at is fields → NoFault is)
        → AllOf IsSound more
        → AllOf IsSound (fields_before (field_patterns [] fields) more)
    fields_sound NoField more made none sound = sound
    fields_sound (AField label at true is rest) more made none sound = (
      (made.1, none label at is (naming.IsField.first label at true is rest)),
      fields_sound rest more made.2
          (λ other there item one. none other there item
          (naming.IsField.later other label there at true item is rest one)) sound,
    )
    fields_sound (AField label at false is rest) more made none sound =
        tree_sound is (fields_before (field_patterns [] rest) more) made.1
        (none label at is (naming.IsField.first label at false is rest))
        (fields_sound rest more made.2
        (λ other there item one. none other there item
        (naming.IsField.later other label there at false item is rest one)) sound)

    regular_sound : (is : Regular) (more : List Written) → IsWellMadePatternRegular is
        → ((item : Tree) → IsItem item is → NoFault item) → AllOf IsSound more
        → AllOf IsSound (regular_before (regular_pattern [] is) more)
    regular_sound (regular span kind) more made none sound =
        regular_kind_sound span kind more made none sound

    regular_kind_sound : (span : Span) (kind : RegularKind) (more : List Written)
        → IsWellMadePatternRegularKind kind
        → ((item : Tree) → IsItem item (regular span kind) → NoFault item) → AllOf IsSound more
        → AllOf IsSound (regular_before (regular_kind_pattern [] kind) more)
    regular_kind_sound span type.Nothing more made none sound = sound
    regular_kind_sound span (type.Item is) more made none sound =
        tree_sound is more made (none is (naming.IsItem.item span is)) sound
    regular_kind_sound span (type.Seq all) more made none sound =
        regulars_sound all more made
        (λ item one. none item (naming.IsItem.in_seq span item all one)) sound
    regular_kind_sound span (type.Alt all) more made none sound =
        regulars_sound all more made
        (λ item one. none item (naming.IsItem.in_alt span item all one)) sound
    regular_kind_sound span (type.Repeat is post) more made none sound =
        regular_sound is more made
        (λ item one. none item (naming.IsItem.repeated span item is post one)) sound
    regular_kind_sound span (type.Capture name is) more made none sound =
        regular_sound is more made.1
        (λ item one. none item (naming.IsItem.captured span item name is one)) sound

    regulars_sound : (all : Regulars) (more : List Written) → AreWellMadePatternRegulars all
        → ((item : Tree) → IsItemOfOne item all → NoFault item) → AllOf IsSound more
        → AllOf IsSound (regulars_before (regular_patterns [] all) more)
    regulars_sound NoRegular more made none sound = sound
    regulars_sound (ARegular first rest) more made none sound =
        regular_sound first (regulars_before (regular_patterns [] rest) more) made.0
        (λ item one. none item (naming.IsItemOfOne.first item first rest one))
        (regulars_sound rest more made.1
        (λ item one. none item (naming.IsItemOfOne.later item first rest one)) sound)
