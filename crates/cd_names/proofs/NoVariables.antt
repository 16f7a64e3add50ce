-- A tree in which no variable stands binds none.
use Rattle.std.proofs.Common.{◌≡◌, Bool, true, false, not, ◌||◌, List, [], ◌∷◌, ◌++◌, refl}
use Rattle.std.proofs.Common.{ap₂, if◌then◌else◌}
use Rattle.std.proofs.lemmas.Bool.{true≢false, or_parts, or_from}
use Rattle.cd_syntax.specs.TypeTree.{Tree, tree, Kind, Tuple}
use Rattle.cd_syntax.specs.TypeTree.{Arrows, Union, Meet, Sequence, Record, Xml, Where}
use Rattle.cd_syntax.specs.TypeTree.{Variable, Default, Trees, NoTree, ATree, Signs, NoSign, ASign}
use Rattle.cd_syntax.specs.TypeTree.{Fields, NoField, AField, Declarations, NoDeclaration}
use Rattle.cd_syntax.specs.TypeTree.{ADeclaration, Regular, regular, RegularKind, Nothing, Item}
use Rattle.cd_syntax.specs.TypeTree.{Seq, Alt, Repeat, Capture, Regulars, NoRegular, ARegular}
use Rattle.cd_syntax.specs.TypeTree.{Rest, Closed, Open, Typed}
use Rattle.cd_matching.specs.WrittenPattern.{has_variable, kind_has, trees_have, signs_have}
use Rattle.cd_matching.specs.WrittenPattern.{fields_have, rest_has, declarations_have, regular_has}
use Rattle.cd_matching.specs.WrittenPattern.{regular_kind_has, regulars_have}
use Rattle.cd_variables.specs.Occurrences.{Occurrence, variables, variables_in, variables_of_all}
use Rattle.cd_variables.specs.Occurrences.{variables_of_signs, variables_of_fields}
use Rattle.cd_variables.specs.Occurrences.{variables_of_rest}
use Rattle.cd_variables.specs.Occurrences.{variables_of_declarations, variables_of_regular}
use Rattle.cd_variables.specs.Occurrences.{variables_of_regular_kind, variables_of_regulars}
use Rattle.cd_variables.specs.Occurrences.{takes_away, bound, bound_in, bound_by_all, bound_by_signs}
use Rattle.cd_variables.specs.Occurrences.{bound_by_fields, plain, plain_in, plain_of_all, gathered}
use Rattle.cd_variables.specs.Occurrences.{gathered_in, gathered_of_all}

none_in_both : (ones others : List Occurrence) → ones ++ others ≡ []
    → (ones ≡ []) × (others ≡ [])
none_in_both [] others h = (refl, h)
none_in_both (one ∷ ones) others h = absurd cc

both_empty : (ones others : List Occurrence) → ones ≡ [] → others ≡ [] → ones ++ others ≡ []
both_empty ones others one other = ap₂ (λ (xs ys : List Occurrence). xs ++ ys) one other

unless : (b : Bool) (all : List Occurrence) → all ≡ [] → (if b then [] else all) ≡ []
unless true all h = refl
unless false all h = h

mutual
  pub no_variable : (t : Tree) → variables t ≡ [] → has_variable t ≡ false
  no_variable (tree span kind) h = none_in_kind span.from kind h

  none_in_kind : (at : _) (kind : Kind) → variables_in at kind ≡ [] → kind_has kind ≡ false
  none_in_kind at (Tuple trees) h = none_in_trees trees h
  none_in_kind at (Arrows trees) h = none_in_trees trees h
  none_in_kind at (Union trees) h = none_in_trees trees h
  none_in_kind at (Meet first signs) h =
      let parts = none_in_both (variables first) (variables_of_signs signs) h in
      or_from (has_variable first) (signs_have signs) (no_variable first parts.0)
      (none_in_signs signs parts.1)
  none_in_kind at (Sequence r) h = none_in_regular r h
  none_in_kind at (Record fields rest) h =
      let parts = none_in_both (variables_of_fields fields) (variables_of_rest rest) h in
      or_from (fields_have fields) (rest_has rest) (none_in_fields fields parts.0)
      (none_in_rest rest parts.1)
  none_in_kind at (Xml tag attributes content) h =
      let parts = none_in_both (variables tag ++ variables attributes) (variables content) h in
      let before = none_in_both (variables tag) (variables attributes) parts.0 in
      or_from (has_variable tag || has_variable attributes) (has_variable content)
      (or_from (has_variable tag) (has_variable attributes) (no_variable tag before.0)
      (no_variable attributes before.1)) (no_variable content parts.1)
  none_in_kind at (Where body declarations) h =
      let parts = none_in_both (variables body) (variables_of_declarations declarations) h in
      or_from (has_variable body) (declarations_have declarations) (no_variable body parts.0)
      (none_in_declarations declarations parts.1)
  none_in_kind at (Variable name) h = absurd cc
  none_in_kind at (Default name constant) h = absurd cc
  none_in_kind at _ h = refl

  none_in_trees : (trees : Trees) → variables_of_all trees ≡ [] → trees_have trees ≡ false
  none_in_trees NoTree h = refl
  none_in_trees (ATree first rest) h =
      let parts = none_in_both (variables first) (variables_of_all rest) h in
      or_from (has_variable first) (trees_have rest) (no_variable first parts.0)
      (none_in_trees rest parts.1)

  none_in_signs : (signs : Signs) → variables_of_signs signs ≡ [] → signs_have signs ≡ false
  none_in_signs NoSign h = refl
  none_in_signs (ASign kept t rest) h =
      let parts = none_in_both (variables t) (variables_of_signs rest) h in
      or_from (has_variable t) (signs_have rest) (no_variable t parts.0)
      (none_in_signs rest parts.1)

  none_in_fields : (fields : Fields) → variables_of_fields fields ≡ [] → fields_have fields ≡ false
  none_in_fields NoField h = refl
  none_in_fields (AField label at optional t rest) h =
      let parts = none_in_both (variables t) (variables_of_fields rest) h in
      or_from (has_variable t) (fields_have rest) (no_variable t parts.0)
      (none_in_fields rest parts.1)

  none_in_rest : (rest : Rest) → variables_of_rest rest ≡ [] → rest_has rest ≡ false
  none_in_rest Closed h = refl
  none_in_rest Open h = refl
  none_in_rest (Typed t) h = no_variable t h

  none_in_declarations : (all : Declarations) → variables_of_declarations all ≡ []
      → declarations_have all ≡ false
  none_in_declarations NoDeclaration h = refl
  none_in_declarations (ADeclaration name at t rest) h =
      let parts = none_in_both (variables t) (variables_of_declarations rest) h in
      or_from (has_variable t) (declarations_have rest) (no_variable t parts.0)
      (none_in_declarations rest parts.1)

  none_in_regular : (r : Regular) → variables_of_regular r ≡ [] → regular_has r ≡ false
  none_in_regular (regular span kind) h = none_in_regular_kind span.from kind h

  none_in_regular_kind : (at : _) (kind : RegularKind) → variables_of_regular_kind at kind ≡ []
      → regular_kind_has kind ≡ false
  none_in_regular_kind at Nothing h = refl
  none_in_regular_kind at (Item t) h = no_variable t h
  none_in_regular_kind at (Seq all) h = none_in_regulars all h
  none_in_regular_kind at (Alt all) h = none_in_regulars all h
  none_in_regular_kind at (Repeat r post) h = none_in_regular r h
  none_in_regular_kind at (Capture name r) h = absurd cc

  none_in_regulars : (all : Regulars) → variables_of_regulars all ≡ [] → regulars_have all ≡ false
  none_in_regulars NoRegular h = refl
  none_in_regulars (ARegular first rest) h =
      let parts = none_in_both (variables_of_regular first) (variables_of_regulars rest) h in
      or_from (regular_has first) (regulars_have rest) (none_in_regular first parts.0)
      (none_in_regulars rest parts.1)

mutual
  binds_none : (t : Tree) → has_variable t ≡ false → bound t ≡ []
  binds_none (tree span kind) h = kind_binds_none span.from kind h

  pub kind_binds_none : (at : _) (kind : Kind) → kind_has kind ≡ false → bound_in at kind ≡ []
  kind_binds_none at (Tuple trees) h = trees_bind_none trees h
  kind_binds_none at (Union trees) h = trees_bind_none trees h
  kind_binds_none at (Meet first signs) h =
      let parts = or_parts (has_variable first) (signs_have signs) h in
      both_empty (if takes_away signs then [] else bound first) (bound_by_signs signs)
      (unless (takes_away signs) (bound first) (binds_none first parts.0))
      (signs_bind_none signs parts.1)
  kind_binds_none at (Sequence r) h = both_empty (plain r) (gathered r) (none_plain r h)
      (none_gathered r h)
  kind_binds_none at (Record fields rest) h =
      fields_bind_none fields (or_parts (fields_have fields) (rest_has rest) h).0
  kind_binds_none at (Xml tag attributes content) h =
      let parts = or_parts (has_variable tag || has_variable attributes) (has_variable content) h in
      let before = or_parts (has_variable tag) (has_variable attributes) parts.0 in
      both_empty (bound tag ++ bound attributes) (bound content)
      (both_empty (bound tag) (bound attributes) (binds_none tag before.0)
      (binds_none attributes before.1)) (binds_none content parts.1)
  kind_binds_none at (Variable name) h = absurd (true≢false h)
  kind_binds_none at (Default name constant) h = absurd (true≢false h)
  kind_binds_none at _ h = refl

  trees_bind_none : (trees : Trees) → trees_have trees ≡ false → bound_by_all trees ≡ []
  trees_bind_none NoTree h = refl
  trees_bind_none (ATree first rest) h =
      let parts = or_parts (has_variable first) (trees_have rest) h in
      both_empty (bound first) (bound_by_all rest) (binds_none first parts.0)
      (trees_bind_none rest parts.1)

  signs_bind_none : (signs : Signs) → signs_have signs ≡ false → bound_by_signs signs ≡ []
  signs_bind_none NoSign h = refl
  signs_bind_none (ASign kept t rest) h =
      let parts = or_parts (has_variable t) (signs_have rest) h in
      both_empty (if not kept || takes_away rest then [] else bound t) (bound_by_signs rest)
      (unless (not kept || takes_away rest) (bound t) (binds_none t parts.0))
      (signs_bind_none rest parts.1)

  fields_bind_none : (fields : Fields) → fields_have fields ≡ false → bound_by_fields fields ≡ []
  fields_bind_none NoField h = refl
  fields_bind_none (AField label at optional t rest) h =
      let parts = or_parts (has_variable t) (fields_have rest) h in
      both_empty (if optional then [] else bound t) (bound_by_fields rest)
      (unless optional (bound t) (binds_none t parts.0)) (fields_bind_none rest parts.1)

  none_plain : (r : Regular) → regular_has r ≡ false → plain r ≡ []
  none_plain (regular span kind) h = kind_none_plain kind h

  kind_none_plain : (kind : RegularKind) → regular_kind_has kind ≡ false → plain_in kind ≡ []
  kind_none_plain Nothing h = refl
  kind_none_plain (Item t) h = binds_none t h
  kind_none_plain (Seq all) h = all_none_plain all h
  kind_none_plain (Alt all) h = all_none_plain all h
  kind_none_plain (Repeat r post) h = none_plain r h
  kind_none_plain (Capture name r) h = absurd (true≢false h)

  all_none_plain : (all : Regulars) → regulars_have all ≡ false → plain_of_all all ≡ []
  all_none_plain NoRegular h = refl
  all_none_plain (ARegular first rest) h =
      let parts = or_parts (regular_has first) (regulars_have rest) h in
      both_empty (plain first) (plain_of_all rest) (none_plain first parts.0)
      (all_none_plain rest parts.1)

  none_gathered : (r : Regular) → regular_has r ≡ false → gathered r ≡ []
  none_gathered (regular span kind) h = kind_none_gathered span.from kind h

  kind_none_gathered : (at : _) (kind : RegularKind) → regular_kind_has kind ≡ false
      → gathered_in at kind ≡ []
  kind_none_gathered at Nothing h = refl
  kind_none_gathered at (Item t) h = refl
  kind_none_gathered at (Seq all) h = all_none_gathered all h
  kind_none_gathered at (Alt all) h = all_none_gathered all h
  kind_none_gathered at (Repeat r post) h = none_gathered r h
  kind_none_gathered at (Capture name r) h = absurd (true≢false h)

  all_none_gathered : (all : Regulars) → regulars_have all ≡ false → gathered_of_all all ≡ []
  all_none_gathered NoRegular h = refl
  all_none_gathered (ARegular first rest) h =
      let parts = or_parts (regular_has first) (regulars_have rest) h in
      both_empty (gathered first) (gathered_of_all rest) (none_gathered first parts.0)
      (all_none_gathered rest parts.1)
