-- What is found of the variables of a pattern are their faults.
use Rattle.std.proofs.Common.{◌≡◌, Bool, true, false, not, ◌||◌, List, [], ◌∷◌, ◌++◌, ◌⊎◌, inl, inr, ◌↔◌, refl}
use Rattle.std.proofs.Common.{sym, subst, bytes_eq, if◌then◌else◌}
use Rattle.std.proofs.lemmas.Bool.{true≢false}
use Rattle.std.proofs.lemmas.Slice.Eq.{bytes_eq-Decides}
use Rattle.cd_syntax.specs.Name.{Name}
use Rattle.cd_syntax.specs.TypeTree.{Tree, tree, Kind, Builtin, Ints, Chars, Atom, Text, Tuple, Arrows, Union, Meet}
use Rattle.cd_syntax.specs.TypeTree.{Sequence, Record, Xml, Named, Where, Variable, Default, Trees, NoTree, ATree}
use Rattle.cd_syntax.specs.TypeTree.{Signs, NoSign, ASign, Fields, NoField, AField, Declarations, NoDeclaration}
use Rattle.cd_syntax.specs.TypeTree.{ADeclaration, Regular, regular, RegularKind, Nothing, Item, Seq, Alt, Repeat}
use Rattle.cd_syntax.specs.TypeTree.{Capture, Regulars, NoRegular, ARegular, Closed, Open, Typed}
use Rattle.cd_syntax.specs.declared.tokens.Span.{Span}
use Rattle.cd_syntax.specs.declared.type_tree.Post.{Post}
use Rattle.cd_model.specs.AllOf.{AnyOf}
use Rattle.cd_resolve.specs.Faults.{Fault}
use Rattle.cd_variables.specs.Occurrences.{Occurrence, variables, takes_away, bound, plain, gathered}
use Rattle.cd_variables.specs.VariableFaults.{IsVariableFault, IsRegularFault, IsOneIn}
use Rattle.cd_variables.specs.VariableFaults.{begins, regular_begins, twice, repeats, misplaced, differs}
use Rattle.cd_variables.specs.VariableFaults.{all_trees, all_regulars, kept_trees, side_trees, present_trees}
use Rattle.cd_variables.specs.VariableFaults.{optional_trees, declared_trees, binding_parts, alternatives, parts_without}
use Rattle.cd_variables.specs.VariableFaults.{regular_parts}
use Rattle.cd_variables.specs.VariableFaults.IsVariableFault.{alternative_differs, stands_again, out_of_place, in_part}
use Rattle.cd_variables.specs.VariableFaults.IsVariableFault.{in_sequence}
use Rattle.cd_variables.specs.VariableFaults.IsRegularFault.{plain_differ, stands_again_in_turn, stands_inside, repeated}
use Rattle.cd_variables.specs.VariableFaults.IsRegularFault.{in_item, in_regular}
use Rattle.cd_variables.specs.FindingMisplaced.{misplaced_in, misplaced_in_trees, misplaced_in_declarations}
use Rattle.cd_variables.specs.FindingVariables.{has_name, names_among, variable_faults, kind_faults, row_faults}
use Rattle.cd_variables.specs.FindingVariables.{sign_faults, field_faults, union_faults, alternative_faults}
use Rattle.cd_variables.specs.FindingVariables.{regular_faults, regular_kind_faults, turn_faults, choice_faults}
use Rattle.cd_variables.specs.FindingVariables.{other_faults, reported_if, reported_again, reported_of_each, differ}
use Rattle.cd_variables.proofs.Adding.{Adds, Again, adds_nothing, adds_both, adds_same, adds_if, adds_each, adds_again}
use Rattle.cd_variables.proofs.Adding.{any_in, one_of_any, one_of_both, one_of_first, one_of_second}
use Rattle.cd_variables.proofs.NamesAmong.{differ_where, where_differ, has_itself}
use Rattle.cd_variables.proofs.RowsFound.{Misplaced, RowIs, PartFault, adds_side, adds_part, row_to, row_from}
use Rattle.cd_variables.proofs.TurnsFound.{TurnFault, TurnIs, turn_to, turn_from}

-- a fault of an alternative after the first, which binds these names, and of a union
abbrev pub AlternativeFault : List Name → Fault → Tree → Type 0
AlternativeFault names f t = IsVariableFault t f
    ⊎ ((differ names (names_among (bound t)) ≡ true) × (differs (begins t) ≡ f))

abbrev pub UnionFault : Trees → Fault → Type 0
UnionFault NoTree f = ⊥
UnionFault (ATree first rest) f = IsVariableFault first f
    ⊎ AnyOf (AlternativeFault (names_among (bound first)) f) (all_trees rest)

abbrev pub OtherFault : List Name → Fault → Regular → Type 0
OtherFault names f r = IsRegularFault r f
    ⊎ ((differ names (names_among (plain r)) ≡ true) × (differs (regular_begins r) ≡ f))

abbrev pub ChoiceFault : Regulars → Fault → Type 0
ChoiceFault NoRegular f = ⊥
ChoiceFault (ARegular first rest) f = IsRegularFault first f
    ⊎ AnyOf (OtherFault (names_among (plain first)) f) (all_regulars rest)

-- what is found in a kind, as it is found
abbrev pub OwnFault : Kind → Fault → Type 0
OwnFault (Union trees) f = UnionFault trees f
OwnFault (Sequence r) f = IsRegularFault r f
OwnFault kind f = ⊥

abbrev pub KindFault : Kind → Fault → Type 0
KindFault kind f = PartFault [] (binding_parts kind) (parts_without kind) f ⊎ OwnFault kind f

abbrev pub RegularKindFault : RegularKind → Fault → Type 0
RegularKindFault Nothing f = ⊥
RegularKindFault (Item t) f = IsVariableFault t f
RegularKindFault (Seq all) f = TurnFault [] [] (all_regulars all) f
RegularKindFault (Alt all) f = ChoiceFault all f
RegularKindFault (Repeat r post) f = IsRegularFault r f ⊎ AnyOf (λ o. repeats o ≡ f) (plain r)
RegularKindFault (Capture name r) f =
    (IsRegularFault r f ⊎ Again (name ∷ []) (plain r) f) ⊎ Again (name ∷ []) (gathered r) f

-- an alternative that is found is a fault
alternatives_to : (span : Span) (first : Tree) (rest : Trees) (f : Fault) → UnionFault (ATree first rest) f
    → IsVariableFault (tree span (Union (ATree first rest))) f
alternatives_to span first rest f (inl is) = in_part span (Union (ATree first rest)) first f (inl refl) is
alternatives_to span first rest f (inr any) =
    by_one (one_of_any (AlternativeFault (names_among (bound first)) f) (all_trees rest) any) where
      by_one : (one : Tree) × (IsOneIn one (all_trees rest) × AlternativeFault (names_among (bound first)) f one)
          → IsVariableFault (tree span (Union (ATree first rest))) f
      by_one (one, (is, inl fault)) = in_part span (Union (ATree first rest)) one f (inr is) fault
      by_one (one, (is, inr (other, same))) = subst (IsVariableFault (tree span (Union (ATree first rest)))) same
          (alternative_differs span first one rest is (differ_where (bound first) (bound one) other))

-- what is found in a row of parts is a fault, and what is found where no variable may stand
row_is : (span : Span) (kind : Kind) (f : Fault) → RowIs [] (binding_parts kind) f → IsVariableFault (tree span kind) f
row_is span kind f (inl any) =
    by_one (one_of_any (λ t. IsVariableFault t f) (binding_parts kind) any) where
      by_one : (one : Tree) × (IsOneIn one (binding_parts kind) × IsVariableFault one f)
          → IsVariableFault (tree span kind) f
      by_one (one, (is, fault)) =
          in_part span kind one f (one_of_first one (binding_parts kind) (alternatives kind) is) fault
row_is span kind f (inr (o, (inl both, same))) = absurd (true≢false (sym both.0))
row_is span kind f (inr (o, (inr again, same))) =
    subst (IsVariableFault (tree span kind)) same (stands_again span kind o again)

out_is : (span : Span) (kind : Kind) (f : Fault) → Misplaced (parts_without kind) f → IsVariableFault (tree span kind) f
out_is span kind f any =
    by_part (one_of_any (λ part. AnyOf (λ o. misplaced o ≡ f) (variables part)) (parts_without kind) any) where
      by_one : (part : Tree) → IsOneIn part (parts_without kind)
          → (o : Occurrence) × (IsOneIn o (variables part) × (misplaced o ≡ f)) → IsVariableFault (tree span kind) f
      by_one part is (o, (among, same)) =
          subst (IsVariableFault (tree span kind)) same (out_of_place span kind part o is among)

      by_part : (part : Tree) × (IsOneIn part (parts_without kind) × AnyOf (λ o. misplaced o ≡ f) (variables part))
          → IsVariableFault (tree span kind) f
      by_part (part, (is, some)) = by_one part is (one_of_any (λ o. misplaced o ≡ f) (variables part) some)

own_is : (span : Span) (kind : Kind) (f : Fault) → OwnFault kind f → IsVariableFault (tree span kind) f
own_is span (Union NoTree) f none = absurd none
own_is span (Union (ATree first rest)) f is = alternatives_to span first rest f is
own_is span (Sequence r) f is = in_sequence span r f is
own_is span (Builtin name) f none = absurd none
own_is span (Ints low high) f none = absurd none
own_is span (Chars low high) f none = absurd none
own_is span (Atom name) f none = absurd none
own_is span (Text text) f none = absurd none
own_is span (Tuple trees) f none = absurd none
own_is span (Arrows trees) f none = absurd none
own_is span (Meet first signs) f none = absurd none
own_is span (Record fields more) f none = absurd none
own_is span (Xml tag attributes content) f none = absurd none
own_is span (Named name) f none = absurd none
own_is span (Where body declarations) f none = absurd none
own_is span (Variable name) f none = absurd none
own_is span (Default name constant) f none = absurd none

kind_to : (span : Span) (kind : Kind) (f : Fault) → KindFault kind f → IsVariableFault (tree span kind) f
kind_to span kind f (inl (inl row)) = row_is span kind f (row_to [] (binding_parts kind) f row)
kind_to span kind f (inl (inr out)) = out_is span kind f out
kind_to span kind f (inr own) = own_is span kind f own

-- and a fault is found
alternative_from : (kind : Kind) (part : Tree) (f : Fault) → IsOneIn part (alternatives kind) → IsVariableFault part f
    → OwnFault kind f
alternative_from (Union NoTree) part f none fault = absurd none
alternative_from (Union (ATree first rest)) part f (inl same) fault = inl (subst (λ t. IsVariableFault t f) (sym same) fault)
alternative_from (Union (ATree first rest)) part f (inr is) fault =
    inr (any_in (AlternativeFault (names_among (bound first)) f) (all_trees rest) part is (inl fault))
alternative_from (Sequence r) part f none fault = absurd none
alternative_from (Builtin name) part f none fault = absurd none
alternative_from (Ints low high) part f none fault = absurd none
alternative_from (Chars low high) part f none fault = absurd none
alternative_from (Atom name) part f none fault = absurd none
alternative_from (Text text) part f none fault = absurd none
alternative_from (Tuple trees) part f none fault = absurd none
alternative_from (Arrows trees) part f none fault = absurd none
alternative_from (Meet first signs) part f none fault = absurd none
alternative_from (Record fields more) part f none fault = absurd none
alternative_from (Xml tag attributes content) part f none fault = absurd none
alternative_from (Named name) part f none fault = absurd none
alternative_from (Where body declarations) part f none fault = absurd none
alternative_from (Variable name) part f none fault = absurd none
alternative_from (Default name constant) part f none fault = absurd none

part_from : (kind : Kind) (part : Tree) (f : Fault)
    → IsOneIn part (binding_parts kind) ⊎ IsOneIn part (alternatives kind) → IsVariableFault part f → KindFault kind f
part_from kind part f (inl is) fault = inl (inl (row_from [] (binding_parts kind) f
    (inl (any_in (λ t. IsVariableFault t f) (binding_parts kind) part is fault))))
part_from kind part f (inr is) fault = inr (alternative_from kind part f is fault)

kind_from : (span : Span) (kind : Kind) (f : Fault) → IsVariableFault (tree span kind) f → KindFault kind f
kind_from _ _ _ (alternative_differs span first other rest is differ) =
    inr (inr (any_in (AlternativeFault (names_among (bound first)) (differs (begins other))) (all_trees rest) other is
    (inr (where_differ (bound first) (bound other) differ, refl))))
kind_from _ _ _ (stands_again span kind o again) =
    inl (inl (row_from [] (binding_parts kind) (twice o) (inr (o, (inr again, refl)))))
kind_from _ _ _ (out_of_place span kind part o is among) =
    inl (inr (any_in (λ part. AnyOf (λ other. misplaced other ≡ misplaced o) (variables part)) (parts_without kind) part
    is (any_in (λ other. misplaced other ≡ misplaced o) (variables part) o among refl)))
kind_from _ _ _ (in_part span kind part fault is inside) =
    part_from kind part fault (one_of_both part (binding_parts kind) (alternatives kind) is) inside
kind_from _ _ _ (in_sequence span r fault is) = inr is

-- the same of expressions
choice_to : (span : Span) (first : Regular) (rest : Regulars) (f : Fault) → ChoiceFault (ARegular first rest) f
    → IsRegularFault (regular span (Alt (ARegular first rest))) f
choice_to span first rest f (inl is) = in_regular span (Alt (ARegular first rest)) first f (inl refl) is
choice_to span first rest f (inr any) =
    by_one (one_of_any (OtherFault (names_among (plain first)) f) (all_regulars rest) any) where
      by_one : (one : Regular) × (IsOneIn one (all_regulars rest) × OtherFault (names_among (plain first)) f one)
          → IsRegularFault (regular span (Alt (ARegular first rest))) f
      by_one (one, (is, inl fault)) = in_regular span (Alt (ARegular first rest)) one f (inr is) fault
      by_one (one, (is, inr (other, same))) = subst (IsRegularFault (regular span (Alt (ARegular first rest)))) same
          (plain_differ span first one rest is (differ_where (plain first) (plain one) other))

turn_is : (span : Span) (all : Regulars) (f : Fault) → TurnIs [] [] (all_regulars all) f
    → IsRegularFault (regular span (Seq all)) f
turn_is span all f (inl any) = by_one (one_of_any (λ r. IsRegularFault r f) (all_regulars all) any) where
  by_one : (one : Regular) × (IsOneIn one (all_regulars all) × IsRegularFault one f)
      → IsRegularFault (regular span (Seq all)) f
  by_one (one, (is, fault)) = in_regular span (Seq all) one f is fault
turn_is span all f (inr (o, (inl both, same))) = absurd (true≢false (sym both.0))
turn_is span all f (inr (o, (inr (inl both), same))) = absurd (true≢false (sym both.0))
turn_is span all f (inr (o, (inr (inr again), same))) =
    subst (IsRegularFault (regular span (Seq all))) same (stands_again_in_turn span all o again)

repeat_is : (span : Span) (r : Regular) (post : Post) (f : Fault) → AnyOf (λ o. repeats o ≡ f) (plain r)
    → IsRegularFault (regular span (Repeat r post)) f
repeat_is span r post f any = by_one (one_of_any (λ o. repeats o ≡ f) (plain r) any) where
  by_one : (o : Occurrence) × (IsOneIn o (plain r) × (repeats o ≡ f)) → IsRegularFault (regular span (Repeat r post)) f
  by_one (o, (among, same)) =
      subst (IsRegularFault (regular span (Repeat r post))) same (repeated span r post o among)

same_name : (name other : Name) → has_name (name ∷ []) other ≡ true → other ≡ name
same_name name other is = by_test (bytes_eq name other) refl is where
  by_test : (b : Bool) → bytes_eq name other ≡ b → (b || false) ≡ true → other ≡ name
  by_test true same is = sym ((bytes_eq-Decides name other).0 same)
  by_test false same is = absurd (true≢false (sym is))

inside_is : (span : Span) (name : Name) (r : Regular) (f : Fault) (some : List Occurrence)
    → ((o : Occurrence) → IsOneIn o some → IsOneIn o (plain r ++ gathered r)) → Again (name ∷ []) some f
    → IsRegularFault (regular span (Capture name r)) f
inside_is span name r f some within any =
    by_one (one_of_any (λ o. (has_name (name ∷ []) o.name ≡ true) × (twice o ≡ f)) some any) where
      by_one : (o : Occurrence) × (IsOneIn o some × ((has_name (name ∷ []) o.name ≡ true) × (twice o ≡ f)))
          → IsRegularFault (regular span (Capture name r)) f
      by_one (o, (among, (is, same))) = subst (IsRegularFault (regular span (Capture name r))) same
          (stands_inside span name r o (within o among) (same_name name o.name is))

regular_to : (span : Span) (kind : RegularKind) (f : Fault) → RegularKindFault kind f
    → IsRegularFault (regular span kind) f
regular_to span Nothing f none = absurd none
regular_to span (Item t) f is = in_item span t f is
regular_to span (Seq all) f is = turn_is span all f (turn_to [] [] (all_regulars all) f is)
regular_to span (Alt NoRegular) f none = absurd none
regular_to span (Alt (ARegular first rest)) f is = choice_to span first rest f is
regular_to span (Repeat r post) f (inl is) = in_regular span (Repeat r post) r f (inl refl) is
regular_to span (Repeat r post) f (inr is) = repeat_is span r post f is
regular_to span (Capture name r) f (inl (inl is)) = in_regular span (Capture name r) r f (inl refl) is
regular_to span (Capture name r) f (inl (inr again)) = inside_is span name r f (plain r)
    (λ o. one_of_first o (plain r) (gathered r)) again
regular_to span (Capture name r) f (inr again) = inside_is span name r f (gathered r)
    (λ o. one_of_second o (plain r) (gathered r)) again

inside_from : (name : Name) (r : Regular) (o : Occurrence) → IsOneIn o (plain r) ⊎ IsOneIn o (gathered r)
    → o.name ≡ name → RegularKindFault (Capture name r) (twice o)
inside_from name r o (inl among) same = inl (inr (any_in
    (λ other. (has_name (name ∷ []) other.name ≡ true) × (twice other ≡ twice o)) (plain r) o among
    (subst (λ that. has_name (name ∷ []) that ≡ true) (sym same) (has_itself name []), refl)))
inside_from name r o (inr among) same = inr (any_in
    (λ other. (has_name (name ∷ []) other.name ≡ true) × (twice other ≡ twice o)) (gathered r) o among
    (subst (λ that. has_name (name ∷ []) that ≡ true) (sym same) (has_itself name []), refl))

inner_from : (kind : RegularKind) (part : Regular) (f : Fault) → IsOneIn part (regular_parts kind)
    → IsRegularFault part f → RegularKindFault kind f
inner_from Nothing part f none fault = absurd none
inner_from (Item t) part f none fault = absurd none
inner_from (Seq all) part f is fault = turn_from [] [] (all_regulars all) f
    (inl (any_in (λ r. IsRegularFault r f) (all_regulars all) part is fault))
inner_from (Alt NoRegular) part f none fault = absurd none
inner_from (Alt (ARegular first rest)) part f (inl same) fault =
    inl (subst (λ r. IsRegularFault r f) (sym same) fault)
inner_from (Alt (ARegular first rest)) part f (inr is) fault =
    inr (any_in (OtherFault (names_among (plain first)) f) (all_regulars rest) part is (inl fault))
inner_from (Repeat r post) part f (inl same) fault = inl (subst (λ r. IsRegularFault r f) (sym same) fault)
inner_from (Repeat r post) part f (inr none) fault = absurd none
inner_from (Capture name r) part f (inl same) fault = inl (inl (subst (λ r. IsRegularFault r f) (sym same) fault))
inner_from (Capture name r) part f (inr none) fault = absurd none

regular_from : (span : Span) (kind : RegularKind) (f : Fault) → IsRegularFault (regular span kind) f
    → RegularKindFault kind f
regular_from _ _ _ (plain_differ span first other rest is differ) =
    inr (any_in (OtherFault (names_among (plain first)) (differs (regular_begins other))) (all_regulars rest) other is
    (inr (where_differ (plain first) (plain other) differ, refl)))
regular_from _ _ _ (stands_again_in_turn span all o again) =
    turn_from [] [] (all_regulars all) (twice o) (inr (o, (inr (inr again), refl)))
regular_from _ _ _ (stands_inside span name r o among same) =
    inside_from name r o (one_of_both o (plain r) (gathered r) among) same
regular_from _ _ _ (repeated span r post o among) =
    inr (any_in (λ other. repeats other ≡ repeats o) (plain r) o among refl)
regular_from _ _ _ (in_item span t fault is) = is
regular_from _ _ _ (in_regular span kind part fault is inside) = inner_from kind part fault is inside

-- steps that find parts alone, and what is a kind's own alone
adds_parts_alone : (parts side : List Tree) (step : List Fault → List Fault) → Adds (PartFault [] parts side) step
    → Adds (λ f. PartFault [] parts side f ⊎ ⊥) step
adds_parts_alone parts side step adds = adds_same (PartFault [] parts side) (λ f. PartFault [] parts side f ⊎ ⊥) step
    (λ f. (inl, from f)) adds where
      from : (f : Fault) → PartFault [] parts side f ⊎ ⊥ → PartFault [] parts side f
      from f (inl is) = is
      from f (inr none) = absurd none

adds_own_alone : (Own : Fault → Type 0) (step : List Fault → List Fault) → Adds Own step
    → Adds (λ f. PartFault [] [] [] f ⊎ Own f) step
adds_own_alone Own step adds = adds_same Own (λ f. PartFault [] [] [] f ⊎ Own f) step
    (λ f. (inr, from f)) adds where
      from : (f : Fault) → PartFault [] [] [] f ⊎ Own f → Own f
      from f (inl (inl none)) = absurd none
      from f (inl (inr none)) = absurd none
      from f (inr is) = is

adds_no_part : (seen : List Name) → Adds (PartFault seen [] []) (λ s. s)
adds_no_part seen = adds_same (λ f. ⊥) (PartFault seen [] []) (λ s. s) (λ f. (λ none. absurd none, from f)) adds_nothing
  where
    from : (f : Fault) → PartFault seen [] [] f → ⊥
    from f (inl none) = none
    from f (inr none) = none

adds_no_fault : Adds (λ f. PartFault [] [] [] f ⊎ ⊥) (λ s. s)
adds_no_fault = adds_parts_alone [] [] (λ s. s) (adds_no_part [])

misplaced_in_all : (trees : Trees) → Adds (PartFault [] [] (all_trees trees)) (misplaced_in_trees trees)
misplaced_in_all NoTree = adds_no_part []
misplaced_in_all (ATree first rest) =
    adds_side first [] [] (all_trees rest) (misplaced_in_trees rest) (misplaced_in_all rest)

misplaced_in_declared : (declarations : Declarations)
    → Adds (PartFault [] [] (declared_trees declarations)) (misplaced_in_declarations declarations)
misplaced_in_declared NoDeclaration = adds_no_part []
misplaced_in_declared (ADeclaration name at t rest) =
    adds_side t [] [] (declared_trees rest) (misplaced_in_declarations rest) (misplaced_in_declared rest)

-- a tree that binds or doesn't, by a test
kept_or_side : (b : Bool) (t : Tree) (seen : List Name) (kept side : List Tree) (step : List Name → List Fault → List Fault)
    → Adds (IsVariableFault t) (variable_faults t)
    → Adds (PartFault seen kept side) (step seen)
    → Adds (PartFault (seen ++ names_among (bound t)) kept side) (step (seen ++ names_among (bound t)))
    → Adds (PartFault seen (if b then kept else t ∷ kept) (if b then t ∷ side else side))
    (λ s. if b then step seen (misplaced_in t s)
    else step (seen ++ names_among (bound t)) (reported_again seen (bound t) (variable_faults t s)))
kept_or_side true t seen kept side step one on_side on_kept = adds_side t seen kept side (step seen) on_side
kept_or_side false t seen kept side step one on_side on_kept =
    adds_part t seen kept side (step (seen ++ names_among (bound t))) one on_kept

first_or_side : (b : Bool) (t : Tree) (kept side : List Tree) (step : List Name → List Fault → List Fault)
    → Adds (IsVariableFault t) (variable_faults t)
    → Adds (PartFault [] kept side) (step [])
    → Adds (PartFault (names_among (bound t)) kept side) (step (names_among (bound t)))
    → Adds (PartFault [] ((if b then [] else t ∷ []) ++ kept) ((if b then t ∷ [] else []) ++ side))
    (λ s. if b then step [] (misplaced_in t s)
    else step (names_among (bound t)) (reported_again [] (bound t) (variable_faults t s)))
first_or_side true t kept side step one on_side on_kept = adds_side t [] kept side (step []) on_side
first_or_side false t kept side step one on_side on_kept = adds_part t [] kept side (step (names_among (bound t))) one on_kept

-- one alternative more
adds_alternative : (names : List Name) (t : Tree) (rest : List Tree) (step : List Fault → List Fault)
    → Adds (IsVariableFault t) (variable_faults t) → Adds (λ f. AnyOf (AlternativeFault names f) rest) step
    → Adds (λ f. AnyOf (AlternativeFault names f) (t ∷ rest))
    (λ s. step (reported_if (differ names (names_among (bound t))) (differs (begins t)) (variable_faults t s)))
adds_alternative names t rest step one on =
    adds_both (λ f. AlternativeFault names f t) (λ f. AnyOf (AlternativeFault names f) rest)
    (λ s. reported_if (differ names (names_among (bound t))) (differs (begins t)) (variable_faults t s)) step
    (adds_both (IsVariableFault t)
    (λ f. (differ names (names_among (bound t)) ≡ true) × (differs (begins t) ≡ f)) (variable_faults t)
    (reported_if (differ names (names_among (bound t))) (differs (begins t))) one
    (adds_if (differ names (names_among (bound t))) (differs (begins t)))) on

adds_other : (names : List Name) (r : Regular) (rest : List Regular) (step : List Fault → List Fault)
    → Adds (IsRegularFault r) (regular_faults r) → Adds (λ f. AnyOf (OtherFault names f) rest) step
    → Adds (λ f. AnyOf (OtherFault names f) (r ∷ rest))
    (λ s. step (reported_if (differ names (names_among (plain r))) (differs (regular_begins r)) (regular_faults r s)))
adds_other names r rest step one on =
    adds_both (λ f. OtherFault names f r) (λ f. AnyOf (OtherFault names f) rest)
    (λ s. reported_if (differ names (names_among (plain r))) (differs (regular_begins r)) (regular_faults r s)) step
    (adds_both (IsRegularFault r)
    (λ f. (differ names (names_among (plain r)) ≡ true) × (differs (regular_begins r) ≡ f)) (regular_faults r)
    (reported_if (differ names (names_among (plain r))) (differs (regular_begins r))) one
    (adds_if (differ names (names_among (plain r))) (differs (regular_begins r)))) on

-- the next part that is taken in turn
adds_turn : (seen plain_ones : List Name) (r : Regular) (rest : List Regular) (step : List Fault → List Fault)
    → Adds (IsRegularFault r) (regular_faults r)
    → Adds (TurnFault (seen ++ names_among (plain r) ++ names_among (gathered r)) (plain_ones ++ names_among (plain r)) rest) step
    → Adds (TurnFault seen plain_ones (r ∷ rest))
    (λ s. step (reported_again plain_ones (gathered r) (reported_again seen (plain r) (regular_faults r s))))
adds_turn seen plain_ones r rest step one on =
    adds_both (λ f. (IsRegularFault r f ⊎ Again seen (plain r) f) ⊎ Again plain_ones (gathered r) f)
    (TurnFault (seen ++ names_among (plain r) ++ names_among (gathered r)) (plain_ones ++ names_among (plain r)) rest)
    (λ s. reported_again plain_ones (gathered r) (reported_again seen (plain r) (regular_faults r s))) step
    (adds_both (λ f. IsRegularFault r f ⊎ Again seen (plain r) f) (Again plain_ones (gathered r))
    (λ s. reported_again seen (plain r) (regular_faults r s)) (reported_again plain_ones (gathered r))
    (adds_both (IsRegularFault r) (Again seen (plain r)) (regular_faults r) (reported_again seen (plain r)) one
    (adds_again seen (plain r))) (adds_again plain_ones (gathered r))) on

mutual
  adds_tree : (t : Tree) → Adds (IsVariableFault t) (variable_faults t)
  adds_tree (tree span kind) = adds_same (KindFault kind) (IsVariableFault (tree span kind)) (kind_faults kind)
      (λ f. (kind_to span kind f, kind_from span kind f)) (adds_kind kind)

  adds_kind : (kind : Kind) → Adds (KindFault kind) (kind_faults kind)
  adds_kind (Tuple trees) = adds_parts_alone (all_trees trees) [] (row_faults [] trees) (adds_row [] trees)
  adds_kind (Arrows trees) = adds_parts_alone [] (all_trees trees) (misplaced_in_trees trees) (misplaced_in_all trees)
  adds_kind (Union trees) = adds_own_alone (UnionFault trees) (union_faults trees) (adds_union trees)
  adds_kind (Meet first signs) = adds_parts_alone (binding_parts (Meet first signs)) (parts_without (Meet first signs))
      (kind_faults (Meet first signs)) (first_or_side (takes_away signs) first (kept_trees signs) (side_trees signs)
      (λ seen. sign_faults seen signs) (adds_tree first) (adds_signs [] signs)
      (adds_signs (names_among (bound first)) signs))
  adds_kind (Sequence r) = adds_own_alone (IsRegularFault r) (regular_faults r) (adds_regular r)
  adds_kind (Record fields Closed) = adds_parts_alone (present_trees fields) (optional_trees fields)
      (field_faults [] fields) (adds_fields [] fields)
  adds_kind (Record fields Open) = adds_parts_alone (present_trees fields) (optional_trees fields)
      (field_faults [] fields) (adds_fields [] fields)
  adds_kind (Record fields (Typed t)) = adds_parts_alone (present_trees fields) (t ∷ optional_trees fields)
      (kind_faults (Record fields (Typed t)))
      (adds_side t [] (present_trees fields) (optional_trees fields) (field_faults [] fields) (adds_fields [] fields))
  adds_kind (Xml tag attributes content) = adds_parts_alone (tag ∷ attributes ∷ content ∷ []) []
      (kind_faults (Xml tag attributes content))
      (adds_part tag [] (attributes ∷ content ∷ []) []
      (λ s. reported_again (names_among (bound tag) ++ names_among (bound attributes)) (bound content)
      (variable_faults content (reported_again (names_among (bound tag)) (bound attributes) (variable_faults attributes s))))
      (adds_tree tag)
      (adds_part attributes (names_among (bound tag)) (content ∷ []) []
      (λ s. reported_again (names_among (bound tag) ++ names_among (bound attributes)) (bound content)
      (variable_faults content s)) (adds_tree attributes)
      (adds_part content (names_among (bound tag) ++ names_among (bound attributes)) [] [] (λ s. s) (adds_tree content)
      (adds_no_part (names_among (bound tag) ++ names_among (bound attributes) ++ names_among (bound content))))))
  adds_kind (Where body declarations) = adds_parts_alone [] (body ∷ declared_trees declarations)
      (kind_faults (Where body declarations))
      (adds_side body [] [] (declared_trees declarations) (misplaced_in_declarations declarations)
      (misplaced_in_declared declarations))
  adds_kind (Builtin name) = adds_no_fault
  adds_kind (Ints low high) = adds_no_fault
  adds_kind (Chars low high) = adds_no_fault
  adds_kind (Atom name) = adds_no_fault
  adds_kind (Text text) = adds_no_fault
  adds_kind (Named name) = adds_no_fault
  adds_kind (Variable name) = adds_no_fault
  adds_kind (Default name constant) = adds_no_fault

  adds_row : (seen : List Name) (trees : Trees) → Adds (PartFault seen (all_trees trees) []) (row_faults seen trees)
  adds_row seen NoTree = adds_no_part seen
  adds_row seen (ATree t rest) = adds_part t seen (all_trees rest) []
      (row_faults (seen ++ names_among (bound t)) rest) (adds_tree t) (adds_row (seen ++ names_among (bound t)) rest)

  adds_signs : (seen : List Name) (signs : Signs)
      → Adds (PartFault seen (kept_trees signs) (side_trees signs)) (sign_faults seen signs)
  adds_signs seen NoSign = adds_no_part seen
  adds_signs seen (ASign kept t rest) = kept_or_side (not kept || takes_away rest) t seen (kept_trees rest)
      (side_trees rest) (λ seen. sign_faults seen rest) (adds_tree t) (adds_signs seen rest)
      (adds_signs (seen ++ names_among (bound t)) rest)

  adds_fields : (seen : List Name) (fields : Fields)
      → Adds (PartFault seen (present_trees fields) (optional_trees fields)) (field_faults seen fields)
  adds_fields seen NoField = adds_no_part seen
  adds_fields seen (AField label at optional t rest) = kept_or_side optional t seen (present_trees rest)
      (optional_trees rest) (λ seen. field_faults seen rest) (adds_tree t) (adds_fields seen rest)
      (adds_fields (seen ++ names_among (bound t)) rest)

  adds_union : (trees : Trees) → Adds (UnionFault trees) (union_faults trees)
  adds_union NoTree = adds_nothing
  adds_union (ATree first rest) = adds_both (IsVariableFault first)
      (λ f. AnyOf (AlternativeFault (names_among (bound first)) f) (all_trees rest))
      (variable_faults first) (alternative_faults (names_among (bound first)) rest) (adds_tree first)
      (adds_alternatives (names_among (bound first)) rest)

  adds_alternatives : (names : List Name) (trees : Trees)
      → Adds (λ f. AnyOf (AlternativeFault names f) (all_trees trees)) (alternative_faults names trees)
  adds_alternatives names NoTree = adds_nothing
  adds_alternatives names (ATree t rest) = adds_alternative names t (all_trees rest) (alternative_faults names rest)
      (adds_tree t) (adds_alternatives names rest)

  adds_regular : (r : Regular) → Adds (IsRegularFault r) (regular_faults r)
  adds_regular (regular span kind) = adds_same (RegularKindFault kind) (IsRegularFault (regular span kind))
      (regular_kind_faults kind) (λ f. (regular_to span kind f, regular_from span kind f)) (adds_regular_kind kind)

  adds_regular_kind : (kind : RegularKind) → Adds (RegularKindFault kind) (regular_kind_faults kind)
  adds_regular_kind Nothing = adds_nothing
  adds_regular_kind (Item t) = adds_tree t
  adds_regular_kind (Seq all) = adds_turns [] [] all
  adds_regular_kind (Alt all) = adds_choice all
  adds_regular_kind (Repeat r post) = adds_both (IsRegularFault r) (λ f. AnyOf (λ o. repeats o ≡ f) (plain r))
      (regular_faults r) (reported_of_each repeats (plain r)) (adds_regular r) (adds_each repeats (plain r))
  adds_regular_kind (Capture name r) = adds_both (λ f. IsRegularFault r f ⊎ Again (name ∷ []) (plain r) f)
      (Again (name ∷ []) (gathered r)) (λ s. reported_again (name ∷ []) (plain r) (regular_faults r s))
      (reported_again (name ∷ []) (gathered r))
      (adds_both (IsRegularFault r) (Again (name ∷ []) (plain r)) (regular_faults r) (reported_again (name ∷ []) (plain r))
      (adds_regular r) (adds_again (name ∷ []) (plain r))) (adds_again (name ∷ []) (gathered r))

  adds_turns : (seen plain_ones : List Name) (all : Regulars)
      → Adds (TurnFault seen plain_ones (all_regulars all)) (turn_faults seen plain_ones all)
  adds_turns seen plain_ones NoRegular = adds_nothing
  adds_turns seen plain_ones (ARegular r rest) = adds_turn seen plain_ones r (all_regulars rest)
      (turn_faults (seen ++ names_among (plain r) ++ names_among (gathered r)) (plain_ones ++ names_among (plain r)) rest)
      (adds_regular r)
      (adds_turns (seen ++ names_among (plain r) ++ names_among (gathered r)) (plain_ones ++ names_among (plain r)) rest)

  adds_choice : (all : Regulars) → Adds (ChoiceFault all) (choice_faults all)
  adds_choice NoRegular = adds_nothing
  adds_choice (ARegular first rest) = adds_both (IsRegularFault first)
      (λ f. AnyOf (OtherFault (names_among (plain first)) f) (all_regulars rest))
      (regular_faults first) (other_faults (names_among (plain first)) rest) (adds_regular first)
      (adds_others (names_among (plain first)) rest)

  adds_others : (names : List Name) (all : Regulars)
      → Adds (λ f. AnyOf (OtherFault names f) (all_regulars all)) (other_faults names all)
  adds_others names NoRegular = adds_nothing
  adds_others names (ARegular r rest) = adds_other names r (all_regulars rest) (other_faults names rest)
      (adds_regular r) (adds_others names rest)

-- what is found of the variables of a pattern, after these, is one of these or a fault
pub variables_found : (t : Tree) (s : List Fault) (f : Fault)
    → IsOneIn f (variable_faults t s) ↔ (IsOneIn f s ⊎ IsVariableFault t f)
variables_found t s f = adds_tree t s f
