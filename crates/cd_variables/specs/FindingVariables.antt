-- The faults of the variables of a pattern, in the order in which they are found: after these,
-- those of one thing more.
use Rattle.std.specs.Prelude.{◌≡◌, ℕ, ◌+◌, Bool, true, false, not, ◌&&◌, ◌||◌, List, [], ◌∷◌, ◌++◌}
use Rattle.std.specs.Prelude.{map, bytes_eq, if◌then◌else◌}
use Rattle.std.specs.List.{list_any, list_all}
use Rattle.cd_syntax.specs.Name.{Name}
use Rattle.cd_syntax.specs.TypeTree.{Tree, tree, Kind, Tuple, Arrows, Union, Meet, Sequence, Record}
use Rattle.cd_syntax.specs.TypeTree.{Xml, Where, Trees, NoTree, ATree, Signs, NoSign, ASign, Fields}
use Rattle.cd_syntax.specs.TypeTree.{NoField, AField, Regular, regular, RegularKind, Nothing, Item}
use Rattle.cd_syntax.specs.TypeTree.{Seq, Alt, Repeat, Capture, Regulars, NoRegular, ARegular}
use Rattle.cd_resolve.specs.Faults.{Fault}
use Rattle.cd_variables.specs.Occurrences.{Occurrence, takes_away, bound, plain, gathered}
use Rattle.cd_variables.specs.VariableFaults.{begins, regular_begins, twice, repeats, differs}
use Rattle.cd_variables.specs.FindingMisplaced.{misplaced_in, misplaced_in_trees, misplaced_in_rest}
use Rattle.cd_variables.specs.FindingMisplaced.{misplaced_in_declarations}

abbrev pub has_name : List Name → Name → Bool
has_name names name = list_any (λ other. bytes_eq other name) names

abbrev pub names_among : List Occurrence → List Name
names_among all = map (λ occurrence. occurrence.name) all

-- a fault is reported if this holds
abbrev pub reported_if : Bool → Fault → List Fault → List Fault
reported_if true fault s = s ++ fault ∷ []
reported_if false fault s = s

-- one of each of these occurrences
abbrev pub reported_of_each : (Occurrence → Fault) → List Occurrence → List Fault → List Fault
reported_of_each fault [] s = s
reported_of_each fault (o ∷ rest) s = reported_of_each fault rest (s ++ fault o ∷ [])

-- those whose variables are among these names stand again
abbrev pub reported_again : List Name → List Occurrence → List Fault → List Fault
reported_again seen [] s = s
reported_again seen (o ∷ rest) s =
    reported_again seen rest (reported_if (has_name seen o.name) (twice o) s)

-- the same names are among both, as often as it may be
abbrev pub HaveSameNames : List Name → List Name → Type 0
HaveSameNames ones others = (name : Name) → has_name ones name ≡ has_name others name

-- whether some name is among the ones and not among the others
abbrev pub differ : List Name → List Name → Bool
differ ones others = not (list_all (has_name others) ones && list_all (has_name ones) others)

-- how many trees of a chain after the first are on a side of a `\`
abbrev pub sides_in : Signs → ℕ
sides_in NoSign = 0
sides_in (ASign kept t rest) = if not kept || takes_away rest then sides_in rest + 1 else 0

-- In a row of parts that all bind, `seen` are the names of the parts before
abbrev mutual
  pub variable_faults : Tree → List Fault → List Fault
  variable_faults (tree span kind) s = kind_faults kind s

  pub kind_faults : Kind → List Fault → List Fault
  kind_faults (Tuple trees) s = row_faults [] trees s
  kind_faults (Arrows trees) s = misplaced_in_trees trees s
  kind_faults (Union trees) s = union_faults trees s
  kind_faults (Meet first signs) s =
      if takes_away signs then sign_faults [] signs (misplaced_in first s)
      else sign_faults (names_among (bound first)) signs
      (reported_again [] (bound first) (variable_faults first s))
  kind_faults (Sequence r) s = regular_faults r s
  kind_faults (Record fields rest) s = field_faults [] fields (misplaced_in_rest rest s)
  kind_faults (Xml tag attributes content) s =
      reported_again (names_among (bound tag) ++ names_among (bound attributes)) (bound content)
      (variable_faults content (reported_again (names_among (bound tag)) (bound attributes)
      (variable_faults attributes (reported_again [] (bound tag) (variable_faults tag s)))))
  kind_faults (Where body declarations) s =
      misplaced_in_declarations declarations (misplaced_in body s)
  kind_faults kind s = s

  pub row_faults : List Name → Trees → List Fault → List Fault
  row_faults seen NoTree s = s
  row_faults seen (ATree t rest) s =
      row_faults (seen ++ names_among (bound t)) rest
      (reported_again seen (bound t) (variable_faults t s))

  pub sign_faults : List Name → Signs → List Fault → List Fault
  sign_faults seen NoSign s = s
  sign_faults seen (ASign kept t rest) s =
      if not kept || takes_away rest then sign_faults seen rest (misplaced_in t s)
      else sign_faults (seen ++ names_among (bound t)) rest
      (reported_again seen (bound t) (variable_faults t s))

  pub field_faults : List Name → Fields → List Fault → List Fault
  field_faults seen NoField s = s
  field_faults seen (AField label at optional t rest) s =
      if optional then field_faults seen rest (misplaced_in t s)
      else field_faults (seen ++ names_among (bound t)) rest
      (reported_again seen (bound t) (variable_faults t s))

  pub union_faults : Trees → List Fault → List Fault
  union_faults NoTree s = s
  union_faults (ATree first rest) s =
      alternative_faults (names_among (bound first)) rest (variable_faults first s)

  -- those of the alternatives after the first, which has these names
  pub alternative_faults : List Name → Trees → List Fault → List Fault
  alternative_faults names NoTree s = s
  alternative_faults names (ATree t rest) s = alternative_faults names rest
      (reported_if (differ names (names_among (bound t))) (differs (begins t))
      (variable_faults t s))

  pub regular_faults : Regular → List Fault → List Fault
  regular_faults (regular span kind) s = regular_kind_faults kind s

  pub regular_kind_faults : RegularKind → List Fault → List Fault
  regular_kind_faults Nothing s = s
  regular_kind_faults (Item t) s = variable_faults t s
  regular_kind_faults (Seq all) s = turn_faults [] [] all s
  regular_kind_faults (Alt all) s = choice_faults all s
  regular_kind_faults (Repeat r post) s = reported_of_each repeats (plain r) (regular_faults r s)
  regular_kind_faults (Capture name r) s = reported_again (name ∷ []) (gathered r)
      (reported_again (name ∷ []) (plain r) (regular_faults r s))

  -- those of expressions in turn, after some with these names, of which those are plain
  pub turn_faults : List Name → List Name → Regulars → List Fault → List Fault
  turn_faults seen seen_plain NoRegular s = s
  turn_faults seen seen_plain (ARegular r rest) s =
      turn_faults (seen ++ names_among (plain r) ++ names_among (gathered r))
      (seen_plain ++ names_among (plain r)) rest
      (reported_again seen_plain (gathered r) (reported_again seen (plain r) (regular_faults r s)))

  pub choice_faults : Regulars → List Fault → List Fault
  choice_faults NoRegular s = s
  choice_faults (ARegular first rest) s =
      other_faults (names_among (plain first)) rest (regular_faults first s)

  -- those of the alternatives after the first, which has these plain names
  pub other_faults : List Name → Regulars → List Fault → List Fault
  other_faults names NoRegular s = s
  other_faults names (ARegular r rest) s = other_faults names rest
      (reported_if (differ names (names_among (plain r))) (differs (regular_begins r))
      (regular_faults r s))
