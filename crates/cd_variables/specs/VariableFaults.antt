-- What is wrong with the variables of a pattern, and where.
use Rattle.std.specs.Prelude.{◌≡◌, ◌≢◌, ℕ, true, ◌||◌, not, List, [], ◌∷◌, ◌++◌, ◌⊎◌, map}
use Rattle.std.specs.Prelude.{if◌then◌else◌}
use Rattle.cd_syntax.specs.Name.{Name}
use Rattle.cd_syntax.specs.TypeTree.{Tree, tree, Kind, Tuple, Arrows, Union, Meet, Sequence, Record}
use Rattle.cd_syntax.specs.TypeTree.{Xml, Where, Trees, NoTree, ATree, Signs, NoSign, ASign, Fields}
use Rattle.cd_syntax.specs.TypeTree.{NoField, AField, Declarations, NoDeclaration, ADeclaration}
use Rattle.cd_syntax.specs.TypeTree.{Regular, regular, RegularKind}
use Rattle.cd_syntax.specs.TypeTree.{Item, Seq, Alt, Repeat, Capture, Regulars, NoRegular, ARegular}
use Rattle.cd_syntax.specs.TypeTree.{Rest, Closed, Open, Typed}
use Rattle.cd_syntax.specs.declared.tokens.Span.{Span}
use Rattle.cd_syntax.specs.declared.type_tree.Post.{Post}
use Rattle.cd_model.specs.AllOf.{AnyOf}
use Rattle.cd_resolve.specs.Faults.{Fault}
use Rattle.cd_resolve.specs.declared.fault.NameFault.TheVariants.{VariablesDiffer, VariableTwice}
use Rattle.cd_resolve.specs.declared.fault.NameFault.TheVariants.{VariableRepeats}
use Rattle.cd_resolve.specs.declared.fault.NameFault.TheVariants.{VariableMisplaced}
use Rattle.cd_variables.specs.Occurrences.{Occurrence, has, variables, takes_away, bound, plain}
use Rattle.cd_variables.specs.Occurrences.{gathered}

abbrev pub IsAmong : Occurrence → List Occurrence → Type 0
IsAmong occurrence = AnyOf (λ other. other ≡ occurrence)

-- where a tree, and an expression, begins
abbrev pub begins : Tree → ℕ
begins (tree span kind) = span.from

abbrev pub regular_begins : Regular → ℕ
regular_begins (regular span kind) = span.from

-- the faults that are reported of an occurrence, and of an alternative
abbrev pub twice : Occurrence → Fault
twice o = record { fault = VariableTwice; name = o.name; at = o.at }

abbrev pub repeats : Occurrence → Fault
repeats o = record { fault = VariableRepeats; name = o.name; at = o.at }

abbrev pub misplaced : Occurrence → Fault
misplaced o = record { fault = VariableMisplaced; name = o.name; at = o.at }

abbrev pub differs : ℕ → Fault
differs at = record { fault = VariablesDiffer; name = []; at = at }

-- some variable is among the ones and not among the others
abbrev pub Differ : List Occurrence → List Occurrence → Type 0
Differ ones others = (name : Name) × (has ones name ≢ has others name)

-- it stands in a part of a row, and its variable in an earlier part
abbrev pub StandsAgain : Occurrence → List (List Occurrence) → Type 0
StandsAgain o [] = ⊥
StandsAgain o (first ∷ rest) = ((has first o.name ≡ true) × AnyOf (IsAmong o) rest)
    ⊎ StandsAgain o rest

-- the same of the parts of an expression that are taken in turn, where a variable may gather items
-- in several
abbrev pub StandsAgainInTurn : Occurrence → List Regular → Type 0
StandsAgainInTurn o [] = ⊥
StandsAgainInTurn o (first ∷ rest) =
    ((has (plain first ++ gathered first) o.name ≡ true) × AnyOf (λ r. IsAmong o (plain r)) rest)
    ⊎ ((has (plain first) o.name ≡ true) × AnyOf (λ r. IsAmong o (gathered r)) rest)
    ⊎ StandsAgainInTurn o rest

abbrev pub all_trees : Trees → List Tree
all_trees NoTree = []
all_trees (ATree first rest) = first ∷ all_trees rest

abbrev pub all_regulars : Regulars → List Regular
all_regulars NoRegular = []
all_regulars (ARegular first rest) = first ∷ all_regulars rest

-- the trees of a chain that stand after its last `\`, and those on a side of one
abbrev pub kept_trees : Signs → List Tree
kept_trees NoSign = []
kept_trees (ASign kept t rest) =
    if not kept || takes_away rest then kept_trees rest else t ∷ kept_trees rest

abbrev pub side_trees : Signs → List Tree
side_trees NoSign = []
side_trees (ASign kept t rest) =
    if not kept || takes_away rest then t ∷ side_trees rest else side_trees rest

abbrev pub present_trees : Fields → List Tree
present_trees NoField = []
present_trees (AField label at optional t rest) =
    if optional then present_trees rest else t ∷ present_trees rest

abbrev pub optional_trees : Fields → List Tree
optional_trees NoField = []
optional_trees (AField label at optional t rest) =
    if optional then t ∷ optional_trees rest else optional_trees rest

abbrev pub rest_trees : Rest → List Tree
rest_trees Closed = []
rest_trees Open = []
rest_trees (Typed t) = t ∷ []

abbrev pub declared_trees : Declarations → List Tree
declared_trees NoDeclaration = []
declared_trees (ADeclaration name at t rest) = t ∷ declared_trees rest

-- the parts that all bind
abbrev pub binding_parts : Kind → List Tree
binding_parts (Tuple trees) = all_trees trees
binding_parts (Meet first signs) =
    (if takes_away signs then [] else first ∷ []) ++ kept_trees signs
binding_parts (Record fields rest) = present_trees fields
binding_parts (Xml tag attributes content) = tag ∷ attributes ∷ content ∷ []
binding_parts kind = []

-- those of which one binds, and those where no variable may stand
abbrev pub alternatives : Kind → List Tree
alternatives (Union trees) = all_trees trees
alternatives kind = []

abbrev pub parts_without : Kind → List Tree
parts_without (Arrows trees) = all_trees trees
parts_without (Meet first signs) =
    (if takes_away signs then first ∷ [] else []) ++ side_trees signs
parts_without (Record fields rest) = rest_trees rest ++ optional_trees fields
parts_without (Where body declarations) = body ∷ declared_trees declarations
parts_without kind = []

-- the parts of an expression
abbrev pub regular_parts : RegularKind → List Regular
regular_parts (Seq all) = all_regulars all
regular_parts (Alt all) = all_regulars all
regular_parts (Repeat r post) = r ∷ []
regular_parts (Capture name r) = r ∷ []
regular_parts kind = []

abbrev pub IsOneIn : {X : Type 0} → X → List X → Type 0
IsOneIn x = AnyOf (λ other. other ≡ x)

mutual
  pub data IsVariableFault : Tree → Fault → Type 0 where
    alternative_differs : (span : Span) (first other : Tree) (rest : Trees)
        → IsOneIn other (all_trees rest) → Differ (bound first) (bound other)
        → IsVariableFault (tree span (Union (ATree first rest))) (differs (begins other))
    stands_again : (span : Span) (kind : Kind) (o : Occurrence)
        → StandsAgain o (map bound (binding_parts kind))
        → IsVariableFault (tree span kind) (twice o)
    out_of_place : (span : Span) (kind : Kind) (part : Tree) (o : Occurrence)
        → IsOneIn part (parts_without kind) → IsAmong o (variables part)
        → IsVariableFault (tree span kind) (misplaced o)
    in_part : (span : Span) (kind : Kind) (part : Tree) (fault : Fault)
        → IsOneIn part (binding_parts kind ++ alternatives kind) → IsVariableFault part fault
        → IsVariableFault (tree span kind) fault
    in_sequence : (span : Span) (r : Regular) (fault : Fault) → IsRegularFault r fault
        → IsVariableFault (tree span (Sequence r)) fault

  pub data IsRegularFault : Regular → Fault → Type 0 where
    -- only plain variables have to be the same in alternatives
    plain_differ : (span : Span) (first other : Regular) (rest : Regulars)
        → IsOneIn other (all_regulars rest) → Differ (plain first) (plain other)
        → IsRegularFault (regular span (Alt (ARegular first rest)))
        (differs (regular_begins other))
    stands_again_in_turn : (span : Span) (all : Regulars) (o : Occurrence)
        → StandsAgainInTurn o (all_regulars all)
        → IsRegularFault (regular span (Seq all)) (twice o)
    -- a variable stands inside of what it gathers itself
    stands_inside : (span : Span) (name : Name) (r : Regular) (o : Occurrence)
        → IsAmong o (plain r ++ gathered r) → o.name ≡ name
        → IsRegularFault (regular span (Capture name r)) (twice o)
    repeated : (span : Span) (r : Regular) (post : Post) (o : Occurrence)
        → IsAmong o (plain r)
        → IsRegularFault (regular span (Repeat r post)) (repeats o)
    in_item : (span : Span) (t : Tree) (fault : Fault) → IsVariableFault t fault
        → IsRegularFault (regular span (Item t)) fault
    in_regular : (span : Span) (kind : RegularKind) (part : Regular) (fault : Fault)
        → IsOneIn part (regular_parts kind) → IsRegularFault part fault
        → IsRegularFault (regular span kind) fault
