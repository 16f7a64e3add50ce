-- What is made of elements of a task's questions is in the clause, where it is in no member that was given to none.
use Rattle.std.proofs.Common.{◌≡◌, ◌⊎◌, true, false, List, [], ◌∷◌, ◌++◌, map, Option, Some, None, inl, inr, refl, sym, ap, subst}
use Rattle.cd_syntax.specs.Name.{Name}
use Rattle.cd_model.specs.Thing as thing
use Rattle.cd_model.specs.Thing.{Thing, IsElement}
use Rattle.cd_model.specs.BuiltIns.{ATOM, RECORD}
use Rattle.cd_model.specs.AllOf.{AllOf, AnyOf}
use Rattle.cd_model.specs.Formula as formula
use Rattle.cd_model.specs.Formula.{Graph}
use Rattle.cd_model.specs.Kinds.{APair, AnXml, ARecord, AFunction}
use Rattle.cd_model.specs.Membership.{Answers, Labelled, asked, answers, reader, labelled, pair_reader, xml_reader, record_reader}
use Rattle.cd_model.specs.Types.{no_closure}
use Rattle.cd_model.proofs.Labels.{IsOneOf}
use Rattle.cd_rules.specs.Clauses.{Pair, Triple, RecordType, Pairs, Xmls, Records, Arrows, IsInClause}
use Rattle.cd_rules.specs.Groups.{other_sides, other_xml_sides, to_side, to_xml_side}
use Rattle.cd_rules.specs.InRow.{thing_at, IsInRow, IsForRow, IsInCell, IsOfNoCell}
use Rattle.cd_rules.specs.MadeForTasks.{IsRightPair, IsFunctionBut, arrows_of}
use Rattle.cd_rules.specs.Needs.{question}
use Rattle.cd_rules.specs.Rows.{Cell, Reason, Reasons, Row, labels_of, types_elsewhere, row_of}
use Rattle.cd_rules.specs.Family.{AreAmong}
use Rattle.cd_rules.proofs.Among.{among_itself, each_of_among}
use Rattle.cd_rules.proofs.Answered.{map_of_each, each_of_asked}
use Rattle.cd_rules.proofs.Asking.{asked_of_each, each_of_map}
use Rattle.cd_rules.proofs.ArrowsForward.{ArgumentIsOutside, ResultIsInside}
use Rattle.cd_rules.proofs.LabelsNamed.{IsUnnamed, unnamed_parts}
use Rattle.cd_rules.proofs.MembersOfArrows.{IsInArrows, IsOutsideArrow, none_in_arrows, with_maps, with_fails}
use Rattle.cd_model.proofs.Ones.{each_weaker, one_weaker, map_of_one, each_of_two, each_of_lists, each_for_all, one_leads}
use Rattle.cd_rules.proofs.CasesAreTasks.{of_all}
use Rattle.cd_rules.proofs.PairsBack.{both_of_each, three_of_each, parts_of_asked, parts_of_asked_more}
use Rattle.cd_rules.proofs.ReasonsOf.{IsNamed}
use Rattle.cd_rules.proofs.RowsExact.{SaysNoMore, labelled_by, IsAs, IsReason, of_reason, wanted_in_row, refused_in_row}
use Rattle.cd_rules.proofs.RowsExact.{unnamed_by_all, say_no_more}
use Rattle.cd_rules.proofs.RowsOfThings.{thing_says}
use Rattle.cd_rules.specs.Tasks.{Task, PairTask, XmlTask, ArrowTask, RecordTask, IsTask, IsNamedReason, row_of_given, tasks_of}
use Rattle.cd_rules.specs.Tasks.{AreCases, pair_cases, xml_cases, arrow_cases, record_cases}

-- a fact of what was given to each side and of what is left is one of each member
module _ {X : Type 0} (Fact : X → Type 0) (members left : List X) where
  of_two_sides : (given : List X × List X) → AreAmong members (given.0 ++ given.1 ++ left)
      → AllOf Fact given.0 → AllOf Fact given.1 → AllOf Fact left → AllOf Fact members
  of_two_sides given among one other rest = each_of_among Fact members (given.0 ++ given.1 ++ left) among
      (each_of_lists Fact (given.0 ++ given.1) left (each_of_lists Fact given.0 given.1 one other) rest)

  of_three_sides : (given : List X × List X × List X) → AreAmong members (given.0 ++ given.1 ++ given.2 ++ left)
      → AllOf Fact given.0 → AllOf Fact given.1 → AllOf Fact given.2 → AllOf Fact left → AllOf Fact members
  of_three_sides given among one other last rest = each_of_among Fact members (given.0 ++ given.1 ++ given.2 ++ left) among
      (each_of_lists Fact (given.0 ++ given.1 ++ given.2) left (each_of_lists Fact (given.0 ++ given.1) given.2
      (each_of_lists Fact given.0 given.1 one other) last) rest)

-- a pair
pub pair_of_task : (graph : Graph) (first second : Thing) (wanted refused : List Pair) (given : List Pair × List Pair) (left : List Pair)
    → IsTask (PairTask wanted refused given left)
    → asked (answers graph first) (question (map (λ parts. parts.0) wanted) (map (λ parts. parts.0) given.0)) true
    → asked (answers graph second) (question (map (λ parts. parts.1) wanted) (map (λ parts. parts.1) given.1)) true
    → AllOf (λ parts. reader graph (thing.Pair first second) (formula.Pair parts.0 parts.1) false) left
    → IsInClause APair (reader graph (thing.Pair first second)) (Pairs wanted refused)
pair_of_task graph first second wanted refused given left is of_first of_second outside =
    let at_first = parts_of_asked (answers graph first) (λ (parts : Pair). parts.0) wanted given.0 of_first in
    let at_second = parts_of_asked (answers graph second) (λ (parts : Pair). parts.1) wanted given.1 of_second in (
      refl,
      both_of_each (λ (parts : Pair). answers graph first parts.0 true) (λ parts. answers graph second parts.1 true) wanted at_first.0 at_second.0,
      of_two_sides IsOut refused left given is.1
          (each_weaker (λ (parts : Pair). answers graph first parts.0 false) IsOut (λ parts out. inl out) given.0 at_first.1)
          (each_weaker (λ (parts : Pair). answers graph second parts.1 false) IsOut (λ parts out. inr out) given.1 at_second.1) outside,
    )
  where
    IsOut : Pair → Type 0
    IsOut parts = pair_reader (answers graph first) (answers graph second) (formula.Pair parts.0 parts.1) false

-- an XML element
pub xml_of_task : (graph : Graph) (tag attributes content : Thing) (wanted refused : List Triple)
    (given : List Triple × List Triple × List Triple) (left : List Triple) → IsTask (XmlTask wanted refused given left)
    → asked (answers graph tag) (question (ATOM ∷ map (λ parts. parts.0) wanted) (map (λ parts. parts.0) given.0)) true
    → asked (answers graph attributes) (question (RECORD ∷ map (λ parts. parts.1) wanted) (map (λ parts. parts.1) given.1)) true
    → asked (answers graph content) (question (map (λ parts. parts.2) wanted) (map (λ parts. parts.2) given.2)) true
    → AllOf (λ parts. reader graph (thing.Xml tag attributes content) (formula.Xml parts.0 parts.1 parts.2) false) left
    → IsInClause AnXml (reader graph (thing.Xml tag attributes content)) (Xmls wanted refused)
xml_of_task graph tag attributes content wanted refused given left is of_tag of_attributes of_content outside =
    let at_tag = parts_of_asked_more (answers graph tag) ATOM (λ (parts : Triple). parts.0) wanted given.0 of_tag in
    let at_attributes = parts_of_asked_more (answers graph attributes) RECORD (λ (parts : Triple). parts.1) wanted given.1 of_attributes in
    let at_content = parts_of_asked (answers graph content) (λ (parts : Triple). parts.2) wanted given.2 of_content in (
      refl,
      three_of_each (λ (parts : Triple). answers graph tag parts.0 true) (λ parts. answers graph attributes parts.1 true)
          (λ parts. answers graph content parts.2 true) wanted at_tag.1 at_attributes.1 at_content.0,
      of_three_sides IsOut refused left given is.1
          (each_weaker (λ (parts : Triple). answers graph tag parts.0 false) IsOut (λ parts out. inl out) given.0 at_tag.2)
          (each_weaker (λ (parts : Triple). answers graph attributes parts.1 false) IsOut (λ parts out. inr (inl out)) given.1
          at_attributes.2)
          (each_weaker (λ (parts : Triple). answers graph content parts.2 false) IsOut (λ parts out. inr (inr out)) given.2 at_content.1)
          outside,
    )
  where
    IsOut : Triple → Type 0
    IsOut parts = xml_reader (answers graph tag) (answers graph attributes) (answers graph content)
        (formula.Xml parts.0 parts.1 parts.2) false

-- a function: it has no pair at first
pub function_of_none : (graph : Graph) (wanted refused : List Pair) → IsFunctionBut graph wanted refused refused thing.NoPair
function_of_none graph wanted refused = (
  tt,
  none_in_arrows graph wanted,
  each_weaker (λ arrow. AnyOf (λ (other : Pair). other ≡ arrow) refused)
      (λ arrow. IsOutsideArrow graph thing.NoPair arrow ⊎ AnyOf (λ (other : Pair). other ≡ arrow) refused)
      (λ arrow there. inr there) refused (among_itself refused),
)

-- then one for each refused arrow: it maps, or it fails where no wanted arrow was given to the results
module _ (graph : Graph) (wanted refused : List Pair) (one : Pair) (others : List Pair) (pairs : thing.Pairs)
    (before : IsFunctionBut graph wanted refused (one ∷ others) pairs) where
  -- where more pairs are outside what these are outside, and outside that arrow, one arrow less is left
  one_less : (more : thing.Pairs) → IsInArrows graph wanted (one ∷ []) more
      → ((arrow : Pair) → IsOutsideArrow graph pairs arrow → IsOutsideArrow graph more arrow)
      → IsFunctionBut graph wanted refused others more
  one_less more is stays = (
    is.0,
    is.1,
    each_weaker (λ arrow. IsOutsideArrow graph pairs arrow ⊎ AnyOf (λ (other : Pair). other ≡ arrow) (one ∷ others))
        (λ arrow. IsOutsideArrow graph more arrow ⊎ AnyOf (λ (other : Pair). other ≡ arrow) others) by_side refused before.2,
  )
    where
      by_side : (arrow : Pair) → IsOutsideArrow graph pairs arrow ⊎ AnyOf (λ (other : Pair). other ≡ arrow) (one ∷ others)
          → IsOutsideArrow graph more arrow ⊎ AnyOf (λ (other : Pair). other ≡ arrow) others
      by_side arrow (inl out) = inl (stays arrow out)
      by_side arrow (inr (inl same)) = inl (subst (IsOutsideArrow graph more) same is.2.0)
      by_side arrow (inr (inr there)) = inr there

  pub maps_of_task : (from to : Thing) → IsElement from → IsElement to → (given : List Pair × List Pair) (left : List Pair)
      → IsTask (ArrowTask one wanted given left)
      → asked (answers graph from) (question (one.0 ∷ []) (map (λ parts. parts.0) given.0)) true
      → asked (answers graph to) (question (map (λ parts. parts.1) given.1) (one.1 ∷ [])) true
      → AllOf (IsRightPair graph from to) left
      → IsFunctionBut graph wanted refused others (thing.Maps from to pairs)
  maps_of_task from to from_is to_is given left is of_from of_to right =
      let at_from = each_of_asked (answers graph from) (one.0 ∷ []) (map (λ parts. parts.0) given.0) of_from in
      let at_to = each_of_asked (answers graph to) (map (λ parts. parts.1) given.1) (one.1 ∷ []) of_to in
      one_less (thing.Maps from to pairs) (with_maps graph wanted [] one pairs (before.0, before.1, tt) from to from_is to_is
      at_from.0.0 at_to.1.0
      (of_two_sides (IsRightPair graph from to) wanted left given is.1
      (each_weaker (ArgumentIsOutside (answers graph from)) (IsRightPair graph from to) (λ parts out. inl out) given.0
      (map_of_each (λ (parts : Pair). parts.0) (λ id. answers graph from id false) given.0 at_from.1))
      (each_weaker (ResultIsInside (answers graph to)) (IsRightPair graph from to) (λ parts inside. inr inside) given.1
      (map_of_each (λ (parts : Pair). parts.1) (λ id. answers graph to id true) given.1 at_to.0)) right)) (λ arrow out. inr out)

  pub fails_of_task : (from : Thing) → IsElement from → (given left : List Pair)
      → IsTask (ArrowTask one wanted (given, []) left)
      → asked (answers graph from) (question (one.0 ∷ []) (map (λ parts. parts.0) given)) true
      → AllOf (ArgumentIsOutside (answers graph from)) left
      → IsFunctionBut graph wanted refused others (thing.Fails from pairs)
  fails_of_task from from_is given left is of_from right =
      let at_from = each_of_asked (answers graph from) (one.0 ∷ []) (map (λ parts. parts.0) given) of_from in
      one_less (thing.Fails from pairs) (with_fails graph wanted [] one pairs (before.0, before.1, tt) from from_is at_from.0.0
      (of_two_sides (ArgumentIsOutside (answers graph from)) wanted left (given, []) is.1
      (map_of_each (λ (parts : Pair). parts.0) (λ id. answers graph from id false) given at_from.1) tt right)) (λ arrow out. inr out)

-- the tasks of a clause are for its refused arrows, and the cases of a task for that of the task
pub arrows_at_first : (wanted refused : List Pair) → arrows_of (tasks_of (Arrows wanted refused)) ≡ refused
arrows_at_first wanted refused = of_each refused
  where
    of_each : (some : List Pair) → arrows_of (map (λ one. ArrowTask one wanted ([], []) wanted) some) ≡ some
    of_each [] = refl
    of_each (one ∷ some) = ap (λ arrows. one ∷ arrows) (of_each some)

pub arrows_of_cases : (task : Task) (cases later : List Task) → AreCases task cases
    → AllOf (λ case. arrows_of (case ∷ later) ≡ arrows_of (task ∷ later)) cases
arrows_of_cases _ _ later (pair_cases wanted refused given left group rest x differs taken is) =
    of_all (λ side. PairTask wanted refused (to_side side group given) rest) (λ case. arrows_of (case ∷ later) ≡ arrows_of later)
    (λ side. refl) (other_sides differs ++ differs ∷ [])
arrows_of_cases _ _ later (xml_cases wanted refused given left group rest x differs taken is) =
    of_all (λ side. XmlTask wanted refused (to_xml_side side group given) rest) (λ case. arrows_of (case ∷ later) ≡ arrows_of later)
    (λ side. refl) (other_xml_sides differs ++ differs ∷ [])
arrows_of_cases _ _ later (arrow_cases refused wanted given left group rest x differs taken is) =
    of_all (λ side. ArrowTask refused wanted (to_side side group given) rest) (λ case. arrows_of (case ∷ later) ≡ refused ∷ arrows_of later)
    (λ side. refl) (other_sides differs ++ differs ∷ [])
arrows_of_cases _ _ later (record_cases wanted refused given left rest type taken) =
    of_all (λ reason. RecordTask wanted refused ((type, reason) ∷ given) rest) (λ case. arrows_of (case ∷ later) ≡ arrows_of later)
    (λ reason. refl) (None ∷ map Some (labels_of (wanted ++ refused)))

-- where no arrow is left it is in the clause
pub function_of_arrows : (graph : Graph) (wanted refused : List Pair) (pairs : thing.Pairs)
    → IsFunctionBut graph wanted refused [] pairs
    → IsElement (thing.Function pairs) × IsInClause AFunction (reader graph (thing.Function pairs)) (Arrows wanted refused)
function_of_arrows graph wanted refused pairs is = (
  is.0,
  (refl, is.1, each_weaker (λ arrow. IsOutsideArrow graph pairs arrow ⊎ ⊥) (IsOutsideArrow graph pairs) only refused is.2),
)
  where
    only : (arrow : Pair) → IsOutsideArrow graph pairs arrow ⊎ ⊥ → IsOutsideArrow graph pairs arrow
    only arrow (inl out) = out
    only arrow (inr none) = elim none [ ]

-- reasons that are given are named
named_reason : (labels : List Name) (reason : Reason) → IsNamedReason labels reason → IsNamed labels reason
named_reason labels None is = tt
named_reason labels (Some label) (inl same) = absurd cc
named_reason labels (Some label) (inr later) = one_weaker (λ other. Some other ≡ Some label) (λ other. other ≡ label)
    (λ other same. search same) labels (map_of_one Some (λ other. other ≡ Some label) labels later)

-- a record in the row of what was given is in each wanted type, and outside each that was given
module _ {X : Type 0} (said : X → Answers) (at : Name → Option X) (wanted refused : List RecordType) where
  abbrev labels : List Name
  labels = labels_of (wanted ++ refused)

  unnamed : (label : Name) → (IsOneOf labels label → ⊥) → IsUnnamed wanted label × IsUnnamed refused label
  unnamed label none = unnamed_parts wanted refused label (unnamed_by_all (wanted ++ refused) label none)

  abbrev IsOutsideType : Labelled → RecordType → Type 0
  IsOutsideType labelled type = record_reader labelled (formula.Record type.named type.rest) false

  abbrev IsInTypes : Labelled → Type 0
  IsInTypes labelled = AllOf (λ type. record_reader labelled (formula.Record type.named type.rest) true) wanted
      × AllOf (IsOutsideType labelled) refused

  record_by : (given : Reasons) (left : List RecordType) → IsTask (RecordTask wanted refused given left)
      → IsInRow said at (row_of_given wanted refused given)
      → AllOf (IsOutsideType (labelled_by said at)) left → IsInTypes (labelled_by said at)
  record_by given left is row outside = (
    each_for_all (IsAs said at labels wanted true) wanted
        (wanted_in_row said at labels wanted (λ label none. (unnamed label none).0) given row),
    each_of_two (SaysNoMore labels) IsOut (IsOutsideType (labelled_by said at)) (λ type free out. out free) refused
        (say_no_more labels refused (λ label none. (unnamed label none).1))
        (each_of_among IsOut refused (map (λ one. one.0) given ++ left) is.0.1
        (each_of_lists IsOut (map (λ one. one.0) given) left
        (each_of_map (λ one. one.0) IsOut given
        (each_weaker (λ one. IsReason said at labels wanted one.0 one.1 × IsNamedReason labels one.1) (λ one. IsOut one.0) by_reason given
        reasons))
        (each_weaker (IsOutsideType (labelled_by said at)) IsOut (λ type out free. out) left outside))),
  )
    where
      IsOut : RecordType → Type 0
      IsOut type = SaysNoMore labels type → IsOutsideType (labelled_by said at) type

      reasons : AllOf (λ one. IsReason said at labels wanted one.0 one.1 × IsNamedReason labels one.1) given
      reasons = both_of_each (λ one. IsReason said at labels wanted one.0 one.1) (λ one. IsNamedReason labels one.1) given
          (refused_in_row said at labels wanted (λ label none. (unnamed label none).0) given
          (each_weaker (λ one. IsNamedReason labels one.1) (λ one. IsNamed labels one.1) (λ one named. named_reason labels one.1 named) given is.1)
          row) is.1

      by_reason : (one : RecordType × Reason) → IsReason said at labels wanted one.0 one.1 × IsNamedReason labels one.1 → IsOut one.0
      by_reason one (reason, named) free = of_reason said at labels wanted one.0 free
          (one_weaker (λ other. other ≡ one.1) (IsReason said at labels wanted one.0)
          (λ other same. subst (IsReason said at labels wanted one.0) (sym same) reason) (None ∷ map Some labels) named)

-- a record
pub record_of_task : (graph : Graph) (fields : thing.Fields) (wanted refused : List RecordType) (given : Reasons) (left : List RecordType)
    → IsTask (RecordTask wanted refused given left)
    → IsInRow (answers graph) (thing_at fields) (row_of_given wanted refused given)
    → AllOf (λ type. reader graph (thing.Record fields) (formula.Record type.named type.rest) false) left
    → IsInClause ARecord (reader graph (thing.Record fields)) (Records wanted refused)
record_of_task graph fields wanted refused given left is row outside = let both = of_said outside in (refl, both.0, both.1)
  where
    of_said : AllOf (λ type. record_reader (labelled graph fields) (formula.Record type.named type.rest) false) left
        → AllOf (λ type. record_reader (labelled graph fields) (formula.Record type.named type.rest) true) wanted
        × AllOf (λ type. record_reader (labelled graph fields) (formula.Record type.named type.rest) false) refused
    of_said = subst (λ (said : Labelled). AllOf (λ type. record_reader said (formula.Record type.named type.rest) false) left
        → AllOf (λ type. record_reader said (formula.Record type.named type.rest) true) wanted
        × AllOf (λ type. record_reader said (formula.Record type.named type.rest) false) refused)
        (sym (λ i label field answer. thing_says graph no_closure fields label field answer i))
        (record_by (answers graph) (thing_at fields) wanted refused given left is row)

-- a record that is made for a row is in it: what is in a question of `some` is in `every`
module _ {X : Type 0} (answers : X → Answers) (at : Name → Option X) (labels : List Name) (wanted : List RecordType) (given : Reasons) where
  abbrev row : Row
  row = row_of labels wanted given

  abbrev every_cell : Cell
  every_cell = record { absent = true; value = row.every }

  in_every : (what : Option X) (type : RecordType)
      → IsInCell answers what (record { absent = false; value = question (map (λ type. type.rest) wanted) (type.rest ∷ []) })
      → IsInCell answers what every_cell
  in_every None type is = absurd cc
  in_every (Some x) type is = asked_of_each (answers x) (map (λ type. type.rest) wanted) []
      (each_of_asked (answers x) (map (λ type. type.rest) wanted) (type.rest ∷ []) is).0 tt

  pub record_in_row : IsForRow answers at row → IsInRow answers at row
  record_in_row is = (is.0, every, is.2)
    where
      by_side : (label : Name) → (at label ≡ None)
          ⊎ AnyOf (λ question. IsInCell answers (at label) (record { absent = false; value = question })) row.some
          → IsInCell answers (at label) every_cell
      by_side label (inl none) = subst (λ (what : Option X). IsInCell answers what every_cell) (sym none) refl
      by_side label (inr one) = one_leads
          (λ type. IsInCell answers (at label) (record { absent = false; value = question (map (λ type. type.rest) wanted) (type.rest ∷ []) }))
          (in_every (at label)) (types_elsewhere given)
          (map_of_one (λ (type : RecordType). question (map (λ type. type.rest) wanted) (type.rest ∷ []))
          (λ question. IsInCell answers (at label) (record { absent = false; value = question })) (types_elsewhere given) one)

      every : (label : Name) → IsOfNoCell row label → IsInCell answers (at label) every_cell
      every label none = by_side label (is.1 label none)
