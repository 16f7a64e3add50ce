-- An expression with a fault has no type.
use Rattle.std.proofs.Common.{◌≡◌, ◌⊎◌, inl, inr, sym, subst, ◌∙◌, ℕ, pos, List, [], ◌∷◌, ◌++◌, Option, Some, None}
use Rattle.cd_syntax.specs.Name.{Name}
use Rattle.cd_syntax.specs.TypeTree.{Tree}
use Rattle.cd_model.specs.AllOf.{AllOf, AnyOf}
use Rattle.cd_model.specs.BuiltIns.{INT, BOOL, STRING, RECORD, DATA, ATOM}
use Rattle.cd_model.specs.Scope.{Scope}
use Rattle.cd_model.specs.Thing.{Thing, Integer}
use Rattle.cd_matching.specs.Sequences.{items}
use Rattle.cd_program.specs.declared.operator.Op.{Op}
use Rattle.cd_program.specs.declared.operator.Op.TheVariants as op
use Rattle.cd_program.specs.declared.operator.BuiltIn.{BuiltIn as Word}
use Rattle.cd_program.specs.declared.operator.BuiltIn.TheVariants as word
use Rattle.cd_program.specs.Expr.{Expr, expr, Kind, Constant, Variable, Tuple, Sequence, Record, Xml}
use Rattle.cd_program.specs.Expr.{Function, Apply, Match, Try, Map, Transform, Let, If, Chain, Call}
use Rattle.cd_program.specs.Expr.{Exprs, NoExpr, AnExpr, Items, NoItem, AnItem, One, Splice, Run}
use Rattle.cd_program.specs.Expr.{Fields, NoField, AField, Tails, NoTail, ATail, Tail, Operand, Without, Select}
use Rattle.cd_program.specs.Expr.{Branches, NoBranch, ABranch, Tail, FunctionTree, function, Signature}
use Rattle.cd_meaning.specs.Functions.{IsFunction, AllMapInto}
use Rattle.cd_meaning.specs.Records.{HasFieldAt}
use Rattle.cd_meaning.specs.Sequences.{IsSequence, IsListOf, IsItemOf}
use Rattle.cd_meaning.specs.Sets.{Set, ◌⊆◌}
use Rattle.cd_typing.specs.declared.rule.Rule.{Rule}
use Rattle.cd_typing.specs.declared.rule.Rule.TheVariants as rule
use Rattle.cd_typing.specs.Branches.{Cover}
use Rattle.cd_typing.specs.Operators.{IsReached, WordGives, AreIntegers, IsPlus, IsNumbers}
use Rattle.cd_typing.specs.Typ.{Typ, In, IsType, BuiltIn, Types, with_type, AreNarrower}
use Rattle.cd_typing.specs.Typing.{Has, KindHas, HaveAll, ItemsHave, FieldsHave, FunctionHas}
use Rattle.cd_typing.specs.Typing.{ArgumentsHave, TailsHave, TailHas, BodiesHave}
use Rattle.cd_typing.specs.Interfaces.{Arrow, AreWritten}
use Rattle.cd_typing.proofs.Narrowing.{narrow, narrow_bodies, narrow_branches, below_itself, below_one, ArrowsHave}
use Rattle.cd_typing.proofs.Subsets.{itself}
use Rattle.cd_least.specs.Misses.{Least, Misses, IsUncovered}
use Rattle.cd_least.specs.Faults.{Fault, KindFault, ExprsFault, ItemsFault, FieldsFault, FunctionFault}
use Rattle.cd_least.specs.Faults.{ArgumentsFault, ArgumentFault, TailsFault, TailFault, OperatorFault}
use Rattle.cd_least.specs.Faults.{WordFault, BranchFault, Breaks, BreaksOne, PlusFault, QuotientFault}
use Rattle.cd_least.specs.Faults.{Owed, Nothing, AResult, ASequence, after_tail, after_argument, IsReachedAfter}
use Rattle.cd_least.proofs.ArrowsAlike.{written_within, intersection_within}
use Rattle.cd_least.proofs.CapturedTypes.{first_of_more, below_captured}

module _ (scope : Scope) where
  -- what is reported of an operand leaves it without a type within what is needed
  pub misses_none : (types : Types) (e : Expr) (needed : Set) (at : ℕ) (d : Thing) → Misses scope types e needed at d
      → (t : Typ) → IsType t → Has scope types e t → In t ⊆ needed → ⊥
  misses_none types e needed at d misses t is has within = misses.outside (within d misses.element (misses.least t is has))

  breaks_none : (types : Types) (e : Expr) (needed : Set) (is : Rule) (at : ℕ) (reported : Rule) (d : Thing)
      → Breaks scope types e needed is at reported d → (t : Typ) → IsType t → Has scope types e t → In t ⊆ needed → ⊥
  breaks_none types e needed is at reported d fault t sound has within = misses_none types e needed at d fault.1 t sound has within

  both_none : (types : Types) (first second : Expr) (needed : Set) (is : Rule) (at : ℕ) (reported : Rule) (d : Thing)
      → BreaksOne scope types first second needed is at reported d → (s t : Typ) → IsType s → Has scope types first s → In s ⊆ needed
      → IsType t → Has scope types second t → In t ⊆ needed → ⊥
  both_none types first second needed is at reported d (inl fault) s t one has within other more all =
      breaks_none types first needed is at reported d fault s one has within
  both_none types first second needed is at reported d (inr fault) s t one has within other more all =
      breaks_none types second needed is at reported d fault t other more all

  -- what is matched is in the matched type
  least_within : (types : Types) (e : Expr) (t : Typ) → IsType t → Has scope types e t → Least scope types e ⊆ In t
  least_within types e t is has d sound least = least t is has

  uncovered_none : (here : ℕ) (branches : Branches) (matched more : Set) (at : ℕ) (reported : Rule) (d : Thing)
      → IsUncovered scope here branches matched at reported d → matched ⊆ more → Cover scope branches more → ⊥
  uncovered_none here branches matched more at reported d fault fewer cover =
      fault.untaken (cover d fault.element (fewer d fault.element fault.in_set))

  -- the items of what is matched are among those of any type of it
  any_of : (set : Set) (ds : List Thing) (d : Thing) → AllOf set ds → AnyOf (λ one. one ≡ d) ds → set d
  any_of set [] d all none = absurd none
  any_of set (one ∷ ds) d all (inl is) = subst set is all.0
  any_of set (one ∷ ds) d all (inr among) = any_of set ds d all.1 among

  pub item_within : (set other : Set) → set ⊆ IsListOf other → IsItemOf set ⊆ other
  item_within set other lists d sound item =
      let list = lists item.0 item.2 item.3 in
      any_of other item.1 d (subst (AllOf other) (same list.0 item.1 (sym list.1 ∙ item.4)) list.2) item.5
    where
      same : (ds es : List Thing) → Some ds ≡ Some es → ds ≡ es
      same ds es is = cc

  items_within : (types : Types) (value : Expr) (s : Typ) (item : Set) → IsType s → Has scope types value s → In s ⊆ IsListOf item
      → IsItemOf (Least scope types value) ⊆ item
  items_within types value s item is has lists =
      item_within (Least scope types value) item (λ e element least. lists e element (least s is has))

  list_is : (set : Set) → IsListOf set ⊆ IsSequence
  list_is set d sound list = (list.0, list.1)

  -- a fault of this expression leaves it without a type
  abbrev pub IsRefuted : Expr → Type 0
  IsRefuted e = (types : Types) (at : ℕ) (reported : Rule) (d : Thing) → Fault scope types e at reported d → (t : Typ)
      → Has scope types e t → ⊥

  abbrev pub AllRefuted : Branches → Type 0
  AllRefuted NoBranch = Unit {0}
  AllRefuted (ABranch pattern body rest) = IsRefuted body × AllRefuted rest

  -- what a body owes leaves it without a type within what is wanted
  abbrev IsOwed : Owed scope → (wanted : Set) → Type 0
  IsOwed owed wanted = (types : Types) (body : Expr) (at : ℕ) (reported : Rule) (d : Thing) → owed types body at reported d
      → (s : Typ) → IsType s → Has scope types body s → In s ⊆ wanted → ⊥

  nothing_owed : (wanted : Set) → IsOwed (Nothing scope) wanted
  nothing_owed wanted types body at reported d fault s is has within = fault

  result_owed : (wanted : Set) → IsOwed (AResult scope wanted) wanted
  result_owed wanted types body at reported d fault s is has within = breaks_none types body wanted rule.Result at reported d fault s is has within

  sequence_owed : (item : Set) → IsOwed (ASequence scope) (IsListOf item)
  sequence_owed item types body at reported d fault s is has within =
      breaks_none types body IsSequence rule.BranchSequence at reported d fault s is has (λ e sound inside. list_is item e sound (within e sound inside))

  branches_refuted : (branches : Branches) → AllRefuted branches → (types : Types) (before : List Tree) (matched more : Set)
      → matched ⊆ more → (owed : Owed scope) (wanted : Set) → IsOwed owed wanted → (at : ℕ) (reported : Rule) (d : Thing)
      → BranchFault scope types before matched owed branches at reported d → BodiesHave scope types before more branches wanted → ⊥
  branches_refuted NoBranch are types before matched more fewer owed wanted owes at reported d fault bodies = fault
  branches_refuted (ABranch pattern body rest) are types before matched more fewer owed wanted owes at reported d (inl fault) bodies =
      let e = fault.0 in
      let captures = fault.1 in
      let own = fault.3 in
      let one = bodies.0 e captures (first_of_more scope before pattern matched more fewer e captures fault.2) in
      let below = below_captured scope before pattern matched more fewer own one.0 types fault.4 one.3 e captures fault.2 in
      by one.1 one.4 (narrow scope body (own ++ types) (one.0 ++ types) below one.1 one.5) one.6 fault.5
    where
      by : (s : Typ) → IsType s → Has scope (fault.3 ++ types) body s → In s ⊆ wanted
          → Fault scope (fault.3 ++ types) body at reported d ⊎ owed (fault.3 ++ types) body at reported d → ⊥
      by s is has within (inl inner) = are.0 (fault.3 ++ types) at reported d inner s has
      by s is has within (inr own) = owes (fault.3 ++ types) body at reported d own s is has within
  branches_refuted (ABranch pattern body rest) are types before matched more fewer owed wanted owes at reported d (inr later) bodies =
      branches_refuted rest are.1 types (pattern ∷ before) matched more fewer owed wanted owes at reported d later bodies.1

  -- an operator's operands
  plus_none : (types : Types) (first second : Expr) (at : ℕ) (reported : Rule) (d : Thing) → PlusFault scope types first second at reported d
      → (self s : Typ) (result : Set) → IsType self → Has scope types first self → IsType s → Has scope types second s
      → IsPlus (In self) (In s) result → ⊥
  plus_none types first second at reported d (one, other, no_records, inl fault) self s result is has more all (inl sums) =
      breaks_none types first (BuiltIn INT) rule.Operand at reported d fault self is has sums.0.0
  plus_none types first second at reported d (one, other, no_records, inr (within, fault)) self s result is has more all (inl sums) =
      breaks_none types second (BuiltIn INT) rule.Operand at reported d fault s more all sums.0.1
  plus_none types first second at reported d (one, other, no_records, fault) self s result is has more all (inr merges) =
      no_records ((self, is, has, merges.0), (s, more, all, merges.1))

  quotient_none : (types : Types) (first second : Expr) (at : ℕ) (reported : Rule) (d : Thing) → QuotientFault scope types first second at reported d
      → (self s : Typ) → IsType self → Has scope types first self → IsType s → Has scope types second s
      → AreIntegers (In self) (In s) → (In s (Integer (pos 0)) → ⊥) → ⊥
  quotient_none types first second at reported d (inl fault) self s is has more all integers divides =
      both_none types first second (BuiltIn INT) rule.Operand at reported d fault self s is has integers.0 more all integers.1
  quotient_none types first second at reported d (inr (one, other, fault)) self s is has more all integers divides =
      fault.1.outside (λ is_zero. divides (subst (In s) is_zero (fault.1.least s more all)))

  operator_fails : (types : Types) (is : Op) (first second : Expr) (at : ℕ) (reported : Rule) (d : Thing)
      → OperatorFault scope types is first second at reported d → (self result : Typ) → IsType self → Has scope types first self
      → TailHas scope types self (Operand is second) result → ⊥
  operator_fails types op.And first second at reported d fault self result is typed has =
      breaks_none types first (BuiltIn BOOL) rule.Condition at reported d fault self is typed has.0.condition
  operator_fails types op.Or first second at reported d fault self result is typed has =
      breaks_none types first (BuiltIn BOOL) rule.Condition at reported d fault self is typed has.0.condition
  operator_fails types op.Equal first second at reported d fault self result is typed has =
      let one = has.1 tt in
      both_none types first second (BuiltIn DATA) rule.Comparison at reported d fault self one.0 is typed one.3.0 one.1 one.2 one.3.1
  operator_fails types op.Unequal first second at reported d fault self result is typed has =
      let one = has.1 tt in
      both_none types first second (BuiltIn DATA) rule.Comparison at reported d fault self one.0 is typed one.3.0 one.1 one.2 one.3.1
  operator_fails types op.Less first second at reported d fault self result is typed has =
      let one = has.1 tt in
      both_none types first second (BuiltIn INT) rule.Operand at reported d fault self one.0 is typed one.3.0.0 one.1 one.2 one.3.0.1
  operator_fails types op.AtMost first second at reported d fault self result is typed has =
      let one = has.1 tt in
      both_none types first second (BuiltIn INT) rule.Operand at reported d fault self one.0 is typed one.3.0.0 one.1 one.2 one.3.0.1
  operator_fails types op.Greater first second at reported d fault self result is typed has =
      let one = has.1 tt in
      both_none types first second (BuiltIn INT) rule.Operand at reported d fault self one.0 is typed one.3.0.0 one.1 one.2 one.3.0.1
  operator_fails types op.AtLeast first second at reported d fault self result is typed has =
      let one = has.1 tt in
      both_none types first second (BuiltIn INT) rule.Operand at reported d fault self one.0 is typed one.3.0.0 one.1 one.2 one.3.0.1
  operator_fails types op.Concat first second at reported d fault self result is typed has =
      let one = has.1 tt in
      both_none types first second IsSequence rule.Sequence at reported d fault self one.0 is typed one.3.0 one.1 one.2 one.3.1
  operator_fails types op.Plus first second at reported d fault self result is typed has =
      let one = has.1 tt in
      plus_none types first second at reported d fault self one.0 (In result) is typed one.1 one.2 one.3
  operator_fails types op.Minus first second at reported d fault self result is typed has =
      let one = has.1 tt in
      both_none types first second (BuiltIn INT) rule.Operand at reported d fault self one.0 is typed one.3.0.0 one.1 one.2 one.3.0.1
  operator_fails types op.Times first second at reported d fault self result is typed has =
      let one = has.1 tt in
      both_none types first second (BuiltIn INT) rule.Operand at reported d fault self one.0 is typed one.3.0.0 one.1 one.2 one.3.0.1
  operator_fails types op.Div first second at reported d fault self result is typed has =
      let one = has.1 tt in
      quotient_none types first second at reported d fault self one.0 is typed one.1 one.2 one.3.0 one.3.1
  operator_fails types op.Mod first second at reported d fault self result is typed has =
      let one = has.1 tt in
      quotient_none types first second at reported d fault self one.0 is typed one.1 one.2 one.3.0 one.3.1

  word_none : (types : Types) (is : Word) (e : Expr) (at : ℕ) (reported : Rule) (d : Thing) → WordFault scope types is e at reported d
      → (s : Typ) (result : Set) → IsType s → Has scope types e s → WordGives is (In s) result → ⊥
  word_none types word.Not e at reported d fault s result is has gives =
      breaks_none types e (BuiltIn BOOL) rule.Condition at reported d fault s is has gives.0
  word_none types word.Flatten e at reported d fault s result is has gives =
      breaks_none types e (IsListOf IsSequence) rule.Sequence at reported d fault s is has (λ one sound inside. lists_are one sound (gives.2 one sound inside))
    where
      all_lists : (ds : List Thing) → AllOf (IsListOf (In gives.0)) ds → AllOf IsSequence ds
      all_lists [] all = tt
      all_lists (one ∷ ds) all = ((all.0.0, all.0.1), all_lists ds all.1)

      lists_are : IsListOf (IsListOf (In gives.0)) ⊆ IsListOf IsSequence
      lists_are one sound list = (list.0, list.1, all_lists list.0 list.2)
  word_none types word.IntOf e at reported d fault s result is has gives =
      breaks_none types e (BuiltIn STRING) rule.Text at reported d fault s is has gives.0
  word_none types word.StringOf e at reported d fault s result is has gives =
      breaks_none types e (BuiltIn INT) rule.Operand at reported d fault s is has gives.0
  word_none types word.MinOf e at reported d fault s result is has gives =
      breaks_none types e IsNumbers rule.Numbers at reported d fault s is has gives.0
  word_none types word.MaxOf e at reported d fault s result is has gives =
      breaks_none types e IsNumbers rule.Numbers at reported d fault s is has gives.0
  word_none types word.Raise e at reported d fault s result is has gives =
      breaks_none types e (BuiltIn DATA) rule.Exception at reported d fault s is has gives

  -- the right operand is met in any derivation too
  reached_in : (types : Types) (is : Op) (first : Expr) (self : Typ) → IsType self → Has scope types first self
      → IsReachedAfter scope types is first → IsReached is (In self)
  reached_in types op.And first self is has reached = reached.1 self is has
  reached_in types op.Or first self is has reached = reached.1 self is has
  reached_in types op.Equal first self is has reached = tt
  reached_in types op.Unequal first self is has reached = tt
  reached_in types op.Less first self is has reached = tt
  reached_in types op.AtMost first self is has reached = tt
  reached_in types op.Greater first self is has reached = tt
  reached_in types op.AtLeast first self is has reached = tt
  reached_in types op.Concat first self is has reached = tt
  reached_in types op.Plus first self is has reached = tt
  reached_in types op.Minus first self is has reached = tt
  reached_in types op.Times first self is has reached = tt
  reached_in types op.Div first self is has reached = tt
  reached_in types op.Mod first self is has reached = tt

  -- what stands before an argument, or an operator, with it
  has_applied : (types : Types) (f e : Expr) (self s result : Typ) → IsType self → Has scope types f self → IsType s → Has scope types e s
      → IsType result → AllMapInto (In self) (In s) (In result) → (here : ℕ) → Has scope types (after_argument here f e) result
  has_applied types f e self s result is typed more all sound maps here =
      (self, is, typed, (s, result, more, all, sound, maps, itself (In result)))

  has_after : (types : Types) (first : Expr) (tail : Tail) (self result : Typ) → IsType self → Has scope types first self → IsType result
      → TailHas scope types self tail result → (here : ℕ) → Has scope types (after_tail here first tail) result
  has_after types first tail self result is typed sound has here = (self, is, typed, (result, sound, has, itself (In result)))

  -- what a function is applied to
  argument_none : (types : Types) (f e : Expr) (at : ℕ) (reported : Rule) (d : Thing) → ArgumentFault scope types f e at reported d
      → (self s result : Typ) → IsType self → Has scope types f self → IsType s → Has scope types e s → IsType result
      → AllMapInto (In self) (In s) (In result) → ⊥
  argument_none types f e at reported d (inl fault) self s result is has more all sound maps =
      breaks_none types f IsFunction rule.NotFunction at reported d fault self is has maps.functions_alone
  argument_none types f e at reported d (inr (within, fault)) self s result is has more all sound maps =
      fault.1.outside (self, s, result, is, has, more, sound, maps, fault.1.least s more all)

  -- the own name of a function has a narrower type
  below_own : (name : Option Name) (t s : Typ) → In t ⊆ In s → (types : Types) → AreNarrower (with_type name t types) (with_type name s types)
  below_own None t s within types = below_itself types
  below_own (Some name) t s within types = below_one types types (below_itself types) name t s within

  abbrev ArrowFault : Types → (here : ℕ) → Option Name → (self : Typ) → Branches → (at : ℕ) → Rule → Thing → Arrow → Type 0
  ArrowFault types here name self branches at reported d arrow = IsUncovered scope here branches (In arrow.argument) at reported d
      ⊎ BranchFault scope (with_type name self types) [] (In arrow.argument) (AResult scope (In arrow.result)) branches at reported d

  -- a fault at one of the arrows of a function
  arrows_none : (types : Types) (here : ℕ) (name : Option Name) (branches : Branches) → AllRefuted branches → (self own : Typ)
      → In self ⊆ In own → (signatures : List Signature) (arrows others : List Arrow) → AreWritten scope signatures arrows
      → AreWritten scope signatures others → (at : ℕ) (reported : Rule) (d : Thing)
      → AnyOf (ArrowFault types here name self branches at reported d) arrows → ArrowsHave scope types name own branches others → ⊥
  arrows_none types here name branches are self own within [] [] others one other at reported d fault has = fault
  arrows_none types here name branches are self own within [] (arrow ∷ arrows) others one other at reported d fault has = one
  arrows_none types here name branches are self own within (signature ∷ signatures) [] others one other at reported d fault has = one
  arrows_none types here name branches are self own within (signature ∷ signatures) (arrow ∷ arrows) [] one other at reported d fault has = other
  arrows_none types here name branches are self own within (signature ∷ signatures) (arrow ∷ arrows) (last ∷ others) one other at reported d (inl (inl fault)) has =
      uncovered_none here branches (In arrow.argument) (In last.argument) at reported d fault
      (written_within scope signature.takes arrow.argument last.argument one.0 other.0) has.0.0
  arrows_none types here name branches are self own within (signature ∷ signatures) (arrow ∷ arrows) (last ∷ others) one other at reported d (inl (inr fault)) has =
      branches_refuted branches are (with_type name self types) [] (In arrow.argument) (In last.argument)
      (written_within scope signature.takes arrow.argument last.argument one.0 other.0) (AResult scope (In arrow.result)) (In last.result)
      (λ own_types body at reported d owed s is typed inside. breaks_none own_types body (In arrow.result) rule.Result at reported d owed s is typed
      (λ e element among. written_within scope signature.gives last.result arrow.result other.1 one.1 e element (inside e element among)))
      at reported d fault
      (narrow_bodies scope branches (narrow_branches scope branches) (with_type name self types) (with_type name own types)
      (below_own name self own within types) [] (In last.argument) (In last.result) has.0.1)
  arrows_none types here name branches are self own within (signature ∷ signatures) (arrow ∷ arrows) (last ∷ others) one other at reported d (inr later) has =
      arrows_none types here name branches are self own within signatures arrows others one.2 other.2 at reported d later has.1

  mutual
    pub refuted : (e : Expr) → IsRefuted e
    refuted (expr span kind) types at reported d fault t has = refuted_kind kind types span.from at reported d fault t has

    pub refuted_branches : (branches : Branches) → AllRefuted branches
    refuted_branches NoBranch = tt
    refuted_branches (ABranch pattern body rest) = (refuted body, refuted_branches rest)

    refuted_kind : (kind : Kind) (types : Types) (here at : ℕ) (reported : Rule) (d : Thing) → KindFault scope types here kind at reported d
        → (t : Typ) → KindHas scope types kind t → ⊥
    refuted_kind (Constant is) types here at reported d fault t has = fault
    refuted_kind (Variable name) types here at reported d fault t has = fault
    refuted_kind (Tuple exprs) types here at reported d fault t has = refuted_exprs exprs types at reported d fault has.0 has.1
    refuted_kind (Sequence items) types here at reported d fault t has = refuted_items items types at reported d fault has.0 has.1
    refuted_kind (Record fields) types here at reported d fault t has = refuted_fields fields types at reported d fault has.0 has.1
    refuted_kind (Xml tag attributes content) types here at reported d (inl fault) t has = refuted tag types at reported d fault has.0 has.4
    refuted_kind (Xml tag attributes content) types here at reported d (inr (inl fault)) t has = refuted attributes types at reported d fault has.1 has.7
    refuted_kind (Xml tag attributes content) types here at reported d (inr (inr (inl fault))) t has = refuted content types at reported d fault has.2 has.10
    refuted_kind (Xml tag attributes content) types here at reported d (inr (inr (inr (inl fault)))) t has =
        breaks_none types tag (BuiltIn ATOM) rule.Tag at reported d fault has.0 has.3 has.4 has.5
    refuted_kind (Xml tag attributes content) types here at reported d (inr (inr (inr (inr fault)))) t has =
        breaks_none types attributes (BuiltIn RECORD) rule.Attributes at reported d fault has.1 has.6 has.7 has.8
    refuted_kind (Function f) types place at reported d fault t has = refuted_function f types at reported d fault t has
    refuted_kind (Apply NoExpr) types here at reported d fault t has = fault
    refuted_kind (Apply (AnExpr e rest)) types here at reported d (inl fault) t has = refuted e types at reported d fault has.0 has.2
    refuted_kind (Apply (AnExpr e rest)) types here at reported d (inr fault) t has =
        refuted_arguments rest here e types at reported d fault has.0 has.1 has.2 t has.3
    refuted_kind (Match value branches) types here at reported d (inl fault) t has = refuted value types at reported d fault has.0 has.2
    refuted_kind (Match value branches) types here at reported d (inr (some, inl fault)) t has =
        uncovered_none here branches (Least scope types value) (In has.0) at reported d fault (least_within types value has.0 has.1 has.2) has.3
    refuted_kind (Match value branches) types here at reported d (inr (some, inr fault)) t has =
        branches_refuted branches (refuted_branches branches) types [] (Least scope types value) (In has.0)
        (least_within types value has.0 has.1 has.2) (Nothing scope) (In t) (nothing_owed (In t)) at reported d fault has.4
    refuted_kind (Let pattern value rest) types here at reported d (inl fault) t has = refuted value types at reported d fault has.0 has.2
    refuted_kind (Let pattern value rest) types here at reported d (inr (some, inl fault)) t has =
        uncovered_none here (ABranch pattern rest NoBranch) (Least scope types value) (In has.0) at reported d fault
        (least_within types value has.0 has.1 has.2) has.3
    refuted_kind (Let pattern value rest) types here at reported d (inr (some, inr (e, captures, first, own, are, fault))) t has =
        let fewer = least_within types value has.0 has.1 has.2 in
        let one = has.4 e captures (first_of_more scope [] pattern (Least scope types value) (In has.0) fewer e captures first) in
        let below = below_captured scope [] pattern (Least scope types value) (In has.0) fewer own one.0 types are one.2 e captures first in
        refuted rest (own ++ types) at reported d fault t (narrow scope rest (own ++ types) (one.0 ++ types) below t one.3)
    refuted_kind (If condition then_one else_one) types here at reported d (inl fault) t has = refuted condition types at reported d fault has.0 has.2
    refuted_kind (If condition then_one else_one) types here at reported d (inr (inl fault)) t has =
        breaks_none types condition (BuiltIn BOOL) rule.Condition at reported d fault has.0 has.1 has.2 has.3
    refuted_kind (If condition then_one else_one) types here at reported d (inr (inr (some, inl (least, fault)))) t has =
        refuted then_one types at reported d fault t (has.4 (least has.0 has.1 has.2))
    refuted_kind (If condition then_one else_one) types here at reported d (inr (inr (some, inr (least, fault)))) t has =
        refuted else_one types at reported d fault t (has.5 (least has.0 has.1 has.2))
    refuted_kind (Try body branches) types here at reported d (inl fault) t has = refuted body types at reported d fault t has.0
    refuted_kind (Try body branches) types here at reported d (inr fault) t has =
        branches_refuted branches (refuted_branches branches) types [] (BuiltIn DATA) (BuiltIn DATA) (itself (BuiltIn DATA))
        (Nothing scope) (In t) (nothing_owed (In t)) at reported d fault has.1
    refuted_kind (Map value branches) types here at reported d (inl fault) t has = refuted value types at reported d fault has.0 has.4
    refuted_kind (Map value branches) types here at reported d (inr (inl fault)) t has =
        breaks_none types value IsSequence rule.Sequence at reported d fault has.0 has.3 has.4
        (λ e element inside. list_is (In has.1) e element (has.6 e element inside))
    refuted_kind (Map value branches) types here at reported d (inr (inr (some, inl fault))) t has =
        uncovered_none here branches (IsItemOf (Least scope types value)) (In has.1) at reported d fault
        (items_within types value has.0 (In has.1) has.3 has.4 has.6) has.7
    refuted_kind (Map value branches) types here at reported d (inr (inr (some, inr fault))) t has =
        branches_refuted branches (refuted_branches branches) types [] (IsItemOf (Least scope types value)) (In has.1)
        (items_within types value has.0 (In has.1) has.3 has.4 has.6) (Nothing scope) (In has.2) (nothing_owed (In has.2)) at reported d fault has.9
    refuted_kind (Transform value branches) types here at reported d (inl fault) t has = refuted value types at reported d fault has.0 has.4
    refuted_kind (Transform value branches) types here at reported d (inr (inl fault)) t has =
        breaks_none types value IsSequence rule.Sequence at reported d fault has.0 has.3 has.4
        (λ e element inside. list_is (In has.1) e element (has.6 e element inside))
    refuted_kind (Transform value branches) types here at reported d (inr (inr (some, fault))) t has =
        branches_refuted branches (refuted_branches branches) types [] (IsItemOf (Least scope types value)) (In has.1)
        (items_within types value has.0 (In has.1) has.3 has.4 has.6) (ASequence scope) (IsListOf (In has.2)) (sequence_owed (In has.2))
        at reported d fault has.8
    refuted_kind (Chain first tails) types here at reported d (inl fault) t has = refuted first types at reported d fault has.0 has.2
    refuted_kind (Chain first tails) types here at reported d (inr fault) t has =
        refuted_tails tails here first types at reported d fault has.0 has.1 has.2 t has.3
    refuted_kind (Call word operand) types here at reported d (inl fault) t has = refuted operand types at reported d fault has.0 has.2
    refuted_kind (Call word operand) types here at reported d (inr fault) t has =
        word_none types word operand at reported d fault has.0 (In t) has.1 has.2 has.3

    pub refuted_function : (f : FunctionTree) (types : Types) (at : ℕ) (reported : Rule) (d : Thing) → FunctionFault scope types f at reported d
        → (t : Typ) → FunctionHas scope types f t → ⊥
    refuted_function (function here name name_at interface branches) types at reported d fault t has =
        arrows_none types here name branches (refuted_branches branches) fault.1 has.1
        (intersection_within scope interface fault.0 has.0 fault.2 has.2 fault.1 has.1 fault.3 has.3)
        interface fault.0 has.0 fault.2 has.2 at reported d fault.4 has.4

    refuted_exprs : (exprs : Exprs) (types : Types) (at : ℕ) (reported : Rule) (d : Thing) → ExprsFault scope types exprs at reported d
        → (parts : List Typ) → HaveAll scope types exprs parts → ⊥
    refuted_exprs NoExpr types at reported d fault parts has = fault
    refuted_exprs (AnExpr e rest) types at reported d fault [] has = has
    refuted_exprs (AnExpr e rest) types at reported d (inl fault) (s ∷ parts) has = refuted e types at reported d fault s has.1
    refuted_exprs (AnExpr e rest) types at reported d (inr later) (s ∷ parts) has = refuted_exprs rest types at reported d later parts has.2

    refuted_items : (items : Items) (types : Types) (at : ℕ) (reported : Rule) (d : Thing) → ItemsFault scope types items at reported d
        → (parts : List Typ) → ItemsHave scope types items parts → ⊥
    refuted_items NoItem types at reported d fault parts has = fault
    refuted_items (AnItem (One e) rest) types at reported d fault [] has = has
    refuted_items (AnItem (One e) rest) types at reported d (inl fault) (s ∷ parts) has = refuted e types at reported d fault s has.1
    refuted_items (AnItem (One e) rest) types at reported d (inr later) (s ∷ parts) has = refuted_items rest types at reported d later parts has.2
    refuted_items (AnItem (Splice e) rest) types at reported d fault [] has = has
    refuted_items (AnItem (Splice e) rest) types at reported d (inl fault) (s ∷ parts) has = refuted e types at reported d fault s has.1
    refuted_items (AnItem (Splice e) rest) types at reported d (inr (inl fault)) (s ∷ parts) has =
        breaks_none types e IsSequence rule.Splice at reported d fault s has.0 has.1 has.2
    refuted_items (AnItem (Splice e) rest) types at reported d (inr (inr later)) (s ∷ parts) has =
        refuted_items rest types at reported d later parts has.3
    refuted_items (AnItem (Run characters) rest) types at reported d fault parts has = refuted_items rest types at reported d fault parts has

    refuted_fields : (fields : Fields) (types : Types) (at : ℕ) (reported : Rule) (d : Thing) → FieldsFault scope types fields at reported d
        → (parts : List Typ) → FieldsHave scope types fields parts → ⊥
    refuted_fields NoField types at reported d fault parts has = fault
    refuted_fields (AField label label_at e rest) types at reported d fault [] has = has
    refuted_fields (AField label label_at e rest) types at reported d (inl fault) (s ∷ parts) has = refuted e types at reported d fault s has.1
    refuted_fields (AField label label_at e rest) types at reported d (inr later) (s ∷ parts) has =
        refuted_fields rest types at reported d later parts has.2

    -- what stands before has the type of the function
    refuted_arguments : (rest : Exprs) (here : ℕ) (f : Expr) (types : Types) (at : ℕ) (reported : Rule) (d : Thing)
        → ArgumentsFault scope types here f rest at reported d → (self : Typ) → IsType self → Has scope types f self → (t : Typ)
        → ArgumentsHave scope types self rest t → ⊥
    refuted_arguments NoExpr here f types at reported d fault self is typed t has = fault
    refuted_arguments (AnExpr e rest) here f types at reported d (inl fault) self is typed t has = refuted e types at reported d fault has.0 has.3
    refuted_arguments (AnExpr e rest) here f types at reported d (inr (inl fault)) self is typed t has =
        argument_none types f e at reported d fault self has.0 has.1 is typed has.2 has.3 has.4 has.5
    refuted_arguments (AnExpr e rest) here f types at reported d (inr (inr later)) self is typed t has =
        refuted_arguments rest here (after_argument here f e) types at reported d later has.1 has.4
        (has_applied types f e self has.0 has.1 is typed has.2 has.3 has.4 has.5 here) t has.6

    -- what stands before has the type of the first operand
    refuted_tails : (tails : Tails) (here : ℕ) (first : Expr) (types : Types) (at : ℕ) (reported : Rule) (d : Thing)
        → TailsFault scope types here first tails at reported d → (self : Typ) → IsType self → Has scope types first self → (t : Typ)
        → TailsHave scope types self tails t → ⊥
    refuted_tails NoTail here first types at reported d fault self is typed t has = fault
    refuted_tails (ATail tail rest) here first types at reported d (inl fault) self is typed t has =
        refuted_tail tail first types at reported d fault self is typed has.0 has.2
    refuted_tails (ATail tail rest) here first types at reported d (inr later) self is typed t has =
        refuted_tails rest here (after_tail here first tail) types at reported d later has.0 has.1
        (has_after types first tail self has.0 is typed has.1 has.2 here) t has.3

    refuted_tail : (tail : Tail) (first : Expr) (types : Types) (at : ℕ) (reported : Rule) (d : Thing)
        → TailFault scope types first tail at reported d → (self : Typ) → IsType self → Has scope types first self → (result : Typ)
        → TailHas scope types self tail result → ⊥
    refuted_tail (Operand op e) first types at reported d (inl (reached, fault)) self is typed result has =
        let one = has.1 (reached_in types op first self is typed reached) in
        refuted e types at reported d fault one.0 one.2
    refuted_tail (Operand op e) first types at reported d (inr fault) self is typed result has =
        operator_fails types op first e at reported d fault self result is typed has
    refuted_tail (Without label) first types at reported d fault self is typed result has =
        breaks_none types first (BuiltIn RECORD) rule.Record at reported d fault self is typed has.0
    refuted_tail (Select label) first types at reported d fault self is typed result has =
        breaks_none types first (HasFieldAt label) rule.Field at reported d fault self is typed has.0
