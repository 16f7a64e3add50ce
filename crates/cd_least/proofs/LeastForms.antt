-- What a form makes of the least types of its parts is within each type that it has.
use Rattle.std.proofs.Common.{◌≡◌, inl, inr, sym, subst, ◌∙◌, ℕ, true, false, List, [], ◌∷◌, ◌++◌, Option, Some, None}
use Rattle.cd_syntax.specs.Name.{Name}
use Rattle.cd_syntax.specs.TypeTree.{Tree}
use Rattle.cd_model.specs.AllOf.{AllOf}
use Rattle.cd_model.specs.BuiltIns.{DATA}
use Rattle.cd_model.specs.Scope.{Scope}
use Rattle.cd_model.specs.Thing.{Thing, IsElement}
use Rattle.cd_matching.specs.Sequences.{thing_of}
use Rattle.cd_syntax.specs.declared.constant.Constant.{Constant as AConstant}
use Rattle.cd_program.specs.Expr.{Expr, Constant, Variable, Tuple, Sequence, Record, Xml, Function, Match, Try, Map, Transform, Let, If}
use Rattle.cd_program.specs.Expr.{Operand, Without, Select, Exprs, Items, Fields, Branches, NoBranch, ABranch, function, Signature}
use Rattle.cd_meaning.specs.Functions.{IsGiven}
use Rattle.cd_meaning.specs.Records.{IsFieldOf, IsRestOf}
use Rattle.cd_meaning.specs.Sequences.{IsListOf, IsItemOf}
use Rattle.cd_meaning.specs.Sets.{Set, ◌⊆◌}
use Rattle.cd_typing.specs.Interfaces.{Arrow, AreWritten, IsIntersection}
use Rattle.cd_program.specs.declared.operator.Op.{Op}
use Rattle.cd_typing.specs.Operators.{truth, IsReached, Operates}
use Rattle.cd_typing.specs.Results.{IsTupleOf, IsSequenceOf, IsRecordOf, IsXmlOf}
use Rattle.cd_typing.specs.Typ.{Typ, In, IsType, BuiltIn, Types, type_at}
use Rattle.cd_typing.specs.Typing.{Has, KindHas, HaveAll, ItemsHave, FieldsHave, BodiesHave}
use Rattle.cd_typing.proofs.Narrowing.{narrow}
use Rattle.cd_typing.proofs.Subsets.{itself, through}
use Rattle.cd_least.specs.Least.{InOne, IsWithin, IsLeast, AreLeast, IsBodyLeast, AreBodiesLeast, IsSideLeast}
use Rattle.cd_least.specs.Least.{IsArgumentLeast, IsTailLeast}
use Rattle.cd_least.proofs.ArrowsAlike.{intersection_within}
use Rattle.cd_least.proofs.CapturedTypes.{first_of_more, below_captured}
use Rattle.cd_least.proofs.Refuted.{item_within}
use Rattle.cd_least.proofs.Monotone.{tuples_grow, sequences_grow, records_grow, xmls_grow, lists_grow, given_into, fields_grow, rests_grow}

module _ (scope : Scope) (types : Types) where
  pub constant_least : (is : AConstant) (t : Typ) → In t ⊆ (λ d. d ≡ thing_of is) → (s : Typ)
      → KindHas scope types (Constant is) s → In t ⊆ In s
  constant_least is t only s has = through (In t) (λ d. d ≡ thing_of is) (In s) only has

  pub variable_least : (name : Name) (own t : Typ) → type_at types name ≡ Some own → In t ⊆ In own → (s : Typ)
      → KindHas scope types (Variable name) s → In t ⊆ In s
  variable_least name own t is within s has =
      through (In t) (In own) (In s) within (subst (λ (one : Typ). In one ⊆ In s) (same has.0 own (sym has.1 ∙ is)) has.2)
    where
      same : (a b : Typ) → Some a ≡ Some b → a ≡ b
      same a b equal = cc

  pub tuple_least : (exprs : Exprs) (parts : List Typ) (t : Typ) → AreLeast scope types (HaveAll scope) exprs parts
      → In t ⊆ IsTupleOf parts → (s : Typ) → KindHas scope types (Tuple exprs) s → In t ⊆ In s
  tuple_least exprs parts t least only s has = through (In t) (IsTupleOf parts) (In s) only
      (through (IsTupleOf parts) (IsTupleOf has.0) (In s) (tuples_grow parts has.0 (least has.0 has.1)) has.2)

  pub sequence_least : (all : Items) (parts : List Typ) (t : Typ) → AreLeast scope types (ItemsHave scope) all parts
      → In t ⊆ IsSequenceOf all parts → (s : Typ) → KindHas scope types (Sequence all) s → In t ⊆ In s
  sequence_least all parts t least only s has = through (In t) (IsSequenceOf all parts) (In s) only
      (through (IsSequenceOf all parts) (IsSequenceOf all has.0) (In s) (sequences_grow parts has.0 (least has.0 has.1) all) has.2)

  pub record_least : (fields : Fields) (parts : List Typ) (t : Typ) → AreLeast scope types (FieldsHave scope) fields parts
      → In t ⊆ IsRecordOf fields parts → (s : Typ) → KindHas scope types (Record fields) s → In t ⊆ In s
  record_least fields parts t least only s has = through (In t) (IsRecordOf fields parts) (In s) only
      (through (IsRecordOf fields parts) (IsRecordOf fields has.0) (In s) (records_grow parts has.0 (least has.0 has.1) fields) has.2)

  pub xml_least : (tag attributes content : Expr) (one other last t : Typ) → IsLeast scope types tag one → IsLeast scope types attributes other
      → IsLeast scope types content last → In t ⊆ IsXmlOf (In one) (In other) (In last) → (s : Typ)
      → KindHas scope types (Xml tag attributes content) s → In t ⊆ In s
  xml_least tag attributes content one other last t first second third only s has =
      through (In t) (IsXmlOf (In one) (In other) (In last)) (In s) only
      (through (IsXmlOf (In one) (In other) (In last)) (IsXmlOf (In has.0) (In has.1) (In has.2)) (In s)
      (xmls_grow (In one) (In other) (In last) (In has.0) (In has.1) (In has.2) (first.least has.0 has.3 has.4)
      (second.least has.1 has.6 has.7) (third.least has.2 has.9 has.10)) has.11)

  pub function_least : (here : ℕ) (name : Option Name) (name_at : ℕ) (interface : List Signature) (branches : Branches)
      (arrows : List Arrow) (t : Typ) → AreWritten scope interface arrows → IsIntersection arrows t → (s : Typ)
      → KindHas scope types (Function (function here name name_at interface branches)) s → In t ⊆ In s
  function_least here name name_at interface branches arrows t written is s has =
      through (In t) (In has.1) (In s) (intersection_within scope interface arrows has.0 written has.2 t has.1 is has.3) has.5

  pub bodies_within : (branches : Branches) (before : List Tree) (matched more : Set) → matched ⊆ more → (results : List (Option Typ))
      → AreBodiesLeast scope types before matched branches results → (wanted : Set) → BodiesHave scope types before more branches wanted
      → AllOf (IsWithin wanted) results
  bodies_within NoBranch before matched more fewer [] least wanted has = tt
  bodies_within NoBranch before matched more fewer (found ∷ results) least wanted has = absurd least
  bodies_within (ABranch pattern body rest) before matched more fewer [] least wanted has = absurd least
  bodies_within (ABranch pattern body rest) before matched more fewer (None ∷ results) least wanted has =
      (tt, bodies_within rest (pattern ∷ before) matched more fewer results least.1 wanted has.1)
  bodies_within (ABranch pattern body rest) before matched more fewer (Some r ∷ results) least wanted has =
      let is = least.0 in
      let one = has.0 is.0 is.1 (first_of_more scope before pattern matched more fewer is.0 is.1 is.2) in
      let below = below_captured scope before pattern matched more fewer is.3 one.0 types is.4 one.3 is.0 is.1 is.2 in (
        through (In r) (In one.1) wanted (is.5.least one.1 one.4 (narrow scope body (is.3 ++ types) (one.0 ++ types) below one.1 one.5)) one.6,
        bodies_within rest (pattern ∷ before) matched more fewer results least.1 wanted has.1,
      )

  pub one_within : (results : List (Option Typ)) (wanted : Set) → AllOf (IsWithin wanted) results → InOne results ⊆ wanted
  one_within [] wanted each d sound is = absurd is
  one_within (None ∷ results) wanted each d sound is = one_within results wanted each.1 d sound is
  one_within (Some r ∷ results) wanted each d sound (inl is) = each.0 d sound is
  one_within (Some r ∷ results) wanted each d sound (inr is) = one_within results wanted each.1 d sound is

  bodies_least : (branches : Branches) (matched more : Set) → matched ⊆ more → (results : List (Option Typ))
      → AreBodiesLeast scope types [] matched branches results → (wanted : Set) → BodiesHave scope types [] more branches wanted
      → InOne results ⊆ wanted
  bodies_least branches matched more fewer results least wanted has =
      one_within results wanted (bodies_within branches [] matched more fewer results least wanted has)

  pub match_least : (value : Expr) (branches : Branches) (one t : Typ) → IsLeast scope types value one → (results : List (Option Typ))
      → AreBodiesLeast scope types [] (In one) branches results → In t ⊆ InOne results → (s : Typ)
      → KindHas scope types (Match value branches) s → In t ⊆ In s
  match_least value branches one t matched results least only s has = through (In t) (InOne results) (In s) only
      (bodies_least branches (In one) (In has.0) (matched.least has.0 has.1 has.2) results least (In s) has.4)

  pub try_least : (body : Expr) (branches : Branches) (one t : Typ) → IsLeast scope types body one → (results : List (Option Typ))
      → AreBodiesLeast scope types [] (BuiltIn DATA) branches results → In t ⊆ InOne (Some one ∷ results) → (s : Typ) → IsType s
      → KindHas scope types (Try body branches) s → In t ⊆ In s
  try_least body branches one t own results least only s sound has =
      through (In t) (InOne (Some one ∷ results)) (In s) only
      (one_within (Some one ∷ results) (In s) (
        own.least s sound has.0,
        bodies_within branches [] (BuiltIn DATA) (BuiltIn DATA) (itself (BuiltIn DATA)) results least (In s) has.1,
      ))

  -- lists of items of the bodies, for the items of what is matched
  pub map_least : (value : Expr) (branches : Branches) (one t : Typ) → IsLeast scope types value one → (results : List (Option Typ))
      → AreBodiesLeast scope types [] (IsItemOf (In one)) branches results → In t ⊆ IsListOf (InOne results) → (s : Typ)
      → KindHas scope types (Map value branches) s → In t ⊆ In s
  map_least value branches one t matched results least only s has =
      through (In t) (IsListOf (InOne results)) (In s) only
      (through (IsListOf (InOne results)) (IsListOf (In has.2)) (In s)
      (lists_grow (InOne results) (In has.2) (bodies_least branches (IsItemOf (In one)) (In has.1)
      (item_within scope (In one) (In has.1) (through (In one) (In has.0) (IsListOf (In has.1)) (matched.least has.0 has.3 has.4) has.6))
      results least (In has.2) has.9)) has.10)

  pub transform_least : (value : Expr) (branches : Branches) (one t : Typ) → IsLeast scope types value one → (results : List (Option Typ))
      → AreBodiesLeast scope types [] (IsItemOf (In one)) branches results → In t ⊆ IsListOf (IsItemOf (InOne results)) → (s : Typ)
      → KindHas scope types (Transform value branches) s → In t ⊆ In s
  transform_least value branches one t matched results least only s has =
      through (In t) (IsListOf (IsItemOf (InOne results))) (In s) only
      (through (IsListOf (IsItemOf (InOne results))) (IsListOf (In has.2)) (In s)
      (lists_grow (IsItemOf (InOne results)) (In has.2) (item_within scope (InOne results) (In has.2)
      (bodies_least branches (IsItemOf (In one)) (In has.1)
      (item_within scope (In one) (In has.1) (through (In one) (In has.0) (IsListOf (In has.1)) (matched.least has.0 has.3 has.4) has.6))
      results least (IsListOf (In has.2)) has.8))) has.9)

  pub let_least : (pattern : Tree) (value rest : Expr) (one t : Typ) → IsLeast scope types value one → (found : Option Typ)
      → IsBodyLeast scope types [] pattern (In one) rest found → In t ⊆ InOne (found ∷ []) → (s : Typ) → IsType s
      → KindHas scope types (Let pattern value rest) s → In t ⊆ In s
  let_least pattern value rest one t matched None least only s sound has = through (In t) (InOne (None ∷ [])) (In s) only (λ d element none. absurd none)
  let_least pattern value rest one t matched (Some r) least only s sound has =
      through (In t) (InOne (Some r ∷ [])) (In s) only (one_within (Some r ∷ []) (In s) (body, tt))
    where
      fewer : In one ⊆ In has.0
      fewer = matched.least has.0 has.1 has.2

      body : In r ⊆ In s
      body = let its = has.4 least.0 least.1 (first_of_more scope [] pattern (In one) (In has.0) fewer least.0 least.1 least.2) in
          let below = below_captured scope [] pattern (In one) (In has.0) fewer least.3 its.0 types least.4 its.2 least.0 least.1 least.2 in
          least.5.least s sound (narrow scope rest (least.3 ++ types) (its.0 ++ types) below s its.3)

  pub if_least : (condition then_one else_one : Expr) (one t : Typ) → IsLeast scope types condition one → (here there : Option Typ)
      → IsSideLeast scope types (In one) (truth true) then_one here → IsSideLeast scope types (In one) (truth false) else_one there
      → IsElement (truth true) → IsElement (truth false) → In t ⊆ InOne (here ∷ there ∷ []) → (s : Typ) → IsType s
      → KindHas scope types (If condition then_one else_one) s → In t ⊆ In s
  if_least condition then_one else_one one t tested here there first second is_true is_false only s sound has =
      through (In t) (InOne (here ∷ there ∷ [])) (In s) only
      (one_within (here ∷ there ∷ []) (In s) (side (truth true) is_true then_one here first has.4, (side (truth false) is_false else_one there second has.5, tt)))
    where
      side : (value : Thing) → IsElement value → (e : Expr) (found : Option Typ) → IsSideLeast scope types (In one) value e found
          → (In has.0 value → Has scope types e s) → IsWithin (In s) found
      side value element e None none typed = tt
      side value element e (Some r) least typed = least.1.least s sound (typed (tested.least has.0 has.1 has.2 value element least.0))

-- What stands before an argument or an operator has the type `self`, which is within each that it has.
module _ (scope : Scope) (types : Types) where
  pub argument_least : (self one result : Typ) (e : Expr) → IsLeast scope types e one → In result ⊆ IsGiven (In self) (In one)
      → IsArgumentLeast scope types self e result
  argument_least self one result e least only wider s r fewer is has maps =
      through (In result) (IsGiven (In self) (In one)) (In r) only
      (given_into (In self) (In one) (In wider) (In s) (In r) fewer (least.least s is has) maps)

  pub without_least : (self result : Typ) (label : Name) → In result ⊆ IsRestOf label (In self) → IsTailLeast scope types self (Without label) result
  without_least self result label only wider r is fewer has = through (In result) (IsRestOf label (In self)) (In r) only
      (through (IsRestOf label (In self)) (IsRestOf label (In wider)) (In r) (rests_grow label (In self) (In wider) fewer) has.1)

  pub select_least : (self result : Typ) (label : Name) → In result ⊆ IsFieldOf label (In self) → IsTailLeast scope types self (Select label) result
  select_least self result label only wider r is fewer has = through (In result) (IsFieldOf label (In self)) (In r) only
      (through (IsFieldOf label (In self)) (IsFieldOf label (In wider)) (In r) (fields_grow label (In self) (In wider) fewer) has.1)

  pub operator_least : (self one result : Typ) (is : Op) (e : Expr) → IsLeast scope types e one → (reached : (wider : Typ) → In self ⊆ In wider
      → IsReached is (In wider)) → ((wider s r : Typ) → IsType s → In self ⊆ In wider → In one ⊆ In s → Operates is (In wider) (In s) (In r) → In result ⊆ In r)
      → IsTailLeast scope types self (Operand is e) result
  operator_least self one result is e least reached each wider r sound fewer has =
      let operand = has.1 (reached wider fewer) in
      each wider operand.0 r operand.1 fewer (least.least operand.0 operand.1 operand.2) operand.3
