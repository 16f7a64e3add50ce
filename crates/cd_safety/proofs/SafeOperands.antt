-- Forms that make a value of the values of their operands: constants, variables, tuples, sequences, records, XML values and functions.
use Rattle.std.proofs.Common.{ℕ, List, [], ◌∷◌, map, sym, subst}
use Rattle.cd_syntax.specs.Name.{Name}
use Rattle.cd_syntax.specs.declared.constant.Constant.{Constant as AConstant}
use Rattle.cd_model.specs.AllOf.{AllOf}
use Rattle.cd_model.specs.Interfaces.{Interfaces}
use Rattle.cd_model.specs.Scope.{Scope}
use Rattle.cd_model.specs.Thing as thing
use Rattle.cd_model.specs.Thing.{Thing, Character, Pair, Closure, IsElement}
use Rattle.cd_matching.specs.Sequences.{sequence_of, thing_of}
use Rattle.cd_program.specs.Expr.{Expr, Constant, Variable, Tuple, Sequence, Record, Xml, Function, Exprs, NoExpr, AnExpr}
use Rattle.cd_program.specs.Expr.{Items, NoItem, AnItem, One, Splice, Run as Letters, Fields, NoField, AField, FunctionTree, function}
use Rattle.cd_typing.specs.Kept.{Kept}
use Rattle.cd_typing.specs.Rules.{HaveAll, ItemsHave, FieldsHave, FunctionHas}
use Rattle.cd_typing.specs.Typ.{Typ, IsType, Types}
use Rattle.cd_evaluation.specs.Code.{Code, place_of}
use Rattle.cd_evaluation.specs.Environment.{Env}
use Rattle.cd_evaluation.specs.Evaluation.{items_or_stuck, eval_tuple, eval_items, eval_fields}
use Rattle.cd_evaluation.specs.Lists.{before}
use Rattle.cd_evaluation.specs.Operations.{xml}
use Rattle.cd_evaluation.specs.RecordFields.{put}
use Rattle.cd_evaluation.specs.Runs.{Done, Run, ends, found}
use Rattle.cd_safety.specs.Operands.{IsTupleIn, ItemsLead, FieldsLead}
use Rattle.cd_safety.specs.Sound.{IsGood}
use Rattle.cd_safety.specs.TypedClosure.{IsGoodPattern, IsGoodFunction}
use Rattle.cd_safety.specs.ValueIn.{ValueIn}
use Rattle.cd_safety.specs.Ways.{Way, code_by}
use Rattle.cd_safety.specs.WellWritten.{HaveCharacters, AreWrittenOnce, HasPart, FunctionIsWritten}
use Rattle.cd_safety.proofs.ClosuresTyped.{closure_in}
use Rattle.cd_safety.proofs.ConstantsSafe.{constant_in, good_within}
use Rattle.cd_safety.proofs.EnvironmentsGood.{closure_good}
use Rattle.cd_safety.proofs.OperatorsSafe.{xml_fine}
use Rattle.cd_safety.proofs.RecordsSafe.{fields_begin, field_next, fields_end}
use Rattle.cd_safety.proofs.SafeNames.{Fact, IsSafeCode, Sees, type_is, arrows_of_function, seen_is_good}
use Rattle.cd_safety.proofs.SafeParts.{SafeFor, SafeIn, ExprIsSafe, KindIsSafe, ExprsAreSafe, ItemsAreSafe, FieldsAreSafe}
use Rattle.cd_safety.proofs.SafeRuns.{end_safe, weaker_safe, tick_safe, bound_safe}
use Rattle.cd_safety.proofs.SequencesSafe.{items_begin, item_one, item_splice, item_run, items_end, spliced}
use Rattle.cd_safety.proofs.SortsByParts.{good_by_parts}
use Rattle.cd_safety.proofs.TuplesSafe.{tuple_of_one, tuple_of_more, tuple_in}

-- the types of operands are types
module _ (kept : Kept) (scope : Scope) (types : Types) where
  parts_are : (exprs : Exprs) (parts : List Typ) → HaveAll kept scope types exprs parts → AllOf IsType parts
  parts_are NoExpr [] have = tt
  parts_are NoExpr (s ∷ parts) have = absurd have
  parts_are (AnExpr e rest) [] have = absurd have
  parts_are (AnExpr e rest) (s ∷ parts) have = (have.0, parts_are rest parts have.2)

  items_are : (all : Items) (parts : List Typ) → ItemsHave kept scope types all parts → AllOf IsType parts
  items_are NoItem [] have = tt
  items_are NoItem (s ∷ parts) have = absurd have
  items_are (AnItem (One e) rest) [] have = absurd have
  items_are (AnItem (One e) rest) (s ∷ parts) have = (have.0, items_are rest parts have.2)
  items_are (AnItem (Splice e) rest) [] have = absurd have
  items_are (AnItem (Splice e) rest) (s ∷ parts) have = (have.0, items_are rest parts have.3)
  items_are (AnItem (Letters characters) rest) parts have = items_are rest parts have

  fields_are : (fields : Fields) (parts : List Typ) → FieldsHave kept scope types fields parts → AllOf IsType parts
  fields_are NoField [] have = tt
  fields_are NoField (s ∷ parts) have = absurd have
  fields_are (AField label at e rest) [] have = absurd have
  fields_are (AField label at e rest) (s ∷ parts) have = (have.0, fields_are rest parts have.2)

module _ (kept : Kept) (scope : Scope) (code : Code) (interfaces : Interfaces) (given : IsSafeCode kept scope code interfaces)
    (call : Way → Thing → Thing → Run) where
  abbrev by : Way → Code
  by = code_by interfaces kept code

  abbrev fact : ℕ → thing.Fields → Type 0
  fact = Fact kept scope code interfaces

  abbrev Here : Types → Env → Type 0
  Here types env = Sees kept scope code interfaces types env

  pub constant_safe : (is : AConstant) → IsElement (thing_of is) → KindIsSafe kept scope code interfaces call (Constant is)
  constant_safe is element types env sees t type within =
      end_safe fact interfaces (ValueIn interfaces t) (Done (thing_of is)) (constant_in fact interfaces is t element within)

  pub variable_safe : (name : Name) → KindIsSafe kept scope code interfaces call (Variable name)
  variable_safe name types env sees t type have =
      let seen = sees.fit name have.0 have.1 in
      let good = seen_is_good kept scope code interfaces given env sees.good name seen.0 seen.1 in
      subst (λ what. SafeIn kept scope code interfaces t (λ way. ends (found what))) (sym seen.1)
      (end_safe fact interfaces (ValueIn interfaces t) (Done seen.0)
      (good_within fact interfaces have.0 t (type_is types sees.are_types name have.0 have.1) type have.2 seen.0 (good, seen.3)))

  tuple_parts : (exprs : Exprs) → HasPart exprs → ExprsAreSafe kept scope code interfaces call exprs → (types : Types) (env : Env)
      → Here types env → (parts : List Typ) → HaveAll kept scope types exprs parts
      → SafeFor kept scope code interfaces (IsTupleIn fact interfaces parts) (λ way. eval_tuple (by way) (call way) exprs env)
  tuple_parts NoExpr part safe types env sees parts have = absurd part
  tuple_parts (AnExpr e NoExpr) part safe types env sees [] have = absurd have
  tuple_parts (AnExpr e NoExpr) part safe types env sees (s ∷ []) have =
      weaker_safe fact interfaces (ValueIn interfaces s) (IsTupleIn fact interfaces (s ∷ []))
      (λ v good inside. tuple_of_one fact interfaces s v (good, inside)) (safe.0 types env sees s have.0 have.1)
  tuple_parts (AnExpr e NoExpr) part safe types env sees (s ∷ r ∷ parts) have = absurd have.2
  tuple_parts (AnExpr e (AnExpr next rest)) part safe types env sees [] have = absurd have
  tuple_parts (AnExpr e (AnExpr next rest)) part safe types env sees (s ∷ parts) have =
      bound_safe fact interfaces (ValueIn interfaces s) (IsTupleIn fact interfaces (s ∷ parts)) (safe.0 types env sees s have.0 have.1)
      (λ v good inside. bound_safe fact interfaces (IsTupleIn fact interfaces parts) (IsTupleIn fact interfaces (s ∷ parts))
      (tuple_parts (AnExpr next rest) tt safe.1 types env sees parts have.2)
      (λ w w_good is_tuple. end_safe fact interfaces (IsTupleIn fact interfaces (s ∷ parts)) (Done (Pair v w))
      (((good_by_parts fact interfaces).pair v w).1 (good, w_good), tuple_of_more fact interfaces s parts v w (good, inside) is_tuple)))

  pub tuple_safe : (exprs : Exprs) → HasPart exprs → ExprsAreSafe kept scope code interfaces call exprs
      → KindIsSafe kept scope code interfaces call (Tuple exprs)
  tuple_safe exprs part safe types env sees t type have =
      weaker_safe fact interfaces (IsTupleIn fact interfaces have.0) (ValueIn interfaces t)
      (λ v good is. (tuple_in fact interfaces have.0 t (parts_are kept scope types exprs have.0 have.1) type have.2 v is).1)
      (tuple_parts exprs part safe types env sees have.0 have.1)

  items_safe : (all : Items) → ItemsAreSafe kept scope code interfaces call all → (types : Types) (env : Env) → Here types env
      → (parts : List Typ) (t : Typ) (done : List Thing) → ItemsHave kept scope types all parts → ItemsLead fact interfaces all parts t done
      → SafeIn kept scope code interfaces t (λ way. eval_items (by way) (call way) all env done)
  items_safe NoItem safe types env sees [] t done have lead =
      end_safe fact interfaces (ValueIn interfaces t) (Done (sequence_of (before done []))) (items_end fact interfaces t done lead)
  items_safe NoItem safe types env sees (s ∷ parts) t done have lead = absurd have
  items_safe (AnItem (One e) rest) safe types env sees [] t done have lead = absurd have
  items_safe (AnItem (One e) rest) safe types env sees (s ∷ parts) t done have lead =
      bound_safe fact interfaces (ValueIn interfaces s) (ValueIn interfaces t) (safe.0 types env sees s have.0 have.1)
      (λ v good inside. items_safe rest safe.1 types env sees parts t (v ∷ done) have.2
      (item_one fact interfaces rest parts t done e s v lead (good, inside)))
  items_safe (AnItem (Splice e) rest) safe types env sees [] t done have lead = absurd have
  items_safe (AnItem (Splice e) rest) safe types env sees (s ∷ parts) t done have lead =
      bound_safe fact interfaces (ValueIn interfaces s) (ValueIn interfaces t) (safe.0 types env sees s have.0 have.1)
      (λ v good inside. let own = spliced fact interfaces s have.0 have.2 v (good, inside) in
      tick_safe fact interfaces (ValueIn interfaces t)
      (subst (λ what. SafeIn kept scope code interfaces t
      (λ way. items_or_stuck what (λ all. eval_items (by way) (call way) rest env (before all done)))) (sym own.1)
      (items_safe rest safe.1 types env sees parts t (before own.0 done) have.3
      (item_splice fact interfaces rest parts t done e s v own.0 lead (good, inside) own.1))))
  items_safe (AnItem (Letters characters) rest) safe types env sees parts t done have lead =
      items_safe rest safe types env sees parts t (before (map Character characters) done) have
      (item_run fact interfaces rest parts t done characters lead)

  pub sequence_safe : (all : Items) → HaveCharacters all → ItemsAreSafe kept scope code interfaces call all
      → KindIsSafe kept scope code interfaces call (Sequence all)
  sequence_safe all characters safe types env sees t type have = items_safe all safe types env sees have.0 t [] have.1
      (items_begin fact interfaces all have.0 t (items_are kept scope types all have.0 have.1) type characters have.2)

  fields_safe : (fields : Fields) → FieldsAreSafe kept scope code interfaces call fields → (types : Types) (env : Env) → Here types env
      → (parts : List Typ) (t : Typ) (done : thing.Fields) → FieldsHave kept scope types fields parts
      → FieldsLead fact interfaces fields parts t done
      → SafeIn kept scope code interfaces t (λ way. eval_fields (by way) (call way) fields env done)
  fields_safe NoField safe types env sees [] t done have lead =
      end_safe fact interfaces (ValueIn interfaces t) (Done (thing.Record done)) (fields_end fact interfaces t done lead)
  fields_safe NoField safe types env sees (s ∷ parts) t done have lead = absurd have
  fields_safe (AField label at e rest) safe types env sees [] t done have lead = absurd have
  fields_safe (AField label at e rest) safe types env sees (s ∷ parts) t done have lead =
      bound_safe fact interfaces (ValueIn interfaces s) (ValueIn interfaces t) (safe.0 types env sees s have.0 have.1)
      (λ v good inside. fields_safe rest safe.1 types env sees parts t (put label v done) have.2
      (field_next fact interfaces label at e rest s parts t done v lead (good, inside)))

  pub record_safe : (fields : Fields) → AreWrittenOnce fields → FieldsAreSafe kept scope code interfaces call fields
      → KindIsSafe kept scope code interfaces call (Record fields)
  record_safe fields once safe types env sees t type have = fields_safe fields safe types env sees have.0 t thing.NoField have.1
      (fields_begin fact interfaces fields have.0 t (fields_are kept scope types fields have.0 have.1) type once have.2)

  pub xml_safe : (tag attributes content : Expr) → ExprIsSafe kept scope code interfaces call tag
      → ExprIsSafe kept scope code interfaces call attributes → ExprIsSafe kept scope code interfaces call content
      → KindIsSafe kept scope code interfaces call (Xml tag attributes content)
  xml_safe tag attributes content tag_safe attributes_safe content_safe types env sees t type have =
      let In_t = ValueIn interfaces t in
      bound_safe fact interfaces (ValueIn interfaces have.0) In_t (tag_safe types env sees have.0 have.3 have.4)
      (λ v v_good v_in. bound_safe fact interfaces (ValueIn interfaces have.1) In_t (attributes_safe types env sees have.1 have.6 have.7)
      (λ w w_good w_in. bound_safe fact interfaces (ValueIn interfaces have.2) In_t
      (content_safe types env sees have.2 have.9 have.10)
      (λ last last_good last_in. end_safe fact interfaces In_t (xml v w last)
      (xml_fine fact interfaces have.0 have.1 have.2 t have.3 have.6 have.9 type have.5 have.8 have.11 v w last
      (v_good, v_in) (w_good, w_in) (last_good, last_in)))))

  -- a closure of a function that is typed where it stands
  pub closure_at : (f : FunctionTree) → IsGoodFunction scope code f
      → FunctionIsWritten (IsGoodPattern scope) (IsGoodFunction scope code) f
      → (types : Types) (env : Env) → Here types env → (t : Typ) → FunctionHas kept scope types f t
      → IsGood fact interfaces (Closure (place_of f) env)
  closure_at f is written types env sees t have = closure_good fact interfaces (place_of f) env
      (arrows_of_function kept scope code interfaces given (place_of f) f is.found is.guarded types t have)
      (record {
        f = f;
        found = is.found;
        guarded = is.guarded;
        written = written;
        types = types;
        are_types = sees.are_types;
        fit = sees.fit;
        t = t;
        typed = have;
      }) sees.good

  pub function_safe : (f : FunctionTree) → IsGoodFunction scope code f
      → FunctionIsWritten (IsGoodPattern scope) (IsGoodFunction scope code) f → KindIsSafe kept scope code interfaces call (Function f)
  function_safe (function at name name_at interface branches) is written types env sees t type have =
      let f = function at name name_at interface branches in
      let good = closure_at f is written types env sees t have in
      let inside = closure_in interfaces at env sees.good.are_values have.0
      (given.are_arrows at f is.found is.guarded have.0 have.2) have.1 have.3 in
      end_safe fact interfaces (ValueIn interfaces t) (Done (Closure at env))
      (good_within fact interfaces have.1 t have.3.is_type type have.5 (Closure at env) (good, inside))
