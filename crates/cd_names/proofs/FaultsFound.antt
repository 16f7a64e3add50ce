-- What is found in an expression and in a program: a fact of all of it is one of all their faults.
use Rattle.std.proofs.Common.{◌≡◌, ap, refl, true, false, true≢false, Bool, ℕ, inl}
use Rattle.std.proofs.Common.{inr, ◌↔◌, List, [], ◌∷◌, ◌++◌, map}
use Rattle.std.specs.Prelude.{codes}
use Rattle.cd_syntax.specs.Name.{Name}
use Rattle.cd_syntax.specs.TypeTree.{Tree, Declarations}
use Rattle.cd_syntax.specs.declared.tokens.Span.{Span}
use Rattle.cd_program.specs.Expr as form
use Rattle.cd_program.specs.Expr.{Expr, expr, Kind, Exprs, NoExpr, AnExpr, Items, NoItem, AnItem}
use Rattle.cd_program.specs.Expr.{Item, One, Splice, Run}
use Rattle.cd_program.specs.Expr.{Fields, NoField, AField, Tails, NoTail, ATail, Tail, Operand}
use Rattle.cd_program.specs.Expr.{Without, Select}
use Rattle.cd_program.specs.Expr.{Branches, NoBranch, ABranch, FunctionTree, function, Signature}
use Rattle.cd_program.specs.Expr.{Program}
use Rattle.cd_model.specs.AllOf.{AllOf}
use Rattle.cd_resolve.specs.Faults.{Fault, IsFaultOfType}
use Rattle.cd_resolve.specs.declared.fault.NameFault.TheVariants.{Unknown, Twice, NoMain}
use Rattle.cd_variables.specs.Occurrences.{Occurrence}
use Rattle.cd_variables.specs.VariableFaults.{IsOneIn}
use Rattle.cd_names.specs.ProgramFaults as faults
use Rattle.cd_names.specs.ProgramFaults.{Seen, is_seen, names_of, IsFaultOfPattern, Part, part}
use Rattle.cd_names.specs.ProgramFaults.{all_exprs, item_exprs}
use Rattle.cd_names.specs.ProgramFaults.{field_exprs, operands, bodies, patterns, with_name}
use Rattle.cd_names.specs.ProgramFaults.{function_bodies, parts}
use Rattle.cd_names.specs.ProgramFaults.{function_patterns, arrow_types, function_types}
use Rattle.cd_names.specs.ProgramFaults.{patterns_in, types_in}
use Rattle.cd_names.specs.ProgramFaults.{HasField, LabelAgain, IsFaultOfExpr, IsFaultOfFunction}
use Rattle.cd_names.specs.ProgramFaults.{declared_names}
use Rattle.cd_names.specs.ProgramFaults.{DeclaredAgain, all_functions, IsFaultOfProgram}
use Rattle.cd_names.specs.Inner.FindingInPrograms.{Found, nothing, with_pattern, with_types}
use Rattle.cd_names.specs.Inner.FindingInPrograms.{labels_of, again, main_found}
use Rattle.cd_names.specs.Inner.FindingInPrograms.{found_in_expr, found_in_kind, found_in_exprs}
use Rattle.cd_names.specs.Inner.FindingInPrograms.{found_in_items}
use Rattle.cd_names.specs.Inner.FindingInPrograms.{found_in_fields, found_in_tails}
use Rattle.cd_names.specs.Inner.FindingInPrograms.{found_in_branches, found_in_function}
use Rattle.cd_names.specs.Inner.FindingInPrograms.{found_in_functions}
use Rattle.cd_names.specs.Inner.FindingInPrograms.{found_in_program}
use Rattle.cd_names.proofs.Covering.{each_member, then, value_first, three_parts, other_same}
use Rattle.cd_names.proofs.Covering.{nothing_more, Covers, VariablesFound, covers_pattern}
use Rattle.cd_names.proofs.Covering.{covers_types, covers_met, covers_again, covers_reported}

-- a label stands at a place, and stands there again
abbrev Stands : Name → ℕ → Fields → Type 0
Stands label at fields = IsOneIn (record { name = label; at = at }) (labels_of fields)

abbrev StandsAgain : Name → ℕ → Fields → Type 0
StandsAgain label at fields = DeclaredAgain (record { name = label; at = at }) (labels_of fields)

has_field : (label : Name) (at : ℕ) (fields : Fields)
    → HasField label at fields ↔ Stands label at fields
has_field label at NoField = (λ is. is, λ is. is)
has_field label at (AField name place e rest) =
    (λ is. to is (has_field label at rest).0, λ is. from is (has_field label at rest).1)
  where
    to : HasField label at (AField name place e rest)
        → (HasField label at rest → Stands label at rest)
        → Stands label at (AField name place e rest)
    to (inl (same, there)) on = inl (rw (same, there) refl)
    to (inr is) on = inr (on is)

    from : Stands label at (AField name place e rest)
        → (Stands label at rest → HasField label at rest)
        → HasField label at (AField name place e rest)
    from (inl same) on =
        inl (ap (λ (o : Occurrence). o.name) same, ap (λ (o : Occurrence). o.at) same)
    from (inr is) on = inr (on is)

label_again : (label : Name) (at : ℕ) (fields : Fields)
    → LabelAgain label at fields ↔ StandsAgain label at fields
label_again label at NoField = (λ is. is, λ is. is)
label_again label at (AField name place e rest) =
    (λ is. to is (label_again label at rest).0, λ is. from is (label_again label at rest).1)
  where
    to : LabelAgain label at (AField name place e rest)
        → (LabelAgain label at rest → StandsAgain label at rest)
        → StandsAgain label at (AField name place e rest)
    to (inl (same, there)) on = inl (same, (has_field label at rest).0 there)
    to (inr is) on = inr (on is)

    from : StandsAgain label at (AField name place e rest)
        → (StandsAgain label at rest → LabelAgain label at rest)
        → LabelAgain label at (AField name place e rest)
    from (inl (same, there)) on = inl (same, (has_field label at rest).1 there)
    from (inr is) on = inr (on is)

module _ (types : Declarations) (variables : VariablesFound) (P : Fault → Type 0) where
  -- all faults of a type, of a pattern and of a part have the fact
  abbrev OfType : Tree → Type 0
  OfType t = (f : Fault) → IsFaultOfType types t f → P f

  abbrev OfPattern : Tree → Type 0
  OfPattern pattern = (f : Fault) → IsFaultOfPattern types pattern f → P f

  abbrev OfPart : Part → Type 0
  OfPart one = (f : Fault) → IsFaultOfExpr types one.seen one.expr f → P f

  -- what is wrong with names that stand in an expression itself
  abbrev OfNames : Seen → (at : ℕ) → Kind → Type 0
  OfNames seen at (form.Variable name) = is_seen seen name ≡ false
      → P (record { fault = Unknown; name = name; at = at })
  OfNames seen at (form.Record fields) = (label : Name) (at : ℕ) → LabelAgain label at fields
      → P (record { fault = Twice; name = label; at = at })
  OfNames seen at kind = Unit {0}

  record OfKind (seen : Seen) (at : ℕ) (kind : Kind) : Type 0 where
    of_names : OfNames seen at kind
    of_types : AllOf OfType (types_in kind)
    of_patterns : AllOf OfPattern (patterns_in kind)
    of_parts : AllOf OfPart (parts seen kind)

  names_reported : (seen : Seen) (span : Span) (kind : Kind) → OfPart (part seen (expr span kind))
      → OfNames seen span.from kind
  names_reported seen span (form.Variable name) h = λ not. h _ (faults.unknown seen span name not)
  names_reported seen span (form.Record fields) h =
      λ label at is. h _ (faults.label_twice seen span fields label at is)
  names_reported seen span kind h = tt

  of_kind : (seen : Seen) (span : Span) (kind : Kind) → OfKind seen span.from kind
      ↔ OfPart (part seen (expr span kind))
  of_kind seen span kind = (
    λ h f is. to kind h f is,
    λ h. record {
      of_names = names_reported seen span kind h;
      of_types = (each_member OfType (types_in kind)).1
          (λ t there f is. h f (faults.in_type seen span kind t f there is));
      of_patterns = (each_member OfPattern (patterns_in kind)).1
          (λ t there f is. h f (faults.in_pattern seen span kind t f there is));
      of_parts = (each_member OfPart (parts seen kind)).1
          (λ one there f is. h f (faults.in_part seen one.seen span kind one.expr f there is));
    },
  )
    where
      to : (kind : Kind) → OfKind seen span.from kind → (f : Fault)
          → IsFaultOfExpr types seen (expr span kind) f → P f
      to (form.Variable name) h f (faults.unknown _ _ _ not) = h.of_names not
      to (form.Record fields) h f (faults.label_twice _ _ _ label at is) = h.of_names label at is
      to kind h f (faults.in_type _ _ _ t _ there is) =
          (each_member OfType (types_in kind)).0 h.of_types t there f is
      to kind h f (faults.in_pattern _ _ _ t _ there is) =
          (each_member OfPattern (patterns_in kind)).0 h.of_patterns t there f is
      to kind h f (faults.in_part _ inner _ _ e _ there is) =
          (each_member OfPart (parts seen kind)).0 h.of_parts (part inner e) there f is

  -- where patterns and parts matter, and parts alone
  with_patterns : (seen : Seen) (at : ℕ) (kind : Kind) → OfNames seen at kind
      → AllOf OfType (types_in kind)
      → (AllOf OfPattern (patterns_in kind) × AllOf OfPart (parts seen kind)) ↔ OfKind seen at kind
  with_patterns seen at kind names types = (
    λ h. record { of_names = names; of_types = types; of_patterns = h.0; of_parts = h.1 },
    λ h. (h.of_patterns, h.of_parts),
  )

  parts_alone : (seen : Seen) (at : ℕ) (kind : Kind) → OfNames seen at kind
      → AllOf OfType (types_in kind) → AllOf OfPattern (patterns_in kind)
      → AllOf OfPart (parts seen kind) ↔ OfKind seen at kind
  parts_alone seen at kind names types patterns =
      (λ parts. (with_patterns seen at kind names types).0 (patterns, parts), λ h. h.of_parts)

  mutual
    pub covers_expr : (seen : Seen) (e : Expr) (s : Found) → Covers types P (found_in_expr seen e s)
        ↔ (Covers types P s × OfPart (part seen e))
    covers_expr seen (expr span kind) s =
        other_same (covers_kind seen span.from kind s) (of_kind seen span kind)

    covers_kind : (seen : Seen) (at : ℕ) (kind : Kind) (s : Found)
        → Covers types P (found_in_kind seen at kind s) ↔ (Covers types P s × OfKind seen at kind)
    covers_kind seen at (form.Constant constant) s = other_same nothing_more
        (parts_alone seen at (form.Constant constant) tt tt tt)
    covers_kind seen at (form.Variable name) s =
        other_same (covers_met types P (is_seen seen name) name at s) (
          λ h. record { of_names = h; of_types = tt; of_patterns = tt; of_parts = tt },
          λ h. h.of_names,
        )
    covers_kind seen at (form.Tuple exprs) s = other_same (covers_exprs seen exprs s)
        (parts_alone seen at (form.Tuple exprs) tt tt tt)
    covers_kind seen at (form.Sequence items) s = other_same (covers_items seen items s)
        (parts_alone seen at (form.Sequence items) tt tt tt)
    covers_kind seen at (form.Record fields) s = other_same
        (then (covers_fields seen fields (again [] (labels_of fields) s))
        (covers_again types P (labels_of fields) s)) (
          λ h. (parts_alone seen at (form.Record fields) (λ label at is.
              h.0 (record { name = label; at = at }) ((label_again label at fields).0 is))
              tt tt).0 h.1,
          λ h. (λ o is. h.of_names o.name o.at ((label_again o.name o.at fields).1 is), h.of_parts),
        )
    covers_kind seen at (form.Xml tag attributes content) s = other_same (three_parts
        (covers_expr seen content (found_in_expr seen attributes (found_in_expr seen tag s)))
        (covers_expr seen attributes (found_in_expr seen tag s)) (covers_expr seen tag s))
        (parts_alone seen at (form.Xml tag attributes content) tt tt tt)
    covers_kind seen at (form.Function f) s = other_same (covers_function seen f s) (
      λ h. record { of_names = tt; of_types = h.0; of_patterns = h.1.0; of_parts = h.1.1 },
      λ h. (h.of_types, (h.of_patterns, h.of_parts)),
    )
    covers_kind seen at (form.Apply exprs) s = other_same (covers_exprs seen exprs s)
        (parts_alone seen at (form.Apply exprs) tt tt tt)
    covers_kind seen at (form.Match value branches) s = other_same (value_first
        (covers_branches seen branches (found_in_expr seen value s)) (covers_expr seen value s))
        (with_patterns seen at (form.Match value branches) tt tt)
    covers_kind seen at (form.Try value branches) s = other_same (value_first
        (covers_branches seen branches (found_in_expr seen value s)) (covers_expr seen value s))
        (with_patterns seen at (form.Try value branches) tt tt)
    covers_kind seen at (form.Map value branches) s = other_same (value_first
        (covers_branches seen branches (found_in_expr seen value s)) (covers_expr seen value s))
        (with_patterns seen at (form.Map value branches) tt tt)
    covers_kind seen at (form.Transform value branches) s = other_same (value_first
        (covers_branches seen branches (found_in_expr seen value s)) (covers_expr seen value s))
        (with_patterns seen at (form.Transform value branches) tt tt)
    covers_kind seen at (form.Let pattern value rest) s = other_same
        (then (covers_expr (names_of pattern ++ seen) rest
        (with_pattern pattern (found_in_expr seen value s)))
        (then (covers_pattern types P variables pattern (found_in_expr seen value s))
        (covers_expr seen value s))) (
          λ h. (with_patterns seen at (form.Let pattern value rest) tt tt).0
              ((h.0.1, tt), (h.0.0, (h.1, tt))),
          λ h. ((h.of_parts.0, h.of_patterns.0), h.of_parts.1.0),
        )
    covers_kind seen at (form.If condition then_one else_one) s = other_same (three_parts
        (covers_expr seen else_one (found_in_expr seen then_one (found_in_expr seen condition s)))
        (covers_expr seen then_one (found_in_expr seen condition s)) (covers_expr seen condition s))
        (parts_alone seen at (form.If condition then_one else_one) tt tt tt)
    covers_kind seen at (form.Chain first tails) s = other_same
        (then (covers_tails seen tails (found_in_expr seen first s)) (covers_expr seen first s))
        (parts_alone seen at (form.Chain first tails) tt tt tt)
    covers_kind seen at (form.Call word e) s = other_same (covers_expr seen e s)
        (λ h. (parts_alone seen at (form.Call word e) tt tt tt).0 (h, tt), λ h. h.of_parts.0)

    covers_exprs : (seen : Seen) (exprs : Exprs) (s : Found)
        → Covers types P (found_in_exprs seen exprs s)
        ↔ (Covers types P s × AllOf OfPart (map (part seen) (all_exprs exprs)))
    covers_exprs seen NoExpr s = nothing_more
    covers_exprs seen (AnExpr first rest) s =
        then (covers_exprs seen rest (found_in_expr seen first s)) (covers_expr seen first s)

    covers_items : (seen : Seen) (items : Items) (s : Found)
        → Covers types P (found_in_items seen items s)
        ↔ (Covers types P s × AllOf OfPart (map (part seen) (item_exprs items)))
    covers_items seen NoItem s = nothing_more
    covers_items seen (AnItem (One e) rest) s =
        then (covers_items seen rest (found_in_expr seen e s)) (covers_expr seen e s)
    covers_items seen (AnItem (Splice e) rest) s =
        then (covers_items seen rest (found_in_expr seen e s)) (covers_expr seen e s)
    covers_items seen (AnItem (Run characters) rest) s = covers_items seen rest s

    covers_fields : (seen : Seen) (fields : Fields) (s : Found)
        → Covers types P (found_in_fields seen fields s)
        ↔ (Covers types P s × AllOf OfPart (map (part seen) (field_exprs fields)))
    covers_fields seen NoField s = nothing_more
    covers_fields seen (AField label at e rest) s =
        then (covers_fields seen rest (found_in_expr seen e s)) (covers_expr seen e s)

    covers_tails : (seen : Seen) (tails : Tails) (s : Found)
        → Covers types P (found_in_tails seen tails s)
        ↔ (Covers types P s × AllOf OfPart (map (part seen) (operands tails)))
    covers_tails seen NoTail s = nothing_more
    covers_tails seen (ATail (Operand op e) rest) s =
        then (covers_tails seen rest (found_in_expr seen e s)) (covers_expr seen e s)
    covers_tails seen (ATail (Without label) rest) s = covers_tails seen rest s
    covers_tails seen (ATail (Select label) rest) s = covers_tails seen rest s

    covers_branches : (seen : Seen) (branches : Branches) (s : Found)
        → Covers types P (found_in_branches seen branches s)
        ↔ (Covers types P s
        × (AllOf OfPattern (patterns branches) × AllOf OfPart (bodies seen branches)))
    covers_branches seen NoBranch s = (λ h. (h, (tt, tt)), λ h. h.0)
    covers_branches seen (ABranch pattern body rest) s = other_same
        (then (covers_branches seen rest
        (found_in_expr (names_of pattern ++ seen) body (with_pattern pattern s)))
        (then (covers_expr (names_of pattern ++ seen) body (with_pattern pattern s))
        (covers_pattern types P variables pattern s)))
        (λ h. ((h.0.0, h.1.0), (h.0.1, h.1.1)), λ h. ((h.0.0, h.1.0), (h.0.1, h.1.1)))

    pub covers_function : (seen : Seen) (f : FunctionTree) (s : Found)
        → Covers types P (found_in_function seen f s)
        ↔ (Covers types P s × (AllOf OfType (function_types f)
        × (AllOf OfPattern (function_patterns f) × AllOf OfPart (function_bodies seen f))))
    covers_function seen (function at name name_at interface branches) s =
        then (covers_branches (with_name name seen) branches (with_types interface s))
        (covers_types types P interface s)

  -- all faults of a function that is declared have the fact
  abbrev OfFunction : Seen → FunctionTree → Type 0
  OfFunction seen one = (f : Fault) → IsFaultOfFunction types seen one f → P f

  of_function : (seen : Seen) (one : FunctionTree) → (AllOf OfType (function_types one)
      × (AllOf OfPattern (function_patterns one) × AllOf OfPart (function_bodies seen one)))
      ↔ OfFunction seen one
  of_function seen one = (
    λ h f is. to h f is,
    λ h. (
      (each_member OfType (function_types one)).1
          (λ t there f is. h f (faults.in_type t f there is)),
      (
        (each_member OfPattern (function_patterns one)).1
            (λ t there f is. h f (faults.in_pattern t f there is)),
        (each_member OfPart (function_bodies seen one)).1
            (λ body there f is. h f (faults.in_body body.seen body.expr f there is)),
      ),
    ),
  )
    where
      to : (AllOf OfType (function_types one) × (AllOf OfPattern (function_patterns one)
          × AllOf OfPart (function_bodies seen one))) → (f : Fault)
          → IsFaultOfFunction types seen one f → P f
      to h f (faults.in_type t _ there is) =
          (each_member OfType (function_types one)).0 h.0 t there f is
      to h f (faults.in_pattern t _ there is) =
          (each_member OfPattern (function_patterns one)).0 h.1.0 t there f is
      to h f (faults.in_body inner e _ there is) =
          (each_member OfPart (function_bodies seen one)).0 h.1.1 (part inner e) there f is

  covers_functions : (seen : Seen) (all : List FunctionTree) (s : Found)
      → Covers types P (found_in_functions seen all s)
      ↔ (Covers types P s × AllOf (OfFunction seen) all)
  covers_functions seen [] s = nothing_more
  covers_functions seen (first ∷ rest) s =
      then (covers_functions seen rest (found_in_function seen first s))
      (other_same (covers_function seen first s) (of_function seen first))

  covers_main : (seen : Bool) (end : ℕ) (s : Found) → Covers types P (main_found seen end s)
      ↔ (Covers types P s × (seen ≡ false → P (record { fault = NoMain; name = []; at = end })))
  covers_main true end s = (λ h. (h, λ never. absurd (true≢false never)), λ h. h.0)
  covers_main false end s = other_same (covers_reported types P NoMain [] end s)
      (λ is never. is, λ is. is refl)

  nothing_covers : Covers types P nothing
  nothing_covers = record { faults = λ f is. elim is [ ]; trees = tt }

  pub record OfProgram (program : Program) : Type 0 where
    pub again : (o : Occurrence) → DeclaredAgain o (declared_names program.functions)
        → P (record { fault = Twice; name = o.name; at = o.at })
    pub main : is_seen (all_functions program) (codes "main") ≡ false
        → P (record { fault = NoMain; name = []; at = program.end })
    pub functions : (one : FunctionTree) → IsOneIn one program.functions
        → OfFunction (all_functions program) one

  pub covers_program : (program : Program) → Covers types P (found_in_program program)
      ↔ OfProgram program
  covers_program program = (
    λ h. let all = parts.0 h in
        record {
          again = all.1.0.0;
          main = all.1.0.1;
          functions = (each_member _ program.functions).0 all.1.1;
        },
    λ h. parts.1
        (nothing_covers, ((h.again, h.main), (each_member _ program.functions).1 h.functions)),
  )
    where
      parts : Covers types P (found_in_program program) ↔ (Covers types P nothing
          × ((((o : Occurrence) → DeclaredAgain o (declared_names program.functions)
          → P (record { fault = Twice; name = o.name; at = o.at }))
          × (is_seen (all_functions program) (codes "main") ≡ false
          → P (record { fault = NoMain; name = []; at = program.end })))
          × AllOf (OfFunction (all_functions program)) program.functions))
      parts = then (covers_functions (all_functions program) program.functions _)
          (then (covers_main _ program.end _)
          (covers_again types P (declared_names program.functions) nothing))
