-- The typing rules: when an expression has a type, where its names have types.
--
-- Each rule guesses types of the operands, and asks that the type of the whole holds all that the
-- form gives for elements of these. Where a rule speaks of a branch, it speaks of those elements
-- alone that the branch is the first to take: other branches have no rule. What comes to a match is
-- within a type that is kept for it, where types are kept.
use Rattle.std.specs.Prelude.{◌≡◌, true, false, List, [], ◌∷◌, ◌++◌, Some}
use Rattle.cd_syntax.specs.Name.{Name}
use Rattle.cd_syntax.specs.TypeTree.{Tree}
use Rattle.cd_model.specs.AllOf.{AllOf}
use Rattle.cd_model.specs.BuiltIns.{ATOM, BOOL, RECORD, DATA}
use Rattle.cd_model.specs.Scope.{Scope}
use Rattle.cd_model.specs.Thing.{Thing}
use Rattle.cd_matching.specs.Captures.{Captures}
use Rattle.cd_matching.specs.Sequences.{thing_of}
use Rattle.cd_program.specs.Expr.{Expr, expr, Kind, Constant, Variable, Tuple, Sequence, Record, Xml}
use Rattle.cd_program.specs.Expr.{Function, Apply, Match, Try, Map, Transform, Let, If, Chain, Call}
use Rattle.cd_program.specs.Expr.{Exprs, NoExpr, AnExpr, Items, NoItem, AnItem, One, Splice, Run}
use Rattle.cd_program.specs.Expr.{Fields, NoField, AField, Tails, NoTail, ATail, Tail, Operand}
use Rattle.cd_program.specs.Expr.{Without, Select, Branches, NoBranch, ABranch, FunctionTree, function}
use Rattle.cd_meaning.specs.Sets.{Set, ◌⊆◌}
use Rattle.cd_meaning.specs.Functions.{AllMapInto}
use Rattle.cd_meaning.specs.Records.{HasFieldAt, IsFieldOf, IsRestOf}
use Rattle.cd_meaning.specs.Sequences.{IsSequence, IsListOf}
use Rattle.cd_typing.specs.Typ.{Typ, In, IsType, BuiltIn, Types, type_at, with_type, AreTypes}
use Rattle.cd_typing.specs.Interfaces.{Arrow, AreWritten, IsIntersection}
use Rattle.cd_typing.specs.Branches.{IsFirst, HoldCaptured, Cover, patterns_of}
use Rattle.cd_typing.specs.Kept.{Kept, Matches}
use Rattle.cd_typing.specs.Results.{IsTupleOf, IsSequenceOf, IsRecordOf, IsXmlOf}
use Rattle.cd_typing.specs.Operators.{truth, Skips, IsReached, Operates, WordGives}

module _ (kept : Kept) (scope : Scope) where
  abbrev mutual
    pub Has : Types → Expr → Typ → Type 0
    Has types (expr span kind) t = KindHas types kind t

    pub KindHas : Types → Kind → Typ → Type 0
    KindHas types (Constant is) t = (λ d. d ≡ thing_of is) ⊆ In t
    KindHas types (Variable name) t =
        (own : Typ) × (type_at types name ≡ Some own) × (In own ⊆ In t)
    KindHas types (Tuple exprs) t =
        (parts : List Typ) × HaveAll types exprs parts × (IsTupleOf parts ⊆ In t)
    KindHas types (Sequence items) t =
        (parts : List Typ) × ItemsHave types items parts × (IsSequenceOf items parts ⊆ In t)
    KindHas types (Record fields) t =
        (parts : List Typ) × FieldsHave types fields parts × (IsRecordOf fields parts ⊆ In t)
    KindHas types (Xml tag attributes content) t = (one : Typ) × (other : Typ) × (last : Typ)
        × IsType one × Has types tag one × (In one ⊆ BuiltIn ATOM)
        × IsType other × Has types attributes other × (In other ⊆ BuiltIn RECORD)
        × IsType last × Has types content last × (IsXmlOf (In one) (In other) (In last) ⊆ In t)
    KindHas types (Function f) t = FunctionHas types f t
    KindHas types (Apply exprs) t = ApplyHas types exprs t
    KindHas types (Match value branches) t = (s : Typ) × IsType s × Has types value s
        × Matches kept (patterns_of branches) (In s) (Cover scope branches (In s))
        × BodiesHave types [] (In s) branches (In t)
    KindHas types (Let pattern value rest) t = (s : Typ) × IsType s × Has types value s
        × Matches kept (pattern ∷ []) (In s) (Cover scope (ABranch pattern rest NoBranch) (In s))
        × ((e : Thing) (captures : Captures Name) → IsFirst scope [] pattern (In s) e captures
        → (own : Types) × AreTypes own × HoldCaptured scope own [] pattern (In s)
        × Has (own ++ types) rest t)
    KindHas types (If condition then_one else_one) t = (s : Typ) × IsType s
        × Has types condition s × (In s ⊆ BuiltIn BOOL)
        × (In s (truth true) → Has types then_one t)
        × (In s (truth false) → Has types else_one t)
    KindHas types (Try body branches) t = Has types body t
        × Matches kept (patterns_of branches) (BuiltIn DATA)
        (BodiesHave types [] (BuiltIn DATA) branches (In t))
    KindHas types (Map value branches) t = (s : Typ) × (item : Typ) × (result : Typ)
        × IsType s × Has types value s × IsType item × (In s ⊆ IsListOf (In item))
        × Matches kept (patterns_of branches) (In item) (Cover scope branches (In item))
        × IsType result × BodiesHave types [] (In item) branches (In result)
        × (IsListOf (In result) ⊆ In t)
    KindHas types (Transform value branches) t = (s : Typ) × (item : Typ) × (result : Typ)
        × IsType s × Has types value s × IsType item × (In s ⊆ IsListOf (In item))
        × IsType result × Matches kept (patterns_of branches) (In item)
        (BodiesHave types [] (In item) branches (IsListOf (In result)))
        × (IsListOf (In result) ⊆ In t)
    KindHas types (Chain first tails) t =
        (s : Typ) × IsType s × Has types first s × TailsHave types s tails t
    KindHas types (Call word operand) t =
        (s : Typ) × IsType s × Has types operand s × WordGives word (In s) (In t)

    -- the parts of a tuple
    pub HaveAll : Types → Exprs → List Typ → Type 0
    HaveAll types NoExpr [] = Unit {0}
    HaveAll types (AnExpr e rest) (s ∷ parts) =
        IsType s × Has types e s × HaveAll types rest parts
    HaveAll types NoExpr (s ∷ parts) = ⊥
    HaveAll types (AnExpr e rest) [] = ⊥

    -- the items of a sequence that are expressions
    pub ItemsHave : Types → Items → List Typ → Type 0
    ItemsHave types NoItem [] = Unit {0}
    ItemsHave types NoItem (s ∷ parts) = ⊥
    ItemsHave types (AnItem (One e) rest) [] = ⊥
    ItemsHave types (AnItem (One e) rest) (s ∷ parts) =
        IsType s × Has types e s × ItemsHave types rest parts
    ItemsHave types (AnItem (Splice e) rest) [] = ⊥
    ItemsHave types (AnItem (Splice e) rest) (s ∷ parts) =
        IsType s × Has types e s × (In s ⊆ IsSequence) × ItemsHave types rest parts
    ItemsHave types (AnItem (Run characters) rest) parts = ItemsHave types rest parts

    -- the fields of a record
    pub FieldsHave : Types → Fields → List Typ → Type 0
    FieldsHave types NoField [] = Unit {0}
    FieldsHave types NoField (s ∷ parts) = ⊥
    FieldsHave types (AField label at e rest) [] = ⊥
    FieldsHave types (AField label at e rest) (s ∷ parts) =
        IsType s × Has types e s × FieldsHave types rest parts

    -- a function has its branches typed for each arrow, where its own name has the type of its
    -- interface
    pub FunctionHas : Types → FunctionTree → Typ → Type 0
    FunctionHas types (function at name name_at interface branches) t =
        (arrows : List Arrow) × (self : Typ) × AreWritten scope interface arrows
        × IsIntersection arrows self
        × AllOf (λ arrow. Matches kept (patterns_of branches) (In arrow.argument)
        (Cover scope branches (In arrow.argument))
        × BodiesHave (with_type name self types) [] (In arrow.argument) branches
        (In arrow.result)) arrows
        × (In self ⊆ In t)

    -- a function is applied to one argument after the other
    pub ApplyHas : Types → Exprs → Typ → Type 0
    ApplyHas types NoExpr t = ⊥
    ApplyHas types (AnExpr e rest) t =
        (s : Typ) × IsType s × Has types e s × ArgumentsHave types s rest t

    pub ArgumentsHave : Types → (self : Typ) → Exprs → Typ → Type 0
    ArgumentsHave types self NoExpr t = In self ⊆ In t
    ArgumentsHave types self (AnExpr e rest) t = (s : Typ) × (result : Typ) × IsType s
        × Has types e s × IsType result × AllMapInto (In self) (In s) (In result)
        × ArgumentsHave types result rest t

    -- operators after an operand of this type
    pub TailsHave : Types → (self : Typ) → Tails → Typ → Type 0
    TailsHave types self NoTail t = In self ⊆ In t
    TailsHave types self (ATail tail rest) t =
        (result : Typ) × IsType result × TailHas types self tail result
        × TailsHave types result rest t

    pub TailHas : Types → (self : Typ) → Tail → (result : Typ) → Type 0
    TailHas types self (Operand op e) result = Skips op (In self) (In result)
        × (IsReached op (In self) → (s : Typ) × IsType s × Has types e s
        × Operates op (In self) (In s) (In result))
    TailHas types self (Without label) result =
        (In self ⊆ BuiltIn RECORD) × (IsRestOf label (In self) ⊆ In result)
    TailHas types self (Select label) result =
        (In self ⊆ HasFieldAt label) × (IsFieldOf label (In self) ⊆ In result)

    -- the body of each branch that some element is the first to come to has a type within what is
    -- wanted, where its variables have types that hold what they capture
    pub BodiesHave : Types → (before : List Tree) → (matched : Set) → Branches → (wanted : Set)
        → Type 0
    BodiesHave types before matched NoBranch wanted = Unit {0}
    BodiesHave types before matched (ABranch pattern body rest) wanted =
        ((e : Thing) (captures : Captures Name) → IsFirst scope before pattern matched e captures
        → (own : Types) × (s : Typ) × AreTypes own × HoldCaptured scope own before pattern matched
        × IsType s × Has (own ++ types) body s × (In s ⊆ wanted))
        × BodiesHave types (pattern ∷ before) matched rest wanted
