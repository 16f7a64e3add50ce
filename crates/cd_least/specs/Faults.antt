-- Faults of typing: an expression that is reached, a rule that it does not meet, and an element
-- that shows this.
--
-- A form is reached through its operands; through the body of a function, once for each of its
-- arrows; and through each branch that some element is the first to come to, of those that are
-- matched. What is matched is what an operand has in all its types.
use Rattle.std.specs.Prelude.{◌≡◌, ◌⊎◌, ℕ, true, false, pos, List, [], ◌∷◌, ◌++◌}
use Rattle.cd_syntax.specs.TypeTree.{Tree}
use Rattle.cd_model.specs.AllOf.{AnyOf}
use Rattle.cd_model.specs.BuiltIns.{INT, BOOL, STRING, RECORD, DATA, ATOM}
use Rattle.cd_model.specs.Scope.{Scope}
use Rattle.cd_model.specs.Thing.{Thing, Integer}
use Rattle.cd_matching.specs.Captures.{Captures}
use Rattle.cd_syntax.specs.Name.{Name}
use Rattle.cd_program.specs.declared.operator.Op.{Op}
use Rattle.cd_program.specs.declared.operator.Op.TheVariants as op
use Rattle.cd_program.specs.declared.operator.BuiltIn.{BuiltIn as Word}
use Rattle.cd_program.specs.declared.operator.BuiltIn.TheVariants as word
use Rattle.cd_program.specs.Expr.{Expr, expr, Kind, Constant, Variable, Tuple, Sequence, Record, Xml}
use Rattle.cd_program.specs.Expr.{Function, Apply, Match, Try, Map, Transform, Let, If, Chain, Call}
use Rattle.cd_program.specs.Expr.{Exprs, NoExpr, AnExpr, Items, NoItem, AnItem, One, Splice, Run}
use Rattle.cd_program.specs.Expr.{Fields, NoField, AField, Tails, NoTail, ATail, Tail, Operand}
use Rattle.cd_program.specs.Expr.{Without, Select, Branches, NoBranch, ABranch, FunctionTree, function}
use Rattle.cd_meaning.specs.Functions.{IsFunction, AllMapInto}
use Rattle.cd_meaning.specs.Records.{HasFieldAt}
use Rattle.cd_meaning.specs.Sequences.{IsSequence, IsListOf, IsItemOf}
use Rattle.cd_meaning.specs.Sets.{Set, ◌⊆◌}
use Rattle.cd_typing.specs.declared.rule.Rule.{Rule}
use Rattle.cd_typing.specs.declared.rule.Rule.TheVariants as rule
use Rattle.cd_typing.specs.Branches.{IsFirst}
use Rattle.cd_typing.specs.Interfaces.{Arrow, AreWritten, IsIntersection}
use Rattle.cd_typing.specs.Operators.{truth, IsReached, IsNumbers}
use Rattle.cd_typing.specs.Typ.{Typ, In, IsType, BuiltIn, Types, with_type}
use Rattle.cd_typing.specs.Typing.{Has}
use Rattle.cd_least.specs.Misses.{HasSome, Least, Misses, IsUncovered, AreCaptured}

-- An expression up to this operator, or to this argument, of a form that begins here. What comes
-- after stands after it; where it ends is of no account
abbrev pub after_tail : (here : ℕ) → Expr → Tail → Expr
after_tail here first tail =
    expr (record { from = here; to = here }) (Chain first (ATail tail NoTail))

abbrev pub after_argument : (here : ℕ) → Expr → Expr → Expr
after_argument here f e =
    expr (record { from = here; to = here }) (Apply (AnExpr f (AnExpr e NoExpr)))

-- any but 0
abbrev pub NotZero : Set
NotZero d = d ≡ Integer (pos 0) → ⊥

module _ (scope : Scope) where
  -- an operand is reported under this rule
  abbrev pub Breaks : Types → Expr → (needed : Set) → (is : Rule) → (at : ℕ) → Rule → Thing → Type 0
  Breaks types e needed is at reported d = (reported ≡ is) × Misses scope types e needed at d

  -- the one operand or the other is reported
  abbrev pub BreaksOne : Types → (first second : Expr) → (needed : Set) → (is : Rule) → (at : ℕ)
      → Rule
      → Thing → Type 0
  BreaksOne types first second needed is at reported d =
      Breaks types first needed is at reported d ⊎ Breaks types second needed is at reported d

  -- the expression has a type within this set
  abbrev pub HasWithin : Types → Expr → Set → Type 0
  HasWithin types e set = (t : Typ) × IsType t × Has scope types e t × (In t ⊆ set)

  -- what the function may be applied to
  abbrev pub IsAccepted : Types → Expr → Set
  IsAccepted types f d = (s : Typ) × (argument : Typ) × (result : Typ) × IsType s
      × Has scope types f s
      × IsType argument × IsType result × AllMapInto (In s) (In argument) (In result)
      × In argument d

  -- the function is one, and the argument is none of those that it accepts
  abbrev pub ArgumentFault : Types → (f e : Expr) → (at : ℕ) → Rule → Thing → Type 0
  ArgumentFault types f e at reported d = Breaks types f IsFunction rule.NotFunction at reported d
      ⊎ (HasWithin types f IsFunction
      × Breaks types e (IsAccepted types f) rule.Argument at reported d)

  -- integers are needed where not both operands are records: of the first one that is none
  abbrev pub PlusFault : Types → (first second : Expr) → (at : ℕ) → Rule → Thing → Type 0
  PlusFault types first second at reported d = HasSome scope types first
      × HasSome scope types second
      × (HasWithin types first (BuiltIn RECORD) × HasWithin types second (BuiltIn RECORD) → ⊥)
      × (Breaks types first (BuiltIn INT) rule.Operand at reported d
      ⊎ (HasWithin types first (BuiltIn INT)
      × Breaks types second (BuiltIn INT) rule.Operand at reported d))

  -- integers are needed, and where both operands are integers a divisor that is not 0
  abbrev pub QuotientFault : Types → (first second : Expr) → (at : ℕ) → Rule → Thing → Type 0
  QuotientFault types first second at reported d =
      BreaksOne types first second (BuiltIn INT) rule.Operand at reported d
      ⊎ (HasWithin types first (BuiltIn INT) × HasWithin types second (BuiltIn INT)
      × Breaks types second NotZero rule.Divisor at reported d)

  abbrev pub OperatorFault : Types → Op → (first second : Expr) → (at : ℕ) → Rule → Thing → Type 0
  OperatorFault types op.And first second = Breaks types first (BuiltIn BOOL) rule.Condition
  OperatorFault types op.Or first second = Breaks types first (BuiltIn BOOL) rule.Condition
  OperatorFault types op.Equal first second =
      BreaksOne types first second (BuiltIn DATA) rule.Comparison
  OperatorFault types op.Unequal first second =
      BreaksOne types first second (BuiltIn DATA) rule.Comparison
  OperatorFault types op.Concat first second = BreaksOne types first second IsSequence rule.Sequence
  OperatorFault types op.Plus first second = PlusFault types first second
  OperatorFault types op.Div first second = QuotientFault types first second
  OperatorFault types op.Mod first second = QuotientFault types first second
  OperatorFault types is first second = BreaksOne types first second (BuiltIn INT) rule.Operand

  abbrev pub WordFault : Types → Word → Expr → (at : ℕ) → Rule → Thing → Type 0
  WordFault types word.Not e = Breaks types e (BuiltIn BOOL) rule.Condition
  WordFault types word.Flatten e = Breaks types e (IsListOf IsSequence) rule.Sequence
  WordFault types word.IntOf e = Breaks types e (BuiltIn STRING) rule.Text
  WordFault types word.StringOf e = Breaks types e (BuiltIn INT) rule.Operand
  WordFault types word.MinOf e = Breaks types e IsNumbers rule.Numbers
  WordFault types word.MaxOf e = Breaks types e IsNumbers rule.Numbers
  WordFault types word.Raise e = Breaks types e (BuiltIn DATA) rule.Exception

  -- the right operand is met: that of `&&` and of `||` through a truth value of the left one
  abbrev pub IsReachedAfter : Types → Op → (first : Expr) → Type 0
  IsReachedAfter types op.And first =
      HasSome scope types first × IsReached op.And (Least scope types first)
  IsReachedAfter types op.Or first =
      HasSome scope types first × IsReached op.Or (Least scope types first)
  IsReachedAfter types is first = Unit {0}

  -- what is reported of the body of a branch beside its own faults
  abbrev pub Owed : Type 1
  Owed = Types → Expr → (at : ℕ) → Rule → Thing → Type 0

  abbrev pub Nothing : Owed
  Nothing types e at reported d = ⊥

  abbrev pub AResult : Set → Owed
  AResult needed types e at reported d = Breaks types e needed rule.Result at reported d

  abbrev pub ASequence : Owed
  ASequence types e at reported d = Breaks types e IsSequence rule.BranchSequence at reported d

  abbrev mutual
    pub Fault : Types → Expr → (at : ℕ) → Rule → Thing → Type 0
    Fault types (expr span kind) at reported d = KindFault types span.from kind at reported d

    pub KindFault : Types → (here : ℕ) → Kind → (at : ℕ) → Rule → Thing → Type 0
    KindFault types here (Constant is) at reported d = ⊥
    KindFault types here (Variable name) at reported d = ⊥
    KindFault types here (Tuple exprs) at reported d = ExprsFault types exprs at reported d
    KindFault types here (Sequence items) at reported d = ItemsFault types items at reported d
    KindFault types here (Record fields) at reported d = FieldsFault types fields at reported d
    KindFault types here (Xml tag attributes content) at reported d = Fault types tag at reported d
        ⊎ (Fault types attributes at reported d ⊎ (Fault types content at reported d
        ⊎ (Breaks types tag (BuiltIn ATOM) rule.Tag at reported d
        ⊎ Breaks types attributes (BuiltIn RECORD) rule.Attributes at reported d)))
    KindFault types here (Function f) at reported d = FunctionFault types f at reported d
    KindFault types here (Apply exprs) at reported d = ApplyFault types here exprs at reported d
    KindFault types here (Match value branches) at reported d = Fault types value at reported d
        ⊎ (HasSome scope types value
        × (IsUncovered scope here branches (Least scope types value) at reported d
        ⊎ BranchFault types [] (Least scope types value) Nothing branches at reported d))
    KindFault types here (Let pattern value rest) at reported d = Fault types value at reported d
        ⊎ (HasSome scope types value
        × (IsUncovered scope here (ABranch pattern rest NoBranch)
        (Least scope types value) at reported d
        ⊎ ((e : Thing) × (captures : Captures Name)
        × IsFirst scope [] pattern (Least scope types value) e captures
        × (own : Types) × AreCaptured scope own [] pattern (Least scope types value)
        × Fault (own ++ types) rest at reported d)))
    KindFault types here (If condition then_one else_one) at reported d =
        Fault types condition at reported d
        ⊎ (Breaks types condition (BuiltIn BOOL) rule.Condition at reported d
        ⊎ (HasSome scope types condition
        × ((Least scope types condition (truth true) × Fault types then_one at reported d)
        ⊎ (Least scope types condition (truth false) × Fault types else_one at reported d))))
    KindFault types here (Try body branches) at reported d = Fault types body at reported d
        ⊎ BranchFault types [] (BuiltIn DATA) Nothing branches at reported d
    KindFault types here (Map value branches) at reported d = Fault types value at reported d
        ⊎ (Breaks types value IsSequence rule.Sequence at reported d
        ⊎ (HasSome scope types value
        × (IsUncovered scope here branches (IsItemOf (Least scope types value)) at reported d
        ⊎ BranchFault types []
        (IsItemOf (Least scope types value)) Nothing branches at reported d)))
    KindFault types here (Transform value branches) at reported d = Fault types value at reported d
        ⊎ (Breaks types value IsSequence rule.Sequence at reported d
        ⊎ (HasSome scope types value
        × BranchFault types []
        (IsItemOf (Least scope types value)) ASequence branches at reported d))
    KindFault types here (Chain first tails) at reported d = Fault types first at reported d
        ⊎ TailsFault types here first tails at reported d
    KindFault types here (Call word operand) at reported d = Fault types operand at reported d
        ⊎ WordFault types word operand at reported d

    pub ExprsFault : Types → Exprs → (at : ℕ) → Rule → Thing → Type 0
    ExprsFault types NoExpr at reported d = ⊥
    ExprsFault types (AnExpr e rest) at reported d =
        Fault types e at reported d ⊎ ExprsFault types rest at reported d

    -- what is spliced is a sequence
    pub ItemsFault : Types → Items → (at : ℕ) → Rule → Thing → Type 0
    ItemsFault types NoItem at reported d = ⊥
    ItemsFault types (AnItem (One e) rest) at reported d =
        Fault types e at reported d ⊎ ItemsFault types rest at reported d
    ItemsFault types (AnItem (Splice e) rest) at reported d = Fault types e at reported d
        ⊎ (Breaks types e IsSequence rule.Splice at reported d
        ⊎ ItemsFault types rest at reported d)
    ItemsFault types (AnItem (Run characters) rest) at reported d =
        ItemsFault types rest at reported d

    pub FieldsFault : Types → Fields → (at : ℕ) → Rule → Thing → Type 0
    FieldsFault types NoField at reported d = ⊥
    FieldsFault types (AField label label_at e rest) at reported d =
        Fault types e at reported d ⊎ FieldsFault types rest at reported d

    -- of one of the arrows
    pub FunctionFault : Types → FunctionTree → (at : ℕ) → Rule → Thing → Type 0
    FunctionFault types (function here name name_at interface branches) at reported d =
        (arrows : List Arrow) × (self : Typ) × AreWritten scope interface arrows
        × IsIntersection arrows self
        × AnyOf (λ arrow. IsUncovered scope here branches (In arrow.argument) at reported d
        ⊎ BranchFault (with_type name self types) [] (In arrow.argument) (AResult (In arrow.result))
        branches at reported d) arrows

    pub ApplyFault : Types → (here : ℕ) → Exprs → (at : ℕ) → Rule → Thing → Type 0
    ApplyFault types here NoExpr at reported d = ⊥
    ApplyFault types here (AnExpr e rest) at reported d =
        Fault types e at reported d ⊎ ArgumentsFault types here e rest at reported d

    -- of the arguments of what stands before, in an application that begins here
    pub ArgumentsFault : Types → (here : ℕ) → (f : Expr) → Exprs → (at : ℕ) → Rule → Thing → Type 0
    ArgumentsFault types here f NoExpr at reported d = ⊥
    ArgumentsFault types here f (AnExpr e rest) at reported d = Fault types e at reported d
        ⊎ (ArgumentFault types f e at reported d
        ⊎ ArgumentsFault types here (after_argument here f e) rest at reported d)

    -- of the operators after what stands before, in a chain that begins here
    pub TailsFault : Types → (here : ℕ) → (first : Expr) → Tails → (at : ℕ) → Rule → Thing → Type 0
    TailsFault types here first NoTail at reported d = ⊥
    TailsFault types here first (ATail tail rest) at reported d =
        TailFault types first tail at reported d
        ⊎ TailsFault types here (after_tail here first tail) rest at reported d

    pub TailFault : Types → (first : Expr) → Tail → (at : ℕ) → Rule → Thing → Type 0
    TailFault types first (Operand is e) at reported d =
        (IsReachedAfter types is first × Fault types e at reported d)
        ⊎ OperatorFault types is first e at reported d
    TailFault types first (Without label) at reported d =
        Breaks types first (BuiltIn RECORD) rule.Record at reported d
    TailFault types first (Select label) at reported d =
        Breaks types first (HasFieldAt label) rule.Field at reported d

    -- of a branch that some element is the first to come to, or what its body owes
    pub BranchFault : Types → (before : List Tree) → (matched : Set) → Owed → Branches → (at : ℕ)
        → Rule → Thing → Type 0
    BranchFault types before matched owed NoBranch at reported d = ⊥
    BranchFault types before matched owed (ABranch pattern body rest) at reported d =
        ((e : Thing) × (captures : Captures Name) × IsFirst scope before pattern matched e captures
        × (own : Types) × AreCaptured scope own before pattern matched
        × (Fault (own ++ types) body at reported d ⊎ owed (own ++ types) body at reported d))
        ⊎ BranchFault types (pattern ∷ before) matched owed rest at reported d
