-- What has a type has each wider one.
use Rattle.std.proofs.Common.{◌≡◌, List, [], ◌∷◌, ◌++◌}
use Rattle.cd_syntax.specs.TypeTree.{Tree}
use Rattle.cd_model.specs.Scope.{Scope}
use Rattle.cd_program.specs.Expr.{Expr, expr, Kind, Constant, Variable, Tuple, Sequence, Record, Xml}
use Rattle.cd_program.specs.Expr.{Function, Apply, Match, Try, Map, Transform, Let, If, Chain, Call}
use Rattle.cd_program.specs.Expr.{Exprs, NoExpr, AnExpr, Tails, NoTail, ATail, Branches, NoBranch, ABranch}
use Rattle.cd_program.specs.Expr.{FunctionTree, function}
use Rattle.cd_program.specs.declared.operator.BuiltIn.TheVariants as word
use Rattle.cd_program.specs.declared.operator.BuiltIn.{BuiltIn as Word}
use Rattle.cd_matching.specs.Sequences.{thing_of}
use Rattle.cd_model.specs.BuiltIns.{DATA}
use Rattle.cd_meaning.specs.Sets.{Set, ◌⊆◌}
use Rattle.cd_meaning.specs.Sequences.{IsListOf}
use Rattle.cd_typing.specs.Typ.{Typ, In, BuiltIn, Types}
use Rattle.cd_typing.specs.Results.{IsTupleOf, IsSequenceOf, IsRecordOf, IsXmlOf}
use Rattle.cd_typing.specs.Operators.{WordGives}
use Rattle.cd_typing.specs.Typing.{Has, KindHas, FunctionHas, ApplyHas, ArgumentsHave, TailsHave, BodiesHave}
use Rattle.cd_typing.proofs.Subsets.{through}

pub word_gives_more : (word : Word) (operand result wider : Set) → result ⊆ wider
    → WordGives word operand result → WordGives word operand wider
word_gives_more word.Not operand result wider within has = (has.0, through _ result wider has.1 within)
word_gives_more word.Flatten operand result wider within has =
    (has.0, has.1, has.2, through _ result wider has.3 within)
word_gives_more word.IntOf operand result wider within has = (has.0, through _ result wider has.1 within)
word_gives_more word.StringOf operand result wider within has = (has.0, through _ result wider has.1 within)
word_gives_more word.MinOf operand result wider within has = (has.0, through _ result wider has.1 within)
word_gives_more word.MaxOf operand result wider within has = (has.0, through _ result wider has.1 within)
word_gives_more word.Raise operand result wider within has = has

module _ (scope : Scope) where
  pub bodies_have_more : (types : Types) (before : List Tree) (matched : Set) (branches : Branches)
      (wanted wider : Set) → wanted ⊆ wider → BodiesHave scope types before matched branches wanted
      → BodiesHave scope types before matched branches wider
  bodies_have_more types before matched NoBranch wanted wider within has = tt
  bodies_have_more types before matched (ABranch pattern body rest) wanted wider within has = (
    λ e captures first. let one = has.0 e captures first in
        (one.0, one.1, one.2, one.3, one.4, one.5, through (In one.1) wanted wider one.6 within),
    bodies_have_more types (pattern ∷ before) matched rest wanted wider within has.1,
  )

  pub arguments_have_more : (types : Types) (self : Typ) (exprs : Exprs) (t s : Typ) → In t ⊆ In s
      → ArgumentsHave scope types self exprs t → ArgumentsHave scope types self exprs s
  arguments_have_more types self NoExpr t s within has = through (In self) (In t) (In s) has within
  arguments_have_more types self (AnExpr e rest) t s within has = (
    has.0,
    has.1,
    has.2,
    has.3,
    has.4,
    has.5,
    arguments_have_more types has.1 rest t s within has.6,
  )

  pub tails_have_more : (types : Types) (self : Typ) (tails : Tails) (t s : Typ) → In t ⊆ In s
      → TailsHave scope types self tails t → TailsHave scope types self tails s
  tails_have_more types self NoTail t s within has = through (In self) (In t) (In s) has within
  tails_have_more types self (ATail tail rest) t s within has =
      (has.0, has.1, has.2, tails_have_more types has.0 rest t s within has.3)

  apply_has_more : (types : Types) (exprs : Exprs) (t s : Typ) → In t ⊆ In s
      → ApplyHas scope types exprs t → ApplyHas scope types exprs s
  apply_has_more types NoExpr t s within has = has
  apply_has_more types (AnExpr e rest) t s within has =
      (has.0, has.1, has.2, arguments_have_more types has.0 rest t s within has.3)

  pub function_has_more : (types : Types) (f : FunctionTree) (t s : Typ) → In t ⊆ In s
      → FunctionHas scope types f t → FunctionHas scope types f s
  function_has_more types (function at name name_at interface branches) t s within has =
      (has.0, has.1, has.2, has.3, has.4, through (In has.1) (In t) (In s) has.5 within)

  mutual
    pub widen : (e : Expr) (types : Types) (t s : Typ) → In t ⊆ In s → Has scope types e t → Has scope types e s
    widen (expr span kind) types t s within has = widen_kind kind types t s within has

    pub widen_kind : (kind : Kind) (types : Types) (t s : Typ) → In t ⊆ In s → KindHas scope types kind t
        → KindHas scope types kind s
    widen_kind (Constant is) types t s within has = through (λ d. d ≡ thing_of is) (In t) (In s) has within
    widen_kind (Variable name) types t s within has =
        (has.0, has.1, through (In has.0) (In t) (In s) has.2 within)
    widen_kind (Tuple exprs) types t s within has =
        (has.0, has.1, through (IsTupleOf has.0) (In t) (In s) has.2 within)
    widen_kind (Sequence items) types t s within has =
        (has.0, has.1, through (IsSequenceOf items has.0) (In t) (In s) has.2 within)
    widen_kind (Record fields) types t s within has =
        (has.0, has.1, through (IsRecordOf fields has.0) (In t) (In s) has.2 within)
    widen_kind (Xml tag attributes content) types t s within has = (
      has.0,
      has.1,
      has.2,
      has.3,
      has.4,
      has.5,
      has.6,
      has.7,
      has.8,
      has.9,
      has.10,
      through (IsXmlOf (In has.0) (In has.1) (In has.2)) (In t) (In s) has.11 within,
    )
    widen_kind (Function f) types t s within has = function_has_more types f t s within has
    widen_kind (Apply exprs) types t s within has = apply_has_more types exprs t s within has
    widen_kind (Match value branches) types t s within has =
        (has.0, has.1, has.2, has.3, bodies_have_more types [] (In has.0) branches (In t) (In s) within has.4)
    widen_kind (Let pattern value rest) types t s within has = (
      has.0,
      has.1,
      has.2,
      has.3,
      λ e captures first. let one = has.4 e captures first in
          (one.0, one.1, one.2, widen rest (one.0 ++ types) t s within one.3),
    )
    widen_kind (If condition then_one else_one) types t s within has = (
      has.0,
      has.1,
      has.2,
      has.3,
      λ yes. widen then_one types t s within (has.4 yes),
      λ no. widen else_one types t s within (has.5 no),
    )
    widen_kind (Try body branches) types t s within has = (
      widen body types t s within has.0,
      bodies_have_more types [] (BuiltIn DATA) branches (In t) (In s) within has.1,
    )
    widen_kind (Map value branches) types t s within has = (
      has.0,
      has.1,
      has.2,
      has.3,
      has.4,
      has.5,
      has.6,
      has.7,
      has.8,
      has.9,
      through (IsListOf (In has.2)) (In t) (In s) has.10 within,
    )
    widen_kind (Transform value branches) types t s within has = (
      has.0,
      has.1,
      has.2,
      has.3,
      has.4,
      has.5,
      has.6,
      has.7,
      has.8,
      through (IsListOf (In has.2)) (In t) (In s) has.9 within,
    )
    widen_kind (Chain first tails) types t s within has =
        (has.0, has.1, has.2, tails_have_more types has.0 tails t s within has.3)
    widen_kind (Call word operand) types t s within has =
        (has.0, has.1, has.2, word_gives_more word (In has.0) (In t) (In s) within has.3)
