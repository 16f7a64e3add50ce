-- The node of a built-in name stands for the name, in each graph and each scope.
use Rattle.std.proofs.Common.{◌≡◌, ℕ, ◌<◌, length, ◌++◌, ◌↔◌, refl, sym, subst, arith}
use Rattle.cd_sets.specs.declared.node_id.NodeId.{NodeId}
use Rattle.cd_syntax.specs.declared.builtin.BuiltinName.{BuiltinName}
use Rattle.cd_syntax.specs.declared.builtin.BuiltinName.TheVariants as builtin
use Rattle.cd_syntax.specs.declared.tokens.Span.{Span}
use Rattle.cd_syntax.specs.TypeTree as type
use Rattle.cd_syntax.specs.TypeTree.{tree}
use Rattle.cd_model.specs.BuiltIns.{built_in, built_ins, node_named}
use Rattle.cd_model.specs.Formula.{Graph, formula_at, at_formula, holds, nodes}
use Rattle.cd_model.specs.Interfaces.{admits}
use Rattle.cd_model.specs.Scope.{Scope}
use Rattle.cd_model.specs.StandsFor.{StandsFor}
use Rattle.cd_model.specs.Types.{reader}
use Rattle.cd_model.specs.Written.{WrittenType, Written, type_named, type_of, written, number_of_names}
use Rattle.cd_model.proofs.BothWays.{itself}
use Rattle.cd_model.proofs.FormulasAlike.{formulas_alike, built_ins_stand}
use Rattle.cd_model.proofs.ValuesAlike.{AlwaysAlike, elements_alike, values_alike}

pub record IsNodeOf (id : NodeId) (written : WrittenType) : Type 0 where
  pub name : BuiltinName
  pub node : node_named name ≡ id
  pub kind : type.Builtin name ≡ written.kind

named : (name : BuiltinName) → IsNodeOf (node_named name) (type_named name)
named name = record { name = name; node = refl; kind = refl }

pub formula_is : (more : Graph) (name : BuiltinName) → formula_at (built_ins ++ more) (node_named name) ≡ built_in node_named name
formula_is more builtin.Empty = refl
formula_is more builtin.Any = refl
formula_is more builtin.Int = refl
formula_is more builtin.Char = refl
formula_is more builtin.Byte = refl
formula_is more builtin.Atom = refl
formula_is more builtin.Bool = refl
formula_is more builtin.String = refl
formula_is more builtin.Arrow = refl
formula_is more builtin.Pair = refl
formula_is more builtin.Record = refl
formula_is more builtin.AnyXml = refl
formula_is more builtin.Data = refl

pub built_ins_alike : (more : Graph) (count : ℕ) → AlwaysAlike IsNodeOf (nodes (built_ins ++ more)) (written count)
built_ins_alike more count closed closing is of alike id other stands answer =
    let first = reader (nodes (built_ins ++ more)) closed is in
    let second = reader (written count) closing is in
    subst (λ id. holds (at_formula first) (formula_at (built_ins ++ more) id) answer ↔ written count second other answer) stands.node
    (subst (λ kind. holds (at_formula first) (formula_at (built_ins ++ more) (node_named stands.name)) answer
    ↔ written count second (record { scope = other.scope; kind = kind }) answer) stands.kind
    (subst (λ form. holds (at_formula first) form answer ↔ holds (at_formula second) (built_in type_named stands.name) answer)
    (sym (formula_is more stands.name))
    (formulas_alike IsNodeOf first second alike _ _ (built_ins_stand IsNodeOf node_named type_named named stands.name) answer)))

below : (more : Graph) (name : BuiltinName) → (node_named name).0 < length (built_ins ++ more)
below more builtin.Empty = omega arith
below more builtin.Any = omega arith
below more builtin.Int = omega arith
below more builtin.Char = omega arith
below more builtin.Byte = omega arith
below more builtin.Atom = omega arith
below more builtin.Bool = omega arith
below more builtin.String = omega arith
below more builtin.Arrow = omega arith
below more builtin.Pair = omega arith
below more builtin.Record = omega arith
below more builtin.AnyXml = omega arith
below more builtin.Data = omega arith

pub built_in_stands : (more : Graph) (scope : Scope) (span : Span) (name : BuiltinName)
    → StandsFor (built_ins ++ more) (node_named name) (record { scope = scope; tree = tree span (type.Builtin name) })
built_in_stands more scope span name = record {
  is_node = below more name;
  begins = (more, refl);
  elements = λ is answer element. elements_alike IsNodeOf (nodes (built_ins ++ more)) (written count) (built_ins_alike more count)
      is (node_named name) (type_of one) stands answer;
  values = λ interfaces is answer value. values_alike IsNodeOf (nodes (built_ins ++ more)) (written count) (built_ins_alike more count)
      (admits interfaces) (admits interfaces) (λ function pairs sound. itself) is (node_named name) (type_of one) stands answer;
}
  where
    one : Written
    one = record { scope = scope; tree = tree span (type.Builtin name) }

    count : ℕ
    count = number_of_names one

    stands : IsNodeOf (node_named name) (type_of one)
    stands = record { name = name; node = refl; kind = refl }
