-- Written types keep answers apart.
use Rattle.std.proofs.Common.{ℕ, zero, suc, true, false, ◌∷◌, sym, Option, Some, None}
use Rattle.std.proofs.lemmas.Bool.{true≢false}
use Rattle.cd_syntax.specs.TypeTree as type
use Rattle.cd_syntax.specs.TypeTree.{Tree, tree, Kind, Trees, NoTree, ATree, Signs, NoSign, ASign}
use Rattle.cd_model.specs.BuiltIns.{built_in}
use Rattle.cd_model.specs.Formula.{at_formula}
use Rattle.cd_model.specs.Scope.{Scope, Declared, declared_as}
use Rattle.cd_model.specs.Thing.{Thing}
use Rattle.cd_model.specs.Types.{Reader}
use Rattle.cd_model.specs.Written.{WrittenType, Written, Names, type_of, number_of_names, in_written, type_named, head_of, tree_holds, kind_holds, each_holds, one_holds, signs_hold, declared_holds, name_holds, written}
use Rattle.cd_model.proofs.Apart.{head_apart, element_apart}
use Rattle.cd_model.proofs.ApartAtNodes.{holds_apart, formulas_apart}
use Rattle.cd_model.proofs.Logic.{both_apart}
use Rattle.cd_model.proofs.Regulars.{Apart}

module _ (read : Reader WrittenType) (apart : Apart read) where
  module _ (names : Names) (names_apart : (scope : Scope) → Apart (names scope)) where
    mutual
      tree_apart : (scope : Scope) (is : Tree) → tree_holds read names scope is true → tree_holds read names scope is false → ⊥
      tree_apart scope (tree span kind) is out = kind_apart scope kind is out

      kind_apart : (scope : Scope) (kind : Kind) → kind_holds read names scope kind true → kind_holds read names scope kind false → ⊥
      kind_apart scope (type.Builtin name) is out = holds_apart (at_formula read) (formulas_apart read apart) (built_in type_named name) is out
      kind_apart scope (type.Union trees) is out = none_apart scope trees out is
      kind_apart scope (type.Meet first signs) is out = both_apart (tree_apart scope first) (signs_apart scope signs) is out
      kind_apart scope (type.Named name) is out = names_apart scope name is out
      kind_apart scope (type.Where one declarations) is out = tree_apart (declarations ∷ scope) one is out
      kind_apart scope kind is out = head_apart read apart (head_of scope kind) is out

      none_apart : (scope : Scope) (trees : Trees) → each_holds read names scope trees false → one_holds read names scope trees true → ⊥
      none_apart scope NoTree each one = one
      none_apart scope (ATree first rest) each one =
          both_apart (λ out is. tree_apart scope first is out) (none_apart scope rest) each one

      signs_apart : (scope : Scope) (signs : Signs) → signs_hold read names scope signs true → signs_hold read names scope signs false → ⊥
      signs_apart scope NoSign is out = true≢false (sym out)
      signs_apart scope (ASign true first rest) is out = both_apart (tree_apart scope first) (signs_apart scope rest) is out
      signs_apart scope (ASign false first rest) is out =
          both_apart (λ out is. tree_apart scope first is out) (signs_apart scope rest) is out

  declared_apart : (names : Names) → ((scope : Scope) → Apart (names scope)) → (is : Option Declared)
      → declared_holds read names is true → declared_holds read names is false → ⊥
  declared_apart names names_apart None is out = true≢false is
  declared_apart names names_apart (Some one) is out = tree_apart names names_apart one.scope one.tree is out

  names_apart : (count : ℕ) (scope : Scope) → Apart (name_holds read count scope)
  names_apart zero scope name is out = true≢false is
  names_apart (suc left) scope name is out =
      declared_apart (name_holds read left) (names_apart left) (declared_as scope name) is out

  pub written_keeps : (count : ℕ) → Apart (written count read)
  written_keeps count type is out = kind_apart (name_holds read count) (names_apart count) type.scope type.kind is out

-- no element is both in a written type and outside it
pub not_both : (type : Written) (is : Thing) → in_written is type true → in_written is type false → ⊥
not_both type is = element_apart (written (number_of_names type))
    (λ read apart. written_keeps read apart (number_of_names type)) is (type_of type)
