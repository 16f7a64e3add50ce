-- Written types answer true or false where heads do.
use Rattle.std.proofs.Common.{ℕ, zero, suc, true, false, ◌∷◌, ◌⊎◌, inl, inr, refl, Option, Some, None}
use Rattle.cd_syntax.specs.TypeTree as type
use Rattle.cd_syntax.specs.TypeTree.{Tree, tree, Kind, Trees, NoTree, ATree, Signs, NoSign, ASign}
use Rattle.cd_model.specs.BuiltIns.{built_in}
use Rattle.cd_model.specs.Formula.{at_formula}
use Rattle.cd_model.specs.Scope.{Scope, Declared, declared_as}
use Rattle.cd_model.specs.Types.{Reader}
use Rattle.cd_model.specs.Written.{WrittenType, Names, type_named, head_of, tree_holds, kind_holds, each_holds, one_holds, signs_hold, declared_holds, name_holds, written}
use Rattle.cd_model.proofs.Decided.{head_decided}
use Rattle.cd_model.proofs.DecidedAtNodes.{holds_decided, formulas_decide}
use Rattle.cd_model.proofs.Logic.{swapped, both_or}
use Rattle.cd_model.proofs.Regulars.{Decides}

module _ (read : Reader WrittenType) (decides : Decides read) where
  module _ (names : Names) (names_decide : (scope : Scope) → Decides (names scope)) where
    mutual
      tree_decided : (scope : Scope) (is : Tree) → tree_holds read names scope is true ⊎ tree_holds read names scope is false
      tree_decided scope (tree span kind) = kind_decided scope kind

      kind_decided : (scope : Scope) (kind : Kind) → kind_holds read names scope kind true ⊎ kind_holds read names scope kind false
      kind_decided scope (type.Builtin name) = holds_decided (at_formula read) (formulas_decide read decides) (built_in type_named name)
      kind_decided scope (type.Union trees) = swapped (none_or_one scope trees)
      kind_decided scope (type.Meet first signs) = both_or (tree_decided scope first) (signs_decided scope signs)
      kind_decided scope (type.Named name) = names_decide scope name
      kind_decided scope (type.Where one declarations) = tree_decided (declarations ∷ scope) one
      kind_decided scope kind = head_decided read decides (head_of scope kind)

      none_or_one : (scope : Scope) (trees : Trees) → each_holds read names scope trees false ⊎ one_holds read names scope trees true
      none_or_one scope NoTree = inl tt
      none_or_one scope (ATree first rest) = both_or (swapped (tree_decided scope first)) (none_or_one scope rest)

      signs_decided : (scope : Scope) (signs : Signs) → signs_hold read names scope signs true ⊎ signs_hold read names scope signs false
      signs_decided scope NoSign = inl refl
      signs_decided scope (ASign true first rest) = both_or (tree_decided scope first) (signs_decided scope rest)
      signs_decided scope (ASign false first rest) = both_or (swapped (tree_decided scope first)) (signs_decided scope rest)

  declared_decided : (names : Names) → ((scope : Scope) → Decides (names scope)) → (is : Option Declared)
      → declared_holds read names is true ⊎ declared_holds read names is false
  declared_decided names names_decide None = inr refl
  declared_decided names names_decide (Some one) = tree_decided names names_decide one.scope one.tree

  names_decided : (count : ℕ) (scope : Scope) → Decides (name_holds read count scope)
  names_decided zero scope name = inr refl
  names_decided (suc left) scope name = declared_decided (name_holds read left) (names_decided left) (declared_as scope name)

  pub written_decides : (count : ℕ) → Decides (written count read)
  written_decides count type = kind_decided (name_holds read count) (names_decided count) type.scope type.kind
