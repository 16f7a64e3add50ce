-- A function as plain data, and the table where its entries were added.
use Rattle.std.proofs.Common.{◌≡◌, ◌∙◌, ◌<◌, ◌+◌, ℕ, true, false, List, [], ◌∷◌, Some, zero, suc, drop, get_or, length, ◌≤◌, map, sym, ap, subst, arith}
use Rattle.std.proofs.lemmas.List.{at_drop_all, drop_more}
use Rattle.cd_sets.specs.declared.node_id.NodeId.{NodeId}
use Rattle.cd_model.specs.AllOf.{AllOf}
use Rattle.cd_model.specs.Formula.{Graph}
use Rattle.cd_model.specs.Scope.{Scope}
use Rattle.cd_program.specs.Expr.{FunctionTree, function}
use Rattle.cd_program.specs.PlainExpr.{plain_branches, plain_function, plain_interface}
use Rattle.cd_program.specs.PlainExpr.{kind_layer, item_layer, tail_layer, branch_layer, branches_layer, expr_layer}
use Rattle.cd_program.specs.PlainExpr.{exprs_layer, field_layer, fields_layer, function_layer, items_layer, tails_layer}
use Rattle.cd_program.specs.declared.expr.FunctionTree.{FunctionTree as CodeFunction, fold_out-FunctionTree}
use Rattle.cd_program.specs.declared.expr.ExprKind.TheViews.{out-FunctionTree}
use Rattle.cd_asking.specs.MappedArrows.{is_listed, Lists}
use Rattle.cd_asking.specs.Mappings.{Mappings}
use Rattle.cd_evaluation.specs.Code.{place_of}
use Rattle.cd_evaluation.specs.ProgramInterfaces.{interface_of}
use Rattle.cd_resolved.specs.Resolved.{function_of}
use Rattle.cd_resolved.specs.declared.function_nodes.FunctionNodes.{FunctionNodes}
use Rattle.cd_closures.specs.Inner.Entries.{AreAdded}
use Rattle.cd_closures.specs.Inner.Ready.{AddsFunctions}
use Rattle.cd_closures.specs.Inner.Tables.{IsTable}
use Rattle.cd_closures.specs.Inner.Wholes.{IsWhole, HasWhole}
use Rattle.cd_closures.specs.declared.asked.Asked.{Asked}
use Rattle.cd_closures.proofs.Adding.{all_decided}
use Rattle.cd_closures.proofs.Deciding.{decided_are_right}
use Rattle.cd_closures.proofs.TablesGrow.{table_skips, table_grows}

function_is : (one : CodeFunction) → plain_function one ≡ function (out-FunctionTree one).at (out-FunctionTree one).name
    (out-FunctionTree one).name_at (plain_interface (out-FunctionTree one).interface) (plain_branches (out-FunctionTree one).branches)
function_is = fold_out-FunctionTree _ _ _ _ _ _ _ _ _ _ _ _
    kind_layer item_layer tail_layer branch_layer branches_layer expr_layer exprs_layer field_layer fields_layer
    function_layer items_layer tails_layer

pub place_is : (one : CodeFunction) → place_of (plain_function one) ≡ (out-FunctionTree one).at
place_is one = ap place_of (function_is one)

module _ (longer : Graph) (scope : Scope) (asked : List Asked) where
  -- a function that was not listed
  unlisted_adds : (f : FunctionTree) (whole : NodeId) → IsWhole scope longer (interface_of f) whole → (maps middle table : Mappings)
      → is_listed maps (place_of f) ≡ false → Lists (place_of f) maps middle → AreAdded longer whole (Some (place_of f)) asked middle table
      → (left : List FunctionTree) → AddsFunctions longer scope asked (f ∷ left) left maps table
  unlisted_adds f whole is maps middle table not lists added left = λ graph all begins before.
      table_grows graph scope asked all f left maps before not middle table lists added.adds
      (decided_are_right graph longer begins.more begins.grown begins.sound scope (interface_of f) whole is (Some (place_of f)) table asked begins.below
      (all_decided longer whole (Some (place_of f)) middle table asked added))

  -- as code finds it
  pub code_adds : (one : FunctionNodes) → HasWhole scope longer one → (maps middle table : Mappings)
      → is_listed maps (place_of (function_of one)) ≡ false → Lists (out-FunctionTree one.function.now).at maps middle
      → AreAdded longer one.whole (Some (out-FunctionTree one.function.now).at) asked middle table
      → (left : List FunctionTree) → AddsFunctions longer scope asked (function_of one ∷ left) left maps table
  code_adds one is maps middle table not lists added = unlisted_adds (function_of one) one.whole is maps middle table not
      (subst (λ (place : ℕ). Lists place maps middle) (sym (place_is one.function.now)) lists)
      (subst (λ (place : ℕ). AreAdded longer one.whole (Some place) asked middle table) (sym (place_is one.function.now)) added)

  -- a function that is listed already
  pub code_skips : (one : FunctionNodes) (maps : Mappings) → is_listed maps (out-FunctionTree one.function.now).at ≡ true
      → (left : List FunctionTree) → AddsFunctions longer scope asked (function_of one ∷ left) left maps maps
  code_skips one maps is left = λ graph all begins before.
      table_skips graph scope asked all (function_of one) left maps before (ap (is_listed maps) (place_is one.function.now) ∙ is)

  -- one function after the other
  module _ (functions : List FunctionNodes) (maps : Mappings) where
    pub functions_further : (i : ℕ) (f : FunctionNodes) → i < length functions → f ≡ get_or functions i f → (some more : Mappings)
        → AddsFunctions longer scope asked (map function_of functions) (map function_of (drop i functions)) maps some
        → AddsFunctions longer scope asked (function_of f ∷ map function_of (drop (i + 1) functions))
        (map function_of (drop (i + 1) functions)) some more
        → AddsFunctions longer scope asked (map function_of functions) (map function_of (drop (i + 1) functions)) maps more
    functions_further i f below is some more so_far adds = λ graph all begins before.
        adds graph all begins
        (subst (λ (left : List FunctionNodes). IsTable graph scope asked all (map function_of left) some)
        (drop_more functions i f below ∙ ap (λ one. one ∷ drop (i + 1) functions) (sym is)) (so_far graph all begins before))

    pub functions_end : (i : ℕ) → length functions ≤ i → (some : Mappings)
        → AddsFunctions longer scope asked (map function_of functions) (map function_of (drop i functions)) maps some
        → AddsFunctions longer scope asked (map function_of functions) [] maps some
    functions_end i past some so_far = subst
        (λ (left : List FunctionTree). AddsFunctions longer scope asked (map function_of functions) left maps some)
        (at_drop_all (map function_of) functions i past) so_far

-- one of a list
pub of_item : {X : Type 0} (P : X → Type 0) (xs : List X) (i : ℕ) (x : X) → i < length xs → x ≡ get_or xs i x → AllOf P xs → P x
of_item P [] i x below is each = absurd (omega (arith, below))
of_item P (y ∷ xs) zero x below is each = subst P (sym is) each.0
of_item P (y ∷ xs) (suc i) x below is each = of_item P xs i x (omega arith) is each.1
