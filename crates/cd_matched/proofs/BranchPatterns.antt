-- The patterns of branches that stand in code.
use Rattle.std.proofs.Common.{◌≡◌, ◌<◌, ◌+◌, ℕ, zero, suc, List, [], ◌∷◌, map, drop, get_or, length, ap, sym, subst, ◌∙◌, arith}
use Rattle.std.proofs.lemmas.List.{at_drop_more}
use Rattle.cd_syntax.specs.PlainTree.{plain as plain_tree}
use Rattle.cd_syntax.specs.TypeTree.{Tree}
use Rattle.cd_model.specs.AllOf.{AllOf}
use Rattle.cd_program.specs.Expr.{Branch, Branches, branches_of}
use Rattle.cd_program.specs.PlainExpr.{plain, plain_branch}
use Rattle.cd_program.specs.PlainExpr.{kind_layer, item_layer, tail_layer, branch_layer, branches_layer, expr_layer}
use Rattle.cd_program.specs.PlainExpr.{exprs_layer, field_layer, fields_layer, function_layer, items_layer, tails_layer}
use Rattle.cd_program.specs.declared.expr.Branch.{Branch as CodeBranch, fold_out-Branch}
use Rattle.cd_program.specs.declared.expr.ExprKind.TheViews.{out-Branch}
use Rattle.cd_typing.specs.Branches.{patterns_of}

branch_is : (one : CodeBranch) → plain_branch one
    ≡ record { pattern = plain_tree (out-Branch one).pattern; body = plain (out-Branch one).body }
branch_is = fold_out-Branch _ _ _ _ _ _ _ _ _ _ _ _
    kind_layer item_layer tail_layer branch_layer branches_layer expr_layer exprs_layer field_layer fields_layer
    function_layer items_layer tails_layer

pub branch_pattern : (one : CodeBranch) → (plain_branch one).pattern ≡ plain_tree (out-Branch one).pattern
branch_pattern one = ap (λ (branch : Branch). branch.pattern) (branch_is one)

abbrev pub patterns_in : List CodeBranch → List Tree
patterns_in all = patterns_of (branches_of (map plain_branch all))

-- what holds of all of them holds of that of each branch
pub pattern_in : (Fact : Tree → Type 0) (items : List CodeBranch) (index : ℕ) (item : CodeBranch)
    → item ≡ get_or items index item → index < length items → AllOf Fact (patterns_in items) → Fact (plain_tree (out-Branch item).pattern)
pattern_in Fact [] index item is within all = absurd (omega arith)
pattern_in Fact (first ∷ rest) zero item is within all =
    subst Fact (branch_pattern item) (subst (λ (one : CodeBranch). Fact (plain_branch one).pattern) (sym is) all.0)
pattern_in Fact (first ∷ rest) (suc index) item is within all = pattern_in Fact rest index item is (omega arith) all.1

-- that of the next branch, and those after it
pub patterns_left : (items : List CodeBranch) (index : ℕ) (item : CodeBranch) → item ≡ get_or items index item → index < length items
    → patterns_in (drop index items) ≡ (plain_branch item).pattern ∷ patterns_in (drop (index + 1) items)
patterns_left items index item is within = at_drop_more patterns_in items index item within
    ∙ ap (λ (next : CodeBranch). patterns_in (next ∷ drop (index + 1) items)) (sym is)
