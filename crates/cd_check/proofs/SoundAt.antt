-- What is sound of a list is sound at each place.
use Rattle.std.proofs.Common.{◌≡◌, ℕ, zero, suc, ◌<◌, ◌++◌, List, [], ◌∷◌, map, length, get_or, sym, subst, arith}
use Rattle.cd_program.specs.Expr.{exprs_of, items_of, fields_of, tails_of, branches_of, Program}
use Rattle.cd_program.specs.PlainExpr.{plain, plain_item, plain_field, plain_tail, plain_branch}
use Rattle.cd_program.specs.declared.expr.Expr.{Expr as CodeExpr}
use Rattle.cd_program.specs.declared.expr.Item.{Item as CodeItem}
use Rattle.cd_program.specs.declared.expr.FieldExpr.{FieldExpr as CodeField}
use Rattle.cd_program.specs.declared.expr.Tail.{Tail as CodeTail}
use Rattle.cd_program.specs.declared.expr.Branch.{Branch as CodeBranch}
use Rattle.cd_names.specs.ProgramFaults.{Seen, names_of}
use Rattle.cd_resolved.specs.Parts.{IsPatternOf}
use Rattle.cd_check.specs.Inner.SoundNames.{IsSound, AreSound, ItemsAreSound, ItemIsSound, FieldsAreSound}
use Rattle.cd_check.specs.Inner.SoundNames.{TailsAreSound, TailIsSound, BranchesAreSound, ArePatternsOf}

module _ (program : Program) (seen : Seen) where
  pub expr_at : (items : List CodeExpr) (index : ℕ) (item : CodeExpr) → item ≡ get_or items index item → index < length items
      → AreSound program seen (exprs_of (map plain items)) → IsSound program seen (plain item)
  expr_at [] index item is within sound = absurd (omega arith)
  expr_at (first ∷ rest) zero item is within sound = subst (λ one. IsSound program seen (plain one)) (sym is) sound.0
  expr_at (first ∷ rest) (suc index) item is within sound = expr_at rest index item is (omega arith) sound.1

  pub item_at : (items : List CodeItem) (index : ℕ) (item : CodeItem) → item ≡ get_or items index item → index < length items
      → ItemsAreSound program seen (items_of (map plain_item items)) → ItemIsSound program seen (plain_item item)
  item_at [] index item is within sound = absurd (omega arith)
  item_at (first ∷ rest) zero item is within sound = subst (λ one. ItemIsSound program seen (plain_item one)) (sym is) sound.0
  item_at (first ∷ rest) (suc index) item is within sound = item_at rest index item is (omega arith) sound.1

  pub field_at : (items : List CodeField) (index : ℕ) (item : CodeField) → item ≡ get_or items index item → index < length items
      → FieldsAreSound program seen (fields_of (map plain_field items)) → IsSound program seen (plain_field item).expr
  field_at [] index item is within sound = absurd (omega arith)
  field_at (first ∷ rest) zero item is within sound = subst (λ one. IsSound program seen (plain_field one).expr) (sym is) sound.2
  field_at (first ∷ rest) (suc index) item is within sound = field_at rest index item is (omega arith) sound.3

  pub tail_at : (items : List CodeTail) (index : ℕ) (item : CodeTail) → item ≡ get_or items index item → index < length items
      → TailsAreSound program seen (tails_of (map plain_tail items)) → TailIsSound program seen (plain_tail item)
  tail_at [] index item is within sound = absurd (omega arith)
  tail_at (first ∷ rest) zero item is within sound = subst (λ one. TailIsSound program seen (plain_tail one)) (sym is) sound.0
  tail_at (first ∷ rest) (suc index) item is within sound = tail_at rest index item is (omega arith) sound.1

  pub body_at : (items : List CodeBranch) (index : ℕ) (item : CodeBranch) → item ≡ get_or items index item → index < length items
      → BranchesAreSound program seen (branches_of (map plain_branch items))
      → IsSound program (names_of (plain_branch item).pattern ++ seen) (plain_branch item).body
  body_at [] index item is within sound = absurd (omega arith)
  body_at (first ∷ rest) zero item is within sound =
      subst (λ one. IsSound program (names_of (plain_branch one).pattern ++ seen) (plain_branch one).body) (sym is) sound.1
  body_at (first ∷ rest) (suc index) item is within sound = body_at rest index item is (omega arith) sound.2

pub pattern_at : (program : Program) (items : List CodeBranch) (index : ℕ) (item : CodeBranch) → item ≡ get_or items index item
    → index < length items → ArePatternsOf program (branches_of (map plain_branch items)) → IsPatternOf program (plain_branch item).pattern
pattern_at program [] index item is within sound = absurd (omega arith)
pattern_at program (first ∷ rest) zero item is within sound = subst (λ one. IsPatternOf program (plain_branch one).pattern) (sym is) sound.0
pattern_at program (first ∷ rest) (suc index) item is within sound = pattern_at program rest index item is (omega arith) sound.1
