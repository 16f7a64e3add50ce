-- A clause of a question that a thing with parts is in is among its clauses of such things.
use Rattle.std.proofs.Common.{◌≡◌, ◌∙◌, Bool, true, false, List, inl, inr, ap, sym}
use Rattle.std.proofs.lemmas.Bool.{true≢false}
use Rattle.cd_sets.specs.declared.question.Question.{Question}
use Rattle.cd_model.specs.AllOf.{AnyOf}
use Rattle.cd_model.specs.Formula.{Graph}
use Rattle.cd_model.specs.Kinds.{Kind, AnInteger, ACharacter, AnAtom}
use Rattle.cd_model.specs.Membership.{Reader}
use Rattle.cd_rules.specs.BasicSets.{IsBasic}
use Rattle.cd_rules.specs.Clauses.{Clause, Ints, Chars, Atoms, IsClauseOfQuestion, IsInClause}
use Rattle.cd_products.specs.Inner.ClauseBoxes.{AreClauses}

-- whether things of a kind have parts
abbrev pub has_parts : Kind → Bool
has_parts AnInteger = false
has_parts ACharacter = false
has_parts AnAtom = false
has_parts _ = true

module _ (kind : Kind) (parts : has_parts kind ≡ true) (read : Reader) where
  not_basic : (clause : Clause) → IsInClause kind read clause → IsBasic clause → ⊥
  not_basic (Ints _ _) within basic = true≢false (sym parts ∙ ap has_parts within.0)
  not_basic (Chars _ _) within basic = true≢false (sym parts ∙ ap has_parts within.0)
  not_basic (Atoms _ _) within basic = true≢false (sym parts ∙ ap has_parts within.0)
  not_basic _ within basic = basic

  pub among_clauses : (graph : Graph) (question : Question) (all : List Clause)
      → AreClauses graph question all → (clause : Clause)
      → IsClauseOfQuestion graph question clause → IsInClause kind read clause
      → AnyOf (λ other. other ≡ clause) all
  among_clauses graph question all are clause of within = elim (are.1 clause of) [
    | inl basic ↦ absurd (not_basic clause within basic)
    | inr there ↦ there
  ]
