-- The member that is chosen holds what was made, as the first one does.
use Rattle.std.proofs.Common.{◌<◌, zero, suc, length, get_or, arith}
use Rattle.std.proofs.Common.{◌≡◌, ◌⊎◌, inl, inr, ℕ, List, [], ◌∷◌, ◌++◌, map, sym, ap, ap₂, subst, ◌∙◌, append_assoc, refl}
use Rattle.cd_sets.specs.declared.question.Question.{Question}
use Rattle.cd_model.specs.AllOf.{AllOf, AnyOf}
use Rattle.cd_model.specs.Formula.{Graph}
use Rattle.cd_model.specs.Thing.{Thing}
use Rattle.cd_elements.specs.declared.shape.ElementId.{ElementId}
use Rattle.cd_elements.specs.Table.{Names, element_at}
use Rattle.cd_members.specs.Held.{IsHeldAt}
use Rattle.cd_rules.specs.Tasks.{Task}
use Rattle.cd_rules.proofs.Among.{of_each}
use Rattle.cd_empty.specs.declared.decider.Decider.{Decider}
use Rattle.cd_verdicts.specs.declared.verdict.Verdict.{Verdict}
use Rattle.cd_verdicts.specs.declared.verdict.Verdict.TheVariants.{Inhabited}
use Rattle.cd_empty.specs.Inner.Looking.{HaveElements}
use Rattle.cd_empty.specs.Inner.Running.{KeepsKnown}
use Rattle.cd_empty.specs.Kept.{kept, table}
use Rattle.cd_verdicts.specs.Verdicts.{IsKept}
use Rattle.cd_empty.proofs.LongerTables.{element_longer}

-- where what is kept is the same
pub have_again : (before after : Decider) → kept after ≡ kept before → (ids : List ElementId) (questions : List Question)
    → HaveElements before ids questions → HaveElements after ids questions
have_again before after same [] [] have = tt
have_again before after same (id ∷ ids) (question ∷ questions) have = (
  subst (λ (all : List (Question × Verdict)). IsKept all question (Inhabited id)) (sym same) have.0,
  have_again before after same ids questions have.1,
)
have_again before after same [] (question ∷ questions) have = absurd have
have_again before after same (id ∷ ids) [] have = absurd have

pub keeps_on : (before middle after : Decider) → KeepsKnown before middle → KeepsKnown middle after → KeepsKnown before after
keeps_on before middle after first second = record {
  table = (
    first.table.0 ++ second.table.0,
    second.table.1 ∙ ap (λ all. all ++ second.table.0) first.table.1 ∙ append_assoc (table before) first.table.0 second.table.0,
  );
  kept = second.kept ∙ first.kept;
  list = second.list ∙ first.list;
}

parts_longer : (all more : List Thing) (ids : List ElementId) → AllOf (Names all) ids
    → map (element_at (all ++ more)) ids ≡ map (element_at all) ids
parts_longer all more [] named = refl
parts_longer all more (id ∷ ids) named = ap₂ (λ x xs. x ∷ xs) (element_longer all more id named.0) (parts_longer all more ids named.1)

-- elements have the same parts in the longer table
pub same_parts : (before after : Decider) → KeepsKnown before after → (ids : List ElementId) → AllOf (Names (table before)) ids
    → map (element_at (table after)) ids ≡ map (element_at (table before)) ids
same_parts before after keeps ids named = ap (λ (all : List Thing). map (element_at all) ids) keeps.table.1
    ∙ parts_longer (table before) keeps.table.0 ids named

-- what is at a place is one of all
pub any_at : (all : List ℕ) (index default : ℕ) → index < length all → AnyOf (λ one. one ≡ get_or all index default) all
any_at [] index default within = absurd (omega arith)
any_at (one ∷ all) zero default within = inl refl
any_at (one ∷ all) (suc index) default within = inr (any_at all index default (omega arith))

pub is_held : (graph : Graph) (parts others : List Thing) (task : Task) (place other : ℕ) → others ≡ parts
    → IsHeldAt graph parts task place → (other ≡ place) ⊎ IsHeldAt graph others task other → IsHeldAt graph parts task other
is_held graph parts others task place other same held (inl is) = subst (IsHeldAt graph parts task) (sym is) held
is_held graph parts others task place other same held (inr holds) = subst (λ (all : List Thing). IsHeldAt graph all task other) same holds

pub one_of_held : (graph : Graph) (parts : List Thing) (task : Task) (places : List ℕ) (place other : ℕ)
    → AllOf (IsHeldAt graph parts task) places → (other ≡ place) ⊎ AnyOf (λ one. one ≡ other) places
    → (other ≡ place) ⊎ IsHeldAt graph parts task other
one_of_held graph parts task places place other all (inl is) = inl is
one_of_held graph parts task places place other all (inr among) = inr (of_each (IsHeldAt graph parts task) places other all among)
