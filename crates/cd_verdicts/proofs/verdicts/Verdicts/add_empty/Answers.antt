use Rattle.std.proofs.Common.{◌≡◌, ◌∷◌, ◌++◌, [], List, ◌∙◌, sym, ap, subst}
use Rattle.cd_sets.specs.declared.question.Question.{Question}
use Rattle.cd_rules.specs.Machine.{NotIn}
use Rattle.indexmap.proofs.CallerLemmas.{insert_entry-new}
use Rattle.cd_verdicts.specs.declared.verdict.Verdict.{Verdict}
use Rattle.cd_verdicts.specs.declared.verdict.Verdict.TheVariants.{Empty}
use Rattle.cd_verdicts.specs.Verdicts.{family}
use Rattle.cd_verdicts.proofs.SettledLists.{family_joined}
use Rattle.cd_verdicts.proofs.VerdictsFound.{asked, look_up_misses}
use Rattle.cd_verdicts.proofs.verdicts.Verdicts.add_empty.Goals as goal
use Rattle.cd_verdicts.proofs.verdicts.Verdicts.add_empty.Goals.{in-Ok, in-Err}

-- the copy of the question goes last in its list, and the question in its
pub invariant_of-self-in-Ok : goal.invariant_of-self-in-Ok
invariant_of-self-in-Ok c =
    let all = c.self.inside.verdicts.entries in
    let none = look_up_misses all c.args.question
    (subst (λ (all : List (Question × Verdict)). NotIn (asked all) c.args.question) (sym c.self.view_is) c.requires) in
    c.in_ok-push.ensures.items ∙ ap (λ (first : List Question). first ++ c.in_ok-copy.field-0 ∷ []) c.self.invariant
    ∙ ap (λ (question : Question). family all ++ question ∷ []) c.in_ok-copy.ensures
    ∙ sym (family_joined all ((c.args.question, Empty) ∷ []))
    ∙ ap family (sym (c.in-Ok.ensures.entries ∙ insert_entry-new _ c.self.inside.verdicts c.args.question Empty none))

-- a question that has no verdict goes last
pub returns-clause-added : goal.returns-clause-added
returns-clause-added c =
    let none = look_up_misses c.self.inside.verdicts.entries c.args.question
    (subst (λ (all : List (Question × Verdict)). NotIn (asked all) c.args.question) (sym c.self.view_is) c.requires) in
    elim c.match-insert.branch [
      | in-Ok w ↦ rw w.result-is (w.self-is ∙ subst (λ (all : List (Question × Verdict)). c.insert.new.self.entries ≡ all ++ (c.args.question, Empty) ∷ [])
          c.self.view_is (w.in-Ok.ensures.entries ∙ insert_entry-new _ c.self.inside.verdicts c.args.question Empty none))
      | in-Err w ↦ rw w.result-is tt
    ]
