use Rattle.std.proofs.Common.{◌≡◌, ◌∷◌, ◌++◌, [], List, ◌∙◌, sym, ap, subst}
use Rattle.cd_sets.specs.declared.question.Question.{Question}
use Rattle.cd_rules.specs.Machine.{NotIn}
use Rattle.indexmap.proofs.CallerLemmas.{insert_entry-new}
use Rattle.cd_verdicts.specs.declared.verdict.Verdict.{Verdict}
use Rattle.cd_verdicts.specs.declared.verdict.Verdict.TheVariants.{Inhabited}
use Rattle.cd_verdicts.specs.Verdicts.{family}
use Rattle.cd_verdicts.proofs.VerdictsFound.{asked, look_up_misses}
use Rattle.cd_verdicts.proofs.WitnessesOfVerdicts.{none_empty_more}
use Rattle.cd_verdicts.proofs.verdicts.Verdicts.add_element.Goals as goal

-- the questions without elements stay
pub invariant_of-self-2 : goal.invariant_of-self-2
invariant_of-self-2 c =
    let none = look_up_misses c.self.inside.verdicts.entries c.args.question
    (subst (λ (all : List (Question × Verdict)). NotIn (asked all) c.args.question) (sym c.self.view_is) c.requires) in
    c.self.invariant ∙ sym (none_empty_more c.self.inside.verdicts.entries c.args.question c.args.id) ∙ ap family
    (sym (c.in_ok-insert.ensures.entries ∙ insert_entry-new _ c.self.inside.verdicts c.args.question (Inhabited c.args.id) none))

-- a question that has no verdict goes last
pub returns-clause-added : goal.returns-clause-added
returns-clause-added c =
    let none = look_up_misses c.self.inside.verdicts.entries c.args.question
    (subst (λ (all : List (Question × Verdict)). NotIn (asked all) c.args.question) (sym c.self.view_is) c.requires) in
    subst (λ (all : List (Question × Verdict)). c.insert.new.self.entries ≡ all ++ (c.args.question, Inhabited c.args.id) ∷ []) c.self.view_is
    (c.in_ok-insert.ensures.entries ∙ insert_entry-new _ c.self.inside.verdicts c.args.question (Inhabited c.args.id) none)
