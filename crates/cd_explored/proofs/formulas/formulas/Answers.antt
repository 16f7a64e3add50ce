use Rattle.std.proofs.Common.{◌≡◌, ℕ, Some, None, length, rules, subst, sym, ◌∙◌}
use Rattle.std.specs.List.{slice_get}
use Rattle.cd_explored.specs.Inner.Plan.{plain_plan}
use Rattle.cd_explored.proofs.FormulasMade.{batch_more, count_more, batch_ends}
use Rattle.cd_explored.proofs.WantsGathered.{still_first, still_all_gathered}
use Rattle.cd_explored.proofs.formulas.formulas.Goals as goal

-- the next want has its formula
pub loop-want-preserved : goal.loop-want-preserved
loop-want-preserved c =
    let plan = plain_plan c.args.plan.now in
    let old = c.loop-want.wants in
    let new = c.formula_of.new.wants in
    let before = c.loop-want.invariant in
    let made = c.in_ok-formula_of.ensures in
    let batch = c.loop-want.batch.items in
    let after = c.push.new.self.items in
    let formula = c.in_ok-formula_of.field-0 in
    let put = c.in_ok-push.ensures.items in
    let want = c.in-Some.want in
    let counted : c.len.result ≡ length batch = search rules in
    let found : slice_get old c.len.result ≡ Some want =
    sym c.get.ensures ∙ sym c.copied.ensures ∙ c.in-Some.is in
    let next = subst (λ (k : ℕ). slice_get old k ≡ Some want) counted found in
    record {
      first = still_first old new made.grow c.args.variables before.first;
      gathered = still_all_gathered old new made.grow plan.rows before.gathered;
      made = batch_more plan old new made.grow batch after formula put want next made.made before.made;
      count = count_more plan old new made.grow batch after formula put want next;
    }

-- nothing more is wanted
pub returns : goal.returns
returns c =
    let wants = c.loop-want.wants in
    let before = c.loop-want.invariant in
    let batch = c.loop-want.batch.items in
    let counted : c.len.result ≡ length batch = search rules in
    let found : slice_get wants c.len.result ≡ None =
    sym c.get.ensures ∙ sym c.copied.ensures ∙ c.in_default.is in
    record {
      wants = wants;
      first = before.first;
      gathered = before.gathered;
      once = c.knows.ensures;
      made = before.made;
      count = batch_ends wants batch before.count
          (subst (λ (k : ℕ). slice_get wants k ≡ None) counted found);
    }
