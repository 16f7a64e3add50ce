use Rattle.std.proofs.Common.{◌≡◌, ◌<◌, ◌∙◌, sym, None, length, append-nil, arith}
use Rattle.std.proofs.lemmas.Grind.{common_steps}
use Rattle.std.proofs.lemmas.List.{drop_all}
use Rattle.cd_sets.specs.Counting.{chosen_of}
use Rattle.cd_sets.proofs.Counting.{rises_chosen, chosen_taken, chosen_left}
use Rattle.cd_sets.proofs.id_set.IdSet.chosen.Goals.{then-digits-index+in_ok-push, else-digits-index}
use Rattle.cd_sets.proofs.id_set.IdSet.chosen.Goals as goal

pub loop-index-preserved : goal.loop-index-preserved
loop-index-preserved c =
    let within_digits : c.loop-index.index < length c.args.digits.now = omega arith in
    let within : c.loop-index.index < length c.args.self.now = omega arith in
    elim c.if-digits-index.branch [
      | then-digits-index+in_ok-push w ↦
          rw (w.ids-is, w.in_ok-push.ensures.ok, w.as_slice.ensures, c.self.view_is)
          (sym (chosen_taken c.loop-index.ids.items c.args.self.now c.args.digits.now c.loop-index.index _ within within_digits w.if-digits-index.true) ∙ c.loop-index.invariant)
      | else-digits-index w ↦
          rw w.ids-is
          (sym (chosen_left c.loop-index.ids.items c.args.self.now c.args.digits.now c.loop-index.index (record { 0 = 0 }) within within_digits w.if-digits-index.false) ∙ c.loop-index.invariant)
    ]

pub invariant_of-result : goal.invariant_of-result
invariant_of-result c =
    let all : c.loop-index.ids.items ≡ chosen_of c.args.self.now c.args.digits.now = grind (arith, common_steps, append-nil, c.loop-index.invariant, drop_all) in
    rw (all, ← c.self.view_is) (rises_chosen None c.self.inside.ids.items c.args.digits.now c.self.invariant)
