use Rattle.std.proofs.Common.{◌≡◌, ◌⊎◌, ℕ, inr, sym, subst, arith}
use Rattle.cd_model.specs.AllOf.{AnyOf}
use Rattle.cd_empty.proofs.ChosenPlaces.{any_at}
use Rattle.cd_empty.proofs.decider.Decider.most_closed.Goals as goal
use Rattle.cd_empty.proofs.decider.Decider.most_closed.Goals.{then-open-fewest, else-open-fewest}

-- so it is of the next one, or of the best one so far
pub loop-index-preserved : goal.loop-index-preserved
loop-index-preserved c =
    let IsOne : ℕ → Type 0 = λ best. (best ≡ c.args.place) ⊎ AnyOf (λ one. one ≡ best) c.args.places.now in
    elim c.if-open-fewest.branch [
      | then-open-fewest w ↦ subst IsOne (sym w.best-is)
          (inr (any_at c.args.places.now c.loop-index.index 0 (omega (arith, c.loop-index-test.true))))
      | else-open-fewest w ↦ subst IsOne (sym w.best-is) c.loop-index.invariant
    ]
