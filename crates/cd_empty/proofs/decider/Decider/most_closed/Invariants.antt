use Rattle.std.proofs.Common.{◌≡◌, ◌⊎◌}
use Rattle.cd_model.specs.AllOf.{AnyOf}
use Rattle.cd_empty.proofs.decider.Decider.most_closed.Given as goal

-- the best one is the one place, or one of the others
abbrev pub invariant-loop-index : goal.invariant-loop-index
invariant-loop-index l = (l.best ≡ l.place) ⊎ AnyOf (λ one. one ≡ l.best) l.places
