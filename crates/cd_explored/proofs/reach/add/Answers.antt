use Rattle.std.proofs.Common.{true, Bool, List, ℕ, set, subst, sym}
use Rattle.cd_explored.specs.Inner.Reached.{AreMarked}
use Rattle.cd_explored.proofs.Reaching.{marked_more}
use Rattle.cd_explored.proofs.reach.add.Goals as goal

-- the number is marked and added
pub returns-clause-marked : goal.returns-clause-marked
returns-clause-marked c =
    let marks = c.args.marks.now.items in
    subst (λ (now : List Bool). AreMarked now c.push.new.self.items) (sym c.mark.ensures)
    (subst (λ (all : List ℕ). AreMarked (set marks c.args.number true) all) (sym c.in_ok-push.ensures.items)
    (marked_more marks c.args.all.now.items c.args.number c.requires))
