use Rattle.std.proofs.Common.{◌≡◌, List, length, sym, subst}
use Rattle.std.proofs.lemmas.Result.{IfOk-weaker}
use Rattle.cd_graph.specs.Nodes.{nodes}
use Rattle.cd_model.specs.AllOf.{AllOf}
use Rattle.cd_normal.specs.ConjunctsGoOn.{IsOfNodes, GoesBy}
use Rattle.cd_normal.specs.Partials.{partials}
use Rattle.cd_rules.specs.PartialConjuncts.{Partial}
use Rattle.cd_empty.specs.Inner.Working.{IsLook}
use Rattle.cd_empty.proofs.FirstConjuncts.{looked_at, went_on, clause_begun}
use Rattle.cd_empty.proofs.NeedsLookedAt.{looked_on}
use Rattle.cd_empty.proofs.SoundDeciders.{fit_again, sound_with_more}
use Rattle.cd_empty.proofs.decider.Decider.work_at_conjunct.Goals as goal
use Rattle.cd_empty.proofs.decider.Decider.work_at_conjunct.Goals.{In_ok-advance}

pub returns-in-Some-clause-doing : goal.returns-in-Some-clause-doing
returns-in-Some-clause-doing c =
    let graph = nodes c.args.graph.now in
    let frame = c.args.frame.now in
    looked_at graph c.args.self.now frame c.look_at_needs.new.conjuncts c.in-Some.doing c.requires.ready.fit
    (subst (IsLook graph c.args.self.now (partials frame.conjuncts) (partials c.look_at_needs.new.conjuncts)) c.in-Some.is c.in_ok-doing.ensures)

-- the look left the conjuncts as they were
same : (c : In_ok-advance) → partials c.look_at_needs.new.conjuncts ≡ partials c.args.frame.now.conjuncts
same c = looked_on (nodes c.args.graph.now) c.args.self.now (partials c.args.frame.now.conjuncts) (partials c.look_at_needs.new.conjuncts)
    c.in_ok-doing.field-0 c.in_default.not-Some c.in_ok-doing.ensures

of_nodes : (c : In_ok-advance) → AllOf (IsOfNodes (length (nodes c.args.graph.now))) (partials c.advance.new.self)
of_nodes c = c.in_ok-advance.ensures.of_nodes (length (nodes c.args.graph.now))
    (subst (AllOf (IsOfNodes (length (nodes c.args.graph.now)))) (sym (same c)) c.requires.ready.fit.conjuncts)

goes : (c : In_ok-advance) → GoesBy (partials c.args.frame.now.conjuncts) (partials c.advance.new.self) c.in_ok-advance.field-0
goes c = subst (λ (conjuncts : List Partial). GoesBy conjuncts (partials c.advance.new.self) c.in_ok-advance.field-0) (same c) c.in_ok-advance.ensures.goes

pub returns-in-Went-clause-doing : goal.returns-in-Went-clause-doing
returns-in-Went-clause-doing c =
    let frame = c.args.frame.now in
    let advanced = (goal.at.returns-in-Went-clause-doing c).In_ok-advance in
    went_on (nodes c.args.graph.now) c.args.self.now frame c.advance.new.self
    (subst (GoesBy (partials frame.conjuncts) (partials c.advance.new.self)) c.in-Went.is (goes advanced)) c.requires.ready.fit (of_nodes advanced)

pub returns-in-Complete-clause-doing : goal.returns-in-Complete-clause-doing
returns-in-Complete-clause-doing c =
    let graph = nodes c.args.graph.now in
    let frame = c.args.frame.now in
    let after = c.begin.new.self in
    let advanced = (goal.at.returns-in-Complete-clause-doing c).In_ok-advance in
    IfOk-weaker c.begin.result _ _ (λ doing begun.
    clause_begun graph after frame c.advance.new.self c.in-Complete.clause
    (fit_again graph c.args.self.now after frame c.begin.ensures.adds.known c.requires.ready.fit) (of_nodes advanced)
    c.requires.none c.begin.new.frame doing (subst (GoesBy (partials frame.conjuncts) (partials c.advance.new.self)) c.in-Complete.is (goes advanced))
    c.requires.ready.work.conjuncts_are begun) c.begin.ensures.begins

pub returns-in-Complete-clause-sound : goal.returns-in-Complete-clause-sound
returns-in-Complete-clause-sound c =
    sound_with_more (nodes c.args.graph.now) c.args.self.now c.begin.new.self c.begin.ensures.adds c.requires.ready.sound
