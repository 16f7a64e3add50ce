use Rattle.std.proofs.Common.{◌≡◌, ◌<◌, ◌∷◌, ◌++◌, ◌^◌, ◌∙◌, suc, [], List, length, sym, ap, subst, arith}
use Rattle.std.proofs.lemmas.List.{length_push}
use Rattle.cd_graph.specs.Nodes.{nodes}
use Rattle.cd_elements.specs.Elements.{table}
use Rattle.cd_facts.specs.declared.membership.Membership.{Membership}
use Rattle.cd_facts.specs.Facts.{Fact, AreRight}
use Rattle.cd_facts.proofs.FactsKept.{right_more, one_added}
use Rattle.cd_facts.proofs.Waiting.{Fall, asked_first, steps_left, last_falls, falls_further, falls_back, first_stays, fewer_steps}
use Rattle.cd_facts.proofs.search.find_out.Goals as goal

pub finding-requires-clause-named : goal.finding-requires-clause-named
finding-requires-clause-named c =
    let last = last_falls c.loop-answer.facts (length (nodes c.args.graph.now)) (length (table c.args.elements.now))
    c.loop-answer.waiting.items c.loop-answer.current c.loop-answer.invariant.0 in
    (last.0, last.1)

pub add-requires : goal.add-requires
add-requires c =
    (last_falls c.loop-answer.facts (length (nodes c.args.graph.now)) (length (table c.args.elements.now))
    c.loop-answer.waiting.items c.loop-answer.current c.loop-answer.invariant.0).2

-- those that wait are as they were before the last one was asked
pub loop-answer-preserved-in-Some : goal.loop-answer-preserved-in-Some
loop-answer-preserved-in-Some c =
    let size = length (nodes c.args.graph.now) in
    let count = length (table c.args.elements.now) in
    let waiting = c.loop-answer.waiting.items in
    let current = c.loop-answer.current in
    let last = last_falls c.loop-answer.facts size count waiting current c.loop-answer.invariant.0 in
    let back = falls_back c.loop-answer.facts size count waiting current c.in-Known.answer c.loop-answer.invariant.0 in
    let added = sym c.in_ok-add-in-Known.ensures.added in
    let items = c.in-Some.ensures.items in (
      subst (λ (waiting : List Membership). Fall c.add.new.self size count waiting) items
          (subst (λ (facts : List Fact). Fall facts size count waiting) added back),
      sym (first_stays c.pop.new.self.items c.in-Some.next current)
          ∙ ap (λ waiting. asked_first waiting current) (sym items) ∙ c.loop-answer.invariant.1,
      subst (AreRight (nodes c.args.graph.now) (table c.args.elements.now)) added
          (right_more (nodes c.args.graph.now) (table c.args.elements.now) c.loop-answer.facts (current, c.in-Known.answer)
          c.loop-answer.invariant.2 ((last.0, last.1), c.in-Known.ensures.right)),
      one_added c.args.facts.now c.loop-answer.facts c.add.new.self (current, c.in-Known.answer) c.loop-answer.invariant.3
          c.in_ok-add-in-Known.ensures.added,
    )

-- one fact more is known
pub loop-answer-smaller-in-Some : goal.loop-answer-smaller-in-Some
loop-answer-smaller-in-Some c =
    let size = length (nodes c.args.graph.now) in
    let count = length (table c.args.elements.now) in
    let current = c.loop-answer.current in
    let back = falls_back c.loop-answer.facts size count c.loop-answer.waiting.items current c.in-Known.answer
    c.loop-answer.invariant.0 in
    let next = last_falls (c.loop-answer.facts ++ (current, c.in-Known.answer) ∷ []) size count c.pop.new.self.items c.in-Some.next
    (subst (λ (waiting : List Membership). Fall (c.loop-answer.facts ++ (current, c.in-Known.answer) ∷ []) size count waiting)
    c.in-Some.ensures.items back) in
    let longer = ap length c.in_ok-add-in-Known.ensures.added ∙ length_push c.loop-answer.facts (current, c.in-Known.answer) in
    let more : length c.add.new.self ≡ suc (length c.loop-answer.facts) = omega (arith, longer) in
    subst (λ facts. steps_left (2 ^ 63) count facts c.in-Some.next.id.0
    < steps_left (2 ^ 63) count (length c.loop-answer.facts) current.id.0) (sym more)
    (fewer_steps (2 ^ 63) count (length c.loop-answer.facts) current.id.0 c.in-Some.next.id.0
    (omega (arith, more, c.in_ok-add-in-Known.ensures.few)) (omega (arith, next.0)))

-- the last one waits for its part
pub loop-answer-preserved : goal.loop-answer-preserved
loop-answer-preserved c =
    let size = length (nodes c.args.graph.now) in
    let count = length (table c.args.elements.now) in
    let waiting = c.loop-answer.waiting.items in
    let current = c.loop-answer.current in
    let part : Membership = record { id = c.in-Unknown.id; node = c.in-Unknown.node } in
    let asks = c.in-Unknown.ensures.asks in
    let pushed = c.in_ok-push-in-Unknown.ensures.items in (
      subst (λ (waiting : List Membership). Fall c.loop-answer.facts size count (waiting ++ part ∷ [])) (sym pushed)
          (falls_further c.loop-answer.facts size count waiting current part c.loop-answer.invariant.0 asks.0 asks.1 asks.2),
      ap (λ waiting. asked_first waiting part) pushed ∙ first_stays waiting current part ∙ c.loop-answer.invariant.1,
      c.loop-answer.invariant.2,
      c.loop-answer.invariant.3,
    )
