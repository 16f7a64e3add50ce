use Rattle.std.proofs.Common.{◌≡◌, [], ◌∷◌, ◌++◌, None, refl, sym, ap, subst, ◌∙◌}
use Rattle.cd_sets.specs.declared.question.Question.{Question}
use Rattle.cd_graph.specs.Nodes.{nodes}
use Rattle.cd_rules.specs.Machine.{NotIn, frame, work}
use Rattle.cd_normal.specs.Partials.{partials}
use Rattle.cd_empty.specs.declared.frame.Frame.{Frame}
use Rattle.cd_empty.specs.Inner.Running.{IsStepped}
use Rattle.cd_empty.specs.Kept.{table}
use Rattle.cd_empty.proofs.OpenedQuestions.{is_added, stepped_by_question}
use Rattle.cd_empty.proofs.decider.Decider.assume.Goals as goal

-- the question is the last one of the list
pub returns-clause-list : goal.returns-clause-list
returns-clause-list c =
    let old = c.args.self.now.list in
    let new = c.number.new.self in
    let same = c.in_ok-copy.ensures in
    let number = c.in_ok-number.ensures in
    subst (λ (question : Question). new ≡ old ++ question ∷ []) same
    (is_added old new c.in_ok-number.field-0.0 c.in_ok-copy.field-0 (subst (NotIn old) (sym same) c.requires.unknown.1)
    number.found number.grows)

-- and gets a frame
pub returns-clause-stepped : goal.returns-clause-stepped
returns-clause-stepped c =
    let graph = nodes c.args.graph.now in
    let old = c.args.self.now.list in
    let new = c.number.new.self in
    let conjuncts = partials c.in_ok-conjuncts.conjuncts in
    let same = c.in_ok-copy.ensures in
    let number = c.in_ok-number.ensures in
    let listed = subst (λ (question : Question). new ≡ old ++ question ∷ []) same
    (is_added old new c.in_ok-number.field-0.0 c.in_ok-copy.field-0 (subst (NotIn old) (sym same) c.requires.unknown.1)
    number.found number.grows) in
    let plain = c.new-frame.ensures.plain ∙ ap (λ place. frame place c.args.question (work conjuncts None [] [])) c.len-place.ensures.count in
    let put = c.in_ok-push.ensures ∙ ap (λ (first : Frame). first ∷ c.args.frames.now) c.in_ok-new.ensures.ok in
    subst (IsStepped graph c.args.self.now _ c.args.frames.now) (sym put)
    (stepped_by_question graph c.args.self.now (record c.args.self.now { list = new }) c.args.question conjuncts c.new-frame.result
    c.args.frames.now c.requires.running c.requires.unknown c.requires.asks c.requires.basic c.in_ok-conjuncts.ensures.conjuncts plain
    (c.new-frame.ensures.fit graph (table c.args.self.now) c.in_ok-conjuncts.ensures.of_nodes) refl refl listed)
