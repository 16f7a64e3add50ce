use Rattle.std.proofs.Common.{◌≡◌, [], ◌∷◌, ◌++◌, refl, ap, subst, ◌∙◌}
use Rattle.cd_sets.specs.declared.question.Question.{Question}
use Rattle.cd_graph.specs.Nodes.{nodes}
use Rattle.cd_elements.specs.Table.{element_at}
use Rattle.cd_empty.specs.declared.decider.Decider.{Decider}
use Rattle.cd_verdicts.specs.declared.verdict.Verdict.TheVariants.{Inhabited}
use Rattle.cd_empty.specs.Inner.Running.{KeepsKnown}
use Rattle.cd_empty.specs.Kept.{table}
use Rattle.cd_empty.proofs.ElementsKept.{sound_over_more, sound_with_one, witness_more, known_witnesses, keeps_with_one, keeps_then, keeps_known}
use Rattle.cd_empty.proofs.decider.Decider.know.Goals as goal

-- the table may have grown
pub returns-in_err-id-clause-sound : goal.returns-in_err-id-clause-sound
returns-in_err-id-clause-sound c = sound_over_more (nodes c.args.graph.now) c.args.self.now
    (record c.args.self.now { elements = c.basic_element.new.elements }) c.requires.sound c.basic_element.ensures.grows refl refl refl

pub returns-in-None-clause-sound : goal.returns-in-None-clause-sound
returns-in-None-clause-sound c = sound_over_more (nodes c.args.graph.now) c.args.self.now
    (record c.args.self.now { elements = c.basic_element.new.elements }) c.requires.sound c.basic_element.ensures.grows refl refl refl

pub returns-in_err-copy-in-Some-clause-sound : goal.returns-in_err-copy-in-Some-clause-sound
returns-in_err-copy-in-Some-clause-sound c = sound_over_more (nodes c.args.graph.now) c.args.self.now
    (record c.args.self.now { elements = c.basic_element.new.elements }) c.requires.sound c.basic_element.ensures.grows refl refl refl

pub returns-in_err-add_element-in-Some-clause-sound : goal.returns-in_err-add_element-in-Some-clause-sound
returns-in_err-add_element-in-Some-clause-sound c = sound_over_more (nodes c.args.graph.now) c.args.self.now
    (record c.args.self.now { elements = c.basic_element.new.elements; verdicts = c.add_element.new.self }) c.requires.sound
    c.basic_element.ensures.grows c.in_err-add_element-in-Some.ensures.kept refl refl

-- where it is not kept, what is known stays
pub returns-in_err-add_element-in-Some-clause-keeps : goal.returns-in_err-add_element-in-Some-clause-keeps
returns-in_err-add_element-in-Some-clause-keeps c = keeps_known c.args.self.now
    (record c.args.self.now { elements = c.basic_element.new.elements; verdicts = c.add_element.new.self })
    (record { table = c.basic_element.ensures.grows; kept = c.in_err-add_element-in-Some.ensures.kept; list = refl })

-- an element is kept
pub returns-in_ok-add_element-in-Some-clause-known : goal.returns-in_ok-add_element-in-Some-clause-known
returns-in_ok-add_element-in-Some-clause-known c =
    let before = c.args.self.now in
    let now : Decider = record before { elements = c.basic_element.new.elements } in
    let after : Decider = record now { verdicts = c.add_element.new.self } in
    let same : KeepsKnown before now = record { table = c.basic_element.ensures.grows; kept = refl; list = refl } in
    let question = c.args.question.now in
    let id = c.in-Some.id in
    let found = rw c.in-Some.is at c.in_ok-id.ensures.found in
    let added = subst (λ (question : Question). c.add_element.new.self ≡ before.verdicts ++ (question, Inhabited id) ∷ [])
    c.in_ok-copy-in-Some.ensures c.in_ok-add_element-in-Some.ensures.added in (
      element_at (table now) id,
      (found.1, found.2),
      witness_more now after question id refl added ∙ ap (λ all. all ++ (question, element_at (table now) id) ∷ [])
          (known_witnesses (nodes c.args.graph.now) before now c.requires.sound same),
      refl,
    )

pub returns-in_ok-add_element-in-Some-clause-sound : goal.returns-in_ok-add_element-in-Some-clause-sound
returns-in_ok-add_element-in-Some-clause-sound c =
    let graph = nodes c.args.graph.now in
    let before = c.args.self.now in
    let now : Decider = record before { elements = c.basic_element.new.elements } in
    let id = c.in-Some.id in
    let found = rw c.in-Some.is at c.in_ok-id.ensures.found in
    let added = subst (λ (question : Question). c.add_element.new.self ≡ before.verdicts ++ (question, Inhabited id) ∷ [])
    c.in_ok-copy-in-Some.ensures c.in_ok-add_element-in-Some.ensures.added in
    sound_with_one now (record now { verdicts = c.add_element.new.self }) c.args.question.now id refl added graph refl c.requires.unknown.0
    c.requires.asks found.0 (found.1, found.2) (sound_over_more graph before now c.requires.sound c.basic_element.ensures.grows refl refl refl)

pub returns-in_ok-add_element-in-Some-clause-keeps : goal.returns-in_ok-add_element-in-Some-clause-keeps
returns-in_ok-add_element-in-Some-clause-keeps c =
    let before = c.args.self.now in
    let now : Decider = record before { elements = c.basic_element.new.elements } in
    let after : Decider = record now { verdicts = c.add_element.new.self } in
    let id = c.in-Some.id in
    let added = subst (λ (question : Question). c.add_element.new.self ≡ before.verdicts ++ (question, Inhabited id) ∷ [])
    c.in_ok-copy-in-Some.ensures c.in_ok-add_element-in-Some.ensures.added in
    keeps_then before now after
    (keeps_known before now (record { table = c.basic_element.ensures.grows; kept = refl; list = refl }))
    (keeps_with_one now after c.args.question.now id refl added)
