use Rattle.std.proofs.Common.{List, ap, ◌∙◌}
use Rattle.std.proofs.lemmas.Result.{IfOk-weaker}
use Rattle.cd_model.specs.Thing.{Function}
use Rattle.cd_elements.specs.declared.shape.ElementId.{ElementId}
use Rattle.std.proofs.Common.{Option}
use Rattle.cd_elements.specs.Elements as elements
use Rattle.cd_elements.specs.Table.{element_at, pairs_of}
use Rattle.cd_empty.specs.Kept.{table}
use Rattle.cd_empty.proofs.LongerTables.{function_added}
use Rattle.cd_empty.proofs.decider.Decider.function.Goals as goal

pub returns-clause-made : goal.returns-clause-made
returns-clause-made c =
    let before = table c.args.self.now in
    let after = elements.table c.make.new.self in
    IfOk-weaker c.make.result _ _ (λ id made. (
      made.0,
      function_added before after c.make.ensures.grows c.args.pairs.items c.requires (element_at after id)
          (made.1 ∙ ap (λ (pairs : List (ElementId × Option ElementId)). Function (pairs_of before pairs)) c.of.ensures),
    ))
    c.make.ensures.made
