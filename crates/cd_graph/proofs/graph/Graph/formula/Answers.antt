use Rattle.std.proofs.Common.{List, map, sym, ap, arith, subst, length}
use Rattle.std.proofs.lemmas.List.{length-map}
use Rattle.cd_model.specs.AllOf.{AllOf}
use Rattle.cd_model.specs.Formula.{IsFormula}
use Rattle.cd_graph.specs.declared.formula.Formula.{Formula as CodeFormula}
use Rattle.cd_graph.specs.Nodes.{nodes}
use Rattle.cd_graph.specs.PlainFormula.{plain}
use Rattle.cd_graph.proofs.Sound.{sound, item_is_sound}
use Rattle.cd_graph.proofs.graph.Graph.formula.Goals as goal

pub returns-clause-sound : goal.returns-clause-sound
returns-clause-sound c =
    let count = length (nodes c.args.self.now) in
    let items = c.as_slice-formulas.result.now in
    let same = c.as_slice-formulas.ensures.value in
    subst (λ formula. IsFormula count (plain formula)) (sym c.index-formulas-id.is)
    (item_is_sound count items c.args.id.0 c.index-formulas-id.result
    (subst (λ (items : List CodeFormula). AllOf (IsFormula count) (map plain items)) (sym same)
    (sound (nodes c.args.self.now) c.args.self.now.sound))
    (omega (arith, c.requires, ap length same, length-map c.args.self.now.formulas.items plain)))
