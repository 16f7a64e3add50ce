use Rattle.std.proofs.Common.{arith, ◌≡◌, ◌++◌, [], ◌∷◌, List, length, ap, ◌∙◌, sym, append-nil}
use Rattle.std.proofs.lemmas.Result.{IfOk-weaker}
use Rattle.cd_cells.specs.declared.cell.Part.{Part}
use Rattle.cd_machine.specs.Inner.Nodes.{parts_at}
use Rattle.cd_machine.proofs.NodesAdded.{first_empty, how_many}
use Rattle.cd_machine.proofs.environments.Environments.of_parts.Goals as goal

-- the first environment is there, and empty
pub add_all-requires : goal.add_all-requires
add_all-requires c =
    let count : length c.args.self.now ≡ _ = ap length (sym c.self.view_is) ∙ how_many ([] ∷ []) c.self.inside.nodes.items in omega (arith, count)

pub returns-clause-is : goal.returns-clause-is
returns-clause-is c =
    let none = ap (λ all. parts_at all 0) (sym c.self.view_is) ∙ first_empty c.self.inside.nodes.items in
    IfOk-weaker c.add_all.result _ _ (λ id is. is ∙ ap (λ (around : List Part). c.args.parts.now ++ around) none ∙ append-nil c.args.parts.now) c.add_all.ensures.is
