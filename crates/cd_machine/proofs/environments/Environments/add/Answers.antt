use Rattle.std.proofs.Common.{arith, ◌≡◌, ◌++◌, ◌∷◌, [], ap, ◌∙◌, sym, subst, length, length-append, ◌+◌, List}
use Rattle.cd_cells.specs.declared.cell.Part.{Part}
use Rattle.cd_machine.specs.Inner.Nodes.{parts_at, lists, AreOrdered, Longer}
use Rattle.cd_machine.proofs.NodesAdded.{one_more, how_many, still_ordered, longer_by_one}
use Rattle.cd_machine.proofs.Staying.{each_added}
use Rattle.cd_machine.proofs.environments.Environments.add.Goals as goal
use Rattle.cd_machine.proofs.environments.Environments.add.Goals.{In_ok-push}

-- how many environments there are
count : (c : In_ok-push) → length c.args.self.now ≡ 1 + length c.self.inside.nodes.items
count c = ap length (sym c.self.view_is) ∙ how_many ([] ∷ []) c.self.inside.nodes.items

ordered : (c : In_ok-push) → AreOrdered 0 c.push.new.self.items
ordered c = subst (AreOrdered 0) (sym c.in_ok-push.ensures.items)
    (still_ordered 0 c.self.inside.nodes.items (record { part = c.args.part; around = c.args.around.0 }) c.self.invariant (omega (arith, count c, c.requires)))

-- the node was put, whether or not it has a number
added : (c : In_ok-push) → lists c.push.new.self.items ≡ c.args.self.now ++ (c.args.part ∷ parts_at c.args.self.now c.args.around.0) ∷ []
added c = ap lists c.in_ok-push.ensures.items ∙ one_more ([] ∷ []) c.self.inside.nodes.items (record { part = c.args.part; around = c.args.around.0 })
    ∙ ap (λ (all : List (List Part)). all ++ (c.args.part ∷ parts_at all c.args.around.0) ∷ []) c.self.view_is

longer : (c : In_ok-push) → Longer c.args.self.now (lists c.push.new.self.items)
longer c = longer_by_one c.args.self.now (lists c.push.new.self.items) (c.args.part ∷ parts_at c.args.self.now c.args.around.0) (added c)

pub invariant_of-self-in_err-small : goal.invariant_of-self-in_err-small
invariant_of-self-in_err-small c = ordered (goal.at.invariant_of-self-in_err-small c).In_ok-push

pub invariant_of-self-2 : goal.invariant_of-self-2
invariant_of-self-2 c = ordered (goal.at.invariant_of-self-2 c).In_ok-push

pub returns-clause-number : goal.returns-clause-number
returns-clause-number c =
    let made = count (goal.at.returns-clause-number c).In_ok-push in
    let longer : length c.push.new.self.items ≡ length c.self.inside.nodes.items + 1 = ap length c.in_ok-push.ensures.items ∙ length-append c.self.inside.nodes.items _ in
    omega (arith, made, longer, c.len.ensures, c.in_ok-small.ensures {u = tt})

pub returns-clause-added : goal.returns-clause-added
returns-clause-added c = added (goal.at.returns-clause-added c).In_ok-push

pub returns-clause-grows : goal.returns-clause-grows
returns-clause-grows c = longer (goal.at.returns-clause-grows c).In_ok-push

pub returns-clause-each : goal.returns-clause-each
returns-clause-each c = λ values each one. each_added values c.args.self.now (lists c.push.new.self.items) c.args.part c.args.around.0
    (added (goal.at.returns-clause-each c).In_ok-push) each one

pub returns-in_err-small-clause-grows : goal.returns-in_err-small-clause-grows
returns-in_err-small-clause-grows c = longer (goal.at.returns-in_err-small-clause-grows c).In_ok-push

pub returns-in_err-small-clause-each : goal.returns-in_err-small-clause-each
returns-in_err-small-clause-each c = λ values each one. each_added values c.args.self.now (lists c.push.new.self.items) c.args.part c.args.around.0
    (added (goal.at.returns-in_err-small-clause-each c).In_ok-push) each one
