use Rattle.std.proofs.Common.{arith, ◌≡◌, ◌++◌, [], ◌∷◌, List, length, length-append, ap, ◌∙◌, subst}
use Rattle.cd_model.proofs.Covered.{each_parts}
use Rattle.cd_cells.specs.Cells.{IsPart}
use Rattle.cd_cells.specs.Table.{table, names}
use Rattle.cd_cells.specs.declared.cell.Part.{Part}
use Rattle.cd_cells.specs.declared.values.Values.{Values}
use Rattle.cd_code.specs.Compiled.{ArePartsOf}
use Rattle.cd_machine.specs.Inner.Nodes.{parts_at}
use Rattle.cd_machine.proofs.NodesAdded.{last_added, longer_then, before_others}
use Rattle.cd_machine.proofs.environments.Environments.add_all.Goals as goal
use Rattle.cd_machine.proofs.environments.Environments.add_all.Goals.{In-Some}

-- parts that are left are those before the last one, and the last one
apart : (c : In-Some) (values : Values) → ArePartsOf values c.args.parts.now
    → ArePartsOf values c.in-Some.rest.now × ArePartsOf values (c.in-Some.part.now ∷ [])
apart c values are = each_parts (IsPart (names values) (length (table values))) c.in-Some.rest.now (c.in-Some.part.now ∷ [])
    (subst (ArePartsOf values) (c.in-Some.ensures {u = tt}).cases.0 (c.loop-part.invariant.left values are))

-- the last part that is left is added
pub loop-part-preserved : goal.loop-part-preserved
loop-part-preserved c =
    let at = (goal.at.loop-part-preserved c).In-Some in
    let left = (c.in-Some.ensures {u = tt}).cases.0 in
    let added = (c.in_ok-env.ensures {u = tt}).added in
    let number = (c.in_ok-env.ensures {u = tt}).number in
    let part = c.in-Some.part.now in
    let rest = c.in-Some.rest.now in
    let around = parts_at c.loop-part.self c.loop-part.env.0 in
    let longer : length c.add.new.self ≡ length (c.loop-part.self ++ (part ∷ around) ∷ []) = ap length added in record {
      within = omega (arith, number, longer, length-append c.loop-part.self ((part ∷ around) ∷ []));
      is = ap (λ (parts : List Part). rest ++ parts) (last_added c.loop-part.self c.add.new.self (part ∷ around) c.in_ok-env.env.0 added number)
          ∙ before_others rest part c.loop-part.left.now around left ∙ c.loop-part.invariant.is;
      grows = longer_then c.args.self.now c.loop-part.self c.add.new.self c.loop-part.invariant.grows c.add.ensures.grows;
      left = λ values are. (apart at values are).0;
      each = λ values each are. c.add.ensures.each values (c.loop-part.invariant.each values each are) (apart at values are).1;
    }

-- what was added stays where memory runs out
pub returns-in_err-env-clause-grows : goal.returns-in_err-env-clause-grows
returns-in_err-env-clause-grows c = longer_then c.args.self.now c.loop-part.self c.add.new.self c.loop-part.invariant.grows c.add.ensures.grows

pub returns-in_err-env-clause-each : goal.returns-in_err-env-clause-each
returns-in_err-env-clause-each c = λ values each are. c.add.ensures.each values (c.loop-part.invariant.each values each are)
    (apart (goal.at.returns-in_err-env-clause-each c).In-Some values are).1
