use Rattle.std.proofs.Common.{rules, SFits}
use Rattle.std.specs.Int.{w128}
use Rattle.std.proofs.lemmas.Int.{to_z-of_z}
use Rattle.cd_model.specs.Thing.{Integer}
use Rattle.cd_cells.proofs.TableGrows.{last_at}
use Rattle.cd_notation.proofs.Growth.{open_grown}
use Rattle.cd_notation.proofs.reader.Reader.number.Goals as goal

pub put-requires-clause-forms : goal.put-requires-clause-forms
put-requires-clause-forms c = (c.requires.forms.0, open_grown _ _ c.in_ok-id.ensures.grows _ _ _ _ c.requires.forms.1)

pub returns-clause-leads : goal.returns-clause-leads
returns-clause-leads c = λ trees are.
    let sized : SFits w128 c.args.n = search rules in
    let at = simp to_z-of_z at (last_at _ _ _ _ c.in_ok-id.ensures.added c.in_ok-id.ensures.number) in
    c.in_ok-put.ensures.stands (Integer c.args.n) trees at (open_grown _ _ c.in_ok-id.ensures.grows _ _ _ trees are)
