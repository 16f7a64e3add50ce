use Rattle.std.proofs.Common.{◌∙◌, sym, ap}
use Rattle.cd_verdicts.specs.Verdicts.{family}
use Rattle.cd_verdicts.proofs.SettledLists.{family_begins}
use Rattle.cd_verdicts.proofs.verdicts.Verdicts.settle.Goals as goal

-- what was added stands after what was there, in both lists
pub take_back-requires : goal.take_back-requires
take_back-requires c =
    let begins = c.in-Err.ensures.begins in
    rw (c.len-before.ensures.count, c.family-family_before.ensures)
    (ap family begins ∙ sym (family_begins c.args.self.now c.settle_each.new.self begins))
