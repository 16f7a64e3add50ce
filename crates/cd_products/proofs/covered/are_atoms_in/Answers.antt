use Rattle.cd_products.proofs.Covering.{atoms_in}
use Rattle.cd_products.proofs.covered.are_atoms_in.Goals as goal

pub returns-in-Ok : goal.returns-in-Ok
returns-in-Ok c none =
    atoms_in c.args.set.now c.args.all.now c.in-Ok.left c.in-Ok.ensures (c.is_empty.ensures.0 none)
