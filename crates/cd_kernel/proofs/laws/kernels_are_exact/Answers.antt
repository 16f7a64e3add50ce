use Rattle.cd_kernel.proofs.laws.kernels_are_exact.Goals as goal
use Rattle.cd_kernel.proofs.KernelsAreExact.{kernels_are_exact}

pub returns : goal.returns
returns c = kernels_are_exact
