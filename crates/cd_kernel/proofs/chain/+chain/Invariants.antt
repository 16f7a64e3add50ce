use Rattle.std.proofs.Common.{length}
use Rattle.cd_kernel.proofs.chain.+chain.Given as goal

-- each half has fewer nodes
abbrev pub decreases-chain : goal.decreases-chain
decreases-chain l = length l.numbers.now
