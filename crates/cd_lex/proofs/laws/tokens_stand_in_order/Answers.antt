use Rattle.std.proofs.Common.{false, [], refl}
use Rattle.cd_lex.proofs.Spanning.{in_order, are_slices}
use Rattle.cd_lex.proofs.laws.tokens_stand_in_order.Goals as goal

pub returns-clause-order : goal.returns-clause-order
returns-clause-order c text tokens lexes = in_order false 0 text tokens lexes

pub returns-clause-slices : goal.returns-clause-slices
returns-clause-slices c text tokens lexes = are_slices text [] false 0 text tokens refl refl lexes
