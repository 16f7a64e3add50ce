use Rattle.std.proofs.Common.{◌≡◌, drop}
use Rattle.cd_regex.specs.PlainRegular.{plain_all}
use Rattle.cd_regex.specs.Automaton.{all_nullable, one_nullable}
use Rattle.cd_regex.proofs.first_edges.+is_nullable.Given as goal

-- those that are left decide it
abbrev pub invariant-are_nullable-loop-is : goal.invariant-are_nullable-loop-is
invariant-are_nullable-loop-is l = all_nullable (plain_all (drop l.is-index l.all)) ≡ all_nullable (plain_all l.all)

abbrev pub invariant-has_nullable-loop-is : goal.invariant-has_nullable-loop-is
invariant-has_nullable-loop-is l = one_nullable (plain_all (drop l.is-index l.all)) ≡ one_nullable (plain_all l.all)
