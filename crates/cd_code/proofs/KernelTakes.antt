-- What a kernel takes of a value, by each right test, is what its written pattern takes.
use Rattle.std.proofs.Common.{◌≡◌, ℕ, Bool, Option, option_map, sym, ap, subst, ◌∙◌}
use Rattle.cd_sets.specs.declared.node_id.NodeId.{NodeId}
use Rattle.cd_syntax.specs.TypeTree.{Tree}
use Rattle.cd_model.specs.Formula.{Graph}
use Rattle.cd_model.specs.Interfaces.{Interfaces, value_in_node}
use Rattle.cd_model.specs.Scope.{Scope}
use Rattle.cd_model.specs.Thing.{Thing, IsValue}
use Rattle.cd_matching.specs.Captures.{Captures}
use Rattle.cd_matching.specs.Kernel.{Kernel, taken, by_name}
use Rattle.cd_matching.specs.Pattern.{Pattern}
use Rattle.cd_matching.specs.Take.{take}
use Rattle.cd_matching.specs.Takes.{IsRight, PatternStandsFor, WrittenValueTakes}
use Rattle.cd_kernel.specs.Making.{TakesAlike}
use Rattle.cd_asking.specs.Mappings.{Mappings}
use Rattle.cd_code.specs.Tested.{AreTested}
use Rattle.cd_code.proofs.RightTests as tests

-- each test that is right of values gives the kernel's root this result
abbrev pub TakesByTests : Graph → Interfaces → Kernel NodeId → Thing → Option (Captures ℕ) → Type 0
TakesByTests graph interfaces kernel v result = (test : NodeId → Thing → Bool)
    → ((id : NodeId) → IsRight (value_in_node graph interfaces) IsValue id (test id))
    → taken NodeId test kernel.nodes v kernel.root ≡ result

pub written_takes : (graph : Graph) (interfaces : Interfaces) (maps : Mappings) → AreTested graph interfaces maps
    → (scope : Scope) (pattern : Tree) (p : Pattern NodeId) (kernel : Kernel NodeId)
    → PatternStandsFor graph p scope pattern → TakesAlike p kernel
    → (v : Thing) → IsValue v → (result : Option (Captures ℕ)) → TakesByTests graph interfaces kernel v result
    → WrittenValueTakes interfaces scope pattern v (option_map (by_name kernel.variables) result)
written_takes graph interfaces maps tested scope pattern p kernel stands alike v is result by_tests =
    let test = tests.test graph interfaces maps tested in
    let same = sym (alike test (tests.nil_is graph interfaces maps tested) (tests.any_is graph interfaces maps tested)
    (tests.empty_is graph interfaces maps tested) v)
    ∙ ap (option_map (by_name kernel.variables)) (by_tests test (tests.right graph interfaces maps tested)) in
    subst (WrittenValueTakes interfaces scope pattern v) same
    ((stands.values interfaces v (take NodeId test p v) is).0 (tests.takes_by_test graph interfaces maps tested p v is))
