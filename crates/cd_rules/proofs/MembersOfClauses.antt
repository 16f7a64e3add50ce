-- A clause whose needs are met by questions that have elements has a member, whatever its kind.
use Rattle.std.proofs.Common.{◌≡◌, ◌++◌}
use Rattle.cd_model.specs.BuiltIns.{built_ins}
use Rattle.cd_model.specs.Formula.{Graph}
use Rattle.cd_rules.specs.Clauses.{Clause, Ints, Chars, Atoms, Pairs, Xmls, Records, Arrows}
use Rattle.cd_rules.specs.Members.{HasElement, HasMember, IsSupplied, NamesLabels}
use Rattle.cd_rules.proofs.MembersOfSets.{integers_have, characters_have, atoms_have}
use Rattle.cd_rules.proofs.MembersOfPairs.{pairs_have}
use Rattle.cd_rules.proofs.MembersOfXmls.{xmls_have}
use Rattle.cd_rules.proofs.MembersOfArrows.{arrows_have}
use Rattle.cd_rules.proofs.MembersOfRecords.{records_have}

pub supplied_has : (graph more : Graph) → graph ≡ built_ins ++ more → (clause : Clause) → NamesLabels clause
    → IsSupplied (HasElement graph) clause → HasMember graph clause
supplied_has graph more begins (Ints wanted refused) names supplied = integers_have graph wanted refused supplied
supplied_has graph more begins (Chars wanted refused) names supplied = characters_have graph wanted refused supplied
supplied_has graph more begins (Atoms wanted refused) names supplied = atoms_have graph wanted refused supplied
supplied_has graph more begins (Pairs wanted refused) names supplied = pairs_have graph wanted refused supplied
supplied_has graph more begins (Xmls wanted refused) names supplied = xmls_have graph more begins wanted refused supplied
supplied_has graph more begins (Arrows wanted refused) names supplied = arrows_have graph wanted refused supplied
supplied_has graph more begins (Records wanted refused) names supplied =
    records_have graph wanted refused names.0 names.1 supplied
