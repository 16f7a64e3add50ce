-- A pair is in a clause exactly when its parts are in the questions of one way, and so is an XML thing whose tag is an atom
-- and whose attributes are a record.
use Rattle.std.proofs.Common.{◌↔◌, true, List, [], ◌∷◌, map, refl}
use Rattle.cd_model.specs.BuiltIns.{ATOM, RECORD}
use Rattle.cd_model.specs.AllOf.{AnyOf}
use Rattle.cd_model.specs.Kinds.{APair, AnXml}
use Rattle.cd_model.specs.Membership.{Answers, pair_reader, xml_reader}
use Rattle.cd_rules.specs.Clauses.{Pair, Triple, Pairs, Xmls, IsInClause}
use Rattle.cd_rules.specs.InWay.{AreInWay}
use Rattle.cd_rules.specs.Needs.{pair_way, xml_way, splits, splits_in_three}
use Rattle.cd_model.proofs.Ones.{one_picked}
use Rattle.cd_rules.proofs.PairsBack.{pairs_back, xmls_back}
use Rattle.cd_rules.proofs.PairsForward.{pair_in_way}
use Rattle.cd_rules.proofs.XmlsForward.{xml_in_way}

module _ (wanted refused : List Pair) (first second : Answers) where
  pub pair_exact : IsInClause APair (pair_reader first second) (Pairs wanted refused)
      ↔ AnyOf (AreInWay (first ∷ second ∷ [])) (map (pair_way wanted) (splits refused))
  pair_exact = (
    λ within. pair_in_way first second wanted refused within.1 within.2,
    λ one. let way = one_picked (pair_way wanted) (AreInWay (first ∷ second ∷ [])) (splits refused) one in
        let back = pairs_back first second wanted refused way.0 way.1 way.2.0 way.2.1.0 in
        (refl, back.0, back.1),
  )

module _ (wanted refused : List Triple) (tag attributes content : Answers) where
  pub xml_exact : tag ATOM true → attributes RECORD true → IsInClause AnXml (xml_reader tag attributes content) (Xmls wanted refused)
      ↔ AnyOf (AreInWay (tag ∷ attributes ∷ content ∷ [])) (map (xml_way wanted) (splits_in_three refused))
  xml_exact is_atom is_record = (
    λ within. xml_in_way tag attributes content is_atom is_record wanted refused within.1 within.2,
    λ one. let way = one_picked (xml_way wanted) (AreInWay (tag ∷ attributes ∷ content ∷ [])) (splits_in_three refused) one in
        let back = xmls_back tag attributes content wanted refused way.0 way.1 way.2.0 way.2.1.0 way.2.1.1.0 in
        (refl, back.2, back.3),
  )
