-- What is made of the group of the member at a place is its cases, and that member is left in none.
use Rattle.std.proofs.Common.{◌≡◌, ℕ, List, [], map, refl, sym, ap, subst}
use Rattle.std.specs.List.{remove}
use Rattle.cd_model.specs.AllOf.{AllOf}
use Rattle.cd_rules.specs.Clauses.{Pairs, Xmls, Arrows}
use Rattle.cd_rules.specs.Tasks.{AreCases, left_of, pair_cases, xml_cases, arrow_cases}
use Rattle.cd_tasks.specs.Inner.Groups.{IsGroupAt, IsXmlGroupAt, plain_side, plain_xml_side, sides_to, xml_sides_to}
use Rattle.cd_tasks.specs.Inner.Groups.{pair_case, arrow_case, xml_case}
use Rattle.cd_tasks.specs.LeftWithout.{left_without, IsLeftWithout}
use Rattle.cd_tasks.specs.PlainTask.{plain_task}
use Rattle.cd_tasks.specs.declared.group.Group.{Group}
use Rattle.cd_tasks.specs.declared.xml_group.XmlGroup.{XmlGroup}
use Rattle.cd_tasks.specs.declared.task.Task.{Task}
use Rattle.cd_tasks.specs.declared.task.Task.TheVariants.{Pair, Xml, Arrow}
use Rattle.cd_tasks.specs.declared.task.PairTask.{PairTask}
use Rattle.cd_tasks.specs.declared.task.XmlTask.{XmlTask}
use Rattle.cd_tasks.specs.declared.task.ArrowTask.{ArrowTask}
use Rattle.cd_tasks.proofs.CasesMade.{taken_at, each_of_made}

module _ (self : PairTask) (place : ℕ) (group : Group) (cases : List Task)
    (made : map plain_task cases ≡ map (pair_case self group) (sides_to (plain_side group.differs))) where
  pub are_pair_cases : IsGroupAt self.left.value.items place group → AreCases (plain_task (Pair self)) (map plain_task cases)
  are_pair_cases is = subst (AreCases (plain_task (Pair self))) (sym made) (pair_cases _ _ _ _ _ _ is.1.0 (plain_side group.differs) is.0 is.1.2)

  pub pair_left : group.rest.value.items ≡ remove self.left.value.items place
      → AllOf (λ case. left_of (plain_task case) ≡ left_without place (plain_task (Pair self))) cases
  pair_left rest = each_of_made plain_task (pair_case self group) (λ case. left_of case ≡ left_without place (plain_task (Pair self)))
      (λ side. ap (Pairs []) rest) cases (sides_to (plain_side group.differs)) made

  pub pair_group_left : IsGroupAt self.left.value.items place group
      → AllOf (λ case. IsLeftWithout place (plain_task (Pair self)) (left_of (plain_task case))) cases
  pair_group_left is = each_of_made plain_task (pair_case self group) (λ case. IsLeftWithout place (plain_task (Pair self)) (left_of case))
      (λ side. (
        group.rest.value.items,
        refl,
        taken_at self.left.value.items group.members.items group.rest.value.items place
            is.1.0 is.0 is.1.1 is.1.2.0,
      )) cases (sides_to (plain_side group.differs)) made

module _ (self : ArrowTask) (place : ℕ) (group : Group) (cases : List Task)
    (made : map plain_task cases ≡ map (arrow_case self group) (sides_to (plain_side group.differs))) where
  pub are_arrow_cases : IsGroupAt self.left.value.items place group → AreCases (plain_task (Arrow self)) (map plain_task cases)
  are_arrow_cases is = subst (AreCases (plain_task (Arrow self))) (sym made) (arrow_cases _ _ _ _ _ _ is.1.0 (plain_side group.differs) is.0 is.1.2)

  pub arrow_left : group.rest.value.items ≡ remove self.left.value.items place
      → AllOf (λ case. left_of (plain_task case) ≡ left_without place (plain_task (Arrow self))) cases
  arrow_left rest = each_of_made plain_task (arrow_case self group) (λ case. left_of case ≡ left_without place (plain_task (Arrow self)))
      (λ side. ap (Arrows []) rest) cases (sides_to (plain_side group.differs)) made

  pub arrow_group_left : IsGroupAt self.left.value.items place group
      → AllOf (λ case. IsLeftWithout place (plain_task (Arrow self)) (left_of (plain_task case))) cases
  arrow_group_left is = each_of_made plain_task (arrow_case self group) (λ case. IsLeftWithout place (plain_task (Arrow self)) (left_of case))
      (λ side. (
        group.rest.value.items,
        refl,
        taken_at self.left.value.items group.members.items group.rest.value.items place
            is.1.0 is.0 is.1.1 is.1.2.0,
      )) cases (sides_to (plain_side group.differs)) made

module _ (self : XmlTask) (place : ℕ) (group : XmlGroup) (cases : List Task)
    (made : map plain_task cases ≡ map (xml_case self group) (xml_sides_to (plain_xml_side group.differs))) where
  pub are_xml_cases : IsXmlGroupAt self.left.value.items place group → AreCases (plain_task (Xml self)) (map plain_task cases)
  are_xml_cases is = subst (AreCases (plain_task (Xml self))) (sym made) (xml_cases _ _ _ _ _ _ is.1.0 (plain_xml_side group.differs) is.0 is.1.2)

  pub xml_left : group.rest.value.items ≡ remove self.left.value.items place
      → AllOf (λ case. left_of (plain_task case) ≡ left_without place (plain_task (Xml self))) cases
  xml_left rest = each_of_made plain_task (xml_case self group) (λ case. left_of case ≡ left_without place (plain_task (Xml self)))
      (λ side. ap (Xmls []) rest) cases (xml_sides_to (plain_xml_side group.differs)) made

  pub xml_group_left : IsXmlGroupAt self.left.value.items place group
      → AllOf (λ case. IsLeftWithout place (plain_task (Xml self)) (left_of (plain_task case))) cases
  xml_group_left is = each_of_made plain_task (xml_case self group) (λ case. IsLeftWithout place (plain_task (Xml self)) (left_of case))
      (λ side. (
        group.rest.value.items,
        refl,
        taken_at self.left.value.items group.members.items group.rest.value.items place
            is.1.0 is.0 is.1.1 is.1.2.0,
      )) cases (xml_sides_to (plain_xml_side group.differs)) made
