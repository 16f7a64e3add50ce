use Rattle.std.proofs.Common.{◌≡◌, not, List, ap, subst, map, ◌∙◌}
use Rattle.std.specs.List.{list_all}
use Rattle.cd_syntax.specs.Name.{Name}
use Rattle.cd_variables.specs.FindingVariables.{has_name, differ}
use Rattle.cd_variables.proofs.NamesAmong.{differ_later, differ_at_once}
use Rattle.cd_variables.proofs.name_set.NameSet.differs_from.Goals as goal
use Rattle.cd_variables.proofs.name_set.NameSet.differs_from.Goals.{then-within, else-within}

-- names differ as their lists without repeats do
pub returns : goal.returns
returns c = subst (λ (ones : List Name). not c.if-within.result ≡ differ ones c.args.other.now) c.self.view_is
    (subst (λ (others : List Name). not c.if-within.result ≡ differ c.self.inside.index others) c.other.view_is
    (elim c.if-within.branch [
      | then-within w ↦ ap not w.result-is ∙ differ_later c.self.inside.index
          (map (λ name. name.now) c.self.inside.distinct.items) c.other.inside.index
          (map (λ name. name.now) c.other.inside.distinct.items) c.are_within-within.result w.are_within.result
          c.self.invariant c.other.invariant
          (c.are_within-within.ensures ∙ ap (λ list. list_all (has_name c.other.inside.index) (map (λ name. name.now) list))
          c.as_slice.ensures.value)
          (w.are_within.ensures ∙ ap (λ list. list_all (has_name c.self.inside.index) (map (λ name. name.now) list))
          w.as_slice-then-within.ensures.value)
          w.if-within.true
      | else-within w ↦ ap not (w.result-is ∙ w.if-within.false) ∙ differ_at_once c.self.inside.index
          (map (λ name. name.now) c.self.inside.distinct.items) c.other.inside.index c.are_within-within.result
          c.self.invariant
          (c.are_within-within.ensures ∙ ap (λ list. list_all (has_name c.other.inside.index) (map (λ name. name.now) list))
          c.as_slice.ensures.value)
          w.if-within.false
    ]))
