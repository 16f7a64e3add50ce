use Rattle.std.proofs.Common.{◌≡◌, Bool, List, map, sym, subst, ap, ◌∙◌}
use Rattle.cd_sets.specs.declared.node_id.NodeId.{NodeId}
use Rattle.cd_model.specs.Formula as formula
use Rattle.cd_model.specs.Formula.{Formula, formulas_of}
use Rattle.cd_graph.specs.Nodes.{nodes}
use Rattle.cd_graph.specs.PlainFormula.{plain}
use Rattle.cd_shared.specs.declared.equation.Equation.{Equation}
use Rattle.cd_shared.specs.Equation.{plain_equation}
use Rattle.cd_resolve.specs.Inner.Solves.{signed, made}
use Rattle.cd_resolve.specs.Inner.Filling.{so_far}
use Rattle.cd_resolve.proofs.solve.formula_of.Goals as goal

pub returns-in_ok-signed_copies-in-And : goal.returns-in_ok-signed_copies-in-And
returns-in_ok-signed_copies-in-And c =
    let at = so_far (nodes c.args.old.now) c.args.first (map plain c.args.formulas.now) in
    subst (λ (equation : Equation). plain c.and.result ≡ made at (plain_equation equation)) (sym c.in-And.is)
    (c.and.ensures
    ∙ ap (λ (all : List Formula). formula.And (formulas_of all)) c.in_ok-signed_copies-in-And.ensures
    ∙ ap (λ (signs : List (Bool × NodeId)). formula.And (formulas_of (map (λ sign. signed sign.0 (at sign.1)) signs)))
    c.as_slice.ensures.value)
