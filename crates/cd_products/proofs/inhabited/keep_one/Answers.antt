use Rattle.std.proofs.Common.{true, false, [], ◌∷◌, ◌++◌, refl, sym, subst, ap, ◌∙◌}
use Rattle.std.proofs.lemmas.List.{append-nil}
use Rattle.cd_empty.specs.Seen.{graph_of}
use Rattle.cd_products.specs.Inner.Tests.{IsTested}
use Rattle.cd_products.proofs.KeptBoxes.{kept_by_answer}
use Rattle.cd_products.proofs.inhabited.keep_one.Goals as goal

-- one of its questions is seen to have no element
pub returns-then-branch-clause-exact : goal.returns-then-branch-clause-exact
returns-then-branch-clause-exact c test is =
    let graph = graph_of c.args.world.now in
    let old = c.args.kept.now.items in
    sym (append-nil old)
    ∙ ap (λ more. old ++ more)
    (sym (kept_by_answer graph c.args.cells.now c.items.result.now false false
    (subst (λ graph. IsTested graph c.items.result.now false) c.graph.ensures.graph
    ((rw c.if-branch.true at c.in_ok-one_is_seen_empty.ensures) refl))
    c.items.ensures refl test is c.requires))

pub returns-in_ok-push-clause-exact : goal.returns-in_ok-push-clause-exact
returns-in_ok-push-clause-exact c test is =
    let old = c.args.kept.now.items in
    c.in_ok-push.ensures.items
    ∙ ap (λ more. old ++ more) (ap (λ box. box ∷ []) c.in_ok-copy.ensures
    ∙ sym (kept_by_answer (graph_of c.args.world.now) c.args.cells.now _ _ true
    c.in_ok-are_inhabited.ensures.tested c.items-2.ensures c.if-branch-2.true test is c.requires))

pub returns-else-branch-2-clause-exact : goal.returns-else-branch-2-clause-exact
returns-else-branch-2-clause-exact c test is =
    let old = c.args.kept.now.items in
    sym (append-nil old)
    ∙ ap (λ more. old ++ more)
    (sym (kept_by_answer (graph_of c.args.world.now) c.args.cells.now _ _ false
    c.in_ok-are_inhabited.ensures.tested c.items-2.ensures c.if-branch-2.false test is c.requires))
