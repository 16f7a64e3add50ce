use Rattle.std.proofs.Common.{subst}
use Rattle.std.proofs.lemmas.Option.{IfSome_then}
use Rattle.std.proofs.lemmas.Result.{IfOk-weaker}
use Rattle.cd_normal.specs.Inner.IsNeed.{AreNeedsOfFirst}
use Rattle.cd_normal.specs.Inner.PlainPartial.{plain_partials}
use Rattle.cd_normal.proofs.NeedsOfConjuncts.{are_needed, needs_ask}
use Rattle.cd_normal.proofs.conjuncts.Conjuncts.needs.Goals as goal

-- the conjunct fails where one of its needs is subsumed
pub returns-clause-needed : goal.returns-clause-needed
returns-clause-needed c =
    let items = c.args.self.now.items.items in
    IfOk-weaker c.needs_of_last.result _ _ (λ found are. IfSome_then found are (λ questions of.
    are_needed (plain_partials items) questions.items
    (subst (λ items. AreNeedsOfFirst (plain_partials items) questions.items) c.as_slice.ensures.value of)))
    c.needs_of_last.ensures

-- and the needs ask nodes
pub returns-clause-asks : goal.returns-clause-asks
returns-clause-asks c =
    let items = c.args.self.now.items.items in
    IfOk-weaker c.needs_of_last.result _ _ (λ found are. IfSome_then found are (λ questions of nodes least.
    needs_ask nodes least (plain_partials items) questions.items
    (subst (λ items. AreNeedsOfFirst (plain_partials items) questions.items) c.as_slice.ensures.value of)))
    c.needs_of_last.ensures
