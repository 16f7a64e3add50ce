use Rattle.std.proofs.Common.{◌∙◌, sym}
use Rattle.cd_cells.specs.Table.{table}
use Rattle.cd_matching.specs.PlainKernel.{plain_nodes}
use Rattle.cd_taking.specs.declared.frame.Frame.TheVariants.{First}
use Rattle.cd_taking.specs.declared.frame.Next.TheVariants.{Look, No}
use Rattle.cd_taking.specs.Inner.Coded.{both_at}
use Rattle.cd_taking.specs.Inner.Machine.{known, no_pair, opens}
use Rattle.cd_taking.proofs.Stepping.{stays, pushed, known_failure}
use Rattle.cd_taking.proofs.look.open_pair.Goals as goal

pub returns-then-has : goal.returns-then-has
returns-then-has c = λ graph maps.
    stays graph maps (plain_nodes c.args.kernel.now.nodes.items) (table c.args.values.now) c.args.taker.now (Look c.args.value c.args.node) No
    (known _ _ _ _ _ (known_failure (table c.args.values.now) (record { pair = c.args.value.0; node = c.args.node }) c.args.taker.now.failures
    (sym c.has.ensures ∙ c.if-has.true))) c.requires.within tt

pub returns-in_ok-push-in-Some : goal.returns-in_ok-push-in-Some
returns-in_ok-push-in-Some c = λ graph maps.
    pushed graph maps (plain_nodes c.args.kernel.now.nodes.items) (table c.args.values.now) (First c.args.value c.args.node) c.args.taker.now c.push.new.self
    (Look c.args.value c.args.node) (Look c.in-Some.first c.args.parts.first) c.in_ok-push-in-Some.ensures
    (opens _ _ _ _ _ c.args.parts (both_at (table c.args.values.now) (c.in-Some.first, c.in-Some.field-0-1)) c.requires.is (sym c.in-Some.ensures.is))
    c.requires.within c.requires.value c.in-Some.ensures.first

pub returns-in-None : goal.returns-in-None
returns-in-None c = λ graph maps.
    stays graph maps (plain_nodes c.args.kernel.now.nodes.items) (table c.args.values.now) c.args.taker.now (Look c.args.value c.args.node) No
    (no_pair _ _ _ _ _ c.args.parts c.requires.is (sym c.in-None.ensures.is)) c.requires.within tt
