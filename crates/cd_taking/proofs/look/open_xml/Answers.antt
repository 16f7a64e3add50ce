use Rattle.std.proofs.Common.{sym}
use Rattle.cd_cells.specs.Table.{table}
use Rattle.cd_matching.specs.PlainKernel.{plain_nodes}
use Rattle.cd_taking.specs.declared.frame.Frame.TheVariants.{Tag}
use Rattle.cd_taking.specs.declared.frame.Next.TheVariants.{Look, No}
use Rattle.cd_taking.specs.Inner.Coded.{all_at}
use Rattle.cd_taking.specs.Inner.Machine.{no_xml, opens_xml}
use Rattle.cd_taking.proofs.Stepping.{stays, pushed}
use Rattle.cd_taking.proofs.look.open_xml.Goals as goal

pub returns-in_ok-push-in-Some : goal.returns-in_ok-push-in-Some
returns-in_ok-push-in-Some c = λ graph maps.
    pushed graph maps (plain_nodes c.args.kernel.now.nodes.items) (table c.args.values.now) (Tag c.args.value c.args.node) c.args.taker.now c.push.new.self
    (Look c.args.value c.args.node) (Look c.in-Some.tag c.args.parts.0) c.in_ok-push-in-Some.ensures
    (opens_xml _ _ _ _ _ c.args.parts (all_at (table c.args.values.now) (c.in-Some.tag, c.in-Some.field-0-1, c.in-Some.field-0-2)) c.requires.is
    (sym c.in-Some.ensures.is)) c.requires.within c.requires.value c.in-Some.ensures.tag

pub returns-in-None : goal.returns-in-None
returns-in-None c = λ graph maps.
    stays graph maps (plain_nodes c.args.kernel.now.nodes.items) (table c.args.values.now) c.args.taker.now (Look c.args.value c.args.node) No
    (no_xml _ _ _ _ _ c.args.parts c.requires.is (sym c.in-None.ensures.is)) c.requires.within tt
