use Rattle.std.proofs.Common.{◌∙◌, sym, inl, inr}
use Rattle.cd_cells.specs.Table.{table}
use Rattle.cd_matching.specs.PlainKernel.{plain_nodes}
use Rattle.cd_taking.specs.declared.frame.Frame.TheVariants as frame
use Rattle.cd_taking.specs.declared.frame.Next.TheVariants as next
use Rattle.cd_taking.specs.Inner.Coded.{all_at}
use Rattle.cd_taking.specs.Inner.Machine as plain
use Rattle.cd_taking.specs.Inner.Machine.{Step, at}
use Rattle.cd_taking.proofs.Stepping.{popped}
use Rattle.cd_taking.proofs.resume.open_content.Goals as goal

pub returns-in_default : goal.returns-in_default
returns-in_default c = λ graph maps.
    popped graph maps (plain_nodes c.args.kernel.now.nodes.items) (table c.args.values.now) (frame.Attributes c.args.xml c.args.node) c.args.taker.now next.Yes c.requires next.No
    (plain.no_content _ _ _ _ _ (inl (sym c.xml_node.ensures ∙ c.in_default.is))) tt

pub returns-in-None : goal.returns-in-None
returns-in-None c = λ graph maps.
    popped graph maps (plain_nodes c.args.kernel.now.nodes.items) (table c.args.values.now) (frame.Attributes c.args.xml c.args.node) c.args.taker.now next.Yes c.requires next.No
    (plain.no_content _ _ _ _ _ (inr (sym c.in-None.ensures.is))) tt

pub returns-in-Some-xml_of : goal.returns-in-Some-xml_of
returns-in-Some-xml_of c = λ graph maps.
    let things = table c.args.values.now in
    popped graph maps (plain_nodes c.args.kernel.now.nodes.items) things (frame.Attributes c.args.xml c.args.node) c.args.taker.now next.Yes c.requires
    (next.Look c.in-Some-xml_of.content c.in-Some.parts.2)
    (plain.opens_content _ _ _ _ _ c.in-Some.parts
    (all_at things (c.in-Some-xml_of.field-0-0, c.in-Some-xml_of.field-0-1, c.in-Some-xml_of.content))
    (sym c.xml_node.ensures ∙ c.in-Some.is) (sym c.in-Some-xml_of.ensures.is)) c.in-Some-xml_of.ensures.content
