use Rattle.std.proofs.Common.{◌∙◌, sym}
use Rattle.cd_cells.specs.Table.{table, names}
use Rattle.cd_matching.specs.PlainKernel.{plain_nodes}
use Rattle.cd_taking.specs.declared.frame.Next.TheVariants.{Look, No, Fields}
use Rattle.cd_taking.specs.Inner.Coded.{fields_by, plain_record}
use Rattle.cd_taking.specs.Inner.Machine.{no_record, other_fields, opens_record}
use Rattle.cd_taking.proofs.Stepping.{stays}
use Rattle.cd_taking.proofs.look.open_record.Goals as goal

pub returns-then-may_have : goal.returns-then-may_have
returns-then-may_have c = λ graph maps.
    stays graph maps (plain_nodes c.args.kernel.now.nodes.items) (table c.args.values.now) c.args.taker.now (Look c.args.value c.args.node)
    (Fields c.args.value c.args.node 0)
    (opens_record _ _ _ _ _ (plain_record c.args.parts) (fields_by (names c.args.values.now) (table c.args.values.now) c.in-Some.fields) c.requires.is
    (sym c.in-Some.ensures.is) (sym c.may_have.ensures ∙ c.if-may_have.true)) c.requires.within c.requires.value

pub returns-else-may_have : goal.returns-else-may_have
returns-else-may_have c = λ graph maps.
    stays graph maps (plain_nodes c.args.kernel.now.nodes.items) (table c.args.values.now) c.args.taker.now (Look c.args.value c.args.node) No
    (other_fields _ _ _ _ _ (plain_record c.args.parts) (fields_by (names c.args.values.now) (table c.args.values.now) c.in-Some.fields) c.requires.is
    (sym c.in-Some.ensures.is) (sym c.may_have.ensures ∙ c.if-may_have.false)) c.requires.within tt

pub returns-in-None : goal.returns-in-None
returns-in-None c = λ graph maps.
    stays graph maps (plain_nodes c.args.kernel.now.nodes.items) (table c.args.values.now) c.args.taker.now (Look c.args.value c.args.node) No
    (no_record _ _ _ _ _ (plain_record c.args.parts) c.requires.is (sym c.in-None.ensures.is)) c.requires.within tt
