use Rattle.std.proofs.Common.{length, refl, sym, subst, arith}
use borrow.Author.Count.{below_more}
use Rattle.std.proofs.lemmas.List.{length-map}
use Rattle.cd_matching.specs.PlainKernel.{plain_node, plain_nodes}
use Rattle.cd_merged.specs.Inner.Classes.{HasFirst, IsFirst}
use Rattle.cd_merged.proofs.alike.are_alike.Goals as goal

pub loop-class-preserved : goal.loop-class-preserved
loop-class-preserved c = below_more
    (HasFirst (length c.args.nodes.now) c.args.classes.now.numbers.items
    c.args.classes.now.firsts.items)
    c.loop-class.class c.loop-class.invariant (c.if-not-has_first.ensures refl)

pub loop-number-preserved : goal.loop-number-preserved
loop-number-preserved c = below_more
    (IsFirst (plain_nodes c.args.nodes.now) c.args.classes.now.numbers.items
    c.args.classes.now.firsts.items)
    c.loop-number.number c.loop-number.invariant (c.if-not-is_first.ensures refl)

-- all classes and nodes were gone over
pub returns : goal.returns
returns c = λ _. let same = length-map c.args.nodes.now plain_node in record {
  numbered = omega (arith, same);
  fewer = omega (arith, same);
  firsts_are = λ class less. subst (λ count.
      HasFirst count c.args.classes.now.numbers.items c.args.classes.now.firsts.items class)
      (sym same) (c.loop-class.invariant class (omega (arith, less)));
  nodes_are = λ number less. c.loop-number.invariant number (omega (arith, same, less));
}
