use Rattle.std.proofs.Common.{subst}
use Rattle.cd_model.specs.Formula.{Graph}
use Rattle.cd_meaning.specs.Sequences.{IsSequence, IsListOf, IsItemOf}
use Rattle.cd_meaning.specs.Sets.{◌⊆◌, elements_of}
use Rattle.cd_typing.specs.Typ.{typ, In}
use Rattle.cd_typing.proofs.Subsets.{through}
use Rattle.cd_empty.specs.Growth.{Grows}
use Rattle.cd_empty.specs.Seen.{graph_of}
use Rattle.cd_empty.proofs.GrowingWorlds.{and_further}
use Rattle.cd_operators.proofs.LaterWorlds.{is_type}
use Rattle.cd_operators.proofs.ListsOfLists.{lists_of_lists}
use Rattle.cd_operators.proofs.Operated.{flat_least}
use Rattle.cd_operators.proofs.word.flatten.Goals as goal
use Rattle.cd_operators.proofs.word.flatten.Goals.{After-items-2, After-list_of}

grown : (c : After-items-2) → Grows c.args.world.now c.items-2.new.world
grown c = and_further c.args.world.now c.need.new.world c.items-2.new.world
    c.in_ok-need.ensures.grows
    (and_further c.need.new.world c.items.new.world c.items-2.new.world
    c.in_ok-lists.ensures.grows c.items-2.ensures.grows)

grown_on : (c : After-list_of) → Grows c.args.world.now c.list_of.new.world
grown_on c = and_further c.args.world.now c.items-2.new.world c.list_of.new.world
    (grown (goal.at.After-list_of c).After-items-2) c.list_of.ensures.grows

pub returns-in_err-inner-clause-grows : goal.returns-in_err-inner-clause-grows
returns-in_err-inner-clause-grows c =
    grown (goal.at.returns-in_err-inner-clause-grows c).After-items-2

pub returns-in_err-list_of-clause-grows : goal.returns-in_err-list_of-clause-grows
returns-in_err-list_of-clause-grows c =
    grown_on (goal.at.returns-in_err-list_of-clause-grows c).After-list_of

pub returns-clause-grows : goal.returns-clause-grows
returns-clause-grows c = grown_on (goal.at.returns-clause-grows c).After-list_of

-- the item is that of the inner sequences, in the graph where it was put
pub returns-clause-least : goal.returns-clause-least
returns-clause-least c =
    let graph = graph_of c.args.world.now in
    let operand = elements_of graph c.args.operand in
    let lists = elements_of (graph_of c.items.new.world) c.in_ok-lists.lists in
    let inner = elements_of (graph_of c.items-2.new.world) c.in_ok-inner.inner in
    let item = typ (graph_of c.items-2.new.world) c.in_ok-inner.inner in
    let same = c.in_ok-need.ensures.graph in record {
      gives = (
        item,
        is_type c.args.world.now c.items-2.new.world
            (grown (goal.at.returns-clause-least c).After-items-2) c.in_ok-inner.ensures.sound
            c.graph.ensures.built_in c.in_ok-inner.inner c.in_ok-inner.ensures.node,
        lists_of_lists operand lists inner
            (through operand (elements_of graph c.args.tools.now.lists) (IsListOf IsSequence)
            c.in_ok-need.ensures.within c.requires.tools.are_lists)
            (subst (λ (g : Graph). IsItemOf (elements_of g c.args.operand) ⊆ lists) same
            c.in_ok-lists.ensures.has) c.in_ok-inner.ensures.has,
        c.in_ok-list_of.ensures.has,
      );
      within = λ wider result fewer gives.
          through (elements_of (graph_of c.list_of.new.world) c.in_ok-list_of.field-0)
          (IsListOf inner) (In result) c.in_ok-list_of.ensures.only
          (flat_least operand (In wider) lists inner (In result) fewer
          (subst (λ (g : Graph). lists ⊆ IsItemOf (elements_of g c.args.operand)) same
          c.in_ok-lists.ensures.only) c.in_ok-inner.ensures.only gives);
    }
