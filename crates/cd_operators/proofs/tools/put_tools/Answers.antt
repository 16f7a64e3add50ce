use Rattle.std.proofs.Common.{lit<}
use Rattle.cd_model.specs.BuiltIns.{INT}
use Rattle.cd_meaning.specs.Sequences.{IsSequence, IsListOf}
use Rattle.cd_typing.specs.Later.{IsLater}
use Rattle.cd_typing.specs.Typ.{BuiltIn}
use Rattle.cd_typing.proofs.Later.{later_still}
use Rattle.cd_empty.specs.Growth.{Grows}
use Rattle.cd_empty.specs.Seen.{graph_of}
use Rattle.cd_empty.proofs.GrowingWorlds.{and_further}
use Rattle.cd_operators.specs.Tools.{IsZero}
use Rattle.cd_operators.proofs.BuiltInNodes.{is_there}
use Rattle.cd_operators.proofs.LaterWorlds.{begins_too, is_later}
use Rattle.cd_operators.proofs.NodesKept.{Holds, holds_later, holds_built_in, holds_sequences}
use Rattle.cd_operators.proofs.NodesKept.{holds_lists, holds_numbers, are_tools}
use Rattle.cd_operators.proofs.ZeroAsked.{zero_is_element}
use Rattle.cd_operators.proofs.tools.put_tools.Goals as goal
use Rattle.cd_operators.proofs.tools.put_tools.Goals.{After-list_of-2, After-constant}
use Rattle.cd_operators.proofs.tools.put_tools.Goals.{After-list_of-3, After-tuple}

pub constant-requires : goal.constant-requires
constant-requires c = zero_is_element

grown : (c : After-list_of-2) → Grows c.args.world.now c.list_of-2.new.world
grown c = and_further c.args.world.now c.list_of.new.world c.list_of-2.new.world
    c.in_ok-sequences.ensures.grows c.list_of-2.ensures.grows

grown_on : (c : After-constant) → Grows c.args.world.now c.constant.new.world
grown_on c = and_further c.args.world.now c.list_of-2.new.world c.constant.new.world
    (grown (goal.at.After-constant c).After-list_of-2) c.constant.ensures.grows

grown_further : (c : After-list_of-3) → Grows c.args.world.now c.list_of-3.new.world
grown_further c = and_further c.args.world.now c.constant.new.world c.list_of-3.new.world
    (grown_on (goal.at.After-list_of-3 c).After-constant) c.list_of-3.ensures.grows

grown_last : (c : After-tuple) → Grows c.args.world.now c.tuple.new.world
grown_last c = and_further c.args.world.now c.list_of-3.new.world c.tuple.new.world
    (grown_further (goal.at.After-tuple c).After-list_of-3) c.tuple.ensures.grows

pub returns-in_err-lists-clause-grows : goal.returns-in_err-lists-clause-grows
returns-in_err-lists-clause-grows c =
    grown (goal.at.returns-in_err-lists-clause-grows c).After-list_of-2

pub returns-in_err-zero-clause-grows : goal.returns-in_err-zero-clause-grows
returns-in_err-zero-clause-grows c =
    grown_on (goal.at.returns-in_err-zero-clause-grows c).After-constant

pub returns-in_err-integers-clause-grows : goal.returns-in_err-integers-clause-grows
returns-in_err-integers-clause-grows c =
    grown_further (goal.at.returns-in_err-integers-clause-grows c).After-list_of-3

pub returns-in_err-numbers-clause-grows : goal.returns-in_err-numbers-clause-grows
returns-in_err-numbers-clause-grows c =
    grown_last (goal.at.returns-in_err-numbers-clause-grows c).After-tuple

pub returns-clause-grows : goal.returns-clause-grows
returns-clause-grows c = grown_last (goal.at.returns-clause-grows c).After-tuple

-- the built-in integers are a node of each later graph
pub list_of-requires-3 : goal.list_of-requires-3
list_of-requires-3 c = is_there (graph_of c.constant.new.world)
    (begins_too c.args.world.now c.constant.new.world
    (grown_on (goal.at.list_of-requires-3 c).After-constant) c.graph.ensures.built_in)
    INT (lit< tt)

pub tuple-requires : goal.tuple-requires
tuple-requires c = (
  is_there (graph_of c.list_of-3.new.world)
      (begins_too c.args.world.now c.list_of-3.new.world
      (grown_further (goal.at.tuple-requires c).After-list_of-3) c.graph.ensures.built_in)
      INT (lit< tt),
  (c.in_ok-integers.ensures.node, tt),
)

pub returns-clause-tools : goal.returns-clause-tools
returns-clause-tools c =
    let start = graph_of c.args.world.now in
    let first = graph_of c.list_of.new.world in
    let second = graph_of c.list_of-2.new.world in
    let third = graph_of c.constant.new.world in
    let fourth = graph_of c.list_of-3.new.world in
    let last = graph_of c.tuple.new.world in
    let sequences = c.in_ok-sequences in
    let lists = c.in_ok-lists in
    let zero = c.in_ok-zero in
    let integers = c.in_ok-integers in
    let numbers = c.in_ok-numbers in
    let begins = begins_too c.args.world.now c.constant.new.world
    (grown_on (goal.at.returns-clause-tools c).After-constant) c.graph.ensures.built_in in
    let to_second : IsLater first second = is_later c.list_of.new.world c.list_of-2.new.world
    lists.ensures.grows lists.ensures.sound in
    let to_third : IsLater second third = is_later c.list_of-2.new.world c.constant.new.world
    zero.ensures.grows zero.ensures.sound in
    let to_fourth : IsLater third fourth = is_later c.constant.new.world c.list_of-3.new.world
    integers.ensures.grows integers.ensures.sound in
    let to_last : IsLater fourth last = is_later c.list_of-3.new.world c.tuple.new.world
    numbers.ensures.grows numbers.ensures.sound in
    let from_third : IsLater third last = later_still third fourth last to_fourth to_last in
    let from_second : IsLater second last = later_still second third last to_third from_third in
    let are_sequences : Holds first sequences.sequences IsSequence =
    holds_sequences start first sequences.sequences sequences.ensures.node
    c.graph.ensures.built_in sequences.ensures.has sequences.ensures.only in
    let are_integers : Holds third INT (BuiltIn INT) = holds_built_in third begins INT (lit< tt) in
    are_tools last
    (record {
      sequences = sequences.sequences;
      lists = lists.lists;
      zero = zero.zero;
      numbers = numbers.numbers;
    })
    (holds_later first last (later_still first second last to_second from_second)
    sequences.ensures.sound sequences.sequences IsSequence are_sequences)
    (holds_later second last from_second lists.ensures.sound lists.lists (IsListOf IsSequence)
    (holds_lists first second lists.lists lists.ensures.node sequences.sequences IsSequence
    are_sequences lists.ensures.has lists.ensures.only))
    (holds_later third last from_third zero.ensures.sound zero.zero IsZero
    (record { is_node = zero.ensures.node; only = zero.ensures.only; all = zero.ensures.has }))
    (holds_numbers fourth last numbers.numbers numbers.ensures.node integers.integers
    (holds_later third fourth to_fourth zero.ensures.sound INT (BuiltIn INT) are_integers)
    (holds_lists third fourth integers.integers integers.ensures.node INT (BuiltIn INT)
    are_integers integers.ensures.has integers.ensures.only)
    numbers.ensures.has numbers.ensures.only)
