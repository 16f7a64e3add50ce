use Rattle.std.proofs.Common.{◌≡◌, ◌<◌, ℕ, List, false, true, length, get_or, sym, subst, arith}
use Rattle.std.specs.Borrow.{Bor}
use Rattle.std.proofs.lemmas.List.{length-map}
use Rattle.cd_graph.specs.Nodes.{nodes}
use Rattle.cd_graph.specs.declared.fields.Fields.{Fields}
use Rattle.cd_needs.specs.RecordType.{record_type, record_types}
use Rattle.cd_rules.specs.Clauses.{RecordType}
use Rattle.cd_rules.specs.Within.{IsTypeWithin}
use Rattle.cd_elements.specs.Elements.{table}
use Rattle.cd_elements.specs.Table.{element_at}
use Rattle.cd_members.specs.Held.{record_in}
use Rattle.cd_members.proofs.Lists.{each_at, none_of_more, place_here, made_at}
use Rattle.cd_members.proofs.record.place_of.Goals as goal

-- there are as many types as references
within : (types : List (Bor Fields)) (place : ℕ) → place < length types → place < length (record_types types)
within types place below = omega (arith, length-map types (λ fields. record_type fields.now))

-- the type at a place of the types is that of the reference there
type_at : (types : List (Bor Fields)) (place : ℕ) (one : Bor Fields) → one ≡ get_or types place one
    → get_or (record_types types) place (record_type one.now) ≡ record_type one.now
type_at types place one is = made_at (λ fields. record_type fields.now) types place one is

pub is_in_type-requires-clause-nodes : goal.is_in_type-requires-clause-nodes
is_in_type-requires-clause-nodes c =
    let nodes = length (nodes c.args.graph.now) in
    let types = c.args.left.now in
    let place = c.loop-place.place in
    let one = c.index-left-place.result in
    subst (IsTypeWithin nodes) (type_at types place one c.index-left-place.is)
    (each_at (IsTypeWithin nodes) (record_types types) place (record_type one.now) c.requires.left
    (within types place c.loop-place-test.true))

-- the element is not in the next one either
pub loop-place-preserved : goal.loop-place-preserved
loop-place-preserved c =
    let holds = record_in (nodes c.args.graph.now) (element_at (table c.args.elements.now) c.args.id) in
    let types = c.args.left.now in
    let place = c.loop-place.place in
    let one = c.index-left-place.result in (
      none_of_more holds (record_types types) place (record_type one.now) (within types place c.loop-place-test.true)
          c.loop-place.invariant.0 (subst (λ (type : RecordType). holds type false) (sym (type_at types place one c.index-left-place.is))
          (rw c.if-branch.false at c.in_ok-is_in_type.ensures.answer)),
      c.in_ok-is_in_type.ensures.right,
    )

pub returns-then-branch-clause-place : goal.returns-then-branch-clause-place
returns-then-branch-clause-place c =
    let holds = record_in (nodes c.args.graph.now) (element_at (table c.args.elements.now) c.args.id) in
    let types = c.args.left.now in
    let place = c.loop-place.place in
    let one = c.index-left-place.result in
    place_here holds (record_types types) place (record_type one.now) (within types place c.loop-place-test.true)
    (subst (λ (type : RecordType). holds type true) (sym (type_at types place one c.index-left-place.is))
    (rw c.if-branch.true at c.in_ok-is_in_type.ensures.answer))
