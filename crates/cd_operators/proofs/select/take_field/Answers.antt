use Rattle.std.proofs.Common.{◌<◌, length, subst, sym}
use Rattle.std.proofs.lemmas.Result.{err_from_is_err_and}
use Rattle.cd_model.specs.Formula.{Graph}
use Rattle.cd_meaning.specs.Records.{HasFieldAt, IsFieldOf}
use Rattle.cd_meaning.specs.Sets.{◌⊆◌, elements_of}
use Rattle.cd_typing.specs.Later.{IsLater}
use Rattle.cd_typing.proofs.Later.{later_in, earlier_in, below_later}
use Rattle.cd_typing.proofs.Subsets.{through}
use Rattle.cd_least.proofs.Monotone.{fields_grow}
use Rattle.cd_empty.specs.Growth.{Grows}
use Rattle.cd_empty.specs.Seen.{graph_of, table_of}
use Rattle.cd_empty.proofs.GrowingWorlds.{and_further}
use Rattle.cd_operators.specs.declared.misfit.Side.TheVariants.{First}
use Rattle.cd_typing.specs.declared.rule.Rule.TheVariants as rule
use Rattle.cd_operators.proofs.LaterWorlds.{is_later}
use Rattle.cd_operators.proofs.Refused.{misfit_before}
use Rattle.cd_operators.proofs.select.take_field.Goals as goal
use Rattle.cd_operators.proofs.select.take_field.Goals.{In_ok-needed, After-field}

-- the graph with the records that have the field
later : (c : In_ok-needed)
    → IsLater (graph_of c.args.world.now) (graph_of c.with_field.new.world)
later c = is_later c.args.world.now c.with_field.new.world c.in_ok-needed.ensures.grows
    c.in_ok-needed.ensures.sound

still_there : (c : In_ok-needed) → c.args.records.0 < length (graph_of c.with_field.new.world)
still_there c = below_later (graph_of c.args.world.now) (graph_of c.with_field.new.world)
    (later c) c.args.records c.requires.records

pub need-requires-clause-id : goal.need-requires-clause-id
need-requires-clause-id c = still_there (goal.at.need-requires-clause-id c).In_ok-needed

pub field-requires-clause-records : goal.field-requires-clause-records
field-requires-clause-records c =
    subst (λ (g : Graph). c.args.records.0 < length g) (sym c.in_ok-need.ensures.graph)
    (still_there (goal.at.field-requires-clause-records c).In_ok-needed)

pub returns-in_err-need-clause-misfit : goal.returns-in_err-need-clause-misfit
returns-in_err-need-clause-misfit c =
    let graph = graph_of c.args.world.now in
    let longer = graph_of c.with_field.new.world in
    let at = (goal.at.returns-in_err-need-clause-misfit c).In_ok-needed in
    let is = err_from_is_err_and c.from_residual-in_err-need.result c.from_residual-in_err-need.ensures.1 in
    rw (is.1, is.2)
    (misfit_before graph longer (table_of c.need.new.world) First c.args.records
    (elements_of longer c.in_ok-needed.needed) (HasFieldAt c.args.label.now) rule.Field
    (earlier_in graph longer (later at) c.graph.ensures.sound c.args.records c.requires.records)
    c.in_ok-needed.ensures.all c.in_err-need.field-0.0 c.in_err-need.ensures.misfit)

pub returns-clause-have : goal.returns-clause-have
returns-clause-have c =
    let graph = graph_of c.args.world.now in
    let longer = graph_of c.with_field.new.world in
    let at = (goal.at.returns-clause-have c).In_ok-needed in
    through (elements_of graph c.args.records) (elements_of longer c.args.records)
    (HasFieldAt c.args.label.now)
    (later_in graph longer (later at) c.graph.ensures.sound c.args.records c.requires.records)
    (through (elements_of longer c.args.records) (elements_of longer c.in_ok-needed.needed)
    (HasFieldAt c.args.label.now) c.in_ok-need.ensures.within c.in_ok-needed.ensures.have)

pub returns-clause-gives : goal.returns-clause-gives
returns-clause-gives c =
    let graph = graph_of c.args.world.now in
    let longer = graph_of c.with_field.new.world in
    let label = c.args.label.now in
    let result = elements_of (graph_of c.field.new.world) c.in_ok-field.field-0 in
    let at = (goal.at.returns-clause-gives c).In_ok-needed in
    through (IsFieldOf label (elements_of graph c.args.records))
    (IsFieldOf label (elements_of longer c.args.records)) result
    (fields_grow label (elements_of graph c.args.records) (elements_of longer c.args.records)
    (later_in graph longer (later at) c.graph.ensures.sound c.args.records c.requires.records))
    (subst (λ (g : Graph). IsFieldOf label (elements_of g c.args.records) ⊆ result)
    c.in_ok-need.ensures.graph c.in_ok-field.ensures.has)

pub returns-clause-only : goal.returns-clause-only
returns-clause-only c =
    let graph = graph_of c.args.world.now in
    let longer = graph_of c.with_field.new.world in
    let label = c.args.label.now in
    let result = elements_of (graph_of c.field.new.world) c.in_ok-field.field-0 in
    let at = (goal.at.returns-clause-only c).In_ok-needed in
    through result (IsFieldOf label (elements_of longer c.args.records))
    (IsFieldOf label (elements_of graph c.args.records))
    (subst (λ (g : Graph). result ⊆ IsFieldOf label (elements_of g c.args.records))
    c.in_ok-need.ensures.graph c.in_ok-field.ensures.only)
    (fields_grow label (elements_of longer c.args.records) (elements_of graph c.args.records)
    (earlier_in graph longer (later at) c.graph.ensures.sound c.args.records c.requires.records))

has_grown : (c : After-field) → Grows c.args.world.now c.field.new.world
has_grown c = and_further c.args.world.now c.with_field.new.world c.field.new.world
    c.in_ok-needed.ensures.grows
    (and_further c.with_field.new.world c.need.new.world c.field.new.world
    c.in_ok-need.ensures.grows c.field.ensures.grows)

pub returns-in_err-field-clause-grows : goal.returns-in_err-field-clause-grows
returns-in_err-field-clause-grows c =
    has_grown (goal.at.returns-in_err-field-clause-grows c).After-field

pub returns-clause-grows : goal.returns-clause-grows
returns-clause-grows c = has_grown (goal.at.returns-clause-grows c).After-field
