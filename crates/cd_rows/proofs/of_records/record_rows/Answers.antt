use Rattle.std.proofs.Common.{map, ap}
use Rattle.std.proofs.lemmas.Result.{IfOk-weaker}
use Rattle.cd_needs.specs.RecordTypes.{plain_row}
use Rattle.cd_empty.specs.Seen.{graph_of}
use Rattle.cd_rows.specs.Inner.PlainClauses.{plain_row_clause}
use Rattle.cd_rows.proofs.RowsOfClauses.{clauses_same, clauses_ask, rows_are, rows_cover, rows_ask}
use Rattle.cd_rows.proofs.of_records.record_rows.Goals as goal

pub rows_of-requires : goal.rows_of-requires
rows_of-requires c =
    let graph = graph_of c.args.world.now in
    let question = c.args.question.now in
    let clauses = map plain_row_clause c.as_slice.result.now in
    clauses_ask graph c.graph.ensures.built_in c.graph.ensures.sound question clauses
    (clauses_same question graph _ _ clauses c.graph.ensures.graph
    (ap (map plain_row_clause) c.as_slice.ensures.value) c.in_ok-clauses.ensures)

pub returns-clause-rows : goal.returns-clause-rows
returns-clause-rows c =
    let graph = graph_of c.args.world.now in
    let question = c.args.question.now in
    let clauses = map plain_row_clause c.as_slice.result.now in
    IfOk-weaker c.rows_of.result _ _
    (λ rows made. rows_are graph c.graph.ensures.built_in c.graph.ensures.sound question clauses
    (clauses_same question graph _ _ clauses c.graph.ensures.graph
    (ap (map plain_row_clause) c.as_slice.ensures.value) c.in_ok-clauses.ensures)
    c.requires (map plain_row rows.items) made)
    c.rows_of.ensures.exact

pub returns-clause-values : goal.returns-clause-values
returns-clause-values c =
    let graph = graph_of c.args.world.now in
    let question = c.args.question.now in
    let clauses = map plain_row_clause c.as_slice.result.now in
    IfOk-weaker c.rows_of.result _ _
    (λ rows made. rows_cover graph c.graph.ensures.built_in c.graph.ensures.sound question clauses
    (clauses_same question graph _ _ clauses c.graph.ensures.graph
    (ap (map plain_row_clause) c.as_slice.ensures.value) c.in_ok-clauses.ensures)
    c.requires (map plain_row rows.items) made)
    c.rows_of.ensures.exact

pub returns-clause-asks : goal.returns-clause-asks
returns-clause-asks c =
    let graph = graph_of c.args.world.now in
    let question = c.args.question.now in
    let clauses = map plain_row_clause c.as_slice.result.now in
    IfOk-weaker c.rows_of.result _ _
    (λ rows made. rows_ask graph c.graph.ensures.built_in c.graph.ensures.sound question clauses
    (clauses_same question graph _ _ clauses c.graph.ensures.graph
    (ap (map plain_row_clause) c.as_slice.ensures.value) c.in_ok-clauses.ensures)
    c.requires (map plain_row rows.items) made)
    c.rows_of.ensures.exact
