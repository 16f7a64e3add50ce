use Rattle.std.proofs.Common.{drop}
use Rattle.cd_driver.specs.Outside.{Outside, outside}
use Rattle.cd_tour.specs.Showing.{AreShown}
use Rattle.cd_tour.proofs.showing.show_all.Given as goal

-- where the queries that are left are shown from here on, all of them are shown
abbrev pub invariant-loop-query : goal.invariant-loop-query
invariant-loop-query g l = (end : Outside)
    → AreShown (drop l.query-index l.queries) (outside (g.F.Files.state l.files) (g.S.Sink.state l.out) (g.S.Sink.state l.err)) end
    → AreShown l.queries (outside (g.F.Files.state l.fn.files) (g.S.Sink.state l.fn.out) (g.S.Sink.state l.fn.err)) end
