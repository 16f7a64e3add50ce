use Rattle.std.proofs.Common.{subst}
use Rattle.cd_empty.specs.Seen.{graph_of, table_of}
use Rattle.cd_verdicts.specs.Verdicts.{IsExact}
use Rattle.cd_sites.proofs.WrittenTaken.{none_by_verdict, one_by_verdict}
use Rattle.cd_coming.proofs.take.taken.Goals as goal

pub returns-in-Empty-clause-taken : goal.returns-in-Empty-clause-taken
returns-in-Empty-clause-taken c = λ scope written is.
    none_by_verdict (graph_of c.args.world.now) scope written c.args.site.now is c.args.matched
    (table_of c.decide.new.self) c.in_ok-both.both c.in_ok-both.ensures c.in_ok-decide.field-0
    c.in_ok-decide.ensures.exact c.in-Empty.is

pub returns-clause-taken : goal.returns-clause-taken
returns-clause-taken c = (
  (subst (IsExact (graph_of c.args.world.now) (table_of c.decide.new.self) c.in_ok-both.both)
      c.in-Inhabited.is c.in_ok-decide.ensures.exact).0,
  λ scope written is.
      one_by_verdict (graph_of c.args.world.now) scope written c.args.site.now is c.args.matched
      (table_of c.decide.new.self) c.in_ok-both.both c.in_ok-both.ensures c.in_ok-decide.field-0
      c.in_ok-decide.ensures.exact c.in-Inhabited.id c.in-Inhabited.is,
)
