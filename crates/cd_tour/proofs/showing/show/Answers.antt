use Rattle.std.proofs.Common.{◌≡◌, rules}
use Rattle.cd_base.specs.SinkState.{Puts}
use Rattle.cd_tour.specs.CommandLine.{command_line}
use Rattle.cd_tour.specs.Showing.{words_of, meaning_of, ending}
use Rattle.cd_tour.proofs.Shown.{is_shown}
use Rattle.cd_tour.proofs.showing.show.Goals as goal

pub returns : goal.returns
returns g c =
    let line : c.as_bytes.result.now ≡ command_line (words_of c.args.query.now) = search rules in
    let puts : Puts (g.S.Sink.state c.args.out.now) (g.S.Sink.state c.put.new.self) c.as_bytes.result.now = search rules in
    let last : c.as_bytes-2.result.now ≡ ending c.in_ok-status.status (meaning_of c.args.query.now) = search rules in
    let ends : Puts (g.S.Sink.state c.answered.new.out) (g.S.Sink.state c.put-2.new.self) c.as_bytes-2.result.now = search rules in
    is_shown c.args.query.now _ _ _ _ _ _ _ _ c.in_ok-status.status _ line puts (rw c.in_ok-status.was at c.answered.ensures) _ last ends
