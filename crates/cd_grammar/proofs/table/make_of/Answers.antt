use Rattle.std.proofs.Common.{◌∙◌, ap, map, slice_get}
use Rattle.std.proofs.lemmas.Option.{slice_get-map}
use Rattle.cd_grammar.specs.Rules.{lines}
use Rattle.cd_grammar.proofs.table.make_of.Goals as goal

pub returns : goal.returns
returns c =
    c.make_in.ensures ∙ ap (slice_get (map (λ line. line.make) lines)) c.from.ensures
    ∙ slice_get-map (λ line. line.make) lines c.args.rule
