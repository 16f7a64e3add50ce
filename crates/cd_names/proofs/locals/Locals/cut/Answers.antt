use Rattle.std.proofs.Common.{◌∙◌, ap, sym, map, reverse}
use Rattle.std.proofs.lemmas.List.{take-map}
use Rattle.std.proofs.Common.{Bor}
use Rattle.cd_syntax.specs.declared.name.Name.{Name}
use Rattle.cd_names.proofs.LocalNames.{cut_part}
use Rattle.cd_names.proofs.locals.Locals.cut.Goals as goal

pub returns : goal.returns
returns c above below parts under =
    let names = map (λ name. name.now) c.self.inside.names.items in
    ap (λ all. reverse (map (λ name. name.now) all)) c.truncate.ensures.items
    ∙ ap reverse
    (sym (take-map {X = Bor Name} (λ name. name.now) c.args.count c.self.inside.names.items))
    ∙ cut_part c.args.count names above below (c.self.view_is ∙ parts) under
