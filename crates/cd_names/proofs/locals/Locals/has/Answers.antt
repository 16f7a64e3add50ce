use Rattle.std.proofs.Common.{◌∙◌, ap, reverse, Bor}
use Rattle.std.specs.Prelude.{bytes_eq}
use Rattle.std.specs.List.{list_any}
use Rattle.cd_syntax.specs.declared.name.Name.{Name}
use Rattle.cd_names.proofs.LocalNames.{any_kept}
use Rattle.cd_names.proofs.locals.Locals.has.Goals as goal

pub returns : goal.returns
returns c = c.is_one.ensures
    ∙ ap (λ all. list_any (λ (local : Bor Name). bytes_eq c.args.name.now local.now) (reverse all))
    c.as_slice.ensures.value
    ∙ any_kept (λ name. name.now) (bytes_eq c.args.name.now) c.self.inside.names.items
    ∙ ap (list_any (bytes_eq c.args.name.now)) c.self.view_is
