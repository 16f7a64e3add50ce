use Rattle.std.proofs.Common.{List, None, sym, ap, subst, ◌∙◌, map}
use Rattle.cd_syntax.specs.Name.{Name}
use Rattle.cd_model.specs.Formula.{Field, AreRisingLabels}
use Rattle.cd_graph.specs.PlainFormula.{plain_named}
use Rattle.cd_shared.specs.Shared.{class_in, renamed_field}
use Rattle.cd_shared.proofs.Renaming.{labels_kept}
use Rattle.cd_shared.proofs.renamed.renamed_record.Goals as goal

-- labels stay
pub of-requires : goal.of-requires
of-requires c = let class = class_in c.args.classes.now in
    let named = plain_named c.args.fields.now.named in
    subst (λ (fields : List (Name × Field)). AreRisingLabels None fields)
    (sym (c.in_ok-named.ensures
    ∙ ap (λ fields. map (renamed_field class) (plain_named fields)) c.items.ensures.value))
    (labels_kept class None named c.items.ensures.rising)
