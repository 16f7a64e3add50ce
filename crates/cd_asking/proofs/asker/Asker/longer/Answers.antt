use Rattle.std.proofs.Common.{[], ◌∷◌, ◌++◌, length, sym, subst}
use Rattle.cd_graph.specs.Nodes.{nodes}
use Rattle.cd_model.specs.AllOf.{AllOf}
use Rattle.cd_cells.specs.Table.{names}
use Rattle.cd_asking.specs.Inner.Asked.{IsField}
use Rattle.cd_asking.specs.Inner.Rows.{row_at}
use Rattle.cd_asking.proofs.Kept.{knows_more, grown_none, adds_grow}
use Rattle.cd_asking.proofs.Members.{each_more, both_ok}
use Rattle.cd_asking.proofs.asker.Asker.longer.Goals as goal

-- more rows change nothing
pub returns-clause-right : goal.returns-clause-right
returns-clause-right c =
    knows_more (nodes c.args.graph.now) (names c.args.values.now) c.args.self.now c.args.self.now.sets c.longer.new.self (grown_none c.args.self.now.sets)
    (adds_grow (row_at c.args.self.now.rows c.args.row ++ c.args.field ∷ []) c.args.self.now.rows c.longer.new.self c.longer.ensures.adds)
    c.requires.right.nodes c.requires.right

-- its fields have labels and sets
pub returns-clause-row : goal.returns-clause-row
returns-clause-row c =
    let Sound = IsField (names c.args.values.now) (length c.args.self.now.sets) in
    both_ok c.longer.result _ _ _ (λ row within is. (
      within,
      subst (AllOf Sound) (sym is)
          (each_more Sound (row_at c.args.self.now.rows c.args.row) c.args.field c.requires.row.1 c.requires.field),
    ))
    c.longer.ensures.within c.longer.ensures.found
