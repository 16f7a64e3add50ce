use Rattle.std.proofs.Common.{rules}
use Rattle.cd_notation.proofs.LastPlaces.{is_open_from}
use Rattle.cd_notation.proofs.open_labels.OpenLabels.add.Goals as goal

pub returns-then-from-end-clause-again : goal.returns-then-from-end-clause-again
returns-then-from-end-clause-again c = search (rules, is_open_from c.args.label c.args.from c.args.self.now.open.items)

pub returns-clause-fresh : goal.returns-clause-fresh
returns-clause-fresh c = search (rules, is_open_from c.args.label c.args.from c.args.self.now.open.items)
