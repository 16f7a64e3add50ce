use Rattle.std.proofs.Common.{◌≡◌, ℕ, length, sym, subst, ◌∙◌}
use Rattle.std.specs.List.{slice_get}
use Rattle.std.specs.Option.{option_map}
use Rattle.cd_sets.specs.Interval.{bounds_of}
use Rattle.cd_operators.proofs.OfSets.{read_more, read_all, pieces_more}
use Rattle.cd_operators.proofs.combined.pieces.Goals as goal
use Rattle.cd_operators.proofs.combined.pieces.Goals.{After-piece}

-- the interval that is read has the number of those so far
read : (c : After-piece)
    → option_map bounds_of (slice_get c.args.set.now (length c.loop-bounds.pieces.items))
    ≡ c.piece.result
read c = subst (λ (k : ℕ). option_map bounds_of (slice_get c.args.set.now k) ≡ c.piece.result)
    (c.len.ensures ∙ c.loop-bounds.pieces.ok.0) (sym c.piece.ensures)

pub loop-bounds-preserved : goal.loop-bounds-preserved
loop-bounds-preserved c =
    let old = c.loop-bounds.pieces.items in
    let new = c.push.new.self.items in
    let before = c.loop-bounds.invariant in
    let found = read (goal.at.loop-bounds-preserved c).After-piece ∙ c.in-Some.is in record {
      intervals = read_more c.args.set.now old new c.in-Some.bounds before.intervals found
          c.in_ok-push.ensures.items;
      pieces = pieces_more c.args.set.now old new c.in-Some.bounds c.requires before.pieces found
          c.in_ok-push.ensures.items;
    }

pub returns-clause-intervals : goal.returns-clause-intervals
returns-clause-intervals c = read_all c.args.set.now c.loop-bounds.pieces.items
    c.loop-bounds.invariant.intervals
    (read (goal.at.returns-clause-intervals c).After-piece ∙ c.in_default.is)
