use Rattle.std.proofs.Common.{◌≡◌, ◌≤◌, ℕ, List, Some, length, subst, sym, ◌∙◌, arith}
use Rattle.std.proofs.lemmas.List.Elements.{Contains-append_left}
use Rattle.std.proofs.lemmas.Option.{slice_get_within}
use Rattle.std.specs.List.{slice_get, Contains}
use Rattle.cd_explored.specs.Inner.Reached.{rows_of, ReachesBy, itself}
use Rattle.cd_explored.proofs.Listed.{contains_got, got_contains}
use Rattle.cd_explored.proofs.Reaching.{sound_first, sound_more, whole_more, reached_among}
use Rattle.cd_explored.proofs.RowsRead.{looked_up, looked_past}
use Rattle.cd_explored.proofs.reach.reached.Goals as goal

pub loop-number-init : goal.loop-number-init
loop-number-init c = record {
  marked = c.in_ok-add.ensures.marked;
  begun = c.in_ok-add.ensures.there;
  sound = sound_first (ReachesBy (rows_of c.args.steps.now) c.args.variable c.args.from) c.args.from
      c.new-all.result.items c.add.new.all.items c.new-all.ensures.items (itself c.args.from)
      c.in_ok-add.ensures.grows;
  whole = λ k number next below there led. absurd (omega (arith, below));
}

pub loop-number-preserved : goal.loop-number-preserved
loop-number-preserved c =
    let rows = rows_of c.args.steps.now in
    let number = c.in-Some.number in
    let done = c.loop-number.done in
    let old = c.loop-number.all.items in
    let new = c.follow.new.all.items in
    let before = c.loop-number.invariant in
    let more = c.in_ok-follow.ensures.more in
    let here = subst (λ (all : List ℕ). slice_get all done ≡ Some number) c.as_slice.ensures.value
    (sym (looked_up c.as_slice.result.now done c.get.result c.get.ensures.lookup)
    ∙ sym c.copied.ensures ∙ c.in-Some.is) in
    record {
      marked = c.in_ok-follow.ensures.marked;
      begun = subst (λ (all : List ℕ). Contains all c.args.from) (sym more.1)
          (Contains-append_left old more.0 c.args.from before.begun);
      sound = sound_more c.args.variable rows c.args.from number old new before.sound
          (contains_got old done number here) more;
      whole = whole_more c.args.variable rows old new done number (slice_get_within old done number here)
          here more before.whole c.in_ok-follow.ensures.whole;
    }

pub returns-clause-whole : goal.returns-clause-whole
returns-clause-whole c number reaches =
    let all = c.loop-number.all.items in
    let past : length all ≤ c.loop-number.done = subst (λ (xs : List ℕ). length xs ≤ c.loop-number.done)
    c.as_slice.ensures.value
    (looked_past c.as_slice.result.now c.loop-number.done c.get.result c.get.ensures.lookup
    (sym c.copied.ensures ∙ c.in_default.is)) in
    reached_among c.args.variable (rows_of c.args.steps.now) all
    (λ n next has led. c.loop-number.invariant.whole has.0 n next (omega (arith, past, has.1))
    (got_contains all n has) led)
    c.args.from number c.loop-number.invariant.begun reaches
