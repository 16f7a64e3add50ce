-- A fact of all ways of an expression, which stays where one way follows another, is a fact of all
-- ways of a repeat.
use Rattle.std.proofs.Common.{ℕ, zero, suc, Bool, true, false, List, [], ◌∷◌, map, length}
use Rattle.cd_syntax.specs.declared.type_tree.Post.{Post}
use Rattle.cd_syntax.specs.declared.type_tree.Post.TheVariants as post
use Rattle.cd_model.specs.AllOf.{AllOf}
use Rattle.cd_model.specs.Thing.{Thing}
use Rattle.cd_matching.specs.Ways.{Way, Ways, still, followed, then_, if_taken, that_take}
use Rattle.cd_matching.specs.Ways.{in_order, turns, star, repeated}
use Rattle.cd_model.proofs.Covered.{each_both}

-- a fact of the things that there are and of a way to take the first of them
abbrev pub OfWay : Type 1
OfWay = List Thing → Way → Type 0

abbrev pub Keep : OfWay → Ways → Type 0
Keep Fact ways = (things : List Thing) → AllOf (Fact things) (ways things)

module _ (Fact : OfWay) (at_still : (things : List Thing) → Fact things (still things))
    (at_followed : (things : List Thing) (one next : Way) → Fact things one → Fact one.rest next
    → Fact things (followed one next)) where
  followed_keep : (things : List Thing) (one : Way) (ways : List Way) → Fact things one
      → AllOf (Fact one.rest) ways → AllOf (Fact things) (map (followed one) ways)
  followed_keep things one [] is each = tt
  followed_keep things one (way ∷ ways) is each =
      (at_followed things one way is each.0, followed_keep things one ways is each.1)

  pub then_keep : (things : List Thing) (ways : List Way) (next : Ways)
      → AllOf (Fact things) ways → Keep Fact next → AllOf (Fact things) (then_ ways next)
  then_keep things [] next each kept = tt
  then_keep things (way ∷ ways) next each kept =
      each_both (Fact things) (map (followed way) (next way.rest)) (then_ ways next)
      (followed_keep things way (next way.rest) each.0 (kept way.rest))
      (then_keep things ways next each.1 kept)

  that_take_keep : (things : List Thing) (ways : List Way) → AllOf (Fact things) ways
      → AllOf (Fact things) (that_take ways)
  that_take_keep things [] each = tt
  that_take_keep things (way ∷ ways) each =
      by_taken way.taken (that_take_keep things ways each.1)
    where
      by_taken : (taken : List Thing) → AllOf (Fact things) (that_take ways)
          → AllOf (Fact things) (if_taken way taken (that_take ways))
      by_taken [] further = further
      by_taken (d ∷ taken) further = (each.0, further)

  order_keeps : (lazy : Bool) (things : List Thing) (ways : List Way) → AllOf (Fact things) ways
      → AllOf (Fact things) (in_order lazy (still things) ways)
  order_keeps true things ways each = (at_still things, each)
  order_keeps false things ways each =
      each_both (Fact things) ways (still things ∷ []) each (at_still things, tt)

  turns_keep : (lazy : Bool) (count : ℕ) (one : Ways) → Keep Fact one
      → Keep Fact (turns lazy count one)
  turns_keep lazy zero one kept things = (at_still things, tt)
  turns_keep lazy (suc count) one kept things =
      order_keeps lazy things (then_ (that_take (one things)) (turns lazy count one))
      (then_keep things (that_take (one things)) (turns lazy count one)
      (that_take_keep things (one things) (kept things)) (turns_keep lazy count one kept))

  star_keeps : (lazy : Bool) (one : Ways) → Keep Fact one → Keep Fact (star lazy one)
  star_keeps lazy one kept things = turns_keep lazy (length things) one kept things

  plus_keeps : (lazy : Bool) (one : Ways) → Keep Fact one
      → Keep Fact (λ things. then_ (one things) (star lazy one))
  plus_keeps lazy one kept things =
      then_keep things (one things) (star lazy one) (kept things) (star_keeps lazy one kept)

  pub repeated_keep : (how : Post) (one : Ways) → Keep Fact one → Keep Fact (repeated how one)
  repeated_keep post.Star one kept things = star_keeps false one kept things
  repeated_keep post.LazyStar one kept things = star_keeps true one kept things
  repeated_keep post.Plus one kept things = plus_keeps false one kept things
  repeated_keep post.LazyPlus one kept things = plus_keeps true one kept things
  repeated_keep post.Opt one kept things = order_keeps false things (one things) (kept things)
  repeated_keep post.LazyOpt one kept things = order_keeps true things (one things) (kept things)
