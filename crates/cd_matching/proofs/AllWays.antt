-- Facts of all the ways of an expression that stay where one way follows another.
use Rattle.std.proofs.Common.{ℕ, zero, suc, Bool, true, false, List, [], ◌∷◌, map, length}
use Rattle.cd_syntax.specs.declared.type_tree.Post.{Post}
use Rattle.cd_syntax.specs.declared.type_tree.Post.TheVariants as post
use Rattle.cd_model.proofs.Covered.{each_both}
use Rattle.cd_model.specs.AllOf.{AllOf}
use Rattle.cd_model.specs.Thing.{Thing}
use Rattle.cd_matching.specs.Ways.{Way, Ways, still, followed, then_, if_taken, that_take, in_order}
use Rattle.cd_matching.specs.Ways.{turns, star, repeated}
use Rattle.cd_matching.proofs.AllOf.{all_map}

module _ (P : Way → Type 0) (of_still : (things : List Thing) → P (still things))
    (of_two : (one other : Way) → P one → P other → P (followed one other)) where
  abbrev pub All : Ways → Type 0
  All ways = (things : List Thing) → AllOf P (ways things)

  pub all_then : (ways : List Way) (next : Ways) → AllOf P ways → All next
      → AllOf P (then_ ways next)
  all_then [] next all others = tt
  all_then (way ∷ ways) next all others =
      each_both P (map (followed way) (next way.rest)) (then_ ways next)
      (all_map P P (followed way) (λ other. of_two way other all.0) (next way.rest)
      (others way.rest)) (all_then ways next all.1 others)

  all_taking : (ways : List Way) → AllOf P ways → AllOf P (that_take ways)
  all_taking [] all = tt
  all_taking (way ∷ ways) all = by_taken way.taken (all_taking ways all.1)
    where
      by_taken : (taken : List Thing) → AllOf P (that_take ways)
          → AllOf P (if_taken way taken (that_take ways))
      by_taken [] others = others
      by_taken (d ∷ taken) others = (all.0, others)

  all_in_order : (lazy : Bool) (things : List Thing) (ways : List Way) → AllOf P ways
      → AllOf P (in_order lazy (still things) ways)
  all_in_order true things ways all = (of_still things, all)
  all_in_order false things ways all =
      each_both P ways (still things ∷ []) all (of_still things, tt)

  all_turns : (lazy : Bool) (count : ℕ) (one : Ways) → All one → All (turns lazy count one)
  all_turns lazy zero one all things = (of_still things, tt)
  all_turns lazy (suc count) one all things = all_in_order lazy things
      (then_ (that_take (one things)) (turns lazy count one))
      (all_then (that_take (one things)) (turns lazy count one)
      (all_taking (one things) (all things)) (all_turns lazy count one all))

  all_star : (lazy : Bool) (one : Ways) → All one → All (star lazy one)
  all_star lazy one all things = all_turns lazy (length things) one all things

  pub all_repeated : (how : Post) (one : Ways) → All one → All (repeated how one)
  all_repeated post.Star one all things = all_star false one all things
  all_repeated post.LazyStar one all things = all_star true one all things
  all_repeated post.Plus one all things =
      all_then (one things) (star false one) (all things) (all_star false one all)
  all_repeated post.LazyPlus one all things =
      all_then (one things) (star true one) (all things) (all_star true one all)
  all_repeated post.Opt one all things = all_in_order false things (one things) (all things)
  all_repeated post.LazyOpt one all things = all_in_order true things (one things) (all things)
