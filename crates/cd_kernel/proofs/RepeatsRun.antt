-- The first way of a repeat after which something goes on, found turn by turn: after each turn
-- that takes an item comes another turn, or what goes on.
use Rattle.std.proofs.Common.{◌≡◌, ℕ, zero, suc, ◌+◌, ◌≤◌, Bool, true, false, List, [], ◌∷◌}
use Rattle.std.proofs.Common.{length, None, refl, sym, ap, ap₂, ◌∙◌, arith, length-append}
use Rattle.cd_syntax.specs.declared.type_tree.Post.{Post}
use Rattle.cd_model.specs.AllOf.{AllOf}
use Rattle.cd_model.specs.Thing.{Thing}
use Rattle.cd_matching.specs.Captures.{or_else}
use Rattle.cd_matching.specs.Ways.{Way, Ways, still, followed, then_, if_taken, that_take}
use Rattle.cd_matching.specs.Ways.{turns, star, repeated}
use Rattle.cd_kernel.proofs.OrElse.{or_else_none}
use Rattle.cd_kernel.proofs.WaysKeep.{Keep, then_keep, repeated_keep}
use Rattle.cd_kernel.proofs.FirstWays.{On, after, onward, first_on, order, after_still}
use Rattle.cd_kernel.proofs.FirstWays.{first_then, first_that_take, first_order}

-- what a way takes and leaves is no more than this
abbrev pub IsWithin : ℕ → Way → Type 0
IsWithin count way = length way.taken + length way.rest ≤ count

abbrev pub AreWithin : Ways → Type 0
AreWithin = Keep (λ things way. IsWithin (length things) way)

pub still_is_within : (things : List Thing) → IsWithin (length things) (still things)
still_is_within things = omega arith

followed_is_within : (things : List Thing) (one next : Way) → IsWithin (length things) one
    → IsWithin (length one.rest) next → IsWithin (length things) (followed one next)
followed_is_within things one next is_one is_next =
    let long = length-append one.taken next.taken in omega (arith, is_one, is_next, long)

pub then_within : (things : List Thing) (ways : List Way) (next : Ways)
    → AllOf (IsWithin (length things)) ways → AreWithin next
    → AllOf (IsWithin (length things)) (then_ ways next)
then_within = then_keep (λ things way. IsWithin (length things) way) still_is_within
    followed_is_within

pub repeated_within : (how : Post) (one : Ways) → AreWithin one → AreWithin (repeated how one)
repeated_within = repeated_keep (λ things way. IsWithin (length things) way) still_is_within
    followed_is_within

-- each turn goes on at `loop`, where another turn is taken, or what comes after
module _ (lazy : Bool) (one : Ways) (within : AreWithin one) (t loop : On)
    (loop_is : (things : List Thing)
    → loop things ≡ order lazy (t things) (first_on (λ rest. None) loop (one things))) where
  none_taken : (ways : List Way) → AllOf (IsWithin 0) ways
      → first_on (λ rest. None) loop ways ≡ None
  none_taken [] each = refl
  none_taken (way ∷ ways) each = ap₂ or_else (by_taken way.taken refl) (none_taken ways each.1)
    where
      by_taken : (taken : List Thing) → way.taken ≡ taken
          → onward (λ rest. None) loop way taken ≡ None
      by_taken [] none = refl
      by_taken (d ∷ taken) some =
          let here = each.0 in let long = ap length some in absurd (omega (arith, here, long))

  -- what is left after a turn is less than there was
  loops_same : (count : ℕ) (s u : On)
      → ((rest : List Thing) → length rest ≤ count → loop rest ≡ u rest) → (ways : List Way)
      → AllOf (IsWithin (suc count)) ways
      → first_on s loop (that_take ways) ≡ first_on s u (that_take ways)
  loops_same count s u same [] each = refl
  loops_same count s u same (way ∷ ways) each =
      by_taken way.taken refl (loops_same count s u same ways each.1)
    where
      by_taken : (taken : List Thing) → way.taken ≡ taken
          → first_on s loop (that_take ways) ≡ first_on s u (that_take ways)
          → first_on s loop (if_taken way taken (that_take ways))
          ≡ first_on s u (if_taken way taken (that_take ways))
      by_taken [] none further = further
      by_taken (d ∷ taken) some further = ap₂ or_else
          (ap (onward s loop way) some
          ∙ ap (after way) (same way.rest
          (let here = each.0 in let long = ap length some in omega (arith, here, long)))
          ∙ sym (ap (onward s u way) some))
          further

  within_more : (count more : ℕ) → count ≤ more → (ways : List Way) → AllOf (IsWithin count) ways
      → AllOf (IsWithin more) ways
  within_more count more short [] each = tt
  within_more count more short (way ∷ ways) each =
      (let here = each.0 in omega (arith, here, short), within_more count more short ways each.1)

  turns_run : (count : ℕ) (things : List Thing) → length things ≤ count → (s : On)
      → order lazy (s things) (first_on (λ rest. None) loop (one things))
      ≡ first_on s t (turns lazy count one things)
  turns_run zero things short s =
      ap (order lazy (s things))
      (none_taken (one things) (within_more (length things) 0 short (one things) (within things)))
      ∙ by_order lazy
      ∙ sym (or_else_none (after (still things) (s things)) ∙ after_still things (s things))
    where
      by_order : (lazy : Bool) → order lazy (s things) None ≡ s things
      by_order true = or_else_none (s things)
      by_order false = refl
  turns_run (suc count) things short s =
      ap (order lazy (s things))
      (first_that_take (λ rest. first_on s t (turns lazy count one rest)) loop (one things)
      ∙ loops_same count (λ rest. first_on s t (turns lazy count one rest))
      (λ rest. first_on t t (turns lazy count one rest))
      (λ rest shorter. loop_is rest ∙ turns_run count rest shorter t) (one things)
      (within_more (length things) (suc count) short (one things) (within things))
      ∙ sym (first_then s t (that_take (one things)) (turns lazy count one)))
      ∙ sym (first_order lazy s t things (then_ (that_take (one things)) (turns lazy count one)))

  pub star_run : (s : On) (things : List Thing)
      → order lazy (s things) (first_on (λ rest. None) loop (one things))
      ≡ first_on s t (star lazy one things)
  star_run s things = turns_run (length things) things (omega arith) s
