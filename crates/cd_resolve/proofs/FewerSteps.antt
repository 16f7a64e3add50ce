-- Each step of a search leaves fewer steps.
use Rattle.std.proofs.Common.{◌≡◌, ℕ, ◌+◌, ◌<◌, Bool, true, false, List, ◌∷◌, length, Some, get_or, set, arith}
use Rattle.std.specs.List.{slice_get}
use Rattle.std.proofs.lemmas.Option.{slice_get_within}
use Rattle.cd_resolve.specs.declared.search.Frame.{Frame}
use Rattle.cd_resolve.specs.Inner.Order.{row}
use Rattle.cd_resolve.specs.Inner.Search.{steps}
use Rattle.cd_resolve.proofs.Seen.{fewer_unseen}

-- where a number of the row is passed
pub fewer_with_passed : (links : List (List ℕ)) (seen : List Bool) (frame : Frame) (frames : List Frame) (next : ℕ)
    → slice_get (row links frame.number) frame.looked ≡ Some next
    → steps links seen (record { number = frame.number; looked = frame.looked + 1 } ∷ frames)
    < steps links seen (frame ∷ frames)
fewer_with_passed links seen frame frames next at =
    let within = slice_get_within (row links frame.number) frame.looked next at in omega arith

-- where a number is opened
pub fewer_with_new : (links : List (List ℕ)) (seen : List Bool) (frames : List Frame) (number : ℕ)
    → number < length seen → length seen ≡ length links → get_or seen number false ≡ false
    → steps links (set seen number true) (record { number = number; looked = 0 } ∷ frames) < steps links seen frames
fewer_with_new links seen frames number within sized new =
    let fewer = fewer_unseen links seen number within sized new in omega arith

-- the same where the new state is given by equations, as the code gives it
pub fewer_when_passed : (links : List (List ℕ)) (seen same : List Bool) (frame : Frame) (frames opened : List Frame)
    (next : ℕ) → slice_get (row links frame.number) frame.looked ≡ Some next → same ≡ seen
    → opened ≡ record { number = frame.number; looked = frame.looked + 1 } ∷ frames
    → steps links same opened < steps links seen (frame ∷ frames)
fewer_when_passed links seen same frame frames opened next at same_is opened_is =
    rw (same_is, opened_is) (fewer_with_passed links seen frame frames next at)

-- likewise where a number is opened
pub fewer_when_added : (links : List (List ℕ)) (seen more : List Bool) (frames opened : List Frame) (number : ℕ)
    → number < length links → length seen ≡ length links → get_or seen number false ≡ false
    → more ≡ set seen number true → opened ≡ record { number = number; looked = 0 } ∷ frames
    → steps links more opened < steps links seen frames
fewer_when_added links seen more frames opened number within sized new more_is opened_is =
    rw (more_is, opened_is) (fewer_with_new links seen frames number (omega arith) sized new)
