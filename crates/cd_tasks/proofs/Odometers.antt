-- What an odometer visits next, and what it skips.
use Rattle.std.proofs.Common.{◌≡◌, ◌∙◌, ap, sym, refl, ℕ, ◌<◌, ◌≤◌, [], ◌∷◌, ◌++◌, length, true≢false}
use Rattle.std.specs.Option.{IfSome, IsSome}
use Rattle.cd_tasks.specs.Assignments.{Word, without_those_from}
use Rattle.cd_tasks.specs.Inner.AfterWords.{after, later, next_later, words_from}
use Rattle.cd_tasks.specs.Inner.Odometers.{word_visited, words_left}
use Rattle.cd_tasks.specs.declared.odometer.Next.{Next}
use Rattle.cd_tasks.specs.declared.odometer.Next.TheVariants.{First, Below, Later}
use Rattle.cd_tasks.proofs.NextWords.{goes_below, later_is, nothing_below}
use Rattle.cd_tasks.proofs.Skipping.{without_after, without_later}

-- where all members have a side, the words after the longer ones are next
pub past_full : (last members : ℕ) (word : Word) → length word ≤ members → members ≤ length word
    → after last members word ≡ words_from last members (next_later last word)
past_full last members word short full =
    ap (λ words. words ++ later last members word) (nothing_below last members word full) ∙ later_is last members word short

-- the words that do not begin with the one that was visited
pub skipped : (next : Next) (last members : ℕ) (word : Word)
    → IfSome (word_visited next word) (λ visited. later last members word ≡ without_those_from visited (words_left next last members word))
skipped First last members word = tt
skipped Below last members word = sym (without_after last members word)
skipped Later last members word = sym (without_later last members word)

pub visited_stays : (next : Next) (word : Word) → IsSome (word_visited next word) → word_visited Later word ≡ word_visited next word
visited_stays First word some = absurd (true≢false (sym some))
visited_stays Below word some = refl
visited_stays Later word some = refl

-- below a word of fewer members the longer one is next
pub next_below : (next : Next) (last members : ℕ) (word longer : Word) → next ≡ Below → length word < members → longer ≡ word ++ 0 ∷ []
    → words_left next last members word ≡ longer ∷ after last members longer
next_below next last members word longer is short made =
    ap (λ next. words_left next last members word) is ∙ goes_below last members word short
    ∙ ap (λ (longer : Word). longer ∷ after last members longer) (sym made)

-- where the words after the longer ones are left, the first of them is next
pub next_past : (next : Next) (last members : ℕ) (word : Word) → next ≡ Below → length word ≤ members → members ≤ length word
    → words_left next last members word ≡ words_from last members (next_later last word)
next_past next last members word is short full =
    ap (λ next. words_left next last members word) is ∙ past_full last members word short full

pub next_after : (next : Next) (last members : ℕ) (word : Word) → next ≡ Later → length word ≤ members
    → words_left next last members word ≡ words_from last members (next_later last word)
next_after next last members word is short =
    ap (λ next. words_left next last members word) is ∙ later_is last members word short
