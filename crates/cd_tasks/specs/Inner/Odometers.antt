-- What an odometer has visited, and what it has not.
use Rattle.std.specs.Prelude.{ℕ, suc, List, Option, Some, None}
use Rattle.cd_tasks.specs.Assignments.{Word, all_words}
use Rattle.cd_tasks.specs.Inner.AfterWords.{after, later}
use Rattle.cd_tasks.specs.declared.odometer.Next.{Next}
use Rattle.cd_tasks.specs.declared.odometer.Next.TheVariants.{First, Below, Later}
use Rattle.cd_tasks.specs.declared.odometer.Odometer.{Odometer}

abbrev pub words_left : Next → (last members : ℕ) → Word → List Word
words_left First last members word = all_words (suc last) members
words_left Below last members word = after last members word
words_left Later last members word = later last members word

abbrev pub word_visited : Next → Word → Option Word
word_visited First word = None
word_visited Below word = Some word
word_visited Later word = Some word

-- the words that are still to be visited
abbrev pub rest_of : Odometer → List Word
rest_of words = words_left words.next words.last words.members words.word.items

-- the word that was visited last
abbrev pub visited_of : Odometer → Option Word
visited_of words = word_visited words.next words.word.items
