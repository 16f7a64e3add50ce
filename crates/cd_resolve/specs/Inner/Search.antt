-- What a search from each number in turn keeps true, and how much it still has to look at.
use Rattle.std.specs.Prelude.{◌≡◌, ℕ, ◌+◌, ◌-◌, ◌<◌, Bool, true, false, List, [], ◌∷◌, length, ◌⊎◌}
use Rattle.std.specs.Prelude.{take, slice_index_or}
use Rattle.cd_model.specs.AllOf.{AllOf}
use Rattle.cd_resolve.specs.declared.search.Frame.{Frame}
use Rattle.cd_resolve.specs.Inner.Order.{IsOneOf, row, IsShort, ComeAfter}

-- the number is seen
abbrev pub IsSeen : List Bool → ℕ → Type 0
IsSeen seen number = slice_index_or seen number false ≡ true

-- the number is open in one of the frames
abbrev pub IsOpen : ℕ → List Frame → Type 0
IsOpen number [] = ⊥
IsOpen number (frame ∷ rest) = (frame.number ≡ number) ⊎ IsOpen number rest

-- each way from the first number is longer than those from the second, as where the first leads to
-- the second
abbrev pub Leads : List (List ℕ) → ℕ → ℕ → Type 0
Leads links number next = (most : ℕ) → IsShort links most number
    → (less : ℕ) × (less < most) × IsShort links less next

-- each of the open numbers leads to this one
abbrev pub AllLead : List (List ℕ) → List Frame → ℕ → Type 0
AllLead links [] next = Unit {0}
AllLead links (frame ∷ rest) next = Leads links frame.number next × AllLead links rest next

-- the frames, the last opened first: each number is seen and is not put, what was looked at of its
-- row is put, and the numbers opened before it lead to it
abbrev pub AreOpen : List (List ℕ) → List Bool → List ℕ → List Frame → Type 0
AreOpen links seen order [] = Unit {0}
AreOpen links seen order (frame ∷ rest) = (frame.number < length links) × IsSeen seen frame.number
    × (IsOneOf frame.number order → ⊥)
    × AllOf (λ next. IsOneOf next order) (take frame.looked (row links frame.number))
    × AllLead links rest frame.number × AreOpen links seen order rest

-- what was seen is still seen
pub record AreKept (before after : List Bool) : Type 0 where
  pub still : (number : ℕ) → IsSeen before number → IsSeen after number

-- all numbers before this one are seen
pub record AllSeen (seen : List Bool) (count : ℕ) : Type 0 where
  pub are : (number : ℕ) → number < count → IsSeen seen number

-- the search at any of its steps
pub record IsSound (links : List (List ℕ)) (seen : List Bool) (frames : List Frame)
    (order : List ℕ) : Type 0 where
  pub sized : length seen ≡ length links
  pub known : AllOf (λ number. number < length links) order
  pub put_seen : AllOf (IsSeen seen) order
  pub seen_found : (number : ℕ) → IsSeen seen number → IsOneOf number order ⊎ IsOpen number frames
  pub after : ComeAfter links [] order
  pub are_open : AreOpen links seen order frames

-- the steps that numbers which are not seen can take
abbrev pub unseen_steps : List (List ℕ) → List Bool → ℕ
unseen_steps [] seen = 0
unseen_steps (one ∷ links) [] = 0
unseen_steps (one ∷ links) (true ∷ seen) = unseen_steps links seen
unseen_steps (one ∷ links) (false ∷ seen) = length one + 2 + unseen_steps links seen

-- the steps that the frames can take
abbrev pub open_steps : List (List ℕ) → List Frame → ℕ
open_steps links [] = 0
open_steps links (frame ∷ rest) =
    length (row links frame.number) - frame.looked + 1 + open_steps links rest

-- the steps that the search can take at most
abbrev pub steps : List (List ℕ) → List Bool → List Frame → ℕ
steps links seen frames = unseen_steps links seen + open_steps links frames
