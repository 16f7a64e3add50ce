-- Sets of node numbers, as strictly rising lists.
use Rattle.std.specs.Prelude.{ℕ, suc, ◌<◌, ◌==◌, Bool, List, [], ◌∷◌, Option, Some, None, nat_le}
use Rattle.std.specs.Prelude.{cond}
use Rattle.std.specs.List.{list_any}
use Rattle.cd_sets.specs.declared.node_id.NodeId.{NodeId}

-- a number is above the one before it, if there is one
abbrev pub IsAbove : Option ℕ → ℕ → Type 0
IsAbove None number = Unit {0}
IsAbove (Some before) number = before < number

abbrev pub RiseFrom : Option ℕ → List NodeId → Type 0
RiseFrom before [] = Unit {0}
RiseFrom before (id ∷ ids) = IsAbove before id.0 × RiseFrom (Some id.0) ids

-- the numbers rise strictly
abbrev pub AreRising : List NodeId → Type 0
AreRising ids = RiseFrom None ids

-- whether the number is one of these
abbrev pub holds : List NodeId → NodeId → Bool
holds ids id = list_any (λ one. one.0 == id.0) ids

-- how many numbers stand before this one
abbrev pub place_of : List NodeId → NodeId → ℕ
place_of [] id = 0
place_of (one ∷ ids) id = cond (nat_le id.0 one.0) 0 (suc (place_of ids id))
