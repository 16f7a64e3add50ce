-- How many steps a check of an expression takes at most, which falls with each call. There is room for eight calls about one
-- expression.
use Rattle.std.proofs.Common.{ℕ, ◌+◌, ◌<◌, arith}

abbrev pub room : ℕ → ℕ
room n = n + n + n + n + (n + n + n + n)

pub room_falls : (less more : ℕ) → less < more → room less + 7 < room more
room_falls less more below = omega (arith, below)
