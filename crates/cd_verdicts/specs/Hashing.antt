-- How questions are hashed.
use Rattle.std.specs.Prelude.{ℕ, ◌+◌, ◌*◌, ◌%◌, ◌^◌, ◌==◌, List, length, if◌then◌else◌, fold}
use Rattle.std.specs.Int.{from_le_bytes}
use mir.Syntax.{w64}

-- the state after one word
unfoldable pub add_word : ℕ → ℕ → ℕ
add_word state word = ((state + word) % 2 ^ 64 * 0x9e37_79b9_7f4a_7c15) % 2 ^ 64

-- the state after some bytes: eight are one word, and else each byte is one
unfoldable pub add_bytes : ℕ → List ℕ → ℕ
add_bytes state bytes =
    if length bytes == 8 then add_word state (from_le_bytes w64 bytes) else fold add_word state bytes
