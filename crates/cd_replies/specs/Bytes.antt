-- Texts, and the contents of files, as their bytes.
use Rattle.std.specs.Prelude.{ℕ, List}

abbrev pub Bytes : Type 0
Bytes = List ℕ
