use Rattle.std.proofs.Common.{◌≡◌, bytes_eq}
use Rattle.std.specs.Str.{chars, IsUtf8}
use Rattle.cd_syntax.proofs.name.Name.is_spelled.Given as goal

-- what is left of both is equal as they are
abbrev pub invariant-loop-c : goal.invariant-loop-c
invariant-loop-c l = IsUtf8 l.c-iterator.rest.now × (bytes_eq (chars l.c-iterator.rest.now) l.rest ≡ bytes_eq l.fn.self l.fn.characters)
