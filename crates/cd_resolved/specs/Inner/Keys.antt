-- How texts compare as keys, and what they give a hasher.
use Rattle.std.specs.Prelude.{Bool, bytes_eq}
use Rattle.std.specs.Cmp.{IsEquivalence, on_equiv}
use Rattle.std.specs.Cmp.Lexicographic.{nat_list_eq_equiv, bytes_decides}
use Rattle.std.specs.Hash as fed
use Rattle.std.specs.Hash.{HashWrites, Alike, same_Alike, on_Alike}
use Rattle.cd_resolved.specs.declared.parts.key.Key.{Key}

abbrev pub same_key : Key → Key → Bool
same_key key other = bytes_eq key.text.now other.text.now

abbrev pub key_input : Key → HashWrites
key_input key = fed.str key.text.now

pub keys_equiv : IsEquivalence same_key
keys_equiv = on_equiv (λ key. key.text.now) nat_list_eq_equiv

pub keys_alike : Alike same_key key_input
keys_alike = on_Alike (λ key. key.text.now) (same_Alike fed.str bytes_decides)
