-- How names compare, and what they give a hasher.
use Rattle.std.specs.Prelude.{bytes_eq}
use Rattle.std.specs.Cmp.{IsEquivalence}
use Rattle.std.specs.Cmp.Lexicographic.{nat_list_eq_equiv, bytes_decides}
use Rattle.std.specs.Hash as fed
use Rattle.std.specs.Hash.{HashWrites, Alike, same_Alike}
use Rattle.std.proofs.Math.Utf8.{encodes}
use Rattle.cd_syntax.specs.Name.{Name}

-- what a name gives a hasher: the text that spells it
abbrev pub name_input : Name → HashWrites
name_input name = fed.str (encodes name)

-- the comparison is an equivalence, and equal names give a hasher the same
pub names_equiv : IsEquivalence bytes_eq
names_equiv = nat_list_eq_equiv

pub names_alike : Alike bytes_eq name_input
names_alike = same_Alike name_input bytes_decides
