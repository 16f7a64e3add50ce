-- Types that are wanted, and lists that go together.
use Rattle.std.specs.Prelude.{List, [], ◌∷◌}
use Rattle.cd_syntax.specs.PlainTree.{plain, plain_fields}
use Rattle.cd_syntax.specs.TypeTree.{Tree}
use Rattle.cd_model.specs.Scope.{Scope}
use Rattle.cd_model.specs.Written.{Written}
use Rattle.cd_matching.specs.WrittenPattern.{outside, others_in}
use Rattle.cd_resolve.specs.declared.wanted.Want.{Want}
use Rattle.cd_resolve.specs.declared.wanted.Want.TheVariants as want
use Rattle.cd_resolve.specs.declared.wanted.WantedType.{WantedType}

-- the tree, what is outside it, or the records whose other fields are in it
abbrev pub tree_wanted : Want → Tree → Tree
tree_wanted want.Itself is = is
tree_wanted want.Outside is = outside is
tree_wanted (want.Others fields) is = others_in (plain_fields fields.now) is

abbrev pub wanted_tree : WantedType → Tree
wanted_tree wanted = tree_wanted wanted.what (plain wanted.tree.now)

abbrev pub wanted_type : Scope → WantedType → Written
wanted_type scope wanted = record { scope = scope; tree = wanted_tree wanted }

-- each of the one list goes together with the one at its place in the other, which is as long
abbrev pub Pairwise : {X Y : Type 0} → (X → Y → Type 0) → List X → List Y → Type 0
Pairwise Are [] [] = Unit {0}
Pairwise Are (one ∷ rest) (other ∷ others) = Are one other × Pairwise Are rest others
Pairwise Are rest others = ⊥
