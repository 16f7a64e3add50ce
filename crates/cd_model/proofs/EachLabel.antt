-- A record answers so at each label where its first field does, and the others do at each label.
use Rattle.std.proofs.Common.{◌≡◌, Bool, true, false, refl, subst, ◌↔◌}
use Rattle.std.specs.Prelude.{bytes_eq}
use Rattle.std.proofs.lemmas.Slice.Eq.{bytes_eq-Decides}
use Rattle.cd_syntax.specs.Name.{Name}
use Rattle.cd_model.specs.Types.{FieldOf, Labelled, chosen}

-- what a test chooses where it holds, and where it fails
picked : (b : Bool) (one other : Type 0) → b ≡ true → chosen b one other → one
picked true one other is h = h
picked false one other is h = absurd cc

pub passed_over : (b : Bool) (one other : Type 0) → b ≡ false → other → chosen b one other
passed_over true one other is h = absurd cc
passed_over false one other is h = h

-- where both facts hold, so does the one that is chosen
both_hold : (b : Bool) (one other : Type 0) → one → other → chosen b one other
both_hold true one other is h = is
both_hold false one other is h = h

-- the second fact holds where the test chooses it, and else has to hold as well
second_holds : (b : Bool) (one other : Type 0) → (b ≡ true → other) → chosen b one other → other
second_holds true one other at h = at refl
second_holds false one other at h = h

-- The others have to answer so at the label of the first field too, as they do where labels rise
pub at_each_label : {X : Type 0} (name : Name) (one : Type 0) (others : Labelled X) (field : FieldOf X) → others name field true
    → ((label : Name) → chosen (bytes_eq name label) one (others label field true))
    ↔ (one × ((label : Name) → others label field true))
at_each_label name one others field at_name = (
  λ each. (
    picked (bytes_eq name name) one (others name field true) ((bytes_eq-Decides name name).1 refl) (each name),
    λ label. second_holds (bytes_eq name label) one (others label field true) (also label) (each label),
  ),
  λ both label. both_hold (bytes_eq name label) one (others label field true) both.0 (both.1 label),
)
  where
    also : (label : Name) → bytes_eq name label ≡ true → others label field true
    also label same = subst (λ (l : Name). others l field true) ((bytes_eq-Decides name label).0 same) at_name
