-- Shapes that compare as equal are equal.
use Rattle.std.proofs.Common.{◌≡◌, ◌&&◌, Bool, true, List, [], ◌∷◌, Option, Some, None, bytes_eq, refl, sym, ap, true≢false}
use Rattle.std.specs.Option.{option_eq}
use Rattle.std.specs.Cmp.{first_so, second_so, unsigned_Decides, signed_Decides}
use Rattle.std.specs.Cmp.Lexicographic.{pointwise, bytes_decides}
use Rattle.cd_syntax.specs.Name.{Name}
use Rattle.cd_elements.specs.declared.shape.ElementId.{ElementId}
use Rattle.cd_elements.specs.declared.shape.Shape.{Shape}
use Rattle.cd_elements.specs.declared.shape.Shape.TheVariants.{Int, Char, Atom, Pair, Xml, Record, Fun}
use Rattle.cd_elements.specs.Comparing.{same_id, same_part, same_pair}
use Rattle.cd_elements.specs.contracts.shape.ShapePartialEq.TheImpl as equality

-- what `==` answers
abbrev pub same_shape : Shape → Shape → Bool
same_shape = (equality.ghosts).eq

same_ids : (one other : ElementId) → same_id one other ≡ true → one ≡ other
same_ids one other same = λ i. record { 0 = (unsigned_Decides one.0 other.0).0 same i }

same_results : (one other : Option ElementId) → option_eq same_id one other ≡ true → one ≡ other
same_results None None same = refl
same_results None (Some id) same = absurd (true≢false (sym same))
same_results (Some id) None same = absurd (true≢false (sym same))
same_results (Some id) (Some other) same = ap Some (same_ids id other same)

same_list : {X : Type 0} (test : X → X → Bool) → ((one other : X) → test one other ≡ true → one ≡ other) → (some others : List X)
    → pointwise test some others ≡ true → some ≡ others
same_list test each [] [] same = refl
same_list test each [] (other ∷ others) same = absurd (true≢false (sym same))
same_list test each (one ∷ some) [] same = absurd (true≢false (sym same))
same_list test each (one ∷ some) (other ∷ others) same = λ i.
    each one other (first_so (test one other) (pointwise test some others) same) i
    ∷ same_list test each some others (second_so (test one other) (pointwise test some others) same) i

same_parts : (one other : Name × ElementId) → same_part one other ≡ true → one ≡ other
same_parts (label, id) (name, other) same = λ i. (
  (bytes_decides label name).0 (first_so (bytes_eq label name) (same_id id other) same) i,
  same_ids id other (second_so (bytes_eq label name) (same_id id other) same) i,
)

same_pairs : (one other : ElementId × Option ElementId) → same_pair one other ≡ true → one ≡ other
same_pairs (argument, result) (id, other) same = λ i. (
  same_ids argument id (first_so (same_id argument id) (option_eq same_id result other) same) i,
  same_results result other (second_so (same_id argument id) (option_eq same_id result other) same) i,
)

pub same_shapes : (one other : Shape) → same_shape one other ≡ true → one ≡ other
same_shapes (Int n) (Int m) same = ap Int ((signed_Decides n m).0 same)
same_shapes (Char c) (Char d) same = ap Char ((unsigned_Decides c d).0 same)
same_shapes (Atom name) (Atom other) same = ap Atom ((bytes_decides name other).0 same)
same_shapes (Pair first second) (Pair one other) same = λ i. Pair
    (same_ids first one (first_so (same_id first one) (same_id second other) same) i)
    (same_ids second other (second_so (same_id first one) (same_id second other) same) i)
same_shapes (Xml tag attributes content) (Xml one other last) same =
    let rest = second_so (same_id tag one) (same_id attributes other && same_id content last) same in λ i.
    Xml (same_ids tag one (first_so (same_id tag one) (same_id attributes other && same_id content last) same) i)
    (same_ids attributes other (first_so (same_id attributes other) (same_id content last) rest) i)
    (same_ids content last (second_so (same_id attributes other) (same_id content last) rest) i)
same_shapes (Record parts) (Record others) same = ap Record (same_list same_part same_parts parts others same)
same_shapes (Fun pairs) (Fun others) same = ap Fun (same_list same_pair same_pairs pairs others same)
same_shapes _ _ same = absurd (true≢false (sym same))
