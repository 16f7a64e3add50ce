-- Sequences by their items: what items do when a thing is put in front, and when a sequence is
-- followed by another thing.
use Rattle.std.proofs.Common.{◌≡◌, ◌↔◌, true, false, List, [], ◌∷◌, ◌++◌, Option}
use Rattle.std.proofs.Common.{Some, None, refl, sym, ap, subst, ◌∙◌, bytes_eq}
use Rattle.std.proofs.Common.{if◌then◌else◌, Bool}
use Rattle.std.specs.Prelude.{codes}
use Rattle.std.specs.Option.{option_map}
use Rattle.std.proofs.lemmas.Option.{none-some, same_Some}
use Rattle.std.proofs.lemmas.Slice.Eq.{bytes_eq-Decides}
use Rattle.cd_syntax.specs.Name.{Name}
use Rattle.cd_model.specs.AllOf.{AllOf, AnyOf}
use Rattle.cd_model.specs.Thing.{Thing, Atom, Pair}
use Rattle.cd_model.specs.Thing.{IsElement}
use Rattle.cd_matching.specs.Sequences.{nil, sequence_of, items}
use Rattle.cd_matching.proofs.NilIsElement.{nil_is_element}
use Rattle.cd_meaning.specs.Sets.{Set}
use Rattle.cd_meaning.specs.Sequences.{followed_by, IsListOf, IsItemOf, IsJoinOf}

-- the atom that has items is `nil`, and has none
nil_or_not : (name : Name) (same : Bool) → bytes_eq name (codes "nil") ≡ same → (ds : List Thing)
    → (if same then Some [] else None) ≡ Some ds → (Atom name ≡ nil) × (ds ≡ [])
nil_or_not name true same ds is =
    (ap Atom ((bytes_eq-Decides name (codes "nil")).0 same), sym (same_Some [] ds is))
nil_or_not name false same ds is = absurd (none-some ds is)

pub atom_is_nil : (name : Name) (ds : List Thing) → items (Atom name) ≡ Some ds
    → (Atom name ≡ nil) × (ds ≡ [])
atom_is_nil name ds is = nil_or_not name (bytes_eq name (codes "nil")) refl ds is

-- the items of a pair are its first part and the items of its second part
of_rest : (first : Thing) (rest : Option (List Thing)) (ds : List Thing)
    → option_map (λ rest. first ∷ rest) rest ≡ Some ds
    → (others : List Thing) × (rest ≡ Some others) × (ds ≡ first ∷ others)
of_rest first None ds is = absurd (none-some ds is)
of_rest first (Some others) ds is = (others, refl, sym (same_Some (first ∷ others) ds is))

pub items_of_pair : (first second : Thing) (ds : List Thing) → items (Pair first second) ≡ Some ds
    → (others : List Thing) × (items second ≡ Some others) × (ds ≡ first ∷ others)
items_of_pair first second ds is = of_rest first (items second) ds is

pub pair_has_items : (first second : Thing) (ds : List Thing) → items second ≡ Some ds
    → items (Pair first second) ≡ Some (first ∷ ds)
pair_has_items first second ds is = ap (option_map (λ rest. first ∷ rest)) is

-- a thing with items is the sequence of them, and a sequence has its items
pub items_of_sequence : (ds : List Thing) → items (sequence_of ds) ≡ Some ds
items_of_sequence [] = refl
items_of_sequence (first ∷ ds) =
    pair_has_items first (sequence_of ds) ds (items_of_sequence ds)

pub sequence_of_items : (d : Thing) (ds : List Thing) → items d ≡ Some ds → d ≡ sequence_of ds
sequence_of_items (Atom name) ds is =
    let end = atom_is_nil name ds is in end.0 ∙ ap sequence_of (sym end.1)
sequence_of_items (Pair first second) ds is =
    let rest = items_of_pair first second ds is in
    ap (Pair first) (sequence_of_items second rest.0 rest.1) ∙ ap sequence_of (sym rest.2)
sequence_of_items _ ds is = absurd (none-some ds is)

-- a sequence is its items, followed by `nil`
pub sequence_followed : (ds : List Thing) → followed_by ds nil ≡ sequence_of ds
sequence_followed [] = refl
sequence_followed (first ∷ ds) = ap (Pair first) (sequence_followed ds)

-- items in two lists
pub followed_in_turn : (ds es : List Thing) (e : Thing)
    → followed_by (ds ++ es) e ≡ followed_by ds (followed_by es e)
followed_in_turn [] es e = refl
followed_in_turn (first ∷ ds) es e = ap (Pair first) (followed_in_turn ds es e)

pub sequence_in_turn : (ds es : List Thing)
    → sequence_of (ds ++ es) ≡ followed_by ds (sequence_of es)
sequence_in_turn [] es = refl
sequence_in_turn (first ∷ ds) es = ap (Pair first) (sequence_in_turn ds es)

-- the items of a thing that is followed by a sequence
pub items_of_followed : (ds es : List Thing) (e : Thing) → items e ≡ Some es
    → items (followed_by ds e) ≡ Some (ds ++ es)
items_of_followed [] es e is = is
items_of_followed (first ∷ ds) es e is =
    pair_has_items first (followed_by ds e) (ds ++ es) (items_of_followed ds es e is)

-- and back
pub followed_has_items : (ds all : List Thing) (e : Thing) → items (followed_by ds e) ≡ Some all
    → (es : List Thing) × (items e ≡ Some es) × (all ≡ ds ++ es)
followed_has_items [] all e is = (all, is, refl)
followed_has_items (first ∷ ds) all e is =
    let rest = items_of_pair first (followed_by ds e) all is in
    let later = followed_has_items ds rest.0 e rest.1 in
    (later.0, later.1, rest.2 ∙ ap (λ others. first ∷ others) later.2)

-- elements alone are followed by elements
pub followed_is_element : (ds : List Thing) (e : Thing) → AllOf IsElement ds → IsElement e
    → IsElement (followed_by ds e)
followed_is_element [] e each is = is
followed_is_element (first ∷ ds) e each is = (each.0, followed_is_element ds e each.1 is)

pub followed_of_elements : (ds : List Thing) (e : Thing) → IsElement (followed_by ds e)
    → AllOf IsElement ds × IsElement e
followed_of_elements [] e is = (tt, is)
followed_of_elements (first ∷ ds) e is =
    let rest = followed_of_elements ds e is.1 in ((is.0, rest.0), rest.1)

pub sequence_is_element : (ds : List Thing) → AllOf IsElement ds → IsElement (sequence_of ds)
sequence_is_element [] each = nil_is_element
sequence_is_element (first ∷ ds) each = (each.0, sequence_is_element ds each.1)

pub sequence_of_elements : (ds : List Thing) → IsElement (sequence_of ds) → AllOf IsElement ds
sequence_of_elements [] is = tt
sequence_of_elements (first ∷ ds) is = (is.0, sequence_of_elements ds is.1)

pub items_are_elements : (d : Thing) (ds : List Thing) → items d ≡ Some ds → IsElement d
    → AllOf IsElement ds
items_are_elements d ds is element =
    sequence_of_elements ds (subst IsElement (sequence_of_items d ds is) element)

-- Lists of things of a set: `nil`, and the pairs of a thing of the set and a list.
pub nil_is_list : (set : Set) → IsListOf set nil
nil_is_list set = ([], refl, tt)

pub pair_is_list : (set : Set) (first second : Thing)
    → IsListOf set (Pair first second) ↔ (set first × IsListOf set second)
pair_is_list set first second = (
  λ is. let rest = items_of_pair first second is.0 is.1 in
      let each = subst (AllOf set) rest.2 is.2 in (each.0, (rest.0, rest.1, each.1)),
  λ is. (first ∷ is.1.0, pair_has_items first second is.1.0 is.1.1, (is.0, is.1.2)),
)

-- an atom that is a list is `nil`
pub atom_is_list : (set : Set) (name : Name) → IsListOf set (Atom name) → Atom name ≡ nil
atom_is_list set name is = (atom_is_nil name is.0 is.1).0

-- An item of a sequence of a set, and a sequence of a set with what comes after it, by lists.
pub item_of_sequence : (set : Set) (e : Thing) (ds : List Thing) → IsElement (sequence_of ds)
    → set (sequence_of ds) → AnyOf (λ one. one ≡ e) ds → IsItemOf set e
item_of_sequence set e ds element is among =
    (sequence_of ds, ds, element, is, items_of_sequence ds, among)

pub sequence_of_item : (set : Set) (e : Thing) → IsItemOf set e
    → (ds : List Thing) × IsElement (sequence_of ds) × set (sequence_of ds)
    × AnyOf (λ one. one ≡ e) ds
sequence_of_item set e (d, ds, element, is, has, among) =
    let same = sequence_of_items d ds has in
    (ds, subst IsElement same element, subst set same is, among)

pub join_of_sequence : (first second : Set) (ds : List Thing) (e : Thing)
    → IsElement (sequence_of ds) → IsElement e → first (sequence_of ds) → second e
    → IsJoinOf first second (followed_by ds e)
join_of_sequence first second ds e element other is after =
    (sequence_of ds, e, ds, element, other, is, after, items_of_sequence ds, refl)

pub sequence_of_join : (first second : Set) (whole : Thing) → IsJoinOf first second whole
    → (ds : List Thing) × (e : Thing) × IsElement (sequence_of ds) × IsElement e
    × first (sequence_of ds) × second e × (whole ≡ followed_by ds e)
sequence_of_join first second whole (d, e, ds, element, other, is, after, has, same) =
    let sequence = sequence_of_items d ds has in
    (ds, e, subst IsElement sequence element, other, subst first sequence is, after, same)
