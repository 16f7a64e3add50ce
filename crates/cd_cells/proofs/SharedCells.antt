-- The cells that a table knows of shared values, and what they stand for.
use Rattle.std.proofs.Common.{◌≡◌, ◌∙◌, ◌⊎◌, inl, inr, ℕ, ◌<◌, ◌==◌, pos, ap, arith, refl, subst}
use Rattle.std.proofs.Common.{sym, true≢false, Bool, true, List, [], ◌∷◌, ◌++◌, Option, Some, None}
use Rattle.std.proofs.Common.{length, length-append, get_or}
use Rattle.std.specs.Prelude.{IfSome, bytes_eq, codes, is_ok, if◌then◌else◌, Result, Ok, Err}
use Rattle.std.specs.Str.{chars}
use Rattle.std.proofs.lemmas.List.{get_or_append_left, get_or_at}
use Rattle.std.proofs.lemmas.Bool.Decides.{Decides-eqb}
use Rattle.std.proofs.lemmas.Slice.Eq.{bytes_eq-Decides}
use Rattle.cd_syntax.specs.Name.{Name, IsLabel}
use Rattle.cd_model.specs.Thing as thing
use Rattle.cd_model.specs.Thing.{Thing, NoField}
use Rattle.cd_model.proofs.SoundBuiltIns.{nil_is_label}
use Rattle.cd_cells.specs.declared.cell.ValueId.{ValueId}
use Rattle.cd_cells.specs.declared.cell.Stored.{Stored}
use Rattle.cd_cells.specs.declared.cell.Stored.TheVariants.{Short, Letter, Atom, Record}
use Rattle.cd_cells.specs.declared.lists.Lists.{Lists}
use Rattle.cd_cells.specs.declared.shared.Shared.{Shared}
use Rattle.cd_cells.specs.Cells.{name_at, parts_at, fields_of, thing_by, AreStored, things_from}
use Rattle.cd_cells.specs.Slots.{slot_at, PutsOnly}
use Rattle.cd_cells.specs.SharedCells.{is_letter, is_atom, is_nil, has_no_fields, HasCell}
use Rattle.cd_cells.specs.SharedCells.{IsCellWith, IsNoneOrWith, EachIsWith, AreShared}
use Rattle.cd_cells.specs.Table.{IsAt}
use Rattle.cd_cells.proofs.Growing.{Grows, label_stays}
use Rattle.cd_cells.proofs.TableLaws.{cell_within, length_from}

-- a cell that was added last
pub last_cell : (cells new : List Stored) (number : ℕ) (cell : Stored) → new ≡ cells ++ cell ∷ []
    → number ≡ length cells → HasCell new number cell
last_cell cells new number cell is last =
    subst (λ (all : List Stored). HasCell all number cell) (sym is)
    record {
      within = omega (arith, last, length-append cells (cell ∷ []));
      is = get_or_at cells cell [] (Short (pos 0)) number (sym last);
    }

pub is_with : (test : Stored → Bool) (cells : List Stored) (id : ValueId) (cell : Stored)
    → HasCell cells id.0 cell → test cell ≡ true → IsCellWith test cells id
is_with test cells id cell has passes = (has.within, ap test has.is ∙ passes)

same_number : (n : ℕ) → (n == n) ≡ true
same_number n = (Decides-eqb n n).1 refl

pub letter_cell : (cells : List Stored) (id : ValueId) (c : ℕ) → HasCell cells id.0 (Letter c)
    → IsCellWith (is_letter c) cells id
letter_cell cells id c has = is_with (is_letter c) cells id (Letter c) has (same_number c)

pub atom_cell : (cells : List Stored) (id : ValueId) (name : ℕ) → HasCell cells id.0 (Atom name)
    → IsCellWith (is_atom name) cells id
atom_cell cells id name has = is_with (is_atom name) cells id (Atom name) has (same_number name)

pub no_fields_cell : (cells : List Stored) (id : ValueId) → HasCell cells id.0 (Record 0 0)
    → IsCellWith has_no_fields cells id
no_fields_cell cells id has = is_with has_no_fields cells id (Record 0 0) has (same_number 0)

-- a table with more cells
module _ (test : Stored → Bool) (cells more : List Stored) where
  still_with : (found : Option ValueId) → IsNoneOrWith test cells found
      → IsNoneOrWith test (cells ++ more) found
  still_with None is = tt
  still_with (Some id) is = (
    omega (arith, is.0, length-append cells more),
    ap test (get_or_append_left cells more (Short (pos 0)) id.0 is.0) ∙ is.1,
  )

still_shared : (lists : Lists) (cells more : List Stored) (shared : Shared)
    → AreShared lists cells shared → AreShared lists (cells ++ more) shared
still_shared lists cells more shared are = (
  λ c. still_with (is_letter c) cells more (slot_at shared.letters c) (are.0 c),
  λ name. still_with (is_atom name) cells more (slot_at shared.atoms name) (are.1 name),
  still_with (is_nil lists.names) cells more shared.nil are.2,
  still_with has_no_fields cells more shared.no_fields are.3,
)

-- also where memory runs out
pub shared_pushed : {T E : Type 0} (done : Result T E) (lists : Lists) (cells after : List Stored)
    (cell : Stored) (shared : Shared)
    → AreShared lists cells shared
    → after ≡ (if is_ok done then cells ++ cell ∷ [] else cells) → AreShared lists after shared
shared_pushed (Ok value) lists cells after cell shared are same =
    subst (λ (cells : List Stored). AreShared lists cells shared) (sym same)
    (still_shared lists cells (cell ∷ []) shared are)
shared_pushed (Err error) lists cells after cell shared are same =
    subst (λ (cells : List Stored). AreShared lists cells shared) (sym same) are

-- the text of `nil`, as the code writes it
pub nil_text : chars (110 ∷ 105 ∷ 108 ∷ []) ≡ codes "nil"
unfolding chars
nil_text = refl

-- more names
module _ (old new : Lists) (grows : Grows old.names new.names) where
  still_nil : (cell : Stored) → is_nil old.names cell ≡ true → is_nil new.names cell ≡ true
  still_nil (Atom name) is =
      let named = (bytes_eq-Decides (name_at old.names name) (codes "nil")).0 is in
      let label = subst IsLabel (sym named) nil_is_label in
      ap (λ (name : Name). bytes_eq name (codes "nil"))
      (label_stays old.names new.names grows name label) ∙ is
  still_nil _ is = absurd (true≢false (sym is))

  pub shared_named : (cells : List Stored) (shared : Shared) → AreShared old cells shared
      → AreShared new cells shared
  shared_named cells shared are = (are.0, are.1, by shared.nil are.2, are.3)
    where
      by : (found : Option ValueId) → IsNoneOrWith (is_nil old.names) cells found
          → IsNoneOrWith (is_nil new.names) cells found
      by None is = tt
      by (Some id) is = (is.0, still_nil (get_or cells id.0 (Short (pos 0))) is.1)

-- a cell is kept under a number
pub slot_kept : (test : ℕ → Stored
    → Bool) (cells : List Stored) (old new : List (Option ValueId)) (number : ℕ) (id : ValueId)
    → PutsOnly number id old new
    → EachIsWith test cells old → IsCellWith (test number) cells id → EachIsWith test cells new
slot_kept test cells old new number id puts are is other = by (slot_at new other) (puts other)
  where
    by : (found : Option ValueId) → ((one : ValueId) → found ≡ Some one
        → ((other ≡ number) × (one ≡ id)) ⊎ (slot_at old other ≡ Some one))
        → IsNoneOrWith (test other) cells found
    by None from = tt
    by (Some one) from = by_one (from one refl)
      where
        by_one : ((other ≡ number) × (one ≡ id)) ⊎ (slot_at old other ≡ Some one)
            → IsCellWith (test other) cells one
        by_one (inl (same, this)) =
            subst (λ (one : ValueId). IsCellWith (test other) cells one) (sym this)
            (subst (λ (n : ℕ). IsCellWith (test n) cells id) (sym same) is)
        by_one (inr old_is) = subst (IsNoneOrWith (test other) cells) old_is (are other)

-- a cell that passes a test stands for its value
module _ (lists : Lists) (table : List Thing) where
  letter_is : (c : ℕ) (cell : Stored) → is_letter c cell ≡ true
      → thing_by lists table cell ≡ thing.Character c
  letter_is c (Letter other) is = ap thing.Character ((Decides-eqb other c).0 is)
  letter_is c _ is = absurd (true≢false (sym is))

  atom_is : (name : ℕ) (cell : Stored) → is_atom name cell ≡ true
      → thing_by lists table cell ≡ thing.Atom (name_at lists.names name)
  atom_is name (Atom other) is =
      ap (λ (n : ℕ). thing.Atom (name_at lists.names n)) ((Decides-eqb other name).0 is)
  atom_is name _ is = absurd (true≢false (sym is))

  nil_is : (cell : Stored) → is_nil lists.names cell ≡ true
      → thing_by lists table cell ≡ thing.Atom (codes "nil")
  nil_is (Atom name) is =
      ap thing.Atom ((bytes_eq-Decides (name_at lists.names name) (codes "nil")).0 is)
  nil_is _ is = absurd (true≢false (sym is))

  no_fields_is : (cell : Stored) → has_no_fields cell ≡ true
      → thing_by lists table cell ≡ thing.Record NoField
  no_fields_is (Record from count) is =
      ap (λ (n : ℕ). thing.Record (fields_of lists.names table (parts_at lists.parts.items from n)))
      ((Decides-eqb count 0).0 is)
  no_fields_is _ is = absurd (true≢false (sym is))

  -- and the one that stands for `nil` passes its test
  is_nil_by : (cell : Stored) → thing_by lists table cell ≡ thing.Atom (codes "nil")
      → is_nil lists.names cell ≡ true
  is_nil_by (Atom name) is = (bytes_eq-Decides (name_at lists.names name) (codes "nil")).1 (cc is)
  is_nil_by _ is = absurd (cc is)

module _ (lists : Lists) (cells : List Stored) (sound : AreStored lists [] cells) where
  abbrev all : List Thing
  all = things_from lists [] cells

  stands_for : (test : Stored → Bool) (value : Thing) → ((cell : Stored) → test cell ≡ true
      → thing_by lists all cell ≡ value) → (found : Option ValueId)
      → IsNoneOrWith test cells found → IfSome found (λ id. IsAt all id.0 value)
  stands_for test value stands None is = tt
  stands_for test value stands (Some id) is =
      let at = cell_within lists cells id.0 (Short (pos 0)) sound is.0 in
      record {
        within = omega (arith, is.0, length_from lists [] cells);
        is = sym at.value ∙ stands (get_or cells id.0 (Short (pos 0))) is.1;
      }

  pub letter_at : (c : ℕ) (found : Option ValueId) → IsNoneOrWith (is_letter c) cells found
      → IfSome found (λ id. IsAt all id.0 (thing.Character c))
  letter_at c = stands_for (is_letter c) (thing.Character c) (letter_is lists all c)

  pub atom_at : (name : ℕ) (found : Option ValueId) → IsNoneOrWith (is_atom name) cells found
      → IfSome found (λ id. IsAt all id.0 (thing.Atom (name_at lists.names name)))
  atom_at name =
      stands_for (is_atom name) (thing.Atom (name_at lists.names name)) (atom_is lists all name)

  pub nil_at : (found : Option ValueId) → IsNoneOrWith (is_nil lists.names) cells found
      → IfSome found (λ id. IsAt all id.0 (thing.Atom (codes "nil")))
  nil_at = stands_for (is_nil lists.names) (thing.Atom (codes "nil")) (nil_is lists all)

  pub no_fields_at : (found : Option ValueId) → IsNoneOrWith has_no_fields cells found
      → IfSome found (λ id. IsAt all id.0 (thing.Record NoField))
  no_fields_at = stands_for has_no_fields (thing.Record NoField) (no_fields_is lists all)

  pub nil_cell : (id : ValueId) → IsAt all id.0 (thing.Atom (codes "nil"))
      → IsCellWith (is_nil lists.names) cells id
  nil_cell id at =
      let within : id.0 < length cells = omega (arith, at.within, length_from lists [] cells) in
      let here = cell_within lists cells id.0 (Short (pos 0)) sound within in
      (within, is_nil_by lists all (get_or cells id.0 (Short (pos 0))) (here.value ∙ at.is))

-- no cell is known
pub none_shared : (lists : Lists) (cells : List Stored) (shared : Shared)
    → shared.letters ≡ [] → shared.atoms ≡ []
    → shared.nil ≡ None → shared.no_fields ≡ None → AreShared lists cells shared
none_shared lists cells shared no_letters no_atoms no_nil no_record = (
  none_with is_letter shared.letters no_letters,
  none_with is_atom shared.atoms no_atoms,
  subst (IsNoneOrWith (is_nil lists.names) cells) (sym no_nil) tt,
  subst (IsNoneOrWith has_no_fields cells) (sym no_record) tt,
)
  where
    none_with : (test : ℕ → Stored → Bool) (ids : List (Option ValueId)) → ids ≡ []
        → EachIsWith test cells ids
    none_with test ids none = subst (EachIsWith test cells) (sym none) (λ number. tt)
