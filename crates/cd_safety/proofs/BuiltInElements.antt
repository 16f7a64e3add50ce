-- What elements of the built-in types are, and what is in these types.
use Rattle.std.proofs.Common.{◌≡◌, ℕ, ℤ, Bool, true, false, List, [], ◌∷◌, Some, inl, inr, refl, ap, codes}
use Rattle.std.specs.Char.{IsScalar}
use Rattle.std.proofs.lemmas.Slice.Eq.{bytes_eq-Decides}
use Rattle.cd_syntax.specs.Integer.{IsInteger}
use Rattle.cd_syntax.specs.Name.{Name}
use Rattle.cd_model.specs.AllOf.{AllOf}
use Rattle.cd_model.specs.BuiltIns.{INT, ATOM, BOOL, STRING, RECORD, DATA}
use Rattle.cd_model.specs.Kinds.{kind_of, AnInteger, AnAtom, ARecord, IsBool, IsString}
use Rattle.cd_model.specs.Thing.{Thing, Integer, Character, Atom, Pair, Record, Fields, IsElement, AreFields}
use Rattle.cd_model.specs.Types.{no_closure}
use Rattle.cd_model.proofs.BuiltIns.{elements_are_sound, integers_are, atoms_are, bools_are, strings_are, records_are, data_are}
use Rattle.cd_matching.specs.Sequences.{text_of}
use Rattle.cd_typing.specs.Operators.{truth}
use Rattle.cd_typing.specs.Typ.{BuiltIn}
use Rattle.cd_evaluation.specs.Lists.{with_character, characters_of}
use Rattle.cd_safety.proofs.SequencesGood.{text_good}
use Rattle.cd_safety.proofs.SortsByParts.{elements_by_parts}

pub integer_here : (e : Thing) → IsElement e → BuiltIn INT e → (n : ℤ) × (e ≡ Integer n)
integer_here e element inside = by_kind e ((integers_are [] no_closure e (elements_are_sound e element)).0 inside)
  where
    by_kind : (e : Thing) → kind_of e ≡ AnInteger → (n : ℤ) × (e ≡ Integer n)
    by_kind (Integer n) is = (n, refl)
    by_kind _ is = absurd cc

pub integer_in : (n : ℤ) → IsInteger n → BuiltIn INT (Integer n)
integer_in n is = (integers_are [] no_closure (Integer n) is).1 refl

pub atom_here : (e : Thing) → BuiltIn ATOM e → (name : Name) × (e ≡ Atom name)
atom_here e inside = by_kind e ((atoms_are [] no_closure e).0 inside)
  where
    by_kind : (e : Thing) → kind_of e ≡ AnAtom → (name : Name) × (e ≡ Atom name)
    by_kind (Atom name) is = (name, refl)
    by_kind _ is = absurd cc

pub record_here : (e : Thing) → BuiltIn RECORD e → (fields : Fields) × (e ≡ Record fields)
record_here e inside = by_kind e ((records_are [] no_closure e).0 inside)
  where
    by_kind : (e : Thing) → kind_of e ≡ ARecord → (fields : Fields) × (e ≡ Record fields)
    by_kind (Record fields) is = (fields, refl)
    by_kind _ is = absurd cc

pub truth_here : (e : Thing) → BuiltIn BOOL e → (b : Bool) × (e ≡ truth b)
truth_here e inside = by_kind e ((bools_are [] no_closure e).0 inside)
  where
    by_kind : (e : Thing) → IsBool e → (b : Bool) × (e ≡ truth b)
    by_kind (Atom name) (inl same) = (false, ap Atom same)
    by_kind (Atom name) (inr same) = (true, ap Atom same)
    by_kind _ is = absurd is

pub truth_in : (b : Bool) → BuiltIn BOOL (truth b)
truth_in true = (bools_are [] no_closure (truth true)).1 (inr refl)
truth_in false = (bools_are [] no_closure (truth false)).1 (inl refl)

pub atom_in_data : (name : Name) → IsElement (Atom name) → BuiltIn DATA (Atom name)
atom_in_data name element = (data_are [] no_closure (Atom name) element).1 tt

pub text_here : (e : Thing) → IsElement e → BuiltIn STRING e → (text : List ℕ) × (characters_of e ≡ Some text)
text_here e element inside = by_kind e ((strings_are [] no_closure e (elements_are_sound e element)).0 inside)
  where
    by_kind : (e : Thing) → IsString e → (text : List ℕ) × (characters_of e ≡ Some text)
    by_kind (Atom name) same = ([], rw ((bytes_eq-Decides name (codes "nil")).1 same) refl)
    by_kind (Pair (Character c) second) parts =
        let rest = by_kind second parts.1 in
        (c ∷ rest.0, ap (with_character (Character c)) rest.1)
    by_kind (Pair _ second) parts = let kind = parts.0 in absurd cc
    by_kind _ is = absurd is

pub text_in : (text : List ℕ) → AllOf IsScalar text → BuiltIn STRING (text_of text)
text_in text are =
    (strings_are [] no_closure (text_of text) (elements_are_sound (text_of text)
    (text_good IsElement AreFields elements_by_parts text are))).1 (is_string text)
  where
    is_string : (text : List ℕ) → IsString (text_of text)
    is_string [] = refl
    is_string (c ∷ text) = (refl, is_string text)
