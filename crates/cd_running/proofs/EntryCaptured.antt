-- The types of what the first branch of the program's `transform` captures of an entry.
use Rattle.std.proofs.Common.{◌≡◌, true, false, [], ◌∷◌, ◌⊎◌, inl, inr, Some, bytes_eq, refl, sym, subst, lit<, true≢false}
use Rattle.std.proofs.lemmas.Bool.{cases_Bool}
use Rattle.std.proofs.lemmas.Slice.Eq.{bytes_eq-Decides}
use Rattle.cd_syntax.specs.Name.{Name}
use Rattle.cd_model.specs.AllOf.{AllOf}
use Rattle.cd_model.specs.BuiltIns.{node, ANY, INT}
use Rattle.cd_model.specs.Formula.{IsIn}
use Rattle.cd_model.specs.Thing.{Thing, Integer, Xml, IsElement}
use Rattle.cd_model.specs.Types.{no_closure}
use Rattle.cd_model.specs.Written.{in_written}
use Rattle.cd_model.proofs.BuiltIns.{elements_are_sound, integers_are}
use Rattle.cd_matching.specs.Captures.{Captures}
use Rattle.cd_matching.specs.Sequences.{sequence_of}
use Rattle.cd_matching.specs.Take.{take}
use Rattle.cd_matching.specs.Takes.{WrittenTakes}
use Rattle.cd_matching.specs.WrittenPattern.{pattern_of}
use Rattle.cd_matching.proofs.CapturedVariables.{nothing_else_answers}
use Rattle.cd_meaning.proofs.SequencesFollowed.{items_are_elements}
use Rattle.cd_typing.specs.Branches.{HoldCaptured, Fit, FitsOne}
use Rattle.cd_typing.specs.Typ.{In, Types, AreTypes, type_at}
use Rattle.cd_running.specs.Inner.WorkProgram.{entry_pattern}
use Rattle.cd_running.proofs.EntryTaken.{k, tested, right, Taken, taken_so}
use Rattle.cd_running.proofs.EntryWays.{x, has_first}
use Rattle.cd_running.proofs.WorkLists.{sequence_in}
use Rattle.cd_running.proofs.WorkStands.{scope}
use Rattle.cd_running.proofs.ElementTests.{takes_so}
use Rattle.cd_running.proofs.PatternTests.{Test, is_integer}
use Rattle.cd_running.proofs.WorkTypes.{graph, more, INTS, is_type, entry, anything, some_integers}

abbrev pub own : Types
own = (x, some_integers) ∷ (k, anything) ∷ []

pub own_are_types : AreTypes own
own_are_types = (is_type INTS (lit< tt), (is_type ANY (lit< tt), tt))

-- an integer
pub integer_in : (d : Thing) → IsElement d → is_integer d ≡ true → IsIn graph d INT
integer_in (Integer n) element is = (integers_are more no_closure (Integer n) (elements_are_sound (Integer n) element)).1 refl
integer_in _ element is = absurd (true≢false (sym is))

-- what is gathered of an element is a sequence of one integer
gathered_in : (content : Thing) → IsElement content → (captures : Captures Name) (taken : Taken content captures)
    → In some_integers (sequence_of (taken.way.gathered x))
gathered_in content element captures taken =
    let one = has_first taken.things taken.way taken.whole in
    let elements = subst (AllOf IsElement) one.parts (items_are_elements content taken.things taken.has element) in
    subst (λ ds. In some_integers (sequence_of ds)) (sym one.gathered)
    (sequence_in graph INT (node 15) refl INTS refl (one.first ∷ []) (integer_in one.first elements.0 one.is_one, tt))

fits : (e : Thing) (captures : Captures Name) → WrittenTakes scope entry_pattern e (Some captures)
    → FitsOne (Some some_integers) (captures x) → FitsOne (Some anything) (captures k) → Fit own captures
fits e captures takes at_x at_k name = by_name (cases_Bool (bytes_eq x name)) (cases_Bool (bytes_eq k name))
  where
    by_name : (bytes_eq x name ≡ true) ⊎ (bytes_eq x name ≡ false) → (bytes_eq k name ≡ true) ⊎ (bytes_eq k name ≡ false)
        → FitsOne (type_at own name) (captures name)
    by_name (inl same) other = subst (λ name. FitsOne (type_at own name) (captures name)) ((bytes_eq-Decides x name).0 same) at_x
    by_name (inr differs) (inl same) =
        subst (λ name. FitsOne (type_at own name) (captures name)) ((bytes_eq-Decides k name).0 same) at_k
    by_name (inr differs) (inr other) = rw differs (rw other (nothing_else_answers in_written IsElement
        (pattern_of scope entry_pattern) e captures name takes (rw differs (rw other refl))))

captures_fit : (e : Thing) → IsElement e → In entry e → (captures : Captures Name)
    → WrittenTakes scope entry_pattern e (Some captures)
    → take Test (λ test. test) tested e ≡ Some captures → Fit own captures
captures_fit (Xml tag attributes content) element inside captures takes is =
    let taken = taken_so tag attributes content captures is in
    fits (Xml tag attributes content) captures takes
    (sequence_of (taken.way.gathered x), taken.items_are, gathered_in content element.4 captures taken)
    (taken.number, taken.number_is, refl)
captures_fit _ element inside captures takes is = absurd (true≢false inside)

pub holds_captured : HoldCaptured scope own [] entry_pattern (In entry)
holds_captured e captures first = captures_fit e first.element first.in_set captures first.takes
    (takes_so scope entry_pattern tested right e first.element (Some captures) first.takes)
