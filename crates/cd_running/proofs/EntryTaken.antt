-- What the first branch of the program's `transform` captures: of items whose first is an integer this one alone, and the number.
use Rattle.std.proofs.Common.{◌≡◌, Bool, true, false, List, Option, Some, None, option_map, codes, refl, sym, ap, ap₂, ◌∙◌, if◌then◌else◌}
use Rattle.std.proofs.lemmas.Option.{none-some, same_Some}
use Rattle.cd_syntax.specs.Name.{Name}
use Rattle.cd_model.specs.Thing.{Thing, Xml, Record, IsElement}
use Rattle.cd_model.specs.Written.{in_written}
use Rattle.cd_matching.specs.Captures.{Captures, nothing, just, joined, both, if_so}
use Rattle.cd_matching.specs.Pattern as pattern
use Rattle.cd_matching.specs.Pattern.{Pattern, Fields, Present, NoField}
use Rattle.cd_matching.specs.PatternsAlike.{Alike}
use Rattle.cd_matching.specs.Sequences.{sequence_of, items}
use Rattle.cd_matching.specs.Take.{take, take_present, take_items, all_named, at_label, captures_of}
use Rattle.cd_matching.specs.Takes.{IsRight}
use Rattle.cd_matching.specs.Variables.{is_gathered}
use Rattle.cd_matching.specs.Ways.{Way, first_whole}
use Rattle.cd_matching.specs.WrittenPattern.{pattern_of}
use Rattle.cd_running.specs.Inner.WorkProgram.{entry_pattern}
use Rattle.cd_running.proofs.EntryWays.{x, first_integer, ways_of}
use Rattle.cd_running.proofs.WorkStands.{scope}
use Rattle.cd_running.proofs.ElementTests.{atom_right, integer_right, any_right}
use Rattle.cd_running.proofs.PatternTests.{Test, is_atom}

abbrev pub k : Name
k = codes "k"

abbrev number_field : Fields Test
number_field = Present (codes "n") (pattern.Bind k) NoField

abbrev pub tested : Pattern Test
tested = pattern.Xml (pattern.OfType (is_atom (codes "e"))) (pattern.Record number_field false) (pattern.Sequence first_integer)

pub right : Alike (IsRight in_written IsElement) (pattern_of scope entry_pattern) tested
right = (
  atom_right scope (codes "e"),
  ((refl, refl, tt), refl),
  ((refl, integer_right scope), ((any_right scope, refl), tt)),
)

-- what two capture, and a test
record Both (one other : Option (Captures Name)) (captures : Captures Name) : Type 0 where
  first : Captures Name
  second : Captures Name
  one_is : one ≡ Some first
  other_is : other ≡ Some second
  joined_are : joined first second ≡ captures

both_parts : (one other : Option (Captures Name)) (captures : Captures Name) → both one other ≡ Some captures
    → Both one other captures
both_parts None other captures is = absurd (none-some captures is)
both_parts (Some first) None captures is = absurd (none-some captures is)
both_parts (Some first) (Some second) captures is =
    record { first = first; second = second; one_is = refl; other_is = refl; joined_are = same_Some _ _ is }

test_captures : (so : Bool) (captures : Captures Name) → if_so so ≡ Some captures → nothing ≡ captures
test_captures true captures is = same_Some _ _ is
test_captures false captures is = absurd (none-some captures is)

-- the number of an entry
abbrev number_captured : Thing → Captures Name
number_captured d = joined (just k d) nothing

field_taken : (found : Option Thing) (captures : Captures Name)
    → both (take_present (λ d. Some (just k d)) found) (Some nothing) ≡ Some captures
    → (d : Thing) × (number_captured d ≡ captures)
field_taken None captures is = absurd (none-some captures is)
field_taken (Some d) captures is = (d, same_Some _ _ is)

if_taken : (so : Bool) (taken : Option (Captures Name)) (captures : Captures Name)
    → (if so then taken else None) ≡ Some captures → taken ≡ Some captures
if_taken true taken captures is = is
if_taken false taken captures is = absurd (none-some captures is)

number_taken : (attributes : Thing) (captures : Captures Name)
    → take Test (λ test. test) (pattern.Record number_field false) attributes ≡ Some captures
    → (d : Thing) × (number_captured d ≡ captures)
number_taken (Record fields) captures is = field_taken (at_label fields (codes "n")) captures
    (if_taken (all_named number_field fields) _ captures is)
number_taken _ captures is = absurd (none-some captures is)

-- the items of an entry
record ItemsTaken (content : Thing) (captures : Captures Name) : Type 0 where
  things : List Thing
  way : Way
  has : items content ≡ Some things
  whole : first_whole (ways_of first_integer things) ≡ Some way
  are : captures_of (is_gathered first_integer) way ≡ captures

by_way : (chosen : Option Way) (captures : Captures Name)
    → option_map (captures_of (is_gathered first_integer)) chosen ≡ Some captures
    → (way : Way) × (chosen ≡ Some way) × (captures_of (is_gathered first_integer) way ≡ captures)
by_way None captures is = absurd (none-some captures is)
by_way (Some way) captures is = (way, refl, same_Some _ _ is)

items_taken : (content : Thing) (found : Option (List Thing)) → items content ≡ found → (captures : Captures Name)
    → take_items (is_gathered first_integer) (ways_of first_integer) found ≡ Some captures → ItemsTaken content captures
items_taken content None has captures is = absurd (none-some captures is)
items_taken content (Some things) has captures is =
    let (way, whole, are) = by_way (first_whole (ways_of first_integer things)) captures is in
    record { things = things; way = way; has = has; whole = whole; are = are }

-- all that is captured
abbrev all_captured : Thing → Way → Captures Name
all_captured number way =
    joined nothing (joined (number_captured number) (captures_of (is_gathered first_integer) way))

pub record Taken (content : Thing) (captures : Captures Name) : Type 0 where
  pub number : Thing
  pub things : List Thing
  pub way : Way
  pub has : items content ≡ Some things
  pub whole : first_whole (ways_of first_integer things) ≡ Some way
  pub number_is : captures k ≡ Some number
  pub items_are : captures x ≡ Some (sequence_of (way.gathered x))

pub taken_so : (tag attributes content : Thing) (captures : Captures Name)
    → take Test (λ test. test) tested (Xml tag attributes content) ≡ Some captures → Taken content captures
taken_so tag attributes content captures is =
    let whole = both_parts _ _ captures is in
    let parts = both_parts _ _ whole.second whole.other_is in
    let number = number_taken attributes parts.first parts.one_is in
    let last = items_taken content (items content) refl parts.second parts.other_is in
    let are : all_captured number.0 last.way ≡ captures =
    ap₂ (λ one other. joined one other) (test_captures (is_atom (codes "e") tag) whole.first whole.one_is)
    (ap₂ (λ one other. joined one other) number.1 last.are ∙ parts.joined_are) ∙ whole.joined_are in
    record {
      number = number.0;
      things = last.things;
      way = last.way;
      has = last.has;
      whole = last.whole;
      number_is = ap (λ found. found k) (sym are);
      items_are = ap (λ found. found x) (sym are);
    }
