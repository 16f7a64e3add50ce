-- A step keeps what may come next and open forms together, open forms and open brackets, and the bound on these.
use Rattle.std.proofs.Common.{◌≡◌, ◌∙◌, sym, ap, refl, subst, ◌⊎◌, inl, inr, ℕ, suc, ◌<◌, ◌≤◌, Bool, true, false, not, List, [], ◌∷◌, length, Option, Some, None, Result, Ok, Err, arith}
use Rattle.std.proofs.lemmas.Bool.Decides.{nat_tests}
use Rattle.std.specs.Prelude.{nat_lt, ◌&&◌, if◌then◌else◌, map}
use Rattle.cd_syntax.specs.declared.tokens.Token.{Token}
use Rattle.cd_model.specs.Thing.{Thing, Integer, Character, Atom, Xml, Record, NoField}
use Rattle.cd_documents.specs.Document.{the_nil, characters_before, is_among}
use Rattle.cd_documents.specs.Terminal.{Terminal, terminal, opens, Number, Letters, Text, AnAtom, Label, OpenTuple, OpenSequence, OpenRecord, OpenTag, CloseTuple, CloseSequence, CloseRecord, CloseTag, Equal, Comma, Semicolon, NoTerminal, Bracket, ATuple, ASequence, ARecord, ATag, AContent, after_value, opened}
use Rattle.cd_documents.specs.Machine.{Expecting, AtValue, AtItem, AfterPart, AtField, AfterField, AtTag, AtAttribute, AfterAttribute, AtEqual, Done, OpenTree, InTuple, InSequence, InRecord, InTag, InContent, State, state, Fault, Syntax, TooDeep, bracket_of, pairs, with_fields, put, after_terminal, or_wrong, step, Fits}

abbrev pub brackets : List OpenTree → List Bracket
brackets trees = map bracket_of trees

abbrev Keeps : List OpenTree → Terminal → State → Type 0
Keeps trees is next = Fits next.expecting next.trees × (brackets next.trees ≡ opened is (brackets trees))

abbrev Kept : List OpenTree → Terminal → Option State → Type 0
Kept trees is None = Unit {0}
Kept trees is (Some next) = Keeps trees is next

put_kept : (value : Thing) (trees : List OpenTree) → Fits (put value trees).expecting (put value trees).trees × (brackets (put value trees).trees ≡ after_value (brackets trees))
put_kept value [] = (tt, refl)
put_kept value (InTuple before ∷ trees) = (tt, refl)
put_kept value (InSequence before ∷ trees) = (tt, refl)
put_kept value (InRecord labels values ∷ trees) = (tt, refl)
put_kept value (InTag tag labels values ∷ trees) = (tt, refl)
put_kept value (InContent tag attributes ∷ trees) = put_kept (Xml (Atom tag) (Record attributes) value) trees

label_kept : (b : Bool) (trees : List OpenTree) (is : Terminal) (next : State) → Keeps trees is next → Kept trees is (if b then None else Some next)
label_kept true trees is next keeps = tt
label_kept false trees is next keeps = keeps

value_kept : (is : Terminal) (trees : List OpenTree) → Kept trees is (after_terminal AtValue trees is)
value_kept (Number n) trees = put_kept (Integer n) trees
value_kept (Letters []) trees = tt
value_kept (Letters (c ∷ [])) trees = put_kept (Character c) trees
value_kept (Letters (c ∷ d ∷ cs)) trees = tt
value_kept (Text cs) trees = put_kept (characters_before cs the_nil) trees
value_kept (AnAtom name) trees = put_kept (Atom name) trees
value_kept OpenTuple trees = (tt, refl)
value_kept OpenSequence trees = (tt, refl)
value_kept OpenRecord trees = (tt, refl)
value_kept OpenTag trees = (tt, refl)
value_kept (Label name) trees = tt
value_kept CloseTuple trees = tt
value_kept CloseSequence trees = tt
value_kept CloseRecord trees = tt
value_kept CloseTag trees = tt
value_kept Equal trees = tt
value_kept Comma trees = tt
value_kept Semicolon trees = tt
value_kept NoTerminal trees = tt

kept : (is : Terminal) (expecting : Expecting) (trees : List OpenTree) → Fits expecting trees → Kept trees is (after_terminal expecting trees is)
kept is AtValue trees fits = value_kept is trees
kept (Number n) AtItem (InSequence before ∷ trees) fits = value_kept (Number n) (InSequence before ∷ trees)
kept (Letters cs) AtItem (InSequence before ∷ trees) fits = (tt, refl)
kept (Text cs) AtItem (InSequence before ∷ trees) fits = value_kept (Text cs) (InSequence before ∷ trees)
kept (AnAtom name) AtItem (InSequence before ∷ trees) fits = value_kept (AnAtom name) (InSequence before ∷ trees)
kept (Label name) AtItem (InSequence before ∷ trees) fits = value_kept (Label name) (InSequence before ∷ trees)
kept OpenTuple AtItem (InSequence before ∷ trees) fits = value_kept OpenTuple (InSequence before ∷ trees)
kept CloseTuple AtItem (InSequence before ∷ trees) fits = value_kept CloseTuple (InSequence before ∷ trees)
kept OpenSequence AtItem (InSequence before ∷ trees) fits = value_kept OpenSequence (InSequence before ∷ trees)
kept CloseSequence AtItem (InSequence before ∷ trees) fits = put_kept (pairs before the_nil) trees
kept OpenRecord AtItem (InSequence before ∷ trees) fits = value_kept OpenRecord (InSequence before ∷ trees)
kept CloseRecord AtItem (InSequence before ∷ trees) fits = value_kept CloseRecord (InSequence before ∷ trees)
kept OpenTag AtItem (InSequence before ∷ trees) fits = value_kept OpenTag (InSequence before ∷ trees)
kept CloseTag AtItem (InSequence before ∷ trees) fits = value_kept CloseTag (InSequence before ∷ trees)
kept Equal AtItem (InSequence before ∷ trees) fits = value_kept Equal (InSequence before ∷ trees)
kept Comma AtItem (InSequence before ∷ trees) fits = value_kept Comma (InSequence before ∷ trees)
kept Semicolon AtItem (InSequence before ∷ trees) fits = value_kept Semicolon (InSequence before ∷ trees)
kept NoTerminal AtItem (InSequence before ∷ trees) fits = value_kept NoTerminal (InSequence before ∷ trees)
kept (Number n) AfterPart (InTuple (last ∷ before) ∷ trees) fits = tt
kept (Letters cs) AfterPart (InTuple (last ∷ before) ∷ trees) fits = tt
kept (Text cs) AfterPart (InTuple (last ∷ before) ∷ trees) fits = tt
kept (AnAtom name) AfterPart (InTuple (last ∷ before) ∷ trees) fits = tt
kept (Label name) AfterPart (InTuple (last ∷ before) ∷ trees) fits = tt
kept OpenTuple AfterPart (InTuple (last ∷ before) ∷ trees) fits = tt
kept CloseTuple AfterPart (InTuple (last ∷ before) ∷ trees) fits = put_kept (pairs before last) trees
kept OpenSequence AfterPart (InTuple (last ∷ before) ∷ trees) fits = tt
kept CloseSequence AfterPart (InTuple (last ∷ before) ∷ trees) fits = tt
kept OpenRecord AfterPart (InTuple (last ∷ before) ∷ trees) fits = tt
kept CloseRecord AfterPart (InTuple (last ∷ before) ∷ trees) fits = tt
kept OpenTag AfterPart (InTuple (last ∷ before) ∷ trees) fits = tt
kept CloseTag AfterPart (InTuple (last ∷ before) ∷ trees) fits = tt
kept Equal AfterPart (InTuple (last ∷ before) ∷ trees) fits = tt
kept Comma AfterPart (InTuple (last ∷ before) ∷ trees) fits = (tt, refl)
kept Semicolon AfterPart (InTuple (last ∷ before) ∷ trees) fits = tt
kept NoTerminal AfterPart (InTuple (last ∷ before) ∷ trees) fits = tt
kept (Number n) AtField (InRecord labels values ∷ trees) fits = tt
kept (Letters cs) AtField (InRecord labels values ∷ trees) fits = tt
kept (Text cs) AtField (InRecord labels values ∷ trees) fits = tt
kept (AnAtom name) AtField (InRecord labels values ∷ trees) fits = tt
kept (Label name) AtField (InRecord labels values ∷ trees) fits = label_kept (is_among name labels) (InRecord labels values ∷ trees) (Label name) (state AtEqual (InRecord (name ∷ labels) values ∷ trees)) (tt, refl)
kept OpenTuple AtField (InRecord labels values ∷ trees) fits = tt
kept CloseTuple AtField (InRecord labels values ∷ trees) fits = tt
kept OpenSequence AtField (InRecord labels values ∷ trees) fits = tt
kept CloseSequence AtField (InRecord labels values ∷ trees) fits = tt
kept OpenRecord AtField (InRecord labels values ∷ trees) fits = tt
kept CloseRecord AtField (InRecord labels values ∷ trees) fits = put_kept (Record (with_fields labels values NoField)) trees
kept OpenTag AtField (InRecord labels values ∷ trees) fits = tt
kept CloseTag AtField (InRecord labels values ∷ trees) fits = tt
kept Equal AtField (InRecord labels values ∷ trees) fits = tt
kept Comma AtField (InRecord labels values ∷ trees) fits = tt
kept Semicolon AtField (InRecord labels values ∷ trees) fits = tt
kept NoTerminal AtField (InRecord labels values ∷ trees) fits = tt
kept (Number n) AfterField (InRecord labels values ∷ trees) fits = tt
kept (Letters cs) AfterField (InRecord labels values ∷ trees) fits = tt
kept (Text cs) AfterField (InRecord labels values ∷ trees) fits = tt
kept (AnAtom name) AfterField (InRecord labels values ∷ trees) fits = tt
kept (Label name) AfterField (InRecord labels values ∷ trees) fits = tt
kept OpenTuple AfterField (InRecord labels values ∷ trees) fits = tt
kept CloseTuple AfterField (InRecord labels values ∷ trees) fits = tt
kept OpenSequence AfterField (InRecord labels values ∷ trees) fits = tt
kept CloseSequence AfterField (InRecord labels values ∷ trees) fits = tt
kept OpenRecord AfterField (InRecord labels values ∷ trees) fits = tt
kept CloseRecord AfterField (InRecord labels values ∷ trees) fits = put_kept (Record (with_fields labels values NoField)) trees
kept OpenTag AfterField (InRecord labels values ∷ trees) fits = tt
kept CloseTag AfterField (InRecord labels values ∷ trees) fits = tt
kept Equal AfterField (InRecord labels values ∷ trees) fits = tt
kept Comma AfterField (InRecord labels values ∷ trees) fits = tt
kept Semicolon AfterField (InRecord labels values ∷ trees) fits = (tt, refl)
kept NoTerminal AfterField (InRecord labels values ∷ trees) fits = tt
kept (Number n) AtTag (InTag tag labels values ∷ trees) fits = tt
kept (Letters cs) AtTag (InTag tag labels values ∷ trees) fits = tt
kept (Text cs) AtTag (InTag tag labels values ∷ trees) fits = tt
kept (AnAtom name) AtTag (InTag tag labels values ∷ trees) fits = tt
kept (Label name) AtTag (InTag tag labels values ∷ trees) fits = (tt, refl)
kept OpenTuple AtTag (InTag tag labels values ∷ trees) fits = tt
kept CloseTuple AtTag (InTag tag labels values ∷ trees) fits = tt
kept OpenSequence AtTag (InTag tag labels values ∷ trees) fits = tt
kept CloseSequence AtTag (InTag tag labels values ∷ trees) fits = tt
kept OpenRecord AtTag (InTag tag labels values ∷ trees) fits = tt
kept CloseRecord AtTag (InTag tag labels values ∷ trees) fits = tt
kept OpenTag AtTag (InTag tag labels values ∷ trees) fits = tt
kept CloseTag AtTag (InTag tag labels values ∷ trees) fits = tt
kept Equal AtTag (InTag tag labels values ∷ trees) fits = tt
kept Comma AtTag (InTag tag labels values ∷ trees) fits = tt
kept Semicolon AtTag (InTag tag labels values ∷ trees) fits = tt
kept NoTerminal AtTag (InTag tag labels values ∷ trees) fits = tt
kept (Number n) AtAttribute (InTag tag labels values ∷ trees) fits = tt
kept (Letters cs) AtAttribute (InTag tag labels values ∷ trees) fits = tt
kept (Text cs) AtAttribute (InTag tag labels values ∷ trees) fits = tt
kept (AnAtom name) AtAttribute (InTag tag labels values ∷ trees) fits = tt
kept (Label name) AtAttribute (InTag tag labels values ∷ trees) fits = label_kept (is_among name labels) (InTag tag labels values ∷ trees) (Label name) (state AtEqual (InTag tag (name ∷ labels) values ∷ trees)) (tt, refl)
kept OpenTuple AtAttribute (InTag tag labels values ∷ trees) fits = tt
kept CloseTuple AtAttribute (InTag tag labels values ∷ trees) fits = tt
kept OpenSequence AtAttribute (InTag tag labels values ∷ trees) fits = tt
kept CloseSequence AtAttribute (InTag tag labels values ∷ trees) fits = tt
kept OpenRecord AtAttribute (InTag tag labels values ∷ trees) fits = tt
kept CloseRecord AtAttribute (InTag tag labels values ∷ trees) fits = tt
kept OpenTag AtAttribute (InTag tag labels values ∷ trees) fits = tt
kept CloseTag AtAttribute (InTag tag labels values ∷ trees) fits = (tt, refl)
kept Equal AtAttribute (InTag tag labels values ∷ trees) fits = tt
kept Comma AtAttribute (InTag tag labels values ∷ trees) fits = tt
kept Semicolon AtAttribute (InTag tag labels values ∷ trees) fits = tt
kept NoTerminal AtAttribute (InTag tag labels values ∷ trees) fits = tt
kept (Number n) AfterAttribute (InTag tag labels values ∷ trees) fits = tt
kept (Letters cs) AfterAttribute (InTag tag labels values ∷ trees) fits = tt
kept (Text cs) AfterAttribute (InTag tag labels values ∷ trees) fits = tt
kept (AnAtom name) AfterAttribute (InTag tag labels values ∷ trees) fits = tt
kept (Label name) AfterAttribute (InTag tag labels values ∷ trees) fits = label_kept (is_among name labels) (InTag tag labels values ∷ trees) (Label name) (state AtEqual (InTag tag (name ∷ labels) values ∷ trees)) (tt, refl)
kept OpenTuple AfterAttribute (InTag tag labels values ∷ trees) fits = tt
kept CloseTuple AfterAttribute (InTag tag labels values ∷ trees) fits = tt
kept OpenSequence AfterAttribute (InTag tag labels values ∷ trees) fits = tt
kept CloseSequence AfterAttribute (InTag tag labels values ∷ trees) fits = tt
kept OpenRecord AfterAttribute (InTag tag labels values ∷ trees) fits = tt
kept CloseRecord AfterAttribute (InTag tag labels values ∷ trees) fits = tt
kept OpenTag AfterAttribute (InTag tag labels values ∷ trees) fits = tt
kept CloseTag AfterAttribute (InTag tag labels values ∷ trees) fits = (tt, refl)
kept Equal AfterAttribute (InTag tag labels values ∷ trees) fits = tt
kept Comma AfterAttribute (InTag tag labels values ∷ trees) fits = tt
kept Semicolon AfterAttribute (InTag tag labels values ∷ trees) fits = (tt, refl)
kept NoTerminal AfterAttribute (InTag tag labels values ∷ trees) fits = tt
kept (Number n) AtEqual (InTag tag labels values ∷ trees) fits = tt
kept (Letters cs) AtEqual (InTag tag labels values ∷ trees) fits = tt
kept (Text cs) AtEqual (InTag tag labels values ∷ trees) fits = tt
kept (AnAtom name) AtEqual (InTag tag labels values ∷ trees) fits = tt
kept (Label name) AtEqual (InTag tag labels values ∷ trees) fits = tt
kept OpenTuple AtEqual (InTag tag labels values ∷ trees) fits = tt
kept CloseTuple AtEqual (InTag tag labels values ∷ trees) fits = tt
kept OpenSequence AtEqual (InTag tag labels values ∷ trees) fits = tt
kept CloseSequence AtEqual (InTag tag labels values ∷ trees) fits = tt
kept OpenRecord AtEqual (InTag tag labels values ∷ trees) fits = tt
kept CloseRecord AtEqual (InTag tag labels values ∷ trees) fits = tt
kept OpenTag AtEqual (InTag tag labels values ∷ trees) fits = tt
kept CloseTag AtEqual (InTag tag labels values ∷ trees) fits = tt
kept Equal AtEqual (InTag tag labels values ∷ trees) fits = (tt, refl)
kept Comma AtEqual (InTag tag labels values ∷ trees) fits = tt
kept Semicolon AtEqual (InTag tag labels values ∷ trees) fits = tt
kept NoTerminal AtEqual (InTag tag labels values ∷ trees) fits = tt
kept (Number n) AtEqual (InRecord labels values ∷ trees) fits = tt
kept (Letters cs) AtEqual (InRecord labels values ∷ trees) fits = tt
kept (Text cs) AtEqual (InRecord labels values ∷ trees) fits = tt
kept (AnAtom name) AtEqual (InRecord labels values ∷ trees) fits = tt
kept (Label name) AtEqual (InRecord labels values ∷ trees) fits = tt
kept OpenTuple AtEqual (InRecord labels values ∷ trees) fits = tt
kept CloseTuple AtEqual (InRecord labels values ∷ trees) fits = tt
kept OpenSequence AtEqual (InRecord labels values ∷ trees) fits = tt
kept CloseSequence AtEqual (InRecord labels values ∷ trees) fits = tt
kept OpenRecord AtEqual (InRecord labels values ∷ trees) fits = tt
kept CloseRecord AtEqual (InRecord labels values ∷ trees) fits = tt
kept OpenTag AtEqual (InRecord labels values ∷ trees) fits = tt
kept CloseTag AtEqual (InRecord labels values ∷ trees) fits = tt
kept Equal AtEqual (InRecord labels values ∷ trees) fits = (tt, refl)
kept Comma AtEqual (InRecord labels values ∷ trees) fits = tt
kept Semicolon AtEqual (InRecord labels values ∷ trees) fits = tt
kept NoTerminal AtEqual (InRecord labels values ∷ trees) fits = tt
kept is (Done value) trees fits = tt
kept is AtItem [] fits = absurd fits
kept is expecting trees fits = absurd fits

-- how many brackets are open
no_more : (all : List Bracket) → length (after_value all) ≤ length all
no_more [] = omega arith
no_more (AContent ∷ all) = let le = no_more all in omega (arith, le)
no_more (ATuple ∷ all) = omega arith
no_more (ASequence ∷ all) = omega arith
no_more (ARecord ∷ all) = omega arith
no_more (ATag ∷ all) = omega arith

ended_before : (one : Bracket) (all : List Bracket) → length (after_value all) ≤ length (one ∷ all)
ended_before one all = let le = no_more all in omega (arith, le)

grown : (is : Terminal) (all : List Bracket) → opens is ≡ false → length (opened is all) ≤ length all
grown (Number n) all closed = no_more all
grown (Letters cs) all closed = no_more all
grown (Text cs) all closed = no_more all
grown (AnAtom name) all closed = no_more all
grown (Label name) all closed = omega arith
grown Equal all closed = omega arith
grown Comma all closed = omega arith
grown Semicolon all closed = omega arith
grown NoTerminal all closed = omega arith
grown OpenTuple all closed = absurd (cc closed)
grown OpenSequence all closed = absurd (cc closed)
grown OpenRecord all closed = absurd (cc closed)
grown OpenTag all closed = absurd (cc closed)
grown CloseTuple [] closed = omega arith
grown CloseTuple (ATuple ∷ all) closed = ended_before ATuple all
grown CloseTuple (ASequence ∷ all) closed = omega arith
grown CloseTuple (ARecord ∷ all) closed = omega arith
grown CloseTuple (ATag ∷ all) closed = omega arith
grown CloseTuple (AContent ∷ all) closed = omega arith
grown CloseSequence [] closed = omega arith
grown CloseSequence (ATuple ∷ all) closed = omega arith
grown CloseSequence (ASequence ∷ all) closed = ended_before ASequence all
grown CloseSequence (ARecord ∷ all) closed = omega arith
grown CloseSequence (ATag ∷ all) closed = omega arith
grown CloseSequence (AContent ∷ all) closed = omega arith
grown CloseRecord [] closed = omega arith
grown CloseRecord (ATuple ∷ all) closed = omega arith
grown CloseRecord (ASequence ∷ all) closed = omega arith
grown CloseRecord (ARecord ∷ all) closed = ended_before ARecord all
grown CloseRecord (ATag ∷ all) closed = omega arith
grown CloseRecord (AContent ∷ all) closed = omega arith
grown CloseTag [] closed = omega arith
grown CloseTag (ATuple ∷ all) closed = omega arith
grown CloseTag (ASequence ∷ all) closed = omega arith
grown CloseTag (ARecord ∷ all) closed = omega arith
grown CloseTag (ATag ∷ all) closed = omega arith
grown CloseTag (AContent ∷ all) closed = omega arith

grown_by_one : (is : Terminal) (all : List Bracket) → opens is ≡ true → length (opened is all) ≤ suc (length all)
grown_by_one (Number n) all opening = absurd (cc opening)
grown_by_one (Letters cs) all opening = absurd (cc opening)
grown_by_one (Text cs) all opening = absurd (cc opening)
grown_by_one (AnAtom name) all opening = absurd (cc opening)
grown_by_one (Label name) all opening = absurd (cc opening)
grown_by_one OpenTuple all opening = omega arith
grown_by_one CloseTuple all opening = absurd (cc opening)
grown_by_one OpenSequence all opening = omega arith
grown_by_one CloseSequence all opening = absurd (cc opening)
grown_by_one OpenRecord all opening = omega arith
grown_by_one CloseRecord all opening = absurd (cc opening)
grown_by_one OpenTag all opening = omega arith
grown_by_one CloseTag all opening = absurd (cc opening)
grown_by_one Equal all opening = absurd (cc opening)
grown_by_one Comma all opening = absurd (cc opening)
grown_by_one Semicolon all opening = absurd (cc opening)
grown_by_one NoTerminal all opening = absurd (cc opening)

as_many : (trees : List OpenTree) → length (brackets trees) ≡ length trees
as_many [] = refl
as_many (tree ∷ trees) = ap suc (as_many trees)

-- a step that is no refusal for depth
abbrev pub IsShallow : Result State Fault → Type 0
IsShallow (Err (TooDeep from)) = ⊥
IsShallow (Err (Syntax from)) = Unit {0}
IsShallow (Ok next) = Unit {0}

pub shallow : (b : Bool) (from : ℕ) (other made : Result State Fault) → IsShallow made → (if b then Err (TooDeep from) else other) ≡ made
    → (b ≡ false) × (other ≡ made)
shallow true from other made is h = absurd (subst IsShallow (sym h) is)
shallow false from other made is h = (refl, h)

some_next : (from : ℕ) (made : Option State) (next : State) → or_wrong from made ≡ Ok next → made ≡ Some next
some_next from (Some found) next h = cc h
some_next from None next h = absurd (cc h)

few : (b less : Bool) (n most : ℕ) → nat_lt n most ≡ less → (b && not less) ≡ false → n ≤ most → (b ≡ false) ⊎ ((b ≡ true) × (n < most))
few false less n most is h le = inl refl
few true true n most is h le = inr (refl, grind (arith, nat_tests))
few true false n most is h le = absurd (cc h)

room : (is : Terminal) (all : List Bracket) (n most : ℕ) → length all ≡ n → n ≤ most → (opens is ≡ false) ⊎ ((opens is ≡ true) × (n < most)) → length (opened is all) ≤ most
room is all n most same le (inl closed) = let grows = grown is all closed in omega (arith, same, le, grows)
room is all n most same le (inr (opening, lt)) = let grows = grown_by_one is all opening in omega (arith, same, lt, grows)

pub step_kept : (most : ℕ) (now : State) (one : Token) (next : State) → Fits now.expecting now.trees → length now.trees ≤ most → step most now one ≡ Ok next
    → Fits next.expecting next.trees × (brackets next.trees ≡ opened (terminal one.kind) (brackets now.trees)) × (length next.trees ≤ most)
step_kept most now one next fits le h =
    let is = terminal one.kind in
    let open_at = shallow (opens is && not (nat_lt (length now.trees) most)) one.span.from (or_wrong one.span.from (after_terminal now.expecting now.trees is)) (Ok next) tt h in
    let made : after_terminal now.expecting now.trees is ≡ Some next = some_next one.span.from (after_terminal now.expecting now.trees is) next open_at.1 in
    let keeps : Keeps now.trees is next = subst (Kept now.trees is) made (kept is now.expecting now.trees fits) in
    let bound : length (opened is (brackets now.trees)) ≤ most =
    room is (brackets now.trees) (length now.trees) most (as_many now.trees) le
    (few (opens is) (nat_lt (length now.trees) most) (length now.trees) most refl open_at.0 le) in
    (keeps.0, keeps.1, subst (λ n. n ≤ most) (sym (ap length keeps.1) ∙ as_many next.trees) bound)
