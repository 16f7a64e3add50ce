-- What is in a formula of one form: an integer, a character, an atom, pairs, XML elements, records,
-- functions; and in the built-in nodes of nothing and of all functions.
use Rattle.std.proofs.Common.{◌≡◌, ◌↔◌, ◌||◌, ◌++◌, ℕ, ℤ, Bool, true, false, List, refl}
use Rattle.std.proofs.Common.{sym, ap, subst, true≢false, bytes_eq, arith}
use Rattle.std.specs.Prelude.{int_le, nat_le}
use Rattle.std.specs.Cmp.{first_so, second_so}
use Rattle.std.specs.Cmp.Lexicographic.{bytes_decides}
use Rattle.std.proofs.lemmas.Int.{ints}
use Rattle.std.proofs.lemmas.Bool.Decides.{nat_tests}
use Rattle.cd_sets.specs.Characters.{is_among}
use Rattle.cd_sets.specs.Interval.{is_between}
use Rattle.cd_sets.specs.declared.node_id.NodeId.{NodeId}
use Rattle.cd_syntax.specs.Name.{Name}
use Rattle.cd_model.specs.BuiltIns.{built_ins, EMPTY, ARROW}
use Rattle.cd_model.specs.Formula as formula
use Rattle.cd_model.specs.Formula.{Graph, Formula, Field, at_formula, holds, in_node, nodes}
use Rattle.cd_model.specs.Thing as thing
use Rattle.cd_model.specs.Thing.{Thing, Fields, Pairs}
use Rattle.cd_model.specs.Types.{Mapping, Answers, reader, answers, labelled, mapping, field_of}
use Rattle.cd_model.specs.Types.{no_closure}
use Rattle.cd_model.proofs.BuiltIns.{all_map}
use Rattle.cd_model.specs.Leaves.{one_integer, one_character, one_atom}

or_false : (b : Bool) → (b || false) ≡ true → b ≡ true
or_false true is = refl
or_false false is = is

with_false : (b : Bool) → b ≡ true → (b || false) ≡ true
with_false b is = rw is refl

alone_between : (n m : ℤ) → is_between n n m ≡ true → m ≡ n
alone_between n m is =
    let low = first_so (int_le n m) (int_le m n) is in
    let high = second_so (int_le n m) (int_le m n) is in omega (arith, ints)

between_itself : (n : ℤ) → is_between n n n ≡ true
between_itself n = grind (arith, ints)

alone_among : (c d : ℕ) → is_among c c d ≡ true → d ≡ c
alone_among c d is =
    let low = first_so (nat_le c d) (nat_le d c) is in
    let high = second_so (nat_le c d) (nat_le d c) is in grind (arith, nat_tests)

among_itself : (c : ℕ) → is_among c c c ≡ true
among_itself c = grind (arith, nat_tests)

module _ (graph : Graph) (closed : ℕ → Mapping NodeId) where
  abbrev pub in_it : Thing → Answers NodeId
  in_it = answers (nodes graph) closed

  abbrev pub Holds : Thing → Formula → Type 0
  Holds d f = holds (at_formula (reader (nodes graph) closed d)) f true

  of_integer : (n : ℤ) (d : Thing) → Holds d (one_integer n) → d ≡ thing.Integer n
  of_integer n (thing.Integer m) h = ap thing.Integer (alone_between n m (or_false _ h))
  of_integer n (thing.Character c) h = absurd (true≢false h)
  of_integer n (thing.Atom name) h = absurd (true≢false h)
  of_integer n (thing.Pair one other) h = absurd (true≢false h)
  of_integer n (thing.Xml tag attributes content) h = absurd (true≢false h)
  of_integer n (thing.Record fields) h = absurd (true≢false h)
  of_integer n (thing.Function pairs) h = absurd (true≢false h)
  of_integer n (thing.Closure function environment) h = absurd (true≢false h)

  pub integer_holds : (n : ℤ) (d : Thing) → Holds d (one_integer n) ↔ (d ≡ thing.Integer n)
  integer_holds n d = (
    of_integer n d,
    λ same. subst (λ (e : Thing). Holds e (one_integer n)) (sym same)
        (with_false _ (between_itself n)),
  )

  of_character : (c : ℕ) (d : Thing) → Holds d (one_character c) → d ≡ thing.Character c
  of_character c (thing.Character b) h = ap thing.Character (alone_among c b (or_false _ h))
  of_character c (thing.Integer n) h = absurd (true≢false h)
  of_character c (thing.Atom name) h = absurd (true≢false h)
  of_character c (thing.Pair one other) h = absurd (true≢false h)
  of_character c (thing.Xml tag attributes content) h = absurd (true≢false h)
  of_character c (thing.Record fields) h = absurd (true≢false h)
  of_character c (thing.Function pairs) h = absurd (true≢false h)
  of_character c (thing.Closure function environment) h = absurd (true≢false h)

  pub character_holds : (c : ℕ) (d : Thing)
      → Holds d (one_character c) ↔ (d ≡ thing.Character c)
  character_holds c d = (
    of_character c d,
    λ same. subst (λ (e : Thing). Holds e (one_character c)) (sym same)
        (with_false _ (among_itself c)),
  )

  of_atom : (name : Name) (d : Thing) → Holds d (one_atom name) → d ≡ thing.Atom name
  of_atom name (thing.Atom other) h =
      ap thing.Atom ((bytes_decides other name).0 (or_false (bytes_eq other name) h))
  of_atom name (thing.Integer n) h = absurd (true≢false h)
  of_atom name (thing.Character c) h = absurd (true≢false h)
  of_atom name (thing.Pair one other) h = absurd (true≢false h)
  of_atom name (thing.Xml tag attributes content) h = absurd (true≢false h)
  of_atom name (thing.Record fields) h = absurd (true≢false h)
  of_atom name (thing.Function pairs) h = absurd (true≢false h)
  of_atom name (thing.Closure function environment) h = absurd (true≢false h)

  pub atom_holds : (name : Name) (d : Thing) → Holds d (one_atom name) ↔ (d ≡ thing.Atom name)
  atom_holds name d = (
    of_atom name d,
    λ same. subst (λ (e : Thing). Holds e (one_atom name)) (sym same)
        (with_false (bytes_eq name name) ((bytes_decides name name).1 refl)),
  )

  -- the pairs of what is in two nodes
  abbrev pub IsPairIn : (first second : NodeId) → Thing → Type 0
  IsPairIn first second d = (one other : Thing) × (d ≡ thing.Pair one other)
      × in_it one first true × in_it other second true

  pub of_pair : (first second : NodeId) (d : Thing) → Holds d (formula.Pair first second)
      → IsPairIn first second d
  of_pair first second (thing.Pair one other) h = (one, other, refl, h.0, h.1)
  of_pair first second (thing.Integer n) h = absurd (true≢false h)
  of_pair first second (thing.Character c) h = absurd (true≢false h)
  of_pair first second (thing.Atom name) h = absurd (true≢false h)
  of_pair first second (thing.Xml tag attributes content) h = absurd (true≢false h)
  of_pair first second (thing.Record fields) h = absurd (true≢false h)
  of_pair first second (thing.Function pairs) h = absurd (true≢false h)
  of_pair first second (thing.Closure function environment) h = absurd (true≢false h)

  pub pair_holds : (first second : NodeId) (d : Thing)
      → Holds d (formula.Pair first second) ↔ IsPairIn first second d
  pair_holds first second d = (
    of_pair first second d,
    λ (one, other, same, here, there). subst
        (λ (e : Thing). Holds e (formula.Pair first second)) (sym same) (here, there),
  )

  abbrev pub IsXmlIn : (tag attributes content : NodeId) → Thing → Type 0
  IsXmlIn tag attributes content d = (one : Thing) × (other : Thing) × (last : Thing)
      × in_it one tag true × in_it other attributes true
      × in_it last content true × (d ≡ thing.Xml one other last)

  of_xml : (tag attributes content : NodeId) (d : Thing)
      → Holds d (formula.Xml tag attributes content) → IsXmlIn tag attributes content d
  of_xml tag attributes content (thing.Xml one other last) h =
      (one, other, last, h.0, h.1, h.2, refl)
  of_xml tag attributes content (thing.Pair one other) h = absurd (true≢false h)
  of_xml tag attributes content (thing.Integer n) h = absurd (true≢false h)
  of_xml tag attributes content (thing.Character c) h = absurd (true≢false h)
  of_xml tag attributes content (thing.Atom name) h = absurd (true≢false h)
  of_xml tag attributes content (thing.Record fields) h = absurd (true≢false h)
  of_xml tag attributes content (thing.Function pairs) h = absurd (true≢false h)
  of_xml tag attributes content (thing.Closure function environment) h = absurd (true≢false h)

  pub xml_holds : (tag attributes content : NodeId) (d : Thing)
      → Holds d (formula.Xml tag attributes content) ↔ IsXmlIn tag attributes content d
  xml_holds tag attributes content d = (
    of_xml tag attributes content d,
    λ (one, other, last, in_tag, in_attributes, in_content, same).
        subst (λ (e : Thing). Holds e (formula.Xml tag attributes content)) (sym same)
        (in_tag, in_attributes, in_content),
  )

  -- the records that are at each label as a record type says
  abbrev pub IsRecordIn : List (Name × Field) → NodeId → Thing → Type 0
  IsRecordIn named rest d = (fields : Fields) × (d ≡ thing.Record fields)
      × ((label : Name) → labelled (nodes graph) closed fields label (field_of named rest label) true)

  of_record : (named : List (Name × Field)) (rest : NodeId) (d : Thing)
      → Holds d (formula.Record named rest) → IsRecordIn named rest d
  of_record named rest (thing.Record fields) h = (fields, refl, h)
  of_record named rest (thing.Pair one other) h = absurd (true≢false h)
  of_record named rest (thing.Integer n) h = absurd (true≢false h)
  of_record named rest (thing.Character c) h = absurd (true≢false h)
  of_record named rest (thing.Atom name) h = absurd (true≢false h)
  of_record named rest (thing.Xml tag attributes content) h = absurd (true≢false h)
  of_record named rest (thing.Function pairs) h = absurd (true≢false h)
  of_record named rest (thing.Closure function environment) h = absurd (true≢false h)

  pub record_holds : (named : List (Name × Field)) (rest : NodeId) (d : Thing)
      → Holds d (formula.Record named rest) ↔ IsRecordIn named rest d
  record_holds named rest d = (
    of_record named rest d,
    λ (fields, same, each). subst (λ (e : Thing). Holds e (formula.Record named rest)) (sym same)
        each,
  )

-- the functions that map, among elements
module _ (graph : Graph) where
  abbrev pub IsMapping : (argument result : NodeId) → Thing → Type 0
  IsMapping argument result d = (pairs : Pairs) × (d ≡ thing.Function pairs)
      × mapping (nodes graph) no_closure pairs argument result true

  pub of_arrow : (argument result : NodeId) (d : Thing)
      → Holds graph no_closure d (formula.Arrow argument result) → IsMapping argument result d
  of_arrow argument result (thing.Function pairs) h = (pairs, refl, h)
  of_arrow argument result (thing.Record fields) h = absurd (true≢false h)
  of_arrow argument result (thing.Pair one other) h = absurd (true≢false h)
  of_arrow argument result (thing.Integer n) h = absurd (true≢false h)
  of_arrow argument result (thing.Character c) h = absurd (true≢false h)
  of_arrow argument result (thing.Atom name) h = absurd (true≢false h)
  of_arrow argument result (thing.Xml tag attributes content) h = absurd (true≢false h)
  of_arrow argument result (thing.Closure function environment) h = absurd (true≢false h)

-- the built-in nodes
module _ (graph more : Graph) (begins : graph ≡ built_ins ++ more) where
  pub nothing_in_empty : (e : Thing) → in_node graph e EMPTY true → ⊥
  nothing_in_empty e is = true≢false (subst (λ (g : Graph). in_node g e EMPTY true) begins is)

  pub functions_in_arrow : (pairs : Pairs) → in_node graph (thing.Function pairs) ARROW true
  functions_in_arrow pairs = subst
      (λ (g : Graph). in_node g (thing.Function pairs) ARROW true) (sym begins)
      (all_map more no_closure pairs)
