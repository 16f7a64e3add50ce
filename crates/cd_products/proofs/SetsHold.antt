-- The formula of the sets of a question holds what the question asks, where one of its nodes is
-- basic.
use Rattle.std.proofs.Common.{◌≡◌, ◌↔◌, Bool, true, false, true≢false, ◌&&◌, ℤ, ℕ, []}
use Rattle.std.proofs.Common.{◌∷◌, length, refl, sym, ◌∙◌, Result, Ok, Err}
use Rattle.std.specs.Result.{IfOk}
use Rattle.std.specs.declared.alloc.AllocError.{AllocError}
use Rattle.cd_sets.specs.declared.node_id.NodeId.{NodeId}
use Rattle.cd_sets.specs.declared.question.Question.{Question}
use Rattle.cd_sets.specs.Interval as integers
use Rattle.cd_sets.specs.Characters.{holds_character}
use Rattle.cd_sets.specs.Atoms as atoms
use Rattle.std.specs.Char.{IsScalar}
use Rattle.cd_syntax.specs.Integer.{IsInteger}
use Rattle.cd_syntax.specs.Name.{Name, IsLabel}
use Rattle.cd_model.specs.BuiltIns.{node}
use Rattle.cd_model.specs.Formula.{Graph, Formula, IsFormula, at_formula, nodes}
use Rattle.cd_model.specs.Interfaces.{Interfaces, admits}
use Rattle.cd_model.specs.Membership.{Reader, asked, holds, answers, reader, at_nodes}
use Rattle.cd_model.specs.Membership.{value_answers, value_reader}
use Rattle.cd_model.specs.Types as types
use Rattle.cd_model.specs.Types.{Presentation, Mapping, no_closure, closure_maps}
use Rattle.cd_model.specs.Thing as thing
use Rattle.cd_model.specs.Thing.{Thing, IsElement, IsValue}
use Rattle.cd_model.proofs.BothWays.{through, turned}
use Rattle.cd_graph.specs.PlainFormula.{plain}
use Rattle.cd_graph.specs.declared.formula.Formula.{Formula as CodeFormula}
use Rattle.cd_rules.specs.BasicSets.{passes, question_passes}
use Rattle.cd_rules.specs.BasicSets.{integer_test, character_test, atom_test}
use Rattle.cd_rules.proofs.BasicSetsExact.{integers_exact, characters_exact, atoms_exact}
use Rattle.cd_normal.specs.declared.basic_sets.Basics.{Basics}
use Rattle.cd_products.specs.Keeping.{IsFormulaOfQuestion}
use Rattle.cd_products.specs.Inner.Basic.{one_node_is_basic}
use Rattle.cd_products.specs.Inner.Sets.{IsOfSets}
use Rattle.cd_products.proofs.BasicForms.{IsInNoSet, not_held, not_in_all}

-- a formula as a graph of its own, and what asks for it
abbrev alone : Formula → Graph
alone f = f ∷ []

abbrev one_node : Question
one_node = record { pos = node 0 ∷ []; neg = [] }

only : (b : Bool) → ((b && true) && true) ≡ b
only true = refl
only false = refl

-- so what holds is what passes
held_as_passes : {H : Type 0} (b : Bool) → ((H × Unit {0}) × Unit {0}) ↔ (((b && true) && true) ≡ true)
    → H ↔ (b ≡ true)
held_as_passes b both =
    (λ h. sym (only b) ∙ both.0 ((h, tt), tt), λ is. (both.1 (only b ∙ is)).0.0)

same_true : (a b : Bool) → a ≡ b → (a ≡ true) ↔ (b ≡ true)
same_true a b same = (λ is. sym same ∙ is, λ is. same ∙ is)

module _ (graph : Graph) (question : Question) (sets : Basics) (f : Formula)
    (is : IsOfSets sets f) where
  module _ (integers_in : (z : ℤ) → IsInteger z → integers.holds sets.integers z
      ≡ question_passes (integer_test z) graph question) where
    pub integer : (z : ℤ) → IsInteger z → asked (answers graph (thing.Integer z)) question true
        ↔ holds (reader graph (thing.Integer z)) f true
    integer z within = through (integers_exact graph question z)
        (through (same_true (question_passes (integer_test z) graph question)
        (passes (integer_test z) f) (sym (integers_in z within) ∙ sym (is.integers_are z)))
        (turned (held_as_passes (passes (integer_test z) f) (integers_exact (alone f) one_node z))))

  module _ (characters_in : (c : ℕ) → IsScalar c → holds_character sets.characters c
      ≡ question_passes (character_test c) graph question) where
    pub character : (c : ℕ) → IsScalar c → asked (answers graph (thing.Character c)) question true
        ↔ holds (reader graph (thing.Character c)) f true
    character c within = through (characters_exact graph question c)
        (through (same_true (question_passes (character_test c) graph question)
        (passes (character_test c) f) (sym (characters_in c within) ∙ sym (is.characters_are c within)))
        (turned (held_as_passes (passes (character_test c) f)
        (characters_exact (alone f) one_node c))))

  module _ (atoms_in : (name : Name) → atoms.IsAtom name → atoms.holds sets.atoms name
      ≡ question_passes (atom_test name) graph question) where
    pub atom : (name : Name) → IsLabel name → asked (answers graph (thing.Atom name)) question true
        ↔ holds (reader graph (thing.Atom name)) f true
    atom name within = through (atoms_exact graph question name)
        (through (same_true (question_passes (atom_test name) graph question)
        (passes (atom_test name) f) (sym (atoms_in name within) ∙ sym (is.atoms_are name within)))
        (turned (held_as_passes (passes (atom_test name) f)
        (atoms_exact (alone f) one_node name))))

  -- no thing with parts is in either
  module _ (basic : one_node_is_basic graph question.pos ≡ true) where
    pub neither : (read : Reader) → IsInNoSet read
        → asked (at_nodes graph read) question true ↔ holds read f true
    neither read outside = (
      λ asks. absurd (not_in_all read outside graph question.pos basic asks.0),
      λ held. absurd (not_held read outside f is.basic held),
    )

-- things with parts are in no set
module _ (at : Presentation NodeId) (closed : ℕ → Mapping NodeId) where
  abbrev read : Thing → Reader
  read d = at_formula (types.reader at closed d)

  -- numbers and characters are in their ranges, and atoms are labels
  abbrev IsInRange : Thing → Type 0
  IsInRange (thing.Integer z) = IsInteger z
  IsInRange (thing.Character c) = IsScalar c
  IsInRange (thing.Atom name) = IsLabel name
  IsInRange d = Unit {0}

  abbrev HasParts : Thing → Type 0
  HasParts (thing.Integer z) = ⊥
  HasParts (thing.Character c) = ⊥
  HasParts (thing.Atom name) = ⊥
  HasParts d = Unit {0}

  in_no_set : (d : Thing) → HasParts d → IsInNoSet (read d)
  in_no_set (thing.Integer z) parts = absurd parts
  in_no_set (thing.Character c) parts = absurd parts
  in_no_set (thing.Atom name) parts = absurd parts
  in_no_set (thing.Pair first second) parts = record {
    integers = λ set inside. true≢false inside;
    characters = λ set inside. true≢false inside;
    atoms = λ set inside. true≢false inside;
  }
  in_no_set (thing.Xml tag attributes content) parts = record {
    integers = λ set inside. true≢false inside;
    characters = λ set inside. true≢false inside;
    atoms = λ set inside. true≢false inside;
  }
  in_no_set (thing.Record fields) parts = record {
    integers = λ set inside. true≢false inside;
    characters = λ set inside. true≢false inside;
    atoms = λ set inside. true≢false inside;
  }
  in_no_set (thing.Function pairs) parts = record {
    integers = λ set inside. true≢false inside;
    characters = λ set inside. true≢false inside;
    atoms = λ set inside. true≢false inside;
  }
  in_no_set (thing.Closure function environment) parts = record {
    integers = λ set inside. true≢false inside;
    characters = λ set inside. true≢false inside;
    atoms = λ set inside. true≢false inside;
  }

module _ (graph : Graph) (question : Question) (sets : Basics) (f : Formula)
    (is : IsOfSets sets f) (basic : one_node_is_basic graph question.pos ≡ true)
    (integers_in : (z : ℤ) → IsInteger z → integers.holds sets.integers z
    ≡ question_passes (integer_test z) graph question)
    (characters_in : (c : ℕ) → IsScalar c → holds_character sets.characters c
    ≡ question_passes (character_test c) graph question)
    (atoms_in : (name : Name) → atoms.IsAtom name → atoms.holds sets.atoms name
    ≡ question_passes (atom_test name) graph question) where
  module _ (closed : ℕ → Mapping NodeId) where
    abbrev HoldsSo : Thing → Type 0
    HoldsSo d = asked (types.answers (nodes graph) closed d) question true
        ↔ holds (read (nodes graph) closed d) f true

    parts : (d : Thing) → HasParts (nodes graph) closed d → HoldsSo d
    parts d has = neither graph question sets f is basic (read (nodes graph) closed d)
        (in_no_set (nodes graph) closed d has)

    holds_so : (d : Thing) → IsInRange (nodes graph) closed d → HoldsSo d
    holds_so (thing.Integer z) sort = integer graph question sets f is integers_in z sort
    holds_so (thing.Character c) sort = character graph question sets f is characters_in c sort
    holds_so (thing.Atom name) sort = atom graph question sets f is atoms_in name sort
    holds_so (thing.Pair first second) sort = parts (thing.Pair first second) tt
    holds_so (thing.Xml tag attributes content) sort =
        parts (thing.Xml tag attributes content) tt
    holds_so (thing.Record fields) sort = parts (thing.Record fields) tt
    holds_so (thing.Function pairs) sort = parts (thing.Function pairs) tt
    holds_so (thing.Closure function environment) sort =
        parts (thing.Closure function environment) tt

    of_element : (e : Thing) → IsElement e → IsInRange (nodes graph) closed e
    of_element (thing.Integer z) sort = sort
    of_element (thing.Character c) sort = sort
    of_element (thing.Atom name) sort = sort
    of_element (thing.Pair first second) sort = tt
    of_element (thing.Xml tag attributes content) sort = tt
    of_element (thing.Record fields) sort = tt
    of_element (thing.Function pairs) sort = tt
    of_element (thing.Closure function environment) sort = tt

    of_value : (v : Thing) → IsValue v → IsInRange (nodes graph) closed v
    of_value (thing.Integer z) sort = sort
    of_value (thing.Character c) sort = sort
    of_value (thing.Atom name) sort = sort
    of_value (thing.Pair first second) sort = tt
    of_value (thing.Xml tag attributes content) sort = tt
    of_value (thing.Record fields) sort = tt
    of_value (thing.Function pairs) sort = tt
    of_value (thing.Closure function environment) sort = tt

  pub formula_of_question : IsFormulaOfQuestion graph question f
  formula_of_question = record {
    elements = λ e sort. holds_so no_closure e (of_element no_closure e sort);
    values = λ interfaces v sort.
        let closed = closure_maps (nodes graph) (admits interfaces) in
        holds_so closed v (of_value closed v sort);
    sound = is.sound (length graph);
  }

-- a formula that is made of copies
pub copied : (graph : Graph) (question : Question) (result : Result CodeFormula AllocError)
    → IfOk result (λ is. (d : Thing) (answer : Bool) → asked (answers graph d) question answer
    ↔ holds (reader graph d) (plain is) answer)
    → IfOk result (λ is. (interfaces : Interfaces) (d : Thing) (answer : Bool)
    → asked (value_answers graph interfaces d) question answer
    ↔ holds (value_reader graph interfaces d) (plain is) answer)
    → IfOk result (λ is. IsFormula (length graph) (plain is))
    → IfOk result (λ is. IsFormulaOfQuestion graph question (plain is))
copied graph question (Ok is) elements values sound = record {
  elements = λ e sort. elements e true;
  values = λ interfaces v sort. values interfaces v true;
  sound = sound;
}
copied graph question (Err error) elements values sound = tt
