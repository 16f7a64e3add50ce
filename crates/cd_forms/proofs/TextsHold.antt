-- Pairs of the characters of a text, and then a thing of a node.
use Rattle.std.proofs.Common.{◌≡◌, ◌<◌, ◌≤◌, ◌+◌, ◌++◌, ◌↔◌, ℕ, true, List, [], ◌∷◌}
use Rattle.std.proofs.Common.{length, map, refl, ap, sym, subst, ◌∙◌, arith, length-append}
use Rattle.std.proofs.lemmas.List.{length-map}
use Rattle.std.proofs.lemmas.Option.{slice_get-map, slice_get_within}
use Rattle.std.specs.Option.{option_map}
use Rattle.cd_sets.specs.declared.node_id.NodeId.{NodeId}
use Rattle.cd_model.specs.AllOf.{AllOf}
use Rattle.cd_model.specs.Formula.{Graph, Formula, IsFormula, IsGraph, formula_at}
use Rattle.cd_model.specs.Membership.{holds, reader, answers}
use Rattle.cd_model.specs.Thing.{Thing, Character, IsElement}
use Rattle.cd_model.proofs.Extending.{kept_elements}
use Rattle.cd_model.proofs.Ones.{each_of_lists}
use Rattle.cd_meaning.specs.Sets.{◌⊆◌, elements_of}
use Rattle.cd_meaning.specs.Sequences.{followed_by}
use Rattle.cd_typing.specs.Typ.{typ, AreIn}
use Rattle.cd_forms.specs.Inner.Chains.{IsTextBefore, begin, chain_from}
use Rattle.cd_model.specs.Leaves.{one_character}
use Rattle.cd_forms.specs.Inner.Letters.{IsLetter, AreLetters, IsTextBatch}
use Rattle.cd_forms.proofs.ChainsHold.{StandFrom, stand_after, stand_left, stand_right, IsChain}
use Rattle.cd_forms.proofs.ChainsHold.{chain_has, chain_only, chain_stands, chain_sound}
use Rattle.cd_forms.proofs.ChainsHold.{chain_length}
use Rattle.cd_forms.proofs.Followed.{parts_are_elements}
use Rattle.cd_model.proofs.ReadHeads.{character_holds}
use Rattle.cd_model.specs.Types.{no_closure}

-- the formulas of letters
abbrev pub letter_formulas : List ℕ → List Formula
letter_formulas = map one_character

letters_sound : (total : ℕ) (letters : List ℕ)
    → AllOf (IsFormula total) (letter_formulas letters)
letters_sound total [] = tt
letters_sound total (c ∷ letters) = (tt, letters_sound total letters)

heads_below : (total first : ℕ) (letters text : List ℕ) (heads : List NodeId)
    → AreLetters first letters text heads → first + length letters ≤ total
    → AllOf (λ id. id.0 < total) heads
heads_below total first letters [] [] are long = tt
heads_below total first letters [] (id ∷ heads) are long = absurd are
heads_below total first letters (c ∷ text) [] are long = absurd are
heads_below total first letters (c ∷ text) (id ∷ heads) are long = (
  subst (λ (i : NodeId). i.0 < total) (sym are.0.2)
      (omega (arith, slice_get_within letters are.0.0 c are.0.1)),
  heads_below total first letters text heads are.1 long,
)

-- where the formulas of letters stand, the node of a letter holds it alone
module _ (graph : Graph) (first : ℕ) (letters : List ℕ)
    (stand : StandFrom first (letter_formulas letters) graph) where
  letter_holds : (c : ℕ) (id : NodeId) → IsLetter first letters c id → (d : Thing)
      → answers graph d id true ↔ (d ≡ Character c)
  letter_holds c id is d =
      let there = slice_get-map one_character letters is.0 ∙ ap (option_map one_character) is.1 in
      let formula = ap (formula_at graph) is.2 ∙ stand is.0 (one_character c) there in
      subst (λ (f : Formula). holds (reader graph d) f true ↔ (d ≡ Character c)) (sym formula)
      (character_holds graph no_closure c d)

  letters_in : (text : List ℕ) (heads : List NodeId) → AreLetters first letters text heads
      → AllOf IsElement (map Character text)
      → AreIn (map (typ graph) heads) (map Character text)
  letters_in [] [] are each = tt
  letters_in [] (id ∷ heads) are each = absurd are
  letters_in (c ∷ text) [] are each = absurd are
  letters_in (c ∷ text) (id ∷ heads) are each = (
    each.0,
    (letter_holds c id are.0 (Character c)).1 refl,
    letters_in text heads are.1 each.1,
  )

  letters_alone : (text : List ℕ) (heads : List NodeId) → AreLetters first letters text heads
      → (ds : List Thing) → AreIn (map (typ graph) heads) ds → ds ≡ map Character text
  letters_alone [] [] are [] in_them = refl
  letters_alone [] [] are (d ∷ ds) in_them = absurd in_them
  letters_alone [] (id ∷ heads) are ds in_them = absurd are
  letters_alone (c ∷ text) [] are ds in_them = absurd are
  letters_alone (c ∷ text) (id ∷ heads) are [] in_them = absurd in_them
  letters_alone (c ∷ text) (id ∷ heads) are (d ∷ ds) in_them = λ i.
      (letter_holds c id are.0 d).0 in_them.1 i ∷ letters_alone text heads are.1 ds in_them.2 i

-- a text that is put after a graph
module _ (graph : Graph) (sound : IsGraph graph) (text letters : List ℕ) (heads : List NodeId)
    (end : NodeId) (are : AreLetters (length graph) letters text heads)
    (below : end.0 < length graph) where
  abbrev pub after : ℕ
  after = length graph + length letters

  abbrev pub text_batch : List Formula
  text_batch = letter_formulas letters ++ chain_from after heads end

  abbrev longer : Graph
  longer = graph ++ text_batch

  abbrev pub text_node : NodeId
  text_node = begin after heads end

  batch_length : length text_batch ≡ length letters + length heads
  batch_length =
      let whole = length-append (letter_formulas letters) (chain_from after heads end) in
      let shapes : length (letter_formulas letters) ≡ length letters =
      length-map letters one_character in
      let row = chain_length after heads end in omega (arith, whole, shapes, row)

  pub text_sound : AllOf (IsFormula (length graph + length text_batch)) text_batch
  text_sound = let count = batch_length in
      each_of_lists (IsFormula (length graph + length text_batch)) (letter_formulas letters)
      (chain_from after heads end)
      (letters_sound (length graph + length text_batch) letters)
      (chain_sound (length graph + length text_batch) after heads end
      (heads_below (length graph + length text_batch) (length graph) letters text heads are
      (omega (arith, count))) (omega (arith, below)) (omega (arith, count)))

  stand : StandFrom (length graph) text_batch longer
  stand = stand_after graph text_batch

  stand_letters : StandFrom (length graph) (letter_formulas letters) longer
  stand_letters = stand_left (length graph) (letter_formulas letters) (chain_from after heads end)
      longer stand

  is_chain : IsChain longer heads end text_node
  is_chain = chain_stands longer after heads end
      (subst (λ n. StandFrom n (chain_from after heads end) longer)
      (ap (λ n. length graph + n) (length-map letters one_character))
      (stand_right (length graph) (letter_formulas letters) (chain_from after heads end) longer
      stand))

  pub text_has : IsTextBefore text (elements_of graph end) ⊆ elements_of longer text_node
  text_has e element (last, there, same) =
      let each = parts_are_elements (map Character text) last (subst IsElement same element) in
      subst (λ (d : Thing). answers longer d text_node true) (sym same)
      (chain_has longer heads end text_node is_chain (map Character text) last
      (letters_in longer (length graph) letters stand_letters text heads are each.0)
      ((kept_elements graph text_batch sound last end true below).0 there))

  pub text_only : elements_of longer text_node ⊆ IsTextBefore text (elements_of graph end)
  text_only e element there =
      let found = chain_only longer heads end text_node is_chain e element there in (
        found.1,
        (kept_elements graph text_batch sound found.1 end true below).1 found.4,
        found.5 ∙ ap (λ ds. followed_by ds found.1)
            (letters_alone longer (length graph) letters stand_letters text heads are found.0
            found.2),
      )

-- as code finds it
module _ (graph : Graph) (sound : IsGraph graph) (text : List ℕ) (end : NodeId)
    (below : end.0 < length graph) (first : ℕ) (count : first ≡ length graph)
    (batch : List Formula) (id : NodeId) (is : IsTextBatch first text end batch id)
    (formulas : List Formula) (of : formulas ≡ batch) where
  abbrev made : IsTextBatch (length graph) text end formulas id
  made = subst (λ (all : List Formula). IsTextBatch (length graph) text end all id) (sym of)
      (subst (λ n. IsTextBatch n text end batch id) count is)

  abbrev are : AreLetters (length graph) made.0 text made.1
  are = made.2

  is_batch : text_batch graph sound text made.0 made.1 end are below ≡ formulas
  is_batch = sym made.3

  pub text_batch_sound : AllOf (IsFormula (length graph + length formulas)) formulas
  text_batch_sound = subst
      (λ (all : List Formula). AllOf (IsFormula (length graph + length all)) all) is_batch
      (text_sound graph sound text made.0 made.1 end are below)

  module _ (longer : Graph) (added : longer ≡ graph ++ formulas) where
    is_longer : graph ++ text_batch graph sound text made.0 made.1 end are below ≡ longer
    is_longer = ap (λ all. graph ++ all) is_batch ∙ sym added

    pub text_node_has : IsTextBefore text (elements_of graph end) ⊆ elements_of longer id
    text_node_has e element is = subst (λ (i : NodeId). answers longer e i true) (sym made.4)
        (subst (λ (g : Graph).
        answers g e (text_node graph sound text made.0 made.1 end are below) true) is_longer
        (text_has graph sound text made.0 made.1 end are below e element is))

    pub text_node_only : elements_of longer id ⊆ IsTextBefore text (elements_of graph end)
    text_node_only e element there =
        text_only graph sound text made.0 made.1 end are below e element
        (subst (λ (g : Graph).
        answers g e (text_node graph sound text made.0 made.1 end are below) true) (sym is_longer)
        (subst (λ (i : NodeId). answers longer e i true) made.4 there))
