-- What is answered of the entries of a text that are refused, as what is said of its tokens.
use Rattle.std.proofs.Common.{◌≡◌, ◌∙◌, sym, ap, subst, refl, ℕ, suc, List, ◌∷◌, ◌++◌, map, take, length, arith}
use Rattle.std.specs.Prelude.{◌<◌, ◌≤◌}
use Rattle.std.proofs.lemmas.List.{take-map, map-append, length-map}
use Rattle.cd_syntax.specs.declared.tokens.Token.{Token}
use Rattle.cd_syntax.specs.SyntaxFaults.{Form, BeginNone, IsWrong, IsUnfinished}
use Rattle.cd_lr.specs.Grammar.{Whole}
use Rattle.cd_lr.specs.Reading.{Answer, Syntax, Begin, IsAnswer, wrong, unfinished, whole, too_deep}
use Rattle.cd_grammar.specs.declared.goal.Goal.{Goal}
use Rattle.cd_grammar.specs.Parts.{Part}
use Rattle.cd_grammar.specs.Language.{Entry, To, Read, Placed, cduce_grammar, Writes, Begins}
use Rattle.cd_grammar.proofs.Later.{by_tokens}

-- the form of a goal, by the part that each thing it writes is
module _ {Written : Type 0} (of : Written → Part) (goal : Goal) where
  abbrev pub form : Form
  form = record {
    Writes = λ depth tokens. (is : Written) × Writes goal depth tokens (of is);
    Begins = Begins goal;
  }

module _ {Written : Type 0} (of : Written → Part) (goal : Goal) (most : ℕ) (tokens : List Token) where
  abbrev pub entries : List Entry
  entries = To goal ∷ map Read tokens

  pub begins : (front : List Token) (some : List Entry) → some ≡ To goal ∷ map Read front
      → Begin cduce_grammar most most some → Begins goal most front
  begins front some same (more, part, free, is) =
      by_tokens goal most front more part free (subst (λ all. Whole cduce_grammar most (all ++ more) part) same is)

  none : (depth : ℕ) (front : List Token) (some : List Entry) → some ≡ To goal ∷ map Read front
      → ((more : List Entry) (part : Placed) → Whole cduce_grammar depth (some ++ more) part → ⊥)
      → BeginNone (form of goal) depth front
  none depth front some same never more (is, (place, writes)) =
      never (map Read more) (place, of is)
      (subst (λ all. Whole cduce_grammar depth (all ++ map Read more) (place, of is)) (sym same)
      (subst (λ all. Whole cduce_grammar depth (To goal ∷ all) (place, of is)) (map-append Read front more) writes))

  -- so many tokens after what the text is to be
  pub taken : (n index : ℕ) → n ≡ suc index → take n entries ≡ To goal ∷ map Read (take index tokens)
  taken n index same = ap (λ n. take n entries) same ∙ ap (λ rest. To goal ∷ rest) (take-map Read index tokens)

  -- the first entry that is refused is that of a token
  wrong_of : (index : ℕ) (answer : Answer Placed) → IsAnswer cduce_grammar most entries answer
      → answer ≡ Syntax (suc index) → index < length tokens → IsWrong (form of goal) most tokens index
  wrong_of index _ (whole part is) same small = absurd cc
  wrong_of index _ (too_deep at less before deeper never) same small = absurd cc
  wrong_of index _ (unfinished at past before never) same small =
      let number : at ≡ suc index = cc in
      let many = length-map tokens Read in
      absurd (omega (arith, number, small, past, many))
  wrong_of index _ (wrong at less before never) same small =
      let number : at ≡ suc index = cc in
      record {
        within = small;
        before = begins (take index tokens) (take at entries) (taken at index number) before;
        wrong = λ depth. none depth (take (suc index) tokens) (take (suc at) entries)
            (taken (suc at) (suc index) (ap suc number)) (never depth);
      }

  pub is_wrong : (index : ℕ) → IsAnswer cduce_grammar most entries (Syntax (suc index)) → index < length tokens
      → IsWrong (form of goal) most tokens index
  is_wrong index is small = wrong_of index (Syntax (suc index)) is refl small

  -- all entries begin something, and write nothing
  unfinished_of : (index : ℕ) (answer : Answer Placed) → IsAnswer cduce_grammar most entries answer
      → answer ≡ Syntax (suc index) → length tokens ≤ index → IsUnfinished (form of goal) most tokens
  unfinished_of index _ (whole part is) same past = absurd cc
  unfinished_of index _ (too_deep at less before deeper never) same past = absurd cc
  unfinished_of index _ (wrong at less before never) same past =
      let number : at ≡ suc index = cc in
      let many = length-map tokens Read in
      absurd (omega (arith, number, past, less, many))
  unfinished_of index _ (unfinished at less before never) same past =
      record {
        begun = begins tokens entries refl before;
        unfinished = λ depth writes. never depth (writes.1.0, of writes.0) writes.1.1;
      }

  pub is_unfinished : (index : ℕ) → IsAnswer cduce_grammar most entries (Syntax (suc index)) → length tokens ≤ index
      → IsUnfinished (form of goal) most tokens
  is_unfinished index is past = unfinished_of index (Syntax (suc index)) is refl past
