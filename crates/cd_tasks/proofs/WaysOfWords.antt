-- The full words make the ways of a need.
use Rattle.std.proofs.Common.{◌≡◌, ◌∙◌, sym, ap, refl, ℕ, zero, suc, ◌<◌, List, [], ◌∷◌, ◌++◌, map, length, Some, append-nil, append_assoc, arith}
use Rattle.std.proofs.lemmas.List.{map-append}
use Rattle.std.proofs.lemmas.Option.{slice_get-map}
use Rattle.std.specs.List.{slice_get}
use Rattle.std.specs.Option.{option_map}
use Rattle.cd_rules.specs.Clauses.{Clause, Ints, Chars, Atoms, Pairs, Xmls, Records, Arrows, Pair}
use Rattle.cd_rules.specs.Needs.{Need, AreNeeds, pair_way, xml_way, arrow_way, splits, splits_in_three, to_one, to_other, to_first, to_middle, to_last}
use Rattle.cd_tasks.specs.Assignments.{HasWays, Word, count_needs, full_words, given, given_in_three, members_of, sides_of, way_of, way_outside}
use Rattle.cd_tasks.proofs.FullWords.{full_more}
use Rattle.cd_tasks.proofs.PartsOfLists.{map_map, map_twice}

-- the splits are what the full words give
pub splits_are : {X : Type 0} (members : List X) → splits members ≡ map (λ word. given word members) (full_words 2 (length members))
splits_are [] = refl
splits_are {X} (x ∷ members) =
    let words = full_words 2 (length members) in
    let here : Word → List X × List X = λ word. given word members in
    let more : Word → List X × List X = λ word. given word (x ∷ members) in
    let zero_ones : List Word = map (λ word. 0 ∷ word) words in
    let other_ones : List Word = map (λ word. 1 ∷ word) words in
    ap (λ all. map (to_one x) all ++ map (to_other x) all) (splits_are members)
    ∙ ap (λ front. front ++ map (to_other x) (map here words)) (sym (map_twice more (λ word. 0 ∷ word) (to_one x) here (λ word. refl) words))
    ∙ ap (λ rest. map more zero_ones ++ rest) (sym (map_twice more (λ word. 1 ∷ word) (to_other x) here (λ word. refl) words))
    ∙ sym (map-append more zero_ones other_ones)
    ∙ ap (λ rest. map more (zero_ones ++ rest)) (sym (append-nil other_ones))
    ∙ ap (map more) (sym (full_more 2 (length members)))

pub splits_in_three_are : {X : Type 0} (members : List X)
    → splits_in_three members ≡ map (λ word. given_in_three word members) (full_words 3 (length members))
splits_in_three_are [] = refl
splits_in_three_are {X} (x ∷ members) =
    let words = full_words 3 (length members) in
    let here : Word → List X × List X × List X = λ word. given_in_three word members in
    let more : Word → List X × List X × List X = λ word. given_in_three word (x ∷ members) in
    let firsts : List Word = map (λ word. 0 ∷ word) words in
    let middles : List Word = map (λ word. 1 ∷ word) words in
    let lasts : List Word = map (λ word. 2 ∷ word) words in
    ap (λ all. map (to_first x) all ++ map (to_middle x) all ++ map (to_last x) all) (splits_in_three_are members)
    ∙ ap (λ front. front ++ map (to_middle x) (map here words) ++ map (to_last x) (map here words))
    (sym (map_twice more (λ word. 0 ∷ word) (to_first x) here (λ word. refl) words))
    ∙ ap (λ middle. map more firsts ++ middle ++ map (to_last x) (map here words))
    (sym (map_twice more (λ word. 1 ∷ word) (to_middle x) here (λ word. refl) words))
    ∙ ap (λ rest. map more firsts ++ map more middles ++ rest)
    (sym (map_twice more (λ word. 2 ∷ word) (to_last x) here (λ word. refl) words))
    ∙ sym (map_three more firsts middles lasts)
    ∙ ap (map more) (sym (full_more 3 (length members)))
  where
    map_three : {Y : Type 0} (f : Word → Y) (first middle last : List Word)
        → map f (first ++ (middle ++ (last ++ []))) ≡ map f first ++ map f middle ++ map f last
    map_three f first middle last = simp (append-nil, map-append, append_assoc)

pub at_need : {X : Type 0} (xs : List X) (need : ℕ) → need < length xs → (x : X) × (slice_get xs need ≡ Some x)
at_need [] need less = absurd (omega arith)
at_need (x ∷ xs) zero less = (x, refl)
at_need (x ∷ xs) (suc need) less = at_need xs need (omega arith)

arrow_ways : (wanted refused : List Pair) (need : ℕ) (one : Pair) → slice_get refused need ≡ Some one
    → slice_get (map (λ one. map (arrow_way one) (splits wanted)) refused) need
    ≡ Some (map (way_of (Arrows wanted refused) need) (full_words 2 (length wanted)))
arrow_ways wanted refused need one is =
    slice_get-map (λ one. map (arrow_way one) (splits wanted)) refused need
    ∙ ap (option_map (λ one. map (arrow_way one) (splits wanted))) is
    ∙ ap (λ all. Some (map (arrow_way one) all)) (splits_are wanted)
    ∙ ap Some (map_map (arrow_way one) (λ word. given word wanted) (full_words 2 (length wanted)))
    ∙ ap (λ found. Some (map (λ word. way_outside found (given word wanted)) (full_words 2 (length wanted)))) (sym is)

only_need : {X : Type 0} (x : X) (need : ℕ) → need < 1 → slice_get (x ∷ []) need ≡ Some x
only_need x zero less = refl
only_need x (suc need) less = absurd (omega arith)

pub ways_are : (clause : Clause) (needs : List Need) (need : ℕ) → HasWays clause → AreNeeds clause needs → need < count_needs clause
    → slice_get needs need ≡ Some (map (way_of clause need) (full_words (sides_of clause) (members_of clause)))
ways_are (Ints wanted refused) needs need has are less = absurd has
ways_are (Chars wanted refused) needs need has are less = absurd has
ways_are (Atoms wanted refused) needs need has are less = absurd has
ways_are (Records wanted refused) needs need has are less = absurd has
ways_are (Pairs wanted refused) needs need has are less =
    ap (λ needs. slice_get needs need) are ∙ only_need (map (pair_way wanted) (splits refused)) need less
    ∙ ap (λ all. Some (map (pair_way wanted) all)) (splits_are refused)
    ∙ ap Some (map_map (pair_way wanted) (λ word. given word refused) (full_words 2 (length refused)))
ways_are (Xmls wanted refused) needs need has are less =
    ap (λ needs. slice_get needs need) are ∙ only_need (map (xml_way wanted) (splits_in_three refused)) need less
    ∙ ap (λ all. Some (map (xml_way wanted) all)) (splits_in_three_are refused)
    ∙ ap Some (map_map (xml_way wanted) (λ word. given_in_three word refused) (full_words 3 (length refused)))
ways_are (Arrows wanted refused) needs need has are less =
    let found = at_need refused need less in
    ap (λ needs. slice_get needs need) are ∙ arrow_ways wanted refused need found.0 found.1
