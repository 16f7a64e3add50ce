-- States in a row, each under the number of its place after a first number, and their formulas in a graph.
use Rattle.std.proofs.Common.{◌≡◌, ℕ, zero, suc, ◌+◌, ◌-◌, ◌<◌, ◌≤◌, List, [], ◌∷◌, ◌++◌, length, map, refl, ap, subst, ◌∙◌, arith}
use Rattle.std.specs.List.{slice_get}
use Rattle.std.specs.Option.{unwrap_or}
use Rattle.std.proofs.lemmas.List.{append_assoc, length-append}
use Rattle.cd_sets.specs.declared.node_id.NodeId.{NodeId}
use Rattle.cd_model.specs.AllOf.{AllOf}
use Rattle.cd_model.specs.Formula.{Graph, Nothing}
use Rattle.cd_model.specs.BuiltIns.{node}
use Rattle.cd_regex.specs.Automaton.{Follow, finish, state_formula}
use Rattle.cd_regex.proofs.Accepting.{ArePlaced}

-- the state of a node
abbrev pub nth : List Follow → ℕ → Follow
nth list place = unwrap_or (slice_get list place) finish

abbrev pub state_at : ℕ → List Follow → NodeId → Follow
state_at first list id = nth list (id.0 - first)

nth_after : (before rest : List Follow) (follow : Follow) → nth (before ++ (follow ∷ rest)) (length before) ≡ follow
nth_after [] rest follow = refl
nth_after (other ∷ before) rest follow = nth_after before rest follow

-- the states after the first are placed after its number
pub row_is_placed : (first : ℕ) (start : Follow) (before rest : List Follow)
    → ArePlaced (state_at first (start ∷ (before ++ rest))) (first + length before) rest
row_is_placed first start before [] = tt
row_is_placed first start before (follow ∷ rest) =
    let at : NodeId → Follow = state_at first (start ∷ (before ++ (follow ∷ rest))) in
    let place : (first + length before + 1) - first ≡ suc (length before) = omega arith in
    let here : at (node (first + length before + 1)) ≡ follow =
    ap (nth (start ∷ (before ++ (follow ∷ rest)))) place ∙ nth_after before rest follow in
    let more : List Follow = before ++ follow ∷ [] in
    let list_is : more ++ rest ≡ before ++ (follow ∷ rest) = append_assoc before (follow ∷ []) rest in
    let place_is : first + length more ≡ first + length before + 1 = omega (arith, length-append before (follow ∷ [])) in
    let later : ArePlaced at (first + length more) rest =
    subst (λ (list : List Follow). ArePlaced (state_at first (start ∷ list)) (first + length more) rest) list_is
    (row_is_placed first start more rest) in
    (here, subst (λ (number : ℕ). ArePlaced at number rest) place_is later)

-- what is so of each state is so of the state at a place
pub nth_also : (fact : Follow → Type 0) (list : List Follow) (place : ℕ) → AllOf fact list → place < length list → fact (nth list place)
nth_also fact [] place each below = absurd (omega arith)
nth_also fact (follow ∷ rest) zero each below = each.0
nth_also fact (follow ∷ rest) (suc place) each below = nth_also fact rest place each.1 (omega arith)

-- the formula at a place of a graph that has those of the states after some others
formula_of_nth : (list : List Follow) (after : Graph) (place : ℕ) → place < length list
    → unwrap_or (slice_get (map state_formula list ++ after) place) Nothing ≡ state_formula (nth list place)
formula_of_nth [] after place below = absurd (omega arith)
formula_of_nth (follow ∷ rest) after zero below = refl
formula_of_nth (follow ∷ rest) after (suc place) below = formula_of_nth rest after place (omega arith)

pub formula_of_state : (before : Graph) (list : List Follow) (after : Graph) (number : ℕ) → length before ≤ number
    → number < length before + length list
    → unwrap_or (slice_get (before ++ map state_formula list ++ after) number) Nothing ≡ state_formula (nth list (number - length before))
formula_of_state [] list after number from below =
    let same_place : number - 0 ≡ number = omega arith in
    rw same_place (formula_of_nth list after number (omega arith))
formula_of_state (is ∷ before) list after zero from below = absurd (omega arith)
formula_of_state (is ∷ before) list after (suc number) from below =
    let same_place : suc number - suc (length before) ≡ number - length before = omega arith in
    rw same_place (formula_of_state before list after number (omega arith) (omega arith))
