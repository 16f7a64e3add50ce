-- Environments to which nodes are added.
use Rattle.std.proofs.Common.{◌≡◌, ◌<◌, ◌≤◌, ◌+◌, ℕ, zero, suc, List, [], ◌∷◌, ◌++◌, length, get_or, refl, sym, ap, subst, ◌∙◌, append-nil, append_assoc, length-append, arith}
use Rattle.std.proofs.lemmas.List.{get_or_append_left, get_or_at, get_or_past}
use Rattle.cd_cells.specs.declared.cell.Part.{Part}
use Rattle.cd_machine.specs.declared.environments.Node.{Node}
use Rattle.cd_machine.specs.Inner.Nodes.{parts_at, lists_from, lists, AreOrdered, Longer}

-- what a node adds
abbrev pub added : List (List Part) → Node → List Part
added all node = node.part ∷ parts_at all node.around

-- what was there stays
pub stays : (old new : List (List Part)) → Longer old new → (number : ℕ) → number < length old → parts_at new number ≡ parts_at old number
stays old new longer number is = ap (λ all. parts_at all number) longer.is ∙ get_or_append_left old longer.more [] number is

pub longer_same : (all : List (List Part)) → Longer all all
longer_same all = record { more = []; is = sym (append-nil all) }

pub longer_then : (first second third : List (List Part)) → Longer first second → Longer second third → Longer first third
longer_then first second third one other = record {
  more = one.more ++ other.more;
  is = other.is ∙ ap (λ all. all ++ other.more) one.is ∙ append_assoc first one.more other.more;
}

pub within : (old new : List (List Part)) → Longer old new → (number : ℕ) → number < length old → number < length new
within old new longer number is =
    let same : length new ≡ length (old ++ longer.more) = ap length longer.is in omega (arith, length-append old longer.more)

goes_on : (all : List (List Part)) (nodes : List Node) → Longer all (lists_from all nodes)
goes_on all [] = longer_same all
goes_on all (node ∷ nodes) = longer_then all (all ++ added all node ∷ []) (lists_from (all ++ added all node ∷ []) nodes)
    record { more = added all node ∷ []; is = refl } (goes_on (all ++ added all node ∷ []) nodes)

pub one_more : (all : List (List Part)) (nodes : List Node) (node : Node)
    → lists_from all (nodes ++ node ∷ []) ≡ lists_from all nodes ++ added (lists_from all nodes) node ∷ []
one_more all [] node = refl
one_more all (first ∷ nodes) node = one_more (all ++ added all first ∷ []) nodes node

pub how_many : (all : List (List Part)) (nodes : List Node) → length (lists_from all nodes) ≡ length all + length nodes
how_many all [] = omega arith
how_many all (node ∷ nodes) =
    let rest = how_many (all ++ added all node ∷ []) nodes in omega (arith, rest, length-append all (added all node ∷ []))

pub still_ordered : (number : ℕ) (nodes : List Node) (node : Node) → AreOrdered number nodes → node.around ≤ number + length nodes
    → AreOrdered number (nodes ++ node ∷ [])
still_ordered number [] node are is = (omega (arith, is), tt)
still_ordered number (first ∷ nodes) node are is = (are.0, still_ordered (suc number) nodes node are.1 (omega (arith, is)))

-- the environment of a node
pub node_at : (all : List (List Part)) (nodes : List Node) (number place : ℕ) (node default : Node) → suc number ≡ length all → AreOrdered number nodes
    → place < length nodes → get_or nodes place default ≡ node
    → (parts_at (lists_from all nodes) (length all + place) ≡ node.part ∷ parts_at (lists_from all nodes) node.around) × (node.around ≤ number + place)
node_at all [] number place node default many are less is = absurd (omega (arith, less))
node_at all (first ∷ nodes) number zero node default many are less is =
    let Here : Node → Type 0 = λ one. (parts_at (lists_from all (first ∷ nodes)) (length all + 0) ≡ one.part ∷ parts_at (lists_from all (first ∷ nodes)) one.around)
    × (one.around ≤ number + 0) in
    let longer = goes_on (all ++ added all first ∷ []) nodes in
    let end : length (all ++ added all first ∷ []) ≡ length all + 1 = length-append all (added all first ∷ []) in
    let place : length all + 0 ≡ length all = omega arith in
    subst Here is (
      ap (parts_at (lists_from all (first ∷ nodes))) place
          ∙ stays (all ++ added all first ∷ []) (lists_from all (first ∷ nodes)) longer (length all) (omega (arith, end))
          ∙ get_or_at all (added all first) [] [] (length all) refl
          ∙ ap (λ rest. first.part ∷ rest) (sym (stays all (lists_from all (first ∷ nodes)) (goes_on all (first ∷ nodes)) first.around (omega (arith, many, are.0)))),
      omega (arith, are.0),
    )
node_at all (first ∷ nodes) number (suc place) node default many are less is =
    let longer : length (all ++ added all first ∷ []) ≡ length all + 1 = length-append all (added all first ∷ []) in
    let rest = node_at (all ++ added all first ∷ []) nodes (suc number) place node default (omega (arith, many, longer)) are.1 (omega (arith, less)) is in
    let same : length all + suc place ≡ length (all ++ added all first ∷ []) + place = omega (arith, longer) in
    (ap (parts_at (lists_from all (first ∷ nodes))) same ∙ rest.0, omega (arith, rest.1))

-- the first environment is empty, and so is one of a number that names none
pub first_empty : (nodes : List Node) → parts_at (lists nodes) 0 ≡ []
first_empty nodes = stays ([] ∷ []) (lists nodes) (goes_on ([] ∷ []) nodes) 0 (omega arith)

pub beyond : (nodes : List Node) (place : ℕ) → length nodes ≤ place → parts_at (lists nodes) (1 + place) ≡ []
beyond nodes place less = get_or_past (lists nodes) (1 + place) [] (omega (arith, how_many ([] ∷ []) nodes))

pub node_found : (nodes : List Node) (place : ℕ) (node default : Node) → AreOrdered 0 nodes → place < length nodes → get_or nodes place default ≡ node
    → (parts_at (lists nodes) (1 + place) ≡ node.part ∷ parts_at (lists nodes) node.around) × (node.around ≤ place)
node_found nodes place node default are less is =
    let found = node_at ([] ∷ []) nodes 0 place node default (omega arith) are less is in (found.0, omega (arith, found.1))

-- the environment that was added last
pub last_added : (all new : List (List Part)) (one : List Part) (number : ℕ) → new ≡ all ++ one ∷ [] → number ≡ length all → parts_at new number ≡ one
last_added all new one number is last = ap (λ all. parts_at all number) is ∙ get_or_at all one [] [] number (sym last)

pub longer_by_one : (all new : List (List Part)) (one : List Part) → new ≡ all ++ one ∷ [] → Longer all new
longer_by_one all new one is = record { more = one ∷ []; is = is }

-- one more part before those of an environment
pub before_others : (rest : List Part) (part : Part) (left around : List Part) → left ≡ rest ++ part ∷ [] → rest ++ (part ∷ around) ≡ left ++ around
before_others rest part left around is = sym (append_assoc rest (part ∷ []) around) ∙ ap (λ left. left ++ around) (sym is)
