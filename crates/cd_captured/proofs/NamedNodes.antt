-- The names of variables, and their nodes from a number on.
use Rattle.std.proofs.Common.{◌≡◌, ◌<◌, ◌≤◌, ◌+◌, ℕ, zero, suc, List, [], ◌∷◌, map, length, Some, refl, ap, ◌∙◌, arith}
use Rattle.std.proofs.lemmas.Option.{none-some, same_Some}
use Rattle.std.specs.List.{slice_get}
use Rattle.cd_sets.specs.declared.node_id.NodeId.{NodeId}
use Rattle.cd_syntax.specs.Name.{Name}
use Rattle.cd_model.specs.AllOf.{AllOf}
use Rattle.cd_model.specs.BuiltIns.{node}
use Rattle.cd_explored.specs.Inner.Plan.{named_from}

abbrev pub ids_from : (first : ℕ) → List Name → List NodeId
ids_from first names = map (λ one. one.1) (named_from first names)

pub names_from : (first : ℕ) (names : List Name) → map (λ one. one.0) (named_from first names) ≡ names
names_from first [] = refl
names_from first (name ∷ names) = ap (λ rest. name ∷ rest) (names_from (first + 1) names)

-- the node of a variable is so many after the first
pub id_from : (first : ℕ) (names : List Name) (variable : ℕ) (id : NodeId)
    → slice_get (ids_from first names) variable ≡ Some id
    → (variable < length names) × (node (first + variable) ≡ id)
id_from first [] variable id is = absurd (none-some id is)
id_from first (name ∷ names) zero id is =
    let here : first + 0 ≡ first = omega arith in
    (omega arith, ap node here ∙ same_Some (node first) id is)
id_from first (name ∷ names) (suc variable) id is =
    let rest = id_from (first + 1) names variable id is in
    let later : first + suc variable ≡ (first + 1) + variable = omega arith in
    (omega (arith, rest.0), ap node later ∙ rest.1)

pub ids_below : (first : ℕ) (names : List Name) (nodes : ℕ) → first + length names ≤ nodes
    → AllOf (λ one. one.1.0 < nodes) (named_from first names)
ids_below first [] nodes within = tt
ids_below first (name ∷ names) nodes within =
    (omega (arith, within), ids_below (first + 1) names nodes (omega (arith, within)))
