-- Things in a row: tuples, and sequences that are followed by a thing.
use Rattle.std.proofs.Common.{◌≡◌, ◌≤◌, ◌<◌, ◌+◌, ◌-◌, ◌++◌, ℕ, map, List, [], ◌∷◌, refl, sym, ap}
use Rattle.std.proofs.Common.{subst, ◌∙◌, length, take, get_or, arith}
use Rattle.std.proofs.Math.Seq.{take-length}
use Rattle.std.proofs.lemmas.List.{take_more, map-append}
use Rattle.cd_sets.specs.declared.node_id.NodeId.{NodeId}
use Rattle.cd_model.specs.AllOf.{AllOf}
use Rattle.cd_model.specs.Formula.{Graph}
use Rattle.cd_model.specs.Thing.{Thing, Character, Pair, IsElement}
use Rattle.cd_matching.specs.Sequences.{nil, text_of}
use Rattle.cd_meaning.specs.Sets.{◌⊆◌, elements_of}
use Rattle.cd_meaning.specs.Sequences.{followed_by}
use Rattle.cd_typing.specs.Typ.{Typ, typ, In, AreIn}
use Rattle.cd_typing.specs.Results.{IsTupleOf}
use Rattle.cd_forms.specs.Inner.Chains.{AreBefore}

-- the parts of an element are elements
pub parts_are_elements : (ds : List Thing) (last : Thing) → IsElement (followed_by ds last)
    → AllOf IsElement ds × IsElement last
parts_are_elements [] last is = (tt, is)
parts_are_elements (d ∷ ds) last is =
    let rest = parts_are_elements ds last is.1 in ((is.0, rest.0), rest.1)

-- a tuple is its last part, with the others before it
nothing_left : (types : List Typ) (t : Typ) → AreIn (types ++ t ∷ []) [] → ⊥
nothing_left [] t are = are
nothing_left (s ∷ types) t are = are

pub tuple_is_row : (types : List Typ) (t : Typ) (e : Thing) → IsTupleOf (types ++ t ∷ []) e
    → AreBefore types (In t) e
tuple_is_row [] t e (first, [], are, same) = ([], first, tt, are.0, are.1, same)
tuple_is_row [] t e (first, d ∷ ds, are, same) = absurd are.2
tuple_is_row (s ∷ types) t e (first, [], are, same) = absurd (nothing_left types t are.2)
tuple_is_row (s ∷ types) t e (first, d ∷ ds, are, same) =
    let rest = tuple_is_row types t _ (d, ds, are.2, refl) in (
      first ∷ rest.0,
      rest.1,
      (are.0, are.1, rest.2),
      rest.3,
      rest.4,
      same ∙ ap (Pair first) rest.5,
    )

row_is_tuple : (types : List Typ) (t : Typ) (ds : List Thing) (end : Thing) → AreIn types ds
    → IsElement end → In t end → IsTupleOf (types ++ t ∷ []) (followed_by ds end)
row_is_tuple [] t [] end are element there = (end, [], (element, there, tt), refl)
row_is_tuple [] t (d ∷ ds) end are element there = absurd are
row_is_tuple (s ∷ types) t [] end are element there = absurd are
row_is_tuple (s ∷ types) t (d ∷ ds) end are element there =
    let rest = row_is_tuple types t ds end are.2 element there in
    (d, rest.0 ∷ rest.1, (are.0, are.1, rest.2), ap (Pair d) rest.3)

pub row_makes_tuple : (types : List Typ) (t : Typ) (e : Thing) → AreBefore types (In t) e
    → IsTupleOf (types ++ t ∷ []) e
row_makes_tuple types t e (ds, end, are, element, there, same) =
    subst (IsTupleOf (types ++ t ∷ [])) (sym same) (row_is_tuple types t ds end are element there)

-- a text is its characters, followed by `nil`
pub text_followed : (text : List ℕ) → followed_by (map Character text) nil ≡ text_of text
text_followed [] = refl
text_followed (c ∷ text) = ap (Pair (Character c)) (text_followed text)

-- as code finds it: all parts but the last, and the last
pub front_and_last : {X : Type 0} (xs : List X) (x : X) → 1 ≤ length xs
    → take (length xs - 1) xs ++ get_or xs (length xs - 1) x ∷ [] ≡ xs
front_and_last xs x some =
    let last : length xs - 1 < length xs = omega (arith, some) in
    let all : length xs - 1 + 1 ≡ length xs = omega (arith, some) in
    sym (take_more xs (length xs - 1) x last) ∙ ap (λ n. take n xs) all ∙ take-length xs

module _ (graph : Graph) (parts heads : List NodeId) (last : NodeId)
    (is : heads ++ last ∷ [] ≡ parts) where
  types_are : map (typ graph) heads ++ typ graph last ∷ [] ≡ map (typ graph) parts
  types_are = sym (map-append (typ graph) heads (last ∷ [])) ∙ ap (map (typ graph)) is

  pub tuples_are_rows : IsTupleOf (map (typ graph) parts)
      ⊆ AreBefore (map (typ graph) heads) (elements_of graph last)
  tuples_are_rows e element tuple = tuple_is_row (map (typ graph) heads) (typ graph last) e
      (subst (λ (types : List Typ). IsTupleOf types e) (sym types_are) tuple)

  pub rows_are_tuples : AreBefore (map (typ graph) heads) (elements_of graph last)
      ⊆ IsTupleOf (map (typ graph) parts)
  rows_are_tuples e element row = subst (λ (types : List Typ). IsTupleOf types e) types_are
      (row_makes_tuple (map (typ graph) heads) (typ graph last) e row)
