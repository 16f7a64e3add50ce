-- Nodes that stand for the nodes that are made are as exact as these.
use Rattle.std.proofs.Common.{◌≡◌, ◌<◌, ℕ, zero, suc, List, [], ◌∷◌, length, Some, refl}
use Rattle.std.proofs.Common.{sym, ap, ◌∙◌, subst, get_or, arith}
use Rattle.std.proofs.lemmas.Option.{none-some, same_Some}
use Rattle.std.specs.List.{slice_get, slice_set}
use Rattle.cd_sets.specs.declared.node_id.NodeId.{NodeId}
use Rattle.cd_syntax.specs.Name.{Name}
use Rattle.cd_model.specs.AllOf.{AllOf}
use Rattle.cd_model.specs.Formula.{Graph}
use Rattle.cd_model.proofs.BothWays.{itself, through, turned}
use Rattle.cd_matching.specs.Kernel.{Kernel, IsSound}
use Rattle.cd_products.specs.Keeping.{HoldSame}
use Rattle.cd_filter.proofs.CapturedSound.{values_captured}
use Rattle.cd_explored.specs.Captures.{AreExactCaptures, AreWideCaptures}
use Rattle.cd_captured.specs.Inner.Known.{AreSame, StandFor, ids_of, names_of}

-- what is found at a place
pub got_item : {X : Type 0} (xs : List X) (k : ℕ) (x : X) → k < length xs
    → ((d : X) → x ≡ get_or xs k d) → slice_get xs k ≡ Some x
got_item [] k x below is = absurd (omega (arith, below))
got_item (y ∷ xs) zero x below is = ap Some (sym (is y))
got_item (y ∷ xs) (suc k) x below is = got_item xs k x (omega (arith, below)) is

module _ (graph : Graph) where
  same_itself : (id : NodeId) → HoldSame graph id id
  same_itself id = record {
    elements = λ e sort. itself;
    values = λ more interfaces v sound of sort. itself;
  }

  same_further : (one two three : NodeId) → HoldSame graph one two → HoldSame graph two three
      → HoldSame graph one three
  same_further one two three first second = record {
    elements = λ e sort. through (first.elements e sort) (second.elements e sort);
    values = λ more interfaces v sound of sort.
        through (first.values more interfaces v sound of sort)
        (second.values more interfaces v sound of sort);
  }

  all_themselves : (ids : List NodeId) → AreSame graph ids ids
  all_themselves [] = tt
  all_themselves (id ∷ ids) = (same_itself id, all_themselves ids)

  pub stand_for_themselves : (all : List (Name × NodeId))
      → AllOf (λ one. one.1.0 < length graph) all → StandFor graph all all
  stand_for_themselves all below =
      record { names = refl; same = all_themselves (ids_of all); nodes = below }

  -- one of the others is put in another's place
  module _ (name : Name) (one other : NodeId) (same : HoldSame graph one other)
      (below : other.0 < length graph) where
    same_set : (first all : List (Name × NodeId)) (k : ℕ)
        → slice_get all k ≡ Some (name, one) → AreSame graph (ids_of first) (ids_of all)
        → AreSame graph (ids_of first) (ids_of (slice_set all k (name, other)))
    same_set [] [] k there are = tt
    same_set [] (y ∷ all) k there are = absurd are
    same_set (x ∷ first) [] k there are = absurd are
    same_set (x ∷ first) (y ∷ all) zero there are = (
      same_further x.1 one other
          (subst (HoldSame graph x.1) (λ i. (same_Some y (name, one) there i).1) are.0) same,
      are.1,
    )
    same_set (x ∷ first) (y ∷ all) (suc k) there are =
        (are.0, same_set first all k there are.1)

    names_set : (all : List (Name × NodeId)) (k : ℕ) → slice_get all k ≡ Some (name, one)
        → names_of (slice_set all k (name, other)) ≡ names_of all
    names_set [] k there = refl
    names_set (y ∷ all) zero there =
        ap (λ (n : Name). n ∷ names_of all) (λ i. (sym (same_Some y (name, one) there) i).0)
    names_set (y ∷ all) (suc k) there = ap (λ ns. y.0 ∷ ns) (names_set all k there)

    below_set : (all : List (Name × NodeId)) (k : ℕ)
        → AllOf (λ one. one.1.0 < length graph) all
        → AllOf (λ one. one.1.0 < length graph) (slice_set all k (name, other))
    below_set [] k are = tt
    below_set (y ∷ all) zero are = (below, are.1)
    below_set (y ∷ all) (suc k) are = (are.0, below_set all k are.1)

    stand_for_set : (first all : List (Name × NodeId)) (k : ℕ)
        → slice_get all k ≡ Some (name, one) → StandFor graph first all
        → StandFor graph first (slice_set all k (name, other))
    stand_for_set first all k there stand = record {
      names = names_set all k there ∙ stand.names;
      same = same_set first all k there stand.same;
      nodes = below_set all k stand.nodes;
    }

  pub put_in : (old new : Name × NodeId) → new.0 ≡ old.0 → HoldSame graph old.1 new.1
      → new.1.0 < length graph → (first all : List (Name × NodeId)) (k : ℕ)
      → slice_get all k ≡ Some old → StandFor graph first all
      → StandFor graph first (slice_set all k new)
  put_in old new named same below first all k there stand =
      subst (λ (n : Name). StandFor graph first (slice_set all k (n, new.1))) (sym named)
      (stand_for_set old.0 old.1 new.1 same below first all k there stand)

  -- the node at a place holds the same as that of the other list
  found : (ids others : List NodeId) → AreSame graph ids others → (k : ℕ) (id : NodeId)
      → slice_get others k ≡ Some id
      → (one : NodeId) × (slice_get ids k ≡ Some one) × HoldSame graph one id
  found [] [] same k id there = absurd (none-some id there)
  found [] (other ∷ others) same k id there = absurd same
  found (one ∷ ids) [] same k id there = absurd same
  found (one ∷ ids) (other ∷ others) same zero id there =
      (one, refl, subst (HoldSame graph one) (same_Some other id there) same.0)
  found (one ∷ ids) (other ∷ others) same (suc k) id there = found ids others same.1 k id there

  module _ (matched : NodeId) (kernel : Kernel NodeId) (first : ℕ)
      (sound : IsSound (λ id. id.0 < first) kernel) (ids others : List NodeId)
      (same : AreSame graph ids others) where
    pub exact_too : AreExactCaptures graph matched kernel ids
        → AreExactCaptures graph matched kernel others
    exact_too exact variable id there test what right sort =
        let (one, at, alike) = found ids others same variable id there in
        through (turned (alike.elements what sort)) (exact variable one at test what right sort)

    pub wide_too : AreWideCaptures graph matched kernel ids
        → AreWideCaptures graph matched kernel others
    wide_too wide more interfaces test variable id still of_graph right there v what captures sort
        inside takes has =
        let (one, at, alike) = found ids others same variable id there in
        (alike.values more interfaces what still of_graph
        (values_captured NodeId test kernel.nodes (length kernel.variables) (λ id. id.0 < first)
        sound.nodes variable v sort kernel.root captures what takes has)).0
        (wide more interfaces test variable one still of_graph right at v what captures sort inside
        takes has)
