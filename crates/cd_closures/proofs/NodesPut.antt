-- Nodes that are put after those of a graph, and old nodes in the longer one.
use Rattle.std.proofs.Common.{◌≡◌, ◌≤◌, ◌<◌, ◌+◌, ◌++◌, ◌∙◌, ℕ, zero, suc, List, [], ◌∷◌, Result, Ok, Err, OnOk, length, map, take, get_or, refl, sym, ap, subst, arith}
use Rattle.std.proofs.lemmas.List.{take_more, map-append}
use Rattle.std.specs.Result.{IfOk}
use Rattle.std.specs.declared.alloc.AllocError.{AllocError}
use Rattle.cd_sets.specs.declared.node_id.NodeId.{NodeId}
use Rattle.cd_model.specs.AllOf.{AllOf}
use Rattle.cd_model.specs.BuiltIns.{node}
use Rattle.cd_model.specs.Formula.{Graph, Formula, IsFormula, formula_at}
use Rattle.cd_model.proofs.Covered.{each_both}
use Rattle.cd_model.proofs.Ones.{each_weaker}
use Rattle.cd_model.proofs.FormulasAmongMore.{formula_among_more}
use Rattle.cd_empty.specs.Growth.{Grows}
use Rattle.cd_empty.specs.Seen.{Seen, graph_of}
use Rattle.cd_closures.specs.Inner.Asked.{IsAsked, IsBelow}
use Rattle.cd_closures.specs.declared.arrow.NodeArrow.{NodeArrow}
use Rattle.cd_closures.specs.declared.asked.Asked.{Asked}

last_is : (graph : Graph) (f : Formula) → formula_at (graph ++ f ∷ []) (node (length graph)) ≡ f
last_is [] f = refl
last_is (g ∷ graph) f = last_is graph f

-- one formula, which is over the nodes of the graph
module _ (graph : Graph) (f : Formula) (batch : List Formula) (alone : batch ≡ f ∷ []) where
  pub one_is_sound : IsFormula (length graph) f → AllOf (IsFormula (length graph + length batch)) batch
  one_is_sound is = subst (λ (all : List Formula). AllOf (IsFormula (length graph + length all)) all) (sym alone)
      (formula_among_more (length graph) (length graph + 1) (omega arith) f is, tt)

  one_is : (longer : Graph) → longer ≡ graph ++ batch → (id : NodeId) → id.0 ≡ length graph → formula_at longer id ≡ f
  one_is longer added id number = ap (λ g. formula_at g id) (added ∙ ap (λ all. graph ++ all) alone)
      ∙ ap (λ n. formula_at (graph ++ f ∷ []) (node n)) number ∙ last_is graph f

  -- where the call that puts it in has ended well
  pub one_is_if : (longer : Graph) (result : Result NodeId AllocError) → IfOk result (λ id. id.0 ≡ length graph)
      → OnOk result (longer ≡ graph ++ batch) → IfOk result (λ id. formula_at longer id ≡ f)
  one_is_if longer (Ok id) number added = one_is longer added id number
  one_is_if longer (Err error) number added = tt

-- old nodes
pub old_formula : (graph more : Graph) (n : ℕ) → n < length graph → formula_at (graph ++ more) (node n) ≡ formula_at graph (node n)
old_formula [] more n below = absurd (omega (arith, below))
old_formula (f ∷ graph) more zero below = refl
old_formula (f ∷ graph) more (suc n) below = old_formula graph more n (omega arith)

pub longer_is : (graph more : Graph) → length graph ≤ length (graph ++ more)
longer_is [] more = omega arith
longer_is (f ∷ graph) more = let rest : _ = longer_is graph more in omega arith

module _ (old new : Seen) (grows : Grows old new) where
  pub no_shorter : length (graph_of old) ≤ length (graph_of new)
  no_shorter = subst (λ (g : Graph). length (graph_of old) ≤ length g) (sym grows.graph.1) (longer_is (graph_of old) grows.graph.0)

  pub still_below : (count : ℕ) → count < length (graph_of old) → count < length (graph_of new)
  still_below count below = let most : length (graph_of old) ≤ length (graph_of new) = no_shorter in omega (arith, most, below)

  pub still_asked : (asked : List Asked) → AllOf (IsAsked (graph_of old)) asked → AllOf (IsAsked (graph_of new)) asked
  still_asked asked are = each_weaker (IsAsked (graph_of old)) (IsAsked (graph_of new)) (λ one is. record {
    is_node = still_below one.node.0 is.is_node;
    formula = ap (λ g. formula_at g one.node) grows.graph.1
        ∙ old_formula (graph_of old) grows.graph.0 one.node.0 is.is_node ∙ is.formula;
  }) asked are

  pub arrows_below : (arrows : List NodeArrow) → AllOf (IsBelow (length (graph_of old))) arrows → AllOf (IsBelow (length (graph_of new))) arrows
  arrows_below arrows are = each_weaker (IsBelow (length (graph_of old))) (IsBelow (length (graph_of new)))
      (λ one is. (still_below one.argument.0 is.0, still_below one.result.0 is.1)) arrows are

-- one more of the arrows has a node
module _ (arrows : List NodeArrow) (i : ℕ) (below : i < length arrows) (one : Asked) (arrow : NodeArrow) (is : one.arrow ≡ get_or arrows i arrow) where
  pub one_more_arrow : (some more : List Asked) → more ≡ some ++ one ∷ [] → map (λ one. one.arrow) some ≡ take i arrows
      → map (λ one. one.arrow) more ≡ take (i + 1) arrows
  one_more_arrow some more pushed so_far = ap (map (λ one. one.arrow)) pushed ∙ map-append (λ one. one.arrow) some (one ∷ [])
      ∙ ap (λ all. all ++ one.arrow ∷ []) so_far ∙ ap (λ next. take i arrows ++ next ∷ []) is ∙ sym (take_more arrows i arrow below)

pub one_more_asked : (graph : Graph) (one : Asked) → IsAsked graph one → (some more : List Asked) → more ≡ some ++ one ∷ []
    → AllOf (IsAsked graph) some → AllOf (IsAsked graph) more
one_more_asked graph one is some more pushed are = subst (AllOf (IsAsked graph)) (sym pushed) (each_both (IsAsked graph) some (one ∷ []) are (is, tt))
