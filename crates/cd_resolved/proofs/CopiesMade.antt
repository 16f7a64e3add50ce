-- A graph is the built-in nodes, and after them the formulas that are copied.
use Rattle.std.proofs.Common.{◌≡◌, ◌<◌, ◌+◌, ◌++◌, ℕ, zero, suc, List, [], ◌∷◌, map, drop, length, get_or, length-append, refl, sym, ap, subst, ◌∙◌}
use Rattle.std.specs.List.{slice_get}
use Rattle.std.specs.Option.{unwrap_or}
use Rattle.std.proofs.lemmas.List.{append_assoc, drop_at, drop_more, map_push}
use Rattle.cd_model.specs.AllOf.{AllOf}
use Rattle.cd_model.specs.BuiltIns.{built_ins, node}
use Rattle.cd_model.specs.Formula.{Graph, Nothing, IsFormula, IsGraph, formula_at}
use Rattle.cd_model.proofs.Covered.{each_parts}
use Rattle.cd_graph.specs.PlainFormula.{plain}
use Rattle.cd_graph.specs.declared.formula.Formula.{Formula as CodeFormula}

at_place : (graph : Graph) (place : ℕ) → get_or graph place Nothing ≡ unwrap_or (slice_get graph place) Nothing
at_place [] place = refl
at_place (first ∷ graph) zero = refl
at_place (first ∷ graph) (suc place) = at_place graph place

next_formula : (graph : Graph) (place : ℕ) → place < length graph
    → drop place graph ≡ formula_at graph (node place) ∷ drop (place + 1) graph
next_formula graph place within =
    drop_more graph place Nothing within ∙ ap (λ f. f ∷ drop (place + 1) graph) (at_place graph place)

-- one more formula is copied
pub copying_goes_on : (graph whole : Graph) (place : ℕ) (old new : List CodeFormula) (one : CodeFormula) → place < length graph
    → new ≡ old ++ one ∷ [] → plain one ≡ formula_at graph (node place) → map plain old ++ drop place graph ≡ whole
    → map plain new ++ drop (place + 1) graph ≡ whole
copying_goes_on graph whole place old new one within added is before =
    ap (λ all. map plain all ++ drop (place + 1) graph) added
    ∙ ap (λ all. all ++ drop (place + 1) graph) (map_push plain old one)
    ∙ append_assoc (map plain old) (plain one ∷ []) (drop (place + 1) graph)
    ∙ ap (λ f. map plain old ++ (f ∷ drop (place + 1) graph)) is
    ∙ ap (λ left. map plain old ++ left) (sym (next_formula graph place within))
    ∙ before

module _ (graph copy formulas more : Graph) (first : ℕ) (begins : graph ≡ built_ins ++ more) (is : copy ≡ built_ins)
    (count : first ≡ length copy) (rest : formulas ≡ drop first graph) where
  those_after : formulas ≡ more
  those_after = rest ∙ ap (drop first) begins
      ∙ drop_at built_ins more first (sym (ap length is) ∙ sym count)

  pub copied : copy ++ formulas ≡ graph
  copied = ap (λ all. all ++ formulas) is ∙ ap (λ all. built_ins ++ all) those_after ∙ sym begins

  pub are_formulas : IsGraph graph → AllOf (IsFormula (length copy + length formulas)) formulas
  are_formulas sound =
      let whole = subst (AllOf (IsFormula (length graph))) (sym copied) sound in
      subst (λ count. AllOf (IsFormula count) formulas) (ap length (sym copied) ∙ length-append copy formulas)
      (each_parts (IsFormula (length graph)) copy formulas whole).1
