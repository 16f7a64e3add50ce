-- Formulas that are made of shared equations hold what those of the equations hold.
use Rattle.std.proofs.Common.{◌≡◌, ℕ, ◌+◌, ◌<◌, ◌≤◌, inl, inr, List, ◌++◌, map, length, refl, sym, ap, subst}
use Rattle.std.proofs.Common.{◌∙◌, arith}
use Rattle.std.specs.Option.{option_map}
use Rattle.std.proofs.lemmas.List.{length-map}
use Rattle.cd_sets.specs.declared.node_id.NodeId.{NodeId}
use Rattle.cd_model.specs.AllOf.{AllOf}
use Rattle.cd_model.specs.Formula.{Graph, Formula, IsFormula, IsGraph, formula_at}
use Rattle.cd_shared.specs.Equation.{Equation, Equations}
use Rattle.cd_shared.specs.Shared.{renamed_formula, renamed_equation, AreRenamed, AreShared, IsImage}
use Rattle.cd_shared.proofs.Images.{image_after, image_itself}
use Rattle.cd_shared.proofs.Renaming.{at_same}
use Rattle.cd_resolve.specs.Inner.Links.{links}
use Rattle.cd_resolve.specs.Inner.Order.{Ends, IsOrder}
use Rattle.cd_resolve.specs.Inner.Solves.{AreEquations, AgreesWith, Solves, IsSolution}
use Rattle.cd_resolve.specs.Inner.Filling.{at_once, left, filled, AreFilled}
use Rattle.cd_resolve.proofs.SharedEquations.{renamed_all, links_renamed, done_renamed, sound_renamed}
use Rattle.cd_resolve.proofs.SharedNodes.{class_alike}
use Rattle.cd_resolve.proofs.Solved.{IsSolved, is_solved}

module _ (class : NodeId → NodeId) (first : ℕ) (equations shared : Equations)
    (are : AreShared class first equations shared) where
  -- shared equations are sound where the equations are, and lead where these do
  pub shared_sound : (nodes : ℕ) → AreEquations nodes first equations
      → AreEquations nodes first shared
  shared_sound nodes sound = by_case are
    where
      by_case : AreShared class first equations shared → AreEquations nodes first shared
      by_case (inl renamed) = subst (AreEquations nodes first) (sym renamed.renamed)
          (sound_renamed class nodes first equations renamed.below sound)
      by_case (inr (own, same)) = subst (AreEquations nodes first) (sym same) sound

  pub shared_links : links first shared ≡ links first equations
  shared_links = by_case are
    where
      by_case : AreShared class first equations shared → links first shared ≡ links first equations
      by_case (inl renamed) = ap (links first) renamed.renamed ∙ links_renamed class first equations
      by_case (inr (own, same)) = ap (links first) same

  pub shared_length : length shared ≡ length equations
  shared_length = by_case are
    where
      by_case : AreShared class first equations shared → length shared ≡ length equations
      by_case (inl renamed) = ap length renamed.renamed
          ∙ length-map equations (option_map (renamed_equation class))
      by_case (inr (own, same)) = ap length same

  module _ (old : Graph) (fits : length old ≤ first) (olds : IsGraph old)
      (sound : AreEquations (length old) first equations)
      (ends : (number : ℕ) → number < length equations → Ends (links first equations) number)
      (batch : List Formula) (filling : AreFilled old first shared batch) where
    -- the formulas in which each node stands by itself
    abbrev ordered : List ℕ
    ordered = filling.0

    abbrev plain_formulas : List Formula
    plain_formulas = filled old first (map left equations) ordered (map at_once equations)

    plain_solved : IsSolved old first equations plain_formulas
    plain_solved = is_solved old first fits equations sound olds plain_formulas (
      ordered,
      subst (λ (rows : List (List ℕ)). IsOrder rows ordered) shared_links filling.1,
      refl,
    )

    image_by : AreShared class first equations shared → (graph : Graph)
        → length graph ≡ first → AgreesWith old graph
        → IsImage class (graph ++ plain_formulas) (graph ++ batch)
    image_by (inl renamed) graph long agrees =
        subst (λ (batch : List Formula). IsImage class (graph ++ plain_formulas) (graph ++ batch))
        (sym (filling.2
        ∙ ap (λ (all : Equations). filled old first (map left all) ordered (map at_once all))
        renamed.renamed
        ∙ done_renamed class old first
        (λ id. at_same class (length old)
        (λ id less. renamed.before id (omega (arith, less, fits))) old id olds)
        equations ordered))
        (image_after class renamed.once graph plain_formulas
        (class_alike class first equations shared renamed (graph ++ plain_formulas)
        (plain_solved.solves graph long agrees) ends))
    image_by (inr (own, same)) graph long agrees =
        subst (λ (batch : List Formula). IsImage class (graph ++ plain_formulas) (graph ++ batch))
        (sym (filling.2
        ∙ ap (λ (all : Equations). filled old first (map left all) ordered (map at_once all)) same))
        (image_itself class (graph ++ plain_formulas) own)

    below_by : AreShared class first equations shared → (id : NodeId)
        → id.0 < first + length equations → (class id).0 < first + length equations
    below_by (inl renamed) id less = renamed.below id less
    below_by (inr (own, same)) id less =
        subst (λ (id : NodeId). id.0 < first + length equations) (sym (own id)) less

    pub is_solution : IsSolution old first equations class batch
    is_solution = record {
      formulas = plain_formulas;
      number = plain_solved.number;
      below = below_by are;
      solves = plain_solved.solves;
      image = image_by are;
    }
