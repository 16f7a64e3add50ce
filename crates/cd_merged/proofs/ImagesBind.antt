-- Images bind the same variables.
use Rattle.std.proofs.Common.{◌≡◌, ℕ, List, [], ◌∷◌, ◌++◌, map, Some, option_map, refl, sym, ap}
use Rattle.std.proofs.Common.{subst, ◌∙◌}
use Rattle.std.specs.List.{slice_get}
use Rattle.cd_model.specs.AllOf.{AnyOf}
use Rattle.cd_model.proofs.Ones.{one_of_map, one_weaker, one_picked}
use Rattle.cd_matching.specs.Kernel.{KernelNode, leads_to, parts_of, variables_of, Binds, itself}
use Rattle.cd_matching.specs.Kernel.{further, BindDisjoint}
use Rattle.cd_matching.proofs.AllOf.{all_map}
use Rattle.cd_matching.proofs.TakenCaptures.{option_map_some}
use Rattle.cd_merged.specs.Merged.{renamed, AreImages}
use Rattle.cd_merged.proofs.Renaming.{names, variables_kept}

module _ {T : Type 0} (class : ℕ → ℕ) (nodes merged : List (KernelNode T))
    (are : AreImages class nodes merged) where
  pub image_at : (number : ℕ) (node : KernelNode T) → slice_get nodes number ≡ Some node
      → slice_get merged (class number) ≡ Some (renamed class node)
  image_at number node there = are.images number ∙ ap (option_map (renamed class)) there

  -- what has an image
  pub of_image : (number : ℕ) (node : KernelNode T) → slice_get merged (class number) ≡ Some node
      → (of : KernelNode T) × (slice_get nodes number ≡ Some of) × (renamed class of ≡ node)
  of_image number node there = option_map_some (renamed class) (slice_get nodes number) node
      (sym (are.images number) ∙ there)

  pub image_binds : (variable number : ℕ) → Binds nodes variable number
      → Binds merged variable (class number)
  image_binds variable number (itself _ node there any) =
      itself (class number) (renamed class node) (image_at number node there)
      (subst (AnyOf (λ other. other ≡ variable)) (sym (variables_kept class node)) any)
  image_binds variable number (further _ next node there among binds) =
      further (class number) (class next) (renamed class node) (image_at number node there)
      (subst (AnyOf (λ other. other ≡ class next)) (sym (names class node))
      (one_of_map class (λ other. other ≡ class next) (leads_to node ++ parts_of node)
      (one_weaker (λ other. other ≡ next) (λ other. class other ≡ class next)
      (λ other same. ap class same) (leads_to node ++ parts_of node) among)))
      (image_binds variable next binds)

  of_binds : (variable at : ℕ) → Binds merged variable at → (number : ℕ) → class number ≡ at
      → Binds nodes variable number
  of_binds variable at (itself _ node there any) number same =
      let of = of_image number node (ap (slice_get merged) same ∙ there) in
      itself number of.0 of.1
      (subst (AnyOf (λ other. other ≡ variable)) (variables_kept class of.0)
      (subst (λ (n : KernelNode T). AnyOf (λ other. other ≡ variable) (variables_of n)) (sym of.2)
      any))
  of_binds variable at (further _ next node there among binds) number same =
      let of = of_image number node (ap (slice_get merged) same ∙ there) in
      let one = one_picked class (λ other. other ≡ next) (leads_to of.0 ++ parts_of of.0)
      (subst (AnyOf (λ other. other ≡ next)) (names class of.0)
      (subst (λ (n : KernelNode T). AnyOf (λ other. other ≡ next) (leads_to n ++ parts_of n))
      (sym of.2) among)) in
      further number one.0 of.0 of.1 one.1 (of_binds variable next binds one.0 one.2)

  pub image_bound : (variable number : ℕ) → Binds merged variable (class number)
      → Binds nodes variable number
  image_bound variable number binds = of_binds variable (class number) binds number refl

  pub images_disjoint : (numbers : List ℕ) → BindDisjoint nodes numbers
      → BindDisjoint merged (map class numbers)
  images_disjoint [] disjoint = disjoint
  images_disjoint (number ∷ rest) disjoint = (
    λ variable binds. all_map (λ other. Binds nodes variable other → ⊥)
        (λ other. Binds merged variable other → ⊥) class
        (λ other apart bound. apart (image_bound variable other bound)) rest
        (disjoint.0 variable (image_bound variable number binds)),
    images_disjoint rest disjoint.1,
  )
