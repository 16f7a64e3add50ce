-- The image of a kernel takes the same, and is sound if the kernel is.
use Rattle.std.proofs.Common.{ℕ, ◌<◌, List, [], ◌∷◌, ◌++◌, map, length, Option, None}
use Rattle.std.proofs.Common.{option_map, inl, inr, sym, ap, ap₂}
use Rattle.std.proofs.Common.{subst, ◌∙◌}
use Rattle.std.specs.List.{slice_get}
use Rattle.std.proofs.lemmas.Option.{slice_get_within}
use Rattle.cd_sets.specs.declared.node_id.NodeId.{NodeId}
use Rattle.cd_syntax.specs.Name.{Name}
use Rattle.cd_model.specs.AllOf.{AllOf}
use Rattle.cd_model.proofs.ByNumber.{all_got, each_got}
use Rattle.cd_matching.specs.Captures.{Captures}
use Rattle.cd_matching.specs.Kernel.{Kernel, KernelNode, Test, Bind, Put, Pair, Xml, Record, Both}
use Rattle.cd_matching.specs.Kernel.{First, Gather, leads_to, parts_of, field_nodes, Binds}
use Rattle.cd_matching.specs.Kernel.{BindDisjoint, IsSoundNode, IsSound, by_name, taken}
use Rattle.cd_matching.specs.Pattern.{Pattern}
use Rattle.cd_matching.proofs.AllOf.{all_map}
use Rattle.cd_matching.proofs.Falling.{is_there}
use Rattle.cd_kernel.specs.Making.{TakesAlike}
use Rattle.cd_merged.specs.Merged.{renamed, AreImages, IsImage}
use Rattle.cd_merged.specs.Inner.Classes.{IsMerged}
use Rattle.cd_merged.proofs.FallingEnds.{falling_ends}
use Rattle.cd_merged.proofs.ImagesBind.{image_at, of_image, image_binds, image_bound}
use Rattle.cd_merged.proofs.ImagesBind.{images_disjoint}
use Rattle.cd_merged.proofs.ImagesTake.{images_take}
use Rattle.cd_merged.proofs.Renaming.{names, fields_named, types_kept, labels_kept}

module _ {T : Type 0} (class : ℕ → ℕ) (nodes merged : List (KernelNode T))
    (are : AreImages class nodes merged) where
  within : (number : ℕ) → number < length nodes → class number < length merged
  within number less = let node = is_there nodes number less in
      slice_get_within merged (class number) (renamed class node.0)
      (image_at class nodes merged are number node.0 node.1)

  -- what nodes are is what their images are
  of_images : (IsOne IsOther : KernelNode T → Type 0)
      → ((node : KernelNode T) → IsOne node → IsOther (renamed class node))
      → AllOf IsOne nodes → AllOf IsOther merged
  of_images IsOne IsOther leads all = each_got IsOther merged (λ number node there.
      let of = are.each number (slice_get_within merged number node there) in
      let is = of_image class nodes merged are of.0 node
      (ap (slice_get merged) of.2 ∙ there) in
      subst IsOther is.2 (leads is.0 (all_got IsOne nodes of.0 is.0 all is.1)))

  image_parts : (node : KernelNode T)
      → AllOf (λ number. number < length nodes) (leads_to node ++ parts_of node)
      → AllOf (λ number. number < length merged)
      (leads_to (renamed class node) ++ parts_of (renamed class node))
  image_parts node all = subst (AllOf (λ number. number < length merged)) (sym (names class node))
      (all_map (λ number. number < length nodes) (λ number. number < length merged) class within
      (leads_to node ++ parts_of node) all)

  module _ (variables : ℕ) (IsType : T → Type 0) where
    disjoint : (numbers : List ℕ) → BindDisjoint nodes numbers
        → BindDisjoint merged (map class numbers)
    disjoint = images_disjoint class nodes merged are

    binds : (variable number : ℕ) → Binds nodes variable number
        → Binds merged variable (class number)
    binds = image_binds class nodes merged are

    bound : (variable number : ℕ) → Binds merged variable (class number)
        → Binds nodes variable number
    bound = image_bound class nodes merged are

    image_is_sound : (node : KernelNode T) → IsSoundNode nodes variables IsType node
        → IsSoundNode merged variables IsType (renamed class node)
    image_is_sound (Test type) is = is
    image_is_sound (Bind variable) is = is
    image_is_sound (Put variable constant) is = is
    image_is_sound (Pair first second) is = disjoint (first ∷ second ∷ []) is
    image_is_sound (Xml tag attributes content) is =
        disjoint (tag ∷ attributes ∷ content ∷ []) is
    image_is_sound (Record fields more) is = (
      labels_kept class None fields is.0,
      subst (BindDisjoint merged) (sym (fields_named class fields))
          (disjoint (field_nodes fields) is.1),
      subst (AllOf IsType) (sym (types_kept class fields)) is.2,
    )
    image_is_sound (Both first second) is = disjoint (first ∷ second ∷ []) is
    image_is_sound (First first second) is = λ variable. (
      λ one. binds variable second ((is variable).0 (bound variable first one)),
      λ other. binds variable first ((is variable).1 (bound variable second other)),
    )
    image_is_sound (Gather variable first second) is = (
      is.0,
      disjoint (first ∷ second ∷ []) is.1,
      λ one. is.2 (bound variable first one),
      binds variable second is.3,
    )

module _ {T : Type 0} (class : ℕ → ℕ) (kernel merged : Kernel T)
    (is : IsImage class kernel merged) where
  pub image_sound : (IsType : T → Type 0) → IsSound IsType kernel → IsSound IsType merged
  image_sound IsType sound = record {
    root = subst (λ number. number < length merged.nodes) (sym is.root)
        (within class kernel.nodes merged.nodes is.nodes kernel.root sound.root);
    parts = of_images class kernel.nodes merged.nodes is.nodes
        (λ node. AllOf (λ number. number < length kernel.nodes) (leads_to node ++ parts_of node))
        (λ node. AllOf (λ number. number < length merged.nodes) (leads_to node ++ parts_of node))
        (image_parts class kernel.nodes merged.nodes is.nodes) sound.parts;
    nodes = subst (λ (variables : List Name).
        AllOf (IsSoundNode merged.nodes (length variables) IsType) merged.nodes) (sym is.variables)
        (of_images class kernel.nodes merged.nodes is.nodes
        (IsSoundNode kernel.nodes (length kernel.variables) IsType)
        (IsSoundNode merged.nodes (length kernel.variables) IsType)
        (image_is_sound class kernel.nodes merged.nodes is.nodes (length kernel.variables) IsType)
        sound.nodes);
    ends = falling_ends merged.nodes is.nodes.merged_falling;
    binds = λ variable less. subst (Binds merged.nodes variable) (sym is.root)
        (image_binds class kernel.nodes merged.nodes is.nodes variable kernel.root
        (sound.binds variable
        (subst (λ (variables : List Name). variable < length variables) is.variables less)));
  }

pub image_takes : (p : Pattern NodeId) (class : ℕ → ℕ) (kernel merged : Kernel NodeId)
    → IsImage class kernel merged → TakesAlike p kernel → TakesAlike p merged
image_takes p class kernel merged is takes = λ test nil any empty d.
    ap₂ (λ (variables : List Name) (all : Option (Captures ℕ)). option_map (by_name variables) all)
    is.variables
    (ap (taken NodeId test merged.nodes d) is.root
    ∙ images_take test class kernel.nodes merged.nodes is.nodes d kernel.root)
    ∙ takes test nil any empty d

-- the same of a merged kernel
pub merged_takes : (p : Pattern NodeId) (kernel merged : Kernel NodeId) → IsMerged kernel merged
    → TakesAlike p kernel → TakesAlike p merged
merged_takes p kernel merged (inl same) takes = subst (TakesAlike p) (sym same) takes
merged_takes p kernel merged (inr image) takes =
    image_takes p image.0 kernel merged image.1 takes

pub merged_sound : {T : Type 0} (IsType : T → Type 0) (kernel merged : Kernel T)
    → IsMerged kernel merged → IsSound IsType kernel → IsSound IsType merged
merged_sound IsType kernel merged (inl same) sound = subst (IsSound IsType) (sym same) sound
merged_sound IsType kernel merged (inr image) sound =
    image_sound image.0 kernel merged image.1 IsType sound
