-- Nodes that are tested to be classes have images: the first nodes of the classes.
use Rattle.std.proofs.Common.{◌≡◌, ℕ, zero, suc, ◌<◌, ◌≤◌, List, [], ◌∷◌, map, length, Option, Some}
use Rattle.std.proofs.Common.{None, option_map, refl, sym, ap, ap₂, subst, ◌∙◌, arith}
use Rattle.std.specs.List.{slice_get}
use Rattle.std.specs.Option.{unwrap_or}
use Rattle.std.proofs.lemmas.List.{length-map}
use Rattle.std.proofs.lemmas.Option.{slice_get-map, slice_get_within, slice_get_past, same_Some}
use Rattle.cd_model.proofs.ByNumber.{past_end}
use Rattle.cd_matching.specs.Kernel.{KernelNode}
use Rattle.cd_matching.proofs.Falling.{is_there}
use Rattle.cd_merged.specs.Merged.{renamed, IsFalling, AreImages}
use Rattle.cd_merged.specs.Inner.Classes.{class_of, with_node, nodes_at, AreClasses}

-- there are no more nodes at some numbers than numbers, and as many where all name nodes
module _ {X : Type 0} (nodes : List X) where
  pub no_more : (numbers : List ℕ) → length (nodes_at nodes numbers) ≤ length numbers
  no_more [] = omega arith
  no_more (number ∷ numbers) = by_node (slice_get nodes number) (no_more numbers)
    where
      by_node : (node : Option X) → length (nodes_at nodes numbers) ≤ length numbers
          → length (with_node node (nodes_at nodes numbers)) ≤ suc (length numbers)
      by_node None fewer = omega (arith, fewer)
      by_node (Some node) fewer = omega (arith, fewer)

  pub node_at : (numbers : List ℕ)
      → ((place number : ℕ) → slice_get numbers place ≡ Some number → number < length nodes)
      → (place number : ℕ) → slice_get numbers place ≡ Some number
      → slice_get (nodes_at nodes numbers) place ≡ slice_get nodes number
  node_at [] within place number there = absurd cc
  node_at (first ∷ numbers) within place number there =
      let node = is_there nodes first (within zero first refl) in
      ap (λ (found : Option X). slice_get (with_node found (nodes_at nodes numbers)) place) node.1
      ∙ by_place node.0 node.1 place there (node_at numbers (λ later. within (suc later)))
    where
      by_place : (node : X) → slice_get nodes first ≡ Some node → (place : ℕ)
          → slice_get (first ∷ numbers) place ≡ Some number
          → ((place number : ℕ) → slice_get numbers place ≡ Some number
          → slice_get (nodes_at nodes numbers) place ≡ slice_get nodes number)
          → slice_get (node ∷ nodes_at nodes numbers) place ≡ slice_get nodes number
      by_place node found zero is later =
          sym found ∙ ap (slice_get nodes) (same_Some first number is)
      by_place node found (suc place) is later = later place number is

-- what is made of nodes at some numbers is at these in what is made of all
pub made_at : {X Y : Type 0} (f : X → Y) (nodes : List X) (numbers : List ℕ)
    → map f (nodes_at nodes numbers) ≡ nodes_at (map f nodes) numbers
made_at f nodes [] = refl
made_at f nodes (number ∷ numbers) =
    by_node (slice_get nodes number)
    ∙ ap₂ with_node (sym (slice_get-map f nodes number)) (made_at f nodes numbers)
  where
    by_node : (node : Option _) → map f (with_node node (nodes_at nodes numbers))
        ≡ with_node (option_map f node) (map f (nodes_at nodes numbers))
    by_node None = refl
    by_node (Some node) = refl

module _ {T : Type 0} (nodes : List (KernelNode T)) (numbers firsts : List ℕ)
    (are : AreClasses nodes numbers firsts) where
  abbrev class : ℕ → ℕ
  class = class_of numbers

  abbrev images : List (KernelNode T)
  images = map (renamed class) (nodes_at nodes firsts)

  first_within : (place first : ℕ) → slice_get firsts place ≡ Some first → first < length nodes
  first_within place first there =
      let has = are.firsts_are place (slice_get_within firsts place first there) in
      subst (λ number. number < length nodes) (same_Some has.0 first (sym has.1 ∙ there)) has.3

  image_of : (number : ℕ) (node : Option (KernelNode T)) → slice_get nodes number ≡ node
      → slice_get images (class number) ≡ option_map (renamed class) (slice_get nodes number)
  image_of number None there =
      let past : length nodes ≤ number = past_end nodes number there in
      let numbered : length numbers ≡ length nodes = are.numbered in
      let fewer : length firsts ≤ length nodes = are.fewer in
      let none : slice_get numbers number ≡ None =
      slice_get_past numbers number (omega (arith, past, numbered)) in
      let less : length (nodes_at nodes firsts) ≤ length firsts = no_more nodes firsts in
      let many : length images ≡ length (nodes_at nodes firsts) =
      length-map (nodes_at nodes firsts) (renamed class) in
      ap (λ (found : Option ℕ). slice_get images (unwrap_or found (length numbers))) none
      ∙ slice_get_past images (length numbers) (omega (arith, less, many, numbered, fewer))
      ∙ sym (ap (option_map (renamed class)) there)
  image_of number (Some node) there =
      let first = are.nodes_are number (slice_get_within nodes number node there) in
      slice_get-map (renamed class) (nodes_at nodes firsts) (class number)
      ∙ ap (option_map (renamed class))
      (node_at nodes firsts first_within (class number) first.0 first.1)
      ∙ sym first.2

  pub found_images : IsFalling nodes → IsFalling images → AreImages class nodes images
  found_images falling merged_falling = record {
    images = λ number. image_of number (slice_get nodes number) refl;
    each = λ number less.
        let more : length (nodes_at nodes firsts) ≤ length firsts = no_more nodes firsts in
        let many : length images ≡ length (nodes_at nodes firsts) =
        length-map (nodes_at nodes firsts) (renamed class) in
        let has = are.firsts_are number (omega (arith, less, more, many)) in
        (has.0, has.3, has.2);
    falling = falling;
    merged_falling = merged_falling;
  }
