-- A chain of Both takes what all of its nodes take, and a chain of First what the first of its nodes
-- does that takes something.
use Rattle.std.proofs.Common.{◌≡◌, ℕ, Bool, List, [], ◌∷◌, ◌++◌, Option, Some, None, refl, sym, ap, ap₂}
use Rattle.std.proofs.Common.{◌∙◌}
use Rattle.cd_syntax.specs.Name.{Name}
use Rattle.cd_model.specs.Thing.{Thing}
use Rattle.cd_matching.specs.Captures.{Captures, nothing, or_else, both, if_so}
use Rattle.cd_matching.specs.Kernel.{KernelNode, Both, First}
use Rattle.cd_kernel.specs.Chains.{IsChain, one_node, two_chains}
use Rattle.cd_kernel.specs.Copies.{Types}
use Rattle.cd_kernel.specs.Making.{IsChainOr}
use Rattle.cd_kernel.proofs.AnyOrder.{both_none}
use Rattle.cd_kernel.proofs.OrElse.{or_else_assoc, or_else_none}
use Rattle.cd_kernel.proofs.StatesTake.{AreRight, takes_named, takes_both, takes_first, takes_test}

nothing_both : {K : Type 0} (a : Option (Captures K)) → both (Some nothing) a ≡ a
nothing_both None = refl
nothing_both (Some c) = refl

both_assoc : {K : Type 0} (a b c : Option (Captures K)) → both (both a b) c ≡ both a (both b c)
both_assoc None b c = refl
both_assoc (Some d) None c = refl
both_assoc (Some d) (Some e) None = refl
both_assoc (Some d) (Some e) (Some f) =
    λ i. Some (λ name. or_else_assoc (d name) (e name) (f name) i)

module _ {T : Type 0} (test : T → Thing → Bool) (types : Types T) (variables : List Name)
    (nodes : List (KernelNode T)) (right : AreRight test types nodes) (d : Thing) where
  abbrev taken_named : ℕ → Option (Captures Name)
  taken_named = takes_named test types variables nodes d

  -- what all of these nodes take, and what the first of them does
  abbrev pub all_take : List ℕ → Option (Captures Name)
  all_take [] = Some nothing
  all_take (number ∷ numbers) = both (taken_named number) (all_take numbers)

  abbrev pub one_takes : List ℕ → Option (Captures Name)
  one_takes [] = None
  one_takes (number ∷ numbers) = or_else (taken_named number) (one_takes numbers)

  all_joined : (front back : List ℕ)
      → both (all_take front) (all_take back) ≡ all_take (front ++ back)
  all_joined [] back = nothing_both (all_take back)
  all_joined (number ∷ front) back =
      both_assoc (taken_named number) (all_take front) (all_take back)
      ∙ ap (both (taken_named number)) (all_joined front back)

  one_joined : (front back : List ℕ)
      → or_else (one_takes front) (one_takes back) ≡ one_takes (front ++ back)
  one_joined [] back = refl
  one_joined (number ∷ front) back =
      or_else_assoc (taken_named number) (one_takes front) (one_takes back)
      ∙ ap (or_else (taken_named number)) (one_joined front back)

  pub chain_of_both : (numbers : List ℕ) (number : ℕ) → IsChain nodes Both numbers number
      → taken_named number ≡ all_take numbers
  chain_of_both _ _ (one_node number) = sym (both_none (taken_named number))
  chain_of_both _ _ (two_chains front back first second number there one other) =
      takes_both test types variables nodes right d number first second there
      ∙ ap₂ both (chain_of_both front first one) (chain_of_both back second other)
      ∙ all_joined front back

  chain_of_first : (numbers : List ℕ) (number : ℕ) → IsChain nodes First numbers number
      → taken_named number ≡ one_takes numbers
  chain_of_first _ _ (one_node number) = sym (or_else_none (taken_named number))
  chain_of_first _ _ (two_chains front back first second number there one other) =
      takes_first test types variables nodes right d number first second there
      ∙ ap₂ or_else (chain_of_first front first one) (chain_of_first back second other)
      ∙ one_joined front back

  pub both_takes : (numbers : List ℕ) (number : ℕ)
      → IsChainOr types variables nodes Both types.any numbers number
      → taken_named number ≡ all_take numbers
  both_takes [] number there = takes_test test types variables nodes right d number types.any there
      ∙ ap if_so (right.any d)
  both_takes (first ∷ rest) number chain = chain_of_both (first ∷ rest) number chain

  pub first_takes : (numbers : List ℕ) (number : ℕ)
      → IsChainOr types variables nodes First types.empty numbers number
      → taken_named number ≡ one_takes numbers
  first_takes [] number there =
      takes_test test types variables nodes right d number types.empty there
      ∙ ap if_so (right.empty d)
  first_takes (first ∷ rest) number chain = chain_of_first (first ∷ rest) number chain
