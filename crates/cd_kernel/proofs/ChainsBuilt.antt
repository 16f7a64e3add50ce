-- What the code makes of several nodes is a chain of them.
use Rattle.std.proofs.Common.{◌≡◌, ◌<◌, ◌≤◌, ◌-◌, ◌/◌, ◌==◌, ℕ, zero, suc, false, List, [], ◌∷◌}
use Rattle.std.proofs.Common.{length, take, drop, length-drop, length-take-le, Some, refl, sym, ap}
use Rattle.std.proofs.Common.{subst, ◌∙◌, arith}
use Rattle.std.specs.List.{slice_get}
use Rattle.std.proofs.lemmas.Bool.{true≢false}
use Rattle.std.proofs.lemmas.List.{take-append-drop, take_rest}
use Rattle.cd_sets.specs.declared.node_id.NodeId.{NodeId}
use Rattle.cd_matching.specs.Kernel.{KernelNode, Test}
use Rattle.cd_kernel.specs.Chains.{IsChain, one_node, two_chains}
use Rattle.cd_kernel.specs.Inner.Building.{Nodes, Built, put, put_over, two_of, chain_within}
use Rattle.cd_kernel.specs.Inner.Building.{chained}
use Rattle.cd_kernel.proofs.GrowingNodes.{Keeps, keeps_more, is_put}

-- each half of a row of two or more is shorter
first_half : {X : Type 0} (xs : List X) → 1 < length xs
    → length (take (length xs / 2) xs) ≡ length xs / 2
first_half xs long = length-take-le (length xs / 2) xs (omega (arith, long))

second_half : {X : Type 0} (xs : List X) → 1 < length xs
    → length (drop (length xs / 2) xs) < length xs
second_half xs long =
    let left = length-drop (length xs / 2) xs in omega (arith, long, left)

two_there : (number next : ℕ) (numbers : List ℕ) → 1 < length (number ∷ next ∷ numbers)
two_there number next numbers = omega arith

module _ (node : ℕ → ℕ → KernelNode NodeId) (none : NodeId) where
  -- more steps than there are nodes make no difference
  enough : (few more : ℕ) (numbers : List ℕ) (nodes : Nodes) → length numbers ≤ few
      → length numbers ≤ more
      → chain_within few node none numbers nodes ≡ chain_within more node none numbers nodes
  enough few more [] nodes one other = refl
  enough few more (number ∷ []) nodes one other = refl
  enough zero more (number ∷ next ∷ numbers) nodes one other = absurd (omega (arith, one))
  enough (suc few) zero (number ∷ next ∷ numbers) nodes one other =
      absurd (omega (arith, other))
  enough (suc few) (suc more) (number ∷ next ∷ numbers) nodes one other =
      let all = number ∷ next ∷ numbers in
      let long = two_there number next numbers in
      let front = first_half all long in
      let back = second_half all long in
      λ i. two_of node
      (enough few more (take (length all / 2) all) nodes (omega (arith, long, front, one))
      (omega (arith, long, front, other)) i)
      (λ after. enough few more (drop (length all / 2) all) after (omega (arith, back, one))
      (omega (arith, back, other)) i)

  -- a chain of two or more joins those of both halves
  of_halves : (number next : ℕ) (numbers : List ℕ) (nodes : Nodes)
      → two_of node
      (chained node none (take (length (number ∷ next ∷ numbers) / 2) (number ∷ next ∷ numbers))
      nodes)
      (chained node none (drop (length (number ∷ next ∷ numbers) / 2) (number ∷ next ∷ numbers)))
      ≡ chained node none (number ∷ next ∷ numbers) nodes
  of_halves number next numbers nodes =
      let all = number ∷ next ∷ numbers in
      let long = two_there number next numbers in
      let front = first_half all long in
      let back = second_half all long in
      λ i. two_of node
      (enough (length (take (length all / 2) all)) (suc (length numbers))
      (take (length all / 2) all) nodes (omega arith) (omega (arith, long, front)) i)
      (λ after. enough (length (drop (length all / 2) all)) (suc (length numbers))
      (drop (length all / 2) all) after (omega arith) (omega (arith, back)) i)

  -- the same of any row with more than one node, as the code has it
  pub by_halves : (numbers : List ℕ) (nodes : Nodes) (first second made : Built)
      → false ≡ (length (take (length numbers - 1) (drop 1 numbers)) == 0)
      → first ≡ chained node none (take (length numbers / 2) numbers) nodes
      → second ≡ chained node none
      (take (length numbers - length numbers / 2) (drop (length numbers / 2) numbers)) first.1
      → made ≡ put (node first.0 second.0) second.1 → made ≡ chained node none numbers nodes
  by_halves [] nodes first second made more one other is = absurd (true≢false (sym more))
  by_halves (number ∷ []) nodes first second made more one other is =
      absurd (true≢false (sym more))
  by_halves (number ∷ next ∷ numbers) nodes first second made more one other is =
      let all = number ∷ next ∷ numbers in
      let back = drop (length all / 2) all in
      is ∙ ap (put_over (node first.0))
      (other ∙ ap (λ (list : List ℕ). chained node none list first.1)
      (take_rest all (length all / 2)))
      ∙ ap (λ (one : Built). two_of node one (chained node none back)) one
      ∙ of_halves number next numbers nodes

  -- the nodes before it stay
  pub chain_keeps : (steps : ℕ) (numbers : List ℕ) (nodes : Nodes)
      → Keeps nodes (chain_within steps node none numbers nodes).1
  chain_keeps steps [] nodes n x h = keeps_more nodes (Test none ∷ []) n x h
  chain_keeps steps (number ∷ []) nodes n x h = h
  chain_keeps zero (number ∷ next ∷ numbers) nodes n x h = h
  chain_keeps (suc steps) (number ∷ next ∷ numbers) nodes n x h =
      let all = number ∷ next ∷ numbers in
      let first = chain_within steps node none (take (length all / 2) all) nodes in
      let second = chain_within steps node none (drop (length all / 2) all) first.1 in
      keeps_more second.1 (node first.0 second.0 ∷ []) n x
      (chain_keeps steps (drop (length all / 2) all) first.1 n x
      (chain_keeps steps (take (length all / 2) all) nodes n x h))

  module _ (final : Nodes) where
    chain_is : (steps : ℕ) (numbers : List ℕ) (nodes : Nodes) → 0 < length numbers
        → length numbers ≤ steps → Keeps (chain_within steps node none numbers nodes).1 final
        → IsChain final node numbers (chain_within steps node none numbers nodes).0
    chain_is steps [] nodes some within keeps = absurd (omega (arith, some))
    chain_is steps (number ∷ []) nodes some within keeps = one_node number
    chain_is zero (number ∷ next ∷ numbers) nodes some within keeps =
        absurd (omega (arith, within))
    chain_is (suc steps) (number ∷ next ∷ numbers) nodes some within keeps =
        let all = number ∷ next ∷ numbers in
        let long = two_there number next numbers in
        let front = first_half all long in
        let back = second_half all long in
        let left = length-drop (length all / 2) all in
        let first = chain_within steps node none (take (length all / 2) all) nodes in
        let second = chain_within steps node none (drop (length all / 2) all) first.1 in
        let stay = λ (n : ℕ) (x : KernelNode NodeId) (h : slice_get second.1 n ≡ Some x).
        keeps n x (keeps_more second.1 (node first.0 second.0 ∷ []) n x h) in
        subst (λ (list : List ℕ). IsChain final node list (length second.1))
        (take-append-drop (length all / 2) all)
        (two_chains (take (length all / 2) all) (drop (length all / 2) all) first.0 second.0
        (length second.1) (is_put (node first.0 second.0) second.1 final keeps)
        (chain_is steps (take (length all / 2) all) nodes (omega (arith, long, front))
        (omega (arith, long, front, within))
        (λ n x h. stay n x (chain_keeps steps (drop (length all / 2) all) first.1 n x h)))
        (chain_is steps (drop (length all / 2) all) first.1 (omega (arith, long, left))
        (omega (arith, back, within)) stay))

    pub chained_is : (first : ℕ) (rest : List ℕ) (nodes : Nodes)
        → Keeps (chained node none (first ∷ rest) nodes).1 final
        → IsChain final node (first ∷ rest) (chained node none (first ∷ rest) nodes).0
    chained_is first rest nodes =
        chain_is (length (first ∷ rest)) (first ∷ rest) nodes (omega arith) (omega arith)
