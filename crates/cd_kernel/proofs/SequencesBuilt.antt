-- What the code makes of a sequence are copies of its automaton.
use Rattle.std.proofs.Common.{◌≡◌, ℕ, Bool, true, false, ◌||◌, List, [], ◌∷◌, ◌++◌, map, length}
use Rattle.std.proofs.Common.{Some, refl, sym, ap, subst, ◌∙◌}
use Rattle.std.specs.List.{slice_get}
use Rattle.std.proofs.lemmas.List.{append_assoc, append-nil}
use Rattle.cd_sets.specs.declared.node_id.NodeId.{NodeId}
use Rattle.cd_syntax.specs.Name.{Name}
use Rattle.cd_model.specs.AllOf.{AllOf}
use Rattle.cd_model.specs.BuiltIns.{ANY}
use Rattle.cd_matching.specs.Kernel.{KernelNode, Both}
use Rattle.cd_matching.specs.Naming.{GathersDisjoint}
use Rattle.cd_matching.specs.Pattern.{Regular}
use Rattle.cd_matching.specs.Variables.{is_gathered}
use Rattle.cd_moves.specs.Automaton.{items_of}
use Rattle.cd_kernel.specs.Chains.{IsChain}
use Rattle.cd_kernel.specs.Copies.{IsNumber, is_among, Copy, in_a_group, one_is_plain}
use Rattle.cd_kernel.specs.Copies.{AreDisjoint, IsCopy}
use Rattle.cd_kernel.specs.Making.{the_types, inner, AreCopies, AreItemsOf}
use Rattle.cd_kernel.specs.Inner.Building.{Nodes, Several, chained, put_copy, put_copies}
use Rattle.cd_kernel.specs.Inner.Building.{put_sequence}
use Rattle.cd_kernel.specs.Inner.Gathering.{groups_of, numbered}
use Rattle.cd_kernel.proofs.ChainsBuilt.{chained_is}
use Rattle.cd_kernel.proofs.CopiesBuilt.{copy_put, is_copy, copy_is_made}
use Rattle.cd_kernel.proofs.GroupsOfNames.{in_one_of, GroupsDisjoint, IsGroup, are_groups}
use Rattle.cd_kernel.proofs.GrowingNodes.{Keeps, Grows, grows_not, grows_on}
use Rattle.cd_kernel.proofs.PatternsMade.{copies_are_made, chained_is_made, both_joins}

-- how the items of a copy are made
abbrev pub Making : Type 0
Making = Nodes → Several

abbrev pub MakingGrows : Making → Type 0
MakingGrows making = (nodes : Nodes) → Grows nodes (making nodes).1

abbrev pub MakesAll : Regular NodeId → Making → Type 0
MakesAll r making = (nodes : Nodes) → length (making nodes).0 ≡ length (items_of [] r)

module _ (variables : List Name) (r : Regular NodeId) where
  abbrev pub copies : (plain : Bool) → (first others : Making) → List (List Name) → Nodes → List Copy
  copies plain first others [] nodes = []
  copies plain first others (group ∷ groups) nodes =
      copy_put variables r group (first nodes) plain
      ∷ copies false others others groups (put_copy variables r group (first nodes)).1

  starts_are : (plain : Bool) (first others : Making) (groups : List (List Name))
      (starts : List ℕ) (nodes : Nodes)
      → (put_copies variables r first others groups starts nodes).0
      ≡ starts ++ map (λ copy. copy.start) (copies plain first others groups nodes)
  starts_are plain first others [] starts nodes = sym (append-nil starts)
  starts_are plain first others (group ∷ groups) starts nodes =
      let copy = put_copy variables r group (first nodes) in
      starts_are false others others groups (starts ++ copy.0 ∷ []) copy.1
      ∙ append_assoc starts (copy.0 ∷ [])
      (map (λ copy. copy.start) (copies false others others groups copy.1))

  pub copies_grow : (first others : Making) → MakingGrows first → MakingGrows others
      → (groups : List (List Name)) (starts : List ℕ) (nodes : Nodes)
      → Grows nodes (put_copies variables r first others groups starts nodes).1
  copies_grow first others one other [] starts nodes = grows_not nodes
  copies_grow first others one other (group ∷ groups) starts nodes =
      let copy = put_copy variables r group (first nodes) in
      grows_on nodes copy.1
      (put_copies variables r others others groups (starts ++ copy.0 ∷ []) copy.1).1
      (grows_on nodes (first nodes).1 copy.1 (one nodes)
      (copy_is_made variables r group (first nodes)).grows)
      (copies_grow others others other other groups (starts ++ copy.0 ∷ []) copy.1)

  none_is_plain : (first others : Making) (groups : List (List Name)) (nodes : Nodes)
      → one_is_plain (copies false first others groups nodes) ≡ false
  none_is_plain first others [] nodes = refl
  none_is_plain first others (group ∷ groups) nodes =
      none_is_plain others others groups (put_copy variables r group (first nodes)).1

  in_groups : (plain : Bool) (first others : Making) (groups : List (List Name)) (nodes : Nodes)
      (name : Name)
      → in_a_group (copies plain first others groups nodes) name ≡ in_one_of groups name
  in_groups plain first others [] nodes name = refl
  in_groups plain first others (group ∷ groups) nodes name = ap (is_among group name ||◌)
      (in_groups false others others groups (put_copy variables r group (first nodes)).1 name)

  are_disjoint : (plain : Bool) (first others : Making) (groups : List (List Name)) (nodes : Nodes)
      → GroupsDisjoint groups → AreDisjoint (copies plain first others groups nodes)
  are_disjoint plain first others [] nodes apart = tt
  are_disjoint plain first others (group ∷ groups) nodes apart =
      let copy = put_copy variables r group (first nodes) in (
        (λ name there. in_groups false others others groups copy.1 name ∙ apart.0 name there),
        (λ is. none_is_plain others others groups copy.1),
        are_disjoint false others others groups copy.1 apart.1,
      )

  module _ (final : Nodes) (keeps : Name → Bool) where
    abbrev pub HasItems : (plain : Bool) → Making → Type 0
    HasItems plain making = (copy : Copy) → copy.plain ≡ plain → (nodes : Nodes)
        → Keeps (making nodes).1 final
        → AreItemsOf the_types variables final (inner keeps r copy) (making nodes).0 r 0

    copies_are : (plain : Bool) (first others : Making) → MakingGrows first → MakingGrows others
        → MakesAll r first → MakesAll r others → (groups : List (List Name)) (starts : List ℕ)
        (nodes : Nodes) → AllOf (IsGroup variables r) groups
        → Keeps (put_copies variables r first others groups starts nodes).1 final
        → AllOf (IsCopy the_types variables final r) (copies plain first others groups nodes)
    copies_are plain first others one other long long_too [] starts nodes are stay = tt
    copies_are plain first others one other long long_too (group ∷ groups) starts nodes are stay =
        let copy = put_copy variables r group (first nodes) in
        let is = are.0 in (
          is_copy variables r group (first nodes) final plain is.named (long nodes) is.distinct
              is.alone (λ n x h. stay n x ((copies_grow others others other other groups
              (starts ++ copy.0 ∷ []) copy.1).keeps n x h)),
          copies_are false others others other other long_too long_too groups
              (starts ++ copy.0 ∷ []) copy.1 are.1 stay,
        )

    items_are_made : (plain : Bool) (first others : Making) → MakingGrows others
        → HasItems plain first → HasItems false others → (groups : List (List Name))
        (starts : List ℕ) (nodes : Nodes)
        → Keeps (put_copies variables r first others groups starts nodes).1 final
        → AllOf (λ copy. AreItemsOf the_types variables final (inner keeps r copy) copy.items r 0)
        (copies plain first others groups nodes)
    items_are_made plain first others other has has_too [] starts nodes stay = tt
    items_are_made plain first others other has has_too (group ∷ groups) starts nodes stay =
        let copy = put_copy variables r group (first nodes) in (
          has (copy_put variables r group (first nodes) plain) refl nodes
              (λ n x h. stay n x ((copies_grow others others other other groups
              (starts ++ copy.0 ∷ []) copy.1).keeps n x
              ((copy_is_made variables r group (first nodes)).grows.keeps n x h))),
          items_are_made false others others other has_too has_too groups (starts ++ copy.0 ∷ [])
              copy.1 stay,
        )

    -- they are copies of the automaton, which are joined
    pub sequence_made : (kept : Bool) (first others : Making) (nodes : Nodes) → GathersDisjoint [] r
        → ((name : Name) → is_gathered r name ≡ true
        → (keeps name ≡ kept) × IsNumber variables name (numbered variables name))
        → MakingGrows first → MakingGrows others → MakesAll r first → MakesAll r others
        → HasItems true first → HasItems false others
        → Keeps (put_sequence variables kept r first others nodes).1 final
        → AreCopies the_types variables final keeps r
        (copies true first others (groups_of kept r) nodes)
        (put_sequence variables kept r first others nodes).0
        × AllOf (λ copy. AreItemsOf the_types variables final (inner keeps r copy) copy.items r 0)
        (copies true first others (groups_of kept r) nodes)
    sequence_made kept first others nodes apart fits one other long long_too has has_too stay =
        let groups = are_groups variables keeps r kept fits in
        let made = put_copies variables r first others (groups_of kept r) [] nodes in
        let several = copies_are_made variables r first others one other (groups_of kept r) []
        nodes tt in
        let after = λ (n : ℕ) (x : KernelNode NodeId) (h : slice_get made.1 n ≡ Some x). stay n x
        ((chained_is_made Both both_joins ANY made.0 made.1 several.there).grows.keeps n x h) in (
          record {
            joined = chain_of_copies (groups_of kept r) groups.first groups.rest groups.are stay;
            each = copies_are true first others one other long long_too (groups_of kept r) [] nodes
                groups.each after;
            groups = λ name. in_groups true first others (groups_of kept r) nodes name
                ∙ groups.all name;
            plain = first_is_plain (groups_of kept r) groups.first groups.rest groups.are;
            disjoint = are_disjoint true first others (groups_of kept r) nodes groups.apart;
            apart = apart;
          },
          items_are_made true first others other has has_too (groups_of kept r) [] nodes after,
        )
      where
        first_is_plain : (groups : List (List Name)) (group : List Name)
            (rest : List (List Name)) → groups ≡ group ∷ rest
            → one_is_plain (copies true first others groups nodes) ≡ true
        first_is_plain groups group rest are =
            ap (λ list. one_is_plain (copies true first others list nodes)) are

        chain_from : (starts numbers : List ℕ) (number : ℕ) (rest : List ℕ) → numbers ≡ starts
            → starts ≡ number ∷ rest → (after : Nodes)
            → Keeps (chained Both ANY numbers after).1 final
            → IsChain final Both starts (chained Both ANY numbers after).0
        chain_from starts numbers number rest same is after stay =
            subst (λ (list : List ℕ). IsChain final Both list (chained Both ANY numbers after).0)
            same (subst (λ (list : List ℕ). Keeps (chained Both ANY list after).1 final
            → IsChain final Both list (chained Both ANY list after).0) (sym (same ∙ is))
            (chained_is Both ANY final number rest after) stay)

        chain_of_copies : (groups : List (List Name)) (group : List Name)
            (rest : List (List Name)) → groups ≡ group ∷ rest
            → Keeps (chained Both ANY (put_copies variables r first others groups [] nodes).0
            (put_copies variables r first others groups [] nodes).1).1 final
            → IsChain final Both
            (map (λ copy. copy.start) (copies true first others groups nodes))
            (chained Both ANY (put_copies variables r first others groups [] nodes).0
            (put_copies variables r first others groups [] nodes).1).0
        chain_of_copies groups group rest are stay =
            chain_from (map (λ copy. copy.start) (copies true first others groups nodes))
            (put_copies variables r first others groups [] nodes).0
            (put_copy variables r group (first nodes)).0
            (map (λ copy. copy.start) (copies false others others rest
            (put_copy variables r group (first nodes)).1))
            (starts_are true first others groups [] nodes)
            (ap (λ list. map (λ copy. copy.start) (copies true first others list nodes)) are)
            (put_copies variables r first others groups [] nodes).1 stay
