-- Nodes that are put after others: those that were there stay, and Both and First name smaller
-- numbers than their own.
use Rattle.std.proofs.Common.{◌≡◌, ◌<◌, ◌≤◌, ℕ, zero, suc, List, [], ◌∷◌, ◌++◌, length, Some}
use Rattle.std.proofs.Common.{◌⊎◌, inl, inr, refl, sym, ap, subst, arith}
use Rattle.std.specs.List.{slice_get}
use Rattle.std.proofs.lemmas.Option.{none-some, same_Some}
use Rattle.cd_sets.specs.declared.node_id.NodeId.{NodeId}
use Rattle.cd_model.specs.AllOf.{AllOf}
use Rattle.cd_matching.specs.Kernel.{KernelNode, leads_to}
use Rattle.cd_kernel.specs.Inner.Building.{Nodes, Built, put}

-- what is at each place of a list is there in another list
abbrev pub Keeps : {X : Type 0} → List X → List X → Type 0
Keeps {X} one other = (number : ℕ) (x : X) → slice_get one number ≡ Some x
    → slice_get other number ≡ Some x

pub length_last : {X : Type 0} (xs : List X) (x : X) → length (xs ++ x ∷ []) ≡ suc (length xs)
length_last [] x = refl
length_last (y ∷ xs) x = ap suc (length_last xs x)

pub last_there : {X : Type 0} (xs : List X) (x : X)
    → slice_get (xs ++ x ∷ []) (length xs) ≡ Some x
last_there [] x = refl
last_there (y ∷ xs) x = last_there xs x

pub keeps_more : {X : Type 0} (xs ys : List X) → Keeps xs (xs ++ ys)
keeps_more [] ys zero x h = absurd (none-some x h)
keeps_more [] ys (suc number) x h = absurd (none-some x h)
keeps_more (y ∷ xs) ys zero x h = h
keeps_more (y ∷ xs) ys (suc number) x h = keeps_more xs ys number x h

last_or_before : {X : Type 0} (xs : List X) (x : X) (number : ℕ) (y : X)
    → slice_get (xs ++ x ∷ []) number ≡ Some y
    → (slice_get xs number ≡ Some y) ⊎ ((number ≡ length xs) × (x ≡ y))
last_or_before [] x zero y h = inr (refl, same_Some x y h)
last_or_before [] x (suc number) y h = absurd (none-some y h)
last_or_before (z ∷ xs) x zero y h = inl h
last_or_before (z ∷ xs) x (suc number) y h = elim (last_or_before xs x number y h) [
  | inl found ↦ inl found
  | inr last ↦ inr (ap suc last.0, last.1)
]

-- each node leads to smaller numbers alone
abbrev pub Falls : Nodes → Type 0
Falls nodes = (number : ℕ) (node : KernelNode NodeId) → slice_get nodes number ≡ Some node
    → AllOf (λ next. next < number) (leads_to node)

pub record Grows (old new : Nodes) : Type 0 where
  pub keeps : Keeps old new
  pub longer : length old ≤ length new
  pub falls : Falls old → Falls new

pub grows_not : (nodes : Nodes) → Grows nodes nodes
grows_not nodes =
    record { keeps = λ number x h. h; longer = omega arith; falls = λ falls. falls }

pub grows_on : (old between new : Nodes) → Grows old between → Grows between new → Grows old new
grows_on old between new first second = record {
  keeps = λ number x h. second.keeps number x (first.keeps number x h);
  longer = let one = first.longer in let other = second.longer in omega (arith, one, other);
  falls = λ falls. second.falls (first.falls falls);
}

-- a node that is made, among all then
pub record Made (old : Nodes) (made : Built) : Type 0 where
  pub grows : Grows old made.1
  pub there : made.0 < length made.1

pub made_on : (old between : Nodes) (made : Built) → Grows old between → Made between made
    → Made old made
made_on old between made first second =
    record { grows = grows_on old between made.1 first second.grows; there = second.there }

pub put_is_made : (node : KernelNode NodeId) (nodes : Nodes)
    → AllOf (λ next. next < length nodes) (leads_to node) → Made nodes (put node nodes)
put_is_made node nodes below = record {
  grows = record {
    keeps = keeps_more nodes (node ∷ []);
    longer = let more = length_last nodes node in omega (arith, more);
    falls = falls;
  };
  there = let more = length_last nodes node in omega (arith, more);
}
  where
    falls : Falls nodes → Falls (nodes ++ node ∷ [])
    falls before number other h = elim (last_or_before nodes node number other h) [
      | inl found ↦ before number other found
      | inr last ↦ subst (λ (n : KernelNode NodeId). AllOf (λ next. next < number) (leads_to n))
          last.1 (subst (λ (at : ℕ). AllOf (λ next. next < at) (leads_to node)) (sym last.0) below)
    ]

pub is_put : (node : KernelNode NodeId) (nodes final : Nodes) → Keeps (put node nodes).1 final
    → slice_get final (put node nodes).0 ≡ Some node
is_put node nodes final keeps = keeps (length nodes) node (last_there nodes node)
