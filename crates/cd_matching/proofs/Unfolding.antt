-- What a kernel takes, node by node: the count of steps is enough, so each node is read by one
-- rule.
use Rattle.std.proofs.Common.{◌≡◌, ℕ, zero, suc, Bool, List, length, Option, Some, None, refl, sym}
use Rattle.std.proofs.Common.{ap₂}
use Rattle.std.specs.List.{slice_get}
use Rattle.cd_model.specs.Thing as thing
use Rattle.cd_model.specs.Thing.{Thing}
use Rattle.cd_model.proofs.Ones.{each_weaker}
use Rattle.cd_matching.specs.Captures.{or_else, both}
use Rattle.cd_matching.specs.Kernel.{KernelNode, Test, Bind, Put, Pair, Xml, Record, Both, First}
use Rattle.cd_matching.specs.Kernel.{Gather, leads_to, EachEnds, Ends, Taken, Apart, by_node}
use Rattle.cd_matching.specs.Kernel.{in_a_row, taken, apart_of}

module _ (T : Type 0) (test : T → Thing → Bool) (nodes : List (KernelNode T)) where
  -- a node answers the same where the nodes do that it leads to
  by_node_same : (d : Thing) (apart : Apart T) (one other : Taken) (node : Option (KernelNode T))
      → EachEnds (λ number. one number ≡ other number) node
      → by_node T test nodes d apart one node ≡ by_node T test nodes d apart other node
  by_node_same d apart one other None same = refl
  by_node_same d apart one other (Some (Test type)) same = refl
  by_node_same d apart one other (Some (Bind variable)) same = refl
  by_node_same d apart one other (Some (Put variable constant)) same = refl
  by_node_same d apart one other (Some (Pair first second)) same = refl
  by_node_same d apart one other (Some (Xml tag attributes content)) same = refl
  by_node_same d apart one other (Some (Record fields more)) same = refl
  by_node_same d apart one other (Some (Both first second)) same = ap₂ both same.0 same.1.0
  by_node_same d apart one other (Some (First first second)) same = ap₂ or_else same.0 same.1.0
  by_node_same d apart one other (Some (Gather variable first second)) same = refl

  ends_weaker : (P Q : ℕ → Type 0) → ((number : ℕ) → P number → Q number)
      → (node : Option (KernelNode T)) → EachEnds P node → EachEnds Q node
  ends_weaker P Q weaker None ends = ends
  ends_weaker P Q weaker (Some node) ends = each_weaker P Q weaker (leads_to node) ends

  -- one step more changes nothing
  enough : (d : Thing) (apart : Apart T) (steps number : ℕ) → Ends nodes steps number
      → in_a_row T test nodes d apart (suc steps) number
      ≡ in_a_row T test nodes d apart steps number
  enough d apart zero number ends = absurd ends
  enough d apart (suc steps) number ends = by_node_same d apart
      (in_a_row T test nodes d apart (suc steps)) (in_a_row T test nodes d apart steps)
      (slice_get nodes number)
      (ends_weaker (Ends nodes steps)
      (λ next. in_a_row T test nodes d apart (suc steps) next
      ≡ in_a_row T test nodes d apart steps next)
      (enough d apart steps) (slice_get nodes number) ends)

  -- so each node is read by one rule
  pub unfolds : (d : Thing) (number : ℕ) → Ends nodes (length nodes) number
      → taken T test nodes d number
      ≡ by_node T test nodes d (apart_of T test nodes d) (taken T test nodes d)
      (slice_get nodes number)
  unfolds (thing.Integer n) number ends = sym
      (enough (thing.Integer n) (apart_of T test nodes (thing.Integer n)) (length nodes) number
      ends)
  unfolds (thing.Character c) number ends = sym
      (enough (thing.Character c) (apart_of T test nodes (thing.Character c)) (length nodes) number
      ends)
  unfolds (thing.Atom name) number ends = sym
      (enough (thing.Atom name) (apart_of T test nodes (thing.Atom name)) (length nodes) number
      ends)
  unfolds (thing.Pair first second) number ends = sym
      (enough (thing.Pair first second) (apart_of T test nodes (thing.Pair first second))
      (length nodes) number ends)
  unfolds (thing.Xml tag attributes content) number ends = sym
      (enough (thing.Xml tag attributes content)
      (apart_of T test nodes (thing.Xml tag attributes content)) (length nodes) number ends)
  unfolds (thing.Record fields) number ends = sym
      (enough (thing.Record fields) (apart_of T test nodes (thing.Record fields)) (length nodes)
      number ends)
  unfolds (thing.Function pairs) number ends = sym
      (enough (thing.Function pairs) (apart_of T test nodes (thing.Function pairs)) (length nodes)
      number ends)
  unfolds (thing.Closure function environment) number ends = sym
      (enough (thing.Closure function environment)
      (apart_of T test nodes (thing.Closure function environment)) (length nodes) number ends)
