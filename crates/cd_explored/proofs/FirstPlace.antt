-- The first place is a place: what is matched, and in the node that accepts the root, is taken there.
use Rattle.std.proofs.Common.{◌≡◌, ◌<◌, ℕ, Bool, true, false, [], ◌∷◌, length, is_some}
use Rattle.std.proofs.Common.{refl, arith}
use Rattle.cd_sets.specs.declared.node_id.NodeId.{NodeId}
use Rattle.cd_model.specs.Formula.{Graph, in_node}
use Rattle.cd_model.specs.Thing.{Thing}
use Rattle.cd_matching.specs.Kernel.{Kernel, taken}
use Rattle.cd_products.proofs.Decided.{elements_apart}
use Rattle.cd_products.proofs.OneMore.{each_with, each_without}
use Rattle.cd_filter.specs.Accepting.{place_of, IsAcceptedFrom}
use Rattle.cd_filter.specs.Table.{first_place}
use Rattle.cd_filter.proofs.Accepts.{elements_accepting}
use Rattle.cd_explored.specs.Explored.{IsPlace}
use Rattle.cd_explored.proofs.ExactCaptures.{accepts_below}

module _ (graph : Graph) (kernel : Kernel NodeId) (first : ℕ)
    (is : IsAcceptedFrom graph kernel first) where
  abbrev accepts : ℕ → NodeId
  accepts = place_of kernel.nodes first

  by_answer : (d : Thing) (answer : Bool) → in_node graph d (accepts kernel.root) answer
      → in_node graph d (accepts kernel.root) true → answer ≡ true
  by_answer d true one inside = refl
  by_answer d false one inside =
      absurd (elements_apart graph d (accepts kernel.root) inside one)

  pub first_is_place : (matched : NodeId) → matched.0 < length graph
      → IsPlace graph kernel (first_place kernel matched accepts)
  first_is_place matched below = record {
    number = is.sound.root;
    asks = (
      each_with (λ id. id.0 < length graph) (accepts kernel.root) (matched ∷ [])
          (accepts_below graph kernel first is kernel.root) (below, tt),
      tt,
    );
    accepted = λ test right d element inside.
        by_answer d (is_some (taken NodeId test kernel.nodes d kernel.root))
        (elements_accepting graph kernel first test is
        (λ id here. right id (omega (arith, is.within))) d kernel.root element)
        (each_without (λ id. in_node graph d id true) (accepts kernel.root) (matched ∷ [])
        inside.0).0;
  }
