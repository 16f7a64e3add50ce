-- What is explored in a graph is explored in each longer one.
use Rattle.std.proofs.Common.{◌↔◌, ◌<◌, ℕ, Bool, true, false, List, [], ◌∷◌, ◌++◌, length}
use Rattle.std.proofs.Common.{sym, subst, append_assoc, length-append, arith}
use Rattle.cd_sets.specs.declared.node_id.NodeId.{NodeId}
use Rattle.cd_sets.specs.declared.question.Question.{Question}
use Rattle.cd_model.specs.AllOf.{AllOf}
use Rattle.cd_model.specs.Formula.{Graph, IsGraph, in_node}
use Rattle.cd_model.specs.Interfaces.{value_in_node}
use Rattle.cd_model.specs.Thing.{Thing, IsElement, IsValue}
use Rattle.cd_model.proofs.BothWays.{itself, both_agree}
use Rattle.cd_model.proofs.Extending.{kept_elements}
use Rattle.cd_matching.specs.Kernel.{Kernel}
use Rattle.cd_rules.specs.Family.{AsksNodes}
use Rattle.cd_model.proofs.Ones.{each_weaker, each_of_two}
use Rattle.cd_products.specs.Products.{AreInterfacesOf}
use Rattle.cd_filter.specs.Accepting.{AreRight}
use Rattle.cd_filter.specs.Capturing.{IsSettled}
use Rattle.cd_filter.specs.Table.{Place, Step, Table}
use Rattle.cd_explored.specs.Explored.{IsPlace, IsSettledPlace, IsExplored}
use Rattle.cd_explored.specs.NextPlaces.{NextHas}
use Rattle.cd_explored.proofs.NextPlaces.{next_have, next_weaker}
use Rattle.cd_explored.proofs.StepsAlike.{AreAlike, NextAlike, settled_alike}
use Rattle.cd_explored.proofs.StepsAlike.{inhabited_place_alike}

pub all_agree : {X : Type 0} (Is P Q : X → Type 0) → ((x : X) → Is x → P x ↔ Q x) → (xs : List X)
    → AllOf Is xs → AllOf P xs ↔ AllOf Q xs
all_agree Is P Q agree [] all = itself
all_agree Is P Q agree (x ∷ xs) all =
    both_agree (agree x all.0) (all_agree Is P Q agree xs all.1)

module _ (graph batch : Graph) (sound : IsGraph graph) where
  abbrev longer : Graph
  longer = graph ++ batch

  below_longer : (id : NodeId) → id.0 < length graph → id.0 < length longer
  below_longer id below = omega (arith, length-append graph batch)

  pub old_alike : (question : Question) → AsksNodes (length graph) question
      → AreAlike (in_node graph) (in_node longer) IsElement question
  old_alike question asks d = both_agree
      (all_agree (λ id. id.0 < length graph) (λ id. in_node graph d id true)
      (λ id. in_node longer d id true) (λ id below. kept_elements graph batch sound d id true below)
      question.pos asks.0)
      (all_agree (λ id. id.0 < length graph) (λ id. in_node graph d id false)
      (λ id. in_node longer d id false)
      (λ id below. kept_elements graph batch sound d id false below) question.neg asks.1)

  -- a test that is right of the longer graph is right of this one
  pub right_before : (test : NodeId → Thing → Bool)
      → AreRight (in_node longer) IsElement (length longer) test
      → AreRight (in_node graph) IsElement (length graph) test
  right_before test right id below d is =
      (kept_elements graph batch sound d id (test id d) below).1
      (right id (below_longer id below) d is)

  module _ (kernel : Kernel NodeId) where
    pub place_stays : (place : Place) → IsPlace graph kernel place → IsPlace longer kernel place
    place_stays place is = record {
      number = is.number;
      asks = (
        each_weaker (λ id. id.0 < length graph) (λ id. id.0 < length longer) below_longer
            place.question.pos is.asks.0,
        each_weaker (λ id. id.0 < length graph) (λ id. id.0 < length longer) below_longer
            place.question.neg is.asks.1,
      );
      accepted = λ test right d element inside. is.accepted test (right_before test right) d element
          ((old_alike place.question is.asks d).1 inside);
    }

    module _ (accepts : ℕ → NodeId) (below : (number : ℕ) → (accepts number).0 < length graph)
      where
        settled_stays : (entry : Place × List Step) → IsPlace graph kernel entry.0
            → AllOf (NextHas (IsPlace graph kernel)) entry.1 → IsSettledPlace graph kernel accepts entry
            → IsSettledPlace longer kernel accepts entry
        settled_stays entry is next settled = record {
          elements = settled_alike (in_node graph) (in_node longer) IsElement accepts
              (λ number answer d. kept_elements graph batch sound d (accepts number) answer
              (below number)) kernel.nodes entry (old_alike entry.0.question is.asks)
              (each_weaker (NextHas (IsPlace graph kernel))
              (NextAlike (in_node graph) (in_node longer) IsElement)
              next_alike entry.1 next) settled.elements;
          inhabited = inhabited_place_alike (in_node graph) (in_node longer) IsElement entry
              (old_alike entry.0.question is.asks) settled.inhabited;
          values = λ more interfaces still are.
              subst (λ g. IsSettled (value_in_node g interfaces) IsValue kernel.nodes false accepts
              entry) (sym (append_assoc graph batch more))
              (settled.values (batch ++ more) interfaces
              (subst IsGraph (append_assoc graph batch more) still)
              (subst (λ g. AreInterfacesOf g interfaces) (append_assoc graph batch more) are));
        }
          where
            next_alike : (step : Step) → NextHas (IsPlace graph kernel) step
                → NextAlike (in_node graph) (in_node longer) IsElement step
            next_alike step h = next_weaker (IsPlace graph kernel)
                (λ place. AreAlike (in_node graph) (in_node longer) IsElement place.question)
                (λ place it. old_alike place.question it.asks) step h

        pub explored_stays : (root : Place) (table : Table)
            → IsExplored graph kernel accepts root table → IsExplored longer kernel accepts root table
        explored_stays root table is = record {
          rooted = is.rooted;
          places = each_weaker (λ entry. IsPlace graph kernel entry.0)
              (λ entry. IsPlace longer kernel entry.0) (λ entry. place_stays entry.0) table is.places;
          settled = each_of_two
              (λ entry. IsPlace graph kernel entry.0 × AllOf (NextHas (IsPlace graph kernel)) entry.1)
              (IsSettledPlace graph kernel accepts) (IsSettledPlace longer kernel accepts)
              (λ entry both. settled_stays entry both.0 both.1) table
              (each_of_two (λ entry. IsPlace graph kernel entry.0)
              (λ entry. AllOf (NextHas (IsPlace graph kernel)) entry.1)
              (λ entry. IsPlace graph kernel entry.0 × AllOf (NextHas (IsPlace graph kernel)) entry.1)
              (λ entry one other. (one, other)) table is.places
              (next_have (IsPlace graph kernel) table is.places is.leads is.gathers))
              is.settled;
          leads = is.leads;
          gathers = is.gathers;
        }
