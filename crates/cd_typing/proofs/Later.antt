-- What stays in longer graphs.
use Rattle.std.proofs.Common.{◌<◌, true, ◌++◌, sym, subst, ap, ◌∙◌, length, arith, append_assoc, length-append}
use Rattle.cd_sets.specs.declared.node_id.NodeId.{NodeId}
use Rattle.cd_model.specs.BuiltIns.{built_ins}
use Rattle.cd_model.specs.Formula.{Graph, IsGraph}
use Rattle.cd_model.specs.Scope.{Scope}
use Rattle.cd_model.proofs.Extending.{kept_elements}
use Rattle.cd_program.specs.Expr.{Expr}
use Rattle.cd_meaning.specs.Sets.{Set, ◌⊆◌, elements_of}
use Rattle.cd_typing.specs.Typ.{typ, IsType, Types}
use Rattle.cd_typing.specs.Typing.{Has}
use Rattle.cd_typing.proofs.Subsets.{through}
use Rattle.cd_typing.proofs.Widening.{widen}
use Rattle.cd_typing.specs.Later.{IsLater}

module _ (graph more : Graph) (sound : IsGraph graph) (id : NodeId) (below : id.0 < length graph) where
  pub in_later : elements_of graph id ⊆ elements_of (graph ++ more) id
  in_later e element inside = (kept_elements graph more sound e id true below).0 inside

  pub in_earlier : elements_of (graph ++ more) id ⊆ elements_of graph id
  in_earlier e element inside = (kept_elements graph more sound e id true below).1 inside

pub later_in : (graph later : Graph) → IsLater graph later → IsGraph graph → (id : NodeId) → id.0 < length graph
    → elements_of graph id ⊆ elements_of later id
later_in graph later begins sound id below =
    subst (λ is. elements_of graph id ⊆ elements_of is id) (sym begins.is) (in_later graph begins.more sound id below)

pub earlier_in : (graph later : Graph) → IsLater graph later → IsGraph graph → (id : NodeId) → id.0 < length graph
    → elements_of later id ⊆ elements_of graph id
earlier_in graph later begins sound id below =
    subst (λ is. elements_of is id ⊆ elements_of graph id) (sym begins.is) (in_earlier graph begins.more sound id below)

module _ (scope : Scope) where
  pub has_later : (graph later : Graph) → IsLater graph later → IsGraph graph → (e : Expr) (types : Types) (id : NodeId)
      → id.0 < length graph → Has scope types e (typ graph id) → Has scope types e (typ later id)
  has_later graph later begins sound e types id below has =
      widen scope e types (typ graph id) (typ later id) (later_in graph later begins sound id below) has

-- a set that a node is within, or that is within a node
pub only_later : (graph later : Graph) → IsLater graph later → IsGraph graph → (id : NodeId) → id.0 < length graph → (set : Set)
    → elements_of graph id ⊆ set → elements_of later id ⊆ set
only_later graph later is sound id below set within =
    through (elements_of later id) (elements_of graph id) set (earlier_in graph later is sound id below) within

pub still_holds : (graph later : Graph) → IsLater graph later → IsGraph graph → (id : NodeId) → id.0 < length graph → (set : Set)
    → set ⊆ elements_of graph id → set ⊆ elements_of later id
still_holds graph later is sound id below set within =
    through set (elements_of graph id) (elements_of later id) within (later_in graph later is sound id below)

-- longer and longer
pub later_still : (graph later last : Graph) → IsLater graph later → IsLater later last → IsLater graph last
later_still graph later last one other = record {
  more = one.more ++ other.more;
  is = other.is ∙ ap (λ start. start ++ other.more) one.is ∙ append_assoc graph one.more other.more;
  sound = other.sound;
}

pub type_later : (graph later : Graph) → IsLater graph later → (id : NodeId) → IsType (typ graph id) → IsType (typ later id)
type_later graph later is id old = record {
  more = old.more ++ is.more;
  begins = is.is ∙ ap (λ start. start ++ is.more) old.begins ∙ append_assoc built_ins old.more is.more;
  sound = is.sound;
  is_node = below;
}
  where
    below : id.0 < length later
    below = subst (λ whole. id.0 < length whole) (sym is.is)
        (let lengths = length-append graph is.more in omega (arith, lengths, old.is_node))

pub below_later : (graph later : Graph) → IsLater graph later → (id : NodeId) → id.0 < length graph → id.0 < length later
below_later graph later is id old = subst (λ whole. id.0 < length whole) (sym is.is)
    (let lengths = length-append graph is.more in omega (arith, lengths, old))
