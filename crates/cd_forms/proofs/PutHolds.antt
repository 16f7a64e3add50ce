-- What the node of a call that ended well holds, from what its contract says.
use Rattle.std.proofs.Common.{◌≡◌, ◌↔◌, true, Result, Ok, Err, sym, subst}
use Rattle.std.specs.Result.{IfOk}
use Rattle.std.specs.declared.alloc.AllocError.{AllocError}
use Rattle.cd_sets.specs.declared.node_id.NodeId.{NodeId}
use Rattle.cd_model.specs.Formula.{Graph, Formula}
use Rattle.cd_model.specs.Membership.{holds, reader, answers}
use Rattle.cd_model.specs.Thing.{Thing, IsElement}
use Rattle.cd_meaning.specs.Sets.{Set, ◌⊆◌, elements_of}

-- a node that holds what a formula held
module _ (graph longer : Graph) (f g : Formula) (same : f ≡ g) (result : Result NodeId AllocError)
    (put : IfOk result
    (λ id. (e : Thing) → holds (reader graph e) f true ↔ answers longer e id true))
    (set : Set) where
  pub put_has : ((e : Thing) → IsElement e → set e → holds (reader graph e) g true)
      → IfOk result (λ id. set ⊆ elements_of longer id)
  put_has held = by_end result put
    where
      by_end : (result : Result NodeId AllocError)
          → IfOk result
          (λ id. (e : Thing) → holds (reader graph e) f true ↔ answers longer e id true)
          → IfOk result (λ id. set ⊆ elements_of longer id)
      by_end (Ok id) put = λ e element is. (put e).0
          (subst (λ (h : Formula). holds (reader graph e) h true) (sym same) (held e element is))
      by_end (Err error) put = tt

  pub put_only : ((e : Thing) → IsElement e → holds (reader graph e) g true → set e)
      → IfOk result (λ id. elements_of longer id ⊆ set)
  put_only held = by_end result put
    where
      by_end : (result : Result NodeId AllocError)
          → IfOk result
          (λ id. (e : Thing) → holds (reader graph e) f true ↔ answers longer e id true)
          → IfOk result (λ id. elements_of longer id ⊆ set)
      by_end (Ok id) put = λ e element there. held e element
          (subst (λ (h : Formula). holds (reader graph e) h true) same ((put e).1 there))
      by_end (Err error) put = tt

-- what holds a set holds a narrower one, and holds nothing beside a wider one
pub narrower : (longer : Graph) (one other : Set) (result : Result NodeId AllocError)
    → IfOk result (λ id. other ⊆ elements_of longer id) → one ⊆ other
    → IfOk result (λ id. one ⊆ elements_of longer id)
narrower longer one other (Ok id) has within =
    λ e element is. has e element (within e element is)
narrower longer one other (Err error) has within = tt

pub wider : (longer : Graph) (one other : Set) (result : Result NodeId AllocError)
    → IfOk result (λ id. elements_of longer id ⊆ one) → one ⊆ other
    → IfOk result (λ id. elements_of longer id ⊆ other)
wider longer one other (Ok id) only within =
    λ e element there. within e element (only e element there)
wider longer one other (Err error) only within = tt
