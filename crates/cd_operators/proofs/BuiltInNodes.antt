-- The built-in nodes of a graph that begins with them.
use Rattle.std.proofs.Common.{◌≡◌, ◌<◌, ◌++◌, Result, OnOk, length, sym, subst, arith}
use Rattle.std.proofs.Common.{length-append}
use Rattle.std.proofs.lemmas.Result.{on_ok_weaker}
use Rattle.cd_sets.specs.declared.node_id.NodeId.{NodeId}
use Rattle.cd_model.specs.BuiltIns.{built_ins, ANY}
use Rattle.cd_model.specs.Formula.{Graph}
use Rattle.cd_model.specs.Thing.{Thing}
use Rattle.cd_model.specs.Types.{no_closure}
use Rattle.cd_model.proofs.BuiltIns as model
use Rattle.cd_meaning.specs.Sets.{Set, ◌⊆◌, elements_of}
use Rattle.cd_typing.specs.Typ.{BuiltIn}
use Rattle.cd_typing.proofs.BuiltInSets as typing
use Rattle.cd_typing.proofs.Subsets.{through}

module _ (graph : Graph) (begins : (more : Graph) × (graph ≡ built_ins ++ more)) where
  pub all_are_any : (e : Thing) → elements_of graph ANY e
  all_are_any e = subst (λ (g : Graph). elements_of g ANY e) (sym begins.1)
      (model.all_are_any begins.0 no_closure e)

  module _ (id : NodeId) (below : id.0 < length built_ins) where
    pub is_there : id.0 < length graph
    is_there = subst (λ (g : Graph). id.0 < length g) (sym begins.1)
        (let lengths = length-append built_ins begins.0 in omega (arith, lengths, below))

    pub type_in_node : BuiltIn id ⊆ elements_of graph id
    type_in_node = typing.built_in_within graph begins.0 begins.1 id below

    pub in_type : (set : Set) → set ⊆ elements_of graph id → set ⊆ BuiltIn id
    in_type set within = typing.within_built_in graph begins.0 begins.1 id below set within

    -- so it is where a call found this
    pub found_in_type : {T E : Type 0} (result : Result T E) (set : Set)
        → OnOk result (set ⊆ elements_of graph id) → OnOk result (set ⊆ BuiltIn id)
    found_in_type result set within = on_ok_weaker result (in_type set) within

    -- and in an equal graph
    pub type_stays : (same : Graph) → same ≡ graph → BuiltIn id ⊆ elements_of same id
    type_stays same is =
        subst (λ (g : Graph). BuiltIn id ⊆ elements_of g id) (sym is) type_in_node

    -- and the node holds nothing else
    pub node_in_type : elements_of graph id ⊆ BuiltIn id
    node_in_type = typing.node_within graph begins.0 begins.1 id below

    -- the node of an equal graph is within each set that the type is within
    pub node_within : (same : Graph) → same ≡ graph → (set : Set) → BuiltIn id ⊆ set
        → elements_of same id ⊆ set
    node_within same is set within =
        through (elements_of same id) (BuiltIn id) set
        (subst (λ (g : Graph). elements_of g id ⊆ BuiltIn id) (sym is) node_in_type) within
