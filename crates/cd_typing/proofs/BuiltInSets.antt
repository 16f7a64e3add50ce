-- The built-in nodes of a graph hold what the built-in types do.
use Rattle.std.proofs.Common.{◌≡◌, ◌<◌, ◌++◌, sym, subst, length}
use Rattle.cd_sets.specs.declared.node_id.NodeId.{NodeId}
use Rattle.cd_model.specs.BuiltIns.{built_ins}
use Rattle.cd_model.specs.Formula.{Graph}
use Rattle.cd_model.proofs.SoundBuiltIns.{built_ins_are_sound}
use Rattle.cd_meaning.specs.Sets.{Set, ◌⊆◌, elements_of}
use Rattle.cd_typing.specs.Typ.{BuiltIn}
use Rattle.cd_typing.proofs.Later.{in_later, in_earlier}
use Rattle.cd_typing.proofs.Subsets.{through}

module _ (graph more : Graph) (begins : graph ≡ built_ins ++ more) (id : NodeId) (below : id.0 < length built_ins) where
  pub built_in_within : BuiltIn id ⊆ elements_of graph id
  built_in_within = subst (λ whole. BuiltIn id ⊆ elements_of whole id) (sym begins) (in_later built_ins more built_ins_are_sound id below)

  pub node_within : elements_of graph id ⊆ BuiltIn id
  node_within = subst (λ whole. elements_of whole id ⊆ BuiltIn id) (sym begins) (in_earlier built_ins more built_ins_are_sound id below)

  pub within_built_in : (set : Set) → set ⊆ elements_of graph id → set ⊆ BuiltIn id
  within_built_in set within = through set (elements_of graph id) (BuiltIn id) within node_within
