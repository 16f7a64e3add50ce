-- One step of a walk over a list of trees.
use Rattle.std.proofs.Common.{◌≡◌, refl, ◌∙◌, ap, ap₂, ℕ, ◌+◌, Bool, List, [], ◌∷◌, ◌++◌}
use Rattle.std.proofs.lemmas.List.{map_push}
use Rattle.cd_sets.specs.declared.node_id.NodeId.{NodeId}
use Rattle.cd_syntax.specs.Name.{Name}
use Rattle.cd_syntax.specs.TypeTree.{Tree, Trees, NoTree, ATree, Signs, ASign, Fields, AField}
use Rattle.cd_syntax.specs.TypeTree.{Declarations, ADeclaration}
use Rattle.cd_syntax.specs.WellMade.{HaveTwoTrees}
use Rattle.cd_graph.specs.PlainFormula.{plain_named}
use Rattle.cd_graph.specs.declared.fields.Field.{Field as CodeField}
use Rattle.cd_resolve.specs.declared.state.Joint.{Joint as CodeJoint}
use Rattle.cd_resolve.specs.declared.state.Joint.TheVariants as joint
use Rattle.cd_resolve.specs.Inner.ScopeLevels.{ScopeLevels}
use Rattle.cd_shared.specs.Equation.{Equations}
use Rattle.cd_resolve.specs.Inner.PlainState.{plain_joint, plain_one, chain_of}
use Rattle.cd_resolve.specs.Inner.Walk.{Read, one_more, settled, chained_all, walked, walked_kind, walked_trees}
use Rattle.cd_resolve.specs.Inner.Walk.{walked_signs, walked_fields, walked_declared}

module _ (first : ℕ) (names : List (Name × NodeId)) (levels : ScopeLevels) where
  -- what the first tree gives goes after what was made
  pub signs_more : (kept : Bool) (is : Tree) (rest : Signs) (made more : List (Bool × NodeId))
      (s next : Equations) (at : NodeId)
      → (at, next) ≡ walked first names levels is s → more ≡ made ++ (kept, at) ∷ []
      → walked_signs first names levels rest more next ≡ walked_signs first names levels (ASign kept is rest) made s
  signs_more kept is rest made more s next at one grown =
      ap (λ all. walked_signs first names levels rest all next) grown
      ∙ ap (λ (read : Read). walked_signs first names levels rest (one_more made (kept, read.0)) read.1) one

  pub fields_more : (label copied : Name) (place : ℕ) (optional : Bool) (is : Tree) (rest : Fields)
      (made more : List (Name × CodeField)) (s next : Equations) (at : NodeId)
      → (at, next) ≡ walked first names levels is s → copied ≡ label
      → more ≡ made ++ (copied, record { optional = optional; node = at }) ∷ []
      → walked_fields first names levels rest (plain_named more) next
      ≡ walked_fields first names levels (AField label place optional is rest) (plain_named made) s
  fields_more label copied place optional is rest made more s next at one same grown =
      ap (λ all. walked_fields first names levels rest all next)
      (ap plain_named grown ∙ map_push plain_one made (copied, record { optional = optional; node = at }))
      ∙ ap (λ (name : Name). walked_fields first names levels rest
      (one_more (plain_named made) (name, record { optional = optional; type = at })) next) same
      ∙ ap (λ (read : Read). walked_fields first names levels rest
      (one_more (plain_named made) (label, record { optional = optional; type = read.0 })) read.1) one

  -- the name whose tree was read is settled
  pub declared_more : (name : Name) (place number next : ℕ) (is : Tree) (rest : Declarations)
      (s read settled_too : Equations) (root : NodeId) → (root, read) ≡ walked first names levels is s
      → settled_too ≡ settled number (root, read)
      → next ≡ number + 1
      → walked_declared first names levels next rest settled_too
      ≡ walked_declared first names levels number (ADeclaration name place is rest) s
  declared_more name place number next is rest s read settled_too root one same after =
      ap₂ (λ (at : ℕ) (all : Equations). walked_declared first names levels at rest all) after
      (same ∙ ap (settled number) one)

  -- a chain of two trees or more is that of their nodes
  pub chain_is : (joint : CodeJoint) (trees : Trees) (s : Equations) → HaveTwoTrees trees
      → chained_all first (plain_joint joint) (walked_trees first names levels trees [] s)
      ≡ walked_kind first names levels (chain_of joint trees) s
  chain_is joint NoTree s two = absurd two
  chain_is joint (ATree one NoTree) s two = absurd two
  chain_is joint.Pairs (ATree one (ATree next rest)) s two = refl
  chain_is joint.Arrows (ATree one (ATree next rest)) s two = refl
