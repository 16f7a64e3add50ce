-- What the walk of the code goes by, as plain data.
use Rattle.std.specs.Prelude.{ℕ, List, ◌∷◌, ◌++◌, Option, Some, None, map, take, drop}
use Rattle.cd_syntax.specs.Name.{Name, IsLabel}
use Rattle.cd_syntax.specs.TypeTree.{Kind, Tuple, Arrows as ArrowsOf, Trees}
use Rattle.cd_syntax.specs.PlainTree.{plain_declarations}
use Rattle.cd_model.specs.AllOf.{AllOf}
use Rattle.cd_model.specs.Formula.{Field}
use Rattle.cd_graph.specs.PlainFormula.{plain_field}
use Rattle.cd_graph.specs.declared.fields.Field.{Field as CodeField}
use Rattle.cd_resolve.specs.Inner.ScopeLevels.{ScopeLevel, ScopeLevels}
use Rattle.cd_resolve.specs.Inner.Leaves.{Joint, Pairs, Arrows}
use Rattle.cd_resolve.specs.declared.scope_level.ScopeLevel.{ScopeLevel as CodeLevel}
use Rattle.cd_resolve.specs.declared.state.Joint.{Joint as CodeJoint}
use Rattle.cd_resolve.specs.declared.state.Joint.TheVariants as joint

abbrev pub plain_level : CodeLevel → ScopeLevel
plain_level level = record {
  declarations = plain_declarations level.declarations.now;
  first = level.first;
}

abbrev pub plain_levels : List CodeLevel → ScopeLevels
plain_levels levels = map plain_level levels

abbrev pub plain_joint : CodeJoint → Joint
plain_joint joint.Pairs = Pairs
plain_joint joint.Arrows = Arrows

-- a label, and what a record type says of it
abbrev pub plain_one : Name × CodeField → Name × Field
plain_one field = (field.0, plain_field field.1)

-- each of these has a label
abbrev pub HaveLabels : {X : Type 0} → List (Name × X) → Type 0
HaveLabels named = AllOf (λ one. IsLabel one.0) named

-- one more thing, at a place in a list
abbrev pub put : {X : Type 0} → X → Option ℕ → List X → List X
put one None list = list
put one (Some index) list = take index list ++ one ∷ drop index list

-- a tuple, or a chain of arrows
abbrev pub chain_of : CodeJoint → Trees → Kind
chain_of joint.Pairs trees = Tuple trees
chain_of joint.Arrows trees = ArrowsOf trees
