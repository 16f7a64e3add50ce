-- Arguments and operators, one after the other.
use Rattle.std.proofs.Common.{◌<◌, length}
use Rattle.cd_sets.specs.declared.node_id.NodeId.{NodeId}
use Rattle.cd_model.specs.Formula.{Graph, IsGraph}
use Rattle.cd_model.specs.Scope.{Scope}
use Rattle.cd_model.specs.Thing.{Function}
use Rattle.cd_program.specs.Expr.{Expr, Exprs, AnExpr, Tails, ATail, Tail}
use Rattle.cd_meaning.specs.Sets.{Set, ◌⊆◌, elements_of}
use Rattle.cd_meaning.specs.Functions.{AllMapInto}
use Rattle.cd_typing.specs.Typ.{typ, IsType, Types}
use Rattle.cd_typing.specs.Typing.{Has, ArgumentsHave, TailsHave, TailHas}
use Rattle.cd_check.specs.Inner.Environment.{Nodes, AreOfTypes, Gives}
use Rattle.cd_typing.specs.Later.{IsLater}
use Rattle.cd_check.specs.Inner.Following.{Follows}
use Rattle.cd_typing.proofs.Later.{later_in}

-- fewer functions map as all do
pub fewer_map : (fewer functions arguments results : Set) → fewer ⊆ functions → AllMapInto functions arguments results
    → AllMapInto fewer arguments results
fewer_map fewer functions arguments results within all = record {
  functions_alone = λ e element inside. all.functions_alone e element (within e element inside);
  into = λ pairs has. all.into pairs (has.0, within (Function pairs) has.0 has.1);
}

module _ (scope : Scope) (old : Graph) (nodes : Nodes) (sound : IsGraph old) (self : NodeId) (below : self.0 < length old)
    (middle : Graph) (is : IsLater old middle) (new : Graph) (e : Expr) (id : NodeId)
    (gives : Gives old nodes middle (λ types t. Has scope types e t) id) (result : NodeId) (is_type : IsType (typ new result)) where
  pub argument_follows : AllMapInto (elements_of middle self) (elements_of middle id) (elements_of new result) → (rest : Exprs)
      → Follows (ArgumentsHave scope) old nodes new self (AnExpr e rest) rest result
  argument_follows all rest = record {
    is_type = is_type;
    follows = λ types of t has. (
      typ middle id,
      typ new result,
      gives.is_type,
      gives.has types of,
      is_type,
      fewer_map (elements_of old self) (elements_of middle self) (elements_of middle id) (elements_of new result)
          (later_in old middle is sound self below) all,
      has,
    );
  }

pub tail_follows : (scope : Scope) (old : Graph) (nodes : Nodes) (new : Graph) (self result : NodeId) (tail : Tail) (rest : Tails)
    → IsType (typ new result)
    → ((types : Types) → AreOfTypes old nodes types → TailHas scope types (typ old self) tail (typ new result))
    → Follows (TailsHave scope) old nodes new self (ATail tail rest) rest result
tail_follows scope old nodes new self result tail rest is_type has = record {
  is_type = is_type;
  follows = λ types of t more. (typ new result, is_type, has types of, more);
}
