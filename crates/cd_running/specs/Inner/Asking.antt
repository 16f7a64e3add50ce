-- What is known while queries are asked.
use Rattle.std.specs.Prelude.{ℕ, Bool, true, false}
use Rattle.cd_sets.specs.declared.node_id.NodeId.{NodeId}
use Rattle.cd_syntax.specs.TypeTree.{NoDeclaration}
use Rattle.cd_model.specs.Formula.{Graph}
use Rattle.cd_model.specs.StandsFor.{StandsFor}
use Rattle.cd_model.specs.Thing.{Thing, IsElement}
use Rattle.cd_model.specs.Written.{Written}
use Rattle.cd_replies.specs.Texts.{type_of}
use Rattle.cd_replies.specs.Within.{IsIn, IsOutside, IsWithin}
use Rattle.cd_running.specs.Inner.WorkQueries.{query_tree}

-- what the query of a number asks of
abbrev pub query_type : (number : ℕ) → Written
query_type number = type_of NoDeclaration (query_tree number)

-- whether the query of a number is answered with yes; of no, an element shows it
abbrev pub AnswersQuery : (number : ℕ) → Bool → Type 0
AnswersQuery number true = IsWithin (query_type number) (query_type 99)
AnswersQuery number false =
    (e : Thing) × IsElement e × IsIn e (query_type number) × IsOutside e (query_type 99)

-- what stands for a type in the one graph does so in the other
abbrev pub Keeps : (old new : Graph) → Type 0
Keeps old new = (id : NodeId) (type : Written) → StandsFor old id type → StandsFor new id type
