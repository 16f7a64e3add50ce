-- What may stand at labels, by questions.
use Rattle.std.specs.Prelude.{◌≡◌, Bool, true, List, [], ◌∷◌, Option, Some, None, bytes_eq}
use Rattle.std.specs.Prelude.{if◌then◌else◌}
use Rattle.cd_sets.specs.declared.node_id.NodeId.{NodeId}
use Rattle.cd_sets.specs.declared.question.Question.{Question}
use Rattle.cd_syntax.specs.Name.{Name}
use Rattle.cd_model.specs.AllOf.{AnyOf}
use Rattle.cd_model.specs.Formula.{asked}
use Rattle.cd_model.specs.Thing.{Thing}
use Rattle.cd_model.specs.Types.{Answers}

-- nothing may stand at a label, if it is optional, or a thing in one of the questions
pub record Entry : Type 0 where
  pub optional : Bool
  pub questions : List Question

-- the entry of a label; at a label without one there may be nothing, or a thing in one of these
abbrev pub entry_in : List (Name × Entry) → List Question → Name → Entry
entry_in [] every label = record { optional = true; questions = every }
entry_in (one ∷ entries) every label =
    if bytes_eq one.0 label then one.1 else entry_in entries every label

-- things, by what they answer
module _ (answers : Thing → Answers NodeId) where
  abbrev pub InOneQuestion : List Question → Thing → Type 0
  InOneQuestion questions d = AnyOf (λ question. asked (answers d) question true) questions

  abbrev pub IsInEntry : Option Thing → Entry → Type 0
  IsInEntry None entry = entry.optional ≡ true
  IsInEntry (Some d) entry = InOneQuestion entry.questions d
