-- What things answer in a graph, however closures map: one word for elements and for values.
use Rattle.std.proofs.Common.{ℕ, true}
use Rattle.cd_sets.specs.declared.question.Question.{Question}
use Rattle.cd_model.specs.Formula.{Graph, nodes, at_formula}
use Rattle.cd_model.specs.Membership.{Reader, Answers, Labelled, Mapping, asked}
use Rattle.cd_model.specs.Thing.{Thing, Fields, Pairs}
use Rattle.cd_model.specs.Types as types

module _ (graph : Graph) (closed : ℕ → Mapping) where
  abbrev pub reader_of : Thing → Reader
  reader_of is = at_formula (types.reader (nodes graph) closed is)

  abbrev pub answers_of : Thing → Answers
  answers_of = types.answers (nodes graph) closed

  abbrev pub labelled_of : Fields → Labelled
  labelled_of = types.labelled (nodes graph) closed

  abbrev pub mapping_of : Pairs → Mapping
  mapping_of = types.mapping (nodes graph) closed

-- each question that a thing answers with true has the fact
abbrev pub IsAskedFact : (Question → Type 0) → Answers → Type 0
IsAskedFact Fact answers = (question : Question) → asked answers question true → Fact question
