-- Nodes that operators ask about.
use Rattle.std.specs.Prelude.{◌≡◌, ◌<◌, pos, length}
use Rattle.cd_model.specs.Formula.{Graph}
use Rattle.cd_model.specs.Thing.{Integer}
use Rattle.cd_meaning.specs.Sets.{Set, ◌⊆◌, elements_of}
use Rattle.cd_meaning.specs.Sequences.{IsSequence, IsListOf}
use Rattle.cd_typing.specs.Operators.{IsNumbers}
use Rattle.cd_operators.specs.declared.tools.Tools.{Tools}

abbrev pub IsZero : Set
IsZero d = d ≡ Integer (pos 0)

-- the sequences, the sequences of sequences, 0, and the sequences of one integer at least
pub record AreTools (graph : Graph) (tools : Tools) : Type 0 where
  pub sequences : tools.sequences.0 < length graph
  pub are_sequences : elements_of graph tools.sequences ⊆ IsSequence
  pub all_sequences : IsSequence ⊆ elements_of graph tools.sequences
  pub lists : tools.lists.0 < length graph
  pub are_lists : elements_of graph tools.lists ⊆ IsListOf IsSequence
  pub all_lists : IsListOf IsSequence ⊆ elements_of graph tools.lists
  pub zero : tools.zero.0 < length graph
  pub is_zero : elements_of graph tools.zero ⊆ IsZero
  pub all_zero : IsZero ⊆ elements_of graph tools.zero
  pub numbers : tools.numbers.0 < length graph
  pub are_numbers : elements_of graph tools.numbers ⊆ IsNumbers
  pub all_numbers : IsNumbers ⊆ elements_of graph tools.numbers
