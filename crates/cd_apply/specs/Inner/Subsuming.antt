-- Whether a question is subsumed by another, as a test.
use Rattle.std.specs.Prelude.{◌&&◌, Bool}
use Rattle.std.specs.List.{list_all}
use Rattle.cd_sets.specs.IdSet.{holds}
use Rattle.cd_sets.specs.declared.question.Question.{Question}

abbrev pub is_subsumed_by : Question → Question → Bool
is_subsumed_by question other =
    list_all (holds question.pos) other.pos && list_all (holds question.neg) other.neg
