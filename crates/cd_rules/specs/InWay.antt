-- What it is for the parts of a pair, or of an XML thing, to be in the questions of a way.
use Rattle.std.specs.Prelude.{true, List, [], ◌∷◌}
use Rattle.cd_model.specs.Membership.{Answers, asked}
use Rattle.cd_rules.specs.Needs.{Way}

-- each part is in the question that stands at its place, and there are as many of these as of those
abbrev pub AreInWay : (parts : List Answers) → Way → Type 0
AreInWay [] [] = Unit {0}
AreInWay (answers ∷ parts) (question ∷ way) = asked answers question true × AreInWay parts way
AreInWay [] (question ∷ way) = ⊥
AreInWay (answers ∷ parts) [] = ⊥
