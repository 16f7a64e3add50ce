use Rattle.cd_tasks.proofs.WaysOfWords.{ways_are}
use Rattle.cd_tasks.proofs.laws.full_words_are_ways.Goals as goal

pub returns : goal.returns
returns c = ways_are
