use Rattle.std.proofs.Common.{refl}
use Rattle.std.specs.Fmt.{digits}
use Rattle.cd_model.proofs.examples.canonical_examples.Goals as goal

-- the digits of a number compute
pub returns-clause-integer : goal.returns-clause-integer
unfolding digits
returns-clause-integer c = refl

pub returns-clause-unseen : goal.returns-clause-unseen
unfolding digits
returns-clause-unseen c = refl

pub returns-clause-runs : goal.returns-clause-runs
unfolding digits
returns-clause-runs c = refl

pub returns-clause-nested : goal.returns-clause-nested
unfolding digits
returns-clause-nested c = refl

pub returns-clause-tuple : goal.returns-clause-tuple
unfolding digits
returns-clause-tuple c = refl

pub returns-clause-record_text : goal.returns-clause-record_text
unfolding digits
returns-clause-record_text c = refl

pub returns-clause-xml : goal.returns-clause-xml
unfolding digits
returns-clause-xml c = refl

pub returns-clause-function : goal.returns-clause-function
unfolding digits
returns-clause-function c = refl

pub returns-clause-least : goal.returns-clause-least
unfolding digits
returns-clause-least c = refl

pub returns-clause-escapes : goal.returns-clause-escapes
unfolding digits
returns-clause-escapes c = refl

pub returns-clause-two_attributes : goal.returns-clause-two_attributes
unfolding digits
returns-clause-two_attributes c = refl

pub returns-clause-nil_as_item : goal.returns-clause-nil_as_item
unfolding digits
returns-clause-nil_as_item c = refl

pub returns-clause-one_item : goal.returns-clause-one_item
unfolding digits
returns-clause-one_item c = refl

pub returns-clause-character_at_the_end : goal.returns-clause-character_at_the_end
unfolding digits
returns-clause-character_at_the_end c = refl
