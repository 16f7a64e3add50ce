-- What is said of a rule that is not met.
use Rattle.std.specs.Prelude.{ℕ, List, codes}
use Rattle.cd_typing.specs.declared.rule.Rule.{Rule}
use Rattle.cd_typing.specs.declared.rule.Rule.TheVariants as rule

abbrev pub text_of : Rule → List ℕ
text_of rule.Splice = codes "splice"
text_of rule.Tag = codes "tag"
text_of rule.Attributes = codes "attributes"
text_of rule.NoBranch = codes "no branch"
text_of rule.Result = codes "result"
text_of rule.NotFunction = codes "not a function"
text_of rule.Argument = codes "argument"
text_of rule.Condition = codes "condition"
text_of rule.Sequence = codes "sequence"
text_of rule.BranchSequence = codes "branch sequence"
text_of rule.Exception = codes "exception"
text_of rule.Operand = codes "operand"
text_of rule.Divisor = codes "divisor"
text_of rule.Record = codes "record"
text_of rule.Field = codes "field"
text_of rule.Comparison = codes "comparison"
text_of rule.Text = codes "text"
text_of rule.Numbers = codes "numbers"
text_of rule.MainResult = codes "main result"
