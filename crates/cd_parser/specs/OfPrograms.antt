-- What rules of programs make of parts beside which tokens stand.
use Rattle.cd_syntax.specs.declared.tokens.Span.{Span}
use Rattle.cd_grammar.specs.declared.make.Two.{Two}
use Rattle.cd_grammar.specs.declared.make.Two.TheVariants as two
use Rattle.cd_grammar.specs.declared.make.Three.{Three}
use Rattle.cd_grammar.specs.declared.make.Three.TheVariants as three
use Rattle.cd_grammar.specs.Parts.{Part, Junk}
use Rattle.cd_grammar.specs.ProgramActions as programs

-- after a token
abbrev pub of_second : Two → Span → Part → Part
of_second two.Second here b = b
of_second (two.Call word) here b = programs.call word here b
of_second two.Splice here b = programs.splice b
of_second two.FieldStep here b = programs.field_step b
of_second two.NoItems here b = programs.no_items here
of_second two.NoExprFields here b = programs.no_expr_fields here
of_second _ here b = Junk

-- between two tokens
abbrev pub of_middle : Three → Span → Part → Part
of_middle three.Between here b = b
of_middle three.TupleExpr here b = programs.tuple_expr here b
of_middle three.SequenceExpr here b = programs.sequence_expr here b
of_middle three.RecordExpr here b = programs.record_expr here b
of_middle _ here b = Junk

-- on both sides of a token
abbrev pub of_ends : Three → Span → (a c : Part) → Part
of_ends three.Signature here a c = programs.signature a c
of_ends three.SeparateSignatures here a c = programs.next_signatures a c
of_ends three.Branch here a c = programs.branch a c
of_ends (three.FirstOperand op) here a c = programs.first_operand op a c
of_ends (three.NextOperand op) here a c = programs.next_operand op a c
of_ends three.FirstWithout here a c = programs.first_without a c
of_ends three.NextWithout here a c = programs.next_without a c
of_ends three.Source here a c = programs.source a c
of_ends three.TwoExprs here a c = programs.two_exprs a c
of_ends three.NextExpr here a c = programs.next_expr a c
of_ends three.ExprField here a c = programs.expr_field a c
of_ends three.SeparateExprFields here a c = programs.next_expr_fields a c
of_ends _ here a c = Junk
