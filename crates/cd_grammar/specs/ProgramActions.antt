-- What each rule makes of programs; `here` is from the first character of its first token to the
-- end of its last one. A part that is not of the form that a rule wants gives nothing of use.
use Rattle.std.specs.Prelude.{ℕ, List, [], ◌∷◌, ◌++◌, Some, None}
use Rattle.cd_syntax.specs.declared.tokens.Span.{Span}
use Rattle.cd_syntax.specs.declared.tokens.Token.{Token}
use Rattle.cd_syntax.specs.declared.constant.Constant.TheVariants as constants
use Rattle.cd_program.specs.declared.operator.Op.{Op}
use Rattle.cd_program.specs.declared.operator.BuiltIn.{BuiltIn}
use Rattle.cd_program.specs.declared.operator.Form.{Form}
use Rattle.cd_program.specs.Expr.{Expr, expr, Constant, Variable, Tuple, Sequence, Record, Xml}
use Rattle.cd_program.specs.Expr.{Function, Apply, Let, If, Chain, Call, One, Splice, Run}
use Rattle.cd_program.specs.Expr.{Operand, Without, FunctionTree, function, Branch}
use Rattle.cd_program.specs.Expr.{Signature}
use Rattle.cd_program.specs.Expr.{exprs_of, items_of, fields_of, tails_of, branches_of, of_form}
use Rattle.cd_query.specs.Core as queries
use Rattle.cd_query.specs.Core.{Step, ToField, ToChild, ToAttribute}
use Rattle.cd_grammar.specs.Parts.{Part, AnExpr, Exprs, AChain, Items, ExprFields, Branches}
use Rattle.cd_grammar.specs.Parts.{Signatures, Steps, Sources, AFunction, AProgram, token_in, tree_in}
use Rattle.cd_grammar.specs.Parts.{names_in, expr_in, exprs_in, chain_in, items_in, expr_fields_in}
use Rattle.cd_grammar.specs.Parts.{branches_in, signatures_in, steps_in, sources_in, function_in}
use Rattle.cd_grammar.specs.Parts.{program_in}
use Rattle.cd_grammar.specs.Parts.{of_one, of_two, of_three, of_four}
use Rattle.cd_grammar.specs.Actions.{name_in, characters_in, constant_of}

-- constants and variables
abbrev pub constant_expr : Span → Part → Part
constant_expr here is =
    of_one (token_in is)
    (λ one. of_one (constant_of one.kind) (λ it. AnExpr (expr here (Constant it))))

abbrev pub variable_expr : Span → Part → Part
variable_expr here word =
    of_one (token_in word) (λ one. AnExpr (expr here (Variable (name_in one.kind))))

-- rows of expressions
abbrev pub two_exprs : Part → Part → Part
two_exprs first second =
    of_two (expr_in first) (expr_in second) (λ one other. Exprs (one ∷ other ∷ []))

abbrev pub next_expr : Part → Part → Part
next_expr row is = of_two (exprs_in row) (expr_in is) (λ all one. Exprs (all ++ one ∷ []))

abbrev pub apply : Span → Part → Part
apply here row = of_one (exprs_in row) (λ all. AnExpr (expr here (Apply (exprs_of all))))

abbrev pub tuple_expr : Span → Part → Part
tuple_expr here row = of_one (exprs_in row) (λ all. AnExpr (expr here (Tuple (exprs_of all))))

-- operators of one level, and words before an operand
abbrev pub first_operand : Op → Part → Part → Part
first_operand op first second =
    of_two (expr_in first) (expr_in second) (λ one other. AChain one (Operand op other ∷ []))

abbrev pub next_operand : Op → Part → Part → Part
next_operand op chain is =
    of_two (chain_in chain) (expr_in is)
    (λ all one. AChain all.0 (all.1 ++ Operand op one ∷ []))

abbrev pub first_without : Part → Part → Part
first_without first label =
    of_two (expr_in first) (token_in label)
    (λ one word. AChain one (Without (name_in word.kind) ∷ []))

abbrev pub next_without : Part → Part → Part
next_without chain label =
    of_two (chain_in chain) (token_in label)
    (λ all word. AChain all.0 (all.1 ++ Without (name_in word.kind) ∷ []))

abbrev pub chain : Span → Part → Part
chain here is = of_one (chain_in is) (λ all. AnExpr (expr here (Chain all.0 (tails_of all.1))))

abbrev pub call : BuiltIn → Span → Part → Part
call word here is = of_one (expr_in is) (λ one. AnExpr (expr here (Call word one)))

-- steps of a path: one, and one before others
abbrev pub to_field : (word : Token) → Step
to_field word = ToField word.span (name_in word.kind)

abbrev pub to_child : (sign word : Token) → Step
to_child sign word = ToChild sign.span word.span (name_in word.kind)

abbrev pub to_attribute : (sign word : Token) → Step
to_attribute sign word = ToAttribute sign.span word.span (name_in word.kind)

abbrev pub field_step : Part → Part
field_step label = of_one (token_in label) (λ word. Steps (to_field word ∷ []))

abbrev pub child_step : Part → Part → Part
child_step sign label =
    of_two (token_in sign) (token_in label) (λ slash word. Steps (to_child slash word ∷ []))

abbrev pub attribute_step : Part → Part → Part
attribute_step sign label =
    of_two (token_in sign) (token_in label) (λ slash word. Steps (to_attribute slash word ∷ []))

abbrev pub before_field_step : Part → Part → Part
before_field_step label steps =
    of_two (token_in label) (steps_in steps) (λ word all. Steps (to_field word ∷ all))

abbrev pub before_child_step : Part → Part → Part → Part
before_child_step sign label steps =
    of_three (token_in sign) (token_in label) (steps_in steps)
    (λ slash word all. Steps (to_child slash word ∷ all))

abbrev pub before_attribute_step : Part → Part → Part → Part
before_attribute_step sign label steps =
    of_three (token_in sign) (token_in label) (steps_in steps)
    (λ slash word all. Steps (to_attribute slash word ∷ all))

abbrev pub path : Span → Part → Part → Part
path here first steps =
    of_two (expr_in first) (steps_in steps)
    (λ one all. AnExpr (queries.path here here one [] all))

-- sources of a select
abbrev pub source : Part → Part → Part
source pattern value =
    of_two (tree_in pattern) (expr_in value)
    (λ takes one. Sources (record { pattern = takes; value = one } ∷ []) None)

abbrev pub source_where : (pattern value condition : Part) → Part
source_where pattern value condition =
    of_three (tree_in pattern) (expr_in value) (expr_in condition)
    (λ takes one test. Sources (record { pattern = takes; value = one } ∷ []) (Some test))

abbrev pub before_sources : (pattern value sources : Part) → Part
before_sources pattern value sources =
    of_three (tree_in pattern) (expr_in value) (sources_in sources)
    (λ takes one all. Sources (record { pattern = takes; value = one } ∷ all.0) all.1)

abbrev pub selecting : Span → (head sources : Part) → Part
selecting here head sources =
    of_two (expr_in head) (sources_in sources)
    (λ one all. AnExpr (queries.select here all.0 all.1 one))

-- sequences
abbrev pub run_item : Part → Part
run_item is = of_one (token_in is) (λ one. Items (Run (characters_in one.kind) ∷ []))

abbrev pub one_item : Part → Part
one_item is = of_one (expr_in is) (λ one. Items (One one ∷ []))

abbrev pub splice : Part → Part
splice is = of_one (expr_in is) (λ one. Items (Splice one ∷ []))

abbrev pub next_items : Part → Part → Part
next_items items more = of_two (items_in items) (items_in more) (λ all rest. Items (all ++ rest))

abbrev pub no_items : Span → Part
no_items here = AnExpr (expr here (Sequence (items_of [])))

abbrev pub sequence_expr : Span → Part → Part
sequence_expr here items =
    of_one (items_in items) (λ all. AnExpr (expr here (Sequence (items_of all))))

-- records
abbrev pub expr_field : Part → Part → Part
expr_field label is =
    of_two (token_in label) (expr_in is)
    (λ word one. ExprFields (record {
      label = name_in word.kind;
      at = word.span.from;
      expr = one;
    } ∷ []))

abbrev pub next_expr_fields : Part → Part → Part
next_expr_fields fields more =
    of_two (expr_fields_in fields) (expr_fields_in more) (λ all rest. ExprFields (all ++ rest))

abbrev pub no_expr_fields : Span → Part
no_expr_fields here = AnExpr (expr here (Record (fields_of [])))

abbrev pub record_expr : Span → Part → Part
record_expr here fields =
    of_one (expr_fields_in fields) (λ all. AnExpr (expr here (Record (fields_of all))))

-- XML elements; attributes that are not written stand at the place of the `>`
abbrev pub label_expr : Span → Part → Part
label_expr here word =
    of_one (token_in word)
    (λ one. AnExpr (expr here (Constant (constants.Atom (name_in one.kind)))))

abbrev pub no_attributes_expr : (at : ℕ) → Expr
no_attributes_expr at = expr (record { from = at; to = at }) (Record (fields_of []))

abbrev pub xml_expr : Span → (tag close content : Part) → Part
xml_expr here tag close content =
    of_three (expr_in tag) (token_in close) (expr_in content)
    (λ name end inner. AnExpr (expr here (Xml name (no_attributes_expr end.span.from) inner)))

abbrev pub xml_expr_with : Span → (tag attributes content : Part) → Part
xml_expr_with here tag attributes content =
    of_three (expr_in tag) (expr_in attributes) (expr_in content)
    (λ name all inner. AnExpr (expr here (Xml name all inner)))

-- branches
abbrev pub branch : Part → Part → Part
branch pattern body =
    of_two (tree_in pattern) (expr_in body)
    (λ takes gives. Branches (record { pattern = takes; body = gives } ∷ []))

abbrev pub next_branches : Part → Part → Part
next_branches branches more =
    of_two (branches_in branches) (branches_in more) (λ all rest. Branches (all ++ rest))

abbrev pub matching : Form → Span → Part → Part → Part
matching form here value branches =
    of_two (expr_in value) (branches_in branches)
    (λ one all. AnExpr (expr here (of_form form one (branches_of all))))

abbrev pub let_in : Span → (pattern value rest : Part) → Part
let_in here pattern value rest =
    of_three (tree_in pattern) (expr_in value) (expr_in rest)
    (λ takes one inner. AnExpr (expr here (Let takes one inner)))

abbrev pub if_else : Span → (condition one other : Part) → Part
if_else here condition one other =
    of_three (expr_in condition) (expr_in one) (expr_in other)
    (λ test then_one else_one. AnExpr (expr here (If test then_one else_one)))

-- functions
abbrev pub signature : Part → Part → Part
signature argument result =
    of_two (tree_in argument) (tree_in result)
    (λ one other. Signatures (record { takes = one; gives = other } ∷ []))

abbrev pub next_signatures : Part → Part → Part
next_signatures signatures more =
    of_two (signatures_in signatures) (signatures_in more) (λ all rest. Signatures (all ++ rest))

-- without a name, the place of the name is that of the word `fun`
abbrev pub unnamed_function : Span → (word interface branches : Part) → Part
unnamed_function here word interface branches =
    of_three (token_in word) (signatures_in interface) (branches_in branches)
    (λ fun arrows all.
    let at = fun.span.from in
    AnExpr (expr here (Function (function at None at arrows (branches_of all)))))

-- with one
abbrev pub named : (word name : Token) → List Signature → List Branch → FunctionTree
named word name arrows all =
    function word.span.from (Some (name_in name.kind)) name.span.from arrows (branches_of all)

abbrev pub named_function : Span → (word name interface branches : Part) → Part
named_function here word name interface branches =
    of_four (token_in word) (token_in name) (signatures_in interface) (branches_in branches)
    (λ fun one arrows all. AnExpr (expr here (Function (named fun one arrows all))))

abbrev pub declared_function : (word name interface branches : Part) → Part
declared_function word name interface branches =
    of_four (token_in word) (token_in name) (signatures_in interface) (branches_in branches)
    (λ fun one arrows all. AFunction (named fun one arrows all))

-- programs
abbrev pub no_program : Part
no_program = AProgram [] []

abbrev pub first_type : Part → Part
first_type names = of_one (names_in names) (λ all. AProgram all [])

abbrev pub first_function : Part → Part
first_function is = of_one (function_in is) (λ one. AProgram [] (one ∷ []))

abbrev pub next_type : Part → Part → Part
next_type program names =
    of_two (program_in program) (names_in names) (λ both all. AProgram (both.0 ++ all) both.1)

abbrev pub next_function : Part → Part → Part
next_function program is =
    of_two (program_in program) (function_in is)
    (λ both one. AProgram both.0 (both.1 ++ one ∷ []))
