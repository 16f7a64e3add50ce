-- The places that a part holds: those of functions and of the patterns of branches. A token and a tree have one, where
-- they begin. What places an expression and a function have is any walk over them.
use Rattle.std.proofs.Common.{ℕ, List, [], ◌∷◌, ◌++◌, Option, Some, None}
use Rattle.std.specs.Prelude.{flat_map}
use Rattle.cd_syntax.specs.declared.tokens.Span.{Span}
use Rattle.cd_syntax.specs.declared.constant.Constant.{Constant as AConstant}
use Rattle.cd_syntax.specs.Name.{Name}
use Rattle.cd_syntax.specs.TypeTree.{Tree, Declaration}
use Rattle.cd_program.specs.declared.operator.BuiltIn.{BuiltIn}
use Rattle.cd_program.specs.declared.operator.Form.{Form}
use Rattle.cd_program.specs.Expr as exprs
use Rattle.cd_program.specs.Expr.{Expr, expr, Item, Tail, Branch, Signature, FunctionTree, function, of_form}
use Rattle.cd_query.specs.Core.{Step, ToField, ToChild, ToAttribute, Source}
use Rattle.cd_placed.specs.Patterns.{start_of}
use Rattle.cd_grammar.specs.Parts as parts
use Rattle.cd_grammar.specs.Parts.{Part, AToken, ATree, AnExpr, Exprs, AChain, Items, ExprFields, Branches, Steps}
use Rattle.cd_grammar.specs.Parts.{Sources, AFunction, AProgram}
use Rattle.cd_placed.proofs.Once.{Follows}

-- places of the steps of a path: a sign and a label at which a pattern begins
abbrev pub of_step : Step → List ℕ
of_step (ToField word label) = []
of_step (ToChild sign word label) = sign.from ∷ word.from ∷ []
of_step (ToAttribute sign word label) = sign.from ∷ []

-- places of items, fields, operators, branches, sources and conditions, by those of expressions
module _ (E : Expr → List ℕ) where
  abbrev pub of_item : Item → List ℕ
  of_item (exprs.One is) = E is
  of_item (exprs.Splice is) = E is
  of_item (exprs.Run characters) = []

  abbrev pub of_field : exprs.Field → List ℕ
  of_field one = E one.expr

  abbrev pub of_tail : Tail → List ℕ
  of_tail (exprs.Operand op is) = E is
  of_tail (exprs.Without label) = []
  of_tail (exprs.Select label) = []

  abbrev pub of_branch : Branch → List ℕ
  of_branch one = start_of one.pattern ∷ E one.body

  abbrev pub of_source : Source → List ℕ
  of_source one = start_of one.pattern ∷ E one.value

  abbrev pub of_condition : Option Expr → List ℕ
  of_condition None = []
  of_condition (Some is) = E is

  abbrev pub in_sources : List Source × Option Expr → List ℕ
  in_sources all = flat_map of_source all.0 ++ of_condition all.1

-- a walk over expressions and functions finds no place more often than their parts have it
pub record IsWalk (E : Expr → List ℕ) (F : FunctionTree → List ℕ) : Type 0 where
  pub constant : (here : Span) (is : AConstant) → Follows (E (expr here (exprs.Constant is))) []
  pub variable : (here : Span) (name : Name) → Follows (E (expr here (exprs.Variable name))) []
  pub tuple : (here : Span) (all : List Expr)
      → Follows (E (expr here (exprs.Tuple (exprs.exprs_of all)))) (flat_map E all)
  pub apply : (here : Span) (all : List Expr)
      → Follows (E (expr here (exprs.Apply (exprs.exprs_of all)))) (flat_map E all)
  pub sequence : (here : Span) (all : List Item)
      → Follows (E (expr here (exprs.Sequence (exprs.items_of all)))) (flat_map (of_item E) all)
  pub fields : (here : Span) (all : List exprs.Field)
      → Follows (E (expr here (exprs.Record (exprs.fields_of all)))) (flat_map (of_field E) all)
  pub xml : (here : Span) (tag attributes content : Expr)
      → Follows (E (expr here (exprs.Xml tag attributes content))) (E tag ++ (E attributes ++ E content))
  pub chain : (here : Span) (first : Expr) (rest : List Tail)
      → Follows (E (expr here (exprs.Chain first (exprs.tails_of rest)))) (E first ++ flat_map (of_tail E) rest)
  pub call : (word : BuiltIn) (here : Span) (is : Expr) → Follows (E (expr here (exprs.Call word is))) (E is)
  pub matching : (form : Form) (here : Span) (value : Expr) (all : List Branch)
      → Follows (E (expr here (of_form form value (exprs.branches_of all)))) (E value ++ flat_map (of_branch E) all)
  pub let_in : (here : Span) (pattern : Tree) (value rest : Expr)
      → Follows (E (expr here (exprs.Let pattern value rest))) (start_of pattern ∷ E value ++ E rest)
  pub if_else : (here : Span) (condition one other : Expr)
      → Follows (E (expr here (exprs.If condition one other))) (E condition ++ (E one ++ E other))
  pub of_function : (here : Span) (is : FunctionTree) → Follows (E (expr here (exprs.Function is))) (F is)
  pub branches : (word : ℕ) (name : Option Name) (name_at : ℕ) (interface : List Signature) (all : List Branch)
      → Follows (F (function word name name_at interface (exprs.branches_of all))) (word ∷ flat_map (of_branch E) all)

-- a thing is read and has its places, or none is
pub data IsRead {A : Type 0} (places : A → List ℕ) : Option A → List ℕ → Type 0 where
  missing : (all : List ℕ) → IsRead places None all
  found : (one : A) → IsRead places (Some one) (places one)

module _ (E : Expr → List ℕ) (F : FunctionTree → List ℕ) where
  abbrev pub held : Part → List ℕ
  held (AToken is) = is.span.from ∷ []
  held (ATree is) = start_of is ∷ []
  held (AnExpr is) = E is
  held (Exprs all) = flat_map E all
  held (AChain first rest) = E first ++ flat_map (of_tail E) rest
  held (Items all) = flat_map (of_item E) all
  held (ExprFields all) = flat_map (of_field E) all
  held (Branches all) = flat_map (of_branch E) all
  held (Steps all) = flat_map of_step all
  held (Sources all condition) = in_sources E (all, condition)
  held (AFunction is) = F is
  held (AProgram types functions) = flat_map F functions
  held _ = []

  abbrev pub all_held : List Part → List ℕ
  all_held all = flat_map held all

  abbrev pub in_chain : Expr × List Tail → List ℕ
  in_chain all = E all.0 ++ flat_map (of_tail E) all.1

  abbrev pub in_program : List Declaration × List FunctionTree → List ℕ
  in_program both = flat_map F both.1

  -- what a part is, if it is of a form, and the places that it holds then
  pub token_read : (part : Part) → IsRead (λ one. one.span.from ∷ []) (parts.token_in part) (held part)
  token_read (AToken one) = found one
  token_read _ = missing _

  pub tree_read : (part : Part) → IsRead (λ one. start_of one ∷ []) (parts.tree_in part) (held part)
  tree_read (ATree one) = found one
  tree_read _ = missing _

  pub expr_read : (part : Part) → IsRead E (parts.expr_in part) (held part)
  expr_read (AnExpr one) = found one
  expr_read _ = missing _

  pub exprs_read : (part : Part) → IsRead (flat_map E) (parts.exprs_in part) (held part)
  exprs_read (Exprs all) = found all
  exprs_read _ = missing _

  pub chain_read : (part : Part) → IsRead in_chain (parts.chain_in part) (held part)
  chain_read (AChain first rest) = found (first, rest)
  chain_read _ = missing _

  pub items_read : (part : Part) → IsRead (flat_map (of_item E)) (parts.items_in part) (held part)
  items_read (Items all) = found all
  items_read _ = missing _

  pub fields_read : (part : Part) → IsRead (flat_map (of_field E)) (parts.expr_fields_in part) (held part)
  fields_read (ExprFields all) = found all
  fields_read _ = missing _

  pub branches_read : (part : Part) → IsRead (flat_map (of_branch E)) (parts.branches_in part) (held part)
  branches_read (Branches all) = found all
  branches_read _ = missing _

  pub steps_read : (part : Part) → IsRead (flat_map of_step) (parts.steps_in part) (held part)
  steps_read (Steps all) = found all
  steps_read _ = missing _

  pub sources_read : (part : Part) → IsRead (in_sources E) (parts.sources_in part) (held part)
  sources_read (Sources all condition) = found (all, condition)
  sources_read _ = missing _

  pub function_read : (part : Part) → IsRead F (parts.function_in part) (held part)
  function_read (AFunction one) = found one
  function_read _ = missing _

  pub program_read : (part : Part) → IsRead in_program (parts.program_in part) (held part)
  program_read (AProgram types functions) = found (types, functions)
  program_read _ = missing _

  pub signatures_read : (part : Part) → IsRead (λ all. []) (parts.signatures_in part) (held part)
  signatures_read (parts.Signatures all) = found all
  signatures_read _ = missing _

  pub names_read : (part : Part) → IsRead (λ all. []) (parts.names_in part) (held part)
  names_read (parts.Names all) = found all
  names_read _ = missing _
