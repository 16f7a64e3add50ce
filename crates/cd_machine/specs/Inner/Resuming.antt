-- Where the machine goes from an outcome that comes to a frame.
use Rattle.std.specs.Prelude.{◌≡◌, Bool, true, false, List, [], ◌∷◌, Option, Some, None}
use Rattle.std.specs.Prelude.{option_map}
use Rattle.cd_syntax.specs.TypeTree.{Tree}
use Rattle.cd_model.specs.Thing.{Thing, Pair, Closure}
use Rattle.cd_matching.specs.Sequences.{nil, items}
use Rattle.cd_program.specs.declared.operator.Op.{Op}
use Rattle.cd_program.specs.declared.operator.Op.TheVariants as op
use Rattle.cd_program.specs.Expr.{Expr, Exprs, NoExpr, AnExpr, Items, Tails, NoTail, ATail}
use Rattle.cd_program.specs.Expr.{Operand, Without, Select, Branches, FunctionTree, function}
use Rattle.cd_typing.specs.Operators.{truth}
use Rattle.cd_evaluation.specs.Runs.{Outcome, Done, Raised, Stuck}
use Rattle.cd_evaluation.specs.Environment.{Env, with_all, with_name}
use Rattle.cd_evaluation.specs.Lists.{before}
use Rattle.cd_evaluation.specs.RecordFields.{put}
use Rattle.cd_evaluation.specs.Operations.{truth_of, operate, word_outcome, dropped, selected, xml}
use Rattle.cd_evaluation.specs.Code.{Code}
use Rattle.cd_evaluation.specs.Evaluation.{mapped, joined}
use Rattle.cd_evaluation.specs.Machine.{Frame, First, Second, Iteming, Splicing, Fielding, Tagging}
use Rattle.cd_evaluation.specs.Machine.{Attributing, Filling, Called, Argument, Matching, Trying}
use Rattle.cd_evaluation.specs.Machine.{Letting, Asking, Wording, Tailing, Operating, Listing}
use Rattle.cd_evaluation.specs.Machine.{Mapping, Sifting, Joining}
use Rattle.cd_evaluation.specs.Picks.{Picks}
use Rattle.cd_machine.specs.Inner.Turn.{Turn, evaluate, give, give_to, paid}
use Rattle.cd_machine.specs.Inner.Entering.{items_turn, fields_turn}

-- the parts of a tuple after a first one with this value
abbrev pub parts_turn : (next : Expr) (rest : Exprs) → Env → Thing → Turn
parts_turn next NoExpr env v = evaluate next env (Second v ∷ [])
parts_turn next (AnExpr third rest) env v =
    evaluate next env (First third rest env ∷ Second v ∷ [])

-- the items after those of a sequence
abbrev pub spliced_turn : Option (List Thing) → Items → Env → (done : List Thing) → Turn
spliced_turn None rest env done = give Stuck
spliced_turn (Some all) rest env done = items_turn rest env (before all done)

-- the arguments of a function
abbrev pub called_turn : Exprs → Env → Thing → Turn
called_turn NoExpr env self = give (Done self)
called_turn (AnExpr e rest) env self = evaluate e env (Argument self rest env ∷ [])

-- what a test chooses
abbrev pub asked_turn : Option Bool → (then_one else_one : Expr) → Env → Turn
asked_turn None then_one else_one env = give Stuck
asked_turn (Some true) then_one else_one env = evaluate then_one env []
asked_turn (Some false) then_one else_one env = evaluate else_one env []

-- the right operand of `&&`, and of `||`, where it is wanted
abbrev pub and_turn : Option Bool → Expr → Tails → Env → Turn
and_turn None e rest env = give Stuck
and_turn (Some true) e rest env = evaluate e env (Tailing rest env ∷ [])
and_turn (Some false) e rest env = give_to (Tailing rest env ∷ []) (Done (truth false))

abbrev pub or_turn : Option Bool → Expr → Tails → Env → Turn
or_turn None e rest env = give Stuck
or_turn (Some true) e rest env = give_to (Tailing rest env ∷ []) (Done (truth true))
or_turn (Some false) e rest env = evaluate e env (Tailing rest env ∷ [])

-- an operator after a left operand with this value
abbrev pub operand_turn : Op → Expr → Tails → Env → Thing → Turn
operand_turn op.And e rest env v = paid (and_turn (truth_of v) e rest env)
operand_turn op.Or e rest env v = paid (or_turn (truth_of v) e rest env)
operand_turn is e rest env v = evaluate e env (Operating is v rest env ∷ [])

abbrev pub tails_turn : Tails → Env → Thing → Turn
tails_turn NoTail env v = give (Done v)
tails_turn (ATail (Operand is e) rest) env v = operand_turn is e rest env v
tails_turn (ATail (Without label) rest) env v =
    paid (give_to (Tailing rest env ∷ []) (dropped label v))
tails_turn (ATail (Select label) rest) env v =
    paid (give_to (Tailing rest env ∷ []) (selected label v))

-- The body of a branch, in the environment that it sees, for these frames; and where no branch
-- takes the value, an outcome for others
abbrev pub Entry : Type 0
Entry = Expr × Env

abbrev pub entry_turn : Option Entry → (pushed : List Frame) → (otherwise : Turn) → Turn
entry_turn None pushed otherwise = otherwise
entry_turn (Some entry) pushed otherwise = evaluate entry.0 entry.1 pushed

-- the body sees what the pattern captures before what stands around the branches
abbrev pub entry_of : Env → Expr × Env → Entry
entry_of env choice = (choice.0, with_all choice.1 env)

module _ (code : Code) where
  -- the first of the branches that takes a value
  pub record Chooses (branches : Branches) (v : Thing) (env : Env) (entry : Option Entry)
      : Type 0 where
    pub choice : Option (Expr × Env)
    pub picks : Picks code branches v choice
    pub is : entry ≡ option_map (entry_of env) choice

  -- the branches of a function that is applied
  abbrev pub EntersTree : FunctionTree → (self : Thing) → Env → Thing → Option Entry → Type 0
  EntersTree (function at name name_at interface branches) self env v entry =
      Chooses branches v (with_name name self env) entry

  abbrev pub EntersOf : Option FunctionTree → (self : Thing) → Env → Thing → Option Entry → Type 0
  EntersOf None self env v entry = entry ≡ None
  EntersOf (Some f) self env v entry = EntersTree f self env v entry

  abbrev pub Enters : (self : Thing) → Thing → Option Entry → Type 0
  Enters (Closure at env) v entry = EntersOf (code.function at) (Closure at env) env v entry
  Enters self v entry = entry ≡ None

  -- where items are left, the first of them goes through the branches
  abbrev pub MapsOn : Branches → Env → (done left : List Thing) → Turn → Type 0
  MapsOn branches env done [] turn = turn ≡ give (mapped (before done []))
  MapsOn branches env done (one ∷ left) turn = (entry : Option Entry)
      × Chooses branches one env entry
      × (turn ≡ paid (entry_turn entry (Mapping branches env done left ∷ []) (give Stuck)))

  abbrev pub Maps : Branches → Env → Option (List Thing) → Turn → Type 0
  Maps branches env None turn = turn ≡ give Stuck
  Maps branches env (Some all) turn = MapsOn branches env [] all turn

  -- `transform` leaves out an item that no branch takes
  abbrev pub SiftsOn : Branches → Env → (done left : List Thing) → Turn → Type 0
  SiftsOn branches env done [] turn = turn ≡ give (joined (before done []))
  SiftsOn branches env done (one ∷ left) turn = (entry : Option Entry)
      × Chooses branches one env entry
      × (turn ≡ paid (entry_turn entry (Joining branches env done left ∷ [])
      (give_to (Joining branches env done left ∷ []) (Done nil))))

  abbrev pub Sifts : Branches → Env → Option (List Thing) → Turn → Type 0
  Sifts branches env None turn = turn ≡ give Stuck
  Sifts branches env (Some all) turn = SiftsOn branches env [] all turn

  -- what is taken by a pattern alone
  abbrev pub LetsIn : (pattern : Tree) (rest : Expr) → Env → Thing → Option Entry → Type 0
  LetsIn pattern rest env v entry = (answer : Option Env) × code.take pattern v answer
      × (entry ≡ option_map (λ own. (rest, with_all own env)) answer)

  -- the turn once a unit is taken, for the body that is entered
  abbrev pub IsEntered : (Option Entry → Type 0) → (pushed : List Frame) → (otherwise : Turn) → Turn
      → Type 0
  IsEntered Fact pushed otherwise turn = (entry : Option Entry) × Fact entry
      × (turn ≡ paid (entry_turn entry pushed otherwise))

  -- a value comes to a frame
  abbrev pub Resumes : Frame → Thing → Turn → Type 0
  Resumes (First next rest env) v turn = turn ≡ parts_turn next rest env v
  Resumes (Second first) v turn = turn ≡ give (Done (Pair first v))
  Resumes (Iteming done rest env) v turn = turn ≡ items_turn rest env (v ∷ done)
  Resumes (Splicing done rest env) v turn = turn ≡ paid (spliced_turn (items v) rest env done)
  Resumes (Fielding done label rest env) v turn = turn ≡ fields_turn rest env (put label v done)
  Resumes (Tagging attributes content env) v turn =
      turn ≡ evaluate attributes env (Attributing v content env ∷ [])
  Resumes (Attributing tag content env) v turn =
      turn ≡ evaluate content env (Filling tag v ∷ [])
  Resumes (Filling tag attributes) v turn = turn ≡ give (xml tag attributes v)
  Resumes (Called arguments env) v turn = turn ≡ called_turn arguments env v
  Resumes (Argument self rest env) v turn =
      IsEntered (Enters self v) (Called rest env ∷ []) (give Stuck) turn
  Resumes (Matching branches env) v turn =
      IsEntered (Chooses branches v env) [] (give Stuck) turn
  Resumes (Trying branches env) v turn = turn ≡ give (Done v)
  Resumes (Letting pattern rest env) v turn =
      IsEntered (LetsIn pattern rest env v) [] (give Stuck) turn
  Resumes (Asking then_one else_one env) v turn =
      turn ≡ paid (asked_turn (truth_of v) then_one else_one env)
  Resumes (Wording word) v turn = turn ≡ paid (give (word_outcome word v))
  Resumes (Tailing tails env) v turn = turn ≡ tails_turn tails env v
  Resumes (Operating is left rest env) v turn =
      turn ≡ paid (give_to (Tailing rest env ∷ []) (operate is left v))
  Resumes (Listing branches env) v turn = Maps branches env (items v) turn
  Resumes (Mapping branches env done left) v turn = MapsOn branches env (v ∷ done) left turn
  Resumes (Sifting branches env) v turn = Sifts branches env (items v) turn
  Resumes (Joining branches env done left) v turn = SiftsOn branches env (v ∷ done) left turn

  -- a value that was raised comes to a frame
  abbrev pub Catches : Frame → Thing → Turn → Type 0
  Catches (Trying branches env) v turn =
      IsEntered (Chooses branches v env) [] (give (Raised v)) turn
  Catches frame v turn = turn ≡ give (Raised v)

  -- an outcome comes to a frame
  abbrev pub ComesTo : Frame → Outcome → Turn → Type 0
  ComesTo frame (Done v) turn = Resumes frame v turn
  ComesTo frame (Raised v) turn = Catches frame v turn
  ComesTo frame outcome turn = turn ≡ give outcome
