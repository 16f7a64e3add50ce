-- Where an outcome comes to a frame, the machine goes on rightly.
use Rattle.std.proofs.Common.{◌≡◌, ◌<◌, ℕ, suc, Bool, true, false, List, [], ◌∷◌, Option, Some, None, option_map, refl, sym, subst}
use Rattle.cd_syntax.specs.TypeTree.{Tree}
use Rattle.cd_model.specs.Thing as thing
use Rattle.cd_model.specs.Thing.{Thing, Pair, Closure}
use Rattle.cd_matching.specs.Sequences.{nil, items}
use Rattle.cd_program.specs.declared.operator.Op.{Op}
use Rattle.cd_program.specs.declared.operator.Op.TheVariants as op
use Rattle.cd_program.specs.Expr as form
use Rattle.cd_program.specs.Expr.{Signature, Expr, Exprs, NoExpr, AnExpr, Items, Tails, NoTail, ATail, Operand, Without, Select, Branches, FunctionTree, function}
use Rattle.cd_evaluation.specs.Runs.{Outcome, Done, Raised, Overflow, Spent, Stuck}
use Rattle.cd_evaluation.specs.Environment.{Env, with_all, with_name}
use Rattle.cd_evaluation.specs.Lists.{before}
use Rattle.cd_evaluation.specs.RecordFields.{put}
use Rattle.cd_evaluation.specs.Operations.{truth_of, operate, word_outcome, xml}
use Rattle.cd_evaluation.specs.Code.{Code}
use Rattle.cd_evaluation.specs.Evaluation.{IsStrict, mapped, joined}
use Rattle.cd_evaluation.specs.Meaning.{calls}
use Rattle.cd_evaluation.specs.Machine.{Frame, First, Second, Iteming, Splicing, Fielding, Tagging, Attributing, Filling, Called, Argument}
use Rattle.cd_evaluation.specs.Machine.{Matching, Trying, Letting, Asking, Wording, Tailing, Operating, Listing, Mapping, Sifting, Joining}
use Rattle.cd_evaluation.specs.Machine.{Returning, State, returning}
use Rattle.cd_evaluation.specs.Ends.{Keeps}
use Rattle.cd_evaluation.specs.Measure.{measure}
use Rattle.cd_evaluation.specs.Picks.{Picks}
use Rattle.cd_evaluation.proofs.ResumingSteps as resuming
use Rattle.cd_evaluation.proofs.BranchSteps as branch
use Rattle.cd_evaluation.proofs.CallingSteps as calling
use Rattle.cd_evaluation.proofs.SpentSteps as spending
use Rattle.cd_evaluation.proofs.UnwindingSteps as unwinding
use Rattle.cd_evaluation.proofs.MeasureFalls as falls
use Rattle.cd_machine.specs.Inner.Turn.{Turn, give, give_to, evaluate, paid, GoesFreely, GoesByUnit, GoesOn}
use Rattle.cd_machine.specs.Inner.Entering.{items_turn, fields_turn}
use Rattle.cd_machine.specs.Inner.Resuming.{parts_turn, spliced_turn, called_turn, asked_turn, and_turn, or_turn, operand_turn, tails_turn}
use Rattle.cd_machine.specs.Inner.Resuming.{Entry, entry_turn, entry_of, EntersOf, Enters, MapsOn, Maps, SiftsOn, Sifts, Resumes, Catches, ComesTo}
use Rattle.cd_machine.proofs.EnteredRight.{freely, items_after, items_free, fields_after, fields_free}

module _ (code : Code) where
  -- a value comes to a frame
  abbrev From : Frame → Thing → Turn → Type 0
  From frame v turn = GoesOn code (Returning (Done v)) (frame ∷ []) turn

  abbrev FreelyFrom : Frame → Thing → Turn → Type 0
  FreelyFrom frame v turn = GoesFreely code (Returning (Done v)) (frame ∷ []) turn

  abbrev ByUnitFrom : Frame → Thing → Turn → Type 0
  ByUnitFrom frame v turn = GoesByUnit code (Returning (Done v)) (frame ∷ []) turn

  -- the frame gives an outcome at once
  gives : (frame : Frame) (outcome outcome' : Outcome) → ((depth units : ℕ) (below : List Frame)
      → Keeps code (calls code depth) (returning outcome units (frame ∷ below)) (returning outcome' units below))
      → GoesFreely code (Returning outcome) (frame ∷ []) (give outcome')
  gives frame outcome outcome' keeps = record { keeps = keeps; falls = λ units below. falls.popped frame outcome outcome' units below }

  parts_go : (next : Expr) (rest : Exprs) (env : Env) (v : Thing) → From (First next rest env) v (parts_turn next rest env v)
  parts_go next NoExpr env v = record {
    keeps = λ depth units below. resuming.last_part code (calls code depth) env units below v next;
    falls = λ units below. falls.last_part env units below (Done v) v next;
  }
  parts_go next (AnExpr third rest) env v = record {
    keeps = λ depth units below. resuming.more_parts code (calls code depth) env units below v next third rest;
    falls = λ units below. falls.more_parts env units below (Done v) v next third rest;
  }

  item_goes : (done : List Thing) (rest : Items) (env : Env) (v : Thing) → From (Iteming done rest env) v (items_turn rest env (v ∷ done))
  item_goes done rest env v = freely code (Returning (Done v)) (Iteming done rest env ∷ []) (items_turn rest env (v ∷ done)) (items_free rest env (v ∷ done)) record {
    keeps = λ depth units below. subst (Keeps code (calls code depth) (returning (Done v) units (Iteming done rest env ∷ below)))
        (sym (items_after rest env (v ∷ done) units below)) (resuming.item code (calls code depth) env units below done rest v);
    falls = λ units below. subst (λ (new : State). measure new < measure (returning (Done v) units (Iteming done rest env ∷ below)))
        (sym (items_after rest env (v ∷ done) units below)) (falls.item env units below (Done v) done (v ∷ done) rest);
  }

  -- by whether a thing is a sequence
  splice_goes : (found : Option (List Thing)) (done : List Thing) (rest : Items) (env : Env) (v : Thing) → items v ≡ found
      → ByUnitFrom (Splicing done rest env) v (paid (spliced_turn found rest env done))
  splice_goes None done rest env v is = record {
    keeps = λ depth units below less. resuming.no_sequence_spliced code (calls code depth) env units below done rest v is;
    spent = λ depth below. spending.spent_splice code (calls code depth) env below v done rest;
  }
  splice_goes (Some all) done rest env v is = record {
    keeps = λ depth units below less. subst (Keeps code (calls code depth) (returning (Done v) (suc units) (Splicing done rest env ∷ below)))
        (sym (items_after rest env (before all done) units below)) (resuming.spliced code (calls code depth) env units below done rest v all is);
    spent = λ depth below. spending.spent_splice code (calls code depth) env below v done rest;
  }

  field_goes : (done : thing.Fields) (label : List ℕ) (rest : form.Fields) (env : Env) (v : Thing)
      → From (Fielding done label rest env) v (fields_turn rest env (put label v done))
  field_goes done label rest env v =
      freely code (Returning (Done v)) (Fielding done label rest env ∷ []) (fields_turn rest env (put label v done)) (fields_free rest env (put label v done)) record {
        keeps = λ depth units below. subst (Keeps code (calls code depth) (returning (Done v) units (Fielding done label rest env ∷ below)))
            (sym (fields_after rest env (put label v done) units below)) (resuming.field code (calls code depth) env units below done label rest v);
        falls = λ units below. subst (λ (new : State). measure new < measure (returning (Done v) units (Fielding done label rest env ∷ below)))
            (sym (fields_after rest env (put label v done) units below)) (falls.field env units below (Done v) done (put label v done) label rest);
      }

  arguments_go : (arguments : Exprs) (env : Env) (v : Thing) → From (Called arguments env) v (called_turn arguments env v)
  arguments_go NoExpr env v = gives (Called NoExpr env) (Done v) (Done v) (λ depth units below. resuming.all_given code (calls code depth) env units below v)
  arguments_go (AnExpr e rest) env v = record {
    keeps = λ depth units below. resuming.next_argument code (calls code depth) env units below v e rest;
    falls = λ units below. falls.next_argument env units below (Done v) v e rest;
  }

  asked_goes : (found : Option Bool) (then_one else_one : Expr) (env : Env) (v : Thing) → truth_of v ≡ found
      → ByUnitFrom (Asking then_one else_one env) v (paid (asked_turn found then_one else_one env))
  asked_goes None then_one else_one env v is = record {
    keeps = λ depth units below less. resuming.no_truth code (calls code depth) env units below then_one else_one v is;
    spent = λ depth below. spending.spent_if code (calls code depth) env below v then_one else_one;
  }
  asked_goes (Some true) then_one else_one env v is = record {
    keeps = λ depth units below less. resuming.is_true code (calls code depth) env units below then_one else_one v is;
    spent = λ depth below. spending.spent_if code (calls code depth) env below v then_one else_one;
  }
  asked_goes (Some false) then_one else_one env v is = record {
    keeps = λ depth units below less. resuming.is_false code (calls code depth) env units below then_one else_one v is;
    spent = λ depth below. spending.spent_if code (calls code depth) env below v then_one else_one;
  }

  and_goes : (found : Option Bool) (e : Expr) (rest : Tails) (env : Env) (v : Thing) → truth_of v ≡ found
      → ByUnitFrom (Tailing (ATail (Operand op.And e) rest) env) v (paid (and_turn found e rest env))
  and_goes None e rest env v is = record {
    keeps = λ depth units below less. resuming.and_no_truth code (calls code depth) env units below e rest v is;
    spent = λ depth below. spending.spent_and code (calls code depth) env below v e rest;
  }
  and_goes (Some true) e rest env v is = record {
    keeps = λ depth units below less. resuming.and_true code (calls code depth) env units below e rest v is;
    spent = λ depth below. spending.spent_and code (calls code depth) env below v e rest;
  }
  and_goes (Some false) e rest env v is = record {
    keeps = λ depth units below less. resuming.and_false code (calls code depth) env units below e rest v is;
    spent = λ depth below. spending.spent_and code (calls code depth) env below v e rest;
  }

  or_goes : (found : Option Bool) (e : Expr) (rest : Tails) (env : Env) (v : Thing) → truth_of v ≡ found
      → ByUnitFrom (Tailing (ATail (Operand op.Or e) rest) env) v (paid (or_turn found e rest env))
  or_goes None e rest env v is = record {
    keeps = λ depth units below less. resuming.or_no_truth code (calls code depth) env units below e rest v is;
    spent = λ depth below. spending.spent_or code (calls code depth) env below v e rest;
  }
  or_goes (Some true) e rest env v is = record {
    keeps = λ depth units below less. resuming.or_true code (calls code depth) env units below e rest v is;
    spent = λ depth below. spending.spent_or code (calls code depth) env below v e rest;
  }
  or_goes (Some false) e rest env v is = record {
    keeps = λ depth units below less. resuming.or_false code (calls code depth) env units below e rest v is;
    spent = λ depth below. spending.spent_or code (calls code depth) env below v e rest;
  }

  -- an operator that takes the value of its right operand
  pub strict_goes : (is : Op) (e : Expr) (rest : Tails) (env : Env) (v : Thing) → IsStrict is
      → From (Tailing (ATail (Operand is e) rest) env) v (evaluate e env (Operating is v rest env ∷ []))
  strict_goes is e rest env v strict = record {
    keeps = λ depth units below. resuming.operand code (calls code depth) env units below is e rest v strict;
    falls = λ units below. falls.operand env units below (Done v) is v e rest;
  }

  operand_goes : (is : Op) (e : Expr) (rest : Tails) (env : Env) (v : Thing)
      → From (Tailing (ATail (Operand is e) rest) env) v (operand_turn is e rest env v)
  operand_goes op.And e rest env v = and_goes (truth_of v) e rest env v refl
  operand_goes op.Or e rest env v = or_goes (truth_of v) e rest env v refl
  operand_goes op.Equal e rest env v = strict_goes op.Equal e rest env v tt
  operand_goes op.Unequal e rest env v = strict_goes op.Unequal e rest env v tt
  operand_goes op.Less e rest env v = strict_goes op.Less e rest env v tt
  operand_goes op.AtMost e rest env v = strict_goes op.AtMost e rest env v tt
  operand_goes op.Greater e rest env v = strict_goes op.Greater e rest env v tt
  operand_goes op.AtLeast e rest env v = strict_goes op.AtLeast e rest env v tt
  operand_goes op.Concat e rest env v = strict_goes op.Concat e rest env v tt
  operand_goes op.Plus e rest env v = strict_goes op.Plus e rest env v tt
  operand_goes op.Minus e rest env v = strict_goes op.Minus e rest env v tt
  operand_goes op.Times e rest env v = strict_goes op.Times e rest env v tt
  operand_goes op.Div e rest env v = strict_goes op.Div e rest env v tt
  operand_goes op.Mod e rest env v = strict_goes op.Mod e rest env v tt

  tails_go : (tails : Tails) (env : Env) (v : Thing) → From (Tailing tails env) v (tails_turn tails env v)
  tails_go NoTail env v = gives (Tailing NoTail env) (Done v) (Done v) (λ depth units below. resuming.no_tail code (calls code depth) env units below v)
  tails_go (ATail (Operand is e) rest) env v = operand_goes is e rest env v
  tails_go (ATail (Without label) rest) env v = record {
    keeps = λ depth units below less. resuming.dropped_ code (calls code depth) env units below label rest v;
    spent = λ depth below. spending.spent_without code (calls code depth) env below v label rest;
  }
  tails_go (ATail (Select label) rest) env v = record {
    keeps = λ depth units below less. resuming.selected_ code (calls code depth) env units below label rest v;
    spent = λ depth below. spending.spent_select code (calls code depth) env below v label rest;
  }

  -- forms with branches, by the branch that takes the value
  match_goes : (branches : Branches) (env : Env) (v : Thing) (choice : Option (Expr × Env)) → Picks code branches v choice
      → ByUnitFrom (Matching branches env) v (paid (entry_turn (option_map (entry_of env) choice) [] (give Stuck)))
  match_goes branches env v None picks = record {
    keeps = λ depth units below less. branch.none_matched code (calls code depth) env units below branches v picks;
    spent = λ depth below. spending.spent_match code (calls code depth) env below v branches;
  }
  match_goes branches env v (Some choice) picks = record {
    keeps = λ depth units below less. branch.matched code (calls code depth) env units below branches v choice.0 choice.1 picks;
    spent = λ depth below. spending.spent_match code (calls code depth) env below v branches;
  }

  try_goes : (branches : Branches) (env : Env) (v : Thing) (choice : Option (Expr × Env)) → Picks code branches v choice
      → GoesByUnit code (Returning (Raised v)) (Trying branches env ∷ []) (paid (entry_turn (option_map (entry_of env) choice) [] (give (Raised v))))
  try_goes branches env v None picks = record {
    keeps = λ depth units below less. branch.raised_again code (calls code depth) env units below branches v picks;
    spent = λ depth below. spending.spent_try code (calls code depth) env below v branches;
  }
  try_goes branches env v (Some choice) picks = record {
    keeps = λ depth units below less. branch.caught_one code (calls code depth) env units below branches v choice.0 choice.1 picks;
    spent = λ depth below. spending.spent_try code (calls code depth) env below v branches;
  }

  let_goes : (pattern : Tree) (rest : Expr) (env : Env) (v : Thing) (answer : Option Env) → code.take pattern v answer
      → ByUnitFrom (Letting pattern rest env) v (paid (entry_turn (option_map (λ own. (rest, with_all own env)) answer) [] (give Stuck)))
  let_goes pattern rest env v None takes = record {
    keeps = λ depth units below less. branch.let_failed code (calls code depth) env units below pattern rest v takes;
    spent = λ depth below. spending.spent_let code (calls code depth) env below v pattern rest;
  }
  let_goes pattern rest env v (Some own) takes = record {
    keeps = λ depth units below less. branch.let_taken code (calls code depth) env units below pattern rest v own takes;
    spent = λ depth below. spending.spent_let code (calls code depth) env below v pattern rest;
  }

  -- an item of `map`
  first_mapped : (branches : Branches) (env : Env) (v one : Thing) (left : List Thing) → items v ≡ Some (one ∷ left)
      → (choice : Option (Expr × Env)) → Picks code branches one choice
      → ByUnitFrom (Listing branches env) v (paid (entry_turn (option_map (entry_of env) choice) (Mapping branches env [] left ∷ []) (give Stuck)))
  first_mapped branches env v one left is None picks = record {
    keeps = λ depth units below less. branch.first_not_mapped code (calls code depth) env units below branches v one left is picks;
    spent = λ depth below. spending.spent_first_mapped code (calls code depth) env below v branches one left is;
  }
  first_mapped branches env v one left is (Some choice) picks = record {
    keeps = λ depth units below less. branch.first_mapped code (calls code depth) env units below branches v one left choice.0 choice.1 is picks;
    spent = λ depth below. spending.spent_first_mapped code (calls code depth) env below v branches one left is;
  }

  next_mapped : (branches : Branches) (env : Env) (v one : Thing) (done left : List Thing)
      → (choice : Option (Expr × Env)) → Picks code branches one choice
      → ByUnitFrom (Mapping branches env done (one ∷ left)) v
      (paid (entry_turn (option_map (entry_of env) choice) (Mapping branches env (v ∷ done) left ∷ []) (give Stuck)))
  next_mapped branches env v one done left None picks = record {
    keeps = λ depth units below less. branch.next_not_mapped code (calls code depth) env units below branches v one done left picks;
    spent = λ depth below. spending.spent_next_mapped code (calls code depth) env below v branches one done left;
  }
  next_mapped branches env v one done left (Some choice) picks = record {
    keeps = λ depth units below less. branch.next_mapped code (calls code depth) env units below branches v one done left choice.0 choice.1 picks;
    spent = λ depth below. spending.spent_next_mapped code (calls code depth) env below v branches one done left;
  }

  -- an item of `transform`
  first_sifted : (branches : Branches) (env : Env) (v one : Thing) (left : List Thing) → items v ≡ Some (one ∷ left)
      → (choice : Option (Expr × Env)) → Picks code branches one choice
      → ByUnitFrom (Sifting branches env) v (paid (entry_turn (option_map (entry_of env) choice) (Joining branches env [] left ∷ [])
      (give_to (Joining branches env [] left ∷ []) (Done nil))))
  first_sifted branches env v one left is None picks = record {
    keeps = λ depth units below less. branch.first_left_out code (calls code depth) env units below branches v one left is picks;
    spent = λ depth below. spending.spent_first_sifted code (calls code depth) env below v branches one left is;
  }
  first_sifted branches env v one left is (Some choice) picks = record {
    keeps = λ depth units below less. branch.first_sifted code (calls code depth) env units below branches v one left choice.0 choice.1 is picks;
    spent = λ depth below. spending.spent_first_sifted code (calls code depth) env below v branches one left is;
  }

  next_sifted : (branches : Branches) (env : Env) (v one : Thing) (done left : List Thing)
      → (choice : Option (Expr × Env)) → Picks code branches one choice
      → ByUnitFrom (Joining branches env done (one ∷ left)) v (paid (entry_turn (option_map (entry_of env) choice) (Joining branches env (v ∷ done) left ∷ [])
      (give_to (Joining branches env (v ∷ done) left ∷ []) (Done nil))))
  next_sifted branches env v one done left None picks = record {
    keeps = λ depth units below less. branch.next_left_out code (calls code depth) env units below branches v one done left picks;
    spent = λ depth below. spending.spent_next_sifted code (calls code depth) env below v branches one done left;
  }
  next_sifted branches env v one done left (Some choice) picks = record {
    keeps = λ depth units below less. branch.next_sifted code (calls code depth) env units below branches v one done left choice.0 choice.1 picks;
    spent = λ depth below. spending.spent_next_sifted code (calls code depth) env below v branches one done left;
  }

  -- what enters a function
  called_goes : (at : ℕ) (inner env : Env) (rest : Exprs) (v : Thing) (at' : ℕ) (name : Option (List ℕ)) (name_at : ℕ) (interface : List Signature)
      (branches : Branches) → code.function at ≡ Some (function at' name name_at interface branches)
      → (choice : Option (Expr × Env)) → Picks code branches v choice
      → ByUnitFrom (Argument (Closure at inner) rest env) v
      (paid (entry_turn (option_map (entry_of (with_name name (Closure at inner) inner)) choice) (Called rest env ∷ []) (give Stuck)))
  called_goes at inner env rest v at' name name_at interface branches is None picks = record {
    keeps = λ depth units below less. calling.none_entered code depth env rest below v units less at inner at' name name_at interface branches is picks;
    spent = λ depth below. spending.spent_argument code (calls code depth) env below v (Closure at inner) rest;
  }
  called_goes at inner env rest v at' name name_at interface branches is (Some choice) picks = record {
    keeps = λ depth units below less. calling.entered code depth env rest below v units less at inner at' name name_at interface branches choice.0 choice.1 is picks;
    spent = λ depth below. spending.spent_argument code (calls code depth) env below v (Closure at inner) rest;
  }

  no_call : (self : Thing) (rest : Exprs) (env : Env) (v : Thing) → calling.IsNoClosure self
      → (entry : Option Entry) → entry ≡ None → ByUnitFrom (Argument self rest env) v (paid (entry_turn entry (Called rest env ∷ []) (give Stuck)))
  no_call self rest env v none entry is = subst (λ (entry : Option Entry). ByUnitFrom (Argument self rest env) v (paid (entry_turn entry (Called rest env ∷ []) (give Stuck))))
      (sym is) record {
        keeps = λ depth units below less. calling.no_closure code depth env rest below v units less self none;
        spent = λ depth below. spending.spent_argument code (calls code depth) env below v self rest;
      }

  closure_goes : (found : Option FunctionTree) (at : ℕ) (inner env : Env) (rest : Exprs) (v : Thing) → code.function at ≡ found
      → (entry : Option Entry) → EntersOf code found (Closure at inner) inner v entry
      → ByUnitFrom (Argument (Closure at inner) rest env) v (paid (entry_turn entry (Called rest env ∷ []) (give Stuck)))
  closure_goes None at inner env rest v found entry is =
      subst (λ (entry : Option Entry). ByUnitFrom (Argument (Closure at inner) rest env) v (paid (entry_turn entry (Called rest env ∷ []) (give Stuck)))) (sym is) record {
        keeps = λ depth units below less. calling.no_function code depth env rest below v units less at inner found;
        spent = λ depth below. spending.spent_argument code (calls code depth) env below v (Closure at inner) rest;
      }
  closure_goes (Some (function at' name name_at interface branches)) at inner env rest v found entry chosen =
      subst (λ (entry : Option Entry). ByUnitFrom (Argument (Closure at inner) rest env) v (paid (entry_turn entry (Called rest env ∷ []) (give Stuck))))
      (sym chosen.is) (called_goes at inner env rest v at' name name_at interface branches found chosen.choice chosen.picks)

  argument_goes : (self : Thing) (rest : Exprs) (env : Env) (v : Thing) (entry : Option Entry) → Enters code self v entry
      → ByUnitFrom (Argument self rest env) v (paid (entry_turn entry (Called rest env ∷ []) (give Stuck)))
  argument_goes (Closure at inner) rest env v entry enters = closure_goes (code.function at) at inner env rest v refl entry enters
  argument_goes (thing.Integer n) rest env v entry enters = no_call (thing.Integer n) rest env v tt entry enters
  argument_goes (thing.Character c) rest env v entry enters = no_call (thing.Character c) rest env v tt entry enters
  argument_goes (thing.Atom name) rest env v entry enters = no_call (thing.Atom name) rest env v tt entry enters
  argument_goes (thing.Pair first second) rest env v entry enters = no_call (thing.Pair first second) rest env v tt entry enters
  argument_goes (thing.Xml tag attributes content) rest env v entry enters = no_call (thing.Xml tag attributes content) rest env v tt entry enters
  argument_goes (thing.Record fields) rest env v entry enters = no_call (thing.Record fields) rest env v tt entry enters
  argument_goes (thing.Function pairs) rest env v entry enters = no_call (thing.Function pairs) rest env v tt entry enters

  -- a turn is the one that goes on rightly
  is_turn : (outcome : Outcome) (frame : Frame) (turn turn' : Turn) → turn ≡ turn' → GoesOn code (Returning outcome) (frame ∷ []) turn'
      → GoesOn code (Returning outcome) (frame ∷ []) turn
  is_turn outcome frame turn turn' is goes = subst (GoesOn code (Returning outcome) (frame ∷ [])) (sym is) goes

  entered_turn : (outcome : Outcome) (frame : Frame) (entry entry' : Option Entry) (pushed : List Frame) (otherwise turn : Turn)
      → entry ≡ entry' → turn ≡ paid (entry_turn entry pushed otherwise)
      → GoesByUnit code (Returning outcome) (frame ∷ []) (paid (entry_turn entry' pushed otherwise))
      → GoesOn code (Returning outcome) (frame ∷ []) turn
  entered_turn outcome frame entry entry' pushed otherwise turn same is goes =
      is_turn outcome frame turn (paid (entry_turn entry pushed otherwise)) is
      (subst (λ (entry : Option Entry). GoesByUnit code (Returning outcome) (frame ∷ []) (paid (entry_turn entry pushed otherwise))) (sym same) goes)

  maps : (found : Option (List Thing)) (branches : Branches) (env : Env) (v : Thing) (turn : Turn) → items v ≡ found
      → Maps code branches env found turn → From (Listing branches env) v turn
  maps None branches env v turn found is = is_turn (Done v) (Listing branches env) turn (give Stuck) is
      (gives (Listing branches env) (Done v) Stuck (λ depth units below. branch.no_sequence_mapped code (calls code depth) env units below branches v found))
  maps (Some []) branches env v turn found is = is_turn (Done v) (Listing branches env) turn (give (mapped [])) is
      (gives (Listing branches env) (Done v) (mapped []) (λ depth units below. branch.nothing_mapped code (calls code depth) env units below branches v found))
  maps (Some (one ∷ left)) branches env v turn found is =
      entered_turn (Done v) (Listing branches env) is.0 _ (Mapping branches env [] left ∷ []) (give Stuck) turn is.1.is is.2
      (first_mapped branches env v one left found is.1.choice is.1.picks)

  maps_on : (branches : Branches) (env : Env) (done left : List Thing) (v : Thing) (turn : Turn) → MapsOn code branches env (v ∷ done) left turn
      → From (Mapping branches env done left) v turn
  maps_on branches env done [] v turn is = is_turn (Done v) (Mapping branches env done []) turn (give (mapped (before done (v ∷ [])))) is
      (gives (Mapping branches env done []) (Done v) (mapped (before done (v ∷ [])))
      (λ depth units below. branch.all_mapped code (calls code depth) env units below branches v done))
  maps_on branches env done (one ∷ left) v turn is =
      entered_turn (Done v) (Mapping branches env done (one ∷ left)) is.0 _ (Mapping branches env (v ∷ done) left ∷ []) (give Stuck) turn is.1.is is.2
      (next_mapped branches env v one done left is.1.choice is.1.picks)

  sifts : (found : Option (List Thing)) (branches : Branches) (env : Env) (v : Thing) (turn : Turn) → items v ≡ found
      → Sifts code branches env found turn → From (Sifting branches env) v turn
  sifts None branches env v turn found is = is_turn (Done v) (Sifting branches env) turn (give Stuck) is
      (gives (Sifting branches env) (Done v) Stuck (λ depth units below. branch.no_sequence_sifted code (calls code depth) env units below branches v found))
  sifts (Some []) branches env v turn found is = is_turn (Done v) (Sifting branches env) turn (give (joined [])) is
      (gives (Sifting branches env) (Done v) (joined []) (λ depth units below. branch.nothing_sifted code (calls code depth) env units below branches v found))
  sifts (Some (one ∷ left)) branches env v turn found is =
      entered_turn (Done v) (Sifting branches env) is.0 _ (Joining branches env [] left ∷ []) (give_to (Joining branches env [] left ∷ []) (Done nil)) turn is.1.is is.2
      (first_sifted branches env v one left found is.1.choice is.1.picks)

  sifts_on : (branches : Branches) (env : Env) (done left : List Thing) (v : Thing) (turn : Turn) → SiftsOn code branches env (v ∷ done) left turn
      → From (Joining branches env done left) v turn
  sifts_on branches env done [] v turn is = is_turn (Done v) (Joining branches env done []) turn (give (joined (before done (v ∷ [])))) is
      (gives (Joining branches env done []) (Done v) (joined (before done (v ∷ [])))
      (λ depth units below. branch.all_sifted code (calls code depth) env units below branches v done))
  sifts_on branches env done (one ∷ left) v turn is =
      entered_turn (Done v) (Joining branches env done (one ∷ left)) is.0 _ (Joining branches env (v ∷ done) left ∷ [])
      (give_to (Joining branches env (v ∷ done) left ∷ []) (Done nil)) turn is.1.is is.2
      (next_sifted branches env v one done left is.1.choice is.1.picks)

  pub resumed : (frame : Frame) (v : Thing) (turn : Turn) → Resumes code frame v turn → From frame v turn
  resumed (First next rest env) v turn is = is_turn (Done v) (First next rest env) turn _ is (parts_go next rest env v)
  resumed (Second first) v turn is = is_turn (Done v) (Second first) turn (give (Done (Pair first v))) is
      (gives (Second first) (Done v) (Done (Pair first v)) (λ depth units below. resuming.paired code (calls code depth) thing.NoField units below first v))
  resumed (Iteming done rest env) v turn is = is_turn (Done v) (Iteming done rest env) turn (items_turn rest env (v ∷ done)) is (item_goes done rest env v)
  resumed (Splicing done rest env) v turn is =
      is_turn (Done v) (Splicing done rest env) turn (paid (spliced_turn (items v) rest env done)) is (splice_goes (items v) done rest env v refl)
  resumed (Fielding done label rest env) v turn is =
      is_turn (Done v) (Fielding done label rest env) turn (fields_turn rest env (put label v done)) is (field_goes done label rest env v)
  resumed (Tagging attributes content env) v turn is =
      is_turn (Done v) (Tagging attributes content env) turn (evaluate attributes env (Attributing v content env ∷ [])) is record {
        keeps = λ depth units below. resuming.tagged code (calls code depth) env units below attributes content v;
        falls = λ units below. falls.tagged env units below (Done v) v attributes content;
      }
  resumed (Attributing tag content env) v turn is =
      is_turn (Done v) (Attributing tag content env) turn (evaluate content env (Filling tag v ∷ [])) is record {
        keeps = λ depth units below. resuming.attributed code (calls code depth) env units below tag content v;
        falls = λ units below. falls.attributed env units below (Done v) tag v content;
      }
  resumed (Filling tag attributes) v turn is = is_turn (Done v) (Filling tag attributes) turn (give (xml tag attributes v)) is
      (gives (Filling tag attributes) (Done v) (xml tag attributes v)
      (λ depth units below. resuming.filled code (calls code depth) thing.NoField units below tag attributes v))
  resumed (Called arguments env) v turn is = is_turn (Done v) (Called arguments env) turn (called_turn arguments env v) is (arguments_go arguments env v)
  resumed (Argument self rest env) v turn is = is_turn (Done v) (Argument self rest env) turn
      (paid (entry_turn is.0 (Called rest env ∷ []) (give Stuck))) is.2 (argument_goes self rest env v is.0 is.1)
  resumed (Matching branches env) v turn is = entered_turn (Done v) (Matching branches env) is.0 _ [] (give Stuck) turn is.1.is is.2
      (match_goes branches env v is.1.choice is.1.picks)
  resumed (Trying branches env) v turn is = is_turn (Done v) (Trying branches env) turn (give (Done v)) is
      (gives (Trying branches env) (Done v) (Done v) (λ depth units below. unwinding.unwound code (calls code depth) units (Trying branches env) (Done v) below tt))
  resumed (Letting pattern rest env) v turn is = entered_turn (Done v) (Letting pattern rest env) is.0 _ [] (give Stuck) turn is.1.2 is.2
      (let_goes pattern rest env v is.1.0 is.1.1)
  resumed (Asking then_one else_one env) v turn is =
      is_turn (Done v) (Asking then_one else_one env) turn (paid (asked_turn (truth_of v) then_one else_one env)) is (asked_goes (truth_of v) then_one else_one env v refl)
  resumed (Wording word) v turn is = is_turn (Done v) (Wording word) turn (paid (give (word_outcome word v))) is record {
    keeps = λ depth units below less. resuming.worded code (calls code depth) thing.NoField units below word v;
    spent = λ depth below. spending.spent_word code (calls code depth) thing.NoField below v word;
  }
  resumed (Tailing tails env) v turn is = is_turn (Done v) (Tailing tails env) turn (tails_turn tails env v) is (tails_go tails env v)
  resumed (Operating is_one left rest env) v turn is =
      is_turn (Done v) (Operating is_one left rest env) turn (paid (give_to (Tailing rest env ∷ []) (operate is_one left v))) is record {
        keeps = λ depth units below less. resuming.operated_ code (calls code depth) env units below is_one left rest v;
        spent = λ depth below. spending.spent_operator code (calls code depth) env below v is_one left rest;
      }
  resumed (Listing branches env) v turn is = maps (items v) branches env v turn refl is
  resumed (Mapping branches env done left) v turn is = maps_on branches env done left v turn is
  resumed (Sifting branches env) v turn is = sifts (items v) branches env v turn refl is
  resumed (Joining branches env done left) v turn is = sifts_on branches env done left v turn is

  -- an outcome goes past a frame
  past : (frame : Frame) (outcome : Outcome) (turn : Turn) → unwinding.IsPast frame outcome → turn ≡ give outcome
      → GoesOn code (Returning outcome) (frame ∷ []) turn
  past frame outcome turn goes is = is_turn outcome frame turn (give outcome) is
      (gives frame outcome outcome (λ depth units below. unwinding.unwound code (calls code depth) units frame outcome below goes))

  caught : (frame : Frame) (v : Thing) (turn : Turn) → Catches code frame v turn → GoesOn code (Returning (Raised v)) (frame ∷ []) turn
  caught (Trying branches env) v turn is = entered_turn (Raised v) (Trying branches env) is.0 _ [] (give (Raised v)) turn is.1.is is.2
      (try_goes branches env v is.1.choice is.1.picks)
  caught frame v turn is = past frame (Raised v) turn tt is

  overflow_past : (frame : Frame) → unwinding.IsPast frame Overflow
  overflow_past (Trying branches env) = tt
  overflow_past frame = tt

  spent_past : (frame : Frame) → unwinding.IsPast frame Spent
  spent_past (Trying branches env) = tt
  spent_past frame = tt

  stuck_past : (frame : Frame) → unwinding.IsPast frame Stuck
  stuck_past (Trying branches env) = tt
  stuck_past frame = tt

  pub comes_to : (frame : Frame) (outcome : Outcome) (turn : Turn) → ComesTo code frame outcome turn
      → GoesOn code (Returning outcome) (frame ∷ []) turn
  comes_to frame (Done v) turn is = resumed frame v turn is
  comes_to frame (Raised v) turn is = caught frame v turn is
  comes_to frame Overflow turn is = past frame Overflow turn (overflow_past frame) is
  comes_to frame Spent turn is = past frame Spent turn (spent_past frame) is
  comes_to frame Stuck turn is = past frame Stuck turn (stuck_past frame) is
