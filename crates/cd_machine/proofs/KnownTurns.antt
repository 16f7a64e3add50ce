-- Where the machine goes from what is known, it comes to what is known.
use Rattle.std.proofs.Common.{◌≡◌, Bool, true, false, List, [], ◌∷◌, map, Option, Some, None, option_map, refl, sym, subst}
use Rattle.cd_syntax.specs.TypeTree.{Tree}
use Rattle.cd_model.specs.Thing as thing
use Rattle.cd_model.specs.Thing.{Thing, Character, Closure}
use Rattle.cd_matching.specs.Sequences.{items}
use Rattle.cd_model.specs.AllOf.{AllOf}
use Rattle.cd_program.specs.declared.operator.Op.{Op}
use Rattle.cd_program.specs.declared.operator.Op.TheVariants as op
use Rattle.cd_program.specs.Expr as form
use Rattle.cd_program.specs.Expr.{Expr, expr, Kind, Exprs, NoExpr, AnExpr, Items, NoItem, AnItem, One, Splice, Fields, Tails, NoTail, ATail, Operand, Without, Select}
use Rattle.cd_program.specs.Expr.{Branches, NoBranch, ABranch, FunctionTree, function}
use Rattle.cd_evaluation.specs.Runs.{Outcome, Done, Raised, Overflow, Spent, Stuck}
use Rattle.cd_evaluation.specs.Environment.{Env, with_all}
use Rattle.cd_evaluation.specs.Lists.{before}
use Rattle.cd_evaluation.specs.Operations.{truth_of}
use Rattle.cd_evaluation.specs.Code.{Code}
use Rattle.cd_evaluation.specs.Picks.{Picks, by_answer}
use Rattle.cd_evaluation.specs.Machine.{Frame, First, Second, Iteming, Splicing, Fielding, Tagging, Attributing, Filling, Called, Argument}
use Rattle.cd_evaluation.specs.Machine.{Matching, Trying, Letting, Asking, Wording, Tailing, Operating, Listing, Mapping, Sifting, Joining}
use Rattle.cd_machine.specs.Inner.Turn.{Turn, give}
use Rattle.cd_machine.specs.Inner.Entering.{tuple_turn, items_turn, fields_turn, apply_turn, kind_turn, expr_turn}
use Rattle.cd_machine.specs.Inner.Resuming.{parts_turn, spliced_turn, called_turn, asked_turn, and_turn, or_turn, operand_turn, tails_turn}
use Rattle.cd_machine.specs.Inner.Resuming.{Entry, entry_turn, entry_of, Chooses, EntersOf, Enters, MapsOn, Maps, SiftsOn, Sifts, Resumes, Catches, ComesTo}
use Rattle.cd_machine.specs.Inner.Known.{IsKnown, AreKnown, ItemsAreKnown, FieldsAreKnown, TailsAreKnown, BranchesAreKnown, FunctionIsKnown}
use Rattle.cd_machine.specs.Inner.Known.{FunctionsAreKnown, KindIsKnown, FrameIsKnown, TurnIsKnown}

-- what an option holds
abbrev unwrap : Expr × Env → Option (Expr × Env) → Expr × Env
unwrap other None = other
unwrap other (Some found) = found

module _ (Fact : Tree → Type 0) where
  parts_known : (exprs : Exprs) (env : Env) → AreKnown Fact exprs → TurnIsKnown Fact (tuple_turn exprs env)
  parts_known NoExpr env known = (tt, tt)
  parts_known (AnExpr e NoExpr) env known = (known.0, tt)
  parts_known (AnExpr e (AnExpr next rest)) env known = (known.0, ((known.1.0, known.1.1), tt))

  items_known : (all : Items) (env : Env) (done : List Thing) → ItemsAreKnown Fact all → TurnIsKnown Fact (items_turn all env done)
  items_known NoItem env done known = (tt, tt)
  items_known (AnItem (One e) rest) env done known = (known.0, (known.1, tt))
  items_known (AnItem (Splice e) rest) env done known = (known.0, (known.1, tt))
  items_known (AnItem (form.Run characters) rest) env done known = items_known rest env (before (map Character characters) done) known

  fields_known : (fields : form.Fields) (env : Env) (done : thing.Fields) → FieldsAreKnown Fact fields → TurnIsKnown Fact (fields_turn fields env done)
  fields_known form.NoField env done known = (tt, tt)
  fields_known (form.AField label at e rest) env done known = (known.1, ((known.0, known.2), tt))

  applied_known : (exprs : Exprs) (env : Env) → AreKnown Fact exprs → TurnIsKnown Fact (apply_turn exprs env)
  applied_known NoExpr env known = (tt, tt)
  applied_known (AnExpr self arguments) env known = (known.0, (known.1, tt))

  kind_known : (code : Code) (kind : Kind) (env : Env) → KindIsKnown Fact kind → TurnIsKnown Fact (kind_turn code kind env)
  kind_known code (form.Constant is) env known = (tt, tt)
  kind_known code (form.Variable name) env known = (tt, tt)
  kind_known code (form.Tuple exprs) env known = parts_known exprs env known
  kind_known code (form.Sequence all) env known = items_known all env [] known
  kind_known code (form.Record fields) env known = fields_known fields env thing.NoField known
  kind_known code (form.Xml tag attributes content) env known = (known.0, ((known.1, known.2), tt))
  kind_known code (form.Function f) env known = (tt, tt)
  kind_known code (form.Apply exprs) env known = applied_known exprs env known
  kind_known code (form.Match e branches) env known = (known.0, (known.1, tt))
  kind_known code (form.Try body branches) env known = (known.0, (known.1, tt))
  kind_known code (form.Map e branches) env known = (known.0, (known.1, tt))
  kind_known code (form.Transform e branches) env known = (known.0, (known.1, tt))
  kind_known code (form.Let pattern e rest) env known = (known.1, ((known.0, known.2), tt))
  kind_known code (form.If condition then_one else_one) env known = (known.0, ((known.1, known.2), tt))
  kind_known code (form.Chain first tails) env known = (known.0, (known.1, tt))
  kind_known code (form.Call word e) env known = (known, (tt, tt))

  pub expr_known : (code : Code) (e : Expr) (env : Env) → IsKnown Fact e → TurnIsKnown Fact (expr_turn code e env)
  expr_known code (expr span kind) env known = kind_known code kind env known

  -- the parts of a tuple, and what follows
  next_parts_known : (next : Expr) (rest : Exprs) (env : Env) (v : Thing) → IsKnown Fact next → AreKnown Fact rest
      → TurnIsKnown Fact (parts_turn next rest env v)
  next_parts_known next NoExpr env v one known = (one, (tt, tt))
  next_parts_known next (AnExpr third rest) env v one known = (one, ((known.0, known.1), (tt, tt)))

  spliced_known : (found : Option (List Thing)) (rest : Items) (env : Env) (done : List Thing) → ItemsAreKnown Fact rest
      → TurnIsKnown Fact (spliced_turn found rest env done)
  spliced_known None rest env done known = (tt, tt)
  spliced_known (Some all) rest env done known = items_known rest env (before all done) known

  arguments_known : (arguments : Exprs) (env : Env) (self : Thing) → AreKnown Fact arguments → TurnIsKnown Fact (called_turn arguments env self)
  arguments_known NoExpr env self known = (tt, tt)
  arguments_known (AnExpr e rest) env self known = (known.0, (known.1, tt))

  asked_known : (found : Option Bool) (then_one else_one : Expr) (env : Env) → IsKnown Fact then_one → IsKnown Fact else_one
      → TurnIsKnown Fact (asked_turn found then_one else_one env)
  asked_known None then_one else_one env one other = (tt, tt)
  asked_known (Some true) then_one else_one env one other = (one, tt)
  asked_known (Some false) then_one else_one env one other = (other, tt)

  and_known : (found : Option Bool) (e : Expr) (rest : Tails) (env : Env) → IsKnown Fact e → TailsAreKnown Fact rest
      → TurnIsKnown Fact (and_turn found e rest env)
  and_known None e rest env one known = (tt, tt)
  and_known (Some true) e rest env one known = (one, (known, tt))
  and_known (Some false) e rest env one known = (tt, (known, tt))

  or_known : (found : Option Bool) (e : Expr) (rest : Tails) (env : Env) → IsKnown Fact e → TailsAreKnown Fact rest
      → TurnIsKnown Fact (or_turn found e rest env)
  or_known None e rest env one known = (tt, tt)
  or_known (Some true) e rest env one known = (tt, (known, tt))
  or_known (Some false) e rest env one known = (one, (known, tt))

  operand_known : (is : Op) (e : Expr) (rest : Tails) (env : Env) (v : Thing) → IsKnown Fact e → TailsAreKnown Fact rest
      → TurnIsKnown Fact (operand_turn is e rest env v)
  operand_known op.And e rest env v one known = and_known (truth_of v) e rest env one known
  operand_known op.Or e rest env v one known = or_known (truth_of v) e rest env one known
  operand_known is e rest env v one known = (one, (known, tt))

  tails_known : (tails : Tails) (env : Env) (v : Thing) → TailsAreKnown Fact tails → TurnIsKnown Fact (tails_turn tails env v)
  tails_known NoTail env v known = (tt, tt)
  tails_known (ATail (Operand is e) rest) env v known = operand_known is e rest env v known.0 known.1
  tails_known (ATail (Without label) rest) env v known = (tt, (known, tt))
  tails_known (ATail (Select label) rest) env v known = (tt, (known, tt))

  -- the body of a branch
  abbrev EntryIsKnown : Option Entry → Type 0
  EntryIsKnown None = Unit {0}
  EntryIsKnown (Some entry) = IsKnown Fact entry.0

  entry_known : (entry : Option Entry) (pushed : List Frame) (otherwise : Turn) → EntryIsKnown entry → AllOf (FrameIsKnown Fact) pushed
      → TurnIsKnown Fact otherwise → TurnIsKnown Fact (entry_turn entry pushed otherwise)
  entry_known None pushed otherwise one known other = other
  entry_known (Some entry) pushed otherwise one known other = (one, known)

  picked_known : (code : Code) (branches : Branches) (v : Thing) (env : Env) (choice : Option (Expr × Env)) → BranchesAreKnown Fact branches
      → Picks code branches v choice → EntryIsKnown (option_map (entry_of env) choice)
  picked_known code NoBranch v env choice known picks =
      subst (λ (choice : Option (Expr × Env)). EntryIsKnown (option_map (entry_of env) choice)) (sym picks) tt
  picked_known code (ABranch pattern body rest) v env choice known picks =
      by_cases picks.0 picks.2 (picked_known code rest v env choice known.2)
    where
      by_cases : (answer : Option Env) → by_answer answer body choice (Picks code rest v choice)
          → (Picks code rest v choice → EntryIsKnown (option_map (entry_of env) choice)) → EntryIsKnown (option_map (entry_of env) choice)
      by_cases None picks on = on picks
      by_cases (Some own) same on = subst (λ (choice : Option (Expr × Env)). EntryIsKnown (option_map (entry_of env) choice)) (sym same) known.1

  chosen_known : (code : Code) (branches : Branches) (v : Thing) (env : Env) (entry : Option Entry) → BranchesAreKnown Fact branches
      → Chooses code branches v env entry → EntryIsKnown entry
  chosen_known code branches v env entry known chooses =
      subst EntryIsKnown (sym chooses.is) (picked_known code branches v env chooses.choice known chooses.picks)

  let_known : (rest : Expr) (env : Env) (answer : Option Env) → IsKnown Fact rest
      → EntryIsKnown (option_map (λ own. (rest, with_all own env)) answer)
  let_known rest env None known = tt
  let_known rest env (Some own) known = known

  no_entry : (entry : Option Entry) → entry ≡ None → EntryIsKnown entry
  no_entry entry is = subst EntryIsKnown (sym is) tt

  module _ (code : Code) (functions : FunctionsAreKnown Fact code) where
    entered_known : (found : Option FunctionTree) (self : Thing) (env : Env) (v : Thing) (entry : Option Entry)
        → ((f : FunctionTree) → found ≡ Some f → FunctionIsKnown Fact f) → EntersOf code found self env v entry → EntryIsKnown entry
    entered_known None self env v entry known is = no_entry entry is
    entered_known (Some (function at name name_at interface branches)) self env v entry known chooses =
        chosen_known code branches v _ entry (known (function at name name_at interface branches) refl).1 chooses

    called_known : (self v : Thing) (entry : Option Entry) → Enters code self v entry → EntryIsKnown entry
    called_known (Closure at env) v entry enters = entered_known (code.function at) (Closure at env) env v entry (functions at) enters
    called_known (thing.Integer n) v entry enters = no_entry entry enters
    called_known (thing.Character c) v entry enters = no_entry entry enters
    called_known (thing.Atom name) v entry enters = no_entry entry enters
    called_known (thing.Pair first second) v entry enters = no_entry entry enters
    called_known (thing.Xml tag attributes content) v entry enters = no_entry entry enters
    called_known (thing.Record fields) v entry enters = no_entry entry enters
    called_known (thing.Function pairs) v entry enters = no_entry entry enters

    same_turn : (turn turn' : Turn) → turn ≡ turn' → TurnIsKnown Fact turn' → TurnIsKnown Fact turn
    same_turn turn turn' is known = subst (TurnIsKnown Fact) (sym is) known

    maps_known : (branches : Branches) (env : Env) (done left : List Thing) (turn : Turn) → BranchesAreKnown Fact branches
        → MapsOn code branches env done left turn → TurnIsKnown Fact turn
    maps_known branches env done [] turn known is = same_turn turn _ is (tt, tt)
    maps_known branches env done (one ∷ left) turn known is = same_turn turn _ is.2
        (entry_known is.0 (Mapping branches env done left ∷ []) (give Stuck) (chosen_known code branches one env is.0 known is.1) (known, tt) (tt, tt))

    listed_known : (found : Option (List Thing)) (branches : Branches) (env : Env) (turn : Turn) → BranchesAreKnown Fact branches
        → Maps code branches env found turn → TurnIsKnown Fact turn
    listed_known None branches env turn known is = same_turn turn (give Stuck) is (tt, tt)
    listed_known (Some all) branches env turn known is = maps_known branches env [] all turn known is

    sifts_known : (branches : Branches) (env : Env) (done left : List Thing) (turn : Turn) → BranchesAreKnown Fact branches
        → SiftsOn code branches env done left turn → TurnIsKnown Fact turn
    sifts_known branches env done [] turn known is = same_turn turn _ is (tt, tt)
    sifts_known branches env done (one ∷ left) turn known is = same_turn turn _ is.2
        (entry_known is.0 (Joining branches env done left ∷ []) _ (chosen_known code branches one env is.0 known is.1) (known, tt) (tt, (known, tt)))

    sifted_known : (found : Option (List Thing)) (branches : Branches) (env : Env) (turn : Turn) → BranchesAreKnown Fact branches
        → Sifts code branches env found turn → TurnIsKnown Fact turn
    sifted_known None branches env turn known is = same_turn turn (give Stuck) is (tt, tt)
    sifted_known (Some all) branches env turn known is = sifts_known branches env [] all turn known is

    resumed_known : (frame : Frame) (v : Thing) (turn : Turn) → FrameIsKnown Fact frame → Resumes code frame v turn → TurnIsKnown Fact turn
    resumed_known (First next rest env) v turn known is = same_turn turn _ is (next_parts_known next rest env v known.0 known.1)
    resumed_known (Second first) v turn known is = same_turn turn _ is (tt, tt)
    resumed_known (Iteming done rest env) v turn known is = same_turn turn _ is (items_known rest env (v ∷ done) known)
    resumed_known (Splicing done rest env) v turn known is = same_turn turn _ is (spliced_known (items v) rest env done known)
    resumed_known (Fielding done label rest env) v turn known is = same_turn turn _ is (fields_known rest env _ known.1)
    resumed_known (Tagging attributes content env) v turn known is = same_turn turn _ is (known.0, (known.1, tt))
    resumed_known (Attributing tag content env) v turn known is = same_turn turn _ is (known, (tt, tt))
    resumed_known (Filling tag attributes) v turn known is = same_turn turn _ is (tt, tt)
    resumed_known (Called arguments env) v turn known is = same_turn turn _ is (arguments_known arguments env v known)
    resumed_known (Argument self rest env) v turn known is = same_turn turn _ is.2
        (entry_known is.0 (Called rest env ∷ []) (give Stuck) (called_known self v is.0 is.1) (known, tt) (tt, tt))
    resumed_known (Matching branches env) v turn known is = same_turn turn _ is.2
        (entry_known is.0 [] (give Stuck) (chosen_known code branches v env is.0 known is.1) tt (tt, tt))
    resumed_known (Trying branches env) v turn known is = same_turn turn _ is (tt, tt)
    resumed_known (Letting pattern rest env) v turn known is = same_turn turn _ is.2
        (entry_known is.0 [] (give Stuck) (subst EntryIsKnown (sym is.1.2) (let_known rest env is.1.0 known.1)) tt (tt, tt))
    resumed_known (Asking then_one else_one env) v turn known is = same_turn turn _ is (asked_known (truth_of v) then_one else_one env known.0 known.1)
    resumed_known (Wording word) v turn known is = same_turn turn _ is (tt, tt)
    resumed_known (Tailing tails env) v turn known is = same_turn turn _ is (tails_known tails env v known)
    resumed_known (Operating is_one left rest env) v turn known is = same_turn turn _ is (tt, (known, tt))
    resumed_known (Listing branches env) v turn known is = listed_known (items v) branches env turn known is
    resumed_known (Mapping branches env done left) v turn known is = maps_known branches env (v ∷ done) left turn known is
    resumed_known (Sifting branches env) v turn known is = sifted_known (items v) branches env turn known is
    resumed_known (Joining branches env done left) v turn known is = sifts_known branches env (v ∷ done) left turn known is

    caught_known : (frame : Frame) (v : Thing) (turn : Turn) → FrameIsKnown Fact frame → Catches code frame v turn → TurnIsKnown Fact turn
    caught_known (Trying branches env) v turn known is = same_turn turn _ is.2
        (entry_known is.0 [] (give (Raised v)) (chosen_known code branches v env is.0 known is.1) tt (tt, tt))
    caught_known frame v turn known is = same_turn turn (give (Raised v)) is (tt, tt)

    pub comes_known : (frame : Frame) (outcome : Outcome) (turn : Turn) → FrameIsKnown Fact frame → ComesTo code frame outcome turn
        → TurnIsKnown Fact turn
    comes_known frame (Done v) turn known is = resumed_known frame v turn known is
    comes_known frame (Raised v) turn known is = caught_known frame v turn known is
    comes_known frame Overflow turn known is = same_turn turn (give Overflow) is (tt, tt)
    comes_known frame Spent turn known is = same_turn turn (give Spent) is (tt, tt)
    comes_known frame Stuck turn known is = same_turn turn (give Stuck) is (tt, tt)
