-- The nodes of the workload stand for the types that its program names.
use Rattle.std.proofs.Common.{◌≡◌, ◌++◌, ◌↔◌, ℕ, Bool, true, false, [], ◌∷◌, codes, bytes_eq, refl, length, lit<, if◌then◌else◌}
use Rattle.std.proofs.Math.Bool.{or-false}
use Rattle.cd_sets.specs.declared.node_id.NodeId.{NodeId}
use Rattle.cd_syntax.specs.Name.{Name}
use Rattle.cd_syntax.specs.TypeTree as type
use Rattle.cd_syntax.specs.TypeTree.{Tree, tree, Kind, AField, NoField, regular}
use Rattle.cd_syntax.specs.declared.builtin.BuiltinName.TheVariants as builtin
use Rattle.cd_syntax.specs.declared.tokens.Span.{Span}
use Rattle.cd_syntax.specs.declared.type_tree.Post.TheVariants as post
use Rattle.cd_model.specs.Alike as heads
use Rattle.cd_model.specs.Alike.{FieldsStand}
use Rattle.cd_model.specs.BuiltIns.{built_ins, node, EMPTY, INT}
use Rattle.cd_model.specs.Formula.{Graph, formula_at, nodes}
use Rattle.cd_model.specs.Interfaces.{admits}
use Rattle.cd_model.specs.Scope.{Scope}
use Rattle.cd_model.specs.StandsFor.{StandsFor}
use Rattle.cd_model.specs.Thing as thing
use Rattle.cd_model.specs.Thing.{Thing}
use Rattle.cd_model.specs.Types as types
use Rattle.cd_model.specs.Types.{field_of, FieldOf, Sequences, Presentation, Mapping, reader, items, are_in, no_closure, closure_maps}
use Rattle.cd_model.specs.Written.{WrittenType, alone, within}
use Rattle.cd_model.proofs.BothWays.{itself, through}
use Rattle.cd_model.proofs.FormulasAlike as formula
use Rattle.cd_model.proofs.Resolved.{MeansIn, KnownIn, IsFormOf, means_its_head, stands_by_forms}
use Rattle.cd_model.proofs.Resolved as form
use Rattle.cd_matching.specs.WrittenPattern.{in_scope}
use Rattle.cd_regex.specs.Automaton.{sequence_formulas}
use Rattle.cd_regex.specs.Regular.{Item, Star}
use Rattle.cd_regex.specs.Sequences.{HoldsSequences}
use Rattle.cd_regex.proofs.Holding.{batch_holds}
use Rattle.cd_typing.specs.Typed.{scope_of}
use Rattle.cd_running.specs.Inner.WorkProgram.{work_program, log_type, entry_type}
use Rattle.cd_running.proofs.WorkTypes.{graph, more, entry_formulas, log_formulas, integers, entries}
use Rattle.cd_running.proofs.WorkTypes.{INTS, ENTRY_NAME, NUMBERED, ENTRY, ENTRIES, LOG_NAME, NO_ATTRIBUTE, LOG}

-- what the types of the program see
abbrev pub scope : Scope
scope = scope_of work_program

abbrev here : Kind → WrittenType
here kind = record { scope = scope; kind = kind }

abbrev pub any_number : (sequence part item : Span) → Kind → Kind
any_number sequence part item kind = type.Sequence
    (regular sequence (type.Repeat (regular part (type.Item (tree item kind))) post.Star))

-- wherever they are written
data Stands : NodeId → WrittenType → Type 0 where
  nothing : Stands EMPTY (alone (type.Builtin builtin.Empty))
  an_integer : Stands INT (here (type.Builtin builtin.Int))
  some_integers : (sequence part item : Span) → Stands INTS (here (any_number sequence part item (type.Builtin builtin.Int)))
  entry_name : Stands ENTRY_NAME (here (type.Atom (codes "e")))
  numbered : (at : ℕ) (span : Span) → Stands NUMBERED
      (here (type.Record (AField (codes "n") at false (tree span (type.Builtin builtin.Int)) NoField) type.Closed))
  entry : Stands ENTRY (within scope entry_type)
  named_entry : Stands ENTRY (here (type.Named (codes "Entry")))
  some_entries : (sequence part item : Span) → Stands ENTRIES (here (any_number sequence part item (type.Named (codes "Entry"))))
  log_name : Stands LOG_NAME (here (type.Atom (codes "log")))
  no_attribute : Stands NO_ATTRIBUTE (here (type.Record NoField type.Closed))
  log : Stands LOG (within scope log_type)
  named_log : Stands LOG (here (type.Named (codes "Log")))

-- what a thing answers at a sequence
at_sequence : {X : Type 0} (at : Presentation X) (closed : ℕ → Mapping X) (is : Thing) (expression : types.Regular X)
    (answer : Bool)
    → are_in (items at closed is) (types.fits expression) answer ↔ reader at closed is (Sequences expression) answer
at_sequence at closed (thing.Atom name) expression answer = itself
at_sequence at closed (thing.Pair first second) expression answer = itself
at_sequence at closed _ expression answer = itself

-- the formula of the first state of an expression means the expression
means_sequences : (first : ℕ) (before batch after : Graph) (one : NodeId) → length before ≡ first
    → HoldsSequences first (Star (Item one)) batch
    → MeansIn (before ++ batch ++ after) (formula_at (before ++ batch ++ after) (node first))
    (Sequences (types.Repeat (types.Item one) post.Star))
means_sequences first before batch after one long holds = record {
  elements = λ e answer. through (holds.elements before after e answer long)
      (at_sequence (nodes whole) no_closure e expression answer);
  values = λ interfaces v answer. through (holds.values before after interfaces v answer long)
      (at_sequence (nodes whole) (closure_maps (nodes whole) (admits interfaces)) v expression answer);
}
  where
    whole : Graph
    whole = before ++ batch ++ after

    expression : types.Regular NodeId
    expression = types.Repeat (types.Item one) post.Star

means_integers : MeansIn graph (formula_at graph INTS) (Sequences (types.Repeat (types.Item INT) post.Star))
means_integers = means_sequences 14 built_ins (sequence_formulas 14 integers)
    (entry_formulas ++ (sequence_formulas 19 entries ++ log_formulas)) INT refl (batch_holds integers 14 (lit< tt))

means_entries : MeansIn graph (formula_at graph ENTRIES) (Sequences (types.Repeat (types.Item ENTRY) post.Star))
means_entries = means_sequences 19 (built_ins ++ (sequence_formulas 14 integers ++ entry_formulas))
    (sequence_formulas 19 entries) log_formulas ENTRY refl (batch_holds entries 19 (lit< tt))

-- fields alike, at each label
the_number : (at : ℕ) (span : Span) (label : Name)
    → FieldsStand Stands (field_of ((codes "n", record { optional = false; type = INT }) ∷ []) EMPTY label)
    (field_of ((codes "n", record { optional = false; type = here (type.Builtin builtin.Int) }) ∷ [])
    (alone (type.Builtin builtin.Empty)) label)
the_number at span label = by_name (bytes_eq (codes "n") label)
  where
    by_name : (same : Bool) → FieldsStand Stands
        (if same then record { optional = false; type = INT } else record { optional = true; type = EMPTY })
        (if same then record { optional = false; type = here (type.Builtin builtin.Int) }
        else record { optional = true; type = alone (type.Builtin builtin.Empty) })
    by_name true = record { optional = refl; type = an_integer }
    by_name false = record { optional = refl; type = nothing }

abbrev IsForm : ℕ → NodeId → WrittenType → Type 0
IsForm most id is = IsFormOf (MeansIn graph) (KnownIn graph 2) Stands most (formula_at graph id) is.scope is.kind

entry_form : (most : ℕ) → IsForm most ENTRY (within scope entry_type)
entry_form most = form.by_head most _ _ _ _ _ tt (means_its_head graph _ _ refl) refl
    (heads.xmls _ _ _ _ _ _ entry_name (numbered _ _) (some_integers _ _ _))

log_form : (most : ℕ) → IsForm most LOG (within scope log_type)
log_form most = form.by_head most _ _ _ _ _ tt (means_its_head graph _ _ refl) refl
    (heads.xmls _ _ _ _ _ _ log_name no_attribute (some_entries _ _ _))

forms : (id : NodeId) (is : WrittenType) → Stands id is → IsForm 2 id is
forms _ _ nothing = form.by_name 2 _ _ _ formula.nothing
forms _ _ an_integer = form.by_name 2 _ _ _ (formula.of_head _ _ _ _ refl refl (heads.integers _ _ (λ n. refl)))
forms _ _ (some_integers sequence part item) = form.by_head 2 _ _ _ _ _ tt means_integers refl
    (heads.sequences _ _ (heads.repeat _ _ _ (heads.an_item _ _ an_integer)))
forms _ _ entry_name = form.by_head 2 _ _ _ _ _ tt (means_its_head graph _ _ refl) refl (heads.atoms _ _ (λ name. or-false _))
forms _ _ (numbered at span) = form.by_head 2 _ _ _ _ _ tt (means_its_head graph _ _ refl) refl
    (heads.records _ _ _ _ (the_number at span))
forms _ _ entry = entry_form 2
forms _ _ named_entry = form.named 1 _ _ _ _ refl (entry_form 1)
forms _ _ (some_entries sequence part item) = form.by_head 2 _ _ _ _ _ tt means_entries refl
    (heads.sequences _ _ (heads.repeat _ _ _ (heads.an_item _ _ named_entry)))
forms _ _ log_name = form.by_head 2 _ _ _ _ _ tt (means_its_head graph _ _ refl) refl (heads.atoms _ _ (λ name. or-false _))
forms _ _ no_attribute = form.by_head 2 _ _ _ _ _ tt (means_its_head graph _ _ refl) refl
    (heads.records _ _ _ _ (λ label. record { optional = refl; type = nothing }))
forms _ _ log = log_form 2
forms _ _ named_log = form.named 1 _ _ _ _ refl (log_form 1)

-- the types of `main`, wherever they are written
pub log_stands : (span : Span) → StandsFor graph LOG (in_scope scope (tree span (type.Named (codes "Log"))))
log_stands span = stands_by_forms graph Stands 2 forms LOG _ refl named_log (lit< tt) (more, refl)

pub integers_stand : (span sequence part item : Span)
    → StandsFor graph INTS (in_scope scope (tree span (any_number sequence part item (type.Builtin builtin.Int))))
integers_stand span sequence part item =
    stands_by_forms graph Stands 2 forms INTS _ refl (some_integers sequence part item) (lit< tt) (more, refl)
