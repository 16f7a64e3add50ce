-- The branch of `main` takes each log, and its variable captures a sequence of entries.
use Rattle.std.proofs.Common.{◌≡◌, Bool, true, false, [], ◌∷◌, Option, Some, None, inl, codes, bytes_eq, refl, sym, ap₂, subst, ◌∙◌, true≢false, if◌then◌else◌}
use Rattle.std.proofs.Math.Bool.{or-false}
use Rattle.std.proofs.lemmas.Option.{none-some, same_Some}
use Rattle.std.proofs.lemmas.Slice.Eq.{bytes_eq-Decides}
use Rattle.cd_syntax.specs.Name.{Name}
use Rattle.cd_model.specs.Formula.{IsIn}
use Rattle.cd_model.specs.Thing.{Thing, Atom, Xml, Record, NoField, Field, IsElement}
use Rattle.cd_model.specs.Types.{chosen}
use Rattle.cd_model.specs.Written.{in_written}
use Rattle.cd_matching.specs.Captures.{Captures, just, both, if_so}
use Rattle.cd_matching.specs.Pattern as pattern
use Rattle.cd_matching.specs.Pattern.{Pattern}
use Rattle.cd_matching.specs.PatternsAlike.{Alike}
use Rattle.cd_matching.specs.Take.{take}
use Rattle.cd_matching.specs.Takes.{IsRight}
use Rattle.cd_matching.specs.WrittenPattern.{pattern_of}
use Rattle.cd_program.specs.Expr.{branches_of}
use Rattle.cd_grammar.specs.ExprsAt.{branch}
use Rattle.cd_typing.specs.Branches.{HoldCaptured, Cover, Fit, FitsOne}
use Rattle.cd_typing.specs.Typ.{In, Types}
use Rattle.cd_running.specs.Inner.WorkProgram.{log_pattern, body}
use Rattle.cd_running.proofs.WorkStands.{scope}
use Rattle.cd_running.proofs.ElementTests.{atom_right, bare_right, takes_so}
use Rattle.cd_running.proofs.PatternTests.{Test, is_atom, is_bare}
use Rattle.cd_running.proofs.WorkTypes.{graph, LOG_NAME, NO_ATTRIBUTE, log, some_entries}

abbrev tested : Pattern Test
tested = pattern.Xml (pattern.OfType (is_atom (codes "log"))) (pattern.OfType is_bare) (pattern.Bind (codes "c"))

right : Alike (IsRight in_written IsElement) (pattern_of scope log_pattern) tested
right = (atom_right scope (codes "log"), bare_right scope, refl)

-- the parts of a log
log_named : (tag : Thing) → IsIn graph tag LOG_NAME → is_atom (codes "log") tag ≡ true
log_named (Atom name) inside = sym (or-false _) ∙ inside
log_named _ inside = absurd (true≢false inside)

not_absent : (one other : Type 0) (same : Bool) → same ≡ true → chosen same one other → one
not_absent one other true is there = there
not_absent one other false is there = absurd (true≢false (sym is))

bare : (attributes : Thing) → IsIn graph attributes NO_ATTRIBUTE → is_bare attributes ≡ true
bare (Record NoField) inside = refl
bare (Record (Field label d rest)) inside = absurd (true≢false
    (not_absent _ _ (bytes_eq label label) ((bytes_eq-Decides label label).1 refl) (inside label)))
bare _ inside = absurd (true≢false inside)

-- what is taken after two tests
abbrev after_tests : (one other : Bool) → Captures Name → Option (Captures Name)
after_tests one other captures = both (if_so one) (both (if_so other) (Some captures))

taken_after : (one other : Bool) (last captures : Captures Name) → after_tests one other last ≡ Some captures → last ≡ captures
taken_after true true last captures is = same_Some last captures is
taken_after true false last captures is = absurd (none-some captures is)
taken_after false other last captures is = absurd (none-some captures is)

pub covers : Cover scope (branches_of (branch log_pattern body ∷ [])) (In log)
covers (Xml tag attributes content) element inside = inl (
  just (codes "c") content,
  record {
    tested = tested;
    right = right;
    gives = ap₂ (λ one other. after_tests one other (just (codes "c") content))
        (log_named tag inside.0) (bare attributes inside.1);
  },
)
covers _ element inside = absurd (true≢false inside)

abbrev pub own : Types
own = (codes "c", some_entries) ∷ []

fits : (content : Thing) → In some_entries content → Fit own (just (codes "c") content)
fits content inside name = by_test (bytes_eq (codes "c") name)
  where
    by_test : (same : Bool) → FitsOne (if same then Some some_entries else None) (if same then Some content else None)
    by_test true = (content, refl, inside)
    by_test false = refl

captures_content : (e : Thing) → IsElement e → In log e → (captures : Captures Name)
    → take Test (λ test. test) tested e ≡ Some captures → Fit own captures
captures_content (Xml tag attributes content) element inside captures is =
    subst (Fit own) (taken_after (is_atom (codes "log") tag) (is_bare attributes) (just (codes "c") content) captures is)
    (fits content inside.2)
captures_content _ element inside captures is = absurd (true≢false inside)

pub holds_captured : HoldCaptured scope own [] log_pattern (In log)
holds_captured e captures first = captures_content e first.element first.in_set captures
    (takes_so scope log_pattern tested right e first.element (Some captures) first.takes)
