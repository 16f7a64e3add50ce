-- What an expression sees under names that a pattern has captured.
use Rattle.std.proofs.Common.{◌≡◌, Bool, true, false, ◌||◌, List, [], ◌∷◌, map, Option, Some, None, refl, sym, ap, ◌∙◌, bytes_eq}
use Rattle.std.proofs.Common.{if◌then◌else◌}
use Rattle.std.proofs.lemmas.Slice.Eq.{bytes_eq-Decides}
use Rattle.cd_syntax.specs.Name.{Name, IsLabel}
use Rattle.cd_syntax.specs.TypeTree.{Tree}
use Rattle.cd_model.specs.AllOf.{AllOf}
use Rattle.cd_model.specs.Interfaces.{Interfaces, value_in_written}
use Rattle.cd_model.specs.Scope.{Scope}
use Rattle.cd_model.specs.Thing.{Thing, NoField, Field, IsValue, AreValues}
use Rattle.cd_rules.specs.InRow.{thing_at}
use Rattle.cd_matching.specs.Captures.{Captures, or_else}
use Rattle.cd_matching.specs.Takes.{WrittenValueTakes}
use Rattle.cd_matching.specs.Variables.{binds}
use Rattle.cd_matching.specs.WrittenPattern.{pattern_of}
use Rattle.cd_matching.proofs.CapturedVariables.{nothing_else_answers}
use Rattle.cd_variables.specs.Occurrences.{Occurrence, has, bound}
use Rattle.cd_evaluation.specs.Code.{Code, declared_value, named}
use Rattle.cd_evaluation.specs.Environment.{Env, with_all, with_capture, captured_env}
use Rattle.cd_names.specs.ProgramFaults.{names_of}

-- names before those of an environment
pub at_with_all : (own env : Env) (name : Name) → thing_at (with_all own env) name ≡ or_else (thing_at own name) (thing_at env name)
at_with_all NoField env name = refl
at_with_all (Field label v rest) env name = by_test (bytes_eq label name) (at_with_all rest env name)
  where
    by_test : (c : Bool) → thing_at (with_all rest env) name ≡ or_else (thing_at rest name) (thing_at env name)
        → (if c then Some v else thing_at (with_all rest env) name) ≡ or_else (if c then Some v else thing_at rest name) (thing_at env name)
    by_test true later = refl
    by_test false later = later

abbrev names : List Occurrence → List Name
names occurrences = map (λ occurrence. occurrence.name) occurrences

abbrev env_of : List Occurrence → Captures Name → Env
env_of occurrences captures = captured_env (names occurrences) captures

-- each name in the list has what it captured
pub at_captured : (occurrences : List Occurrence) (captures : Captures Name) (name : Name)
    → thing_at (env_of occurrences captures) name ≡ (if has occurrences name then captures name else None)
at_captured [] captures name = refl
at_captured (first ∷ rest) captures name =
    by_name (bytes_eq first.name name) refl (captures first.name) refl (at_captured rest captures name)
  where
    same_name : bytes_eq first.name name ≡ true → captures first.name ≡ captures name
    same_name same = ap captures ((bytes_eq-Decides first.name name).0 same)

    by_name : (c : Bool) → bytes_eq first.name name ≡ c → (found : Option Thing) → captures first.name ≡ found
        → thing_at (env_of rest captures) name ≡ (if has rest name then captures name else None)
        → thing_at (with_capture first.name found (env_of rest captures)) name ≡ (if c || has rest name then captures name else None)
    by_name true same (Some v) is later = ap (λ c. if c then Some v else thing_at (env_of rest captures) name) same ∙ sym is ∙ same_name same
    by_name true same None is later = later ∙ by_rest (has rest name)
      where
        by_rest : (b : Bool) → (if b then captures name else None) ≡ captures name
        by_rest true = refl
        by_rest false = sym is ∙ same_name same
    by_name false same (Some v) is later = ap (λ c. if c then Some v else thing_at (env_of rest captures) name) same ∙ later
    by_name false same None is later = later

-- Where the variables of a pattern are the names that it binds, its captures stand before the environment
module _ (interfaces : Interfaces) (scope : Scope) (pattern : Tree)
    (same : (name : Name) → binds (pattern_of scope pattern) name ≡ has (bound pattern) name) where
  pub seen_after : (v : Thing) (captures : Captures Name) → WrittenValueTakes interfaces scope pattern v (Some captures)
      → (env : Env) (name : Name)
      → thing_at (with_all (captured_env (names_of pattern) captures) env) name ≡ or_else (captures name) (thing_at env name)
  seen_after v captures takes env name =
      at_with_all (captured_env (names_of pattern) captures) env name
      ∙ ap (λ found. or_else found (thing_at env name))
      (at_captured (bound pattern) captures name ∙ by_name (has (bound pattern) name) (same name))
    where
      by_name : (c : Bool) → binds (pattern_of scope pattern) name ≡ c → (if c then captures name else None) ≡ captures name
      by_name true is = refl
      by_name false is = sym (nothing_else_answers (value_in_written interfaces) IsValue (pattern_of scope pattern) v captures name takes is)

  -- and before declared functions
  pub named_after : (code : Code) (v : Thing) (captures : Captures Name) → WrittenValueTakes interfaces scope pattern v (Some captures)
      → (env : Env) (name : Name)
      → named code (with_all (captured_env (names_of pattern) captures) env) name ≡ or_else (captures name) (named code env name)
  named_after code v captures takes env name =
      ap (λ found. or_else found (declared_value code name)) (seen_after v captures takes env name)
      ∙ grouped (captures name) (thing_at env name) (declared_value code name)
    where
      grouped : (one other last : Option Thing) → or_else (or_else one other) last ≡ or_else one (or_else other last)
      grouped None other last = refl
      grouped (Some w) other last = refl

-- values before values
pub values_with_all : (own env : Env) → AreValues own → AreValues env → AreValues (with_all own env)
values_with_all NoField env own_are are = are
values_with_all (Field label v rest) env own_are are = (own_are.0, own_are.1, values_with_all rest env own_are.2 are)

pub captured_values : (labels : List Name) (captures : Captures Name) → AllOf IsLabel labels
    → ((name : Name) (v : Thing) → captures name ≡ Some v → IsValue v) → AreValues (captured_env labels captures)
captured_values [] captures are each = tt
captured_values (name ∷ labels) captures are each = by_capture (captures name) (λ v found. each name v found)
    (captured_values labels captures are.1 each)
  where
    by_capture : (found : Option Thing) → ((v : Thing) → found ≡ Some v → IsValue v) → AreValues (captured_env labels captures)
        → AreValues (with_capture name found (captured_env labels captures))
    by_capture None value rest = rest
    by_capture (Some v) value rest = (are.0, value v refl, rest)
