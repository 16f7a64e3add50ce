-- What is known where an expression is evaluated: the names that have types mean good values in these types. This stays where names are
-- added.
use Rattle.std.proofs.Common.{◌≡◌, ℕ, Bool, true, false, List, [], ◌∷◌, ◌++◌, Option, Some, None, if◌then◌else◌, refl, subst}
use Rattle.std.proofs.Common.{bytes_eq, option_map}
use Rattle.std.proofs.lemmas.Option.{none-some, same_Some}
use Rattle.cd_syntax.specs.Name.{Name, IsLabel}
use Rattle.cd_syntax.specs.TypeTree.{Tree}
use Rattle.cd_syntax.specs.declared.constant.Constant.{Constant}
use Rattle.cd_syntax.specs.declared.constant.Constant.TheVariants as constant
use Rattle.cd_model.specs.AllOf.{AllOf}
use Rattle.cd_model.specs.Interfaces.{Interfaces, value_in_written}
use Rattle.cd_model.specs.Scope.{Scope}
use Rattle.cd_model.specs.Thing.{Thing, Closure, Fields, NoField, Field, IsValue}
use Rattle.cd_model.proofs.Covered.{each_both}
use Rattle.cd_rules.specs.InRow.{thing_at}
use Rattle.cd_matching.specs.Captures.{Captures, or_else}
use Rattle.cd_matching.specs.Sequences.{text_of, thing_of}
use Rattle.cd_matching.specs.Takes.{WrittenValueTakes}
use Rattle.cd_matching.specs.WrittenPattern.{pattern_of}
use Rattle.cd_program.specs.Expr.{FunctionTree, function}
use Rattle.cd_program.specs.WellMade.{IsWellMadeName}
use Rattle.cd_typing.specs.Interfaces.{Arrow, AreWritten}
use Rattle.cd_typing.specs.Kept.{Kept}
use Rattle.cd_typing.specs.Rules.{FunctionHas}
use Rattle.cd_typing.specs.Typ.{Typ, IsType, Types, type_at, with_type, AreTypes}
use Rattle.cd_evaluation.specs.Code.{Code, declared_value, named}
use Rattle.cd_evaluation.specs.Environment.{Env, with_all, with_name, with_capture, captured_env}
use Rattle.cd_names.specs.ProgramFaults.{names_of}
use Rattle.cd_evaluation.specs.ProgramInterfaces.{interface_of}
use Rattle.cd_evaluation.proofs.NamesAreLabels.{names_are_labels}
use Rattle.cd_safety.specs.ComesWithin.{KeepsTypes}
use Rattle.cd_safety.specs.GoodInterface.{HasGuardedInterface}
use Rattle.cd_safety.specs.OfInterface.{AreArrowsOf, HasArrows}
use Rattle.cd_safety.specs.PatternAnswers.{TakesAsWritten}
use Rattle.cd_safety.specs.PatternValues.{ValuesFit, NamesFit}
use Rattle.cd_safety.specs.Sound.{IsSound, AreSound, IsGood, AreGood}
use Rattle.cd_safety.specs.TypedClosure.{IsGoodPattern, IsTypedClosure}
use Rattle.cd_safety.specs.ValueIn.{ValueIn, IsTypedValue}
use Rattle.cd_safety.proofs.EnvironmentsGood.{named_good, all_good, name_good}
use Rattle.cd_safety.proofs.PatternBranches.{captured_are_typed}
use Rattle.cd_safety.proofs.PatternCaptures.{CapturedSort, captured_of_sort}
use Rattle.cd_safety.proofs.ProgramPatterns.{env_of, captured_names_fit}
use Rattle.cd_safety.proofs.SortsByParts.{good_by_parts}

-- a name has a type among types
pub type_is : (types : Types) → AreTypes types → (name : Name) (t : Typ) → type_at types name ≡ Some t → IsType t
type_is [] are name t found = absurd (none-some t found)
type_is (one ∷ types) are name t found = by_test (bytes_eq one.0 name) found (type_is types are.1 name t)
  where
    by_test : (c : Bool) → (if c then Some one.1 else type_at types name) ≡ Some t → (type_at types name ≡ Some t → IsType t)
        → IsType t
    by_test true same later = subst IsType (same_Some one.1 t same) are.0
    by_test false same later = later same

pub with_type_are : (name : Option Name) (t : Typ) (types : Types) → IsType t → AreTypes types → AreTypes (with_type name t types)
with_type_are None t types type are = are
with_type_are (Some name) t types type are = (type, are)

-- sound values, as a sort
text_sound : (fact : ℕ → Fields → Type 0) (text : List ℕ) → IsSound fact (text_of text)
text_sound fact [] = tt
text_sound fact (c ∷ text) = (tt, text_sound fact text)

constant_sound : (fact : ℕ → Fields → Type 0) (is : Constant) → IsSound fact (thing_of is)
constant_sound fact (constant.Int n) = tt
constant_sound fact (constant.Char c) = tt
constant_sound fact (constant.Atom name) = tt
constant_sound fact (constant.Text text) = text_sound fact text
constant_sound fact constant.Nil = tt

abbrev captured_sound : (fact : ℕ → Fields → Type 0) → CapturedSort
captured_sound fact = record {
  sort = record {
    Of = IsSound fact;
    OfFields = AreSound fact;
    OfPairs = λ pairs. ⊥;
    pair = λ first second h. h;
    xml = λ tag attributes content h. h;
    fields = λ fields h. h;
    pairs = λ pairs h. h;
    field = λ label value rest h. h;
    maps = λ argument result rest h. absurd h;
    fails = λ argument rest h. absurd h;
  };
  nil = tt;
  pair = λ first second one other. (one, other);
  constant = λ is sound. constant_sound fact is;
}

module _ (kept : Kept) (scope : Scope) (code : Code) (interfaces : Interfaces) where
  abbrev pub Fact : ℕ → Fields → Type 0
  Fact = IsTypedClosure kept scope code interfaces

  -- what is known of the code of a program whose functions are typed
  pub record IsSafeCode : Type 0 where
    pub keeps : KeepsTypes kept
    pub takes : TakesAsWritten interfaces scope env_of code
    pub are_arrows : (place : ℕ) (f : FunctionTree) → code.function place ≡ Some f → HasGuardedInterface scope f
        → (arrows : List Arrow) → AreWritten scope (interface_of f) arrows → AreArrowsOf interfaces place arrows
    pub declared : (name : Name) (place : ℕ) → code.declared name ≡ Some place → IsGood Fact interfaces (Closure place NoField)

  -- the arrows of a function that is typed are those of its interface
  pub arrows_of_function : IsSafeCode → (place : ℕ) (f : FunctionTree) → code.function place ≡ Some f → HasGuardedInterface scope f
      → (types : Types) (t : Typ) → FunctionHas kept scope types f t → HasArrows interfaces place
  arrows_of_function given place (function at name name_at interface branches) found guarded types t typed =
      (typed.0, given.are_arrows place (function at name name_at interface branches) found guarded typed.0 typed.2)

  pub arrows_of_closure : IsSafeCode → (place : ℕ) (env : Env) → Fact place env → HasArrows interfaces place
  arrows_of_closure given place env is = arrows_of_function given place is.f is.found is.guarded is.types is.t is.typed

  -- where an expression is evaluated, names that have types mean values in these types
  pub record Sees (types : Types) (env : Env) : Type 0 where
    pub are_types : AreTypes types
    pub fit : NamesFit interfaces types (named code env)
    pub good : AreGood Fact interfaces env

  -- the value of a name is good
  pub seen_is_good : IsSafeCode → (env : Env) → AreGood Fact interfaces env → (name : Name) (v : Thing)
      → named code env name ≡ Some v → IsGood Fact interfaces v
  seen_is_good given env good name v found = by_value (thing_at env name) (λ w same. named_good Fact interfaces env good name w same) found
    where
      by_place : (place : Option ℕ) → ((at : ℕ) → place ≡ Some at → IsGood Fact interfaces (Closure at NoField))
          → option_map (λ at. Closure at NoField) place ≡ Some v → IsGood Fact interfaces v
      by_place None each same = absurd (none-some v same)
      by_place (Some at) each same =
          subst (IsGood Fact interfaces) (same_Some (Closure at NoField) v same) (each at refl)

      by_value : (value : Option Thing) → ((w : Thing) → value ≡ Some w → IsGood Fact interfaces w)
          → or_else value (declared_value code name) ≡ Some v → IsGood Fact interfaces v
      by_value None each same = by_place (code.declared name) (λ at is. given.declared name at is) same
      by_value (Some w) each same = subst (IsGood Fact interfaces) (same_Some w v same) (each w refl)

  -- a function sees its own name
  name_fits : (name : Name) (t : Typ) (types : Types) (v : Thing) (env : Env) → IsTypedValue interfaces v → ValueIn interfaces t v
      → NamesFit interfaces types (named code env) → NamesFit interfaces ((name, t) ∷ types) (named code (Field name v env))
  name_fits name t types v env typed inside fit other s found = by_test (bytes_eq name other) found
    where
      Means : Option Thing → Type 0
      Means seen = (w : Thing) × (seen ≡ Some w) × IsTypedValue interfaces w × ValueIn interfaces s w

      by_test : (c : Bool) → (if c then Some t else type_at types other) ≡ Some s
          → Means (or_else (if c then Some v else thing_at env other) (declared_value code other))
      by_test true same = (v, refl, typed, subst (λ t. ValueIn interfaces t v) (same_Some t s same) inside)
      by_test false same = fit other s same

  pub sees_name : (name : Option Name) (t : Typ) (types : Types) (v : Thing) (env : Env) → IsWellMadeName name → IsType t
      → IsGood Fact interfaces v → ValueIn interfaces t v → Sees types env → Sees (with_type name t types) (with_name name v env)
  sees_name None t types v env label type good inside sees = sees
  sees_name (Some name) t types v env label type good inside sees = record {
    are_types = (type, sees.are_types);
    fit = name_fits name t types v env good.typed inside sees.fit;
    good = name_good Fact interfaces (Some name) v env label good sees.good;
  }

  -- what a pattern captures of a good value is good
  captures_good : (labels : List Name) (captures : Captures Name) → AllOf IsLabel labels
      → ((name : Name) (v : Thing) → captures name ≡ Some v → IsGood Fact interfaces v)
      → AreGood Fact interfaces (captured_env labels captures)
  captures_good [] captures are each = (good_by_parts Fact interfaces).no_field
  captures_good (name ∷ labels) captures are each =
      by_capture (captures name) (λ v found. each name v found) (captures_good labels captures are.1 each)
    where
      by_capture : (found : Option Thing) → ((v : Thing) → found ≡ Some v → IsGood Fact interfaces v)
          → AreGood Fact interfaces (captured_env labels captures)
          → AreGood Fact interfaces (with_capture name found (captured_env labels captures))
      by_capture None value rest = rest
      by_capture (Some v) value rest =
          ((good_by_parts Fact interfaces).field name v (captured_env labels captures)).1 (are.0, value v refl, rest)

  pub sees_captured : (pattern : Tree) → IsGoodPattern scope pattern → (v : Thing) → IsGood Fact interfaces v → (captures : Captures Name)
      → WrittenValueTakes interfaces scope pattern v (Some captures) → (own types : Types) (env : Env) → AreTypes own
      → ValuesFit interfaces own captures → Sees types env → Sees (own ++ types) (with_all (env_of pattern captures) env)
  sees_captured pattern is v good captures takes own types env own_are own_fit sees = record {
    are_types = each_both (λ (one : Name × Typ). IsType one.1) own types own_are sees.are_types;
    fit = captured_names_fit interfaces scope pattern is.typed v good.typed captures takes is.names code own types env own_fit sees.fit;
    good = all_good Fact interfaces (env_of pattern captures) env
        (captures_good (names_of pattern) captures (names_are_labels pattern is.well_made) (λ name w found. record {
          typed = captured_are_typed interfaces scope pattern is.typed v good.typed captures takes name w found;
          sound = captured_of_sort (captured_sound Fact) (value_in_written interfaces) IsValue (pattern_of scope pattern)
              is.typed.constants v good.sound captures takes name w found;
        }))
        sees.good;
  }
