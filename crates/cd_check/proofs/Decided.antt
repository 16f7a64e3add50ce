-- The pattern of a site takes each element, or fails, and each name that it binds captures something.
use Rattle.std.proofs.Common.{◌≡◌, ◌∙◌, ◌||◌, refl, ap₂, ◌⊎◌, inl, inr, true, false, List, [], ◌∷◌, Option, Some, None, map, bytes_eq, sym}
use Rattle.std.proofs.lemmas.Bool.{true≢false, cases_Bool}
use Rattle.std.proofs.lemmas.Slice.Eq.{bytes_eq-Decides}
use Rattle.cd_syntax.specs.Name.{Name}
use Rattle.cd_syntax.specs.TypeTree.{Tree}
use Rattle.cd_model.specs.Formula.{Graph}
use Rattle.cd_model.specs.Scope.{Scope}
use Rattle.cd_model.specs.Thing.{IsElement}
use Rattle.cd_model.specs.Written.{in_written}
use Rattle.cd_matching.specs.Captures.{Captures}
use Rattle.cd_matching.specs.Takes.{WrittenTakes}
use Rattle.cd_matching.specs.Variables.{binds}
use Rattle.cd_matching.specs.WrittenPattern.{pattern_of}
use Rattle.cd_matching.proofs.CapturedVariables.{something_answers}
use Rattle.cd_variables.specs.Occurrences.{Occurrence, has, bound}
use Rattle.cd_names.specs.ProgramFaults.{is_seen}
use Rattle.cd_sites.proofs.WrittenTaken.{answered, takes_answered}
use Rattle.cd_sites.specs.Sites.{IsSite}
use Rattle.cd_sites.specs.declared.site.Site.{Site}
use Rattle.cd_check.specs.Inner.Bodies.{Decides}
use Rattle.cd_check.specs.Inner.Divided.{CaptureAll}

pub site_decides : (graph : Graph) (scope : Scope) (pattern : Tree) (site : Site) → IsSite graph scope pattern site → Decides scope pattern
site_decides graph scope pattern site is e element =
    by (answered graph scope pattern site is e) (takes_answered graph scope pattern site is e element)
  where
    by : (result : Option (Captures Name)) → WrittenTakes scope pattern e result
        → ((captures : Captures Name) × WrittenTakes scope pattern e (Some captures)) ⊎ WrittenTakes scope pattern e None
    by None fails = inr fails
    by (Some captures) takes = inl (captures, takes)

pub same_either_way : (one other : Name) → bytes_eq one other ≡ bytes_eq other one
same_either_way one other = by (cases_Bool (bytes_eq one other)) (cases_Bool (bytes_eq other one))
  where
    by : (bytes_eq one other ≡ true) ⊎ (bytes_eq one other ≡ false) → (bytes_eq other one ≡ true) ⊎ (bytes_eq other one ≡ false)
        → bytes_eq one other ≡ bytes_eq other one
    by (inl right) (inl also) = right ∙ sym also
    by (inr neither) (inr nor) = neither ∙ sym nor
    by (inl right) (inr nor) = absurd (true≢false (sym ((bytes_eq-Decides other one).1 (sym ((bytes_eq-Decides one other).0 right))) ∙ nor))
    by (inr nor) (inl right) = absurd (true≢false (sym ((bytes_eq-Decides one other).1 (sym ((bytes_eq-Decides other one).0 right))) ∙ nor))

seen_is_bound : (all : List Occurrence) (name : Name) → is_seen (map (λ occurrence. occurrence.name) all) name ≡ has all name
seen_is_bound [] name = refl
seen_is_bound (one ∷ rest) name = ap₂ (λ here later. here || later) (same_either_way name one.name) (seen_is_bound rest name)

pub captures_all : (graph : Graph) (scope : Scope) (pattern : Tree) (site : Site) → IsSite graph scope pattern site
    → ((name : Name) → binds (pattern_of scope pattern) name ≡ has (bound pattern) name) → CaptureAll scope pattern
captures_all graph scope pattern site is same e captures name element takes seen =
    something_answers in_written IsElement (pattern_of scope pattern) e captures name takes is.named
    (same name ∙ sym (seen_is_bound (bound pattern) name) ∙ seen)
