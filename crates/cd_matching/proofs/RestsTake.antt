-- A record pattern with a typed rest takes what the open one takes, of the records whose other fields are in the rest.
use Rattle.std.proofs.Common.{◌≡◌, Bool, true, false, true≢false, Option, Some, None, refl, sym}
use Rattle.cd_syntax.specs.Name.{Name}
use Rattle.cd_syntax.specs.TypeTree.{Tree, Fields, Typed}
use Rattle.cd_model.specs.Scope.{Scope}
use Rattle.cd_model.specs.Thing as thing
use Rattle.cd_model.specs.Thing.{Thing}
use Rattle.cd_model.specs.Written.{Written}
use Rattle.cd_matching.specs.Captures.{Captures, nothing, or_else, both, if_so}
use Rattle.cd_matching.specs.Pattern as pattern
use Rattle.cd_matching.specs.Rests.{SameCaptures}
use Rattle.cd_matching.specs.Take.{take, take_fields}
use Rattle.cd_matching.specs.WrittenPattern.{in_scope, others_in, with_rest}

or_nothing : (d : Option Thing) → or_else d None ≡ d
or_nothing None = refl
or_nothing (Some d) = refl

tested : (taken : Option (Captures Name)) (is : Bool) → is ≡ true
    → SameCaptures (both taken (both (if_so is) (Some nothing))) taken
tested None true so = tt
tested (Some captures) true so = λ name. or_nothing (captures name)
tested taken false so = absurd (true≢false (sym so))

refused : (taken : Option (Captures Name)) (is : Bool) → is ≡ false
    → both taken (both (if_so is) (Some nothing)) ≡ None
refused None is so = refl
refused (Some captures) false so = refl
refused (Some captures) true so = absurd (true≢false so)

pub rest_takes : (test : Written → Thing → Bool) (scope : Scope) (fields : Fields) (is : Tree)
    (are : pattern.Fields Written) (all : thing.Fields)
    → test (in_scope scope (others_in fields is)) (thing.Record all) ≡ true
    → SameCaptures (take Written test (with_rest scope fields (Typed is) are) (thing.Record all))
    (take Written test (pattern.Record are true) (thing.Record all))
rest_takes test scope fields is are all so = tested (take_fields Written test are all) _ so

pub rest_fails : (test : Written → Thing → Bool) (scope : Scope) (fields : Fields) (is : Tree)
    (are : pattern.Fields Written) (d : Thing) → test (in_scope scope (others_in fields is)) d ≡ false
    → take Written test (with_rest scope fields (Typed is) are) d ≡ None
rest_fails test scope fields is are d so = refused (take Written test (pattern.Record are true) d) _ so
