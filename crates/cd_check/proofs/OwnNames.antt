-- The body of a branch sees the names that its pattern binds, and the branches of a function its name.
use Rattle.std.proofs.Common.{◌≡◌, ◌∙◌, Bool, refl, ap, sym, subst, ◌⊎◌, inl, inr, true, false, [], ◌∷◌, ◌++◌, ◌||◌, map, Option, Some, None, bytes_eq, if◌then◌else◌}
use Rattle.std.proofs.lemmas.Bool.{true≢false}
use Rattle.std.proofs.lemmas.List.{map-append}
use Rattle.cd_sets.specs.declared.node_id.NodeId.{NodeId}
use Rattle.cd_syntax.specs.Name.{Name}
use Rattle.cd_syntax.specs.TypeTree.{Tree}
use Rattle.cd_model.specs.Formula.{Graph}
use Rattle.cd_model.specs.Scope.{Scope}
use Rattle.cd_model.specs.Thing.{Thing}
use Rattle.cd_matching.specs.Captures.{Captures}
use Rattle.cd_program.specs.Expr.{Expr, Program}
use Rattle.cd_meaning.specs.Sets.{Set}
use Rattle.cd_names.specs.ProgramFaults.{Seen, is_seen, names_of, with_name}
use Rattle.cd_typing.specs.Typ.{Typ, typ, type_at}
use Rattle.cd_typing.specs.Branches.{IsFirst, HoldCaptured, FitsOne}
use Rattle.cd_coming.specs.CapturedTypes.{types_of}
use Rattle.cd_check.specs.Inner.Divided.{CaptureAll}
use Rattle.cd_check.specs.Inner.Environment.{Nodes, with_node}
use Rattle.cd_check.specs.Inner.SoundNames.{IsSound}
use Rattle.cd_check.proofs.Decided.{same_either_way}
use Rattle.cd_check.proofs.MoreNames.{AllSeen, sound_more}

abbrev pub names_in : Nodes → Seen
names_in nodes = map (λ node. node.0) nodes

abbrev HasType : Option Typ → Type 0
HasType None = ⊥
HasType (Some t) = Unit {0}

-- a name with a type is seen
typed_is_seen : (graph : Graph) (own : Nodes) (name : Name) → HasType (type_at (types_of graph own) name) → is_seen (names_in own) name ≡ true
typed_is_seen graph [] name has = absurd has
typed_is_seen graph (one ∷ rest) name has =
    by (bytes_eq one.0 name) (same_either_way name one.0) has (typed_is_seen graph rest name)
  where
    by : (same : Bool) → bytes_eq name one.0 ≡ same → HasType (if same then Some (typ graph one.1) else type_at (types_of graph rest) name)
        → (HasType (type_at (types_of graph rest) name) → is_seen (names_in rest) name ≡ true)
        → (bytes_eq name one.0 || is_seen (names_in rest) name) ≡ true
    by true right has further = ap (λ here. here || is_seen (names_in rest) name) right
    by false nor has further = ap (λ here. here || is_seen (names_in rest) name) nor ∙ further has

abbrev IsSome : Option Thing → Type 0
IsSome None = ⊥
IsSome (Some other) = Unit {0}

has_type : (found : Option Typ) (captured : Option Thing) (d : Thing) → FitsOne found captured → captured ≡ Some d → HasType found
has_type (Some t) captured d fits is = tt
has_type None captured d fits is = absurd (subst (λ (one : Option Thing). IsSome one) (sym is ∙ fits) tt)

seen_of_either : (own seen : Seen) (name : Name) → (is_seen own name ≡ true) ⊎ (is_seen seen name ≡ true) → is_seen (own ++ seen) name ≡ true
seen_of_either [] seen name (inl never) = absurd (true≢false (sym never))
seen_of_either [] seen name (inr there) = there
seen_of_either (one ∷ own) seen name either = by (bytes_eq name one) either (seen_of_either own seen name)
  where
    by : (same : Bool) → ((same || is_seen own name) ≡ true) ⊎ (is_seen seen name ≡ true)
        → ((is_seen own name ≡ true) ⊎ (is_seen seen name ≡ true) → is_seen (own ++ seen) name ≡ true) → (same || is_seen (own ++ seen) name) ≡ true
    by true either further = refl
    by false either further = further either

either_seen : (own seen : Seen) (name : Name) → is_seen (own ++ seen) name ≡ true → (is_seen own name ≡ true) ⊎ (is_seen seen name ≡ true)
either_seen [] seen name there = inr there
either_seen (one ∷ own) seen name there = by (bytes_eq name one) there (either_seen own seen name)
  where
    by : (same : Bool) → (same || is_seen (own ++ seen) name) ≡ true
        → (is_seen (own ++ seen) name ≡ true → (is_seen own name ≡ true) ⊎ (is_seen seen name ≡ true))
        → ((same || is_seen own name) ≡ true) ⊎ (is_seen seen name ≡ true)
    by true there further = inl refl
    by false there further = further there

-- the variables of a pattern that takes something have types
pub body_sound : (program : Program) (graph : Graph) (scope : Scope) (pattern : Tree) (matched : Set) (own nodes : Nodes)
    → CaptureAll scope pattern → HoldCaptured scope (types_of graph own) [] pattern matched
    → (e : Thing) (captures : Captures Name) → IsFirst scope [] pattern matched e captures
    → (body : Expr) → IsSound program (names_of pattern ++ names_in nodes) body → IsSound program (names_in (own ++ nodes)) body
body_sound program graph scope pattern matched own nodes all hold e captures first body sound =
    subst (λ seen. IsSound program seen body) (sym (map-append (λ (node : Name × NodeId). node.0) own nodes))
    (sound_more program body (names_of pattern ++ names_in nodes) (names_in own ++ names_in nodes) more sound)
  where
    bound : (name : Name) → is_seen (names_of pattern) name ≡ true → is_seen (names_in own) name ≡ true
    bound name is = let what = all e captures name first.element first.takes is in
        typed_is_seen graph own name (has_type (type_at (types_of graph own) name) (captures name) what.0 (hold e captures first name) what.1)

    more : AllSeen (names_of pattern ++ names_in nodes) (names_in own ++ names_in nodes)
    more name is = seen_of_either (names_in own) (names_in nodes) name (by (either_seen (names_of pattern) (names_in nodes) name is))
      where
        by : (is_seen (names_of pattern) name ≡ true) ⊎ (is_seen (names_in nodes) name ≡ true)
            → (is_seen (names_in own) name ≡ true) ⊎ (is_seen (names_in nodes) name ≡ true)
        by (inl here) = inl (bound name here)
        by (inr there) = inr there

pub named_seen : (name : Option Name) (whole : NodeId) (nodes : Nodes) → with_name name (names_in nodes) ≡ names_in (with_node name whole nodes)
named_seen None whole nodes = refl
named_seen (Some name) whole nodes = refl
