-- What comes to a body, and what is known of its variables and its type.
use Rattle.std.proofs.Common.{◌≡◌, ◌<◌, sym, subst, ap, ◌∙◌, List, [], ◌∷◌, ◌++◌, length, append_assoc, append-nil, Option, Some, None, MatchOption}
use Rattle.std.specs.declared.alloc.Global.{Global}
use Rattle.std.specs.declared.vec.Vec.{Vec}
use Rattle.cd_sets.specs.declared.node_id.NodeId.{NodeId}
use Rattle.cd_syntax.specs.Name.{Name}
use Rattle.cd_model.specs.AllOf.{AllOf}
use Rattle.cd_model.specs.Formula.{Graph, IsGraph}
use Rattle.cd_model.specs.Scope.{Scope}
use Rattle.cd_model.specs.Thing.{Thing}
use Rattle.cd_program.specs.Expr.{Expr}
use Rattle.cd_meaning.specs.Sets.{◌⊆◌, elements_of}
use Rattle.cd_names.specs.ProgramFaults.{names_of}
use Rattle.cd_typing.specs.Later.{IsLater}
use Rattle.cd_typing.specs.Branches.{HoldCaptured}
use Rattle.cd_typing.specs.Typing.{Has}
use Rattle.cd_typing.proofs.Later.{later_in, earlier_in, below_later}
use Rattle.cd_coming.specs.CapturedTypes.{types_of}
use Rattle.cd_coming.specs.Coming.{NothingComes, SomethingComes}
use Rattle.cd_sites.specs.declared.site.Site.{Site}
use Rattle.cd_sites.specs.TakenElements.{IsTakenFrom, TakesNone}
use Rattle.cd_check.specs.declared.base.Base.{Base}
use Rattle.cd_check.specs.declared.bodies.Limit.{Limit}
use Rattle.cd_check.specs.declared.sites.Sited.{Sited}
use Rattle.cd_check.specs.Inner.Bodies.{BodyGives}
use Rattle.cd_check.specs.Inner.Divided.{IsSited, sited_pattern}
use Rattle.cd_check.specs.Inner.Environment.{Nodes, AreNodes, AreNodesOf, Gives, declared}
use Rattle.cd_check.specs.Inner.Giving.{ExprGives}
use Rattle.cd_check.specs.Inner.Limits.{IsLimit, AreWithin, IsOneWithin}
use Rattle.cd_check.specs.Inner.GoingOn.{listed}
use Rattle.cd_check.specs.Inner.Ready.{IsReady, program_of, names_seen, scope_of, seen_by}
use Rattle.cd_check.specs.Inner.SoundNames.{IsSound}
use Rattle.cd_check.proofs.Divided.{left_untaken}
use Rattle.cd_check.proofs.OwnNames.{body_sound, names_in}
use Rattle.cd_check.proofs.OwnTypes.{body_gives}
use Rattle.cd_check.proofs.ReadyLater.{ready_later}

-- variables before others
pub seen_all : (base : Base) (locals own all : Nodes) → all ≡ own ++ locals → seen_by base all ≡ own ++ seen_by base locals
seen_all base locals own all same = ap (λ names. names ++ declared base.functions.now base.interfaces.now) same
    ∙ append_assoc own locals (declared base.functions.now base.interfaces.now)

pub both_nodes_of : (graph : Graph) (one other : Nodes) → AreNodesOf graph one → AreNodesOf graph other → AreNodesOf graph (one ++ other)
both_nodes_of graph [] other are more = more
both_nodes_of graph (node ∷ nodes) other are more = (are.0, both_nodes_of graph nodes other are.1 more)

pub ready_with : (base : Base) (graph : Graph) (locals all : Nodes) → AreNodesOf graph (seen_by base all) → IsReady base graph locals
    → IsReady base graph all
ready_with base graph locals all are ready = record {
  more = ready.more;
  begins = ready.begins;
  sound = ready.sound;
  nodes = are;
  resolved = ready.resolved;
  patterns = ready.patterns;
  sited = ready.sited;
  promised = ready.promised;
  tools = ready.tools;
  yes = ready.yes;
  no = ready.no;
}

pub ready_all : (base : Base) (graph : Graph) (locals own all : Nodes) → all ≡ own ++ locals → AreNodesOf graph own → IsReady base graph locals
    → IsReady base graph all
ready_all base graph locals own all same are ready = ready_with base graph locals all
    (subst (AreNodesOf graph) (sym (seen_all base locals own all same)) (both_nodes_of graph own (seen_by base locals) are ready.nodes)) ready

-- nothing is taken
pub none_gives : (graph : Graph) (scope : Scope) (sited : Sited) → IsSited graph scope sited → (nodes : Nodes) (new : Graph) (matched : NodeId)
    → (body : Expr) → TakesNone scope (sited_pattern sited) (elements_of graph matched)
    → BodyGives scope graph nodes new (elements_of graph matched) (sited_pattern sited) body None
none_gives graph scope sited sound nodes new matched body none e captures first = left_untaken graph scope (sited_pattern sited) sited.site
    sound.site e first.element (none e first.element first.in_set) captures first.takes

module _ (base : Base) (locals own all : Nodes) (same : all ≡ own ++ locals) (old : Graph) (sited : Sited)
    (sound : IsSited old (scope_of base) sited) (matched : NodeId) (middle : Graph)
    (hold : HoldCaptured (scope_of base) (types_of middle own) [] (sited_pattern sited) (elements_of old matched)) (body : Expr) where
  pub body_is_sound : (e : Thing) → IsTakenFrom (scope_of base) (sited_pattern sited) (elements_of old matched) e
      → IsSound (program_of base) (names_of (sited_pattern sited) ++ names_seen base locals) body
      → IsSound (program_of base) (names_seen base all) body
  body_is_sound e taken named = subst (λ nodes. IsSound (program_of base) (names_in nodes) body) (sym (seen_all base locals own all same))
      (body_sound (program_of base) middle (scope_of base) (sited_pattern sited) (elements_of old matched) own (seen_by base locals)
      sound.bound hold e taken.0 taken.1 body named)

  pub one_gives : IsReady base old locals → IsLater old middle → AreNodesOf middle own → (new : Graph) (id : NodeId)
      → ExprGives base middle all new body id
      → BodyGives (scope_of base) old (seen_by base locals) new (elements_of old matched) (sited_pattern sited) body (Some id)
  one_gives ready is are new id gives =
      let there = ready_later base old middle is locals ready in
      body_gives (scope_of base) old ready.sound (seen_by base locals) ready.nodes middle is there.more there.begins own are
      (elements_of old matched) (sited_pattern sited) hold new body id
      (subst (λ nodes. Gives middle nodes new (λ types t. Has (scope_of base) types body t) id) (seen_all base locals own all same) gives)

-- limits in longer graphs
pub limit_later : (graph later : Graph) → IsLater graph later → (limit : Option Limit) → IsLimit graph limit → IsLimit later limit
limit_later graph later is None below = tt
limit_later graph later is (Some limit) below = below_later graph later is limit.node below

each_within : (graph later : Graph) → IsLater graph later → IsGraph graph → (limit : NodeId) → limit.0 < length graph
    → (ids : List NodeId) → AreNodes graph ids → AllOf (λ id. elements_of graph id ⊆ elements_of graph limit) ids
    → AllOf (λ id. elements_of later id ⊆ elements_of later limit) ids
each_within graph later is sound limit below [] are within = tt
each_within graph later is sound limit below (id ∷ ids) are within = (
  λ e element inside. later_in graph later is sound limit below e element
      (within.0 e element (earlier_in graph later is sound id are.0 e element inside)),
  each_within graph later is sound limit below ids are.1 within.1,
)

pub within_later : (graph later : Graph) → IsLater graph later → IsGraph graph → (limit : Option Limit) → IsLimit graph limit
    → (ids : List NodeId) → AreNodes graph ids → AreWithin graph limit ids → AreWithin later limit ids
within_later graph later is sound None below ids are within = tt
within_later graph later is sound (Some limit) below ids are within = each_within graph later is sound limit.node below ids are within

last_within : (Is : NodeId → Type 0) (ids : List NodeId) (id : NodeId) → AllOf Is ids → Is id → AllOf Is (ids ++ id ∷ [])
last_within Is [] id all one = (one, tt)
last_within Is (first ∷ ids) id all one = (all.0, last_within Is ids id all.1 one)

-- one node more is within them, or none
pub one_more_within : (graph : Graph) (limit : Option Limit) (ids : List NodeId) (found : Option NodeId) → AreWithin graph limit ids
    → IsOneWithin graph limit found → AreWithin graph limit (ids ++ listed found)
one_more_within graph None ids found within one = tt
one_more_within graph (Some limit) ids (Some id) within one =
    last_within (λ id. elements_of graph id ⊆ elements_of graph limit.node) ids id within one
one_more_within graph (Some limit) ids None within one =
    subst (λ all. AllOf (λ id. elements_of graph id ⊆ elements_of graph limit.node) all) (sym (append-nil ids)) within

pub none_within : (graph : Graph) (limit : Option Limit) → AreWithin graph limit []
none_within graph None = tt
none_within graph (Some limit) = tt

-- what is said of what comes to a body, by whether anything does
abbrev pub Coming : Graph → NodeId → Site → Graph → Option (Vec (Name × NodeId) Global) → Type 0
Coming graph matched site new found = MatchOption found (NothingComes graph matched site)
    (λ own. SomethingComes graph matched site new own.items)

pub nothing_comes : (graph : Graph) (matched : NodeId) (site : Site) (new : Graph) (found : Option (Vec (Name × NodeId) Global))
    → Coming graph matched site new found → found ≡ None → NothingComes graph matched site
nothing_comes graph matched site new found comes is =
    subst (λ (one : Option (Vec (Name × NodeId) Global)). Coming graph matched site new one) is comes

pub something_comes : (graph : Graph) (matched : NodeId) (site : Site) (new : Graph) (found : Option (Vec (Name × NodeId) Global))
    (own : Vec (Name × NodeId) Global) → Coming graph matched site new found → found ≡ Some own
    → SomethingComes graph matched site new own.items
something_comes graph matched site new found own comes is =
    subst (λ (one : Option (Vec (Name × NodeId) Global)). Coming graph matched site new one) is comes
