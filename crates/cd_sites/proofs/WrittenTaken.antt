-- The accepted node of a site holds exactly the elements that the written pattern takes.
use Rattle.std.proofs.Common.{◌≡◌, true, false, inl, inr, List, [], ◌∷◌, Option, Some}
use Rattle.std.proofs.Common.{None}
use Rattle.std.proofs.Common.{is_some, sym, subst}
use Rattle.std.proofs.lemmas.Bool.{true≢false}
use Rattle.cd_sets.specs.declared.node_id.NodeId.{NodeId}
use Rattle.cd_sets.specs.declared.question.Question.{Question}
use Rattle.cd_syntax.specs.Name.{Name}
use Rattle.cd_syntax.specs.TypeTree.{Tree}
use Rattle.cd_model.proofs.DecidedAtNodes.{in_or_outside}
use Rattle.cd_model.specs.Formula.{Graph, in_node}
use Rattle.cd_model.specs.Membership.{answers, asked}
use Rattle.cd_model.specs.Scope.{Scope}
use Rattle.cd_model.specs.Thing.{Thing, IsElement}
use Rattle.cd_matching.specs.Captures.{Captures}
use Rattle.cd_matching.specs.Kernel.{Kernel, kernel_takes}
use Rattle.cd_matching.specs.PlainKernel.{plain_kernel}
use Rattle.cd_matching.specs.Take.{take}
use Rattle.cd_matching.specs.Takes.{PatternStandsFor, WrittenTakes}
use Rattle.cd_matching.proofs.ResolvedPatterns.{resolved_stands}
use Rattle.cd_matching.proofs.TakesOnce.{elements_once}
use Rattle.cd_rules.specs.Needs.{question}
use Rattle.cd_rules.proofs.Answered.{each_of_asked}
use Rattle.cd_rules.proofs.Asking.{asked_of_each}
use Rattle.cd_meaning.specs.Sets.{elements_of}
use Rattle.cd_elements.specs.Table.{element_at}
use Rattle.cd_elements.specs.declared.shape.ElementId.{ElementId}
use Rattle.cd_verdicts.specs.Verdicts.{HasNoElement, IsExact}
use Rattle.cd_verdicts.specs.declared.verdict.Verdict.{Verdict}
use Rattle.cd_verdicts.specs.declared.verdict.Verdict.TheVariants.{Empty, Inhabited}
use Rattle.cd_sites.specs.Sites.{IsSite}
use Rattle.cd_sites.specs.TakenElements.{IsTakenFrom, TakesNone}
use Rattle.cd_sites.specs.declared.site.Site.{Site}
use Rattle.cd_filter.proofs.Accepts.{elements_accepted}
use Rattle.cd_sites.proofs.RightTests.{test, right, one_answer, takes_by_test, empty_is, any_is}
use Rattle.cd_sites.proofs.RightTests.{nil_is}

module _ (graph : Graph) (scope : Scope) (written : Tree) (site : Site)
    (is : IsSite graph scope written site) where
  abbrev kernel : Kernel NodeId
  kernel = plain_kernel site.kernel.now

  abbrev Takes : Thing → Option (Captures Name) → Type 0
  Takes = WrittenTakes scope written

  stands : PatternStandsFor graph is.pattern scope written
  stands = resolved_stands graph is.pattern scope written is.resolved is.named

  -- what the kernel answers by tests that are right
  abbrev pub answered : Thing → Option (Captures Name)
  answered e = kernel_takes NodeId (test graph) kernel e

  pub takes_answered : (e : Thing) → IsElement e → Takes e (answered e)
  takes_answered e element = let more = is.accepted.begins.0 in
      let begins = is.accepted.begins.1 in
      subst (Takes e)
      (sym (is.alike (test graph) (nil_is graph more begins) (any_is graph more begins)
      (empty_is graph more begins) e))
      ((stands.elements e (take NodeId (test graph) is.pattern e) element).0
      (takes_by_test graph is.pattern e element))

  pub takes_once : (e : Thing) (one other : Option (Captures Name)) → IsElement e → Takes e one
      → Takes e other → one ≡ other
  takes_once e one other element first second = elements_once graph is.pattern e one other element
      ((stands.elements e one element).1 first) ((stands.elements e other element).1 second)

  at_root : (e : Thing) → IsElement e
      → in_node graph e site.accepted.root (is_some (answered e))
  at_root e element =
      subst (λ (id : NodeId). in_node graph e id (is_some (answered e))) (sym is.accepted.root)
      (elements_accepted graph kernel site.accepted.first is.accepted.nodes (test graph) e
      (λ id below d sound. right graph id d) element)

  -- from the accepted node
  pub inside : (e : Thing) → IsElement e → in_node graph e site.accepted.root true
      → (captures : Captures Name) × Takes e (Some captures)
  inside e element here = by_answer (answered e) (takes_answered e element) (at_root e element)
    where
      by_answer : (one : Option (Captures Name)) → Takes e one
          → in_node graph e site.accepted.root (is_some one)
          → (captures : Captures Name) × Takes e (Some captures)
      by_answer (Some captures) takes at = (captures, takes)
      by_answer None takes at =
          absurd (true≢false (one_answer graph e site.accepted.root true false here at))

  pub outside : (e : Thing) → IsElement e → in_node graph e site.accepted.root false
      → Takes e None
  outside e element out = by_answer (answered e) (takes_answered e element) (at_root e element)
    where
      by_answer : (one : Option (Captures Name)) → Takes e one
          → in_node graph e site.accepted.root (is_some one) → Takes e None
      by_answer None takes at = takes
      by_answer (Some captures) takes at =
          absurd (true≢false (one_answer graph e site.accepted.root true false at out))

  -- to the accepted node
  by_result : (e : Thing) (result : Option (Captures Name)) → IsElement e → Takes e result
      → in_node graph e site.accepted.root (is_some result)
  by_result e result element takes =
      subst (λ (one : Option (Captures Name)). in_node graph e site.accepted.root (is_some one))
      (takes_once e (answered e) result element (takes_answered e element) takes)
      (at_root e element)

  pub left_outside : (e : Thing) → IsElement e → Takes e None
      → in_node graph e site.accepted.root false
  left_outside e element takes = by_result e None element takes

  -- what the answers to a question say
  module _ (matched : NodeId) where
    pub none_taken : HasNoElement graph (question (matched ∷ site.accepted.root ∷ []) [])
        → TakesNone scope written (elements_of graph matched)
    none_taken none e element in_matched = elim (in_or_outside graph e site.accepted.root) [
      | inl here ↦ absurd (none e element
          (asked_of_each (answers graph e) (matched ∷ site.accepted.root ∷ []) []
          (in_matched, (here, tt)) tt))
      | inr out ↦ outside e element out
    ]

    pub one_taken : (e : Thing) → IsElement e
        → asked (answers graph e) (question (matched ∷ site.accepted.root ∷ []) []) true
        → IsTakenFrom scope written (elements_of graph matched) e
    one_taken e element both =
        let each = each_of_asked (answers graph e) (matched ∷ site.accepted.root ∷ []) [] both in
        let found = inside e element each.0.1.0 in (
          found.0,
          record { element = element; in_set = each.0.0; earlier = tt; takes = found.1 },
        )

    -- by a verdict on the question
    module _ (table : List Thing) (both : Question)
        (same : both ≡ question (matched ∷ site.accepted.root ∷ []) []) (verdict : Verdict)
        (exact : IsExact graph table both verdict) where
      exact_for : (known : Verdict) → verdict ≡ known
          → IsExact graph table (question (matched ∷ site.accepted.root ∷ []) []) known
      exact_for known is = subst (λ (one : Question). IsExact graph table one known) same
          (subst (IsExact graph table both) is exact)

      pub none_by_verdict : verdict ≡ Empty → TakesNone scope written (elements_of graph matched)
      none_by_verdict is = none_taken (exact_for Empty is).0

      pub one_by_verdict : (id : ElementId) → verdict ≡ Inhabited id
          → IsTakenFrom scope written (elements_of graph matched) (element_at table id)
      one_by_verdict id is = let one = exact_for (Inhabited id) is in
          one_taken (element_at table id) one.1 one.2
