-- Nodes of what may come to sites.
use Rattle.std.proofs.Common.{ℕ, zero, suc, slice_index_or, get_or, map, ◌≡◌, ◌∙◌, ◌<◌, ◌++◌, ◌↔◌, true, false, ◌⊎◌, inl, inr, lit<, List, [], ◌∷◌, Option, Some, None, length, length-append, append_assoc, refl, ap, sym, subst, arith}
use Rattle.std.proofs.lemmas.Option.{none-some, same_Some}
use Rattle.std.specs.List.{slice_get}
use Rattle.cd_sets.specs.declared.node_id.NodeId.{NodeId}
use Rattle.cd_sets.specs.declared.question.Question.{Question}
use Rattle.cd_syntax.specs.TypeTree.{Tree}
use Rattle.cd_model.specs.AllOf.{AllOf, AnyOf}
use Rattle.cd_model.specs.BuiltIns.{built_ins, ANY, DATA}
use Rattle.cd_model.specs.Formula.{Graph, Formula, IsGraph, asked, in_node}
use Rattle.cd_model.specs.Membership.{holds, reader, answers}
use Rattle.cd_model.specs.Scope.{Scope}
use Rattle.cd_model.specs.Thing.{Thing, IsElement}
use Rattle.cd_model.proofs.BothWays.{through as both_ways, turned, one_agrees}
use Rattle.cd_rules.specs.Family.{AsksNodes}
use Rattle.cd_rules.specs.Needs.{question}
use Rattle.cd_rules.proofs.Answered.{each_of_asked}
use Rattle.cd_rules.proofs.Asking.{asked_of_each, each_of_set}
use Rattle.cd_typing.specs.Later.{IsLater}
use Rattle.cd_typing.specs.Sites.{Site, Closed, Catching, Filtering, IsMatched, AreMatched, ComesTo}
use Rattle.cd_typing.proofs.BuiltInSets.{built_in_within, node_within}
use Rattle.cd_typing.proofs.Later.{below_later, only_later, still_holds}
use Rattle.cd_builders.specs.Unions.{IsInOne, IsFormulaOfUnion}
use Rattle.cd_matched.specs.Accepted.{closed, IsAccepted, AreAccepted}
use Rattle.cd_matched.specs.Inner.AsksTaken.{AsksTaken, AskTaken}

module _ (scope : Scope) where
  -- a question that asks for such a node alone asks for what the pattern takes
  pub asks_taken : (graph : Graph) (pattern : Tree) (id : NodeId) → IsAccepted scope graph pattern id
      → (asking : Question) → asking ≡ question (id ∷ []) [] → AsksTaken scope graph pattern asking
  asks_taken graph pattern id is asking same = subst (λ (one : Question). AsksTaken scope graph pattern one) (sym same) (record {
    nodes = (each_of_set (λ (one : NodeId). one.0 < length graph) (id ∷ []) (is.node, tt), tt);
    exact = λ e element. (
      λ asks. elim (is.only e element (each_of_asked (answers graph e) (id ∷ []) [] asks).0.0) [
        | inl takes ↦ takes
        | inr none ↦ absurd none
      ],
      λ takes. asked_of_each (answers graph e) (id ∷ []) [] (is.whole e element (inl takes), tt) tt,
    );
  })

  -- questions for each of the patterns ask for what one of them takes
  module _ (graph : Graph) where
    pub all_ask_nodes : (patterns : List Tree) (questions : List Question) → AskTaken scope graph patterns questions
        → AllOf (AsksNodes (length graph)) questions
    all_ask_nodes [] [] ask = tt
    all_ask_nodes [] (one ∷ questions) ask = absurd ask
    all_ask_nodes (pattern ∷ patterns) [] ask = absurd ask
    all_ask_nodes (pattern ∷ patterns) (one ∷ questions) ask = (ask.0.nodes, all_ask_nodes patterns questions ask.1)

    one_takes : (patterns : List Tree) (questions : List Question) → AskTaken scope graph patterns questions
        → (e : Thing) → IsElement e → IsInOne graph questions e ↔ ComesTo scope Closed patterns e
    one_takes [] [] ask e element = (λ none. none, λ none. none)
    one_takes [] (one ∷ questions) ask e element = absurd ask
    one_takes (pattern ∷ patterns) [] ask e element = absurd ask
    one_takes (pattern ∷ patterns) (one ∷ questions) ask e element =
        one_agrees (ask.0.exact e element) (one_takes patterns questions ask.1 e element)

    -- so a node with their formula is one of that
    pub union_matched : (patterns : List Tree) (questions : List Question) → AskTaken scope graph patterns questions
        → (f : Formula) → IsFormulaOfUnion graph questions f → (after : Graph) (id : NodeId) → id.0 < length after
        → ((e : Thing) → holds (reader graph e) f true ↔ answers after e id true)
        → IsMatched scope after (closed patterns) id
    union_matched patterns questions ask f union after id below put = record {
      node = below;
      whole = λ e element comes. (both e element).1 comes;
      only = λ e element here. (both e element).0 here;
    }
      where
        both : (e : Thing) → IsElement e → answers after e id true ↔ ComesTo scope Closed patterns e
        both e element = turned (both_ways (turned (one_takes patterns questions ask e element))
            (both_ways (union.elements e element) (put e)))

  -- built-in nodes
  module _ (graph more : Graph) (begins : graph ≡ built_ins ++ more) (patterns : List Tree) where
    below : (id : NodeId) → id.0 < length built_ins → id.0 < length graph
    below id within = subst (λ (whole : Graph). id.0 < length whole) (sym begins) (longer id within)
      where
        longer : (id : NodeId) → id.0 < length built_ins → id.0 < length (built_ins ++ more)
        longer id within = let lengths = length-append built_ins more in omega (arith, lengths, within)

    pub data_matched : IsMatched scope graph (record { kind = Catching; patterns = patterns }) DATA
    data_matched = record {
      node = below DATA (lit< tt);
      whole = built_in_within graph more begins DATA (lit< tt);
      only = node_within graph more begins DATA (lit< tt);
    }

    pub any_matched : IsMatched scope graph (record { kind = Filtering; patterns = patterns }) ANY
    any_matched = record {
      node = below ANY (lit< tt);
      whole = λ e element comes. subst (λ (whole : Graph). in_node whole e ANY true) (sym begins) refl;
      only = λ e element here. tt;
    }

  -- the node for a pattern, by its number
  module _ (graph : Graph) where
    pub accepted_in : (patterns : List Tree) (ids : List NodeId) → AreAccepted scope graph patterns ids → (number : ℕ)
        (pattern : Tree) (default : NodeId) → slice_get patterns number ≡ Some pattern
        → IsAccepted scope graph pattern (slice_index_or ids number default)
    accepted_in [] ids are number pattern default at = absurd (none-some pattern at)
    accepted_in (first ∷ patterns) [] are number pattern default at = absurd are
    accepted_in (first ∷ patterns) (own ∷ ids) are zero pattern default at =
        subst (λ (one : Tree). IsAccepted scope graph one own) (same_Some first pattern at) are.0
    accepted_in (first ∷ patterns) (own ∷ ids) are (suc number) pattern default at =
        accepted_in patterns ids are.1 number pattern default at

    pub as_many : (patterns : List Tree) (ids : List NodeId) → AreAccepted scope graph patterns ids
        → length ids ≡ length patterns
    as_many [] [] are = refl
    as_many [] (id ∷ ids) are = absurd are
    as_many (pattern ∷ patterns) [] are = absurd are
    as_many (pattern ∷ patterns) (id ∷ ids) are = ap suc (as_many patterns ids are.1)

  -- what is matched stays so in a longer graph
  module _ (graph later : Graph) (is : IsLater graph later) (sound : IsGraph graph) where
    pub matched_later : (one : Site) (id : NodeId) → IsMatched scope graph one id → IsMatched scope later one id
    matched_later one id old = record {
      node = below_later graph later is id old.node;
      whole = still_holds graph later is sound id old.node (ComesTo scope one.kind one.patterns) old.whole;
      only = only_later graph later is sound id old.node (ComesTo scope one.kind one.patterns) old.only;
    }

    pub all_matched_later : (sites : List Site) (ids : List NodeId) → AreMatched scope graph sites ids
        → AreMatched scope later sites ids
    all_matched_later [] [] old = tt
    all_matched_later [] (id ∷ ids) old = absurd old
    all_matched_later (one ∷ sites) [] old = absurd old
    all_matched_later (one ∷ sites) (id ∷ ids) old =
        (matched_later one id old.0, all_matched_later sites ids old.1)

    pub all_accepted_later : (patterns : List Tree) (ids : List NodeId) → AreAccepted scope graph patterns ids
        → AreAccepted scope later patterns ids
    all_accepted_later [] [] old = tt
    all_accepted_later [] (id ∷ ids) old = absurd old
    all_accepted_later (pattern ∷ patterns) [] old = absurd old
    all_accepted_later (pattern ∷ patterns) (id ∷ ids) old =
        (matched_later (closed (pattern ∷ [])) id old.0, all_accepted_later patterns ids old.1)

  -- one more site with its node
  pub one_more_matched : (graph : Graph) (sites : List Site) (ids : List NodeId) (one : Site) (id : NodeId)
      → AreMatched scope graph sites ids → IsMatched scope graph one id
      → AreMatched scope graph (sites ++ one ∷ []) (ids ++ id ∷ [])
  one_more_matched graph [] [] one id all is = (is, tt)
  one_more_matched graph [] (other ∷ ids) one id all is = absurd all
  one_more_matched graph (other ∷ sites) [] one id all is = absurd all
  one_more_matched graph (first ∷ sites) (other ∷ ids) one id all is =
      (all.0, one_more_matched graph sites ids one id all.1 is)

-- what is left of some sites, one on
pub further : {X : Type 0} (done left whole : List X) (first : X) (rest : List X) → done ++ left ≡ whole → left ≡ first ∷ rest
    → (done ++ first ∷ []) ++ rest ≡ whole
further {X} done left whole first rest so_far next =
    append_assoc done (first ∷ []) rest ∙ ap (λ (more : List X). done ++ more) (sym next) ∙ so_far

-- what holds of all that a function gives holds of what it gives at each place
pub fact_at : {X Y : Type 0} (f : X → Y) (Fact : Y → Type 0) (items : List X) (index : ℕ) (item : X) → item ≡ get_or items index item
    → index < length items → AllOf Fact (map f items) → Fact (f item)
fact_at f Fact [] index item is within all = absurd (omega arith)
fact_at f Fact (first ∷ rest) zero item is within all = subst (λ x. Fact (f x)) (sym is) all.0
fact_at f Fact (first ∷ rest) (suc index) item is within all = fact_at f Fact rest index item is (omega arith) all.1
