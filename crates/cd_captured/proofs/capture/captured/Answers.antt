use Rattle.std.proofs.Common.{◌≡◌, ◌<◌, ◌+◌, ◌++◌, ℕ, List, map, length, subst, sym, ap, ◌∙◌}
use Rattle.cd_sets.specs.declared.node_id.NodeId.{NodeId}
use Rattle.cd_syntax.specs.Name.{Name}
use Rattle.cd_model.specs.AllOf.{AllOf}
use Rattle.cd_model.specs.Formula.{Graph, Formula, IsFormula}
use Rattle.cd_graph.specs.PlainFormula.{plain, plain_list}
use Rattle.cd_matching.specs.Kernel.{Kernel}
use Rattle.cd_matching.specs.PlainKernel.{plain_kernel}
use Rattle.cd_rules.specs.Family.{AsksNodes}
use Rattle.cd_empty.specs.Seen.{graph_of}
use Rattle.cd_filter.specs.Table.{Place}
use Rattle.cd_explored.specs.Captures.{AreExactCaptures, AreWideCaptures}
use Rattle.cd_captured.specs.Inner.Known.{StandFor, ids_of}
use Rattle.cd_explored.specs.Inner.Made.{AreFormulas}
use Rattle.cd_explored.specs.Inner.Plan.{IsSoundPlan, plan_from, named_from}
use Rattle.cd_explored.specs.Inner.PlainSteps.{plain_places}
use Rattle.cd_explored.specs.Inner.Reached.{Rows, rows_of}
use Rattle.cd_captured.proofs.CapturesMade.{plan_sound, extends_soundly, ids_are_below, still_ask}
use Rattle.cd_captured.proofs.CapturesMade.{exact, wide}
use Rattle.cd_captured.proofs.KnownNodes.{exact_too, wide_too}
use Rattle.cd_captured.proofs.NamedNodes.{names_from}
use Rattle.cd_captured.proofs.capture.captured.Goals as goal
use Rattle.cd_captured.proofs.capture.captured.Goals.{In_ok-of}
use Rattle.cd_captured.proofs.capture.captured.Goals.{In_ok-extend}

pub batch_of-requires : goal.batch_of-requires
batch_of-requires c =
    let graph = graph_of c.args.world.now in
    let kernel = plain_kernel c.args.kernel.now in
    let places = plain_places c.in_ok-explored.explored.places in
    let rows = rows_of c.in_ok-explored.explored.steps.items in
    let count = c.len-first.ensures.count ∙ ap length c.graph.ensures.graph in
    subst (λ (g : Graph). IsSoundPlan (plan_from g c.len-first.result kernel.nodes places rows))
    (sym (c.graph-2.ensures.graph ∙ c.in_ok-explored.ensures.graph))
    (subst (λ (n : ℕ). IsSoundPlan (plan_from graph n kernel.nodes places rows)) (sym count)
    (plan_sound graph kernel c.args.accepted.first c.args.matched places rows c.requires.accepted
    c.in_ok-explored.ensures.explored))

-- the graph at first, the kernel, what is explored, and what is put into the graph
abbrev old : In_ok-of → Graph
old c = graph_of c.args.world.now

abbrev kernel_in : In_ok-of → Kernel NodeId
kernel_in c = plain_kernel c.args.kernel.now

abbrev places_in : In_ok-of → List Place
places_in c = plain_places c.in_ok-explored.explored.places

abbrev rows_in : In_ok-of → Rows
rows_in c = rows_of c.in_ok-explored.explored.steps.items

abbrev batch_in : In_ok-of → List Formula
batch_in c = map plain c.in_ok-batch.batch.items

count_is : (c : In_ok-of) → c.len-first.result ≡ length (old c)
count_is c = c.len-first.ensures.count ∙ ap length c.graph.ensures.graph

are_formulas : (c : In_ok-of)
    → AreFormulas (plan_from (old c) (length (old c)) (kernel_in c).nodes (places_in c) (rows_in c))
    (length (kernel_in c).variables) (batch_in c)
are_formulas c =
    let kernel = kernel_in c in
    let places = places_in c in
    let rows = rows_in c in
    subst (λ (n : ℕ). AreFormulas (plan_from (old c) n kernel.nodes places rows)
    (length kernel.variables) (batch_in c)) (count_is c)
    (subst (λ (g : Graph). AreFormulas (plan_from g c.len-first.result kernel.nodes places rows)
    (length kernel.variables) (batch_in c))
    (c.graph-2.ensures.graph ∙ c.in_ok-explored.ensures.graph) c.in_ok-batch.ensures.formulas)

pub extend-requires : goal.extend-requires
extend-requires c =
    let at = (goal.at.extend-requires c).In_ok-of in
    subst (λ (g : Graph). AllOf (IsFormula (length g + length (plain_list c.in_ok-of.field-0)))
    (plain_list c.in_ok-of.field-0)) (sym c.in_ok-explored.ensures.graph)
    (subst (λ (all : List Formula). AllOf (IsFormula (length (old at) + length all)) all)
    (sym c.in_ok-of.ensures)
    (extends_soundly (old at) (kernel_in at) c.args.accepted.first c.args.matched (places_in at)
    (rows_in at) c.requires.accepted c.in_ok-explored.ensures.explored c.graph.ensures.sound
    c.batch_of.ensures.once (batch_in at) (are_formulas at)))

-- after it is put in
abbrev of_it : In_ok-extend → In_ok-of
of_it c = (goal.at.In_ok-extend c).In_ok-of

longer : (c : In_ok-extend) → graph_of c.extend.new.self ≡ old (of_it c) ++ batch_in (of_it c)
longer c = c.in_ok-extend.ensures.added
    ∙ (λ i. c.in_ok-explored.ensures.graph i ++ c.in_ok-of.ensures i)

named_is : (c : In_ok-extend) → c.in_ok-captured.captured.items
    ≡ named_from (length (old (of_it c))) (kernel_in (of_it c)).variables
named_is c = c.in_ok-captured.ensures
    ∙ (λ i. named_from (count_is (of_it c) i) (c.as_slice.ensures.value i))

pub use_known-requires-clause-asks : goal.use_known-requires-clause-asks
use_known-requires-clause-asks c =
    let end = (goal.at.use_known-requires-clause-asks c).In_ok-extend in
    let at = of_it end in
    subst (λ (g : Graph). AllOf (λ place. AsksNodes (length g) place.question) (places_in at))
    (sym (longer end))
    (still_ask (old at) (kernel_in at) c.args.accepted.first c.args.matched (places_in at)
    (rows_in at) c.requires.accepted c.in_ok-explored.ensures.explored c.graph.ensures.sound
    c.batch_of.ensures.once (batch_in at) (are_formulas at))

pub use_known-requires-clause-nodes : goal.use_known-requires-clause-nodes
use_known-requires-clause-nodes c =
    let end = (goal.at.use_known-requires-clause-nodes c).In_ok-extend in
    let at = of_it end in
    subst (λ (g : Graph). AllOf (λ one. one.1.0 < length g) c.in_ok-captured.captured.items)
    (sym (longer end))
    (subst (AllOf (λ one. one.1.0 < length (old at ++ batch_in at))) (sym (named_is end))
    (ids_are_below (old at) (kernel_in at) c.args.accepted.first c.args.matched (places_in at)
    (rows_in at) c.requires.accepted c.in_ok-explored.ensures.explored c.graph.ensures.sound
    c.batch_of.ensures.once (batch_in at) (are_formulas at)))

-- nodes that were there stand for what is made
stands : (c : In_ok-extend) (all : List (Name × NodeId))
    → StandFor (graph_of c.extend.new.self) c.in_ok-captured.captured.items all
    → StandFor (old (of_it c) ++ batch_in (of_it c))
    (named_from (length (old (of_it c))) (kernel_in (of_it c)).variables) all
stands c all stand =
    subst (λ (g : Graph). StandFor g
    (named_from (length (old (of_it c))) (kernel_in (of_it c)).variables) all) (longer c)
    (subst (λ (first : List (Name × NodeId)). StandFor (graph_of c.extend.new.self) first all)
    (named_is c) stand)

pub returns-clause-names : goal.returns-clause-names
returns-clause-names c =
    let end = (goal.at.returns-clause-names c).In_ok-extend in
    let at = of_it end in
    (stands end c.use_known.new.captured.items c.use_known.ensures.stand).names
    ∙ names_from (length (old at)) (kernel_in at).variables

pub returns-clause-elements : goal.returns-clause-elements
returns-clause-elements c =
    let end = (goal.at.returns-clause-elements c).In_ok-extend in
    let at = of_it end in
    let all = c.use_known.new.captured.items in
    let made = named_from (length (old at)) (kernel_in at).variables in
    subst (λ (g : Graph). AreExactCaptures g c.args.matched (kernel_in at) (ids_of all))
    (sym (c.use_known.ensures.graph ∙ longer end))
    (exact_too (old at ++ batch_in at) c.args.matched (kernel_in at) c.args.accepted.first
    c.requires.accepted.sound (ids_of made) (ids_of all)
    (stands end all c.use_known.ensures.stand).same
    (exact (old at) (kernel_in at) c.args.accepted.first c.args.matched (places_in at) (rows_in at)
    c.requires.accepted c.in_ok-explored.ensures.explored c.graph.ensures.sound
    c.batch_of.ensures.once (batch_in at) (are_formulas at) c.in_ok-explored.ensures.first))

pub returns-clause-values : goal.returns-clause-values
returns-clause-values c =
    let end = (goal.at.returns-clause-values c).In_ok-extend in
    let at = of_it end in
    let all = c.use_known.new.captured.items in
    let made = named_from (length (old at)) (kernel_in at).variables in
    subst (λ (g : Graph). AreWideCaptures g c.args.matched (kernel_in at) (ids_of all))
    (sym (c.use_known.ensures.graph ∙ longer end))
    (wide_too (old at ++ batch_in at) c.args.matched (kernel_in at) c.args.accepted.first
    c.requires.accepted.sound (ids_of made) (ids_of all)
    (stands end all c.use_known.ensures.stand).same
    (wide (old at) (kernel_in at) c.args.accepted.first c.args.matched (places_in at) (rows_in at)
    c.requires.accepted c.in_ok-explored.ensures.explored c.graph.ensures.sound
    c.batch_of.ensures.once (batch_in at) (are_formulas at) c.in_ok-explored.ensures.first))

pub returns-clause-nodes : goal.returns-clause-nodes
returns-clause-nodes c =
    let end = (goal.at.returns-clause-nodes c).In_ok-extend in
    let all = c.use_known.new.captured.items in
    subst (λ (g : Graph). AllOf (λ one. one.1.0 < length g) all)
    (sym (c.use_known.ensures.graph ∙ longer end))
    (stands end all c.use_known.ensures.stand).nodes
