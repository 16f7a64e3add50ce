use Rattle.std.proofs.Common.{◌≡◌, ◌+◌, ℕ, map, length, sym, ap, subst, ◌∙◌}
use Rattle.std.proofs.lemmas.List.{length-map, map-append}
use Rattle.std.specs.List.{AllZip}
use Rattle.cd_model.specs.AllOf.{AllOf}
use Rattle.cd_model.specs.Formula.{Formula, formula_at}
use Rattle.cd_graph.specs.Nodes.{nodes}
use Rattle.cd_graph.specs.PlainFormula.{plain}
use Rattle.cd_rules.specs.Family.{AsksNodes}
use Rattle.cd_forms.specs.Inner.StateFormulas.{IsStateFormula}
use Rattle.cd_forms.specs.Inner.States.{plain_state}
use Rattle.cd_forms.proofs.of_sequences.state_formulas.state_formulas.Goals as goal

pub question_formulas-requires : goal.question_formulas-requires
question_formulas-requires c =
    let count = length (nodes c.args.graph.now) in
    c.in_ok-batch.ensures.asks count c.requires.asks
    (subst (AllOf (AsksNodes count)) (sym c.new-items.ensures) tt)

pub returns : goal.returns
returns c =
    let graph = nodes c.args.graph.now in
    let states = map plain_state c.args.states.now in
    let items = c.all_states.new.items in
    let made = map plain c.in_ok-batch.batch.items in
    let end = formula_at graph c.args.second in
    let first = c.len-first.ensures.count in
    let after : c.in_ok-after.after.0 ≡ length graph + length states =
    ap (λ id. id.0) c.in_ok-after.ensures
    ∙ (λ i. first i + sym (length-map c.args.states.now plain_state) i) in
    record {
      items = items;
      made = made;
      others = map plain c.in_ok-others.others.items;
      made_for_states = subst (λ (n : ℕ). AllZip
          (IsStateFormula n (length graph + length states) items end) states made) first
          (subst (λ (n : ℕ). AllZip
          (IsStateFormula c.len-first.result n items end) states made) after
          (subst (λ (end : Formula). AllZip
          (IsStateFormula c.len-first.result c.in_ok-after.after.0 items end) states made)
          c.formula.ensures.formula c.in_ok-batch.ensures.made));
      made_for_items = c.in_ok-others.ensures;
      whole = ap (map plain) c.in_ok-append.ensures.items
          ∙ map-append plain c.in_ok-batch.batch.items c.in_ok-others.others.items;
    }
