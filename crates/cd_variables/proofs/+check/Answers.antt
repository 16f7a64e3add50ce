use Rattle.std.proofs.Common.{◌+◌, ◌-◌, ◌++◌, ◌∷◌, [], map, take, drop, length, ap, sym, ◌∙◌, rules}
use Rattle.std.proofs.Common.{append_assoc, arith}
use Rattle.std.proofs.lemmas.Result.{IfOk-weaker}
use Rattle.cd_syntax.specs.TypeTree.{trees_of, signs_of, fields_of, regulars_of}
use Rattle.cd_syntax.specs.PlainTree.{plain, plain_signed, plain_signs, plain_field, plain_regular}
use Rattle.cd_variables.specs.Occurrences.{bound, bound_by_all, bound_by_signs, bound_by_fields}
use Rattle.cd_variables.specs.Occurrences.{plain_of_all, gathered_of_all}
use Rattle.cd_variables.specs.Occurrences.{plain as plain_ones, gathered as gathered_ones}
use Rattle.cd_variables.specs.VariableFaults.{differs, repeats}
use Rattle.cd_variables.specs.FindingVariables.{sign_faults, field_faults, sides_in}
use Rattle.cd_variables.specs.FindingVariables.{reported_if, reported_again, reported_of_each, differ}
use Rattle.cd_variables.specs.FindingVariables.{names_among, variable_faults, union_faults}
use Rattle.cd_variables.specs.FindingVariables.{alternative_faults, choice_faults, other_faults}
use Rattle.cd_variables.specs.PlainOccurrences.{plain_occurrence}
use Rattle.cd_resolve.specs.PlainReported.{plain_reported}
use Rattle.cd_resolve.proofs.Sizes.{trees_fall, signs_fall, fields_fall, regulars_fall}
use Rattle.cd_resolve.proofs.Views.{signed_is, field_is, at_item}
use Rattle.cd_variables.proofs.Views.{tree_begins, regular_starts}
use Rattle.cd_variables.proofs.Chosen.{first_and_rest, side_bound, kept_bound, side_found, kept_found}
use Rattle.cd_variables.proofs.Since.{last_part}
use Rattle.cd_variables.proofs.Stepping.{optional_step, present_step, side_step, kept_step}
use Rattle.cd_variables.proofs.+check.Goals as goal
use Rattle.cd_variables.proofs.+check.Goals.{row::check_record-then-field+in_ok-report_misplaced}
use Rattle.cd_variables.proofs.+check.Goals.{row::check_record-else-field+in_ok-add_part}
use Rattle.cd_variables.proofs.+check.Goals.{row::check_meet-then-sides-gt0+in_ok-report_misplaced}
use Rattle.cd_variables.proofs.+check.Goals.{row::check_meet-else-sides-gt0+in_ok-add_part}
use Rattle.cd_variables.proofs.+check.Goals.{row::check_signs-then-left-gt0+in_ok-report_misplaced}
use Rattle.cd_variables.proofs.+check.Goals.{row::check_signs-else-left-gt0+in_ok-add_part}

-- each item of a list is smaller than the list
pub row::check_tuple-add_part-requires : goal.row::check_tuple-add_part-requires
row::check_tuple-add_part-requires t c =
    let fall = rw c.items-tree-items.ensures at (trees_fall c.items-tree-items.result.now c.loop-tree.tree-index
    c.tree-item.result c.tree-item.is c.loop-tree-test.true) in search (rules, fall, c.decreases)

pub row::check_record-add_part-requires : goal.row::check_record-add_part-requires
row::check_record-add_part-requires t c =
    let fall = rw (c.items-field-items.ensures, ap (λ one. one.tree) (field_is c.field-item.result)) at
    (fields_fall c.items-field-items.result.now c.loop-field.field-index c.field-item.result c.field-item.is
    c.loop-field-test.true) in search (rules, fall, c.decreases)

pub row::check_signs-add_part-requires : goal.row::check_signs-add_part-requires
row::check_signs-add_part-requires t c =
    let fall = rw (c.items-sign-items.ensures, ap (λ one. one.tree) (signed_is c.sign-item.result)) at
    (signs_fall c.items-sign-items.result.now c.loop-sign.sign-index c.sign-item.result c.sign-item.is
    c.loop-sign-test.true) in search (rules, fall, c.decreases)

pub alternatives::check_others-check_other-requires : goal.alternatives::check_others-check_other-requires
alternatives::check_others-check_other-requires t c =
    let fall = trees_fall c.args.rest.now c.loop-tree.tree-index c.tree-item.result c.tree-item.is
    c.loop-tree-test.true in search (rules, fall, c.decreases)

pub turn::check_each-check_next-requires : goal.turn::check_each-check_next-requires
turn::check_each-check_next-requires t c =
    let fall = rw c.items-expression-items.ensures at (regulars_fall c.items-expression-items.result.now
    c.loop-expression.expression-index c.expression-item.result c.expression-item.is c.loop-expression-test.true) in
    search (rules, fall, c.decreases)

pub choice::check_others-check_other-requires : goal.choice::check_others-check_other-requires
choice::check_others-check_other-requires t c =
    let fall = regulars_fall c.args.rest.now c.loop-expression.expression-index c.expression-item.result
    c.expression-item.is c.loop-expression-test.true in search (rules, fall, c.decreases)

-- the next item goes from what is left to what is gone over
pub row::check_record-loop-field-preserved : goal.row::check_record-loop-field-preserved
row::check_record-loop-field-preserved t c =
    let items = c.items-field-items.result.now in
    let one = c.field-item.result in
    let rest = fields_of (map plain_field (drop (c.loop-field.field-index + 1) items)) in
    let all = map plain_occurrence c.loop-field.bound.items in
    let seen = c.loop-field.names in
    let s = map plain_reported c.loop-field.faults.items in
    let bound_left = at_item (λ left. all ++ bound_by_fields (fields_of (map plain_field left))) items
    c.loop-field.field-index one c.field-item.is c.loop-field-test.true in
    let found_left = at_item (λ left. field_faults seen (fields_of (map plain_field left)) s) items
    c.loop-field.field-index one c.field-item.is c.loop-field-test.true in
    let bound_here = rw (field_is one) at bound_left in
    let found_here = rw (field_is one) at found_left in
    elim c.if-field.branch [
      | row::check_record-then-field+in_ok-report_misplaced w ↦
          let step = optional_step one.label one.at one.optional (plain one.tree) rest all
          (map plain_occurrence c.if-field.bound.items) seen c.if-field.names s
          (map plain_reported c.if-field.faults.items) w.if-field.true
          (ap (λ bound. map plain_occurrence bound.items) w.bound-is) w.names-is
          (ap (λ faults. map plain_reported faults.items) w.faults-is ∙ w.in_ok-report_misplaced.ensures) in
          (step.0 ∙ sym bound_here ∙ c.loop-field.invariant.0, step.1 ∙ sym found_here ∙ c.loop-field.invariant.1)
      | row::check_record-else-field+in_ok-add_part w ↦
          let step = present_step one.label one.at one.optional (plain one.tree) rest all
          (map plain_occurrence c.if-field.bound.items) seen c.if-field.names s
          (map plain_reported c.if-field.faults.items) w.if-field.false
          (ap (λ bound. map plain_occurrence bound.items) w.bound-is ∙ w.in_ok-add_part.ensures.bound)
          (w.names-is ∙ w.in_ok-add_part.ensures.names)
          (ap (λ faults. map plain_reported faults.items) w.faults-is ∙ w.in_ok-add_part.ensures.faults) in
          (step.0 ∙ sym bound_here ∙ c.loop-field.invariant.0, step.1 ∙ sym found_here ∙ c.loop-field.invariant.1)
    ]

pub row::check_signs-loop-sign-preserved : goal.row::check_signs-loop-sign-preserved
row::check_signs-loop-sign-preserved t c =
    let items = c.items-sign-items.result.now in
    let one = c.sign-item.result in
    let rest = signs_of (map plain_signed (drop (c.loop-sign.sign-index + 1) items)) in
    let all = map plain_occurrence c.loop-sign.bound.items in
    let seen = c.loop-sign.names in
    let s = map plain_reported c.loop-sign.faults.items in
    let sides_left = at_item (λ left. sides_in (signs_of (map plain_signed left))) items
    c.loop-sign.sign-index one c.sign-item.is c.loop-sign-test.true in
    let bound_left = at_item (λ left. all ++ bound_by_signs (signs_of (map plain_signed left))) items
    c.loop-sign.sign-index one c.sign-item.is c.loop-sign-test.true in
    let found_left = at_item (λ left. sign_faults seen (signs_of (map plain_signed left)) s) items
    c.loop-sign.sign-index one c.sign-item.is c.loop-sign-test.true in
    let sides_here = rw (signed_is one) at sides_left in
    let bound_here = rw (signed_is one) at bound_left in
    let found_here = rw (signed_is one) at found_left in
    elim c.if-left-gt0.branch [
      | row::check_signs-then-left-gt0+in_ok-report_misplaced w ↦
          let step = side_step one.kept (plain one.tree) rest c.loop-sign.left c.if-left-gt0.left all
          (map plain_occurrence c.if-left-gt0.bound.items) seen c.if-left-gt0.names s
          (map plain_reported c.if-left-gt0.faults.items)
          (c.loop-sign.invariant.0 ∙ sides_here) (omega (arith, w.if-left-gt0.true)) w.left-is
          (ap (λ bound. map plain_occurrence bound.items) w.bound-is) w.names-is
          (ap (λ faults. map plain_reported faults.items) w.faults-is ∙ w.in_ok-report_misplaced.ensures) in
          (step.0, step.1 ∙ sym bound_here ∙ c.loop-sign.invariant.1, step.2 ∙ sym found_here ∙ c.loop-sign.invariant.2)
      | row::check_signs-else-left-gt0+in_ok-add_part w ↦
          let step = kept_step one.kept (plain one.tree) rest c.loop-sign.left c.if-left-gt0.left all
          (map plain_occurrence c.if-left-gt0.bound.items) seen c.if-left-gt0.names s
          (map plain_reported c.if-left-gt0.faults.items)
          (c.loop-sign.invariant.0 ∙ sides_here) (omega (arith, w.if-left-gt0.false)) w.left-is
          (ap (λ bound. map plain_occurrence bound.items) w.bound-is ∙ w.in_ok-add_part.ensures.bound)
          (w.names-is ∙ w.in_ok-add_part.ensures.names)
          (ap (λ faults. map plain_reported faults.items) w.faults-is ∙ w.in_ok-add_part.ensures.faults) in
          (step.0, step.1 ∙ sym bound_here ∙ c.loop-sign.invariant.1, step.2 ∙ sym found_here ∙ c.loop-sign.invariant.2)
    ]

-- what a part binds is what was bound since
pub alternatives::check_other-returns-clause-faults : goal.alternatives::check_other-returns-clause-faults
alternatives::check_other-returns-clause-faults t c =
    let own = last_part c.args.bound.now.items c.check_variables.new.bound.items c.since.result.now
    c.len-from.result (bound (plain c.args.tree.now)) c.in_ok-check_variables.ensures.bound
    (c.len-from.ensures ∙ c.args.bound.now.ok.0) c.since.ensures in
    IfOk-weaker c.report_if_differs.result _ _
    (λ one same. same ∙ (λ i. reported_if (differ c.args.names.now (names_among (own i)))
    (differs (sym (tree_begins c.args.tree.now) i)) (c.in_ok-check_variables.ensures.faults i)))
    c.report_if_differs.ensures

pub choice::check_other-returns-clause-faults : goal.choice::check_other-returns-clause-faults
choice::check_other-returns-clause-faults t c =
    let own = last_part c.args.plain.now.items c.check_regular.new.plain.items c.since.result.now
    c.len-from.result (plain_ones (plain_regular c.args.expression.now))
    c.in_ok-check_regular.ensures.plain (c.len-from.ensures ∙ c.args.plain.now.ok.0)
    c.since.ensures in
    IfOk-weaker c.report_if_differs.result _ _
    (λ one same. same ∙ (λ i. reported_if (differ c.args.names.now (names_among (own i)))
    (differs (sym (regular_starts c.args.expression.now) i)) (c.in_ok-check_regular.ensures.faults i)))
    c.report_if_differs.ensures

pub regular::check_repeated-returns-clause-faults : goal.regular::check_repeated-returns-clause-faults
regular::check_repeated-returns-clause-faults t c =
    let own = last_part c.args.plain.now.items c.check_regular.new.plain.items c.since.result.now
    c.len-from.result (plain_ones (plain_regular c.args.inner.now))
    c.in_ok-check_regular.ensures.plain (c.len-from.ensures ∙ c.args.plain.now.ok.0)
    c.since.ensures in
    IfOk-weaker c.report_repeats.result _ _
    (λ one same. same
    ∙ (λ i. reported_of_each repeats (own i) (c.in_ok-check_regular.ensures.faults i)))
    c.report_repeats.ensures

pub regular::check_gathered-returns-clause-faults : goal.regular::check_gathered-returns-clause-faults
regular::check_gathered-returns-clause-faults t c =
    let own = last_part c.args.plain.now.items c.check_regular.new.plain.items c.since.result.now
    c.len-from.result (plain_ones (plain_regular c.args.inner.now))
    c.in_ok-check_regular.ensures.plain (c.len-from.ensures ∙ c.args.plain.now.ok.0)
    c.since.ensures in
    let other = last_part c.push.new.self.items c.check_regular.new.gathered.items
    c.since-2.result.now c.len-after.result (gathered_ones (plain_regular c.args.inner.now))
    c.in_ok-check_regular.ensures.gathered (c.len-after.ensures ∙ c.push.new.self.ok.0)
    c.since-2.ensures in
    let names = c.args.variable.name.now ∷ [] in
    IfOk-weaker c.report_inside-2.result _ _
    (λ one same. same ∙ (λ i. reported_again names (other i)
    ((c.in_ok-report_inside.ensures
    ∙ (λ j. reported_again names (own j) (c.in_ok-check_regular.ensures.faults j))) i)))
    c.report_inside-2.ensures

pub row::add_part-returns-clause-names : goal.row::add_part-returns-clause-names
row::add_part-returns-clause-names t c =
    let own = last_part c.args.bound.now.items c.check_variables.new.bound.items c.since-own.result.now
    c.len-from.result (bound (plain c.args.part.now)) c.in_ok-check_variables.ensures.bound
    (c.len-from.ensures ∙ c.args.bound.now.ok.0) c.since-own.ensures in
    IfOk-weaker c.add_names.result _ _
    (λ one same. same ∙ (λ i. c.args.names.now ++ names_among (own i))) c.add_names.ensures

pub row::add_part-returns-clause-faults : goal.row::add_part-returns-clause-faults
row::add_part-returns-clause-faults t c =
    let own = last_part c.args.bound.now.items c.check_variables.new.bound.items c.since-own.result.now
    c.len-from.result (bound (plain c.args.part.now)) c.in_ok-check_variables.ensures.bound
    (c.len-from.ensures ∙ c.args.bound.now.ok.0) c.since-own.ensures in
    IfOk-weaker c.add_names.result _ _
    (λ one same. c.in_ok-report_again.ensures
    ∙ (λ i. reported_again c.args.names.now (own i) (c.in_ok-check_variables.ensures.faults i)))
    c.add_names.ensures

-- both parts of what the next of some expressions binds
pub turn::check_next-returns-clause-seen : goal.turn::check_next-returns-clause-seen
turn::check_next-returns-clause-seen t c =
    let own = last_part c.args.plain.now.items c.check_regular.new.plain.items c.since.result.now
    c.len-from.result (plain_ones (plain_regular c.args.expression.now))
    c.in_ok-check_regular.ensures.plain (c.len-from.ensures ∙ c.args.plain.now.ok.0)
    c.since.ensures in
    let other = last_part c.args.gathered.now.items c.check_regular.new.gathered.items
    c.since-2.result.now c.len-after.result (gathered_ones (plain_regular c.args.expression.now))
    c.in_ok-check_regular.ensures.gathered (c.len-after.ensures ∙ c.args.gathered.now.ok.0)
    c.since-2.ensures in
    IfOk-weaker c.add.result _ _ (λ one same. same
    ∙ (λ i. c.args.seen.now.all ++ names_among (own i) ++ names_among (other i)))
    c.add.ensures.all

pub turn::check_next-returns-clause-seen_plain : goal.turn::check_next-returns-clause-seen_plain
turn::check_next-returns-clause-seen_plain t c =
    let own = last_part c.args.plain.now.items c.check_regular.new.plain.items c.since.result.now
    c.len-from.result (plain_ones (plain_regular c.args.expression.now))
    c.in_ok-check_regular.ensures.plain (c.len-from.ensures ∙ c.args.plain.now.ok.0)
    c.since.ensures in
    IfOk-weaker c.add.result _ _
    (λ one same. same ∙ (λ i. c.args.seen.now.plain ++ names_among (own i))) c.add.ensures.plain

pub turn::check_next-returns-clause-faults : goal.turn::check_next-returns-clause-faults
turn::check_next-returns-clause-faults t c =
    let own = last_part c.args.plain.now.items c.check_regular.new.plain.items c.since.result.now
    c.len-from.result (plain_ones (plain_regular c.args.expression.now))
    c.in_ok-check_regular.ensures.plain (c.len-from.ensures ∙ c.args.plain.now.ok.0)
    c.since.ensures in
    let other = last_part c.args.gathered.now.items c.check_regular.new.gathered.items
    c.since-2.result.now c.len-after.result (gathered_ones (plain_regular c.args.expression.now))
    c.in_ok-check_regular.ensures.gathered (c.len-after.ensures ∙ c.args.gathered.now.ok.0)
    c.since-2.ensures in
    IfOk-weaker c.add.result _ _ (λ one same. same
    ∙ (λ i. reported_again c.args.seen.now.plain (other i) (reported_again c.args.seen.now.all (own i)
    (c.in_ok-check_regular.ensures.faults i)))) c.add.ensures.faults

-- the first of some alternatives, and the others
pub alternatives::check_union-returns-in_ok-names-in-len1-up-clause-bound :
    goal.alternatives::check_union-returns-in_ok-names-in-len1-up-clause-bound
alternatives::check_union-returns-in_ok-names-in-len1-up-clause-bound t c =
    let items = c.items.result.now in
    let first = c.first-item.result in
    let rest = trees_of (map plain (take (length items - 1) (drop 1 items))) in
    let all = map plain_occurrence c.args.bound.now.items in
    let whole = ap (λ list. trees_of (map plain list))
    (first_and_rest items first c.first-item.is c.in-len1-up.len_at_least) ∙ c.items.ensures in
    IfOk-weaker c.check_others.result _ _ (λ one same. same
    ∙ ap (λ x. x ++ bound_by_all rest) c.in_ok-check_variables-in-len1-up.ensures.bound
    ∙ append_assoc all (bound (plain first)) (bound_by_all rest)
    ∙ ap (λ trees. all ++ bound_by_all trees) whole) c.check_others.ensures.bound

pub alternatives::check_union-returns-in_ok-names-in-len1-up-clause-faults :
    goal.alternatives::check_union-returns-in_ok-names-in-len1-up-clause-faults
alternatives::check_union-returns-in_ok-names-in-len1-up-clause-faults t c =
    let items = c.items.result.now in
    let first = c.first-item.result in
    let rest = trees_of (map plain (take (length items - 1) (drop 1 items))) in
    let whole = ap (λ list. trees_of (map plain list))
    (first_and_rest items first c.first-item.is c.in-len1-up.len_at_least) ∙ c.items.ensures in
    let own = last_part c.args.bound.now.items c.check_variables.new.bound.items c.since.result.now
    c.len-from.result (bound (plain first)) c.in_ok-check_variables-in-len1-up.ensures.bound
    (c.len-from.ensures ∙ c.args.bound.now.ok.0) c.since.ensures in
    let names = c.in_ok-names-in-len1-up.ensures ∙ ap names_among own in
    IfOk-weaker c.check_others.result _ _ (λ one same. same
    ∙ (λ i. alternative_faults (names i) rest
    (c.in_ok-check_variables-in-len1-up.ensures.faults i))
    ∙ ap (λ trees. union_faults trees (map plain_reported c.args.faults.now.items)) whole)
    c.check_others.ensures.faults

pub choice::check_choice-returns-in_ok-names-in-len1-up-clause-plain :
    goal.choice::check_choice-returns-in_ok-names-in-len1-up-clause-plain
choice::check_choice-returns-in_ok-names-in-len1-up-clause-plain t c =
    let items = c.items.result.now in
    let first = c.first-item.result in
    let rest = regulars_of (map plain_regular (take (length items - 1) (drop 1 items))) in
    let all = map plain_occurrence c.args.plain.now.items in
    let whole = ap (λ list. regulars_of (map plain_regular list))
    (first_and_rest items first c.first-item.is c.in-len1-up.len_at_least) ∙ c.items.ensures in
    IfOk-weaker c.check_others.result _ _ (λ one same. same
    ∙ ap (λ x. x ++ plain_of_all rest) c.in_ok-check_regular-in-len1-up.ensures.plain
    ∙ append_assoc all (plain_ones (plain_regular first)) (plain_of_all rest)
    ∙ ap (λ list. all ++ plain_of_all list) whole) c.check_others.ensures.plain

pub choice::check_choice-returns-in_ok-names-in-len1-up-clause-gathered :
    goal.choice::check_choice-returns-in_ok-names-in-len1-up-clause-gathered
choice::check_choice-returns-in_ok-names-in-len1-up-clause-gathered t c =
    let items = c.items.result.now in
    let first = c.first-item.result in
    let rest = regulars_of (map plain_regular (take (length items - 1) (drop 1 items))) in
    let all = map plain_occurrence c.args.gathered.now.items in
    let whole = ap (λ list. regulars_of (map plain_regular list))
    (first_and_rest items first c.first-item.is c.in-len1-up.len_at_least) ∙ c.items.ensures in
    IfOk-weaker c.check_others.result _ _ (λ one same. same
    ∙ ap (λ x. x ++ gathered_of_all rest) c.in_ok-check_regular-in-len1-up.ensures.gathered
    ∙ append_assoc all (gathered_ones (plain_regular first)) (gathered_of_all rest)
    ∙ ap (λ list. all ++ gathered_of_all list) whole) c.check_others.ensures.gathered

pub choice::check_choice-returns-in_ok-names-in-len1-up-clause-faults :
    goal.choice::check_choice-returns-in_ok-names-in-len1-up-clause-faults
choice::check_choice-returns-in_ok-names-in-len1-up-clause-faults t c =
    let items = c.items.result.now in
    let first = c.first-item.result in
    let rest = regulars_of (map plain_regular (take (length items - 1) (drop 1 items))) in
    let whole = ap (λ list. regulars_of (map plain_regular list))
    (first_and_rest items first c.first-item.is c.in-len1-up.len_at_least) ∙ c.items.ensures in
    let own = last_part c.args.plain.now.items c.check_regular.new.plain.items c.since.result.now
    c.len-from.result (plain_ones (plain_regular first))
    c.in_ok-check_regular-in-len1-up.ensures.plain
    (c.len-from.ensures ∙ c.args.plain.now.ok.0) c.since.ensures in
    let names = c.in_ok-names-in-len1-up.ensures ∙ ap names_among own in
    IfOk-weaker c.check_others.result _ _ (λ one same. same
    ∙ (λ i. other_faults (names i) rest (c.in_ok-check_regular-in-len1-up.ensures.faults i))
    ∙ ap (λ list. choice_faults list (map plain_reported c.args.faults.now.items)) whole)
    c.check_others.ensures.faults

-- the first tree of a chain is on a side of a `\`, or none is
pub row::check_meet-returns-clause-bound : goal.row::check_meet-returns-clause-bound
row::check_meet-returns-clause-bound t c =
    let signs = plain_signs c.args.signs.now in
    let one = plain c.args.first.now in
    let all = map plain_occurrence c.args.bound.now.items in
    let after = map plain_occurrence c.if-sides-gt0.bound.items in
    elim c.if-sides-gt0.branch [
      | row::check_meet-then-sides-gt0+in_ok-report_misplaced w ↦
          IfOk-weaker c.check_signs.result _ _ (λ u same. same ∙ side_bound one signs all after
          (omega (arith, c.count_sides-sides.ensures, w.if-sides-gt0.true))
          (ap (λ bound. map plain_occurrence bound.items) w.bound-is)) c.check_signs.ensures.bound
      | row::check_meet-else-sides-gt0+in_ok-add_part w ↦
          IfOk-weaker c.check_signs.result _ _ (λ u same. same ∙ kept_bound one signs all after
          (omega (arith, c.count_sides-sides.ensures, w.if-sides-gt0.false))
          (ap (λ bound. map plain_occurrence bound.items) w.bound-is
          ∙ w.in_ok-add_part.ensures.bound)) c.check_signs.ensures.bound
    ]

pub row::check_meet-returns-clause-faults : goal.row::check_meet-returns-clause-faults
row::check_meet-returns-clause-faults t c =
    let signs = plain_signs c.args.signs.now in
    let one = plain c.args.first.now in
    let s = map plain_reported c.args.faults.now.items in
    let after = map plain_reported c.if-sides-gt0.faults.items in
    elim c.if-sides-gt0.branch [
      | row::check_meet-then-sides-gt0+in_ok-report_misplaced w ↦
          IfOk-weaker c.check_signs.result _ _ (λ u same. same
          ∙ side_found one signs c.if-sides-gt0.names s after
          (omega (arith, c.count_sides-sides.ensures, w.if-sides-gt0.true))
          (w.names-is ∙ c.requires)
          (ap (λ faults. map plain_reported faults.items) w.faults-is
          ∙ w.in_ok-report_misplaced.ensures)) c.check_signs.ensures.faults
      | row::check_meet-else-sides-gt0+in_ok-add_part w ↦
          IfOk-weaker c.check_signs.result _ _ (λ u same. same
          ∙ kept_found one signs c.if-sides-gt0.names s after
          (omega (arith, c.count_sides-sides.ensures, w.if-sides-gt0.false))
          (w.names-is ∙ w.in_ok-add_part.ensures.names
          ∙ ap (λ names. names ++ names_among (bound one)) c.requires)
          (ap (λ faults. map plain_reported faults.items) w.faults-is ∙ w.in_ok-add_part.ensures.faults
          ∙ ap (λ names. reported_again names (bound one) (variable_faults one s)) c.requires))
          c.check_signs.ensures.faults
    ]
