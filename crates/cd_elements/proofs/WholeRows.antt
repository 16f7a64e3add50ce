-- Rows that are put from their end.
use Rattle.std.proofs.Common.{◌≡◌, ℕ, ◌-◌, ◌<◌, ◌≤◌, List, [], ◌∷◌, ◌++◌, length, get_or, take, drop, map, ap, ◌∙◌}
use Rattle.std.proofs.Common.{append_assoc, arith}
use Rattle.std.proofs.lemmas.List.{take_rest}
use Rattle.cd_model.specs.Canonical.{Text, joined}
use Rattle.cd_elements.specs.declared.task.Mark.{Mark}
use Rattle.cd_elements.specs.Inner.Marks.{mark_text}
use Rattle.cd_elements.specs.Inner.Rows.{each_after}
use Rattle.cd_elements.proofs.Joining.{drop_before}

-- one more, and the mark that it stands after; it is what is left that grows
pub put_after : {X : Type 0} (text : X → Text) (mark : Mark) (items : List X) (index : ℕ) (one default : X)
    (old left middle new : Text)
    → 0 < index → index ≤ length items → one ≡ get_or items (index - 1) default
    → left ≡ each_after mark (map text (drop index items)) ++ old
    → middle ≡ text one ++ left → new ≡ mark_text mark ++ middle
    → new ≡ each_after mark (map text (drop (index - 1) items)) ++ old
put_after text mark items index one default old left middle new some within is left_is middle_is new_is =
    let item = get_or items (index - 1) default in
    let others = each_after mark (map text (drop index items)) in
    let step = drop_before items index default some within in
    let found = middle_is ∙ ap (λ first. text first ++ left) is ∙ ap (λ rest. text item ++ rest) left_is in
    let all : new ≡ mark_text mark ++ (text item ++ (others ++ old)) =
    new_is
    ∙ ap (λ rest. mark_text mark ++ rest) found in
    rw step (simp append_assoc all)

-- a row is its first text, and then the others, each after a mark
pub row_closed : {X : Type 0} (text : X → Text) (mark : Mark) (items : List X) (first default : X)
    (close old ending left new : Text) → 1 ≤ length items
    → first ≡ get_or items 0 default → ending ≡ close ++ old
    → left ≡ each_after mark (map text (take (length items - 1) (drop 1 items))) ++ ending
    → new ≡ text first ++ left → new ≡ joined (mark_text mark) (map text items) ++ close ++ old
row_closed text mark [] first default close old ending left new some is ending_is left_is new_is = absurd (omega arith)
row_closed text mark (item ∷ items) first default close old ending left new some is ending_is left_is new_is =
    let rest : take (length (item ∷ items) - 1) (drop 1 (item ∷ items)) ≡ items = take_rest (item ∷ items) 1 in
    let others : left ≡ each_after mark (map text items) ++ (close ++ old) =
    left_is ∙ ap (λ all. each_after mark (map text all) ++ ending) rest
    ∙ ap (λ end. each_after mark (map text items) ++ end) ending_is in
    let whole : new ≡ text item ++ (each_after mark (map text items) ++ (close ++ old)) =
    new_is ∙ ap (λ one. text one ++ left) is ∙ ap (λ all. text item ++ all) others in
    simp append_assoc whole

-- what a tuple ends in
pub ended : (comma end close old closed last left : Text) → closed ≡ close ++ old → last ≡ end ++ closed
    → left ≡ comma ++ last
    → left ≡ (comma ++ (end ++ close)) ++ old
ended comma end close old closed last left closed_is last_is left_is =
    let all : left ≡ comma ++ (end ++ (close ++ old)) =
    left_is ∙ ap (λ rest. comma ++ rest) (last_is ∙ ap (λ rest. end ++ rest) closed_is) in
    simp append_assoc all

pub with_end : (row comma end close old new : Text) → new ≡ row ++ (comma ++ (end ++ close)) ++ old
    → new ≡ (row ++ comma ++ end ++ close) ++ old
with_end row comma end close old new new_is = simp append_assoc (simp append_assoc at new_is)
