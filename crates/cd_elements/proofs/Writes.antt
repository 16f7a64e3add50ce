-- A text that is begun, and left but for the beginning.
use Rattle.std.proofs.Common.{◌≡◌, ◌<◌, List, [], ◌++◌, length, length-append, refl, ap, sym, ◌∙◌, append_assoc, append-nil}
use Rattle.std.proofs.Common.{arith}
use Rattle.cd_model.specs.Canonical.{Text}
use Rattle.cd_model.specs.Thing.{Thing}
use Rattle.cd_elements.specs.declared.task.Tasks.{Tasks}
use Rattle.cd_elements.specs.Inner.Tasks.{tasks_text, PutsIn}
use Rattle.cd_elements.specs.Inner.Writing.{Writes}

module _ (table : List Thing) (text output : Text) (tasks : Tasks) (new_output : Text) where
  pub begun : (opening rest : Text) (new_tasks : Tasks) → text ≡ opening ++ rest → 0 < length opening
      → PutsIn table rest tasks new_tasks
      → new_output ≡ output ++ opening → Writes table text output tasks new_output new_tasks
  begun opening rest new_tasks text_is some puts output_is =
      let left = tasks_text table tasks in
      let all : text ++ left ≡ opening ++ (rest ++ left) = ap (λ one. one ++ left) text_is ∙ append_assoc opening rest left in
      let both : new_output ++ tasks_text table new_tasks ≡ (output ++ opening) ++ (rest ++ left) = cc in
      record {
        whole = both ∙ append_assoc output opening (rest ++ left) ∙ ap (λ one. output ++ one) (sym all);
        longer = omega (arith, length-append output opening, ap length output_is);
      }

  -- a text that is written whole
  pub all_written : (whole : Text) → text ≡ whole → 0 < length whole → new_output ≡ output ++ whole
      → Writes table text output tasks new_output tasks
  all_written whole text_is some output_is = begun whole [] tasks (text_is ∙ sym (append-nil whole)) some refl output_is

  -- what is left grows less
  pub less_left : (before new_tasks : Tasks) → PutsIn table text tasks before
      → Writes table text output tasks new_output new_tasks
      → length (tasks_text table new_tasks) < length (tasks_text table before)
  less_left before new_tasks puts writes =
      let left = tasks_text table new_tasks in
      let whole : new_output ++ left ≡ output ++ tasks_text table before =
      writes.whole ∙ ap (λ all. output ++ all) (sym puts) in
      let longer = writes.longer in
      omega (arith, length-append new_output left, length-append output (tasks_text table before), ap length whole)
