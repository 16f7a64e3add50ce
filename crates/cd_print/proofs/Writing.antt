-- A text that is begun, and left but for the beginning.
use Rattle.std.proofs.Common.{◌≡◌, ◌<◌, ◌++◌, length, length-append, ap, sym, ◌∙◌, append_assoc, arith}
use Rattle.cd_model.specs.Canonical.{Text}

module _ (old opening rest left new new_left text : Text) (is : text ≡ opening ++ rest) where
  -- the rest is put before what was left
  pub begun : new ≡ old ++ opening → new_left ≡ rest ++ left → new ++ new_left ≡ old ++ (text ++ left)
  begun new_is left_is =
      let both : new ++ new_left ≡ (old ++ opening) ++ (rest ++ left) = cc in
      rw is (simp append_assoc (simp append_assoc at both))

  -- the rest is written next, or begun
  pub opened : (middle : Text) → middle ≡ old ++ opening → new ++ new_left ≡ middle ++ (rest ++ left)
      → new ++ new_left ≡ old ++ (text ++ left)
  opened middle middle_is rest_is =
      let both : new ++ new_left ≡ (old ++ opening) ++ (rest ++ left) = cc in
      rw is (simp append_assoc (simp append_assoc at both))

pub all_written : (old text left new whole : Text) → text ≡ whole → new ≡ old ++ whole
    → new ++ left ≡ old ++ (text ++ left)
all_written old text left new whole is new_is =
    ap (λ (one : Text). one ++ left) (new_is ∙ ap (λ (one : Text). old ++ one) (sym is)) ∙ append_assoc old text left

-- two texts in a row
pub two : (old first second middle new : Text) → middle ≡ old ++ first → new ≡ middle ++ second → new ≡ old ++ (first ++ second)
two old first second middle new middle_is new_is =
    new_is ∙ ap (λ (one : Text). one ++ second) middle_is ∙ append_assoc old first second

-- where a text is written of what is left, less is left
pub less_left : (old left new new_left : Text) → length old < length new → new ++ new_left ≡ old ++ left
    → length new_left < length left
less_left old left new new_left longer whole =
    omega (arith, length-append new new_left, length-append old left, ap length whole)
