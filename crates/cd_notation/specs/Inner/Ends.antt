-- Where each label is open last.
use Rattle.std.specs.Prelude.{◌≡◌, ℕ, suc, ◌==◌, List, [], ◌∷◌, length, reverse, slice_index_or}
use Rattle.std.specs.Prelude.{if◌then◌else◌}
use Rattle.std.proofs.Props.{props}
use Rattle.std.specs.Coded.{×_prop, Unit-prop}
use Rattle.cd_notation.specs.declared.open_label.OpenLabel.{OpenLabel}

-- the number of labels up to and with the last one with this number, 0 if there is none; the last
-- label stands first here
abbrev pub end_of : ℕ → List OpenLabel → ℕ
end_of label [] = 0
end_of label (one ∷ before) =
    if label == one.label then suc (length before) else end_of label before

-- each label has the end of the last one before it that is the same
abbrev pub HaveFormer : List OpenLabel → Type 0
HaveFormer [] = Unit {0}
HaveFormer (one ∷ before) = (one.former ≡ end_of one.label before) × HaveFormer before

-- these are the ends of all labels, by their numbers
abbrev pub AreEnds : List OpenLabel → List ℕ → Type 0
AreEnds labels ends = ((label : ℕ) → slice_index_or ends label 0 ≡ end_of label (reverse labels))
    × HaveFormer (reverse labels)

former_prop : (labels : List OpenLabel) → IsProp (HaveFormer labels)
former_prop [] = Unit-prop
former_prop (one ∷ before) = ×_prop (hlevel props) (former_prop before)

pub ends_prop : (labels : List OpenLabel) (ends : List ℕ) → IsProp (AreEnds labels ends)
ends_prop labels ends = ×_prop (hlevel props) (former_prop (reverse labels))
