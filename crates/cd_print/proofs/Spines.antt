-- Spines of pairs as they are written from their head.
use Rattle.std.proofs.Common.{◌≡◌, ℕ, ◌<◌, List, [], ◌∷◌, ◌++◌, Option, None, Some, length, map, refl, ap, sym, ◌∙◌, subst}
use Rattle.std.proofs.Common.{append_assoc, arith}
use Rattle.std.specs.Prelude.{codes}
use Rattle.std.specs.Option.{option_map}
use Rattle.std.specs.List.{flat_map}
use Rattle.cd_model.specs.Canonical.{Text, Part, Letter, Other, Piece, Run, Alone, pieces_of, pieces_with, piece_text}
use Rattle.cd_model.specs.Canonical.{part_text, joined, spine_text, quoted}
use Rattle.cd_elements.specs.Inner.Looks.{letters_of}
use Rattle.cd_elements.proofs.Letters.{letters_alone, not_all_letters}
use Rattle.cd_print.specs.declared.spine.Form.TheVariants as form
use Rattle.cd_print.specs.Inner.Texts.{letters, others, enclosed, items_text, after_item, parts_text, after_part, end_text}
use Rattle.cd_print.specs.Inner.Looks.{form_of}

-- characters between two quotes
quoted_is : (quote : ℕ) (characters : List ℕ) → quoted quote characters ≡ enclosed quote characters
quoted_is quote [] = refl
quoted_is quote (c ∷ characters) = refl

-- pieces, each after a space, and the bracket
abbrev more_pieces : List Piece → Text
more_pieces pieces = flat_map (λ text. codes " " ++ text) (map piece_text pieces) ++ codes "]"

first_piece : (part : Part) (pieces : List Piece)
    → codes " " ++ (joined (codes " ") (map piece_text (pieces_with part pieces)) ++ codes "]")
    ≡ more_pieces (pieces_with part pieces)
first_piece (Letter c) [] = refl
first_piece (Letter c) (Run characters ∷ pieces) = refl
first_piece (Letter c) (Alone text ∷ pieces) = refl
first_piece (Other text) pieces = refl

left_after : (parts : List Part) → after_item parts ≡ more_pieces (pieces_of parts)
left_after [] = refl
left_after (part ∷ parts) = first_piece part (pieces_of parts)

-- characters that a spine begins with are one piece
run_first : (c : ℕ) (parts : List Part) → pieces_of (Letter c ∷ parts) ≡ Run (c ∷ letters parts) ∷ pieces_of (others parts)
run_first c [] = refl
run_first c (Letter d ∷ parts) = ap (pieces_with (Letter c)) (run_first d parts)
run_first c (Other text ∷ parts) = refl

-- an item, and what stands after it
pub item_first : (text : Text) (parts : List Part) → items_text (Other text ∷ parts) ≡ text ++ after_item parts
item_first text parts =
    append_assoc text (flat_map (λ one. codes " " ++ one) (map piece_text (pieces_of parts))) (codes "]")
    ∙ ap (λ rest. text ++ rest) (sym (left_after parts))

letters_item : (c : ℕ) (parts : List Part)
    → items_text (Letter c ∷ parts) ≡ enclosed 39 (letters (Letter c ∷ parts)) ++ after_item (others parts)
letters_item c parts =
    let quoted = enclosed 39 (letters (Letter c ∷ parts)) in
    let pieces = pieces_of (others parts) in
    ap (λ all. joined (codes " ") (map piece_text all) ++ codes "]") (run_first c parts)
    ∙ append_assoc quoted (flat_map (λ one. codes " " ++ one) (map piece_text pieces)) (codes "]")
    ∙ ap (λ rest. quoted ++ rest) (sym (left_after (others parts)))

pub letters_first : (parts more : List Part) (c : ℕ) → parts ≡ Letter c ∷ more
    → items_text parts ≡ enclosed 39 (letters parts) ++ after_item (others parts)
letters_first parts more c is =
    subst (λ all. items_text all ≡ enclosed 39 (letters all) ++ after_item (others all)) (sym is) (letters_item c more)

-- a spine of characters alone, and one with another part
all_letters : (parts : List Part) → others parts ≡ [] → Some (letters parts) ≡ letters_of parts
all_letters [] none = refl
all_letters (Letter c ∷ parts) none = ap (option_map (λ characters. c ∷ characters)) (all_letters parts none)
all_letters (Other text ∷ parts) none = cc

not_letters : (parts more : List Part) (part : Part) → others parts ≡ part ∷ more → None ≡ letters_of parts
not_letters [] more part some = cc
not_letters (Letter c ∷ parts) more part some =
    ap (option_map (λ characters. c ∷ characters)) (not_letters parts more part some)
not_letters (Other text ∷ parts) more part some = refl

-- how a spine is written by its form
module _ (parts : List Part) (some : 0 < length parts) where
  text_form : (rest : List Part) (end : Option Text) → others parts ≡ rest → form.Text ≡ form_of rest end
      → spine_text parts end ≡ enclosed 34 (letters parts)
  text_form rest (Some end) is found = cc
  text_form (part ∷ rest) None is found = cc
  text_form [] None is found = letters_alone parts (letters parts) some (all_letters parts is) ∙ quoted_is 34 (letters parts)

  sequence_form : (rest : List Part) (end : Option Text) → others parts ≡ rest → form.Sequence ≡ form_of rest end
      → spine_text parts end ≡ codes "[" ++ items_text parts
  sequence_form rest (Some end) is found = cc
  sequence_form [] None is found = cc
  sequence_form (part ∷ rest) None is found = not_all_letters parts (not_letters parts rest part is)

  pub text_spine : (end : Option Text) → form.Text ≡ form_of (others parts) end
      → spine_text parts end ≡ enclosed 34 (letters parts)
  text_spine end = text_form (others parts) end refl

  pub sequence_spine : (end : Option Text) → form.Sequence ≡ form_of (others parts) end
      → spine_text parts end ≡ codes "[" ++ items_text parts
  sequence_spine end = sequence_form (others parts) end refl

parts_after : (parts : List Part) (end : Text)
    → flat_map (λ text. codes ", " ++ text) (map part_text parts) ++ (codes ", " ++ (end ++ codes ")")) ≡ after_part parts end
parts_after [] end = refl
parts_after (part ∷ parts) end =
    let rest = flat_map (λ text. codes ", " ++ text) (map part_text parts) in
    ap (λ (text : Text). codes ", " ++ text) (append_assoc (part_text part) rest (codes ", " ++ (end ++ codes ")")))
    ∙ ap (λ (text : Text). codes ", " ++ (part_text part ++ text)) (parts_after parts end)

pub tuple_spine : (parts : List Part) (end : Option Text) → 0 < length parts → form.Tuple ≡ form_of (others parts) end
    → spine_text parts end ≡ codes "(" ++ parts_text parts (end_text end)
tuple_spine [] end some found = absurd (omega arith)
tuple_spine (part ∷ parts) (Some end) some found =
    simp append_assoc (ap (λ (text : Text). codes "(" ++ (part_text part ++ text)) (parts_after parts end))
tuple_spine (part ∷ parts) None some found = no_tuple (others (part ∷ parts)) found
  where
    no_tuple : {X : Type 0} (rest : List Part) → form.Tuple ≡ form_of rest None → X
    no_tuple [] found = absurd cc
    no_tuple (part ∷ rest) found = absurd cc
