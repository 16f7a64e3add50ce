-- One more part before the pieces of a sequence.
use Rattle.std.proofs.Common.{◌≡◌, List, [], ◌∷◌, ◌++◌, map, refl, ap, ◌∙◌, append_assoc, append-nil}
use Rattle.std.specs.Prelude.{codes}
use Rattle.std.specs.List.{join_by, flat_map}
use Rattle.cd_model.specs.Canonical.{Text, Part, Letter, Other, Piece, Run, Alone, escaped, piece_text, pieces_with}
use Rattle.cd_model.specs.Canonical.{pieces_of}
use Rattle.cd_elements.specs.declared.sequence.Edge.{Edge}
use Rattle.cd_elements.specs.Inner.Sequences.{opening, before_rest, edge_after, edge_of, pieces_text}
use Rattle.cd_elements.proofs.Joining.{join_first}

pub edge_with : (part : Part) (pieces : List Piece) → edge_of (pieces_with part pieces) ≡ edge_after part
edge_with (Letter c) [] = refl
edge_with (Letter c) (Run characters ∷ pieces) = refl
edge_with (Letter c) (Alone text ∷ pieces) = refl
edge_with (Other text) pieces = refl

-- the pieces after the first
abbrev more : List Piece → Text
more pieces = flat_map (λ text. codes " " ++ text) (map piece_text pieces)

-- what is put comes to the pieces and what stands after them
pub text_with : (part : Part) (pieces : List Piece) (put rest : Text)
    → opening (edge_of pieces) ++ put ≡ pieces_text pieces ++ rest
    → opening (edge_after part) ++ (before_rest (edge_of pieces) part ++ put) ≡ pieces_text (pieces_with part pieces) ++ rest
text_with (Letter c) [] put rest same =
    let h : put ≡ rest = same in
    simp (append_assoc, append-nil) (ap (λ p. 39 ∷ (escaped 39 c ++ (39 ∷ p))) h)
text_with (Letter c) (Run characters ∷ pieces) put rest same =
    let h : put ≡ join_by (escaped 39) [] characters ++ codes "'" ++ more pieces ++ rest = cc in
    let first = join_first (escaped 39) c characters in
    simp (append_assoc, first) (ap (λ p. 39 ∷ (escaped 39 c ++ p)) (simp append_assoc at h))
text_with (Letter c) (Alone text ∷ pieces) put rest same =
    let h : put ≡ text ++ more pieces ++ rest = same in
    simp (append_assoc, append-nil) (ap (λ p. 39 ∷ (escaped 39 c ++ (39 ∷ (32 ∷ p)))) (simp append_assoc at h))
text_with (Other one) [] put rest same =
    let h : put ≡ rest = same in
    simp append-nil (ap (λ p. one ++ p) h)
text_with (Other one) (Run characters ∷ pieces) put rest same =
    let h : put ≡ join_by (escaped 39) [] characters ++ codes "'" ++ more pieces ++ rest = cc in
    simp append_assoc (ap (λ p. one ++ (32 ∷ (39 ∷ p))) (simp append_assoc at h))
text_with (Other one) (Alone text ∷ pieces) put rest same =
    let h : put ≡ text ++ more pieces ++ rest = same in
    simp append_assoc (ap (λ p. one ++ (32 ∷ p)) (simp append_assoc at h))

-- the parts from an index on, where the part before it is put
pub parts_with : (parts : List Part) (part : Part) (at : Edge) (put old rest : Text) → at ≡ edge_of (pieces_of parts)
    → opening (edge_of (pieces_of parts)) ++ old ≡ pieces_text (pieces_of parts) ++ rest → put ≡ before_rest at part ++ old
    → opening (edge_of (pieces_of (part ∷ parts))) ++ put ≡ pieces_text (pieces_of (part ∷ parts)) ++ rest
parts_with parts part at put old rest at_is same put_is =
    let pieces = pieces_of parts in
    let whole : put ≡ before_rest (edge_of pieces) part ++ old = put_is ∙ ap (λ one. before_rest one part ++ old) at_is in
    ap (λ one. opening one ++ put) (edge_with part pieces) ∙ ap (λ one. opening (edge_after part) ++ one) whole
    ∙ text_with part pieces old rest same
