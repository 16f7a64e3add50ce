-- The canonical text of a sequence without characters: the texts of its items, with spaces between.
use Rattle.std.proofs.Common.{◌≡◌, ◌∙◌, List, [], ◌∷◌, ◌++◌, None, map, refl, sym, ap, append_assoc, append-nil}
use Rattle.std.specs.Prelude.{codes}
use Rattle.std.specs.List.{flat_map}
use Rattle.cd_model.specs.Thing.{Thing}
use Rattle.cd_model.specs.Canonical.{Text, Part, Other, Piece, Alone, piece_text, pieces_of, Spine, spine_text, printed, canonical}
use Rattle.cd_matching.specs.Sequences.{sequence_of}
use Rattle.cd_running.specs.Workload.{spaced}

-- these things have these texts, and none is a character
pub data AreWritten : List Thing → List Text → Type 0 where
  nothing : AreWritten [] []
  one : (first : Thing) (text : Text) (rest : List Thing) (texts : List Text) → (printed first).part ≡ Other text
      → AreWritten rest texts → AreWritten (first ∷ rest) (text ∷ texts)

-- what stands along the right of the sequence
spine_is : (things : List Thing) (texts : List Text) → AreWritten things texts
    → (printed (sequence_of things)).spine ≡ record { parts = map Other texts; end = None }
spine_is _ _ nothing = refl
spine_is _ _ (one first text rest texts part are) =
    ap (λ (part : Part). record { parts = part ∷ (printed (sequence_of rest)).spine.parts; end = (printed (sequence_of rest)).spine.end }) part
    ∙ ap (λ (spine : Spine). record { parts = Other text ∷ spine.parts; end = spine.end }) (spine_is rest texts are)

-- no piece is a run of characters
pieces_are : (texts : List Text) → pieces_of (map Other texts) ≡ map Alone texts
pieces_are [] = refl
pieces_are (text ∷ texts) = ap (λ pieces. Alone text ∷ pieces) (pieces_are texts)

texts_are : (texts : List Text) → map piece_text (map Alone texts) ≡ texts
texts_are [] = refl
texts_are (text ∷ texts) = ap (λ rest. text ∷ rest) (texts_are texts)

-- a space before each text but the first, and a space between two texts
spaces_are : (text : Text) (texts : List Text) → text ++ flat_map (λ next. codes " " ++ next) texts ≡ spaced (text ∷ texts)
spaces_are text [] = append-nil text
spaces_are text (next ∷ rest) =
    let others = flat_map (λ next. codes " " ++ next) rest in
    ap (λ more. text ++ more) (append_assoc (codes " ") next others) ∙ sym (append_assoc text (codes " ") (next ++ others))
    ∙ ap (λ more. text ++ codes " " ++ more) (spaces_are next rest)

spine_text_is : (text : Text) (texts : List Text) → spine_text (Other text ∷ map Other texts) None ≡ codes "[" ++ spaced (text ∷ texts) ++ codes "]"
spine_text_is text texts =
    ap (λ (pieces : List Piece). codes "[" ++ (text ++ flat_map (λ next. codes " " ++ next) (map piece_text pieces)) ++ codes "]") (pieces_are texts)
    ∙ ap (λ texts. codes "[" ++ (text ++ flat_map (λ next. codes " " ++ next) texts) ++ codes "]") (texts_are texts)
    ∙ ap (λ more. codes "[" ++ more ++ codes "]") (spaces_are text texts)

pub sequence_text_is : (things : List Thing) (texts : List Text) → AreWritten things texts
    → canonical (sequence_of things) ≡ codes "[" ++ spaced texts ++ codes "]"
sequence_text_is _ _ nothing = refl
sequence_text_is _ _ (one first text rest texts part are) =
    ap (λ (part : Part). spine_text (part ∷ (printed (sequence_of rest)).spine.parts) (printed (sequence_of rest)).spine.end) part
    ∙ ap (λ (spine : Spine). spine_text (Other text ∷ spine.parts) spine.end) (spine_is rest texts are)
    ∙ spine_text_is text texts
