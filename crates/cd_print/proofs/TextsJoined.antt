-- Texts in a row, and what stands after them.
use Rattle.std.proofs.Common.{◌≡◌, ◌∙◌, List, [], ◌∷◌, ◌++◌, refl, ap, append_assoc}
use Rattle.std.specs.List.{flat_map}
use Rattle.cd_model.specs.Canonical.{Text, joined}

-- the text between stands before each, and a last text after all
abbrev pub after : Text → List Text → Text → Text
after between [] rest = rest
after between (text ∷ texts) rest = between ++ (text ++ after between texts rest)

later : (between : Text) (texts : List Text) (rest : Text) → flat_map (λ text. between ++ text) texts ++ rest ≡ after between texts rest
later between [] rest = refl
later between (text ∷ texts) rest =
    append_assoc (between ++ text) (flat_map (λ t. between ++ t) texts) rest
    ∙ append_assoc between text (flat_map (λ t. between ++ t) texts ++ rest)
    ∙ ap (λ t. between ++ (text ++ t)) (later between texts rest)

pub joined_after : (between text : Text) (texts : List Text) (rest : Text)
    → joined between (text ∷ texts) ++ rest ≡ text ++ after between texts rest
joined_after between text texts rest =
    append_assoc text (flat_map (λ t. between ++ t) texts) rest ∙ ap (λ t. text ++ t) (later between texts rest)
