-- Parts that are all characters are one run of them, and any others are written in brackets.
use Rattle.std.proofs.Common.{◌≡◌, ℕ, ◌<◌, Option, None, Some, List, [], ◌∷◌, ◌++◌, length, refl, ap, sym, ◌∙◌, arith}
use Rattle.std.specs.Prelude.{codes}
use Rattle.std.specs.Option.{option_map}
use Rattle.cd_model.specs.Canonical.{Part, Letter, Other, Piece, Run, Alone, pieces_of, pieces_with, sequence_text}
use Rattle.cd_model.specs.Canonical.{double_quoted}
use Rattle.cd_elements.specs.Inner.Looks.{letters_of}
use Rattle.cd_elements.specs.Inner.Sequences.{pieces_text}

-- a character before a run
run_more : (c : ℕ) (characters : List ℕ) (found : Option (List ℕ)) (pieces : List Piece)
    → Some characters ≡ option_map (λ others. c ∷ others) found
    → ((others : List ℕ) → Some others ≡ found → pieces ≡ Run others ∷ [])
    → pieces_with (Letter c) pieces ≡ Run characters ∷ []
run_more c characters None pieces are run = cc
run_more c characters (Some others) pieces are run =
    let same : characters ≡ c ∷ others = cc in
    ap (pieces_with (Letter c)) (run others refl) ∙ ap (λ all. Run all ∷ []) (sym same)

one_run : (parts : List Part) (characters : List ℕ) → 0 < length parts → Some characters ≡ letters_of parts
    → pieces_of parts ≡ Run characters ∷ []
one_run [] characters some are = absurd (omega arith)
one_run (Other text ∷ parts) characters some are = cc
one_run (Letter c ∷ []) characters some are = let same : characters ≡ c ∷ [] = cc in ap (λ all. Run all ∷ []) (sym same)
one_run (Letter c ∷ part ∷ parts) characters some are =
    run_more c characters (letters_of (part ∷ parts)) (pieces_of (part ∷ parts)) are
    (λ others is. one_run (part ∷ parts) others (omega arith) is)

pub letters_alone : (parts : List Part) (characters : List ℕ) → 0 < length parts → Some characters ≡ letters_of parts
    → sequence_text (pieces_of parts) ≡ double_quoted characters
letters_alone parts characters some are = ap sequence_text (one_run parts characters some are)

-- one of the pieces is no run
abbrev HasOther : List Piece → Type 0
HasOther [] = ⊥
HasOther (Run characters ∷ pieces) = HasOther pieces
HasOther (Alone text ∷ pieces) = Unit {0}

in_brackets : (pieces : List Piece) → HasOther pieces → sequence_text pieces ≡ codes "[" ++ pieces_text pieces ++ codes "]"
in_brackets [] has = elim has [ ]
in_brackets (Run characters ∷ []) has = elim has [ ]
in_brackets (Run characters ∷ piece ∷ pieces) has = refl
in_brackets (Alone text ∷ pieces) has = refl

other_with : (c : ℕ) (pieces : List Piece) → HasOther pieces → HasOther (pieces_with (Letter c) pieces)
other_with c [] has = has
other_with c (Run characters ∷ pieces) has = has
other_with c (Alone text ∷ pieces) has = has

-- a character before parts of which one is none
none_left : (c : ℕ) (found : Option (List ℕ)) → None ≡ option_map (λ others. c ∷ others) found → None ≡ found
none_left c None none = refl
none_left c (Some others) none = cc

has_other : (parts : List Part) → None ≡ letters_of parts → HasOther (pieces_of parts)
has_other [] none = cc
has_other (Letter c ∷ parts) none = other_with c (pieces_of parts) (has_other parts (none_left c (letters_of parts) none))
has_other (Other text ∷ parts) none = tt

pub not_all_letters : (parts : List Part) → None ≡ letters_of parts
    → sequence_text (pieces_of parts) ≡ codes "[" ++ pieces_text (pieces_of parts) ++ codes "]"
not_all_letters parts none = in_brackets (pieces_of parts) (has_other parts none)
