-- How a sequence is written from its end: what is put before the parts that are put. The quote
-- before a run of characters is put when it is known that the run is whole.
use Rattle.std.specs.Prelude.{List, [], ◌∷◌, ◌++◌, map, codes}
use Rattle.cd_model.specs.Canonical.{Text, Part, Letter, Other, Piece, Run, Alone, escaped, joined}
use Rattle.cd_model.specs.Canonical.{piece_text}
use Rattle.cd_elements.specs.declared.sequence.Edge.{Edge}
use Rattle.cd_elements.specs.declared.sequence.Edge.TheVariants as edge

-- what stands between a part that is no character and the rest
abbrev pub separator : Edge → Text
separator edge.Nothing = []
separator edge.Run = codes " '"
separator edge.Other = codes " "

-- what stands between a character and the rest
abbrev pub closing : Edge → Text
closing edge.Nothing = codes "'"
closing edge.Run = []
closing edge.Other = codes "' "

-- the quote that is not put yet
abbrev pub opening : Edge → Text
opening edge.Nothing = []
opening edge.Run = codes "'"
opening edge.Other = []

-- a part and what stands between it and the rest
abbrev pub before_rest : Edge → Part → Text
before_rest at (Letter c) = escaped 39 c ++ closing at
before_rest at (Other text) = text ++ separator at

-- what the parts begin with after that
abbrev pub edge_after : Part → Edge
edge_after (Letter c) = edge.Run
edge_after (Other text) = edge.Other

abbrev pub edge_of : List Piece → Edge
edge_of [] = edge.Nothing
edge_of (Run characters ∷ pieces) = edge.Run
edge_of (Alone text ∷ pieces) = edge.Other

-- the pieces of a sequence, with spaces between
abbrev pub pieces_text : List Piece → Text
pieces_text pieces = joined (codes " ") (map piece_text pieces)
