-- What a look at an element tells of its text.
use Rattle.std.specs.Prelude.{◌≡◌, ℕ, List, [], ◌∷◌, Option, None, Some, map}
use Rattle.std.specs.Option.{option_map}
use Rattle.cd_model.specs.Canonical.{Text, Part, Letter, Other, Spine as PlainSpine, printed}
use Rattle.cd_model.specs.Thing as thing
use Rattle.cd_model.specs.Thing.{Thing}
use Rattle.cd_elements.specs.declared.shape.ElementId.{ElementId}
use Rattle.cd_elements.specs.declared.look.Along.{Along}
use Rattle.cd_elements.specs.declared.look.Along.TheVariants.{Pair, Nil, End}
use Rattle.cd_elements.specs.declared.spine.Spine.{Spine}
use Rattle.cd_elements.specs.Table.{element_at}
use Rattle.cd_elements.specs.Inner.Tasks.{text_in, part_in}

-- a part that is this character, if there is one, and else another element
abbrev pub part_by : Option ℕ → Text → Part
part_by (Some c) text = Letter c
part_by None text = Other text

-- how the pairs along the right go on at an element
abbrev pub GoesOn : List Thing → ElementId → Along → Type 0
GoesOn table id (Pair first second) =
    element_at table id ≡ thing.Pair (element_at table first) (element_at table second)
GoesOn table id Nil = (printed (element_at table id)).spine ≡ record { parts = []; end = None }
GoesOn table id End = (printed (element_at table id)).spine
    ≡ record { parts = []; end = Some (text_in table id) }

-- a spine of the code as one of texts
abbrev pub spine_in : List Thing → Spine → PlainSpine
spine_in table spine = record {
  parts = map (part_in table) spine.firsts.items;
  end = option_map (text_in table) spine.end;
}

-- the characters that parts are, if all are characters
abbrev pub letters_of : List Part → Option (List ℕ)
letters_of [] = Some []
letters_of (Letter c ∷ parts) = option_map (λ characters. c ∷ characters) (letters_of parts)
letters_of (Other text ∷ parts) = None
