-- What a look at a value tells of its text.
use Rattle.std.specs.Prelude.{◌≡◌, ◌<◌, ℕ, Bool, true, false, List, [], ◌∷◌, Option, None, Some}
use Rattle.std.specs.Prelude.{codes}
use Rattle.cd_model.specs.Canonical.{Text, Part, Letter, Other, Spine}
use Rattle.cd_cells.specs.declared.cell.ValueId.{ValueId}
use Rattle.cd_cells.specs.declared.values.Values.{Values}
use Rattle.cd_print.specs.declared.look.Along.{Along}
use Rattle.cd_print.specs.declared.look.Along.TheVariants as along
use Rattle.cd_print.specs.declared.spine.Form.{Form}
use Rattle.cd_print.specs.declared.spine.Form.TheVariants as form
use Rattle.cd_print.specs.Inner.Texts.{text_at, spine_at}

-- a part that is this character, if there is one, and else another value
abbrev pub part_by : Option ℕ → Text → Part
part_by (Some c) text = Letter c
part_by None text = Other text

abbrev pub spine_with : Part → Spine → Spine
spine_with part spine = record { parts = part ∷ spine.parts; end = spine.end }

-- how the pairs along the right go on at a value
abbrev pub GoesOn : Values → ValueId → Along → Type 0
GoesOn values id (along.Letter c rest) =
    spine_at values id ≡ spine_with (Letter c) (spine_at values rest)
GoesOn values id (along.Item first rest) =
    spine_at values id ≡ spine_with (Other (text_at values first)) (spine_at values rest)
GoesOn values id along.Nil = (spine_at values id ≡ record { parts = []; end = None })
    × (text_at values id ≡ codes "[]")
GoesOn values id along.End =
    spine_at values id ≡ record { parts = []; end = Some (text_at values id) }

-- they go on by a value with a lower number
abbrev pub IsLower : Along → ValueId → Type 0
IsLower (along.Letter c rest) id = rest.0 < id.0
IsLower (along.Item first rest) id = rest.0 < id.0
IsLower _ id = Unit {0}

-- how pairs are written where those before were all of characters, or not
abbrev pub form_after : (letters : Bool) (others : List Part) (end : Option Text) → Form
form_after letters others (Some end) = form.Tuple
form_after true [] None = form.Text
form_after true (part ∷ parts) None = form.Sequence
form_after false others None = form.Sequence

abbrev pub form_of : (others : List Part) (end : Option Text) → Form
form_of = form_after true
