-- What is said where a program has no types.
use Rattle.std.specs.Prelude.{◌≡◌, List, encode_utf8_all}
use Rattle.cd_model.specs.Canonical.{canonical}
use Rattle.cd_model.specs.Thing.{Thing, IsElement}
use Rattle.cd_elements.specs.Table.{Names, element_at}
use Rattle.cd_typing.specs.RuleTexts.{text_of}
use Rattle.cd_check.specs.declared.fault.CheckError.{CheckError}
use Rattle.cd_check.specs.declared.fault.CheckError.TheVariants.{IllTyped, Memory}
use Rattle.cd_replies.specs.Bytes.{Bytes}
use Rattle.cd_replies.specs.Reply as reply
use Rattle.cd_replies.specs.Reply.{Reply}

-- the element is one of the table
abbrev pub IsNamed : List Thing → CheckError → Type 0
IsNamed table (IllTyped fault) = Names table fault.element
IsNamed table Memory = Unit {0}

-- the place, the rule and the element are said, and the element is one of the model; nothing is
-- said where memory ran out
abbrev pub IsSaid : (file text : Bytes) → List Thing → CheckError → Reply → Type 0
IsSaid file text table (IllTyped fault) said = IsElement (element_at table fault.element)
    × (said ≡ reply.ill_typed file text fault.at (text_of fault.rule)
    (encode_utf8_all (canonical (element_at table fault.element))))
IsSaid file text table Memory said = ⊥
