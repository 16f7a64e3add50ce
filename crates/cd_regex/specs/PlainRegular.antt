-- The regular expressions of the code as plain data.
use Rattle.std.specs.Prelude.{List, map}
use Rattle.cd_regex.specs.Regular.{Regular, Regulars, Nothing, Item, Seq, Alt, Star, Plus, Opt}
use Rattle.cd_regex.specs.Regular.{regulars_of}
use Rattle.cd_regex.specs.declared.regular.Reg.TheOpen as layer
use Rattle.cd_regex.specs.declared.regular.Reg.{Reg, Reg-F, fold-Reg}
use Rattle.cd_regex.specs.declared.regular.Regs.{Regs, Regs-F, fold-Regs}

-- one layer of each, whose parts are plain
abbrev pub regular_layer : Reg-F Regular (List Regular) → Regular
regular_layer layer.Nothing = Nothing
regular_layer (layer.Item id) = Item id
regular_layer (layer.Seq all) = Seq (regulars_of all)
regular_layer (layer.Alt all) = Alt (regulars_of all)
regular_layer (layer.Star is) = Star is.value
regular_layer (layer.Plus is) = Plus is.value
regular_layer (layer.Opt is) = Opt is.value

abbrev pub list_layer : Regs-F Regular (List Regular) → List Regular
list_layer all = all.items.items

-- the plain data that each is
abbrev pub plain : Reg → Regular
plain = fold-Reg Regular (List Regular) regular_layer list_layer

abbrev pub plain_list : Regs → List Regular
plain_list = fold-Regs Regular (List Regular) regular_layer list_layer

abbrev pub plain_regulars : Regs → Regulars
plain_regulars all = regulars_of (plain_list all)

abbrev pub plain_all : List Reg → Regulars
plain_all items = regulars_of (map plain items)
