-- The kinds of the code as kinds of the model.
use Rattle.std.specs.Prelude.{List, [], ◌∷◌}
use Rattle.cd_model.specs.Kinds as model
use Rattle.cd_normal.specs.declared.kind.Kind.{Kind}
use Rattle.cd_normal.specs.declared.kind.Kind.TheVariants.{Pair, Xml, Record, Function}

abbrev pub plain_kind : Kind → model.Kind
plain_kind Pair = model.APair
plain_kind Xml = model.AnXml
plain_kind Record = model.ARecord
plain_kind Function = model.AFunction

abbrev pub kinds : List Kind
kinds = Pair ∷ Xml ∷ Record ∷ Function ∷ []
