use Rattle.std.proofs.Common.{◌≡◌, ◌∷◌, ◌++◌, [], List, None, ◌∙◌, sym, subst}
use Rattle.cd_facts.specs.Facts.{Fact}
use Rattle.cd_facts.specs.Inner.Known.{known}
use Rattle.indexmap.proofs.CallerLemmas.{insert_entry-new}
use Rattle.cd_facts.proofs.facts.Facts.add.Goals as goal

-- what was not known goes last
pub returns-clause-added : goal.returns-clause-added
returns-clause-added c =
    let unknown = subst (λ (facts : List Fact). known facts c.args.asked.id c.args.asked.node ≡ None) (sym c.self.view_is) c.requires in
    subst (λ (facts : List Fact). c.insert.new.self.entries ≡ facts ++ (c.args.asked, c.args.answer) ∷ []) c.self.view_is
    (c.in_ok-insert.ensures.entries ∙ insert_entry-new _ c.self.inside.answers c.args.asked c.args.answer unknown)
