use Rattle.cd_model.specs.Interfaces.{admits}
use Rattle.cd_model.proofs.BothWays.{itself}
use Rattle.cd_model.proofs.Extending.{kept_elements, kept_formulas, kept_values, kept_value_formulas, admit_same}
use Rattle.cd_model.specs.Interfaces.{OfNodes}
use Rattle.std.proofs.Common.{◌++◌}
use Rattle.cd_model.proofs.laws.extension_keeps.Goals as goal

pub returns-clause-elements : goal.returns-clause-elements
returns-clause-elements c graph more is id answer sound below = kept_elements graph more sound is id answer below

pub returns-clause-values : goal.returns-clause-values
returns-clause-values c graph more interfaces is id answer sound below =
    kept_values graph more sound (admits interfaces) (admits interfaces) (λ function pairs sound. itself) is id answer below

pub returns-clause-formulas : goal.returns-clause-formulas
returns-clause-formulas c graph more is form answer sound sound_form = kept_formulas graph more sound is form answer sound_form

pub returns-clause-value_formulas : goal.returns-clause-value_formulas
returns-clause-value_formulas c graph more interfaces is form answer sound sound_form =
    kept_value_formulas graph more sound (admits interfaces) (admits interfaces) (λ function pairs sound. itself) is form answer sound_form

pub returns-clause-arrows : goal.returns-clause-arrows
returns-clause-arrows c graph more arrows is id answer sound arrows_below below =
    kept_values graph more sound (admits (OfNodes graph arrows)) (admits (OfNodes (graph ++ more) arrows))
    (admit_same graph more sound arrows arrows_below) is id answer below
