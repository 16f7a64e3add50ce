use Rattle.cd_model.specs.Interfaces.{admits}
use Rattle.cd_model.proofs.NamesAlike.{enough_for_elements, enough_for_values}
use Rattle.cd_model.proofs.laws.names_are_enough.Goals as goal

pub returns-clause-elements : goal.returns-clause-elements
returns-clause-elements c type more is answer guarded fits = enough_for_elements type guarded more is answer fits

pub returns-clause-values : goal.returns-clause-values
returns-clause-values c type more interfaces is answer guarded fits =
    enough_for_values type guarded (admits interfaces) more is answer fits
