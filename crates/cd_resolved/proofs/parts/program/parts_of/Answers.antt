use Rattle.std.proofs.Common.{ap, ◌∙◌}
use Rattle.std.proofs.lemmas.Result.{IfOk-weaker}
use Rattle.cd_program.specs.PlainProgram.{plain_program}
use Rattle.cd_resolved.proofs.PartsFound.{all_functions_found, all_patterns_found}
use Rattle.cd_resolved.proofs.SitesFound.{all_sites_found}
use Rattle.cd_resolved.proofs.parts.program.parts_of.Goals as goal

pub returns-clause-functions : goal.returns-clause-functions
returns-clause-functions c = IfOk-weaker c.collect.result _ _
    (λ parts is. ap (λ all. all.functions) is
    ∙ all_functions_found (plain_program c.args.program.now)) c.collect.ensures

pub returns-clause-patterns : goal.returns-clause-patterns
returns-clause-patterns c = IfOk-weaker c.collect.result _ _
    (λ parts is. ap (λ all. all.patterns) is
    ∙ all_patterns_found (plain_program c.args.program.now)) c.collect.ensures

pub returns-clause-sites : goal.returns-clause-sites
returns-clause-sites c = IfOk-weaker c.collect.result _ _
    (λ parts is. ap (λ all. all.sites) is
    ∙ all_sites_found (plain_program c.args.program.now)) c.collect.ensures
