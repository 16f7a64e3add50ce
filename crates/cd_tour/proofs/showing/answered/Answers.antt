use Rattle.std.proofs.Common.{◌≡◌, map, rules}
use Rattle.cd_base.specs.declared.status.Status.TheVariants.{WriteFault, NoMemory}
use Rattle.cd_driver.specs.Command.{texts}
use Rattle.cd_tour.proofs.Whole.{is_whole}
use Rattle.cd_tour.proofs.showing.answered.Goals as goal

pub returns : goal.returns
returns g c =
    let same : texts c.as_slice.result.now ≡ map (λ word. word.now) c.args.words.now = search rules in
    let no_fault : c.cduce-status.result ≡ WriteFault → ⊥ = λ is. search rules in
    let some_memory : c.cduce-status.result ≡ NoMemory → ⊥ = λ is. search rules in
    is_whole _ _ same _ _ c.cduce-status.result c.cduce-status.ensures.complete no_fault some_memory
