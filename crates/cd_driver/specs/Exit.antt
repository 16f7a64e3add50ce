-- How the process exits.
use Rattle.std.specs.Prelude.{◌≡◌, List}
use Rattle.std.specs.Process.{exit_status}
use Rattle.std.specs.declared.process.ExitCode.{ExitCode}
use Rattle.cd_base.specs.declared.status.Status.{Status}
use Rattle.cd_base.specs.Status.{status_number}
use Rattle.cd_replies.specs.Bytes.{Bytes}
use Rattle.cd_driver.specs.Outside.{Outside}
use Rattle.cd_driver.specs.Ending.{Completes}
use Rattle.cd_driver.specs.Headline.{Headline}
use Rattle.cd_driver.specs.Causes.{Cause}

-- the process exits with the number of the status that the call on these words completes with
pub record Exits (words : List Bytes) (before after : Outside) (code : ExitCode) : Type 0 where
  pub status : Status
  pub completes : Completes words before after status
  pub headline : Headline words before after status
  pub cause : Cause words before after status
  pub number : exit_status code ≡ status_number status
