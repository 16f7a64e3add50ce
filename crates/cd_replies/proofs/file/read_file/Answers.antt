use Rattle.std.proofs.Common.{sym}
use Rattle.std.proofs.lemmas.Result.{err_from_is_err_and}
use Rattle.std.proofs.lemmas.Str.{IsUtf8-string_bytes}
use Rattle.cd_replies.proofs.FilesEncountered.{no_bytes}
use Rattle.cd_replies.proofs.file.read_file.Goals as goal

-- the bytes were not read
pub returns-in_err-bytes : goal.returns-in_err-bytes
returns-in_err-bytes g c =
    let is = err_from_is_err_and c.from_residual.result c.from_residual.ensures.1 in
    rw (is.1, is.2) (no_bytes _ _ c.args.name.now c.in_err-bytes.field-0.0 c.in_err-bytes.ensures)

-- they are a text
pub returns-in-Ok : goal.returns-in-Ok
returns-in-Ok g c =
    let bytes = rw (sym c.in-Ok.ensures.ok) at c.in_ok-bytes.ensures in
    (bytes.0, bytes.1, bytes.2, IsUtf8-string_bytes c.in-Ok.text)
