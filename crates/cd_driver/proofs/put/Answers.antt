use Rattle.cd_driver.specs.Inner.Delivering.{whole, refused, cut}
use Rattle.cd_driver.proofs.put.Goals as goal

pub returns-in-Ok : goal.returns-in-Ok
returns-in-Ok g c = whole (rw c.as_bytes.ensures.value at c.in-Ok.ensures.ok)

pub returns-in-Err-Failed : goal.returns-in-Err-Failed
returns-in-Err-Failed g c = refused (rw (c.in-Err-Failed.field-0-is, c.as_bytes.ensures.value) at c.in-Err-Failed.ensures.err)

pub returns-in-Err-Memory : goal.returns-in-Err-Memory
returns-in-Err-Memory g c = cut (rw (c.in-Err-Memory.field-0-is, c.as_bytes.ensures.value) at c.in-Err-Memory.ensures.err)
