-- What is said of how a run ended.
use Rattle.std.specs.Prelude.{encode_utf8_all}
use Rattle.cd_model.specs.Thing.{Thing}
use Rattle.cd_model.specs.Canonical.{canonical}
use Rattle.cd_evaluation.specs.Runs.{Outcome, Done, Raised, Overflow, Spent}
use Rattle.cd_replies.specs.Bytes.{Bytes}
use Rattle.cd_replies.specs.Reply as reply
use Rattle.cd_replies.specs.Reply.{Reply}

-- the canonical text of a value
abbrev pub text_of : Thing → Bytes
text_of v = encode_utf8_all (canonical v)

-- the reply reports the outcome; none reports that a run is stuck
pub data Reports : Outcome → Reply → Type 0 where
  done : (v : Thing) → Reports (Done v) (reply.printed (text_of v))
  raised : (v : Thing) → Reports (Raised v) (reply.uncaught (text_of v))
  overflow : Reports Overflow reply.overflow
  spent : Reports Spent reply.spent
