-- What each reply to a command is.
use Rattle.std.proofs.Common.{◌≡◌, [], ◌∷◌, ◌++◌}
use Rattle.std.specs.Prelude.{codes}
use Rattle.cd_base.specs.declared.status.Status.TheVariants.{WriteFault}
use Rattle.cd_syntax.specs.declared.fault.TextFault.TheVariants.{BadChar, OpenText, OpenComment}
use Rattle.cd_syntax.specs.declared.fault.TextFault.TheVariants.{TooWide, Syntax, TooDeep}
use Rattle.cd_replies.specs.Bytes.{Bytes}
use Rattle.cd_replies.specs.declared.refusal.Refusal.{Refusal}
use Rattle.cd_replies.specs.declared.refusal.Refusal.TheVariants.{Text, Naming}
use Rattle.cd_replies.specs.Reply.{Reply, line, refusal}
use Rattle.cd_replies.specs.Disk.{Disk, FileRefusal, unread, large, encoding, refused}

-- it has a text, and its status isn't that of a failed write
pub record IsReply (reply : Reply) : Type 0 where
  pub text : reply.out ≡ [] → reply.err ≡ [] → ⊥
  pub status : reply.status ≡ WriteFault → ⊥

-- a line has a line feed
pub line_some : (text : Bytes) → line text ≡ [] → ⊥
line_some [] none = cc
line_some (c ∷ cs) none = cc

pub refusal_is_reply : (origin text : Bytes) (found : Refusal) → IsReply (refusal origin text found)
refusal_is_reply origin text (Text (BadChar place)) = record { text = λ out err. line_some _ err; status = λ is. cc }
refusal_is_reply origin text (Text (OpenText place)) = record { text = λ out err. line_some _ err; status = λ is. cc }
refusal_is_reply origin text (Text (OpenComment place)) = record { text = λ out err. line_some _ err; status = λ is. cc }
refusal_is_reply origin text (Text (TooWide place)) = record { text = λ out err. line_some _ err; status = λ is. cc }
refusal_is_reply origin text (Text (Syntax place)) = record { text = λ out err. line_some _ err; status = λ is. cc }
refusal_is_reply origin text (Text (TooDeep place)) = record { text = λ out err. line_some _ err; status = λ is. cc }
refusal_is_reply origin text (Naming fault name at) = record { text = λ out err. line_some _ err; status = λ is. cc }

pub file_is_reply : (refuses : Bytes → Refusal → Type 0) (disk : Disk) (name : Bytes) (reply : Reply) → FileRefusal refuses disk name reply → IsReply reply
file_is_reply refuses disk name _ (unread is) = record { text = λ out err. line_some (codes "cannot read " ++ name) err; status = λ is. cc }
file_is_reply refuses disk name _ (large bytes has is) = record { text = λ out err. line_some (name ++ codes ": too large") err; status = λ is. cc }
file_is_reply refuses disk name _ (encoding bytes has size is) = record { text = λ out err. line_some _ err; status = λ is. cc }
file_is_reply refuses disk name _ (refused text has found stands) = refusal_is_reply name text found
