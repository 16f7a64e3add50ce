-- Messages that are replies.
use Rattle.std.proofs.Common.{◌≡◌, ℕ, List, Result, Ok, Err, sym, ap, subst, ◌∙◌}
use Rattle.std.specs.Prelude.{IfOk, encode_utf8_all}
use Rattle.std.specs.Str.{chars, IsUtf8}
use Rattle.std.proofs.lemmas.Str.{encodes-chars}
use Rattle.std.specs.declared.alloc.AllocError.{AllocError}
use Rattle.cd_replies.specs.Bytes.{Bytes}
use Rattle.cd_replies.specs.Refusals.{IfRefused}
use Rattle.cd_replies.specs.Reply.{Reply, refusal}
use Rattle.cd_replies.specs.declared.message.Message.{Message}
use Rattle.cd_replies.specs.declared.refusal.Refusal.{Refusal}
use Rattle.cd_replies.specs.declared.refusal.RefusalError.{RefusalError}
use Rattle.cd_replies.specs.declared.refusal.RefusalError.TheVariants.{Refused, Memory}
use Rattle.cd_replies.specs.Message.{reply_of, IsSaidOfText}

-- a message that is a reply has what the reply has
pub replies : (r : Result Message AllocError) (reply : Reply) (P : Reply → Type 0) → IfOk r (λ message. reply_of message ≡ reply) → P reply → IfOk r (λ message. P (reply_of message))
replies (Ok message) reply P is has = subst P (sym is) has
replies (Err error) reply P is has = tt

-- of want of memory there is no message
pub nothing_said : (r : Result Message AllocError) (P : Reply → Type 0) → IfOk r (λ message. ⊥) → IfOk r (λ message. P (reply_of message))
nothing_said (Ok message) P none = absurd none
nothing_said (Err error) P none = tt

-- what is said of a text that was not read has what each refusal of it has
pub refusal_replies : (r : Result Message AllocError) (origin text : Bytes) (error : RefusalError) (such : Refusal → Type 0) (P : Reply → Type 0)
    → IfOk r (λ message. IsSaidOfText origin text error (reply_of message)) → IfRefused error such
    → ((found : Refusal) → such found → P (refusal origin text found)) → IfOk r (λ message. P (reply_of message))
refusal_replies r origin text (Refused found) such P said is leads = replies r (refusal origin text found) P said (leads found is)
refusal_replies r origin text Memory such P said is leads = nothing_said r P said

-- the bytes of a text are those that encode its characters
pub encoded : (bytes name : List ℕ) → IsUtf8 bytes → chars bytes ≡ name → bytes ≡ encode_utf8_all name
encoded bytes name is same = sym (encodes-chars bytes is) ∙ ap encode_utf8_all same
