-- A text stands for one value at most, or one thing stands against it.
use Rattle.std.proofs.Common.{◌≡◌, ℕ, List, [], inl, inr, ◌⊎◌, false, Some, None, Result, Ok, Err, Option, refl, ap, subst}
use Rattle.std.specs.Str.{chars}
use Rattle.cd_syntax.specs.declared.tokens.Token.{Token}
use Rattle.cd_syntax.specs.Tokens.{Lexes, bytes}
use Rattle.cd_model.specs.Interfaces.{OfNodes, admits}
use Rattle.cd_model.specs.Thing.{Thing}
use Rattle.cd_model.specs.Written.{Written, written, number_of_names, type_of}
use Rattle.cd_model.proofs.Apart.{value_apart}
use Rattle.cd_model.proofs.ApartAtWritten.{written_keeps}
use Rattle.cd_lex.proofs.ReadingIsOne.{one_list, one_fault, not_both as spelled_or_not}
use Rattle.cd_documents.specs.Document.{IsDocument}
use Rattle.cd_documents.specs.DocumentFaults.{IsWrongDocument, IsTooDeepDocument}
use Rattle.cd_documents.specs.Machine as machine
use Rattle.cd_documents.specs.Machine.{run, start, Fault}
use Rattle.cd_documents.specs.Reading.{most_open, WritesValue, IsWrongText, IsTooDeepText}
use Rattle.cd_documents.proofs.Completing.{reads}
use Rattle.cd_documents.proofs.OneValue.{one_value}
use Rattle.cd_documents.proofs.Refusing.{wrong_refused, deep_refused}
use Rattle.cd_replies.specs.Bytes.{Bytes}
use Rattle.cd_replies.specs.Reply.{refusal}
use Rattle.cd_replies.specs.declared.refusal.Refusal.{Refusal}
use Rattle.cd_replies.specs.declared.refusal.Refusal.TheVariants.{Text}
use Rattle.cd_replies.specs.Documents.{RefusesDocument, lexical, syntax, too_deep, IsValueIn, IsValueOutside}

-- what the machine makes of the tokens of a text
abbrev Outcome : List Token → Result (Option Thing) Fault
Outcome tokens = run most_open start tokens

-- tokens have a value, or a fault of one kind
wrong_or_deep : (tokens : List Token) (end p q : ℕ) → IsWrongDocument most_open tokens end p → IsTooDeepDocument most_open tokens end q → ⊥
wrong_or_deep tokens end p q wrong deep = by (wrong_refused most_open tokens end p wrong) (deep_refused most_open tokens end q deep)
  where
    by : (Outcome tokens ≡ Err (machine.Syntax p)) ⊎ ((Outcome tokens ≡ Ok None) × (p ≡ end)) → Outcome tokens ≡ Err (machine.TooDeep q) → ⊥
    by (inl is) is_deep = cc
    by (inr is) is_deep = let none = is.0 in cc

written_or_wrong : (tokens : List Token) (end p : ℕ) (v : Thing) → IsDocument most_open tokens v → IsWrongDocument most_open tokens end p → ⊥
written_or_wrong tokens end p v document wrong = by (wrong_refused most_open tokens end p wrong) (reads most_open tokens v document)
  where
    by : (Outcome tokens ≡ Err (machine.Syntax p)) ⊎ ((Outcome tokens ≡ Ok None) × (p ≡ end)) → Outcome tokens ≡ Ok (Some v) → ⊥
    by (inl is) is_read = cc
    by (inr is) is_read = let none = is.0 in cc

written_or_deep : (tokens : List Token) (end p : ℕ) (v : Thing) → IsDocument most_open tokens v → IsTooDeepDocument most_open tokens end p → ⊥
written_or_deep tokens end p v document deep =
    let is_read = reads most_open tokens v document in
    let is_deep = deep_refused most_open tokens end p deep in
    cc

-- a text has one list of tokens
module _ (text : Bytes) where
  same_tokens : (first second : List Token) → Lexes false 0 (chars text) first → Lexes false 0 (chars text) second → second ≡ first
  same_tokens first second spelled other = one_list (chars text) second first other spelled

  pub writes_one : (first second : Thing) → WritesValue (chars text) first → WritesValue (chars text) second → first ≡ second
  writes_one first second one other =
      one_value most_open one.tokens first second one.document
      (subst (λ ts. IsDocument most_open ts second) (same_tokens one.tokens other.tokens one.lexes other.lexes) other.document)

  pub writes_unrefused : (v : Thing) → WritesValue (chars text) v → (found : Refusal) → RefusesDocument text found → ⊥
  writes_unrefused v writes _ (lexical fault fails) = spelled_or_not (chars text) writes.tokens fault writes.lexes fails
  writes_unrefused v writes _ (syntax place is) =
      written_or_wrong writes.tokens (bytes (chars text)) place v writes.document
      (subst (λ ts. IsWrongDocument most_open ts (bytes (chars text)) place) (same_tokens writes.tokens is.tokens writes.lexes is.lexes) is.wrong)
  writes_unrefused v writes _ (too_deep place is) =
      written_or_deep writes.tokens (bytes (chars text)) place v writes.document
      (subst (λ ts. IsTooDeepDocument most_open ts (bytes (chars text)) place) (same_tokens writes.tokens is.tokens writes.lexes is.lexes) is.deep)

  unlike : (p q : ℕ) → IsWrongText (chars text) p → IsTooDeepText (chars text) q → ⊥
  unlike p q wrong deep =
      wrong_or_deep wrong.tokens (bytes (chars text)) p q wrong.wrong
      (subst (λ ts. IsTooDeepDocument most_open ts (bytes (chars text)) q) (same_tokens wrong.tokens deep.tokens wrong.lexes deep.lexes) deep.deep)

  -- what is said of what stands against it has one status
  pub one_document_refusal : (origin : Bytes) (a b : Refusal) → RefusesDocument text a → RefusesDocument text b
      → (refusal origin text a).status ≡ (refusal origin text b).status
  one_document_refusal origin _ _ (lexical a fails) (lexical b fails') =
      ap (λ fault. (refusal origin text (Text fault)).status) (one_fault (chars text) a b fails fails')
  one_document_refusal origin _ _ (lexical a fails) (syntax place is) = absurd (spelled_or_not (chars text) is.tokens a is.lexes fails)
  one_document_refusal origin _ _ (lexical a fails) (too_deep place is) = absurd (spelled_or_not (chars text) is.tokens a is.lexes fails)
  one_document_refusal origin _ _ (syntax place is) (lexical b fails) = absurd (spelled_or_not (chars text) is.tokens b is.lexes fails)
  one_document_refusal origin _ _ (syntax p is) (syntax q is') = refl
  one_document_refusal origin _ _ (syntax p is) (too_deep q is') = absurd (unlike p q is is')
  one_document_refusal origin _ _ (too_deep place is) (lexical b fails) = absurd (spelled_or_not (chars text) is.tokens b is.lexes fails)
  one_document_refusal origin _ _ (too_deep p is) (syntax q is') = absurd (unlike q p is' is)
  one_document_refusal origin _ _ (too_deep p is) (too_deep q is') = refl

-- no value is both in a type and outside it: under any interfaces, here of functions without arrows
pub value_not_both : (type : Written) (v : Thing) → IsValueIn v type → IsValueOutside v type → ⊥
value_not_both type v inside outside =
    let none = OfNodes [] (λ function. []) in
    value_apart (written (number_of_names type)) (λ read apart. written_keeps read apart (number_of_names type)) (admits none) v (type_of type)
    (inside none) (outside none)
