-- Tokens are read one after the other, up to the byte at which the text ends.
use Rattle.std.proofs.Common.{◌≡◌, ℕ, ◌+◌, ◌-◌, ◌≤◌, Bool, false, List, [], ◌∷◌, ◌++◌, sym, ap, subst, ◌∙◌, arith, length, append_assoc, append-nil}
use Rattle.std.proofs.lemmas.List.{length-append}
use Rattle.cd_syntax.specs.declared.tokens.Span.{Span}
use Rattle.cd_syntax.specs.declared.tokens.Token.{Token}
use Rattle.cd_syntax.specs.declared.tokens.TokenKind.{TokenKind}
use Rattle.cd_syntax.specs.declared.fault.TextError.{TextError}
use Rattle.cd_syntax.proofs.TextErrors.{if_fault_weaker}
use Rattle.cd_syntax.specs.Tokens.{bytes, joins, token_at, Lexes, IsLexemeOf}
use Rattle.cd_syntax.specs.Tokens as tokens
use Rattle.cd_syntax.specs.Faults.{IfFault, HasFaultHere, HasFirstFault}
use Rattle.cd_syntax.specs.Faults as faults
use Rattle.cd_lex.specs.declared.lexer.Kind.{Kind}
use Rattle.cd_lex.specs.declared.lexer.Lexer.{Lexer}
use Rattle.cd_lex.specs.Lexing.{IsToken, LexesOn, FailsOn, with_characters, token_with, IsSoundKind}
use Rattle.cd_lex.specs.Inner.Standing.{IsDroppedTo, IsTokenTo}
use Rattle.cd_lex.specs.Inner.Reading.{LexesUpTo, FailsUpTo, IsReadTo, IsTokenRead, HasRead}
use Rattle.cd_lex.proofs.PiecePrefixes.{bytes_append}

-- where a piece ends
pub piece_ends : (end : ℕ) (text written new : List ℕ) → bytes text ≤ end
    → text ≡ written ++ new → (end - bytes text + bytes written ≡ end - bytes new)
    × (bytes new ≤ end)
piece_ends end text written new fits is =
    let split : bytes text ≡ bytes written + bytes new = ap bytes is ∙ bytes_append written new in
    (omega arith, omega arith)

shorter : (text written new : List ℕ) → text ≡ written ++ new → length text ≡ length written + length new
shorter text written new is = ap length is ∙ length-append written new

-- the token is sound
writes_sound : (joined : Bool) (written text : List ℕ) (kind : TokenKind)
    → IsLexemeOf joined written text kind → IsSoundKind kind
writes_sound joined _ _ _ (tokens.word name text is ends) = is
writes_sound joined _ _ _ (tokens.number written text n numeral fits) = tt
writes_sound joined _ _ _ (tokens.negative written text n apart numeral fits) = tt
writes_sound joined _ _ _ (tokens.chars written characters text is) = tt
writes_sound joined _ _ _ (tokens.text written characters text is) = tt
writes_sound joined _ _ _ (tokens.atom name text is ends) = is
writes_sound joined _ _ _ (tokens.sign is text longest no_comment no_number) = tt

module _ (end : ℕ) (joined : Bool) (text : List ℕ) where
  pub starts : bytes text ≤ end → IsReadTo end joined text [] joined text
  starts fits = record { lexes = λ more lexes. lexes; fails = λ fault fails. fails; fits = fits; within = omega arith }

  -- one part after the other
  pub onward : (now next : Bool) (left new : List ℕ) → IsReadTo end joined text [] now left
      → IsReadTo end now left [] next new → IsReadTo end joined text [] next new
  onward now next left new so more =
      let within = so.within in
      let within_left = more.within in
      record {
        lexes = λ list lexes. so.lexes list (more.lexes list lexes);
        fails = λ fault fails. so.fails fault (more.fails fault fails);
        fits = more.fits;
        within = omega arith;
      }

  -- what is left after a prefix
  pub drops : (now : Bool) (left new : List ℕ) → IsReadTo end joined text [] now left → IsDroppedTo left new → IsReadTo end joined text [] false new
  drops now left new so is =
      let ends = piece_ends end left is.written new so.fits is.is in
      let size = shorter left is.written new is.is in
      let within = so.within in
      record {
        lexes = λ more lexes. so.lexes more (subst (λ text. Lexes now (end - bytes left) text more) (sym is.is)
            (tokens.dropped now (end - bytes left) is.written new more is.dropped (subst (λ at. Lexes false at new more) (sym ends.0) lexes)));
        fails = λ fault fails. so.fails fault (subst (λ text. HasFirstFault now (end - bytes left) text fault) (sym is.is)
            (faults.after_dropped now (end - bytes left) is.written new fault is.dropped (subst (λ at. HasFirstFault false at new fault) (sym ends.0) fails)));
        fits = ends.1;
        within = omega arith;
      }

  pub reads : (now : Bool) (left new : List ℕ) (kind : TokenKind) (from to : ℕ) → IsReadTo end joined text [] now left → IsTokenTo now left kind new
      → from ≡ end - bytes left → to ≡ end - bytes new
      → IsTokenRead end joined text (record { kind = kind; span = record { from = from; to = to } }) new
  reads now left new kind from to so is from_is to_is =
      let ends = piece_ends end left is.written new so.fits is.is in
      let size = shorter left is.written new is.is in
      let within = so.within in
      let some = is.some in
      let whole : to ≡ end - bytes left + bytes is.written = to_is ∙ sym ends.0 in (
        record {
          lexes = λ more lexes. so.lexes (record { kind = kind; span = record { from = from; to = to } } ∷ more)
              (subst (λ from. Lexes now (end - bytes left) left (record { kind = kind; span = record { from = from; to = to } } ∷ more)) (sym from_is)
              (subst (λ to. Lexes now (end - bytes left) left (record { kind = kind; span = record { from = end - bytes left; to = to } } ∷ more)) (sym whole)
              (subst (λ text. Lexes now (end - bytes left) text (token_at (end - bytes left) is.written kind ∷ more)) (sym is.is)
              (tokens.token now (end - bytes left) is.written new kind more is.writes (subst (λ at. Lexes (joins kind) at new more) (sym ends.0) lexes)))));
          fails = λ fault fails. so.fails fault (subst (λ text. HasFirstFault now (end - bytes left) text fault) (sym is.is)
              (faults.after_token now (end - bytes left) is.written new kind fault is.writes (subst (λ at. HasFirstFault (joins kind) at new fault) (sym ends.0) fails)));
          fits = ends.1;
          within = omega arith;
        },
        omega arith,
        writes_sound now is.written new kind is.writes,
      )

  pub faulty : (now : Bool) (left : List ℕ) (at : ℕ) (error : TextError) → IsReadTo end joined text [] now left → at ≡ end - bytes left
      → IfFault error (HasFaultHere now at left) → IfFault error (FailsUpTo end joined text)
  faulty now left at error so at_is is =
      if_fault_weaker error (HasFaultHere now at left) (FailsUpTo end joined text)
      (λ fault here. so.fails fault (subst (λ at. HasFirstFault now at left fault) at_is (faults.here now at left fault here))) is

  -- the same of a text whose first character was taken off
  module _ (now : Bool) (left prefix : List ℕ) (so : IsReadTo end joined text [] now left) (same : left ≡ prefix) where
    pub drops_at : (new : List ℕ) → IsDroppedTo prefix new → IsReadTo end joined text [] false new
    drops_at new is = drops now left new so (subst (λ text. IsDroppedTo text new) (sym same) is)

    pub reads_at : (new : List ℕ) (kind : TokenKind) (from to : ℕ) → IsTokenTo now prefix kind new → from ≡ end - bytes left → to ≡ end - bytes new
        → IsTokenRead end joined text (record { kind = kind; span = record { from = from; to = to } }) new
    reads_at new kind from to is = reads now left new kind from to so (subst (λ text. IsTokenTo now text kind new) (sym same) is)

    pub token_fits : (new : List ℕ) (kind : TokenKind) → IsTokenTo now prefix kind new → bytes new ≤ end
    token_fits new kind is = (piece_ends end left is.written new so.fits (same ∙ is.is)).1

    pub faulty_at : (at : ℕ) (error : TextError) → at ≡ end - bytes left → IfFault error (HasFaultHere now at prefix) → IfFault error (FailsUpTo end joined text)
    faulty_at at error at_is is = faulty now left at error so at_is (subst (λ text. IfFault error (HasFaultHere now at text)) (sym same) is)

  pub ends : (now : Bool) (left : List ℕ) → IsReadTo end joined text [] now left → left ≡ [] → LexesUpTo end joined text []
  ends now left so none = so.lexes [] (subst (λ text. Lexes now (end - bytes left) text []) (sym none) (tokens.nothing now (end - bytes left)))

-- a token more is read
pub token_read : (text : List ℕ) (read read_then : List Token) (old new : Lexer) (next : Token) → HasRead text read old → IsToken old new next → read_then ≡ read ++ next ∷ []
    → HasRead text read_then new
token_read text read read_then old new next so is pushed = record {
  lexes = λ more lexes. subst (Lexes false 0 text) (sym (ap (λ read. read ++ more) pushed ∙ append_assoc read (next ∷ []) more)) (so.lexes (next ∷ more) (is.lexes more lexes));
  fails = λ fault fails. so.fails fault (is.fails fault fails);
}

pub all_read : (text : List ℕ) (read : List Token) (lexer : Lexer) → HasRead text read lexer → LexesOn lexer [] → Lexes false 0 text read
all_read text read lexer so lexes = subst (Lexes false 0 text) (append-nil read) (so.lexes [] lexes)

pub fault_read : (text : List ℕ) (read : List Token) (lexer : Lexer) (error : TextError) → HasRead text read lexer → IfFault error (FailsOn lexer)
    → IfFault error (HasFirstFault false 0 text)
fault_read text read lexer error so is = if_fault_weaker error (FailsOn lexer) (HasFirstFault false 0 text) so.fails is

-- a lexer that has taken a token off
pub token_taken : (old new : Lexer) (is : Kind) (span : Span) → IsTokenRead old.end old.joined old.cursor (token_with is span new.buffer) new.cursor → new.end ≡ old.end
    → new.joined ≡ joins (with_characters is new.buffer) → IsToken old new (token_with is span new.buffer)
token_taken old new is span read same joined = record {
  lexes = λ more lexes. read.0.lexes more (subst (λ end. Lexes (joins (with_characters is new.buffer)) (end - bytes new.cursor) new.cursor more) same
      (subst (λ joined. Lexes joined (new.end - bytes new.cursor) new.cursor more) joined lexes));
  fails = λ fault fails. read.0.fails fault (subst (λ end. HasFirstFault (joins (with_characters is new.buffer)) (end - bytes new.cursor) new.cursor fault) same
      (subst (λ joined. HasFirstFault joined (new.end - bytes new.cursor) new.cursor fault) joined fails));
  shorter = read.1;
  sound = read.2;
}
