-- The reader goes on by one token.
use Rattle.std.proofs.Common.{◌≡◌, ◌∙◌, ap, subst, sym, refl, ℕ, Bool, false, List, [], ◌∷◌, Option, None}
use Rattle.std.specs.Prelude.{Result, Ok, Err, IfOk, IfErr, ◌<◌, length}
use Rattle.std.proofs.Common.{inl, inr}
use Rattle.std.specs.Str.{chars, IsUtf8}
use Rattle.std.proofs.lemmas.Str.{encodes-chars}
use Rattle.cd_syntax.specs.declared.tokens.Span.{Span}
use Rattle.cd_syntax.specs.declared.tokens.Token.{Token}
use Rattle.cd_syntax.specs.declared.fault.TextError.{TextError}
use Rattle.cd_syntax.specs.declared.fault.TextError.TheVariants.{Fault}
use Rattle.cd_syntax.specs.declared.fault.TextFault.{TextFault}
use Rattle.cd_syntax.specs.declared.fault.TextFault.TheVariants.{Syntax, TooDeep}
use Rattle.cd_syntax.specs.Name.{Name}
use Rattle.cd_syntax.specs.Tokens.{Lexes, bytes}
use Rattle.cd_syntax.specs.Faults.{IfFault, HasFirstFault}
use Rattle.cd_syntax.proofs.TextErrors.{if_fault_weaker}
use Rattle.cd_model.specs.Thing.{Thing}
use Rattle.cd_documents.specs.Terminal.{terminal}
use Rattle.cd_documents.specs.Machine as machine
use Rattle.cd_documents.specs.Machine.{State, state, start, step, step_on, and_then, reach, run, ended}
use Rattle.cd_documents.specs.Reading.{most_open, WritesValue, IsWrongText, IsTooDeepText}
use Rattle.cd_documents.specs.DocumentFaults.{IsWrongDocument}
use Rattle.cd_documents.proofs.Sounding.{derived}
use Rattle.cd_documents.proofs.Faulting.{too_deep as deep_document}
use Rattle.cd_documents.proofs.Refusing.{wrong_document, unfinished_document}
use Rattle.cd_cells.specs.declared.values.Values.{Values}
use Rattle.cd_cells.specs.declared.cell.ValueId.{ValueId}
use Rattle.cd_cells.specs.Cells.{thing_at}
use Rattle.cd_cells.specs.Table.{table}
use Rattle.cd_lex.specs.declared.lexer.Kind.{Kind}
use Rattle.cd_lex.specs.declared.lexer.Lexer.{Lexer}
use Rattle.cd_lex.specs.Lexing.{left, place, is_joined, LexesOn, FailsOn, with_characters, token_with, IsToken}
use Rattle.cd_notation.specs.declared.form.Expecting.{Expecting}
use Rattle.cd_notation.specs.declared.form.Expecting.TheVariants as expecting
use Rattle.cd_notation.specs.declared.reader.Reader.{Reader}
use Rattle.cd_notation.specs.declared.reader.Step.TheVariants as made_step
use Rattle.cd_notation.specs.declared.terminal.Terminal.{Terminal as ATerminal}
use Rattle.cd_notation.specs.Faulty.{IsFaultOf, lexical, syntax, too_deep}
use Rattle.cd_notation.specs.Inner.PlainTerminal.{plain_terminal}
use Rattle.cd_notation.specs.Inner.Open as the
use Rattle.cd_notation.specs.Inner.Leading.{IsStep, plain_expecting}
use Rattle.cd_notation.specs.Inner.Going.{Going, IsFirstOf, IsRefusal, ended_of}

-- a step of the reader, with what the machine does
module _ (text : List ℕ) (lexer new_lexer : Lexer) (values new_values : Values) (next : Expecting) (reader new_reader : Reader)
    (kind : Kind) (span : Span) (name : Name) (is : ATerminal) (going : Going text lexer values next reader)
    (token_is : IsToken lexer new_lexer (token_with kind span name))
    (terminal_is : plain_terminal is name ≡ terminal (with_characters kind name)) where
  abbrev one : Token
  one = token_with kind span name

  abbrev stepped : Result State machine.Fault
  stepped = step_on most_open going.now span.from (plain_terminal is name)

  -- what the machine makes of the token
  same_step : step most_open going.now one ≡ stepped
  same_step = ap (step_on most_open going.now span.from) (sym terminal_is)

  abbrev going_on : List Token → Result State machine.Fault → Result (Option Thing) machine.Fault
  going_on rest made = ended (and_then made (λ after. reach most_open after rest))

  makes_on : (rest : List Token) → LexesOn new_lexer rest → (all : List Token) × Lexes false 0 text all × (run most_open start all ≡ going_on rest stepped)
  makes_on rest lexes =
      let made = going.makes (one ∷ rest) (token_is.lexes rest lexes) in
      (made.all, made.lexes, made.runs ∙ ap (going_on rest) same_step)

  pub goes_on : (after : Expecting) → IsStep span.from stepped new_values (made_step.Next after) new_reader → Going text new_lexer new_values after new_reader
  goes_on after led = by stepped refl led
    where
      by : (made : Result State machine.Fault) → stepped ≡ made → IsStep span.from made new_values (made_step.Next after) new_reader → Going text new_lexer new_values after new_reader
      by (Ok now) is led = record {
        now = now;
        stands = led;
        makes = λ rest lexes.
            let made = makes_on rest lexes in
            record { all = made.0; lexes = made.1; runs = made.2 ∙ ap (going_on rest) is };
        fails = λ fault fails. going.fails fault (token_is.fails fault fails);
      }
      by (Err (machine.Syntax at)) is led = absurd led
      by (Err (machine.TooDeep at)) is led = absurd led

  -- the token can't stand there
  pub is_wrong : IsStep span.from stepped new_values made_step.Wrong new_reader → (error : TextError) → IsRefusal new_lexer (Syntax span.from) error
      → IfFault error (IsFaultOf text)
  is_wrong led error refused = if_fault_weaker error (IsFirstOf new_lexer (Syntax span.from)) (IsFaultOf text) first_of refused
    where
      by : (tokens : List Token) → LexesOn new_lexer tokens → (made : Result State machine.Fault) → stepped ≡ made → IsStep span.from made new_values made_step.Wrong new_reader
          → IsWrongText text span.from
      by tokens lexes (Ok now) is led = absurd led
      by tokens lexes (Err (machine.Syntax at)) is led =
          let made = makes_on tokens lexes in
          record {
            tokens = made.0;
            lexes = made.1;
            wrong = wrong_document most_open made.0 (bytes text) span.from
                (made.2 ∙ ap (going_on tokens) is ∙ ap (λ (from : ℕ). Err (machine.Syntax from)) led);
          }
      by tokens lexes (Err (machine.TooDeep at)) is led = absurd led

      first_of : (first : TextFault) → IsFirstOf new_lexer (Syntax span.from) first → IsFaultOf text first
      first_of first (inl (is, tokens, lexes)) = subst (IsFaultOf text) (sym is) (syntax span.from (by tokens lexes stepped refl led))
      first_of first (inr fails) = lexical first (going.fails first (token_is.fails first fails))

  pub is_too_deep : IsStep span.from stepped new_values made_step.TooDeep new_reader → (error : TextError) → IsRefusal new_lexer (TooDeep span.from) error
      → IfFault error (IsFaultOf text)
  is_too_deep led error refused = if_fault_weaker error (IsFirstOf new_lexer (TooDeep span.from)) (IsFaultOf text) first_of refused
    where
      by : (tokens : List Token) → LexesOn new_lexer tokens → (made : Result State machine.Fault) → stepped ≡ made → IsStep span.from made new_values made_step.TooDeep new_reader
          → IsTooDeepText text span.from
      by tokens lexes (Ok now) is led = absurd led
      by tokens lexes (Err (machine.Syntax at)) is led = absurd led
      by tokens lexes (Err (machine.TooDeep at)) is led =
          let made = makes_on tokens lexes in
          record {
            tokens = made.0;
            lexes = made.1;
            deep = deep_document most_open made.0 (bytes text) span.from
                (made.2 ∙ ap (going_on tokens) is ∙ ap (λ (from : ℕ). Err (machine.TooDeep from)) led);
          }

      first_of : (first : TextFault) → IsFirstOf new_lexer (TooDeep span.from) first → IsFaultOf text first
      first_of first (inl (is, tokens, lexes)) = subst (IsFaultOf text) (sym is) (too_deep span.from (by tokens lexes stepped refl led))
      first_of first (inr fails) = lexical first (going.fails first (token_is.fails first fails))

-- at the end of the text
module _ (text : List ℕ) (lexer : Lexer) (values : Values) (reader : Reader) where
  pub whole : (id : ValueId) → Going text lexer values (expecting.Nothing id) reader → LexesOn lexer [] → WritesValue text (thing_at (table values) id.0)
  whole id going lexes =
      let made = going.makes [] lexes in
      record {
        tokens = made.all;
        lexes = made.lexes;
        document = derived most_open made.all (thing_at (table values) id.0) (made.runs ∙ ap (λ (now : State). Ok (machine.value_at now.expecting)) going.stands.is);
      }

  pub not_whole : (next : Expecting) → (end : ℕ) → end ≡ bytes text → Going text lexer values next reader → ((id : ValueId) → next ≡ expecting.Nothing id → ⊥) → LexesOn lexer []
      → IsWrongText text end
  not_whole next end is_end going other lexes =
      let made = going.makes [] lexes in
      record {
        tokens = made.all;
        lexes = made.lexes;
        wrong = subst (λ (at : ℕ). IsWrongDocument most_open made.all (bytes text) at) (sym is_end)
            (unfinished_document most_open made.all (bytes text) (made.runs ∙ ap (λ (now : State). Ok (machine.value_at now.expecting)) going.stands.is ∙ ap Ok (no_value next other)));
      }
    where
      no_value : (next : Expecting) → ((id : ValueId) → next ≡ expecting.Nothing id → ⊥) → machine.value_at (plain_expecting (table values) next) ≡ None
      no_value expecting.Value other = refl
      no_value expecting.Item other = refl
      no_value expecting.AfterPart other = refl
      no_value expecting.Field other = refl
      no_value expecting.AfterField other = refl
      no_value expecting.Tag other = refl
      no_value expecting.Attribute other = refl
      no_value expecting.AfterAttribute other = refl
      no_value expecting.Equal other = refl
      no_value (expecting.Nothing id) other = absurd (other id refl)

-- nothing is read
pub going_starts : (lexer : Lexer) (values : Values) (reader : Reader) → reader.forms ≡ [] → reader.items ≡ [] → reader.labels ≡ []
    → place lexer ≡ 0 → is_joined lexer ≡ false → Going (left lexer) lexer values expecting.Value reader
going_starts lexer values reader no_forms no_items no_labels at joined = record {
  now = start;
  stands = record {
    trees = [];
    forms = rw (no_forms, no_items, no_labels) the.nothing;
    is = refl;
    within = tt;
  };
  makes = λ rest lexes. record {
    all = rest;
    lexes = subst (λ (joined : Bool). Lexes joined 0 (left lexer) rest) joined (subst (λ (at : ℕ). Lexes (is_joined lexer) at (left lexer) rest) at lexes);
    runs = refl;
  };
  fails = λ fault fails. subst (λ (joined : Bool). HasFirstFault joined 0 (left lexer) fault) joined (subst (λ (at : ℕ). HasFirstFault (is_joined lexer) at (left lexer) fault) at fails);
}

-- what is answered at the end
pub record IsEnd (text : List ℕ) (values : Values) (result : Result ValueId TextError) : Type 0 where
  pub within : IfOk result (λ id. id.0 < length (table values))
  pub value : IfOk result (λ id. WritesValue text (thing_at (table values) id.0))
  pub fault : IfErr result (λ error. IfFault error (IsFaultOf text))

pub at_end : (text : List ℕ) (lexer : Lexer) (values : Values) (reader : Reader) (next : Expecting) (end : ℕ) (result : Result ValueId TextError)
    → result ≡ ended_of next end → end ≡ bytes text → Going text lexer values next reader → LexesOn lexer [] → IsEnd text values result
at_end text lexer values reader next end result is is_end going lexes = subst (IsEnd text values) (sym is) (by next going)
  where
    unfinished : (next : Expecting) → Going text lexer values next reader → ((id : ValueId) → next ≡ expecting.Nothing id → ⊥) → IsEnd text values (Err (Fault (Syntax end)))
    unfinished next going other = record { within = tt; value = tt; fault = syntax end (not_whole text lexer values reader next end is_end going other lexes) }

    by : (next : Expecting) → Going text lexer values next reader → IsEnd text values (ended_of next end)
    by (expecting.Nothing id) going = record { within = going.stands.within; value = whole text lexer values reader id going lexes; fault = tt }
    by expecting.Value going = unfinished expecting.Value going (λ id is. absurd (cc is))
    by expecting.Item going = unfinished expecting.Item going (λ id is. absurd (cc is))
    by expecting.AfterPart going = unfinished expecting.AfterPart going (λ id is. absurd (cc is))
    by expecting.Field going = unfinished expecting.Field going (λ id is. absurd (cc is))
    by expecting.AfterField going = unfinished expecting.AfterField going (λ id is. absurd (cc is))
    by expecting.Tag going = unfinished expecting.Tag going (λ id is. absurd (cc is))
    by expecting.Attribute going = unfinished expecting.Attribute going (λ id is. absurd (cc is))
    by expecting.AfterAttribute going = unfinished expecting.AfterAttribute going (λ id is. absurd (cc is))
    by expecting.Equal going = unfinished expecting.Equal going (λ id is. absurd (cc is))

-- the rest has a fault
pub has_fault : (text : List ℕ) (lexer : Lexer) (values : Values) (reader : Reader) (next : Expecting) (error : TextError) → Going text lexer values next reader
    → IfFault error (FailsOn lexer) → IfFault error (IsFaultOf text)
has_fault text lexer values reader next error going is =
    if_fault_weaker error (FailsOn lexer) (IsFaultOf text) (λ fault fails. lexical fault (going.fails fault fails)) is

-- the bytes of a text
pub text_bytes : (text characters : List ℕ) (count : ℕ) → IsUtf8 text → count ≡ length text → characters ≡ chars text → count ≡ bytes characters
text_bytes text characters count utf8 is same = is ∙ sym (ap length (encodes-chars text utf8)) ∙ ap bytes (sym same)
