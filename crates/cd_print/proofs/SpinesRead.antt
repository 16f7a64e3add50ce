-- Spines of parts are read back: texts, sequences and tuples.
use Rattle.std.proofs.Common.{◌≡◌, ◌∙◌, ℕ, suc, true, false, Bool, List, [], ◌∷◌, ◌++◌, Option, Some, None, map, refl, sym, ap, subst, append_assoc}
use Rattle.std.specs.Prelude.{codes}
use Rattle.std.specs.Char.{IsScalar}
use Rattle.cd_syntax.specs.Quotes as quotes
use Rattle.cd_syntax.specs.Signs.{characters, closes}
use Rattle.cd_syntax.specs.Tokens as tokens
use Rattle.cd_syntax.specs.Tokens.{EndsWord, Lexes}
use Rattle.cd_syntax.specs.Tokens.{at}
use Rattle.cd_syntax.specs.declared.sign.Sign.{Sign as ASign}
use Rattle.cd_syntax.specs.declared.sign.Sign.TheVariants as sign
use Rattle.cd_syntax.specs.declared.tokens.Span.{Span}
use Rattle.cd_syntax.specs.declared.tokens.Token.{Token}
use Rattle.cd_syntax.specs.declared.tokens.TokenKind.TheVariants as token
use Rattle.cd_model.specs.AllOf.{AllOf}
use Rattle.cd_model.specs.Canonical.{Text, Part, Letter, Other, part_text, Piece, Run, Alone, piece_text, pieces_with, pieces_of, sequence_text, spine_text, joined}
use Rattle.cd_model.specs.Canonical.{single_quoted}
use Rattle.cd_model.specs.Thing.{Thing, Character, Pair}
use Rattle.cd_documents.specs.Document as document
use Rattle.cd_documents.specs.Document.{IsDocument, AreParts, AreItems, the_nil, characters_before}
use Rattle.cd_print.proofs.OneSign.{IsAlone, open_parenthesis, close_parenthesis, open_bracket, close_bracket, comma}
use Rattle.cd_print.proofs.QuotedBack.{quoted_back}
use Rattle.cd_print.proofs.ReadsOn.{Reads, PrintedAs, weaker, nothing_more, token_then, sign_then, blank_then, value_then}
use Rattle.cd_print.proofs.TextsJoined.{after, joined_after}
use Rattle.cd_print.proofs.PlainRead.{character_back, characters_back}

-- tokens of a form, and then others
pub record Split (Form Tail : List Token → Type 0) (tokens : List Token) : Type 0 where
  pub first : List Token
  pub last : List Token
  pub is : tokens ≡ first ++ last
  pub form : Form first
  pub tail : Tail last

-- one sign
pub record Only (is : ASign) (tokens : List Token) : Type 0 where
  pub span : Span
  pub one : tokens ≡ at (token.Sign is) span ∷ []

pub only : (joined : Bool) (is : ASign) (rest : List ℕ) (more : ℕ → List Token) → closes is ≡ true → IsAlone is rest
    → ((from : ℕ) → Lexes true from rest (more from))
    → (from : ℕ) → Reads joined from (characters is ++ rest) more (Only is)
only joined is rest more closing alone lexes from =
    sign_then more joined is rest (λ tokens. tokens ≡ []) (Only is) alone
    (λ at. subst (λ joined. Reads joined at rest more (λ tokens. tokens ≡ [])) (sym closing) (nothing_more more rest (λ tokens. tokens ≡ []) lexes refl at))
    (λ span tokens none. record { span = span; one = ap (λ all. at (token.Sign is) span ∷ all) none }) from

module _ (depth : ℕ) where
  abbrev pub Printed : Text → Thing → Type 0
  Printed text value = PrintedAs text (λ tokens. IsDocument depth tokens value)

  -- what a part, or a spine of parts and its end, stands for
  pub data PartIs : Part → Thing → Type 0 where
    letter : (c : ℕ) → IsScalar c → PartIs (Letter c) (Character c)
    stands : (text : Text) (value : Thing) → Printed text value → PartIs (Other text) value

  pub data SpineIs : List Part → Option Text → Thing → Type 0 where
    nil_end : SpineIs [] None the_nil
    value_end : (text : Text) (value : Thing) → Printed text value → SpineIs [] (Some text) value
    before : (part : Part) (parts : List Part) (end : Option Text) (value others : Thing)
        → PartIs part value → SpineIs parts end others → SpineIs (part ∷ parts) end (Pair value others)

  -- what pieces stand for
  data PieceIs : Piece → (others value : Thing) → Type 0 where
    run : (cs : List ℕ) (others : Thing) → AllOf IsScalar cs → PieceIs (Run cs) others (characters_before cs others)
    alone : (text : Text) (value others : Thing) → Printed text value → PieceIs (Alone text) others (Pair value others)

  data ArePieces : List Piece → Thing → Type 0 where
    no_piece : ArePieces [] the_nil
    piece : (one : Piece) (pieces : List Piece) (others value : Thing)
        → PieceIs one others value → ArePieces pieces others → ArePieces (one ∷ pieces) value

  with_letter : (c : ℕ) (pieces : List Piece) (others : Thing) → IsScalar c → ArePieces pieces others
      → ArePieces (pieces_with (Letter c) pieces) (Pair (Character c) others)
  with_letter c _ _ is no_piece = piece (Run (c ∷ [])) [] the_nil (Pair (Character c) the_nil) (run (c ∷ []) the_nil (is, tt)) no_piece
  with_letter c _ _ is (piece _ pieces others _ (run cs _ all) are) =
      piece (Run (c ∷ cs)) pieces others (characters_before (c ∷ cs) others) (run (c ∷ cs) others (is, all)) are
  with_letter c _ _ is (piece _ pieces others _ (alone text value _ written) are) =
      piece (Run (c ∷ [])) (Alone text ∷ pieces) (Pair value others) (Pair (Character c) (Pair value others)) (run (c ∷ []) (Pair value others) (is, tt))
      (piece (Alone text) pieces others (Pair value others) (alone text value others written) are)

  with_part : (part : Part) (pieces : List Piece) (value others : Thing) → PartIs part value → ArePieces pieces others
      → ArePieces (pieces_with part pieces) (Pair value others)
  with_part _ pieces _ others (letter c is) are = with_letter c pieces others is are
  with_part _ pieces _ others (stands text value written) are = piece (Alone text) pieces others (Pair value others) (alone text value others written) are

  pieces_are : (parts : List Part) (value : Thing) → SpineIs parts None value → ArePieces (pieces_of parts) value
  pieces_are _ _ nil_end = no_piece
  pieces_are _ _ (before part parts _ value others is spine) = with_part part (pieces_of parts) value others is (pieces_are parts others spine)

  part_back : (part : Part) (value : Thing) → PartIs part value → Printed (part_text part) value
  part_back _ _ (letter c is) = character_back depth c is
  part_back _ _ (stands text value written) = written

  module _ (more : ℕ → List Token) (tail : List Token → Type 0) (rest : List ℕ) where
    abbrev Items : Thing → List Token → Type 0
    Items value = Split (λ tokens. AreItems depth tokens value) tail

    -- a piece before the others
    piece_on : (one : Piece) (value others : Thing) (text : List ℕ) → PieceIs one others value → EndsWord text
        → ((from : ℕ) → Reads true from text more (Items others))
        → (from : ℕ) → Reads false from (piece_text one ++ text) more (Items value)
    piece_on _ _ others text (run cs _ all) ends on from =
        token_then more false (token.Chars cs) (single_quoted cs) text (Items others) (Items (characters_before cs others))
        (tokens.chars _ cs text (quoted_back 39 quotes.apostrophe cs all)) on
        (λ span tokens split. record {
          first = at (token.Chars cs) span ∷ split.first;
          last = split.last;
          is = ap (λ all. at (token.Chars cs) span ∷ all) split.is;
          form = document.characters depth cs span split.first others split.form;
          tail = split.tail;
        }) from
    piece_on _ _ others text (alone written value _ is) ends on from =
        value_then more written text (λ tokens. IsDocument depth tokens value) (Items others) (Items (Pair value others)) is ends on
        (λ one after_it document_of split. record {
          first = one ++ split.first;
          last = split.last;
          is = ap (λ all. one ++ all) split.is ∙ sym (append_assoc one split.first split.last);
          form = document.item depth one split.first value others document_of split.form;
          tail = split.tail;
        }) from

    module _ (ends : EndsWord rest) (on : (from : ℕ) → Reads true from rest more tail) where
      after_ends : (texts : List Text) → EndsWord (after (codes " ") texts rest)
      after_ends [] = ends
      after_ends (text ∷ texts) = refl

      after_pieces : (pieces : List Piece) (value : Thing) → ArePieces pieces value
          → (from : ℕ) → Reads true from (after (codes " ") (map piece_text pieces) rest) more (Items value)
      after_pieces _ _ no_piece from =
          weaker tail (Items the_nil)
          (λ tokens is. record { first = []; last = tokens; is = refl; form = document.no_item depth; tail = is }) (on from)
      after_pieces _ _ (piece one pieces others value is are) from =
          blank_then more true (piece_text one ++ after (codes " ") (map piece_text pieces) rest) (Items value)
          (piece_on one value others (after (codes " ") (map piece_text pieces) rest) is (after_ends (map piece_text pieces)) (after_pieces pieces others are)) from

      pieces_back : (one : Piece) (pieces : List Piece) (others value : Thing) → PieceIs one others value → ArePieces pieces others
          → (from : ℕ) → Reads false from (joined (codes " ") (map piece_text (one ∷ pieces)) ++ rest) more (Items value)
      pieces_back one pieces others value is are from =
          subst (λ text. Reads false from text more (Items value))
          (sym (joined_after (codes " ") (piece_text one) (map piece_text pieces) rest))
          (piece_on one value others (after (codes " ") (map piece_text pieces) rest) is (after_ends (map piece_text pieces)) (after_pieces pieces others are) from)

  -- a sequence in brackets
  bracketed : (one : Piece) (pieces : List Piece) (others value : Thing) → PieceIs one others value → ArePieces pieces others
      → PrintedAs (codes "[" ++ joined (codes " ") (map piece_text (one ∷ pieces)) ++ codes "]") (λ tokens. IsDocument (suc depth) tokens value)
  bracketed one pieces others value is are = record {
    starts = λ rest. record { no_equal = refl; no_question = refl; no_star = refl };
    reads = λ rest more ends lexes from.
        subst (λ text. Reads false from text more (λ tokens. IsDocument (suc depth) tokens value))
        (ap (λ text. 91 ∷ text) (sym (append_assoc (joined (codes " ") (map piece_text (one ∷ pieces))) (93 ∷ []) rest)))
        (sign_then more false sign.OpenBracket (joined (codes " ") (map piece_text (one ∷ pieces)) ++ 93 ∷ rest)
        (Items more (Only sign.CloseBracket) (93 ∷ rest) value) (λ tokens. IsDocument (suc depth) tokens value)
        (open_bracket _)
        (pieces_back more (Only sign.CloseBracket) (93 ∷ rest) refl (only true sign.CloseBracket rest more refl (close_bracket rest) lexes) one pieces others value is are)
        (λ span tokens split.
        subst (λ all. IsDocument (suc depth) (at (token.Sign sign.OpenBracket) span ∷ all) value)
        (sym (split.is ∙ ap (λ all. split.first ++ all) split.tail.one))
        (document.sequence depth span split.tail.span split.first value split.form))
        from);
  }

  -- a text, or a sequence in brackets
  sequence_back : (one : Piece) (pieces : List Piece) (others value : Thing) → PieceIs one others value → ArePieces pieces others
      → PrintedAs (sequence_text (one ∷ pieces)) (λ tokens. IsDocument (suc depth) tokens value)
  sequence_back _ _ _ _ (run cs _ all) no_piece = characters_back (suc depth) cs all
  sequence_back _ _ others value (run cs _ all) (piece two pieces rest _ is are) =
      bracketed (Run cs) (two ∷ pieces) others value (run cs others all) (piece two pieces rest others is are)
  sequence_back _ pieces others value (alone text one _ written) are =
      bracketed (Alone text) pieces others value (alone text one others written) are

  -- the parts of a tuple after the first one
  record AfterComma (others : Thing) (tokens : List Token) : Type 0 where
    span : Span
    parts : List Token
    is : tokens ≡ at (token.Sign sign.Comma) span ∷ parts
    are : AreParts depth parts others

  module _ (more : ℕ → List Token) (tail : List Token → Type 0) where
    comma_on : (text : List ℕ) (others : Thing) → ((from : ℕ) → Reads false from text more (Split (λ tokens. AreParts depth tokens others) tail))
        → (from : ℕ) → Reads true from (codes ", " ++ text) more (Split (AfterComma others) tail)
    comma_on text others on from =
        sign_then more true sign.Comma (32 ∷ text) (Split (λ tokens. AreParts depth tokens others) tail) (Split (AfterComma others) tail)
        (comma (32 ∷ text)) (blank_then more false text (Split (λ tokens. AreParts depth tokens others) tail) on)
        (λ span tokens split. record {
          first = at (token.Sign sign.Comma) span ∷ split.first;
          last = split.last;
          is = ap (λ all. at (token.Sign sign.Comma) span ∷ all) split.is;
          form = record { span = span; parts = split.first; is = refl; are = split.form };
          tail = split.tail;
        }) from

    part_on : (part : Part) (value others : Thing) (text : List ℕ) → PartIs part value → EndsWord text
        → ((from : ℕ) → Reads true from text more (Split (AfterComma others) tail))
        → (from : ℕ) → Reads false from (part_text part ++ text) more (Split (λ tokens. AreParts depth tokens (Pair value others)) tail)
    part_on part value others text is ends on from =
        value_then more (part_text part) text (λ tokens. IsDocument depth tokens value) (Split (AfterComma others) tail)
        (Split (λ tokens. AreParts depth tokens (Pair value others)) tail) (part_back part value is) ends on
        (λ one after_it document_of split. record {
          first = one ++ split.first;
          last = split.last;
          is = ap (λ all. one ++ all) split.is ∙ sym (append_assoc one split.first split.last);
          form = subst (λ all. AreParts depth (one ++ all) (Pair value others)) (sym split.form.is)
              (document.part depth split.form.span one split.form.parts value others document_of split.form.are);
          tail = split.tail;
        }) from

    module _ (end : Text) (rest : List ℕ) (ends : EndsWord rest) (on : (from : ℕ) → Reads true from rest more tail) where
      commas_end : (texts : List Text) → EndsWord (after (codes ", ") texts (codes ", " ++ end ++ rest))
      commas_end [] = refl
      commas_end (text ∷ texts) = refl

      after_parts : (parts : List Part) (which : Option Text) (value : Thing) → which ≡ Some end → SpineIs parts which value
          → (from : ℕ) → Reads true from (after (codes ", ") (map part_text parts) (codes ", " ++ end ++ rest)) more (Split (AfterComma value) tail)
      after_parts _ _ _ none nil_end from = absurd cc
      after_parts _ _ value same (value_end text _ written) from =
          comma_on (end ++ rest) value
          (value_then more end rest (λ tokens. IsDocument depth tokens value) tail (Split (λ tokens. AreParts depth tokens value) tail)
          (subst (λ t. Printed t value) (some_is text end same) written) ends on
          (λ one after_it document_of is. record { first = one; last = after_it; is = refl; form = document.last_part depth one value document_of; tail = is }))
          from
        where
          some_is : (one two : Text) → Some one ≡ Some two → one ≡ two
          some_is one two same = cc
      after_parts _ _ _ same (before part parts which value others is spine) from =
          comma_on (part_text part ++ after (codes ", ") (map part_text parts) (codes ", " ++ end ++ rest)) (Pair value others)
          (part_on part value others (after (codes ", ") (map part_text parts) (codes ", " ++ end ++ rest)) is (commas_end (map part_text parts))
          (after_parts parts which others same spine)) from

  tuple_back : (part : Part) (parts : List Part) (end : Text) (value others : Thing) → PartIs part value → SpineIs parts (Some end) others
      → PrintedAs (spine_text (part ∷ parts) (Some end)) (λ tokens. IsDocument (suc depth) tokens (Pair value others))
  tuple_back part parts end value others is spine = record {
    starts = λ rest. record { no_equal = refl; no_question = refl; no_star = refl };
    reads = λ rest more ends lexes from.
        let later = after (codes ", ") (map part_text parts) (codes ", " ++ end ++ 41 ∷ rest) in
        let on = after_parts more (Only sign.CloseParenthesis) end (41 ∷ rest) refl
        (only true sign.CloseParenthesis rest more refl (close_parenthesis rest) lexes) parts (Some end) others refl spine in
        subst (λ text. Reads false from text more (λ tokens. IsDocument (suc depth) tokens (Pair value others)))
        (ap (λ text. 40 ∷ text) (sym (text_is rest)))
        (sign_then more false sign.OpenParenthesis (part_text part ++ later)
        (Split (λ tokens. AreParts depth tokens (Pair value others)) (Only sign.CloseParenthesis)) (λ tokens. IsDocument (suc depth) tokens (Pair value others))
        (open_parenthesis _ ((part_back part value is).starts later))
        (part_on more (Only sign.CloseParenthesis) part value others later is
        (commas_end more (Only sign.CloseParenthesis) end (41 ∷ rest) refl (only true sign.CloseParenthesis rest more refl (close_parenthesis rest) lexes) (map part_text parts)) on)
        (λ span tokens split.
        subst (λ all. IsDocument (suc depth) (at (token.Sign sign.OpenParenthesis) span ∷ all) (Pair value others))
        (sym (split.is ∙ ap (λ all. split.first ++ all) split.tail.one))
        (document.tuple depth span split.tail.span split.first (Pair value others) split.form))
        from);
  }
    where
      text_is : (rest : List ℕ)
          → (joined (codes ", ") (map part_text (part ∷ parts)) ++ codes ", " ++ end ++ codes ")") ++ rest
          ≡ part_text part ++ after (codes ", ") (map part_text parts) (codes ", " ++ end ++ 41 ∷ rest)
      text_is rest =
          let whole = joined (codes ", ") (map part_text (part ∷ parts)) in
          append_assoc (whole ++ codes ", " ++ end) (codes ")") rest
          ∙ append_assoc (whole ++ codes ", ") end (41 ∷ rest)
          ∙ append_assoc whole (codes ", ") (end ++ 41 ∷ rest)
          ∙ joined_after (codes ", ") (part_text part) (map part_text parts) (codes ", " ++ (end ++ 41 ∷ rest))

  -- a spine of one part or more
  pub spine_back : (part : Part) (parts : List Part) (end : Option Text) (value others : Thing) → PartIs part value → SpineIs parts end others
      → PrintedAs (spine_text (part ∷ parts) end) (λ tokens. IsDocument (suc depth) tokens (Pair value others))
  spine_back part parts None value others is spine = by_pieces (pieces_of (part ∷ parts)) (pieces_are (part ∷ parts) (Pair value others) (before part parts None value others is spine))
    where
      by_pieces : (pieces : List Piece) → ArePieces pieces (Pair value others)
          → PrintedAs (sequence_text pieces) (λ tokens. IsDocument (suc depth) tokens (Pair value others))
      by_pieces _ (piece one pieces rest _ what are) = sequence_back one pieces rest (Pair value others) what are
  spine_back part parts (Some end) value others is spine = tuple_back part parts end value others is spine

-- characters alone
pieces_of_letters : (c : ℕ) (cs : List ℕ) → pieces_of (map Letter (c ∷ cs)) ≡ Run (c ∷ cs) ∷ []
pieces_of_letters c [] = refl
pieces_of_letters c (d ∷ cs) = ap (pieces_with (Letter c)) (pieces_of_letters d cs)

pub letters_back : (depth c : ℕ) (cs : List ℕ) → AllOf IsScalar (c ∷ cs)
    → PrintedAs (spine_text (map Letter (c ∷ cs)) None) (λ tokens. IsDocument depth tokens (characters_before (c ∷ cs) the_nil))
letters_back depth c cs all =
    subst (λ pieces. PrintedAs (sequence_text pieces) (λ tokens. IsDocument depth tokens (characters_before (c ∷ cs) the_nil)))
    (sym (pieces_of_letters c cs)) (characters_back depth (c ∷ cs) all)
