-- The line and the column of a place, from one character of a text to the next.
use Rattle.std.proofs.Common.{rules, arith, ◌≡◌, ◌∙◌, sym, ap, refl, ℕ, zero, suc, Bool, false, true, ◌+◌, ◌-◌, ◌≤◌, ◌≢◌, ◌==◌, not, if◌then◌else◌}
use Rattle.std.proofs.Common.{List, [], ◌∷◌, ◌++◌, length, length-append, reverse, take, encode_utf8}
use Rattle.std.specs.List.{filter, prefix_len}
use Rattle.std.specs.Char.{len_utf8}
use Rattle.std.specs.Str.{chars, IsUtf8}
use Rattle.std.proofs.lemmas.List.{append-nil, append_assoc, reverse-append}
use Rattle.std.proofs.lemmas.Str.{chars_past_char, chars-nil, length-encode, len_utf8_bounds}
use Rattle.cd_syntax.specs.Tokens.{bytes}
use Rattle.cd_replies.specs.Position.{characters_before, column_after}

-- the line after these characters, of which the first stands in this line
abbrev pub line_from : ℕ → List ℕ → ℕ
line_from line [] = line
line_from line (c ∷ cs) = line_from (if c == 10 then line + 1 else line) cs

-- the column after these characters, of which the first stands in this column
abbrev pub column_from : ℕ → List ℕ → ℕ
column_from column [] = column
column_from column (c ∷ cs) = column_from (if c == 10 then 1 else column + 1) cs

-- a line feed is one
is_feed : (c : ℕ) → c ≡ 10 → true ≡ (c == 10)
is_feed c feed = search (rules, feed)

-- numbers that differ are not equal
is_other : (n k : ℕ) → n ≢ k → false ≡ (n == k)
is_other n k other = search (rules, other)

-- each line feed begins a line
pub lines : (line : ℕ) (cs : List ℕ) → line_from line cs ≡ line + length (filter (λ c. c == 10) cs)
lines line [] = omega arith
lines line (c ∷ cs) = lines (if c == 10 then line + 1 else line) cs ∙ counted (c == 10)
  where
    feeds : List ℕ
    feeds = filter (λ c. c == 10) cs

    counted : (t : Bool) → (if t then line + 1 else line) + length feeds ≡ line + length (if t then c ∷ feeds else feeds)
    counted true = omega arith
    counted false = refl

-- a character that is no line feed takes one column
pub column_last : (before : List ℕ) (c : ℕ) → column_after (before ++ c ∷ []) ≡ (if c == 10 then 1 else column_after before + 1)
column_last before c = ap (λ back. 1 + length (take (prefix_len (λ c. not (c == 10)) back) back)) (reverse-append before (c ∷ [])) ∙ counted (c == 10)
  where
    back : List ℕ
    back = reverse before

    same : ℕ
    same = prefix_len (λ c. not (c == 10)) back

    one_more : 1 + same ≡ suc same
    one_more = omega arith

    counted : (t : Bool) → 1 + length (take (if not t then 1 + same else 0) (c ∷ back)) ≡ (if t then 1 else 1 + length (take same back) + 1)
    counted true = refl
    counted false = ap (λ n. 1 + length (take n (c ∷ back))) one_more ∙ omega arith

-- the column after some characters goes on from that after the first of them
pub columns : (before rest : List ℕ) → column_from (column_after before) rest ≡ column_after (before ++ rest)
columns before [] = ap column_after (sym (append-nil before))
columns before (c ∷ cs) =
    ap (λ column. column_from column cs) (sym (column_last before c)) ∙ columns (before ++ c ∷ []) cs ∙ ap column_after (append_assoc before (c ∷ []) cs)

-- none begins before the start
pub none_before : (left : ℕ) (cs : List ℕ) → left ≡ 0 → characters_before left cs ≡ []
none_before left [] start = refl
none_before zero (c ∷ cs) start = refl
none_before (suc n) (c ∷ cs) start = absurd (omega (arith, start))

-- and none is left at the end
pub none_left : (left : ℕ) (bs : List ℕ) → length bs ≡ 0 → characters_before left (chars bs) ≡ []
none_left left [] end = ap (characters_before left) chars-nil
none_left left (b ∷ bs) end = absurd (omega (arith, end))

-- a character begins before a byte that is not its first
pub next_before : (bs later : List ℕ) (c left gone after : ℕ) → IsUtf8 bs → bs ≡ encode_utf8 c ++ later → left ≢ 0 → gone ≡ len_utf8 c → after ≡ left - gone
    → characters_before left (chars bs) ≡ c ∷ characters_before after (chars later)
next_before bs later c left gone after utf8 split more wide past =
    ap (characters_before left) (chars_past_char bs later c utf8 split) ∙ passes ∙ ap (λ left. c ∷ characters_before left (chars later)) (ap (λ n. left - n) (width ∙ sym wide) ∙ sym past)
  where
    width : bytes (c ∷ []) ≡ len_utf8 c
    width = ap length (append-nil (encode_utf8 c)) ∙ length-encode c

    passes : characters_before left (c ∷ chars later) ≡ c ∷ characters_before (left - bytes (c ∷ [])) (chars later)
    passes = ap (λ t. if t then [] else c ∷ characters_before (left - bytes (c ∷ [])) (chars later)) (sym (is_other left 0 more))

-- and takes a byte at least
pub shorter : (bs later : List ℕ) (c : ℕ) → bs ≡ encode_utf8 c ++ later → 1 + length later ≤ length bs
shorter bs later c split = omega (arith, ap length split, length-append (encode_utf8 c) later, length-encode c, (len_utf8_bounds c).0)

-- past a line feed
pub line_past_feed : (line c : ℕ) (all cs : List ℕ) → all ≡ c ∷ cs → c ≡ 10 → line_from (line + 1) cs ≡ line_from line all
line_past_feed line c all cs first feed = ap (λ t. line_from (if t then line + 1 else line) cs) (is_feed c feed) ∙ ap (line_from line) (sym first)

-- past another character
pub line_past_other : (line c : ℕ) (all cs : List ℕ) → all ≡ c ∷ cs → c ≢ 10 → line_from line cs ≡ line_from line all
line_past_other line c all cs first other = ap (λ t. line_from (if t then line + 1 else line) cs) (is_other c 10 other) ∙ ap (line_from line) (sym first)

-- past a line feed
pub column_past_feed : (column c : ℕ) (all cs : List ℕ) → all ≡ c ∷ cs → c ≡ 10 → column_from 1 cs ≡ column_from column all
column_past_feed column c all cs first feed = ap (λ t. column_from (if t then 1 else column + 1) cs) (is_feed c feed) ∙ ap (column_from column) (sym first)

-- past another character
pub column_past_other : (column c : ℕ) (all cs : List ℕ) → all ≡ c ∷ cs → c ≢ 10 → column_from (column + 1) cs ≡ column_from column all
column_past_other column c all cs first other = ap (λ t. column_from (if t then 1 else column + 1) cs) (is_other c 10 other) ∙ ap (column_from column) (sym first)
