-- From each state some tokens end a document, and none of them opens a bracket.
use Rattle.std.proofs.Common.{refl, ℕ, pos, List, [], ◌∷◌}
use Rattle.std.specs.Prelude.{codes}
use Rattle.cd_syntax.specs.declared.sign.Sign.TheVariants as sign
use Rattle.cd_syntax.specs.declared.tokens.Token.{Token}
use Rattle.cd_syntax.specs.declared.tokens.TokenKind.{TokenKind}
use Rattle.cd_syntax.specs.declared.tokens.TokenKind.TheVariants as token
use Rattle.cd_syntax.specs.Tokens.{at}
use Rattle.cd_model.specs.Thing.{Thing, Integer, Atom, Xml, Record, NoField}
use Rattle.cd_documents.specs.Document.{the_nil}
use Rattle.cd_documents.specs.Machine.{Expecting, AtValue, AtItem, AfterPart, AtField, AfterField, AtTag, AtAttribute, AfterAttribute, AtEqual, Done, OpenTree, InTuple, InSequence, InRecord, InTag, InContent, state, pairs, with_fields, put, Fits, Ends}

abbrev anywhere : TokenKind → Token
anywhere kind = at kind (record { from = 0; to = 0 })

abbrev one : Thing
one = Integer (pos 1)

abbrev one_token : Token
one_token = anywhere (token.Int (pos 1))

abbrev close_tuple : Token
close_tuple = anywhere (token.Sign sign.CloseParenthesis)

abbrev close_sequence : Token
close_sequence = anywhere (token.Sign sign.CloseBracket)

abbrev close_record : Token
close_record = anywhere (token.Sign sign.CloseBrace)

abbrev close_tag : Token
close_tag = anywhere (token.Sign sign.Greater)

abbrev equal : Token
equal = anywhere (token.Sign sign.Equal)

after : (most : ℕ) (value : Thing) (trees : List OpenTree) → Ends most (put value trees)
after most value [] = ([], value, refl)
after most value (InTuple before ∷ trees) = let rest = after most (pairs before value) trees in (close_tuple ∷ rest.0, rest.1, rest.2)
after most value (InSequence before ∷ trees) = let rest = after most (pairs (value ∷ before) the_nil) trees in (close_sequence ∷ rest.0, rest.1, rest.2)
after most value (InRecord labels values ∷ trees) =
    let rest = after most (Record (with_fields labels (value ∷ values) NoField)) trees in (close_record ∷ rest.0, rest.1, rest.2)
after most value (InTag tag labels values ∷ trees) =
    let rest = after most (Xml (Atom tag) (Record (with_fields labels (value ∷ values) NoField)) one) trees in (close_tag ∷ one_token ∷ rest.0, rest.1, rest.2)
after most value (InContent tag attributes ∷ trees) = after most (Xml (Atom tag) (Record attributes) value) trees

pub each_ends : (most : ℕ) (expecting : Expecting) (trees : List OpenTree) → Fits expecting trees → Ends most (state expecting trees)
each_ends most AtValue trees fits = let rest = after most one trees in (one_token ∷ rest.0, rest.1, rest.2)
each_ends most AtItem (InSequence before ∷ trees) fits = let rest = after most (pairs before the_nil) trees in (close_sequence ∷ rest.0, rest.1, rest.2)
each_ends most AfterPart (InTuple (last ∷ before) ∷ trees) fits = let rest = after most (pairs before last) trees in (close_tuple ∷ rest.0, rest.1, rest.2)
each_ends most AtField (InRecord labels values ∷ trees) fits =
    let rest = after most (Record (with_fields labels values NoField)) trees in (close_record ∷ rest.0, rest.1, rest.2)
each_ends most AfterField (InRecord labels values ∷ trees) fits =
    let rest = after most (Record (with_fields labels values NoField)) trees in (close_record ∷ rest.0, rest.1, rest.2)
each_ends most AtTag (InTag tag labels values ∷ trees) fits =
    let rest = after most (Xml (Atom (codes "a")) (Record (with_fields labels values NoField)) one) trees in
    (anywhere (token.Word (codes "a")) ∷ close_tag ∷ one_token ∷ rest.0, rest.1, rest.2)
each_ends most AtAttribute (InTag tag labels values ∷ trees) fits =
    let rest = after most (Xml (Atom tag) (Record (with_fields labels values NoField)) one) trees in (close_tag ∷ one_token ∷ rest.0, rest.1, rest.2)
each_ends most AfterAttribute (InTag tag labels values ∷ trees) fits =
    let rest = after most (Xml (Atom tag) (Record (with_fields labels values NoField)) one) trees in (close_tag ∷ one_token ∷ rest.0, rest.1, rest.2)
each_ends most AtEqual (InTag tag labels values ∷ trees) fits =
    let rest = after most (Xml (Atom tag) (Record (with_fields labels (one ∷ values) NoField)) one) trees in
    (equal ∷ one_token ∷ close_tag ∷ one_token ∷ rest.0, rest.1, rest.2)
each_ends most AtEqual (InRecord labels values ∷ trees) fits =
    let rest = after most (Record (with_fields labels (one ∷ values) NoField)) trees in
    (equal ∷ one_token ∷ close_record ∷ rest.0, rest.1, rest.2)
each_ends most (Done value) [] fits = ([], value, refl)
each_ends most AtItem [] fits = absurd fits
each_ends most expecting trees fits = absurd fits
