-- Reading the longest piece: a link between the definition of pieces and the code.
use Prim.Native.Char.{code}
use Rattle.std.specs.Prelude.{◌≤◌, ℕ, suc, List, [], ◌∷◌, length, Bool, true, false, ◌==◌, ◌||◌, if◌then◌else◌, Option}
use Rattle.std.specs.Prelude.{Some, None, option_map}
use Rattle.mus_units.specs.Bytes.{is_digit, is_blank}
use Rattle.abc_notes.specs.Runs.{span, span_all}
use Rattle.abc_notes.specs.Lengths.{length_from, number_at}
use Rattle.abc_notes.specs.Notes.{note_at}
use Rattle.abc_notes.specs.Decorations.{is_deco_letter, deco_of_letter, deco_of_name}
use Rattle.abc_notes.specs.Items.{is_note_byte, name_at}
use Rattle.abc_notes.specs.Chords.{chord_at, is_inside, heads_of, decos_of, senses}
use Rattle.abc_notes.specs.Graces.{grace_at, grace_part_at, body_of}
use Rattle.abc_notes.specs.Parts.{walk}
use Rattle.abc_pieces.specs.Forms.{Form, note_form, rest_form, gap_form, measures_form, chord_form, grace_form}
use Rattle.abc_pieces.specs.Forms.{tuplet_form, slur_form, close_form, tie_form, broken_form, bar_form, ending_form}
use Rattle.abc_pieces.specs.Forms.{letter_form, named_form, says_form, inline_form, cut_form, space_form, passed_form}
use Rattle.abc_pieces.specs.Forms.{lone_form, plus_form, is_ending, is_quoted_byte, is_plus_byte, is_passed, opening}
use Rattle.abc_pieces.specs.Forms.{inline_token, is_after_bar, is_after_broken, token_meant, after}
use Rattle.abc_pieces.specs.Bars.{form_at}
use Rattle.abc_pieces.specs.Tuplets.{tuplet_at}
use Rattle.abc_pieces.specs.declared.piece.LinePiece.{LinePiece}
use Rattle.abc_pieces.specs.declared.token.PieceBefore.{PieceBefore}
use Rattle.abc_pieces.specs.declared.token.PieceClass.{PieceClass}
use Rattle.abc_pieces.specs.declared.token.BracketOpening.{BracketOpening}
use Rattle.abc_pieces.specs.declared.token.Token.{Token}
use Rattle.abc_pieces.specs.declared.token.BorrowedToken.{BorrowedToken}

unfoldable pub class_of : ℕ → PieceClass
class_of b =
    if is_note_byte b then PieceClass.Note
    else (if b == code "z" || b == code "x" then PieceClass.Rest
    else (if b == code "y" then PieceClass.Gap
    else (if b == code "Z" || b == code "X" then PieceClass.Measures
    else (if b == code ":" || b == code "|" then PieceClass.Bar
    else (if b == code "." then PieceClass.Dot
    else (if b == code "[" then PieceClass.Bracket
    else (if b == code "{" then PieceClass.Brace
    else (if b == code "(" then PieceClass.Paren
    else (if b == code ")" then PieceClass.Close
    else (if b == code "-" then PieceClass.Tie
    else (if is_digit b then PieceClass.Digit
    else (if b == code ">" || b == code "<" then PieceClass.Broken
    else (if b == code "\"" then PieceClass.Quote
    else (if b == code "!" then PieceClass.Bang
    else (if b == code "+" then PieceClass.Plus
    else (if is_blank b then PieceClass.Blank
    else (if is_deco_letter b then PieceClass.Letter
    else (if b == code "$" then PieceClass.Dollar
    else (if is_passed b then PieceClass.Passed
    else PieceClass.Nothing)))))))))))))))))))

abbrev pub FormAndRest : Type 0
FormAndRest = Option (Form × List ℕ)

abbrev pub read : Form → List ℕ → FormAndRest
read f rest = Some (f, rest)

abbrev pub or_else : FormAndRest → FormAndRest → FormAndRest
or_else (Some x) other = Some x
or_else None other = other

unfoldable pub note_form_read : List ℕ → FormAndRest
note_form_read s = option_map (λ z. (note_form z.0, z.1)) (note_at s)

unfoldable pub rest_read : ℕ → List ℕ → FormAndRest
rest_read b s = let len = length_from s in read (rest_form (b == code "z") len.0) len.1

unfoldable pub gap_read : List ℕ → FormAndRest
gap_read s = let len = length_from s in read (gap_form len.0) len.1

unfoldable pub measures_read : ℕ → List ℕ → FormAndRest
measures_read b s = let count = number_at 3 s in read (measures_form (b == code "Z") count.0) count.1

unfoldable pub bar_read : List ℕ → FormAndRest
bar_read s = option_map (λ z. (bar_form z.0, z.1)) (form_at s)

unfoldable pub chord_read : Bool → List ℕ → FormAndRest
chord_read bang s = option_map (λ z. (chord_form z.0, z.1)) (chord_at bang s)

unfoldable pub grace_read : Bool → List ℕ → FormAndRest
grace_read bang s = option_map (λ z. (grace_form z.0, z.1)) (grace_at bang s)

unfoldable pub tuplet_read : List ℕ → FormAndRest
tuplet_read s = option_map (λ z. (tuplet_form z.0, z.1)) (tuplet_at s)

unfoldable pub ending_read : Bool → List ℕ → FormAndRest
ending_read bracket [] = None
ending_read bracket (b ∷ s) =
    let more = span_all is_ending s in if is_digit b then read (ending_form bracket b more.0) more.1 else None

unfoldable pub broken_read : PieceBefore → ℕ → List ℕ → FormAndRest
broken_read before b s =
    let right = b == code ">" in
    let more = span (λ x. x == b) 2 s in
    if is_after_broken right before then None else read (broken_form right (suc (length more.0))) more.1

abbrev pub closed : (List ℕ → Form) → List ℕ × List ℕ → FormAndRest
closed form (text, []) = None
closed form (text, _ ∷ rest) = read (form text) rest

unfoldable pub says_read : List ℕ → FormAndRest
says_read s = closed says_form (span_all is_quoted_byte s)

abbrev pub plus_closed : List ℕ → List ℕ × List ℕ → FormAndRest
plus_closed s (text, []) = read (passed_form (code "+")) s
plus_closed s (text, mark ∷ rest) =
    if mark == code "+" then read (plus_form text) rest else read (passed_form (code "+")) s

unfoldable pub plus_read : List ℕ → FormAndRest
plus_read s = plus_closed s (span_all is_plus_byte s)

unfoldable pub inline_read : List ℕ → FormAndRest
inline_read [] = None
inline_read (letter ∷ []) = None
inline_read (letter ∷ colon ∷ s) = closed (inline_form letter) (span_all is_inside s)

unfoldable pub space_read : ℕ → List ℕ → FormAndRest
space_read b s = let more = span_all is_blank s in read (space_form b more.0) more.1

abbrev pub named_or_lone : Option (List ℕ × List ℕ) → List ℕ → FormAndRest
named_or_lone None s = read lone_form s
named_or_lone (Some z) s = read (named_form z.0) z.1

unfoldable pub bang_read : Bool → List ℕ → FormAndRest
bang_read true s = read (cut_form (code "!")) s
bang_read false s = named_or_lone (name_at s) s

abbrev pub dot_after : List ℕ → FormAndRest → FormAndRest
dot_after [] other = other
dot_after (b ∷ s) other =
    if b == code "(" then read (slur_form true) s else (if b == code "-" then read (tie_form true) s else other)

unfoldable pub dot_read : List ℕ → FormAndRest
dot_read s = dot_after s (or_else (bar_read (code "." ∷ s)) (read (letter_form (code ".")) s))

abbrev pub bracket_form : BracketOpening → Bool → List ℕ → FormAndRest
bracket_form BracketOpening.Bar bang s = bar_read (code "[" ∷ s)
bracket_form BracketOpening.Ending bang s = ending_read true s
bracket_form BracketOpening.Inline bang s = inline_read s
bracket_form BracketOpening.Chord bang s = chord_read bang s

abbrev pub by_class : PieceClass → Bool → PieceBefore → ℕ → List ℕ → FormAndRest
by_class PieceClass.Note bang before b s = note_form_read (b ∷ s)
by_class PieceClass.Rest bang before b s = rest_read b s
by_class PieceClass.Gap bang before b s = gap_read s
by_class PieceClass.Measures bang before b s = measures_read b s
by_class PieceClass.Bar bang before b s = bar_read (b ∷ s)
by_class PieceClass.Dot bang before b s = dot_read s
by_class PieceClass.Bracket bang before b s = bracket_form (opening s) bang s
by_class PieceClass.Brace bang before b s = grace_read bang s
by_class PieceClass.Paren bang before b s = or_else (tuplet_read s) (read (slur_form false) s)
by_class PieceClass.Close bang before b s = read close_form s
by_class PieceClass.Tie bang before b s = read (tie_form false) s
by_class PieceClass.Digit bang before b s = if is_after_bar before then ending_read false (b ∷ s) else None
by_class PieceClass.Broken bang before b s = broken_read before b s
by_class PieceClass.Quote bang before b s = says_read s
by_class PieceClass.Bang bang before b s = bang_read bang s
by_class PieceClass.Plus bang before b s = plus_read s
by_class PieceClass.Blank bang before b s = space_read b s
by_class PieceClass.Letter bang before b s = read (letter_form b) s
by_class PieceClass.Dollar bang before b s = read (cut_form b) s
by_class PieceClass.Passed bang before b s = read (passed_form b) s
by_class PieceClass.Nothing bang before b s = None

unfoldable pub piece_at : Bool → PieceBefore → List ℕ → FormAndRest
piece_at bang before [] = None
piece_at bang before (b ∷ s) = by_class (class_of b) bang before b s

-- what is found, as a token
abbrev pub token_of : Bool → BorrowedToken → Option Token
token_of bang (BorrowedToken.Note head len) = Some (Token.Note head len)
token_of bang (BorrowedToken.Rest token_and_rest len) = Some (Token.Rest token_and_rest len)
token_of bang (BorrowedToken.Measures token_and_rest count) = Some (Token.Measures token_and_rest count)
token_of bang (BorrowedToken.Chord inside len) =
    let said = senses bang inside.now in
    Some (Token.Chord (record { heads = heads_of said; decos = decos_of said; len = len }))
token_of bang (BorrowedToken.Grace slash inside) =
    Some (Token.Grace slash (body_of (walk (grace_part_at bang) inside.now).0))
token_of bang (BorrowedToken.Tuplet p q r) = Some (Token.Tuplet p q r)
token_of bang BorrowedToken.SlurOn = Some Token.SlurOn
token_of bang BorrowedToken.SlurOff = Some Token.SlurOff
token_of bang BorrowedToken.Tie = Some Token.Tie
token_of bang (BorrowedToken.Broken right dots) = Some (Token.Broken right dots)
token_of bang (BorrowedToken.Bar b) = Some (Token.Bar b)
token_of bang (BorrowedToken.Ending text) = Some (Token.Ending text.now)
token_of bang (BorrowedToken.Letter byte) = Some (Token.Deco (deco_of_letter byte))
token_of bang (BorrowedToken.Named name) = Some (Token.Deco (deco_of_name name.now))
token_of bang (BorrowedToken.Says text) = Some (Token.Says text.now)
token_of bang (BorrowedToken.Inline letter text) = inline_token letter text.now
token_of bang BorrowedToken.Cut = Some Token.Cut
token_of bang BorrowedToken.Space = Some Token.Space
token_of bang BorrowedToken.Passed = None

-- a token, its effect on the next piece, and the rest
abbrev pub token_and_rest : Option Token → PieceBefore → List ℕ → Option Token × PieceBefore × List ℕ
token_and_rest t before rest = (t, before, rest)

abbrev pub shown_piece : Bool → Option LinePiece → Option (Option Token × PieceBefore × List ℕ)
shown_piece bang p = option_map (λ x. token_and_rest (token_of bang x.found) x.after x.rest.now) p

abbrev pub meaning : FormAndRest → Option (Option Token × PieceBefore × List ℕ)
meaning z = option_map (λ x. token_and_rest (token_meant x.0) (after x.0) x.1) z

-- the text of a chord or a grace group has at most the given number of bytes
abbrev pub found_within : BorrowedToken → ℕ → Type 0
found_within (BorrowedToken.Chord inside len) most = length inside.now ≤ most
found_within (BorrowedToken.Grace slash inside) most = length inside.now ≤ most
found_within _ most = Unit {0}
