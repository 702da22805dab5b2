-- If a backquote or nothing follows, a piece in its plain spelling is read as itself.
use Rattle.std.proofs.Common.{◌≡◌, ℕ, zero, suc, ◌≤◌, Bool, true, false, eqb, List, [], ◌∷◌, ◌++◌, length, Option, Some}
use Rattle.std.proofs.Common.{None, refl, sym, ap, ◌∙◌, arith, inl, inr, not, option_map, append-nil}
use Rattle.std.proofs.lemmas.Bool.{and_parts, ne_eqb, both_ways, not-true}
use Rattle.std.specs.List.{list_all}
use Rattle.mus_units.specs.declared.pitch.Alter.{Alter}
use Rattle.mus_units.specs.declared.pitch.Letter.{Letter}
use Rattle.mus_units.specs.Bytes.{is_digit, is_blank, is_letter}
use Rattle.mus_units.specs.declared.pitch.Alter.TheVariants.{Sharp2}
use Rattle.mus_units.specs.declared.pitch.Letter.TheVariants.{C}
use Rattle.abc_notes.specs.Runs.{copies, maybe, span, begins}
use Rattle.abc_notes.specs.Lengths.{LengthForm, length_then, length_from, IsWrittenLength, IsCount, number_at}
use Rattle.abc_notes.specs.Notes.{NoteForm, note_then, sign_then, letter_byte, IsNote, note_at}
use Rattle.abc_notes.specs.Items.{IsName, is_note_byte}
use Rattle.abc_notes.specs.Chords.{ChordForm, chord_then, is_inside, IsChord, chord_at}
use Rattle.abc_notes.specs.Graces.{GraceForm, IsGrace, is_slash_byte}
use Rattle.abc_notes.proofs.RunLaws.{skip-yes}
use Rattle.abc_notes.proofs.SpanLaws.{span-cons, span-zero, span-stops, span_all-append, span_all-stops}
use Rattle.abc_notes.proofs.LengthLaws.{goes_on, length_at-reaches, count-reads, count-stops}
use Rattle.abc_notes.proofs.NoteLaws.{note_goes_on, note_at-reaches}
use Rattle.abc_notes.proofs.ItemLaws.{name_at-reads}
use Rattle.abc_notes.proofs.GraceLaws.{grace-reads, has_lone_part}
use Rattle.abc_notes.proofs.ChordLaws.{chord-reads, has_lone}
use Rattle.abc_pieces.specs.Bars.{BarForm, signs, colons, form_at, spelled as bar_then, IsGoodBar as IsBar}
use Rattle.abc_pieces.specs.Forms.{Form, note_form, rest_form, measures_form, chord_form, grace_form, tuplet_form}
use Rattle.abc_pieces.specs.Forms.{slur_form, broken_form, bar_form, ending_form, letter_form, named_form, says_form}
use Rattle.abc_pieces.specs.Forms.{inline_form, space_form, spelled, is_ending, is_quoted_byte, arrow, opening}
use Rattle.abc_pieces.specs.Reading.{FormAndRest, read, class_of, note_form_read, rest_read, measures_read, bar_read}
use Rattle.abc_pieces.specs.Reading.{chord_read, grace_read, tuplet_read, or_else, ending_read, broken_read, says_read}
use Rattle.abc_pieces.specs.Reading.{inline_read, space_read, bang_read, dot_read, bracket_form, piece_at}
use Rattle.abc_pieces.specs.Tuplets.{with_r, tuplet_then, tuplet_at, IsTuplet}
use Rattle.abc_pieces.specs.declared.token.PieceBefore.{PieceBefore}
use Rattle.abc_pieces.specs.declared.token.BracketOpening.{BracketOpening}
use Rattle.abc_pieces.proofs.BarLaws.{form_at-reaches, goes_on as bar_goes_on}
use Rattle.abc_pieces.proofs.Classes.{digit_below, letter_apart}
use Rattle.abc_pieces.proofs.PieceTakes.{opening-following}

pub data Stops : List ℕ → Type 0 where
  at_end : Stops []
  at_quote : (y : List ℕ) → Stops (96 ∷ y)

pub stop : (p : ℕ → Bool) (x : List ℕ) → p 96 ≡ false → Stops x → begins p x ≡ false
stop p _ h at_end = refl
stop p _ h (at_quote y) = h

-- the piece is read as itself
abbrev pub IsExact : Form → List ℕ → Type 0
IsExact f x = piece_at false PieceBefore.Other (spelled f x) ≡ read f x

-- ---- lengths and notes
abbrev len_pair : LengthForm → List ℕ → LengthForm × List ℕ
len_pair f x = (f, x)

pub len_exact : (f : LengthForm) (x : List ℕ)
    → IsWrittenLength f → begins goes_on x ≡ false → length_from (length_then f x) ≡ len_pair f x
len_exact f x good h = elim (length_at-reaches f x good) [
  | inl shorter ↦ absurd (both_ways (begins goes_on x) h shorter.1)
  | inr same ↦ same
]

abbrev note_pair : NoteForm → List ℕ → NoteForm × List ℕ
note_pair f x = (f, x)

pub note_exact : (f : NoteForm) (x : List ℕ)
    → IsNote f → begins note_goes_on x ≡ false → note_at (note_then f x) ≡ Some (note_pair f x)
note_exact f x good h =
    let r = note_at-reaches f x good in
    elim r.2 [ inl shorter ↦ absurd (both_ways (begins note_goes_on x) h shorter.1) | inr same ↦ r.1 ∙ ap Some same ]

-- the first byte of a head
pub record First (s : List ℕ) : Type 0 where
  pub byte : ℕ
  pub rest : List ℕ
  pub is : s ≡ byte ∷ rest
  pub note : is_note_byte byte ≡ true
  pub stops : note_goes_on byte ≡ false
  pub bracket : eqb byte 91 ≡ false
  pub slash : is_slash_byte byte ≡ false

first : (b : ℕ) (u : List ℕ)
    → is_note_byte b ≡ true → note_goes_on b ≡ false → eqb b 91 ≡ false → is_slash_byte b ≡ false → First (b ∷ u)
first b u h k l m = record { byte = b; rest = u; is = refl; note = h; stops = k; bracket = l; slash = m }

pub first_is : (sign : Option Alter) (low : Bool) (l : Letter) (t : List ℕ)
    → First (sign_then sign (letter_byte low l ∷ t))
first_is (Some Sharp2) low l t = first _ _ refl refl refl refl
first_is None false C t = first _ _ refl refl refl refl
first_is None _ C t = first _ _ refl refl refl refl
first_is _ _ _ t = first _ _ refl refl refl refl

note_class : (before : PieceBefore) (b : ℕ) (u : List ℕ)
    → is_note_byte b ≡ true → piece_at false before (b ∷ u) ≡ note_form_read (b ∷ u)
unfolding piece_at class_of
note_class before b u h = rw h refl

abbrev form_pair : Form → List ℕ → Form × List ℕ
form_pair f x = (f, x)

note_is_read : (f : NoteForm) (x : List ℕ)
    → IsNote f → begins note_goes_on x ≡ false → note_form_read (note_then f x) ≡ read (note_form f) x
unfolding note_form_read
note_is_read f x good h =
    ap (option_map (λ (z : NoteForm × List ℕ). form_pair (note_form z.0) z.1)) (note_exact f x good h)

pub note_piece : (f : NoteForm) (x : List ℕ) → IsNote f → Stops x → IsExact (note_form f) x
note_piece f x good h =
    let b = first_is f.sign f.low f.letter (f.marks ++ length_then f.length x) in
    ap (piece_at false PieceBefore.Other) b.is
    ∙ note_class PieceBefore.Other b.byte b.rest b.note
    ∙ ap note_form_read (sym b.is)
    ∙ note_is_read f x good (stop note_goes_on x refl h)

pub rest_piece : (seen : Bool) (len : LengthForm) (x : List ℕ)
    → IsWrittenLength len → Stops x → IsExact (rest_form seen len) x
unfolding piece_at class_of rest_read
rest_piece true len x good h = rw (len_exact len x good (stop goes_on x refl h)) refl
rest_piece false len x good h = rw (len_exact len x good (stop goes_on x refl h)) refl

abbrev count_pair : List ℕ → List ℕ → List ℕ × List ℕ
count_pair c x = (c, x)

count_exact : (most : ℕ) (c x : List ℕ) → IsCount most c → Stops x → number_at most (c ++ x) ≡ count_pair c x
count_exact most c x good h = elim (count-reads most c x good) [
  | inl shorter ↦ absurd (both_ways (begins is_digit x) (stop is_digit x refl h) shorter.1)
  | inr same ↦ same
]

pub measures_piece : (seen : Bool) (c x : List ℕ) → IsCount 3 c → Stops x → IsExact (measures_form seen c) x
unfolding piece_at class_of measures_read
measures_piece true c x good h = rw (count_exact 3 c x good h) refl
measures_piece false c x good h = rw (count_exact 3 c x good h) refl

-- ---- tuplets, slurs, ties, arrows
tuplet_exact : (p : ℕ) (q r x : List ℕ)
    → IsTuplet (with_r p q r) → Stops x → tuplet_at (tuplet_then (with_r p q r) x) ≡ Some (with_r p q r, x)
unfolding tuplet_at
tuplet_exact p q r x good h =
    rw (
      good.0,
      skip-yes 58 (q ++ (58 ∷ (r ++ x))),
      count-stops 1 q 58 (r ++ x) refl good.1,
      skip-yes 58 (r ++ x),
      count_exact 2 r x good.2 h,
    ) refl

pub tuplet_piece : (p : ℕ) (q r x : List ℕ) → IsTuplet (with_r p q r) → Stops x → IsExact (tuplet_form (with_r p q r)) x
unfolding piece_at class_of tuplet_read
tuplet_piece p q r x good h = rw (tuplet_exact p q r x good h) refl

pub slur_piece : (x : List ℕ) → Stops x → IsExact (slur_form false) x
unfolding piece_at class_of tuplet_read tuplet_at
slur_piece _ at_end = refl
slur_piece _ (at_quote y) = refl

abbrev is_it : ℕ → ℕ → Bool
is_it b y = eqb y b

arrows : (right : Bool) (k : ℕ) (x : List ℕ)
    → suc k ≤ 3 → Stops x
    → span (is_it (arrow right)) 2 (copies k (arrow right) x) ≡ count_pair (copies k (arrow right) []) x
arrows true zero x few h = span-stops (is_it 62) 2 x (stop (is_it 62) x refl h)
arrows true (suc zero) x few h =
    rw (span-cons (is_it 62) 1 62 x, span-stops (is_it 62) 1 x (stop (is_it 62) x refl h)) refl
arrows true (suc (suc zero)) x few h =
    rw (span-cons (is_it 62) 1 62 (62 ∷ x), span-cons (is_it 62) 0 62 x, span-zero (is_it 62) x) refl
arrows true (suc (suc (suc k))) x few h = absurd (omega (arith, few))
arrows false zero x few h = span-stops (is_it 60) 2 x (stop (is_it 60) x refl h)
arrows false (suc zero) x few h =
    rw (span-cons (is_it 60) 1 60 x, span-stops (is_it 60) 1 x (stop (is_it 60) x refl h)) refl
arrows false (suc (suc zero)) x few h =
    rw (span-cons (is_it 60) 1 60 (60 ∷ x), span-cons (is_it 60) 0 60 x, span-zero (is_it 60) x) refl
arrows false (suc (suc (suc k))) x few h = absurd (omega (arith, few))

length-copies : (b k : ℕ) → length (copies k b []) ≡ k
length-copies b zero = refl
length-copies b (suc k) = ap suc (length-copies b k)

arrows_piece : (right : Bool) (k : ℕ) (x : List ℕ) → suc k ≤ 3 → Stops x → IsExact (broken_form right (suc k)) x
unfolding piece_at class_of broken_read
arrows_piece true k x few h = rw (arrows true k x few h, length-copies 62 k) refl
arrows_piece false k x few h = rw (arrows false k x few h, length-copies 60 k) refl

pub broken_piece : (right : Bool) (k : ℕ) (x : List ℕ) → 1 ≤ k → k ≤ 3 → Stops x → IsExact (broken_form right k) x
broken_piece right zero x some few h = absurd (omega (arith, some))
broken_piece right (suc k) x some few h = arrows_piece right k x few h

-- ---- bars
bar_is_read : (f : BarForm) (x : List ℕ) → IsBar f → Stops x → bar_read (bar_then f x) ≡ read (bar_form f) x
unfolding bar_read
bar_is_read f x good h =
    let r = form_at-reaches f x good in
    let is : form_at (bar_then f x) ≡ Some (f, x) = elim r.2 [
      | inl shorter ↦ absurd (both_ways (begins bar_goes_on x) (stop bar_goes_on x refl h) shorter.1)
      | inr same ↦ r.1 ∙ ap Some same
    ] in
    ap (option_map (λ (z : BarForm × List ℕ). form_pair (bar_form z.0) z.1)) is

after_dot : (b : ℕ) (o : Bool) (m : ℕ) (c : Bool) (a : ℕ) (x : List ℕ)
    → let s = copies b 58 (maybe o 91 (copies (suc m) 124 (maybe c 93 (copies a 58 x)))) in
    dot_read s ≡ or_else (bar_read (46 ∷ s)) (read (letter_form 46) s)
unfolding dot_read
after_dot zero true m c a x = refl
after_dot zero false m c a x = refl
after_dot (suc b) o m c a x = refl

wins : (r other : FormAndRest) (z : Form × List ℕ) → r ≡ Some z → or_else r other ≡ Some z
wins r other z e = rw e refl

pub bar_piece : (f : BarForm) (x : List ℕ) → IsBar f → Stops x → IsExact (bar_form f) x
unfolding piece_at class_of
bar_piece (signs d b o zero c a) x good h = absurd (omega (arith, good))
bar_piece (signs true b o (suc m) c a) x good h =
    after_dot b o m c a x ∙ wins _ _ _ (bar_is_read (signs true b o (suc m) c a) x good h)
bar_piece (signs false (suc b) o (suc m) c a) x good h = bar_is_read (signs false (suc b) o (suc m) c a) x good h
bar_piece (signs false zero true (suc m) c a) x good h = bar_is_read (signs false zero true (suc m) c a) x good h
bar_piece (signs false zero false (suc m) c a) x good h = bar_is_read (signs false zero false (suc m) c a) x good h
bar_piece (colons zero) x good h = absurd (omega (arith, good))
bar_piece (colons (suc n)) x good h = bar_is_read (colons (suc n)) x good h

-- ---- texts
opened_ending : (d : ℕ) (t : List ℕ)
    → is_digit d ≡ true → bracket_form (opening (d ∷ t)) false (d ∷ t) ≡ ending_read true (d ∷ t)
opened_ending d t digit = rw (ne_eqb d 124 (let lt = digit_below d digit in omega arith), digit) refl

ending_is_read : (d : ℕ) (more x : List ℕ)
    → is_digit d ≡ true → list_all is_ending more ≡ true → Stops x
    → ending_read true (d ∷ (more ++ x)) ≡ read (ending_form true d more) x
unfolding ending_read
ending_is_read d more x digit pass h =
    rw (digit, span_all-append is_ending more x pass, span_all-stops is_ending x (stop is_ending x refl h), append-nil)
    refl

pub ending_piece : (d : ℕ) (more x : List ℕ)
    → is_digit d ≡ true → list_all is_ending more ≡ true → Stops x → IsExact (ending_form true d more) x
unfolding piece_at class_of
ending_piece d more x digit pass h = opened_ending d (more ++ x) digit ∙ ending_is_read d more x digit pass h

pub named_piece : (name x : List ℕ) → IsName name → IsExact (named_form name) x
unfolding piece_at class_of bang_read
named_piece name x good = rw (name_at-reads name x good) refl

pub says_piece : (text x : List ℕ) → list_all is_quoted_byte text ≡ true → IsExact (says_form text) x
unfolding piece_at class_of says_read
says_piece text x pass =
    rw (span_all-append is_quoted_byte text (34 ∷ x) pass, span_all-stops is_quoted_byte (34 ∷ x) refl, append-nil) refl

opened_inline : (l : ℕ) (t : List ℕ)
    → is_letter l ≡ true → bracket_form (opening (l ∷ 58 ∷ t)) false (l ∷ 58 ∷ t) ≡ inline_read (l ∷ 58 ∷ t)
opened_inline l t letter =
    let p = and_parts (not (eqb l 124)) (not (is_digit l)) (letter_apart l letter) in
    rw (not-true (eqb l 124) p.0, not-true (is_digit l) p.1, letter) refl

inline_is_read : (l : ℕ) (text x : List ℕ)
    → list_all is_inside text ≡ true → inline_read (l ∷ 58 ∷ (text ++ (93 ∷ x))) ≡ read (inline_form l text) x
unfolding inline_read
inline_is_read l text x pass =
    rw (span_all-append is_inside text (93 ∷ x) pass, span_all-stops is_inside (93 ∷ x) refl, append-nil) refl

pub inline_piece : (l : ℕ) (text x : List ℕ)
    → is_letter l ≡ true → list_all is_inside text ≡ true → IsExact (inline_form l text) x
unfolding piece_at class_of
inline_piece l text x letter pass = opened_inline l (text ++ (93 ∷ x)) letter ∙ inline_is_read l text x pass

pub space_piece : (x : List ℕ) → Stops x → IsExact (space_form 32 []) x
unfolding piece_at class_of space_read
space_piece x h = rw (span_all-stops is_blank x (stop is_blank x refl h)) refl

-- ---- chords and graces
abbrev chord_pair : ChordForm → List ℕ → ChordForm × List ℕ
chord_pair f x = (f, x)

pub chord_exact : (f : ChordForm) (x : List ℕ)
    → IsChord false f → has_lone f.parts ≡ false → begins goes_on x ≡ false
    → chord_at false (chord_then f x) ≡ Some (chord_pair f x)
chord_exact f x good whole h = chord-reads false f x good whole ∙ rw (len_exact f.length x good.length h) refl

chord_is_read : (f : ChordForm) (x : List ℕ)
    → IsChord false f → has_lone f.parts ≡ false → Stops x → chord_read false (chord_then f x) ≡ read (chord_form f) x
unfolding chord_read
chord_is_read f x good whole h =
    ap (option_map (λ (z : ChordForm × List ℕ). form_pair (chord_form z.0) z.1))
    (chord_exact f x good whole (stop goes_on x refl h))

opened_chord : (f : ChordForm) (x : List ℕ)
    → opening (chord_then f []) ≡ BracketOpening.Chord
    → bracket_form (opening (chord_then f x)) false (chord_then f x) ≡ chord_read false (chord_then f x)
opened_chord f x h =
    let e : opening (chord_then f x) ≡ BracketOpening.Chord =
    opening-following f.inside (length_then f.length x) (length_then f.length []) ∙ h in
    rw e refl

pub chord_piece : (f : ChordForm) (x : List ℕ)
    → IsChord false f → has_lone f.parts ≡ false → opening (chord_then f []) ≡ BracketOpening.Chord → Stops x
    → IsExact (chord_form f) x
unfolding piece_at class_of
chord_piece f x good whole o h = opened_chord f x o ∙ chord_is_read f x good whole h

pub grace_piece : (f : GraceForm) (x : List ℕ)
    → IsGrace false f → has_lone_part f.parts ≡ false → IsExact (grace_form f) x
unfolding piece_at class_of grace_read
grace_piece f x good whole =
    ap (option_map (λ (z : GraceForm × List ℕ). form_pair (grace_form z.0) z.1)) (grace-reads false f x good whole)
