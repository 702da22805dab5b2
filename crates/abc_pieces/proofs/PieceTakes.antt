-- A piece that is read is at the start of the text.
use Rattle.std.proofs.Common.{◌≡◌, ℕ, suc, Bool, true, false, cond, eqb, List, [], ◌∷◌, ◌++◌, length, Option, Some}
use Rattle.std.proofs.Common.{None, refl, sym, ap, ◌∙◌, arith, ◌&&◌, IfSome, option_map}
use Rattle.std.proofs.lemmas.Bool.{cond_both, or_left, or_right, and_parts, eqb-true, not-false, eq-eqb}
use Rattle.std.specs.List.{list_all}
use Rattle.mus_units.specs.Bytes.{is_digit, is_blank, is_letter}
use Rattle.abc_notes.specs.Runs.{copies, span, span_all, begins}
use Rattle.abc_notes.specs.Notes.{NoteForm, note_at}
use Rattle.abc_notes.specs.Decorations.{is_deco_letter}
use Rattle.abc_notes.specs.Items.{IsName, name_at}
use Rattle.abc_notes.specs.Chords.{ChordForm, chord_at, is_inside}
use Rattle.abc_notes.specs.Graces.{GraceForm, grace_at}
use Rattle.abc_notes.proofs.SpanLaws.{span-takes, span-pass, span-length, span_all-takes, span_all-pass, span_all-after}
use Rattle.abc_notes.proofs.LengthLaws.{length_at-takes, number-takes, number-count}
use Rattle.abc_notes.proofs.NoteLaws.{TakesNote, note_at-takes}
use Rattle.abc_notes.proofs.ItemLaws.{name_at-takes}
use Rattle.abc_notes.proofs.ChordLaws.{TakesChord, chord_at-takes}
use Rattle.abc_notes.proofs.GraceLaws.{TakesGrace, grace_at-takes}
use Rattle.abc_pieces.specs.Forms.{Form, note_form, chord_form, grace_form, tuplet_form, slur_form, tie_form}
use Rattle.abc_pieces.specs.Forms.{broken_form, bar_form, ending_form, letter_form, says_form, inline_form, passed_form}
use Rattle.abc_pieces.specs.Forms.{plus_form, spelled, IsGoodForm, IsAllowed, is_ending, is_quoted_byte, is_plus_byte}
use Rattle.abc_pieces.specs.Forms.{is_passed, arrow, rest_byte, measures_byte, is_after_bar, is_after_broken, opening}
use Rattle.abc_pieces.specs.Reading.{FormAndRest, read, class_of, note_form_read, rest_read, gap_read, measures_read}
use Rattle.abc_pieces.specs.Reading.{bar_read, chord_read, grace_read, tuplet_read, or_else, ending_read, broken_read}
use Rattle.abc_pieces.specs.Reading.{closed, says_read, plus_closed, plus_read, inline_read, space_read, named_or_lone}
use Rattle.abc_pieces.specs.Reading.{bang_read, dot_after, dot_read, bracket_form, by_class, piece_at}
use Rattle.abc_pieces.specs.Bars.{BarForm, form_at}
use Rattle.abc_pieces.specs.Tuplets.{TupletForm, tuplet_at}
use Rattle.abc_pieces.specs.declared.token.PieceBefore.{PieceBefore}
use Rattle.abc_pieces.specs.declared.token.PieceClass.{PieceClass}
use Rattle.abc_pieces.specs.declared.token.BracketOpening.{BracketOpening}
use Rattle.abc_pieces.proofs.TupletLaws.{TakesTuplet, tuplet_at-takes}
use Rattle.abc_pieces.proofs.Classes.{Fact, fact}
use Rattle.abc_pieces.proofs.BarLaws.{TakesIf as TakesBarIf, form_at-takes}

pub record Stands (bang : Bool) (before : PieceBefore) (s : List ℕ) (f : Form) (rest : List ℕ) : Type 0 where
  pub good : IsGoodForm bang f
  pub allowed : IsAllowed before f
  pub cut : s ≡ spelled f rest

abbrev pub Takes : Bool → PieceBefore → List ℕ → FormAndRest → Type 0
Takes bang before s r = IfSome r (λ z. Stands bang before s z.0 z.1)

from_note : (bang : Bool) (before : PieceBefore) (s : List ℕ) (r : Option (NoteForm × List ℕ))
    → TakesNote s r → Takes bang before s (option_map (λ z. (note_form z.0, z.1)) r)
from_note bang before s None t = tt
from_note bang before s (Some z) t = record { good = t.1; allowed = tt; cut = t.0 }

note-takes : (bang : Bool) (before : PieceBefore) (s : List ℕ) → Takes bang before s (note_form_read s)
unfolding note_form_read
note-takes bang before s = from_note bang before s (note_at s) (note_at-takes s)

from_bar : (bang : Bool) (before : PieceBefore) (s : List ℕ) (r : Option (BarForm × List ℕ))
    → TakesBarIf s r → Takes bang before s (option_map (λ z. (bar_form z.0, z.1)) r)
from_bar bang before s None t = tt
from_bar bang before s (Some z) t = record { good = t.good; allowed = tt; cut = t.cut }

bar-takes : (bang : Bool) (before : PieceBefore) (s : List ℕ) → Takes bang before s (bar_read s)
unfolding bar_read
bar-takes bang before s = from_bar bang before s (form_at s) (form_at-takes s)

rest-takes : (bang : Bool) (before : PieceBefore) (b : ℕ) (s : List ℕ)
    → b ≡ rest_byte (eqb b 122) → Takes bang before (b ∷ s) (rest_read b s)
unfolding rest_read
rest-takes bang before b s h =
    let t = length_at-takes s in
    record { good = t.1; allowed = tt; cut = ap (λ x. x ∷ s) h ∙ ap (λ x. rest_byte (eqb b 122) ∷ x) t.0 }

gap-takes : (bang : Bool) (before : PieceBefore) (s : List ℕ) → Takes bang before (121 ∷ s) (gap_read s)
unfolding gap_read
gap-takes bang before s = let t = length_at-takes s in record { good = t.1; allowed = tt; cut = ap (λ x. 121 ∷ x) t.0 }

measures-takes : (bang : Bool) (before : PieceBefore) (b : ℕ) (s : List ℕ)
    → b ≡ measures_byte (eqb b 90) → Takes bang before (b ∷ s) (measures_read b s)
unfolding measures_read
measures-takes bang before b s h = record {
  good = number-count 3 s;
  allowed = tt;
  cut = ap (λ x. x ∷ s) h ∙ ap (λ x. measures_byte (eqb b 90) ∷ x) (number-takes 3 s);
}

either-takes : (bang : Bool) (before : PieceBefore) (s : List ℕ) (r other : FormAndRest)
    → Takes bang before s r → Takes bang before s other → Takes bang before s (or_else r other)
either-takes bang before s (Some z) other p q = p
either-takes bang before s None other p q = q

-- ---- after a bracket
bracket-takes : (bang : Bool) (before : PieceBefore) (s : List ℕ) → Takes bang before (91 ∷ s) (ending_read true s)
unfolding ending_read
bracket-takes bang before [] = tt
bracket-takes bang before (b ∷ s) =
    let more = span_all is_ending s in
    cond_both (is_digit b) (read (ending_form true b more.0) more.1) None (Takes bang before (91 ∷ b ∷ s))
    (λ e. record {
      good = (e, span_all-pass is_ending s);
      allowed = refl;
      cut = ap (λ x. 91 ∷ b ∷ x) (span_all-takes is_ending s);
    })
    (λ e. tt)

pub opening-following : (w x y : List ℕ) → opening (w ++ (93 ∷ x)) ≡ opening (w ++ (93 ∷ y))
opening-following (b ∷ []) x y = refl
opening-following _ x y = refl

from_chord : (bang : Bool) (before : PieceBefore) (s : List ℕ) (r : Option (ChordForm × List ℕ))
    → opening s ≡ BracketOpening.Chord → TakesChord bang s r
    → Takes bang before (91 ∷ s) (option_map (λ z. (chord_form z.0, z.1)) r)
from_chord bang before s None o t = tt
from_chord bang before s (Some z) o t = record {
  good = (t.0, opening-following z.0.inside _ _ ∙ ap opening (sym t.1) ∙ o);
  allowed = tt;
  cut = ap (λ x. 91 ∷ x) t.1;
}

chord-takes : (bang : Bool) (before : PieceBefore) (s : List ℕ)
    → opening s ≡ BracketOpening.Chord → Takes bang before (91 ∷ s) (chord_read bang s)
unfolding chord_read
chord-takes bang before s o = from_chord bang before s (chord_at bang s) o (chord_at-takes bang s)

closed_text-takes : (bang : Bool) (before : PieceBefore) (s : List ℕ) (form : List ℕ → Form) (p : ℕ → Bool)
    (t text following : List ℕ)
    → t ≡ text ++ following → list_all p text ≡ true → begins p following ≡ false
    → ((b : ℕ) (rest : List ℕ)
    → list_all p text ≡ true → t ≡ text ++ (b ∷ rest) → p b ≡ false → Stands bang before s (form text) rest)
    → Takes bang before s (closed form (text, following))
closed_text-takes bang before s form p t text [] e pass stops finish = tt
closed_text-takes bang before s form p t text (b ∷ rest) e pass stops finish = finish b rest pass e stops

inline_text : (bang : Bool) (before : PieceBefore) (l c : ℕ) (t : List ℕ)
    → is_letter l ≡ true → c ≡ 58 → Takes bang before (91 ∷ l ∷ c ∷ t) (inline_read (l ∷ c ∷ t))
unfolding inline_read
inline_text bang before l c t letter colon =
    closed_text-takes bang before (91 ∷ l ∷ c ∷ t) (inline_form l) is_inside t (span_all is_inside t).0
    (span_all is_inside t).1 (span_all-takes is_inside t) (span_all-pass is_inside t) (span_all-after is_inside t)
    (λ b rest pass e stops. record {
      good = (letter, pass);
      allowed = tt;
      cut = ap (λ x. 91 ∷ l ∷ x ∷ t) colon
          ∙ ap (λ x. 91 ∷ l ∷ 58 ∷ x) e
          ∙ ap (λ x. 91 ∷ l ∷ 58 ∷ ((span_all is_inside t).0 ++ (x ∷ rest)))
          (eqb-true b 93 (not-false (eqb b 93) stops));
    })

inline_first : (bang : Bool) (before : PieceBefore) (l : ℕ) (t : List ℕ)
    → is_letter l ≡ true → begins (λ b. eqb b 58) t ≡ true → Takes bang before (91 ∷ l ∷ t) (inline_read (l ∷ t))
inline_first bang before l [] letter h = absurd cc
inline_first bang before l (c ∷ t) letter h = inline_text bang before l c t letter (eqb-true c 58 h)

inline-takes : (bang : Bool) (before : PieceBefore) (s : List ℕ)
    → opening s ≡ BracketOpening.Inline → Takes bang before (91 ∷ s) (inline_read s)
inline-takes bang before [] o = absurd cc
inline-takes bang before (l ∷ t) o =
    cond_both {A = BracketOpening} (eqb l 124) BracketOpening.Bar
    (cond (is_digit l) BracketOpening.Ending
    (cond (is_letter l && begins (λ b. eqb b 58) t) BracketOpening.Inline BracketOpening.Chord))
    (λ k. k ≡ BracketOpening.Inline → Takes bang before (91 ∷ l ∷ t) (inline_read (l ∷ t)))
    (λ e h. absurd cc)
    (λ e.
    cond_both {A = BracketOpening} (is_digit l) BracketOpening.Ending
    (cond (is_letter l && begins (λ b. eqb b 58) t) BracketOpening.Inline BracketOpening.Chord)
    (λ k. k ≡ BracketOpening.Inline → Takes bang before (91 ∷ l ∷ t) (inline_read (l ∷ t)))
    (λ f h. absurd cc)
    (λ f.
    cond_both {A = BracketOpening} (is_letter l && begins (λ b. eqb b 58) t) BracketOpening.Inline BracketOpening.Chord
    (λ k. k ≡ BracketOpening.Inline → Takes bang before (91 ∷ l ∷ t) (inline_read (l ∷ t)))
    (λ g h. let p = and_parts (is_letter l) (begins (λ b. eqb b 58) t) g in inline_first bang before l t p.0 p.1)
    (λ g h. absurd cc)))
    o

opened-takes : (o : BracketOpening) (bang : Bool) (before : PieceBefore) (s : List ℕ)
    → opening s ≡ o → Takes bang before (91 ∷ s) (bracket_form o bang s)
opened-takes BracketOpening.Bar bang before s h = bar-takes bang before (91 ∷ s)
opened-takes BracketOpening.Ending bang before s h = bracket-takes bang before s
opened-takes BracketOpening.Inline bang before s h = inline-takes bang before s h
opened-takes BracketOpening.Chord bang before s h = chord-takes bang before s h

-- ---- the others
from_grace : (bang : Bool) (before : PieceBefore) (s : List ℕ) (r : Option (GraceForm × List ℕ))
    → TakesGrace bang s r → Takes bang before (123 ∷ s) (option_map (λ z. (grace_form z.0, z.1)) r)
from_grace bang before s None t = tt
from_grace bang before s (Some z) t = record { good = t.0; allowed = tt; cut = ap (λ x. 123 ∷ x) t.1 }

grace-takes : (bang : Bool) (before : PieceBefore) (s : List ℕ) → Takes bang before (123 ∷ s) (grace_read bang s)
unfolding grace_read
grace-takes bang before s = from_grace bang before s (grace_at bang s) (grace_at-takes bang s)

from_tuplet : (bang : Bool) (before : PieceBefore) (s : List ℕ) (r : Option (TupletForm × List ℕ))
    → TakesTuplet s r → Takes bang before (40 ∷ s) (option_map (λ z. (tuplet_form z.0, z.1)) r)
from_tuplet bang before s None t = tt
from_tuplet bang before s (Some z) t = record { good = t.0; allowed = tt; cut = ap (λ x. 40 ∷ x) t.1 }

tuplet-takes : (bang : Bool) (before : PieceBefore) (s : List ℕ) → Takes bang before (40 ∷ s) (tuplet_read s)
unfolding tuplet_read
tuplet-takes bang before s = from_tuplet bang before s (tuplet_at s) (tuplet_at-takes s)

digit-takes : (bang : Bool) (before : PieceBefore) (b : ℕ) (s : List ℕ)
    → is_after_bar before ≡ true → Takes bang before (b ∷ s) (ending_read false (b ∷ s))
unfolding ending_read
digit-takes bang before b s h =
    let more = span_all is_ending s in
    cond_both (is_digit b) (read (ending_form false b more.0) more.1) None (Takes bang before (b ∷ s))
    (λ e.
    record { good = (e, span_all-pass is_ending s); allowed = h; cut = ap (λ x. b ∷ x) (span_all-takes is_ending s) })
    (λ e. tt)

same_bytes : (b : ℕ) (xs rest : List ℕ) → list_all (λ x. eqb x b) xs ≡ true → xs ++ rest ≡ copies (length xs) b rest
same_bytes b [] rest h = refl
same_bytes b (x ∷ xs) rest h =
    let p = and_parts _ _ h in
    ap (λ y. y ∷ (xs ++ rest)) (eqb-true x b p.0) ∙ ap (λ y. b ∷ y) (same_bytes b xs rest p.1)

broken-takes : (bang : Bool) (before : PieceBefore) (b : ℕ) (s : List ℕ)
    → b ≡ arrow (eqb b 62) → Takes bang before (b ∷ s) (broken_read before b s)
unfolding broken_read
broken-takes bang before b s h =
    let right = eqb b 62 in let more = span (λ x. eqb x b) 2 s in
    cond_both (is_after_broken right before) None (read (broken_form right (suc (length more.0))) more.1)
    (Takes bang before (b ∷ s))
    (λ e. tt)
    (λ e. record {
      good = (omega arith, omega (arith, span-length (λ x. eqb x b) 2 s));
      allowed = e;
      cut =
          ap (λ x. b ∷ x) (span-takes (λ x. eqb x b) 2 s ∙ same_bytes b more.0 more.1 (span-pass (λ x. eqb x b) 2 s))
          ∙ ap (λ x. copies (suc (length more.0)) x more.1) h;
    })

says-takes : (bang : Bool) (before : PieceBefore) (s : List ℕ) → Takes bang before (34 ∷ s) (says_read s)
unfolding says_read
says-takes bang before s =
    closed_text-takes bang before (34 ∷ s) says_form is_quoted_byte s (span_all is_quoted_byte s).0
    (span_all is_quoted_byte s).1 (span_all-takes is_quoted_byte s) (span_all-pass is_quoted_byte s)
    (span_all-after is_quoted_byte s)
    (λ b rest pass e stops. record {
      good = pass;
      allowed = tt;
      cut = ap (λ x. 34 ∷ x) e
          ∙ ap (λ x. 34 ∷ ((span_all is_quoted_byte s).0 ++ (x ∷ rest))) (eqb-true b 34 (not-false (eqb b 34) stops));
    })

alone-plus : (bang : Bool) (before : PieceBefore) (s : List ℕ) → Stands bang before (43 ∷ s) (passed_form 43) s
alone-plus bang before s = record { good = refl; allowed = tt; cut = refl }

plus_text : (bang : Bool) (before : PieceBefore) (s text following : List ℕ)
    → s ≡ text ++ following → list_all is_plus_byte text ≡ true
    → Takes bang before (43 ∷ s) (plus_closed s (text, following))
plus_text bang before s text [] e pass = alone-plus bang before s
plus_text bang before s text (mark ∷ rest) e pass =
    cond_both (eqb mark 43) (read (plus_form text) rest) (read (passed_form 43) s) (Takes bang before (43 ∷ s))
    (λ h. record {
      good = pass;
      allowed = tt;
      cut = ap (λ x. 43 ∷ x) e ∙ ap (λ x. 43 ∷ (text ++ (x ∷ rest))) (eqb-true mark 43 h);
    })
    (λ h. alone-plus bang before s)

plus-takes : (bang : Bool) (before : PieceBefore) (s : List ℕ) → Takes bang before (43 ∷ s) (plus_read s)
unfolding plus_read
plus-takes bang before s =
    plus_text bang before s (span_all is_plus_byte s).0 (span_all is_plus_byte s).1 (span_all-takes is_plus_byte s)
    (span_all-pass is_plus_byte s)

space-takes : (bang : Bool) (before : PieceBefore) (b : ℕ) (s : List ℕ)
    → is_blank b ≡ true → Takes bang before (b ∷ s) (space_read b s)
unfolding space_read
space-takes bang before b s h =
    record { good = (h, span_all-pass is_blank s); allowed = tt; cut = ap (λ x. b ∷ x) (span_all-takes is_blank s) }

named-takes : (before : PieceBefore) (s : List ℕ) (r : Option (List ℕ × List ℕ))
    → IfSome r (λ z. IsName z.0 × (s ≡ z.0 ++ (33 ∷ z.1))) → Takes false before (33 ∷ s) (named_or_lone r s)
named-takes before s None t = record { good = refl; allowed = tt; cut = refl }
named-takes before s (Some z) t = record { good = (refl, t.0); allowed = tt; cut = ap (λ x. 33 ∷ x) t.1 }

bang-takes : (bang : Bool) (before : PieceBefore) (s : List ℕ) → Takes bang before (33 ∷ s) (bang_read bang s)
unfolding bang_read
bang-takes true before s = record { good = refl; allowed = tt; cut = refl }
bang-takes false before s = named-takes before s (name_at s) (name_at-takes s)

dot_after-takes : (bang : Bool) (before : PieceBefore) (s : List ℕ) (other : FormAndRest)
    → Takes bang before (46 ∷ s) other → Takes bang before (46 ∷ s) (dot_after s other)
dot_after-takes bang before [] other t = t
dot_after-takes bang before (b ∷ s) other t =
    cond_both (eqb b 40) (read (slur_form true) s) (cond (eqb b 45) (read (tie_form true) s) other)
    (Takes bang before (46 ∷ b ∷ s))
    (λ e. record { good = tt; allowed = tt; cut = ap (λ x. 46 ∷ x ∷ s) (eqb-true b 40 e) })
    (λ e. cond_both (eqb b 45) (read (tie_form true) s) other (Takes bang before (46 ∷ b ∷ s))
    (λ f. record { good = tt; allowed = tt; cut = ap (λ x. 46 ∷ x ∷ s) (eqb-true b 45 f) })
    (λ f. t))

dot-takes : (bang : Bool) (before : PieceBefore) (s : List ℕ) → Takes bang before (46 ∷ s) (dot_read s)
unfolding dot_read
dot-takes bang before s =
    dot_after-takes bang before s _
    (either-takes bang before (46 ∷ s) (bar_read (46 ∷ s)) (read (letter_form 46) s) (bar-takes bang before (46 ∷ s))
    (record { good = refl; allowed = tt; cut = refl }))

by-takes : (c : PieceClass) (bang : Bool) (before : PieceBefore) (b : ℕ) (s : List ℕ)
    → Fact c b → Takes bang before (b ∷ s) (by_class c bang before b s)
by-takes PieceClass.Note bang before b s h = note-takes bang before (b ∷ s)
by-takes PieceClass.Rest bang before b s h = rest-takes bang before b s h
by-takes PieceClass.Gap bang before b s h = rw h (gap-takes bang before s)
by-takes PieceClass.Measures bang before b s h = measures-takes bang before b s h
by-takes PieceClass.Bar bang before b s h = bar-takes bang before (b ∷ s)
by-takes PieceClass.Dot bang before b s h = rw h (dot-takes bang before s)
by-takes PieceClass.Bracket bang before b s h = rw h (opened-takes (opening s) bang before s refl)
by-takes PieceClass.Brace bang before b s h = rw h (grace-takes bang before s)
by-takes PieceClass.Paren bang before b s h =
    rw h (either-takes bang before (40 ∷ s) (tuplet_read s) (read (slur_form false) s) (tuplet-takes bang before s)
    (record { good = tt; allowed = tt; cut = refl }))
by-takes PieceClass.Close bang before b s h = record { good = tt; allowed = tt; cut = ap (λ x. x ∷ s) h }
by-takes PieceClass.Tie bang before b s h = record { good = tt; allowed = tt; cut = ap (λ x. x ∷ s) h }
by-takes PieceClass.Digit bang before b s h =
    cond_both (is_after_bar before) (ending_read false (b ∷ s)) None (Takes bang before (b ∷ s))
    (λ e. digit-takes bang before b s e) (λ e. tt)
by-takes PieceClass.Broken bang before b s h = broken-takes bang before b s h
by-takes PieceClass.Quote bang before b s h = rw h (says-takes bang before s)
by-takes PieceClass.Bang bang before b s h = rw h (bang-takes bang before s)
by-takes PieceClass.Plus bang before b s h = rw h (plus-takes bang before s)
by-takes PieceClass.Blank bang before b s h = space-takes bang before b s h
by-takes PieceClass.Letter bang before b s h =
    record { good = or_right (eqb b 46) (is_deco_letter b) h; allowed = tt; cut = refl }
by-takes PieceClass.Dollar bang before b s h =
    record { good = or_left (eqb b 36) (bang && eqb b 33) (eq-eqb b 36 h); allowed = tt; cut = refl }
by-takes PieceClass.Passed bang before b s h =
    record { good = or_left (is_passed b) (eqb b 43) h; allowed = tt; cut = refl }
by-takes PieceClass.Nothing bang before b s h = tt

pub piece_at-takes : (bang : Bool) (before : PieceBefore) (s : List ℕ) → Takes bang before s (piece_at bang before s)
unfolding piece_at
piece_at-takes bang before [] = tt
piece_at-takes bang before (b ∷ s) = by-takes (class_of b) bang before b s (fact b)
