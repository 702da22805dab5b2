-- A piece that is read is at least as long as each piece at the same place.
use Rattle.std.proofs.Common.{◌≡◌, ℕ, zero, suc, ◌+◌, ◌-◌, ◌≤◌, ◌<◌, Bool, true, false, cond, eqb, List, [], ◌∷◌, ◌++◌}
use Rattle.std.proofs.Common.{length, Option, Some, None, refl, ap, ◌∙◌, subst, arith, inl, inr, ◌⊎◌, ◌||◌, ◌&&◌, not}
use Rattle.std.proofs.Common.{option_map, IfSome, append-nil, length-append}
use Rattle.std.proofs.lemmas.Bool.{cond_both, or_cases, and_parts, eqb-true, ne_eqb, both_ways, eq-eqb, not-true}
use Rattle.std.specs.List.{list_all}
use Rattle.mus_units.specs.declared.pitch.Alter.{Alter}
use Rattle.mus_units.specs.declared.pitch.Letter.{Letter}
use Rattle.mus_units.specs.Bytes.{is_digit, is_blank, is_letter}
use Rattle.mus_units.specs.declared.pitch.Alter.TheVariants.{Sharp2}
use Rattle.mus_units.specs.declared.pitch.Letter.TheVariants.{C}
use Rattle.abc_notes.specs.Runs.{copies, maybe, span, span_all}
use Rattle.abc_notes.specs.Lengths.{LengthForm, length_then, length_from, IsWrittenLength, IsCount, number_at}
use Rattle.abc_notes.specs.Notes.{NoteForm, note_then, sign_then, letter_byte, IsNote}
use Rattle.abc_notes.specs.Decorations.{is_deco_letter}
use Rattle.abc_notes.specs.Items.{IsName, name_at, is_letter_inside}
use Rattle.abc_notes.specs.Chords.{ChordForm, chord_then, is_inside, IsChord}
use Rattle.abc_notes.specs.Graces.{GraceForm, grace_then, IsGrace}
use Rattle.abc_notes.proofs.SpanLaws.{span-append, span-less, span_all-append, span_all-less, span_all-stops}
use Rattle.abc_notes.proofs.SpanLaws.{span_all-takes}
use Rattle.abc_notes.proofs.LengthLaws.{length_at-reaches, count-reads}
use Rattle.abc_notes.proofs.NoteLaws.{note_at-reaches}
use Rattle.abc_notes.proofs.ItemLaws.{name_at-takes, name_at-reads}
use Rattle.abc_notes.proofs.InnerLaws.{length-copies_then, length-maybe, length-length_then, note-longer}
use Rattle.abc_notes.proofs.ChordLaws.{chord_at-reaches, chord-longer}
use Rattle.abc_notes.proofs.GraceLaws.{grace_at-reaches, grace-longer}
use Rattle.abc_pieces.specs.Bars.{BarForm, signs, colons, form_at, spelled as bar_then, IsGoodBar as IsBar}
use Rattle.abc_pieces.specs.Forms.{Form, note_form, rest_form, gap_form, measures_form, chord_form, grace_form}
use Rattle.abc_pieces.specs.Forms.{tuplet_form, slur_form, close_form, tie_form, broken_form, bar_form, ending_form}
use Rattle.abc_pieces.specs.Forms.{letter_form, named_form, says_form, inline_form, cut_form, space_form, passed_form}
use Rattle.abc_pieces.specs.Forms.{lone_form, plus_form, spelled, IsGoodForm, IsAllowed, is_ending, is_quoted_byte}
use Rattle.abc_pieces.specs.Forms.{is_plus_byte, is_passed, arrow, rest_byte, measures_byte, is_after_broken, opening}
use Rattle.abc_pieces.specs.Forms.{is_cut}
use Rattle.abc_pieces.specs.Reading.{FormAndRest, read, class_of, note_form_read, rest_read, gap_read, measures_read}
use Rattle.abc_pieces.specs.Reading.{bar_read, chord_read, grace_read, tuplet_read, or_else, ending_read, broken_read}
use Rattle.abc_pieces.specs.Reading.{says_read, plus_closed, plus_read, inline_read, space_read, named_or_lone}
use Rattle.abc_pieces.specs.Reading.{bang_read, dot_after, dot_read, bracket_form, by_class, piece_at}
use Rattle.abc_pieces.specs.Tuplets.{TupletForm, tuplet_then, tuplet_at, IsTuplet}
use Rattle.abc_pieces.specs.declared.token.PieceBefore.{PieceBefore}
use Rattle.abc_pieces.specs.declared.token.PieceClass.{PieceClass}
use Rattle.abc_pieces.specs.declared.token.BracketOpening.{BracketOpening}
use Rattle.abc_pieces.proofs.BarLaws.{TakesIf as TakesBarIf, form_at-takes, form_at-reaches}
use Rattle.abc_pieces.proofs.TupletLaws.{TakesTuplet, tuplet_at-takes, tuplet_at-reaches, tuplet-longer}
use Rattle.abc_pieces.proofs.Classes.{digit_below, digit_class, blank_class, letter_class, passed_class, letter_apart}
use Rattle.abc_pieces.proofs.PieceTakes.{opening-following}

pub record Reaches (x : List ℕ) (f : Form) (r : FormAndRest) : Type 0 where
  pub form : Form
  pub rest : List ℕ
  pub is : r ≡ read form rest
  pub ends : (length rest < length x) ⊎ (read form rest ≡ read f x)

same : (x : List ℕ) (f : Form) → Reaches x f (read f x)
same x f = record { form = f; rest = x; is = refl; ends = inr refl }

abbrev pair : Form → List ℕ → Form × List ℕ
pair f x = (f, x)

-- a piece is read as far as its part is
reach_by : {F : Type 0} (wrap : F → Form) (f : F) (x : List ℕ) (o : Option (F × List ℕ))
    → ((z : F × List ℕ) × (o ≡ Some z) × ((length z.1 < length x) ⊎ (z ≡ (f, x))))
    → Reaches x (wrap f) (option_map (λ z. pair (wrap z.0) z.1) o)
reach_by wrap f x o r = record {
  form = wrap r.0.0;
  rest = r.0.1;
  is = ap (option_map (λ z. pair (wrap z.0) z.1)) r.1;
  ends = elim r.2 [ inl shorter ↦ inl shorter | inr equal ↦ inr (ap (λ z. read (wrap z.0) z.1) equal) ];
}

note-reaches : (f : NoteForm) (x : List ℕ) → IsNote f → Reaches x (note_form f) (note_form_read (note_then f x))
unfolding note_form_read
note-reaches f x good =
    let r = note_at-reaches f x good in
    reach_by note_form f x _ (r.0, r.1, elim r.2 [ inl shorter ↦ inl shorter.0 | inr equal ↦ inr equal ])

bar-reaches : (f : BarForm) (x : List ℕ) → IsBar f → Reaches x (bar_form f) (bar_read (bar_then f x))
unfolding bar_read
bar-reaches f x good =
    let r = form_at-reaches f x good in
    reach_by bar_form f x _ (r.0, r.1, elim r.2 [ inl shorter ↦ inl shorter.0 | inr equal ↦ inr equal ])

either-reaches : (x : List ℕ) (f : Form) (r other : FormAndRest) → Reaches x f r → Reaches x f (or_else r other)
either-reaches x f (Some z) other t = t
either-reaches x f None other t = absurd (let e = t.is in cc)

seen_is : (seen : Bool) → eqb (rest_byte seen) 122 ≡ seen
seen_is true = refl
seen_is false = refl

whole_is : (seen : Bool) → eqb (measures_byte seen) 90 ≡ seen
whole_is true = refl
whole_is false = refl

rest-reaches : (seen : Bool) (len : LengthForm) (x : List ℕ)
    → IsWrittenLength len → Reaches x (rest_form seen len) (rest_read (rest_byte seen) (length_then len x))
unfolding rest_read
rest-reaches seen len x good =
    let z = length_from (length_then len x) in
    record {
      form = rest_form seen z.0;
      rest = z.1;
      is = rw seen_is refl;
      ends = elim (length_at-reaches len x good) [ inl shorter ↦ inl shorter.0 | inr equal ↦ inr (rw equal refl) ];
    }

gap-reaches : (len : LengthForm) (x : List ℕ)
    → IsWrittenLength len → Reaches x (gap_form len) (gap_read (length_then len x))
unfolding gap_read
gap-reaches len x good =
    let z = length_from (length_then len x) in
    record {
      form = gap_form z.0;
      rest = z.1;
      is = refl;
      ends = elim (length_at-reaches len x good) [ inl shorter ↦ inl shorter.0 | inr equal ↦ inr (rw equal refl) ];
    }

measures-reaches : (seen : Bool) (count x : List ℕ)
    → IsCount 3 count → Reaches x (measures_form seen count) (measures_read (measures_byte seen) (count ++ x))
unfolding measures_read
measures-reaches seen count x good =
    let z = number_at 3 (count ++ x) in
    record {
      form = measures_form seen z.0;
      rest = z.1;
      is = rw whole_is refl;
      ends = elim (count-reads 3 count x good) [ inl shorter ↦ inl shorter.0 | inr equal ↦ inr (rw equal refl) ];
    }

chord-reaches : (bang : Bool) (f : ChordForm) (x : List ℕ)
    → IsChord bang f → Reaches x (chord_form f) (chord_read bang (chord_then f x))
unfolding chord_read
chord-reaches bang f x good = reach_by chord_form f x _ (chord_at-reaches bang f x good)

grace-reaches : (bang : Bool) (f : GraceForm) (x : List ℕ)
    → IsGrace bang f → Reaches x (grace_form f) (grace_read bang (grace_then f x))
unfolding grace_read
grace-reaches bang f x good = reach_by grace_form f x _ (grace_at-reaches bang f x good)

tuplet-reaches : (f : TupletForm) (x : List ℕ) → IsTuplet f → Reaches x (tuplet_form f) (tuplet_read (tuplet_then f x))
unfolding tuplet_read
tuplet-reaches f x good = reach_by tuplet_form f x _ (tuplet_at-reaches f x good)

slur_or : (x : List ℕ) (r : Option (TupletForm × List ℕ))
    → TakesTuplet x r
    → Reaches x (slur_form false)
    (or_else (option_map (λ (z : TupletForm × List ℕ). pair (tuplet_form z.0) z.1) r) (read (slur_form false) x))
slur_or x None t = same x (slur_form false)
slur_or x (Some z) t = record {
  form = tuplet_form z.0;
  rest = z.1;
  is = refl;
  ends = inl (omega (arith, ap length t.1, tuplet-longer z.0 z.1));
}

ending-reaches : (bracket : Bool) (d : ℕ) (more x : List ℕ)
    → is_digit d ≡ true → list_all is_ending more ≡ true
    → Reaches x (ending_form bracket d more) (ending_read bracket (d ∷ (more ++ x)))
unfolding ending_read
ending-reaches bracket d more x digit pass =
    let m = span_all is_ending x in
    record {
      form = ending_form bracket d (more ++ m.0);
      rest = m.1;
      is = rw (digit, span_all-append is_ending more x pass) refl;
      ends = elim (span_all-less is_ending x) [
        | inl shorter ↦ inl shorter.0
        | inr equal ↦ inr (rw (equal, append-nil) refl)
      ];
    }

space-reaches : (b : ℕ) (more x : List ℕ)
    → list_all is_blank more ≡ true → Reaches x (space_form b more) (space_read b (more ++ x))
unfolding space_read
space-reaches b more x pass =
    let m = span_all is_blank x in
    record {
      form = space_form b (more ++ m.0);
      rest = m.1;
      is = rw (span_all-append is_blank more x pass) refl;
      ends = elim (span_all-less is_blank x) [
        | inl shorter ↦ inl shorter.0
        | inr equal ↦ inr (rw (equal, append-nil) refl)
      ];
    }

says-reaches : (text x : List ℕ)
    → list_all is_quoted_byte text ≡ true → Reaches x (says_form text) (says_read (text ++ (34 ∷ x)))
unfolding says_read
says-reaches text x pass = record {
  form = says_form text;
  rest = x;
  is = rw (span_all-append is_quoted_byte text (34 ∷ x) pass, span_all-stops is_quoted_byte (34 ∷ x) refl, append-nil)
      refl;
  ends = inr refl;
}

inline-reaches : (letter : ℕ) (text x : List ℕ)
    → list_all is_inside text ≡ true
    → Reaches x (inline_form letter text) (inline_read (letter ∷ 58 ∷ (text ++ (93 ∷ x))))
unfolding inline_read
inline-reaches letter text x pass = record {
  form = inline_form letter text;
  rest = x;
  is = rw (span_all-append is_inside text (93 ∷ x) pass, span_all-stops is_inside (93 ∷ x) refl, append-nil) refl;
  ends = inr refl;
}

plus-reaches : (text x : List ℕ)
    → list_all is_plus_byte text ≡ true → Reaches x (plus_form text) (plus_read (text ++ (43 ∷ x)))
unfolding plus_read
plus-reaches text x pass = record {
  form = plus_form text;
  rest = x;
  is = rw (span_all-append is_plus_byte text (43 ∷ x) pass, span_all-stops is_plus_byte (43 ∷ x) refl, append-nil) refl;
  ends = inr refl;
}

lone_plus : (x text following : List ℕ)
    → x ≡ text ++ following → Reaches x (passed_form 43) (plus_closed x (text, following))
lone_plus x text [] e = same x (passed_form 43)
lone_plus x text (mark ∷ rest) e =
    cond_both (eqb mark 43) (read (plus_form text) rest) (read (passed_form 43) x) (Reaches x (passed_form 43))
    (λ h. record {
      form = plus_form text;
      rest = rest;
      is = refl;
      ends = inl (omega (arith, ap length e, length-append text (mark ∷ rest)));
    })
    (λ h. same x (passed_form 43))

lone_plus-reaches : (x : List ℕ) → Reaches x (passed_form 43) (plus_read x)
unfolding plus_read
lone_plus-reaches x =
    lone_plus x (span_all is_plus_byte x).0 (span_all is_plus_byte x).1 (span_all-takes is_plus_byte x)

named-reaches : (name x : List ℕ) → IsName name → Reaches x (named_form name) (bang_read false (name ++ (33 ∷ x)))
unfolding bang_read
named-reaches name x good = rw (name_at-reads name x good) (same x (named_form name))

lone_or : (x : List ℕ) (r : Option (List ℕ × List ℕ))
    → IfSome r (λ z. IsName z.0 × (x ≡ z.0 ++ (33 ∷ z.1))) → Reaches x lone_form (named_or_lone r x)
lone_or x None t = same x lone_form
lone_or x (Some z) t = record {
  form = named_form z.0;
  rest = z.1;
  is = refl;
  ends = inl (omega (arith, ap length t.1, length-append z.0 (33 ∷ z.1)));
}

-- ---- arrows
copies-pass : (b k : ℕ) → eqb b b ≡ true → list_all (λ y. eqb y b) (copies k b []) ≡ true
copies-pass b zero h = refl
copies-pass b (suc k) h = rw h (copies-pass b k h)

copies-split : (b k : ℕ) (x : List ℕ) → copies k b x ≡ copies k b [] ++ x
copies-split b zero x = refl
copies-split b (suc k) x = ap (λ t. b ∷ t) (copies-split b k x)

length-copies : (b k : ℕ) → length (copies k b []) ≡ k
length-copies b zero = refl
length-copies b (suc k) = ap suc (length-copies b k)

arrow_is : (right : Bool) → eqb (arrow right) 62 ≡ right
arrow_is true = refl
arrow_is false = refl

arrow_same : (right : Bool) → eqb (arrow right) (arrow right) ≡ true
arrow_same true = refl
arrow_same false = refl

broken-reaches : (before : PieceBefore) (right : Bool) (k : ℕ) (x : List ℕ)
    → is_after_broken right before ≡ false → suc k ≤ 3
    → Reaches x (broken_form right (suc k)) (broken_read before (arrow right) (copies k (arrow right) x))
unfolding broken_read
broken-reaches before right k x allowed few =
    let b = arrow right in
    let p : ℕ → Bool = λ y. eqb y b in
    let own = copies k b [] in
    let n = 2 - k in
    let m = span p n x in
    let two : length own + n ≡ 2 = omega (arith, length-copies b k, few) in
    let spanned : span p 2 (copies k b x) ≡ (own ++ m.0, m.1) = rw (copies-split b k x)
    (subst (λ (l : ℕ). span p l (own ++ x) ≡ (own ++ m.0, m.1)) two
    (span-append p n own x (copies-pass b k (arrow_same right)))) in
    record {
      form = broken_form right (suc (length (own ++ m.0)));
      rest = m.1;
      is = rw (arrow_is right, allowed, spanned) refl;
      ends = elim (span-less p n x) [
        | inl shorter ↦ inl shorter.0
        | inr equal ↦ inr (rw (equal, append-nil, length-copies b k) refl)
      ];
    }

-- ---- by the first byte
at_class : (bang : Bool) (before : PieceBefore) (b : ℕ) (s : List ℕ) (c : PieceClass)
    → class_of b ≡ c → piece_at bang before (b ∷ s) ≡ by_class c bang before b s
unfolding piece_at
at_class bang before b s c h = rw h refl

arrow_class : (right : Bool) → class_of (arrow right) ≡ PieceClass.Broken
unfolding class_of
arrow_class true = refl
arrow_class false = refl

rest_class : (seen : Bool) → class_of (rest_byte seen) ≡ PieceClass.Rest
unfolding class_of
rest_class true = refl
rest_class false = refl

measures_class : (seen : Bool) → class_of (measures_byte seen) ≡ PieceClass.Measures
unfolding class_of
measures_class true = refl
measures_class false = refl

by_sign : (bang : Bool) (before : PieceBefore) (sign : Option Alter) (low : Bool) (l : Letter) (t : List ℕ)
    → let s = sign_then sign (letter_byte low l ∷ t) in piece_at bang before s ≡ note_form_read s
unfolding piece_at class_of
by_sign bang before (Some Sharp2) low l t = refl
by_sign bang before None false C t = refl
by_sign bang before None _ C t = refl
by_sign bang before _ _ _ t = refl

-- a bar after a dot, a bracket, a colon or a bar sign
dotted_bar : (b : ℕ) (o : Bool) (m : ℕ) (c : Bool) (a : ℕ) (x : List ℕ)
    → dot_read (copies b 58 (maybe o 91 (copies (suc m) 124 (maybe c 93 (copies a 58 x))))) ≡
    or_else (bar_read (46 ∷ copies b 58 (maybe o 91 (copies (suc m) 124 (maybe c 93 (copies a 58 x))))))
    (read (letter_form 46) (copies b 58 (maybe o 91 (copies (suc m) 124 (maybe c 93 (copies a 58 x))))))
unfolding dot_read
dotted_bar zero true m c a x = refl
dotted_bar zero false m c a x = refl
dotted_bar (suc b) o m c a x = refl

bar_at-reaches : (bang : Bool) (before : PieceBefore) (f : BarForm) (x : List ℕ)
    → IsBar f → Reaches x (bar_form f) (piece_at bang before (bar_then f x))
unfolding piece_at class_of
bar_at-reaches bang before (signs d b o zero c a) x good = absurd (omega (arith, good))
bar_at-reaches bang before (signs true b o (suc m) c a) x good =
    rw (dotted_bar b o m c a x) (either-reaches x _ _ _ (bar-reaches (signs true b o (suc m) c a) x good))
bar_at-reaches bang before (signs false (suc b) o (suc m) c a) x good =
    bar-reaches (signs false (suc b) o (suc m) c a) x good
bar_at-reaches bang before (signs false zero true (suc m) c a) x good =
    bar-reaches (signs false zero true (suc m) c a) x good
bar_at-reaches bang before (signs false zero false (suc m) c a) x good =
    bar-reaches (signs false zero false (suc m) c a) x good
bar_at-reaches bang before (colons zero) x good = absurd (omega (arith, good))
bar_at-reaches bang before (colons (suc n)) x good = bar-reaches (colons (suc n)) x good

pub length-bar : (f : BarForm) (x : List ℕ) → IsBar f → length x < length (bar_then f x)
length-bar (signs d b o n c a) x good =
    let t = maybe c 93 (copies a 58 x) in let u = maybe o 91 (copies n 124 t) in
    omega (
      arith,
      good,
      length-maybe d 46 (copies b 58 u),
      length-copies_then b 58 u,
      length-maybe o 91 (copies n 124 t),
      length-copies_then n 124 t,
      length-maybe c 93 (copies a 58 x),
      length-copies_then a 58 x,
    )
length-bar (colons n) x good = omega (arith, good, length-copies_then n 58 x)

-- a dot before a bar is part of it
first_is : (b c : ℕ) (s t : List ℕ) → b ∷ s ≡ c ∷ t → b ≡ c
first_is b c s t e = cc

dot_apart : (c : ℕ) (x t : List ℕ) → eqb 46 c ≡ false → 46 ∷ x ≡ c ∷ t → ⊥
dot_apart c x t no_dot e = let is : 46 ≡ c = first_is 46 c x t e in both_ways (eqb 46 c) no_dot (eq-eqb 46 c is)

dot_longer : (f : BarForm) (x rest : List ℕ) → IsBar f → 46 ∷ x ≡ bar_then f rest → length rest < length x
dot_longer (signs d b o zero c a) x rest good e = absurd (omega (arith, good))
dot_longer (signs true b o (suc m) c a) x rest good e =
    let t = maybe c 93 (copies a 58 rest) in let u = maybe o 91 (copies (suc m) 124 t) in
    omega (
      arith,
      ap length e,
      length-copies_then b 58 u,
      length-maybe o 91 (copies (suc m) 124 t),
      length-copies_then (suc m) 124 t,
      length-maybe c 93 (copies a 58 rest),
      length-copies_then a 58 rest,
    )
dot_longer (signs false (suc b) o (suc m) c a) x rest good e = absurd (dot_apart 58 x _ refl e)
dot_longer (signs false zero true (suc m) c a) x rest good e = absurd (dot_apart 91 x _ refl e)
dot_longer (signs false zero false (suc m) c a) x rest good e = absurd (dot_apart 124 x _ refl e)
dot_longer (colons zero) x rest good e = absurd (omega (arith, good))
dot_longer (colons (suc n)) x rest good e = absurd (dot_apart 58 x _ refl e)

letter_or : (x : List ℕ) (r : Option (BarForm × List ℕ))
    → TakesBarIf (46 ∷ x) r
    → Reaches x (letter_form 46)
    (or_else (option_map (λ (z : BarForm × List ℕ). pair (bar_form z.0) z.1) r) (read (letter_form 46) x))
letter_or x None t = same x (letter_form 46)
letter_or x (Some z) t =
    record { form = bar_form z.0; rest = z.1; is = refl; ends = inl (dot_longer z.0 x z.1 t.good t.cut) }

dot_or : (x : List ℕ) → Reaches x (letter_form 46) (or_else (bar_read (46 ∷ x)) (read (letter_form 46) x))
unfolding bar_read
dot_or x = letter_or x (form_at (46 ∷ x)) (form_at-takes (46 ∷ x))

after_dot : (x : List ℕ) (other : FormAndRest)
    → Reaches x (letter_form 46) other → Reaches x (letter_form 46) (dot_after x other)
after_dot [] other t = t
after_dot (b ∷ x) other t =
    cond_both (eqb b 40) (read (slur_form true) x) (cond (eqb b 45) (read (tie_form true) x) other)
    (Reaches (b ∷ x) (letter_form 46))
    (λ e. record { form = slur_form true; rest = x; is = refl; ends = inl (omega arith) })
    (λ e. cond_both (eqb b 45) (read (tie_form true) x) other (Reaches (b ∷ x) (letter_form 46))
    (λ f. record { form = tie_form true; rest = x; is = refl; ends = inl (omega arith) })
    (λ f. t))

letter-reaches : (bang : Bool) (before : PieceBefore) (b : ℕ) (x : List ℕ)
    → is_letter_inside b ≡ true → Reaches x (letter_form b) (piece_at bang before (b ∷ x))
unfolding class_of dot_read
letter-reaches bang before b x h =
    elim (or_cases (eqb b 46) (is_deco_letter b) h) [
      | inl dot ↦ rw (eqb-true b 46 dot, at_class bang before 46 x PieceClass.Dot refl) (after_dot x _ (dot_or x))
      | inr letter ↦ rw (at_class bang before b x PieceClass.Letter (letter_class b letter)) (same x (letter_form b))
    ]

passed-reaches : (bang : Bool) (before : PieceBefore) (b : ℕ) (x : List ℕ)
    → (is_passed b || eqb b 43) ≡ true → Reaches x (passed_form b) (piece_at bang before (b ∷ x))
unfolding class_of
passed-reaches bang before b x h =
    elim (or_cases (is_passed b) (eqb b 43) h) [
      | inl passes ↦ rw (at_class bang before b x PieceClass.Passed (passed_class b passes)) (same x (passed_form b))
      | inr plus ↦ rw (eqb-true b 43 plus, at_class bang before 43 x PieceClass.Plus refl) (lone_plus-reaches x)
    ]

cut-reaches : (bang : Bool) (before : PieceBefore) (b : ℕ) (x : List ℕ)
    → is_cut bang b ≡ true → Reaches x (cut_form b) (piece_at bang before (b ∷ x))
unfolding class_of bang_read
cut-reaches bang before b x h =
    elim (or_cases (eqb b 36) (bang && eqb b 33) h) [
      | inl dollar ↦ rw (eqb-true b 36 dollar, at_class bang before 36 x PieceClass.Dollar refl) (same x (cut_form 36))
      | inr mark ↦
          (let p = and_parts bang (eqb b 33) mark in
          rw (eqb-true b 33 p.1, at_class bang before 33 x PieceClass.Bang refl, p.0) (same x (cut_form 33)))
    ]

-- ---- after a bracket
opened_ending : (bang : Bool) (d : ℕ) (t : List ℕ)
    → is_digit d ≡ true → bracket_form (opening (d ∷ t)) bang (d ∷ t) ≡ ending_read true (d ∷ t)
opened_ending bang d t digit = rw (ne_eqb d 124 (let lt = digit_below d digit in omega arith), digit) refl

opened_inline : (bang : Bool) (l : ℕ) (t : List ℕ)
    → is_letter l ≡ true → bracket_form (opening (l ∷ 58 ∷ t)) bang (l ∷ 58 ∷ t) ≡ inline_read (l ∷ 58 ∷ t)
opened_inline bang l t letter =
    let p = and_parts (not (eqb l 124)) (not (is_digit l)) (letter_apart l letter) in
    rw (not-true (eqb l 124) p.0, not-true (is_digit l) p.1, letter) refl

opened_chord : (bang : Bool) (f : ChordForm) (x : List ℕ)
    → opening (chord_then f []) ≡ BracketOpening.Chord
    → bracket_form (opening (chord_then f x)) bang (chord_then f x) ≡ chord_read bang (chord_then f x)
opened_chord bang f x h =
    let e : opening (chord_then f x) ≡ BracketOpening.Chord =
    opening-following f.inside (length_then f.length x) (length_then f.length []) ∙ h in
    rw e refl

ending_at-reaches : (bang : Bool) (before : PieceBefore) (bracket : Bool) (d : ℕ) (more x : List ℕ)
    → is_digit d ≡ true → list_all is_ending more ≡ true → IsAllowed before (ending_form bracket d more)
    → Reaches x (ending_form bracket d more) (piece_at bang before (spelled (ending_form bracket d more) x))
unfolding class_of
ending_at-reaches bang before true d more x digit pass allowed =
    rw (at_class bang before 91 (d ∷ (more ++ x)) PieceClass.Bracket refl ∙ opened_ending bang d (more ++ x) digit)
    (ending-reaches true d more x digit pass)
ending_at-reaches bang before false d more x digit pass allowed =
    rw (at_class bang before d (more ++ x) PieceClass.Digit (digit_class d digit), allowed)
    (ending-reaches false d more x digit pass)

pub piece_at-reaches : (bang : Bool) (before : PieceBefore) (f : Form) (x : List ℕ)
    → IsGoodForm bang f → IsAllowed before f → Reaches x f (piece_at bang before (spelled f x))
unfolding class_of dot_read bang_read tuplet_read
piece_at-reaches bang before (note_form f) x good allowed =
    rw (by_sign bang before f.sign f.low f.letter (f.marks ++ length_then f.length x)) (note-reaches f x good)
piece_at-reaches bang before (rest_form seen len) x good allowed =
    rw (at_class bang before (rest_byte seen) (length_then len x) PieceClass.Rest (rest_class seen))
    (rest-reaches seen len x good)
piece_at-reaches bang before (gap_form len) x good allowed =
    rw (at_class bang before 121 (length_then len x) PieceClass.Gap refl) (gap-reaches len x good)
piece_at-reaches bang before (measures_form seen count) x good allowed =
    rw (at_class bang before (measures_byte seen) (count ++ x) PieceClass.Measures (measures_class seen))
    (measures-reaches seen count x good)
piece_at-reaches bang before (chord_form f) x good allowed =
    rw (at_class bang before 91 (chord_then f x) PieceClass.Bracket refl ∙ opened_chord bang f x good.1)
    (chord-reaches bang f x good.0)
piece_at-reaches bang before (grace_form f) x good allowed =
    rw (at_class bang before 123 (grace_then f x) PieceClass.Brace refl) (grace-reaches bang f x good)
piece_at-reaches bang before (tuplet_form f) x good allowed =
    rw (at_class bang before 40 (tuplet_then f x) PieceClass.Paren refl)
    (either-reaches x (tuplet_form f) (tuplet_read (tuplet_then f x)) _ (tuplet-reaches f x good))
piece_at-reaches bang before (slur_form true) x good allowed =
    rw (at_class bang before 46 (40 ∷ x) PieceClass.Dot refl) (same x (slur_form true))
piece_at-reaches bang before (slur_form false) x good allowed =
    rw (at_class bang before 40 x PieceClass.Paren refl) (slur_or x (tuplet_at x) (tuplet_at-takes x))
piece_at-reaches bang before close_form x good allowed =
    rw (at_class bang before 41 x PieceClass.Close refl) (same x close_form)
piece_at-reaches bang before (tie_form true) x good allowed =
    rw (at_class bang before 46 (45 ∷ x) PieceClass.Dot refl) (same x (tie_form true))
piece_at-reaches bang before (tie_form false) x good allowed =
    rw (at_class bang before 45 x PieceClass.Tie refl) (same x (tie_form false))
piece_at-reaches bang before (broken_form right zero) x good allowed = absurd (omega (arith, good.0))
piece_at-reaches bang before (broken_form right (suc k)) x good allowed =
    rw (at_class bang before (arrow right) (copies k (arrow right) x) PieceClass.Broken (arrow_class right))
    (broken-reaches before right k x allowed good.1)
piece_at-reaches bang before (bar_form f) x good allowed = bar_at-reaches bang before f x good
piece_at-reaches bang before (ending_form bracket d more) x good allowed =
    ending_at-reaches bang before bracket d more x good.0 good.1 allowed
piece_at-reaches bang before (letter_form b) x good allowed = letter-reaches bang before b x good
piece_at-reaches bang before (named_form name) x good allowed =
    rw (at_class bang before 33 (name ++ (33 ∷ x)) PieceClass.Bang refl, good.0) (named-reaches name x good.1)
piece_at-reaches bang before (says_form text) x good allowed =
    rw (at_class bang before 34 (text ++ (34 ∷ x)) PieceClass.Quote refl) (says-reaches text x good)
piece_at-reaches bang before (inline_form letter text) x good allowed =
    rw (at_class bang before 91 (letter ∷ 58 ∷ (text ++ (93 ∷ x))) PieceClass.Bracket refl
    ∙ opened_inline bang letter (text ++ (93 ∷ x)) good.0)
    (inline-reaches letter text x good.1)
piece_at-reaches bang before (cut_form b) x good allowed = cut-reaches bang before b x good
piece_at-reaches bang before (space_form b more) x good allowed =
    rw (at_class bang before b (more ++ x) PieceClass.Blank (blank_class b good.0)) (space-reaches b more x good.1)
piece_at-reaches bang before (passed_form b) x good allowed = passed-reaches bang before b x good
piece_at-reaches bang before lone_form x good allowed =
    rw (at_class bang before 33 x PieceClass.Bang refl, good) (lone_or x (name_at x) (name_at-takes x))
piece_at-reaches bang before (plus_form text) x good allowed =
    rw (at_class bang before 43 (text ++ (43 ∷ x)) PieceClass.Plus refl) (plus-reaches text x good)

-- ---- a piece has a byte
pub longer : (bang : Bool) (f : Form) (x : List ℕ) → IsGoodForm bang f → length x < length (spelled f x)
longer bang (note_form f) x good = note-longer f x
longer bang (rest_form seen len) x good = omega (arith, length-length_then len x)
longer bang (gap_form len) x good = omega (arith, length-length_then len x)
longer bang (measures_form seen count) x good = omega (arith, length-append count x)
longer bang (chord_form f) x good = omega (arith, chord-longer f x)
longer bang (grace_form f) x good = omega (arith, grace-longer f x)
longer bang (tuplet_form f) x good = omega (arith, tuplet-longer f x)
longer bang (slur_form dotted) x good = omega (arith, length-maybe dotted 46 (40 ∷ x))
longer bang close_form x good = omega arith
longer bang (tie_form dotted) x good = omega (arith, length-maybe dotted 46 (45 ∷ x))
longer bang (broken_form right k) x good = omega (arith, good.0, length-copies_then k (arrow right) x)
longer bang (bar_form f) x good = length-bar f x good
longer bang (ending_form true d more) x good = omega (arith, length-append more x)
longer bang (ending_form false d more) x good = omega (arith, length-append more x)
longer bang (letter_form b) x good = omega arith
longer bang (named_form name) x good = omega (arith, length-append name (33 ∷ x))
longer bang (says_form text) x good = omega (arith, length-append text (34 ∷ x))
longer bang (inline_form l text) x good = omega (arith, length-append text (93 ∷ x))
longer bang (cut_form b) x good = omega arith
longer bang (space_form b more) x good = omega (arith, length-append more x)
longer bang (passed_form b) x good = omega arith
longer bang lone_form x good = omega arith
longer bang (plus_form text) x good = omega (arith, length-append text (43 ∷ x))
