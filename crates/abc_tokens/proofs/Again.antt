-- A plain spelling is read as its tokens.
use Rattle.std.proofs.Common.{◌≡◌, ℕ, ◌-◌, ◌≤◌, Bool, true, false, eqb, List, [], ◌∷◌, ◌++◌, length, Option, Some, None}
use Rattle.std.proofs.Common.{refl, sym, ap, ◌∙◌, subst, arith, Result, Ok, Err, IfOk, IfSome, map}
use Rattle.std.proofs.lemmas.Fmt.{decimal_digit}
use Rattle.std.proofs.lemmas.Bool.{cond_both, and_parts, leb-true, ne_eqb, both_ways, eq-eqb}
use Rattle.std.specs.Fmt.{decimal}
use Rattle.std.specs.Str.Parse.{digits_value}
use Rattle.mus_units.specs.{declared.note.Bar.Bar, declared.note.Deco.Deco, declared.note.Head.Head, Bytes.is_digit}
use Rattle.abc_pieces.specs.Forms.{Form, note_form, rest_form, measures_form, chord_form, grace_form, tuplet_form}
use Rattle.abc_pieces.specs.Forms.{slur_form, close_form, tie_form, broken_form, bar_form, ending_form, letter_form}
use Rattle.abc_pieces.specs.Forms.{named_form, says_form, inline_form, cut_form, space_form, passed_form, spelled}
use Rattle.abc_pieces.specs.Forms.{token_meant, after, IsGoodForm, StandsAt, is_kept_field, inline_token}
use Rattle.abc_pieces.specs.declared.token.PieceBefore.{PieceBefore}
use Rattle.abc_pieces.specs.declared.token.Token.{Token}
use Rattle.abc_pieces.specs.Tuplets.{bare, with_q, with_r, IsTuplet, is_tuplet_digit, value_or_zero}
use Rattle.abc_pieces.specs.Reading.{read, piece_at, class_of}
use Rattle.abc_pieces.specs.Bars.{BarForm, bar_meant as bar_of}
use Rattle.abc_pieces.proofs.PieceReader.{piece_reader}
use Rattle.abc_notes.specs.declared.part.GraceChord.{GraceChord}
use Rattle.abc_notes.specs.declared.part.Len.{Len}
use Rattle.abc_notes.specs.Runs.{maybe}
use Rattle.abc_notes.specs.Lengths.{LengthForm, IsCount, count_of, len_of, IsWrittenLength}
use Rattle.abc_notes.specs.Notes.{NoteForm, IsNote, head_of}
use Rattle.abc_notes.specs.Items.{sense}
use Rattle.abc_notes.specs.Decorations.{deco_of_letter, deco_of_name, deco_name}
use Rattle.abc_notes.specs.Chords.{ChordForm, heads_of, decos_of}
use Rattle.abc_notes.specs.Graces.{GraceForm, body_of}
use Rattle.abc_notes.specs.Parts.{IsLongest}
use Rattle.abc_notes.proofs.Bounds.{digit_value-is}
use Rattle.abc_notes.proofs.PartLaws.{longest_of}
use Rattle.abc_music.specs.declared.token.Placed.{Placed}
use Rattle.abc_music.specs.Tokens.{Tokens, ends, goes, column, with_token}
use Rattle.abc_tokens.proofs.Exact.{Stops, at_end, at_quote, IsExact, note_piece, rest_piece, measures_piece}
use Rattle.abc_tokens.proofs.Exact.{tuplet_piece, slur_piece, broken_piece, bar_piece, ending_piece, named_piece}
use Rattle.abc_tokens.proofs.Exact.{says_piece, inline_piece, space_piece, chord_piece, grace_piece}
use Rattle.abc_tokens.proofs.Groups.{plain_chord, chord_spell, chord_heads, chord_decos, chord_good, chord_whole}
use Rattle.abc_tokens.proofs.Groups.{chord_opens, heads_from, decos_from, some_heads, plain_grace, grace_spell}
use Rattle.abc_tokens.proofs.Groups.{body_means, grace_good, body_whole, body_from}
use Rattle.abc_tokens.proofs.Numbers.{digit_from, digits_again, count_again, is_count, count_means, len_form, len_again}
use Rattle.abc_tokens.proofs.Numbers.{head_form, head_good, head_means}
use Rattle.abc_tokens.proofs.Bars.{plain_bar, same_bar}
use Rattle.abc_tokens.proofs.Names.{GoodDeco, letter_good, name_good}
use Rattle.abc_tokens.specs.Plain.{all_then, len_then, number_or_empty, token_then, next_then, plain_text}
use Rattle.abc_tokens.specs.Again.{ReadsAs, IsReadable}

-- a piece that is the plain spelling of the token and is read as itself
pub record IsPlain (t : Token) : Type 0 where
  pub form : Form
  pub means : token_meant form ≡ Some t
  pub spells : (x : List ℕ) → spelled form x ≡ token_then t x
  pub exact : (x : List ℕ) → Stops x → IsExact form x

-- ---- each kind
note_plain : (f : NoteForm) → IsNote f → IsPlain (Token.Note (head_of f) (len_of f.length))
note_plain f good =
    let head = head_of f in let len = len_of f.length in let l = len_again f.length good.length in
    record {
      form = note_form (head_form head (len_form len));
      means =
          ap (λ (h : Head). Some (Token.Note h (len_of (len_form len)))) (head_means head (len_form len))
          ∙ ap (λ (k : Len). Some (Token.Note head k)) l.means;
      spells = λ x. refl;
      exact = λ x h. note_piece (head_form head (len_form len)) x (head_good head (len_form len) l.good) h;
    }

rest_plain : (seen : Bool) (f : LengthForm) → IsWrittenLength f → IsPlain (Token.Rest seen (len_of f))
rest_plain seen f good =
    let l = len_again f good in
    record {
      form = rest_form seen (len_form (len_of f));
      means = ap (λ (k : Len). Some (Token.Rest seen k)) l.means;
      spells = λ x. refl;
      exact = λ x h. rest_piece seen (len_form (len_of f)) x l.good h;
    }

measures_plain : (seen : Bool) (count : List ℕ) → IsCount 3 count → IsPlain (Token.Measures seen (count_of count))
measures_plain seen count good =
    let a = count_again 3 count (omega arith) (omega arith) good in let n = count_of count in
    record {
      form = measures_form seen (decimal n);
      means = ap (λ (k : ℕ). Some (Token.Measures seen k)) (count_means 3 n a);
      spells = λ x. refl;
      exact = λ x h. measures_piece seen (decimal n) x (is_count 3 n a) h;
    }

abbrev chord_of : List (Head × Len) → List Deco → Len → Token
chord_of heads decos len = Token.Chord (record { heads = heads; decos = decos; len = len })

chord_plain : (bang : Bool) (f : ChordForm)
    → IsGoodForm bang (chord_form f)
    → IsPlain (chord_of (heads_of (map sense f.parts)) (decos_of (map sense f.parts)) (len_of f.length))
chord_plain bang f good =
    let hs = heads_of (map sense f.parts) in
    let ds = decos_of (map sense f.parts) in
    let len = len_of f.length in
    let heads = heads_from bang f.inside f.parts good.0.parts in
    let decos = decos_from bang f.inside f.parts good.0.parts in
    let l = len_again f.length good.0.length in
    let some = some_heads f.parts good.0.head in
    let plain = plain_chord hs ds len in
    record {
      form = chord_form plain;
      means =
          ap (λ (list : List (Head × Len)).
          Some (chord_of list (decos_of (map sense plain.parts)) (len_of (len_form len))))
          (chord_heads hs ds heads)
          ∙ ap (λ (list : List Deco). Some (chord_of hs list (len_of (len_form len)))) (chord_decos hs ds decos)
          ∙ ap (λ (k : Len). Some (chord_of hs ds k)) l.means;
      spells = λ x. ap (λ s. 91 ∷ s) (chord_spell hs ds (93 ∷ len_then len x));
      exact =
          λ x h.
          chord_piece plain x (chord_good hs ds len some heads decos l) (chord_whole hs ds)
          (chord_opens hs ds len some heads) h;
    }

grace_plain : (bang : Bool) (f : GraceForm)
    → IsGoodForm bang (grace_form f) → IsPlain (Token.Grace f.slash (body_of f.parts))
grace_plain bang f good =
    let body = body_of f.parts in let b = body_from bang f.inside f.parts good.parts in
    record {
      form = grace_form (plain_grace f.slash body);
      means = ap (λ (list : List GraceChord). Some (Token.Grace f.slash list)) (body_means body b);
      spells = λ x. ap (λ s. 123 ∷ maybe f.slash 47 s) (grace_spell body (125 ∷ x) b);
      exact = λ x h. grace_piece (plain_grace f.slash body) x (grace_good f.slash body b) (body_whole body b);
    }

tuplet_digit : (p : ℕ) → is_tuplet_digit p ≡ true → (50 ≤ p) × (p ≤ 57)
tuplet_digit p h = let r = and_parts _ _ h in (leb-true 50 p r.0, leb-true p 57 r.1)

tuplet_number : (p : ℕ) → (50 ≤ p) × (p ≤ 57) → decimal (p - 48) ≡ p ∷ []
tuplet_number p r =
    let is : digits_value 10 (p ∷ []) ≡ p - 48 =
    omega (arith, digit_value-is p (omega (arith, r.0)) (omega (arith, r.1))) in
    let digit : is_digit p ≡ true = digit_from p (omega (arith, r.0), r.1) in
    ap decimal (sym is)
    ∙ digits_again 1 (p ∷ []) (omega arith)
    (record {
      some = omega arith;
      few = omega arith;
      digits = rw digit refl;
      no_zero = ne_eqb p 48 (omega (arith, r.0));
    })

first_of : (d e : ℕ) (ds : List ℕ) → e ∷ [] ≡ d ∷ ds → d ≡ e
first_of d e ds h = cc

empty_again : (most : ℕ) (q : List ℕ) → most ≤ 4 → IsCount most q → number_or_empty (value_or_zero q) ≡ q
empty_again most [] few good = refl
empty_again most (d ∷ ds) few good =
    let n : ℕ = digits_value 10 (d ∷ ds) in let is : decimal n ≡ d ∷ ds = digits_again most (d ∷ ds) few good in
    let not_zero : eqb n 0 ≡ false = ne_eqb n 0 (λ z.
    both_ways (eqb d 48) good.no_zero
    (eq-eqb d 48 (first_of d 48 ds (sym (decimal_digit 0 (omega arith)) ∙ sym (ap decimal z) ∙ is)))) in
    rw not_zero is

tuplet_plain : (p : ℕ) (q r : List ℕ)
    → IsTuplet (with_r p q r) → IsPlain (Token.Tuplet (p - 48) (value_or_zero q) (value_or_zero r))
tuplet_plain p q r good =
    let digit = tuplet_number p (tuplet_digit p good.0) in
    let second = empty_again 1 q (omega arith) good.1 in
    let third = empty_again 2 r (omega arith) good.2 in
    record {
      form = tuplet_form (with_r p q r);
      means = refl;
      spells = λ x. sym (
          ap (λ ds.
          40
          ∷ (ds ++ (58 ∷ (number_or_empty (value_or_zero q) ++ (58 ∷ (number_or_empty (value_or_zero r) ++ x))))))
          digit
          ∙ ap (λ ds. 40 ∷ p ∷ 58 ∷ (ds ++ (58 ∷ (number_or_empty (value_or_zero r) ++ x)))) second
          ∙ ap (λ ds. 40 ∷ p ∷ 58 ∷ (q ++ (58 ∷ (ds ++ x)))) third);
      exact = λ x h. tuplet_piece p q r x good h;
    }

bar_plain : (f : BarForm) → IsGoodForm false (bar_form f) → IsPlain (Token.Bar (bar_of f))
bar_plain f good =
    let s = same_bar f good in
    record {
      form = bar_form (plain_bar (bar_of f));
      means = ap (λ (b : Bar). Some (Token.Bar b)) s.0;
      spells = s.2;
      exact = λ x h. bar_piece (plain_bar (bar_of f)) x s.1 h;
    }

deco_plain : (d : Deco) → GoodDeco d → IsPlain (Token.Deco d)
deco_plain d good = record {
  form = named_form (deco_name d);
  means = ap (λ (e : Deco). Some (Token.Deco e)) good.means;
  spells = λ x. refl;
  exact = λ x h. named_piece (deco_name d) x good.name;
}

inline_plain : (letter : ℕ) (text : List ℕ)
    → IsGoodForm false (inline_form letter text) → IfSome (inline_token letter text) IsPlain
inline_plain letter text good =
    cond_both (is_kept_field letter) (Some (Token.Inline letter text)) None (λ o. IfSome o IsPlain)
    (λ kept. record {
      form = inline_form letter text;
      means = rw kept refl;
      spells = λ x. refl;
      exact = λ x h. inline_piece letter text x good.0 good.1;
    })
    (λ dropped. tt)

-- whatever a piece spells has a plain spelling
plain_of : (bang : Bool) (f : Form) → IsGoodForm bang f → IfSome (token_meant f) IsPlain
unfolding piece_at class_of
plain_of bang (note_form f) good = note_plain f good
plain_of bang (rest_form seen len) good = rest_plain seen len good
plain_of bang (measures_form seen count) good = measures_plain seen count good
plain_of bang (chord_form f) good = chord_plain bang f good
plain_of bang (grace_form f) good = grace_plain bang f good
plain_of bang (tuplet_form (bare p)) good = tuplet_plain p [] [] (good, tt, tt)
plain_of bang (tuplet_form (with_q p q)) good = tuplet_plain p q [] (good.0, good.1, tt)
plain_of bang (tuplet_form (with_r p q r)) good = tuplet_plain p q r good
plain_of bang (slur_form dotted) good =
    record { form = slur_form false; means = refl; spells = λ x. refl; exact = slur_piece }
plain_of bang close_form good = record { form = close_form; means = refl; spells = λ x. refl; exact = λ x h. refl }
plain_of bang (tie_form dotted) good =
    record { form = tie_form false; means = refl; spells = λ x. refl; exact = λ x h. refl }
plain_of bang (broken_form right count) good = record {
  form = broken_form right count;
  means = refl;
  spells = λ x. refl;
  exact = λ x h. broken_piece right count x good.0 good.1 h;
}
plain_of bang (bar_form f) good = bar_plain f good
plain_of bang (ending_form bracket d more) good = record {
  form = ending_form true d more;
  means = refl;
  spells = λ x. refl;
  exact = λ x h. ending_piece d more x good.0 good.1 h;
}
plain_of bang (letter_form b) good = deco_plain (deco_of_letter b) (letter_good b)
plain_of bang (named_form name) good = deco_plain (deco_of_name name) (name_good name good.1)
plain_of bang (says_form text) good =
    record { form = says_form text; means = refl; spells = λ x. refl; exact = λ x h. says_piece text x good }
plain_of bang (inline_form letter text) good = inline_plain letter text good
plain_of bang (cut_form b) good = record { form = cut_form 36; means = refl; spells = λ x. refl; exact = λ x h. refl }
plain_of bang (space_form b more) good =
    record { form = space_form 32 []; means = refl; spells = λ x. refl; exact = space_piece }
plain_of bang _ good = tt

-- ---- the line
abbrev AllPlain : List Token → Type 0
AllPlain [] = Unit {0}
AllPlain (t ∷ ts) = IsPlain t × AllPlain ts

abbrev tokens_in : List Placed → List Token
tokens_in ps = map (λ p. p.token) ps

put_plain : (o : Option Token) (at : ℕ) (ps : List Placed)
    → IfSome o IsPlain → AllPlain (tokens_in ps) → AllPlain (tokens_in (with_token o at ps))
put_plain None at ps h more = more
put_plain (Some t) at ps h more = (h, more)

plain_tokens : (bang : Bool) (n : ℕ) (before : PieceBefore) (s : List ℕ) (ps : List Placed)
    → Tokens bang n before s ps → AllPlain (tokens_in ps)
plain_tokens bang n _ _ _ (ends before) = tt
plain_tokens bang n _ _ _ (goes before s f rest ts all l more is) =
    subst (λ us. AllPlain (tokens_in us)) (sym is)
    (put_plain (token_meant f) (column n (length s)) ts (plain_of bang f l.stands.good)
    (plain_tokens bang n (after f) rest ts more))

readable_plain : (ts : List Token) → IsReadable ts → AllPlain ts
readable_plain ts h =
    subst AllPlain h.reads.same
    (plain_tokens h.bang (length h.line) PieceBefore.Other h.line h.reads.placed h.reads.reads)

pub record Found (n : ℕ) (before : PieceBefore) (s : List ℕ) (ts : List Token) : Type 0 where
  pub placed : List Placed
  pub tokens : Tokens false n before s placed
  pub same : tokens_in placed ≡ ts

one : (n : ℕ) (t : Token) (x : List ℕ) (ts : List Token)
    → (p : IsPlain t) → Stops x → Found n (after p.form) x ts → Found n PieceBefore.Other (token_then t x) (t ∷ ts)
one n t x ts p stops later =
    let s = token_then t x in
    let c = column n (length s) in
    let e : piece_at false PieceBefore.Other s ≡ read p.form x =
    ap (piece_at false PieceBefore.Other) (sym (p.spells x)) ∙ p.exact x stops in
    let l : IsLongest Form (StandsAt false PieceBefore.Other) s p.form x =
    longest_of (piece_reader false PieceBefore.Other) s (p.form, x) e in
    record {
      placed = record { token = t; column = c } ∷ later.placed;
      tokens =
          goes PieceBefore.Other s p.form x later.placed (record { token = t; column = c } ∷ later.placed) l
          later.tokens (ap (λ o. with_token o c later.placed) (sym p.means));
      same = ap (λ (us : List Token). t ∷ us) later.same;
    }

quoted : (n : ℕ) (before : PieceBefore) (s : List ℕ) (ts : List Token)
    → Found n PieceBefore.Other s ts → Found n before (96 ∷ s) ts
unfolding piece_at class_of
quoted n before s ts later =
    let l : IsLongest Form (StandsAt false before) (96 ∷ s) (passed_form 96) s =
    longest_of (piece_reader false before) (96 ∷ s) (passed_form 96, s) refl in
    record {
      placed = later.placed;
      tokens = goes before (96 ∷ s) (passed_form 96) s later.placed later.placed l later.tokens refl;
      same = later.same;
    }

next_stops : (ts : List Token) → Stops (all_then next_then ts [])
next_stops [] = at_end
next_stops (t ∷ ts) = at_quote (token_then t (all_then next_then ts []))

next_found : (n : ℕ) (before : PieceBefore) (ts : List Token)
    → AllPlain ts → Found n before (all_then next_then ts []) ts
next_found n before [] good = record { placed = []; tokens = ends before; same = refl }
next_found n before (t ∷ ts) good =
    let x = all_then next_then ts [] in
    quoted n before (token_then t x) (t ∷ ts)
    (one n t x ts good.0 (next_stops ts) (next_found n (after good.0.form) ts good.1))

text_found : (n : ℕ) (ts : List Token) → AllPlain ts → Found n PieceBefore.Other (plain_text ts) ts
text_found n [] good = record { placed = []; tokens = ends PieceBefore.Other; same = refl }
text_found n (t ∷ ts) good =
    one n t (all_then next_then ts []) ts good.0 (next_stops ts) (next_found n (after good.0.form) ts good.1)

-- a spelled text is read as its tokens again
pub reads_again : (ts : List Token) → IsReadable ts → ReadsAs false (plain_text ts) ts
reads_again ts h =
    let f = text_found (length (plain_text ts)) ts (readable_plain ts h) in
    record { placed = f.placed; reads = f.tokens; same = f.same }

pub ok_again : {E : Type 0} (r : Result (List ℕ) E) (ts : List Token)
    → IfOk r (λ text. text ≡ plain_text ts) → IsReadable ts → IfOk r (λ text. ReadsAs false text ts)
ok_again (Ok text) ts is h = subst (λ s. ReadsAs false s ts) (sym is) (reads_again ts h)
ok_again (Err e) ts is h = tt
