-- Chords and grace groups in their plain spelling are read as themselves.
use Rattle.std.proofs.Common.{◌≡◌, ℕ, ◌≤◌, Bool, true, false, eqb, List, [], ◌∷◌, ◌++◌, length, Option, Some, None}
use Rattle.std.proofs.Common.{refl, sym, ap, ◌∙◌, arith, inl, inr, append_assoc, not, option_map, map}
use Rattle.std.proofs.lemmas.Bool.{or_cases, and_parts, eqb-true, ne_eqb, not-true, or_parts}
use Rattle.std.specs.List.{list_all}
use Rattle.std.specs.Fmt.{decimal}
use Rattle.mus_units.specs.declared.note.Deco.{Deco}
use Rattle.mus_units.specs.declared.note.Head.{Head}
use Rattle.mus_units.specs.declared.pitch.Alter.{Alter}
use Rattle.mus_units.specs.declared.pitch.Letter.{Letter}
use Rattle.mus_units.specs.Bytes.{is_digit}
use Rattle.mus_units.specs.declared.pitch.Alter.TheVariants.{Sharp2}
use Rattle.mus_units.specs.declared.pitch.Letter.TheVariants.{C}
use Rattle.abc_notes.specs.Items.{Inner, note_inside, letter_inside, named_inside, tie_inside, lone_inside, inner_then}
use Rattle.abc_notes.specs.Items.{IsInner, IsName, sense, InnerParts, inner_at, item_class, is_note_byte}
use Rattle.abc_notes.specs.Graces.{GracePart, single, chorded, grace_part_then, IsGracePart, GraceParts, GraceForm}
use Rattle.abc_notes.specs.Graces.{is_slash_byte, IsGrace, heads_in, body_of, grace_part_at, single_read, chorded_read}
use Rattle.abc_notes.specs.declared.part.GraceChord.{GraceChord}
use Rattle.abc_notes.specs.declared.part.Len.{Len}
use Rattle.abc_notes.specs.Decorations.{deco_name}
use Rattle.abc_notes.specs.Runs.{maybe, begins, is_mark}
use Rattle.abc_notes.specs.Lengths.{LengthForm, whole, length_then, len_of}
use Rattle.abc_notes.specs.Notes.{NoteForm, note_then, sign_then, letter_byte, IsNote, head_of, note_at}
use Rattle.abc_notes.specs.Parts.{no_part, then_part}
use Rattle.abc_notes.specs.Chords.{ChordForm, chord_then, has_inner_head, IsChord, is_tied, tied_if, heads_of, decos_of}
use Rattle.abc_notes.proofs.LengthLaws.{goes_on, count-digits}
use Rattle.abc_notes.proofs.NoteLaws.{note_goes_on}
use Rattle.abc_notes.proofs.ItemLaws.{name_at-reads}
use Rattle.abc_notes.proofs.InnerLaws.{inner_reader}
use Rattle.abc_notes.proofs.PartLaws.{longest_of}
use Rattle.abc_notes.proofs.Bounds.{digit_range}
use Rattle.abc_notes.proofs.GraceLaws.{part_reader, at_bracket, lone_part_is, has_lone_part}
use Rattle.abc_notes.proofs.ChordLaws.{has_lone}
use Rattle.abc_notes.proofs.CutLaws.{maybe_append, sign_append, wider}
use Rattle.abc_pieces.specs.{declared.token.BracketOpening.BracketOpening, Forms.opening}
use Rattle.abc_tokens.specs.Plain.{all_then, len_then, marks_of, is_small_letter, head_then, chord_head_then}
use Rattle.abc_tokens.specs.Plain.{deco_then, heads_then, grace_chord_then}
use Rattle.abc_tokens.proofs.Numbers.{GoodLen, len_form, len_again, head_form, head_good, head_means, good_marks}
use Rattle.abc_tokens.proofs.Names.{GoodDeco, letter_good, name_good}
use Rattle.abc_tokens.proofs.Exact.{First, first_is, note_exact, chord_exact}

-- ---- lists of bytes that pass

-- a byte that closes no chord and no grace group
-- ---- spelling before more
all_append : {I : Type 0} (f : I → List ℕ → List ℕ)
    → ((a : I) (s x : List ℕ) → f a s ++ x ≡ f a (s ++ x)) → (list : List I) (s x : List ℕ)
    → all_then f list s ++ x ≡ all_then f list (s ++ x)
all_append f h [] s x = refl
all_append f h (a ∷ list) s x = h a (all_then f list s) x ∙ ap (f a) (all_append f h list s x)

head_append : (head : Head) (s x : List ℕ) → head_then head s ++ x ≡ head_then head (s ++ x)
head_append head s x =
    let o = head.pitch.octave in
    let b = letter_byte (is_small_letter o) head.pitch.letter in
    sign_append head.sign (b ∷ (marks_of o ++ s)) x
    ∙ ap (λ t. sign_then head.sign (b ∷ t)) (append_assoc (marks_of o) s x)

len_append : (len : Len) (s x : List ℕ) → len_then len s ++ x ≡ len_then len (s ++ x)
len_append len s x =
    append_assoc (decimal len.num) (47 ∷ (decimal len.den ++ s)) x
    ∙ ap (λ t. decimal len.num ++ (47 ∷ t)) (append_assoc (decimal len.den) s x)

chord_head_append : (h : Head × Len) (s x : List ℕ) → chord_head_then h s ++ x ≡ chord_head_then h (s ++ x)
chord_head_append h s x =
    head_append h.0 (len_then h.1 (maybe h.0.tied 45 s)) x
    ∙ ap (head_then h.0) (len_append h.1 (maybe h.0.tied 45 s) x ∙ ap (len_then h.1) (maybe_append h.0.tied 45 s x))

deco_append : (d : Deco) (s x : List ℕ) → deco_then d s ++ x ≡ deco_then d (s ++ x)
deco_append d s x = ap (λ t. 33 ∷ t) (append_assoc (deco_name d) (33 ∷ s) x)

grace_chord_append : (c : GraceChord) (s x : List ℕ) → grace_chord_then c s ++ x ≡ grace_chord_then c (s ++ x)
grace_chord_append c s x = by_heads c.heads
  where
    by_heads : (hs : List Head) → heads_then hs s ++ x ≡ heads_then hs (s ++ x)
    by_heads [] = refl
    by_heads (h ∷ []) = head_append h s x
    by_heads (h ∷ g ∷ hs) = ap (λ t. 91 ∷ t) (all_append head_then head_append (h ∷ g ∷ hs) (93 ∷ s) x)

-- ---- the parts of a chord
abbrev tied_parts : Bool → List Inner → List Inner
tied_parts true ps = tie_inside false ∷ ps
tied_parts false ps = ps

abbrev head_parts : List (Head × Len) → List Inner
head_parts [] = []
head_parts (h ∷ hs) = note_inside (head_form h.0 (len_form h.1)) ∷ tied_parts h.0.tied (head_parts hs)

abbrev deco_parts : List Deco → List Inner → List Inner
deco_parts [] ps = ps
deco_parts (d ∷ ds) ps = named_inside (deco_name d) ∷ deco_parts ds ps

abbrev note_parts : List Head → List Inner
note_parts [] = []
note_parts (h ∷ hs) = note_inside (head_form h (whole [])) ∷ note_parts hs

abbrev of_parts : List Inner → LengthForm → ChordForm
of_parts ps len = record { inside = all_then inner_then ps []; parts = ps; length = len }

abbrev pub plain_chord : List (Head × Len) → List Deco → Len → ChordForm
plain_chord hs ds len = of_parts (deco_parts ds (head_parts hs)) (len_form len)

abbrev pub GoodHeads : List (Head × Len) → Type 0
GoodHeads [] = Unit {0}
GoodHeads (h ∷ hs) = GoodLen h.1 × GoodHeads hs

abbrev pub GoodDecos : List Deco → Type 0
GoodDecos [] = Unit {0}
GoodDecos (d ∷ ds) = GoodDeco d × GoodDecos ds

-- spelling
tied_spell : (b : Bool) (ps : List Inner) (x : List ℕ)
    → all_then inner_then (tied_parts b ps) x ≡ maybe b 45 (all_then inner_then ps x)
tied_spell true ps x = refl
tied_spell false ps x = refl

heads_spell : (hs : List (Head × Len)) (x : List ℕ)
    → all_then inner_then (head_parts hs) x ≡ all_then chord_head_then hs x
heads_spell [] x = refl
heads_spell (h ∷ hs) x =
    ap (λ s. head_then h.0 (len_then h.1 s))
    (tied_spell h.0.tied (head_parts hs) x ∙ ap (maybe h.0.tied 45) (heads_spell hs x))

decos_spell : (ds : List Deco) (ps : List Inner) (x : List ℕ)
    → all_then inner_then (deco_parts ds ps) x ≡ all_then deco_then ds (all_then inner_then ps x)
decos_spell [] ps x = refl
decos_spell (d ∷ ds) ps x = ap (deco_then d) (decos_spell ds ps x)

inside_is : (hs : List (Head × Len)) (ds : List Deco)
    → all_then inner_then (deco_parts ds (head_parts hs)) [] ≡ all_then deco_then ds (all_then chord_head_then hs [])
inside_is hs ds = decos_spell ds (head_parts hs) [] ∙ ap (all_then deco_then ds) (heads_spell hs [])

pub chord_spell : (hs : List (Head × Len)) (ds : List Deco) (x : List ℕ)
    → all_then inner_then (deco_parts ds (head_parts hs)) [] ++ x
    ≡ all_then deco_then ds (all_then chord_head_then hs x)
chord_spell hs ds x =
    ap (λ s. s ++ x) (inside_is hs ds)
    ∙ all_append deco_then deco_append ds (all_then chord_head_then hs []) x
    ∙ ap (all_then deco_then ds) (all_append chord_head_then chord_head_append hs [] x)

-- meaning
not_tied : (hs : List (Head × Len)) → is_tied (map sense (head_parts hs)) ≡ false
not_tied [] = refl
not_tied (h ∷ hs) = refl

tied_is : (b : Bool) (hs : List (Head × Len)) → is_tied (map sense (tied_parts b (head_parts hs))) ≡ b
tied_is true hs = refl
tied_is false hs = not_tied hs

heads_tied : (b : Bool) (ps : List Inner) → heads_of (map sense (tied_parts b ps)) ≡ heads_of (map sense ps)
heads_tied true ps = refl
heads_tied false ps = refl

decos_tied : (b : Bool) (ps : List Inner) → decos_of (map sense (tied_parts b ps)) ≡ decos_of (map sense ps)
decos_tied true ps = refl
decos_tied false ps = refl

abbrev with_len : Head → Len → Head × Len
with_len head len = (head, len)

pub heads_mean : (hs : List (Head × Len)) → GoodHeads hs → heads_of (map sense (head_parts hs)) ≡ hs
heads_mean [] good = refl
heads_mean (h ∷ hs) good =
    let form = len_form h.1 in
    let more = map sense (tied_parts h.0.tied (head_parts hs)) in
    let others : heads_of more ≡ hs = heads_tied h.0.tied (head_parts hs) ∙ heads_mean hs good.1 in
    ap (λ (b : Bool). with_len (tied_if b (head_of (head_form h.0 form))) (len_of form) ∷ heads_of more)
    (tied_is h.0.tied hs)
    ∙ ap (λ (head : Head). with_len (tied_if h.0.tied head) (len_of form) ∷ heads_of more) (head_means h.0 form)
    ∙ ap (λ (len : Len). with_len h.0 len ∷ heads_of more) good.0.means
    ∙ ap (λ (list : List (Head × Len)). h ∷ list) others

heads_after : (ds : List Deco) (ps : List Inner) → heads_of (map sense (deco_parts ds ps)) ≡ heads_of (map sense ps)
heads_after [] ps = refl
heads_after (d ∷ ds) ps = heads_after ds ps

no_decos : (hs : List (Head × Len)) → decos_of (map sense (head_parts hs)) ≡ []
no_decos [] = refl
no_decos (h ∷ hs) = decos_tied h.0.tied (head_parts hs) ∙ no_decos hs

decos_mean : (ds : List Deco) (ps : List Inner)
    → GoodDecos ds → decos_of (map sense ps) ≡ [] → decos_of (map sense (deco_parts ds ps)) ≡ ds
decos_mean [] ps good none = none
decos_mean (d ∷ ds) ps good none =
    ap (λ (e : Deco). e ∷ decos_of (map sense (deco_parts ds ps))) good.0.means
    ∙ ap (λ (list : List Deco). d ∷ list) (decos_mean ds ps good.1 none)

pub chord_heads : (hs : List (Head × Len)) (ds : List Deco)
    → GoodHeads hs → heads_of (map sense (deco_parts ds (head_parts hs))) ≡ hs
chord_heads hs ds good = heads_after ds (head_parts hs) ∙ heads_mean hs good

pub chord_decos : (hs : List (Head × Len)) (ds : List Deco)
    → GoodDecos ds → decos_of (map sense (deco_parts ds (head_parts hs))) ≡ ds
chord_decos hs ds good = decos_mean ds (head_parts hs) good (no_decos hs)

head_after : (ds : List Deco) (ps : List Inner) → has_inner_head (deco_parts ds ps) ≡ has_inner_head ps
head_after [] ps = refl
head_after (d ∷ ds) ps = head_after ds ps

-- ---- each part is the longest
abbrev inner_pair : Inner → List ℕ → Inner × List ℕ
inner_pair f x = (f, x)

part : (f : Inner) (rest : List ℕ) (ps : List Inner)
    → inner_at false (inner_then f rest) ≡ Some (inner_pair f rest)
    → InnerParts false rest ps
    → InnerParts false (inner_then f rest) (f ∷ ps)
part f rest ps e later =
    then_part (inner_then f rest) f rest ps (longest_of (inner_reader false) (inner_then f rest) (f, rest) e) later

note_class : (b : ℕ) (u : List ℕ)
    → is_note_byte b ≡ true
    → inner_at false (b ∷ u)
    ≡ option_map (λ (z : NoteForm × List ℕ). inner_pair (note_inside z.0) z.1) (note_at (b ∷ u))
unfolding inner_at item_class
note_class b u h = rw h refl

inner_note : (f : NoteForm) (x : List ℕ)
    → IsNote f → begins note_goes_on x ≡ false → inner_at false (note_then f x) ≡ Some (inner_pair (note_inside f) x)
inner_note f x good h =
    let b = first_is f.sign f.low f.letter (f.marks ++ length_then f.length x) in
    let noted : Option (NoteForm × List ℕ) → Option (Inner × List ℕ) =
    option_map (λ (z : NoteForm × List ℕ). inner_pair (note_inside z.0) z.1) in
    ap (inner_at false) b.is
    ∙ note_class b.byte b.rest b.note
    ∙ ap (λ s. noted (note_at s)) (sym b.is)
    ∙ ap noted (note_exact f x good h)

inner_named : (name x : List ℕ)
    → IsName name → inner_at false (33 ∷ (name ++ (33 ∷ x))) ≡ Some (inner_pair (named_inside name) x)
unfolding inner_at item_class
inner_named name x good = rw (name_at-reads name x good) refl

head_stops : (head : Head) (x : List ℕ) → begins note_goes_on (head_then head x) ≡ false
head_stops head x =
    let b =
    first_is head.sign (is_small_letter head.pitch.octave) head.pitch.letter (marks_of head.pitch.octave ++ x) in
    ap (begins note_goes_on) b.is ∙ b.stops

heads_stop : (hs : List (Head × Len)) → begins note_goes_on (all_then inner_then (head_parts hs) []) ≡ false
heads_stop [] = refl
heads_stop (h ∷ hs) = head_stops h.0 (len_then h.1 (all_then inner_then (tied_parts h.0.tied (head_parts hs)) []))

tied_stop : (b : Bool) (hs : List (Head × Len))
    → begins note_goes_on (all_then inner_then (tied_parts b (head_parts hs)) []) ≡ false
tied_stop true hs = refl
tied_stop false hs = heads_stop hs

tie_part : (b : Bool) (ps : List Inner)
    → InnerParts false (all_then inner_then ps []) ps
    → InnerParts false (all_then inner_then (tied_parts b ps) []) (tied_parts b ps)
unfolding inner_at item_class
tie_part true ps later = part (tie_inside false) (all_then inner_then ps []) ps refl later
tie_part false ps later = later

heads_parts : (hs : List (Head × Len))
    → GoodHeads hs → InnerParts false (all_then inner_then (head_parts hs) []) (head_parts hs)
heads_parts [] good = no_part
heads_parts (h ∷ hs) good =
    let more = tied_parts h.0.tied (head_parts hs) in let form = head_form h.0 (len_form h.1) in
    part (note_inside form) (all_then inner_then more []) more
    (inner_note form (all_then inner_then more []) (head_good h.0 (len_form h.1) good.0.good) (tied_stop h.0.tied hs))
    (tie_part h.0.tied (head_parts hs) (heads_parts hs good.1))

decos_parts : (ds : List Deco) (ps : List Inner)
    → GoodDecos ds → InnerParts false (all_then inner_then ps []) ps
    → InnerParts false (all_then inner_then (deco_parts ds ps) []) (deco_parts ds ps)
decos_parts [] ps good later = later
decos_parts (d ∷ ds) ps good later =
    let more = deco_parts ds ps in
    part (named_inside (deco_name d)) (all_then inner_then more []) more
    (inner_named (deco_name d) (all_then inner_then more []) good.0.name) (decos_parts ds ps good.1 later)

-- ---- a plain chord is a chord
tied_whole : (b : Bool) (ps : List Inner) → has_lone ps ≡ false → has_lone (tied_parts b ps) ≡ false
tied_whole true ps h = h
tied_whole false ps h = h

heads_whole : (hs : List (Head × Len)) → has_lone (head_parts hs) ≡ false
heads_whole [] = refl
heads_whole (h ∷ hs) = tied_whole h.0.tied (head_parts hs) (heads_whole hs)

-- no exclamation mark is skipped
pub chord_whole : (hs : List (Head × Len)) (ds : List Deco) → has_lone (deco_parts ds (head_parts hs)) ≡ false
chord_whole hs [] = heads_whole hs
chord_whole hs (d ∷ ds) = chord_whole hs ds

pub chord_good : (hs : List (Head × Len)) (ds : List Deco) (len : Len)
    → 1 ≤ length hs → GoodHeads hs → GoodDecos ds → GoodLen len → IsChord false (plain_chord hs ds len)
chord_good [] ds len some heads decos good = absurd (omega (arith, some))
chord_good (h ∷ hs) ds len some heads decos good = record {
  parts = decos_parts ds (head_parts (h ∷ hs)) decos (heads_parts (h ∷ hs) heads);
  head = head_after ds (head_parts (h ∷ hs));
  length = good.good;
}

-- what follows the bracket is no bar, no ending and no inline field
abbrev is_colon : ℕ → Bool
is_colon b = eqb b 58

open_head : (sign : Option Alter) (low : Bool) (l : Letter) (u : List ℕ)
    → begins is_colon u ≡ false → opening (sign_then sign (letter_byte low l ∷ u)) ≡ BracketOpening.Chord
open_head (Some Sharp2) low l u h = refl
open_head (Some _) low l u h = refl
open_head None false C u h = rw h refl
open_head None _ C u h = rw h refl
open_head None _ _ u h = rw h refl

digit_colon : (b : ℕ) → is_digit b ≡ true → not (eqb b 58) ≡ true
digit_colon b h = let r = digit_range b h in rw (ne_eqb b 58 (omega (arith, r.1))) refl

mark_colon : (b : ℕ) → is_mark b ≡ true → not (eqb b 58) ≡ true
mark_colon b h = elim (or_cases (eqb b 39) (eqb b 44) h) [
  | inl prime ↦ rw (eqb-true b 39 prime) refl
  | inr comma ↦ rw (eqb-true b 44 comma) refl
]

no_colon_first : (a x : List ℕ)
    → list_all (λ b. not (eqb b 58)) a ≡ true → begins is_colon x ≡ false → begins is_colon (a ++ x) ≡ false
no_colon_first [] x h k = k
no_colon_first (b ∷ a) x h k = not-true (eqb b 58) (and_parts (not (eqb b 58)) (list_all (λ c. not (eqb c 58)) a) h).0

opens_chord : (hs : List (Head × Len)) (ds : List Deco) (x : List ℕ)
    → 1 ≤ length hs → GoodHeads hs
    → opening (all_then deco_then ds (all_then chord_head_then hs x)) ≡ BracketOpening.Chord
opens_chord hs (d ∷ ds) x some good = refl
opens_chord [] [] x some good = absurd (omega (arith, some))
opens_chord (h ∷ hs) [] x some good =
    let o = h.0.pitch.octave in
    let num = decimal h.1.num in
    let t = 47 ∷ (decimal h.1.den ++ maybe h.0.tied 45 (all_then chord_head_then hs x)) in
    let digits = no_colon_first num t
    (wider is_digit (λ b. not (eqb b 58)) num digit_colon (count-digits 4 num good.0.good.0)) refl in
    let marks = no_colon_first (marks_of o) (num ++ t)
    (wider is_mark (λ b. not (eqb b 58)) (marks_of o) mark_colon (good_marks o)) digits in
    open_head h.0.sign (is_small_letter o) h.0.pitch.letter (marks_of o ++ (num ++ t)) marks

pub chord_opens : (hs : List (Head × Len)) (ds : List Deco) (len : Len)
    → 1 ≤ length hs → GoodHeads hs → opening (chord_then (plain_chord hs ds len) []) ≡ BracketOpening.Chord
chord_opens hs ds len some good =
    ap opening (chord_spell hs ds (93 ∷ len_then len [])) ∙ opens_chord hs ds (93 ∷ len_then len []) some good

-- ---- any chord that is read can be written
heads_add : (bang : Bool) (f : Inner) (more : List Inner)
    → IsInner bang f → GoodHeads (heads_of (map sense more)) → GoodHeads (heads_of (map sense (f ∷ more)))
heads_add bang (note_inside f) more good h = (len_again f.length good.length, h)
heads_add bang _ more good h = h

pub heads_from : (bang : Bool) (text : List ℕ) (parts : List Inner)
    → InnerParts bang text parts → GoodHeads (heads_of (map sense parts))
heads_from bang _ _ no_part = tt
heads_from bang _ _ (then_part text f rest more l later) =
    heads_add bang f more l.stands.good (heads_from bang rest more later)

decos_add : (bang : Bool) (f : Inner) (more : List Inner)
    → IsInner bang f → GoodDecos (decos_of (map sense more)) → GoodDecos (decos_of (map sense (f ∷ more)))
decos_add bang (letter_inside b) more good h = (letter_good b, h)
decos_add bang (named_inside name) more good h = (name_good name good.1, h)
decos_add bang _ more good h = h

pub decos_from : (bang : Bool) (text : List ℕ) (parts : List Inner)
    → InnerParts bang text parts → GoodDecos (decos_of (map sense parts))
decos_from bang _ _ no_part = tt
decos_from bang _ _ (then_part text f rest more l later) =
    decos_add bang f more l.stands.good (decos_from bang rest more later)

pub some_heads : (parts : List Inner) → has_inner_head parts ≡ true → 1 ≤ length (heads_of (map sense parts))
some_heads [] h = absurd cc
some_heads (note_inside f ∷ more) h = omega arith
some_heads (_ ∷ more) h = some_heads more h

-- ---- grace groups
abbrev plain_part : List Head → GracePart
plain_part [] = single lone_inside
plain_part (h ∷ []) = single (note_inside (head_form h (whole [])))
plain_part (h ∷ g ∷ hs) = chorded (of_parts (note_parts (h ∷ g ∷ hs)) (whole []))

abbrev plain_parts : List GraceChord → List GracePart
plain_parts [] = []
plain_parts (c ∷ cs) = plain_part c.heads ∷ plain_parts cs

abbrev pub plain_grace : Bool → List GraceChord → GraceForm
plain_grace slash body =
    record { slash = slash; inside = all_then grace_part_then (plain_parts body) []; parts = plain_parts body }

abbrev Untied : List Head → Type 0
Untied [] = Unit {0}
Untied (h ∷ hs) = (h.tied ≡ false) × Untied hs

abbrev pub GoodBody : List GraceChord → Type 0
GoodBody [] = Unit {0}
GoodBody (c ∷ cs) = (1 ≤ length c.heads) × Untied c.heads × GoodBody cs

-- spelling
notes_spell : (hs : List Head) (x : List ℕ) → all_then inner_then (note_parts hs) x ≡ all_then head_then hs x
notes_spell [] x = refl
notes_spell (h ∷ hs) x = ap (head_then h) (notes_spell hs x)

notes_more : (hs : List Head) (x : List ℕ) → all_then inner_then (note_parts hs) [] ++ x ≡ all_then head_then hs x
notes_more hs x = ap (λ s. s ++ x) (notes_spell hs []) ∙ all_append head_then head_append hs [] x

part_spell : (hs : List Head) (x : List ℕ) → 1 ≤ length hs → grace_part_then (plain_part hs) x ≡ heads_then hs x
part_spell [] x some = absurd (omega (arith, some))
part_spell (h ∷ []) x some = refl
part_spell (h ∷ g ∷ hs) x some = ap (λ s. 91 ∷ s) (notes_more (h ∷ g ∷ hs) (93 ∷ x))

body_spell : (body : List GraceChord) (x : List ℕ)
    → GoodBody body → all_then grace_part_then (plain_parts body) x ≡ all_then grace_chord_then body x
body_spell [] x good = refl
body_spell (c ∷ cs) x good =
    part_spell c.heads (all_then grace_part_then (plain_parts cs) x) good.0
    ∙ ap (grace_chord_then c) (body_spell cs x good.2)

pub grace_spell : (body : List GraceChord) (x : List ℕ)
    → GoodBody body → all_then grace_part_then (plain_parts body) [] ++ x ≡ all_then grace_chord_then body x
grace_spell body x good =
    ap (λ s. s ++ x) (body_spell body [] good) ∙ all_append grace_chord_then grace_chord_append body [] x

-- meaning
untied_is : (h : Head) → h.tied ≡ false → tied_if false h ≡ h
untied_is h e = ap (λ (b : Bool). tied_if b h) (sym e)

notes_mean : (hs : List Head) → Untied hs → heads_in (map sense (note_parts hs)) ≡ hs
notes_mean [] good = refl
notes_mean (h ∷ hs) good =
    ap (λ (head : Head). head ∷ heads_in (map sense (note_parts hs))) (head_means h (whole []) ∙ untied_is h good.0)
    ∙ ap (λ (list : List Head). h ∷ list) (notes_mean hs good.1)

abbrev grace_chord : List Head → GraceChord
grace_chord hs = record { heads = hs }

body_step : (hs : List Head) (more : List GracePart)
    → 1 ≤ length hs → Untied hs → body_of (plain_part hs ∷ more) ≡ grace_chord hs ∷ body_of more
body_step [] more some good = absurd (omega (arith, some))
body_step (h ∷ []) more some good =
    ap (λ (head : Head). grace_chord (head ∷ []) ∷ body_of more) (head_means h (whole []) ∙ untied_is h good.0)
body_step (h ∷ g ∷ hs) more some good =
    ap (λ (list : List Head). grace_chord list ∷ body_of more) (notes_mean (h ∷ g ∷ hs) good)

pub body_means : (body : List GraceChord) → GoodBody body → body_of (plain_parts body) ≡ body
body_means [] good = refl
body_means (c ∷ cs) good =
    body_step c.heads (plain_parts cs) good.0 good.1 ∙ ap (λ (list : List GraceChord). c ∷ list) (body_means cs good.2)

-- parts
notes_stop : (hs : List Head) → begins note_goes_on (all_then inner_then (note_parts hs) []) ≡ false
notes_stop [] = refl
notes_stop (h ∷ hs) = head_stops h (all_then inner_then (note_parts hs) [])

notes_parts : (hs : List Head) → InnerParts false (all_then inner_then (note_parts hs) []) (note_parts hs)
notes_parts [] = no_part
notes_parts (h ∷ hs) =
    let form = head_form h (whole []) in let rest = all_then inner_then (note_parts hs) [] in
    part (note_inside form) rest (note_parts hs) (inner_note form rest (head_good h (whole []) tt) (notes_stop hs))
    (notes_parts hs)

notes_chord : (h : Head) (hs : List Head) → IsChord false (of_parts (note_parts (h ∷ hs)) (whole []))
notes_chord h hs = record { parts = notes_parts (h ∷ hs); head = refl; length = tt }

narrower : (x : List ℕ) → begins note_goes_on x ≡ false → begins goes_on x ≡ false
narrower [] h = refl
narrower (b ∷ x) h = (or_parts (is_mark b) (goes_on b) h).1

abbrev part_pair : GracePart → List ℕ → GracePart × List ℕ
part_pair p x = (p, x)

single_class : (b : ℕ) (u : List ℕ)
    → eqb b 91 ≡ false → grace_part_at false (b ∷ u) ≡ option_map single_read (inner_at false (b ∷ u))
unfolding grace_part_at
single_class b u h = rw h refl

single_exact : (h : Head) (x : List ℕ)
    → begins note_goes_on x ≡ false
    → grace_part_at false (head_then h x) ≡ Some (part_pair (single (note_inside (head_form h (whole [])))) x)
single_exact h x stops =
    let form = head_form h (whole []) in
    let b = first_is h.sign (is_small_letter h.pitch.octave) h.pitch.letter (marks_of h.pitch.octave ++ x) in
    ap (grace_part_at false) b.is
    ∙ single_class b.byte b.rest b.bracket
    ∙ ap (λ s. option_map single_read (inner_at false s)) (sym b.is)
    ∙ ap (option_map single_read) (inner_note form x (head_good h (whole []) tt) stops)

notes_whole : (hs : List Head) → has_lone (note_parts hs) ≡ false
notes_whole [] = refl
notes_whole (h ∷ hs) = notes_whole hs

chorded_exact : (f : ChordForm) (x : List ℕ)
    → IsChord false f → has_lone f.parts ≡ false → begins note_goes_on x ≡ false
    → grace_part_at false (91 ∷ chord_then f x) ≡ Some (part_pair (chorded f) x)
chorded_exact f x good loneless stops =
    at_bracket false (chord_then f x) ∙ ap (option_map chorded_read) (chord_exact f x good loneless (narrower x stops))

part_exact : (hs : List Head) (x : List ℕ)
    → 1 ≤ length hs → begins note_goes_on x ≡ false
    → grace_part_at false (grace_part_then (plain_part hs) x) ≡ Some (part_pair (plain_part hs) x)
part_exact [] x some stops = absurd (omega (arith, some))
part_exact (h ∷ []) x some stops = single_exact h x stops
part_exact (h ∷ g ∷ hs) x some stops =
    chorded_exact (of_parts (note_parts (h ∷ g ∷ hs)) (whole [])) x (notes_chord h (g ∷ hs)) (notes_whole (h ∷ g ∷ hs))
    stops

-- a byte that begins a part of a grace group continues nothing, and is no slash
begins_part : (p : ℕ → Bool) (hs : List Head) (x : List ℕ)
    → 1 ≤ length hs → p 91 ≡ false → ((s : List ℕ) → (b : First s) → p b.byte ≡ false)
    → begins p (grace_part_then (plain_part hs) x) ≡ false
begins_part p [] x some h k = absurd (omega (arith, some))
begins_part p (h ∷ []) x some bracket k =
    let b = first_is h.sign (is_small_letter h.pitch.octave) h.pitch.letter (marks_of h.pitch.octave ++ x) in
    ap (begins p) b.is ∙ k (head_then h x) b
begins_part p (h ∷ g ∷ hs) x some bracket k = bracket

body_begins : (p : ℕ → Bool) (body : List GraceChord)
    → GoodBody body → p 91 ≡ false → ((s : List ℕ) → (b : First s) → p b.byte ≡ false)
    → begins p (all_then grace_part_then (plain_parts body) []) ≡ false
body_begins p [] good h k = refl
body_begins p (c ∷ cs) good h k = begins_part p c.heads (all_then grace_part_then (plain_parts cs) []) good.0 h k

body_parts : (body : List GraceChord)
    → GoodBody body → GraceParts false (all_then grace_part_then (plain_parts body) []) (plain_parts body)
body_parts [] good = no_part
body_parts (c ∷ cs) good =
    let rest = all_then grace_part_then (plain_parts cs) [] in let p = plain_part c.heads in
    then_part (grace_part_then p rest) p rest (plain_parts cs)
    (longest_of (part_reader false) (grace_part_then p rest) (p, rest)
    (part_exact c.heads rest good.0 (body_begins note_goes_on cs good.2 refl (λ s b. b.stops))))
    (body_parts cs good.2)

part_whole : (hs : List Head) → 1 ≤ length hs → lone_part_is (plain_part hs) ≡ false
part_whole [] some = absurd (omega (arith, some))
part_whole (h ∷ []) some = refl
part_whole (h ∷ g ∷ hs) some = notes_whole (h ∷ g ∷ hs)

pub body_whole : (body : List GraceChord) → GoodBody body → has_lone_part (plain_parts body) ≡ false
body_whole [] good = refl
body_whole (c ∷ cs) good = rw (part_whole c.heads good.0) (body_whole cs good.2)

pub grace_good : (slash : Bool) (body : List GraceChord) → GoodBody body → IsGrace false (plain_grace slash body)
grace_good slash body good = record {
  parts = body_parts body good;
  slash_is_read = λ e. body_begins is_slash_byte body good refl (λ s b. b.slash);
}

-- ---- any grace group that is read can be written
heads_untied : (parts : List Inner) → Untied (heads_in (map sense parts))
heads_untied [] = tt
heads_untied (note_inside f ∷ more) = (refl, heads_untied more)
heads_untied (_ ∷ more) = heads_untied more

some_plain_heads : (parts : List Inner) → has_inner_head parts ≡ true → 1 ≤ length (heads_in (map sense parts))
some_plain_heads [] h = absurd cc
some_plain_heads (note_inside f ∷ more) h = omega arith
some_plain_heads (_ ∷ more) h = some_plain_heads more h

body_add : (bang : Bool) (p : GracePart) (more : List GracePart)
    → IsGracePart bang p → GoodBody (body_of more) → GoodBody (body_of (p ∷ more))
body_add bang (single (note_inside f)) more good h = (omega arith, (refl, tt), h)
body_add bang (chorded f) more good h = (some_plain_heads f.parts good.head, heads_untied f.parts, h)
body_add bang (single _) more good h = h

pub body_from : (bang : Bool) (text : List ℕ) (parts : List GracePart)
    → GraceParts bang text parts → GoodBody (body_of parts)
body_from bang _ _ no_part = tt
body_from bang _ _ (then_part text p rest more l later) =
    body_add bang p more l.stands.good (body_from bang rest more later)
