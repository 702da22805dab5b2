-- Syllables are sung in exactly one way on the notes of a line: the way that a walk finds.
use Rattle.std.proofs.Common.{◌≡◌, ◌≤◌, ◌<◌, ℕ, ◌+◌, List, [], ◌∷◌, ◌++◌, refl, sym, ◌∙◌, ap, subst, append_assoc, inl}
use Rattle.std.proofs.Common.{inr, arith}
use Rattle.std.proofs.lemmas.Bool.{cases_lt, lt-ltb, le-ltb}
use Rattle.std.proofs.lemmas.List.Elements.{All-nil, All-cons, All-head, All-tail, All-append, All-weaker}
use Rattle.mus_lyric.specs.declared.singing.NoteAt.{NoteAt}
use Rattle.mus_lyric.specs.declared.singing.Sung.{Sung}
use Rattle.mus_lyric.specs.declared.syllable.Syl.{Syl}
use Rattle.mus_lyric.specs.declared.syllable.Syl.TheVariants.{Print, Skip, Bar}
use Rattle.mus_lyric.specs.Singing.{AreBefore, AreSungOn, Sings, TakesNote, bar, dropped, ends, first_measure}
use Rattle.mus_lyric.specs.Singing.{notes_from, on_first, with_sung, sung_from, sung_on, takes}

later : (count more : ℕ) (notes : List NoteAt) → count ≤ more → AreBefore count notes → AreBefore more notes
later count more notes le h = All-weaker (λ n. n.measure < count) (λ n. n.measure < more) (λ n lt. omega arith) notes h

after_all : (count : ℕ) (before notes : List NoteAt) → AreBefore count (before ++ notes) → AreBefore count notes
after_all count [] notes h = h
after_all count (note ∷ before) notes h =
    after_all count before notes (All-tail (λ n. n.measure < count) note (before ++ notes) h)

notes_from-before : (count : ℕ) (before notes : List NoteAt)
    → AreBefore count before → notes_from count (before ++ notes) ≡ notes_from count notes
notes_from-before count [] notes h = refl
notes_from-before count (note ∷ before) notes h =
    let lt : note.measure < count = All-head (λ n. n.measure < count) note before h in
    rw (lt-ltb note.measure count lt)
    (notes_from-before count before notes (All-tail (λ n. n.measure < count) note before h))

notes_from-reaches : (count : ℕ) (note : NoteAt) (notes : List NoteAt)
    → count ≤ note.measure → notes_from count (note ∷ notes) ≡ note ∷ notes
notes_from-reaches count note notes le = rw (le-ltb note.measure count le) refl

notes_from-none : (count : ℕ) (notes : List NoteAt) → AreBefore count notes → notes_from count notes ≡ []
notes_from-none count [] h = refl
notes_from-none count (note ∷ notes) h =
    let lt : note.measure < count = All-head (λ n. n.measure < count) note notes h in
    rw (lt-ltb note.measure count lt) (notes_from-none count notes (All-tail (λ n. n.measure < count) note notes h))

-- the notes skipped to reach the first note that the count allows
record Passes (count : ℕ) (notes : List NoteAt) (note : NoteAt) (following : List NoteAt) : Type 0 where
  before : List NoteAt
  are : notes ≡ before ++ note ∷ following
  earlier : AreBefore count before
  reaches : count ≤ note.measure

Found : ℕ → List NoteAt → List NoteAt → Type 0
Found count notes [] = AreBefore count notes
Found count notes (note ∷ following) = Passes count notes note following

passing : (count : ℕ) (note : NoteAt) (notes found : List NoteAt)
    → note.measure < count → Found count notes found → Found count (note ∷ notes) found
unfolding Found
passing count note notes [] lt h = All-cons (λ n. n.measure < count) note notes lt h
passing count note notes (first ∷ following) lt h = record {
  before = note ∷ h.before;
  are = ap (λ x. note ∷ x) h.are;
  earlier = All-cons (λ n. n.measure < count) note h.before lt h.earlier;
  reaches = h.reaches;
}

found : (count : ℕ) (notes : List NoteAt) → Found count notes (notes_from count notes)
unfolding Found
found count [] = All-nil (λ n. n.measure < count)
found count (note ∷ notes) = elim (cases_lt note.measure count) [
  | inl lt ↦ rw (lt-ltb note.measure count lt) (passing count note notes _ lt (found count notes))
  | inr ge ↦
      rw (le-ltb note.measure count ge)
      (record { before = []; are = refl; earlier = All-nil (λ n. n.measure < count); reaches = ge })
]

-- nothing is sung if the count is past all notes
sung_from-none : (syls : List Syl) (count : ℕ) (notes : List NoteAt)
    → AreBefore count notes → sung_from syls count notes ≡ []
sung_from-none [] count notes h = refl
sung_from-none (Print text ∷ syls) count notes h = rw (notes_from-none count notes h) refl
sung_from-none (Skip ∷ syls) count notes h = rw (notes_from-none count notes h) refl
sung_from-none (Bar ∷ syls) count notes h =
    sung_from-none syls (count + 1) notes (later count (count + 1) notes (omega arith) h)

goes_on : Syl → List Syl → NoteAt → List NoteAt → List Sung
goes_on syl syls note left = with_sung syl note (sung_from syls note.measure left)

-- a syllable or a skip continues after the first note that the count allows
sung_from-takes : (syl : Syl) (syls : List Syl) (count : ℕ) (notes : List NoteAt)
    → TakesNote syl → sung_from (syl ∷ syls) count notes ≡ on_first (goes_on syl syls) (notes_from count notes)
unfolding goes_on
sung_from-takes (Print text) syls count notes t = refl
sung_from-takes Skip syls count notes t = refl
sung_from-takes Bar syls count notes t = absurd t

one_way : (count : ℕ) (all : List NoteAt) (syls : List Syl) (sung : List Sung) → Sings count all syls sung
    → (passed notes : List NoteAt) → all ≡ passed ++ notes → AreBefore count passed → sung ≡ sung_from syls count notes
unfolding goes_on
one_way _ _ _ _ (ends count all) passed notes e h = refl
one_way _ _ _ _ (bar count all syls sung s) passed notes e h =
    one_way (count + 1) all syls sung s passed notes e (later count (count + 1) passed (omega arith) h)
one_way _ _ _ _ (takes count all syl syls note left sung t k s) passed notes e h =
    let same : notes_from count notes ≡ note ∷ k.following =
    sym (notes_from-before count passed notes h)
    ∙ ap (notes_from count) (sym e ∙ k.are)
    ∙ notes_from-before count k.before (note ∷ k.following) k.earlier
    ∙ notes_from-reaches count note k.following k.reaches in
    let more : sung ≡ sung_from syls note.measure k.following = one_way note.measure left syls sung s k.before
    k.following
    k.left_are (later count note.measure k.before k.reaches k.earlier) in
    ap (with_sung syl note) more ∙ sym (sung_from-takes syl syls count notes t ∙ ap (on_first (goes_on syl syls)) same)
one_way _ _ _ _ (dropped count all syl syls sung t none s) passed notes e h =
    let none_left : AreBefore count notes = after_all count passed notes (subst (AreBefore count) e none) in
    one_way count all syls sung s passed notes e h
    ∙ sung_from-none syls count notes none_left
    ∙ sym (sung_from-takes syl syls count notes t
    ∙ ap (on_first (goes_on syl syls)) (notes_from-none count notes none_left))

-- a syllable or a skip, on the note that the count finds, when all that follows is sung
sings_on : (syl : Syl) (syls : List Syl) (count : ℕ) (passed notes found : List NoteAt)
    → TakesNote syl → AreBefore count passed → Found count notes found
    → ((count : ℕ) (passed notes : List NoteAt)
    → AreBefore count passed → Sings count (passed ++ notes) syls (sung_from syls count notes))
    → Sings count (passed ++ notes) (syl ∷ syls) (on_first (goes_on syl syls) found)
unfolding Found goes_on
sings_on syl syls count passed notes [] t h f on =
    dropped count (passed ++ notes) syl syls [] t (All-append (λ n. n.measure < count) passed notes h f)
    (subst (Sings count (passed ++ notes) syls) (sung_from-none syls count notes f) (on count passed notes h))
sings_on syl syls count passed notes (note ∷ following) t h f on =
    let before : List NoteAt = passed ++ f.before in
    let earlier : AreBefore count before = All-append (λ n. n.measure < count) passed f.before h f.earlier in
    takes count (passed ++ notes) syl syls note (before ++ following) (sung_from syls note.measure following) t
    (record {
      before = before;
      following = following;
      are = ap (λ x. passed ++ x) f.are ∙ sym (append_assoc passed f.before (note ∷ following));
      left_are = refl;
      earlier = earlier;
      reaches = f.reaches;
    })
    (on note.measure before following (later count note.measure before f.reaches earlier))

sings : (syls : List Syl) (count : ℕ) (passed notes : List NoteAt)
    → AreBefore count passed → Sings count (passed ++ notes) syls (sung_from syls count notes)
unfolding goes_on
sings [] count passed notes h = ends count (passed ++ notes)
sings (Print text ∷ syls) count passed notes h =
    sings_on (Print text) syls count passed notes (notes_from count notes) tt h (found count notes) (sings syls)
sings (Skip ∷ syls) count passed notes h =
    sings_on Skip syls count passed notes (notes_from count notes) tt h (found count notes) (sings syls)
sings (Bar ∷ syls) count passed notes h =
    bar count (passed ++ notes) syls _
    (sings syls (count + 1) passed notes (later count (count + 1) passed (omega arith) h))

pub is_sung : (notes : List NoteAt) (syls : List Syl) (sung : List Sung)
    → sung ≡ sung_from syls (first_measure notes) notes → AreSungOn notes syls sung
is_sung notes syls sung e =
    subst (AreSungOn notes syls) (sym e)
    (sings syls (first_measure notes) [] notes (All-nil (λ n. n.measure < first_measure notes)))

pub is_one : (notes : List NoteAt) (syls : List Syl) (sung : List Sung)
    → sung ≡ sung_from syls (first_measure notes) notes → (other : List Sung) → AreSungOn notes syls other
    → other ≡ sung
is_one notes syls sung e other s =
    one_way (first_measure notes) notes syls other s [] notes refl (All-nil (λ n. n.measure < first_measure notes))
    ∙ sym e

pub is_value : (notes : List NoteAt) (syls : List Syl) (sung : List Sung)
    → sung ≡ sung_from syls (first_measure notes) notes → sung ≡ sung_on notes syls
unfolding sung_on
is_value notes syls sung e = e
