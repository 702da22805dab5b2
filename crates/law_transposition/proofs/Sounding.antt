-- A moved score sounds higher by the semitones of the move, head by head.
use Rattle.std.proofs.Common.{◌≡◌, refl, sym, subst, ℕ, ◌+◌, zero, Bool, true, false, ◌&&◌, cond, List, [], ◌∷◌, ◌++◌}
use Rattle.std.proofs.Common.{map, Option, None, arith}
use Rattle.std.proofs.lemmas.Bool.{and_parts}
use Rattle.std.proofs.lemmas.Int.{ints}
use Rattle.std.proofs.lemmas.List.{map-append}
use Rattle.std.specs.Prelude.{ℤ, pos, unwrap_or}
use Rattle.std.specs.List.{AllByRecursion, AllZip, list_all, list_any}
use Rattle.std.specs.Ordering.{int_eq}
use Rattle.mus_units.specs.Good.{same_letter}
use Rattle.mus_units.specs.declared.key.Key.{Key}
use Rattle.mus_units.specs.declared.key.Spread.{Spread}
use Rattle.mus_units.specs.declared.note.Head.{Head}
use Rattle.mus_units.specs.declared.pitch.Alter.{Alter}
use Rattle.mus_units.specs.declared.pitch.Pitch.{Pitch}
use Rattle.mus_pitch.specs.Alteration.{alteration_of}
use Rattle.mus_score.specs.declared.score.Score.{Score}
use Rattle.mus_score.specs.declared.score.Voice.{Voice}
use Rattle.mus_arcs.specs.Arcs.{has_pitch}
use Rattle.mus_drawn.specs.declared.sounds.Sound.{Sound}
use Rattle.mus_drawn.specs.Drawn.{standing_of}
use Rattle.mus_drawn.specs.Sounds.{Seen, Sounding, alter_by, comes_tied, event_sounds, head_sounds, seen_in, sounds_as}
use Rattle.mus_drawn.specs.Sounds.{sounds_of, tied_sound, voice_sounds}
use Rattle.mus_transpose.specs.declared.moves.Move.{Move}
use Rattle.mus_transpose.specs.Moved.{CanMove, body_may, head_moves, is_near_staff, key_may, move_for, move_from}
use Rattle.mus_transpose.specs.Moved.{moved_head, moved_pitch, moved_score, moved_sign, sharps_in, sign_moves, voice_by}
use Rattle.mus_transpose.specs.Moved.{voice_may}
use Rattle.law_transposition.specs.Higher.{AreHigher, IsHigher, MovedSoundsHigher}
use Rattle.law_transposition.proofs.Circle.{Higher, IsMove, move_is, steps_moved}
use Rattle.law_transposition.proofs.Seeing.{SeenMay, joined, moved_seen, seen_in_may, seen_in_moved}
use Rattle.law_transposition.proofs.Reaching.{Both, both_cond, carried, each, neither, own_higher, pitch_kept, Holds}
use Rattle.law_transposition.proofs.Reaching.{Passed, unsigned_higher}

-- ---- a head

-- for heads that are moved together with those before them in their event, the second sounds higher than the first by
-- the semitones of the move
abbrev SoundsHigher : Move → Sounding → Sounding → Type 0
SoundsHigher m f g =
    (earlier : List Head) (h : Head)
    → Holds (head_moves m) earlier → head_moves m h ≡ true
    → Higher m h.pitch (f earlier h) (g (map (moved_head m) earlier) (moved_head m h))

tied_higher : (m : Move) (f g : Sounding) (p : Pitch) (earlier hs : List Head)
    → SoundsHigher m f g → Holds (head_moves m) earlier → Holds (head_moves m) hs
    → Both (Higher m p) (tied_sound f p earlier hs)
    (tied_sound g (moved_pitch m p) (map (moved_head m) earlier) (map (moved_head m) hs))
tied_higher m f g p earlier [] higher before may = neither
tied_higher m f g p earlier (h ∷ hs) higher before may =
    let others = tied_higher m f g p (earlier ++ h ∷ []) hs higher
    (joined (Passed (head_moves m)) earlier (h ∷ []) before (may.0, tt {0})) may.1 in
    rw (pitch_kept m h.pitch p)
    (both_cond (h.tied && has_pitch p h) (f earlier h) (g (map (moved_head m) earlier) (moved_head m h)) (λ e.
    carried h.pitch p
    (and_parts (same_letter h.pitch.letter p.letter) (int_eq h.pitch.octave p.octave)
    (and_parts h.tied (has_pitch p h) e).1).0
    (higher earlier h before may.0))
    (subst (λ gs.
    Both (Higher m p) (tied_sound f p (earlier ++ h ∷ []) hs)
    (tied_sound g (moved_pitch m p) gs (map (moved_head m) hs)))
    (map-append (moved_head m) earlier (h ∷ [])) others))

earlier_kept : (m : Move) (p : Pitch) (hs : List Head)
    → list_any (has_pitch (moved_pitch m p)) (map (moved_head m) hs) ≡ list_any (has_pitch p) hs
earlier_kept m p [] = refl
earlier_kept m p (h ∷ hs) = rw (pitch_kept m h.pitch p, earlier_kept m p hs) refl

untied : {m : Move} {p : Pitch} {t u : Option Alter} (b : Bool)
    → Both (Higher m p) t u → Both (Higher m p) (cond b None t) (cond b None u)
untied true r = neither
untied false r = r

by_own : {m : Move} {p : Pitch} {own own' tied tied' : Option Alter} {a a' : Alter}
    → Both (Higher m p) own own' → Both (Higher m p) tied tied' → Higher m p a a'
    → Higher m p (alter_by own tied a) (alter_by own' tied' a')
by_own (each r) s t = r
by_own neither (each s) t = s
by_own neither neither t = t

-- a head, given its own accidental and the head that is tied to it
head_higher : (m : Move) (spread : Spread) (e : Seen) (earlier : List Head) (h : Head) (tied tied' : Option Alter)
    → IsMove m → SeenMay m e → Holds (head_moves m) earlier → head_moves m h ≡ true → Both (Higher m h.pitch) tied tied'
    → Higher m h.pitch (alter_by h.sign tied (alteration_of h.pitch None (e.said ++ earlier) spread e.signs))
    (alter_by (moved_sign m h.pitch h.sign) tied'
    (alteration_of (moved_pitch m h.pitch) None (map (moved_head m) e.said ++ map (moved_head m) earlier) spread
    (moved_seen m e).signs))
head_higher m spread e earlier h tied tied' move may before one both =
    let own = own_higher m h.pitch h.sign (and_parts (is_near_staff m h.pitch) (sign_moves m h.pitch h.sign) one).1 in
    rw (← map-append (moved_head m) e.said earlier)
    (by_own own both
    (unsigned_higher m spread h.pitch (e.said ++ earlier) (record { signs = e.signs }) move may.key
    (joined (Passed (head_moves m)) e.said earlier may.said before)))

sounds_higher : (m : Move) (spread : Spread) (before : List Seen) (e : Seen)
    → IsMove m → AllByRecursion (SeenMay m) before → SeenMay m e
    → SoundsHigher m (sounds_as spread before e) (sounds_as spread (map (moved_seen m) before) (moved_seen m e))
sounds_higher m spread [] e move prefix may earlier h before one =
    head_higher m spread e earlier h None None move may before one neither
sounds_higher m spread (d ∷ ds) e move prefix may earlier h before one =
    let f = sounds_as spread ds d in
    let g = sounds_as spread (map (moved_seen m) ds) (moved_seen m d) in
    let tied = tied_sound f h.pitch [] d.heads in
    let tied' = tied_sound g (moved_pitch m h.pitch) [] (map (moved_head m) d.heads) in
    head_higher m spread e earlier h (comes_tied tied h.pitch earlier)
    (comes_tied tied' (moved_pitch m h.pitch) (map (moved_head m) earlier)) move may before one
    (subst (λ b. Both (Higher m h.pitch) (comes_tied tied h.pitch earlier) (cond b None tied'))
    (sym (earlier_kept m h.pitch earlier))
    (untied (list_any (has_pitch h.pitch) earlier)
    (tied_higher m f g h.pitch [] d.heads (sounds_higher m spread ds d move prefix.1 prefix.0) (tt {0})
    prefix.0.heads)))

-- ---- lists of heads
abbrev AllHigher : Move → List Sound → List Sound → Type 0
AllHigher m = AllZip (IsHigher m.semitones m.letters)

all_joined : (m : Move) (xs us ys vs : List Sound)
    → AllHigher m xs ys → AllHigher m us vs → AllHigher m (xs ++ us) (ys ++ vs)
all_joined m [] us [] vs a b = b
all_joined m [] us (y ∷ ys) vs a b = absurd a
all_joined m (x ∷ xs) us [] vs a b = absurd a
all_joined m (x ∷ xs) us (y ∷ ys) vs a b = (a.0, all_joined m xs us ys vs a.1 b)

heads_higher : (m : Move) (f g : Sounding) (voice event k : ℕ) (earlier hs : List Head)
    → SoundsHigher m f g → Holds (head_moves m) earlier → Holds (head_moves m) hs
    → AllHigher m (head_sounds f voice event k earlier hs)
    (head_sounds g voice event k (map (moved_head m) earlier) (map (moved_head m) hs))
heads_higher m f g voice event k earlier [] higher before may = tt {0}
heads_higher m f g voice event k earlier (h ∷ hs) higher before may = (
  record {
    voice = refl;
    event = refl;
    head = refl;
    written = steps_moved m h.pitch;
    sounds = (higher earlier h before may.0).by;
  },
  subst (λ gs.
      AllHigher m (head_sounds f voice event (k + 1) (earlier ++ h ∷ []) hs)
      (head_sounds g voice event (k + 1) gs (map (moved_head m) hs)))
      (map-append (moved_head m) earlier (h ∷ []))
      (heads_higher m f g voice event (k + 1) (earlier ++ h ∷ []) hs higher
      (joined (Passed (head_moves m)) earlier (h ∷ []) before (may.0, tt {0})) may.1),
)

events_higher : (m : Move) (voice : ℕ) (spread : Spread) (before es : List Seen)
    → IsMove m → AllByRecursion (SeenMay m) before → AllByRecursion (SeenMay m) es
    → AllHigher m (event_sounds voice spread before es)
    (event_sounds voice spread (map (moved_seen m) before) (map (moved_seen m) es))
events_higher m voice spread before [] move prefix may = tt {0}
events_higher m voice spread before (e ∷ es) move prefix may =
    let f = sounds_as spread before e in let g = sounds_as spread (map (moved_seen m) before) (moved_seen m e) in
    all_joined m (head_sounds f voice e.id 0 [] e.heads) (event_sounds voice spread (e ∷ before) es)
    (head_sounds g voice e.id 0 [] (map (moved_head m) e.heads))
    (event_sounds voice spread (map (moved_seen m) (e ∷ before)) (map (moved_seen m) es))
    (heads_higher m f g voice e.id 0 [] e.heads (sounds_higher m spread before e move prefix may.0) (tt {0})
    may.0.heads)
    (events_higher m voice spread (e ∷ before) es move (may.0, prefix) may.1)

voices_higher : (m : Move) (i : ℕ) (spread : Spread) (vs : List Voice)
    → IsMove m → list_all (voice_may m) vs ≡ true
    → AllHigher m (voice_sounds i spread vs) (voice_sounds i spread (map (voice_by m) vs))
voices_higher m i spread [] move may = tt {0}
voices_higher m i spread (v ∷ vs) move may =
    let parts = and_parts (voice_may m v) (list_all (voice_may m) vs) may in
    let own = and_parts (key_may m v.key) (list_all (λ x. body_may m x.body) v.measures) parts.0 in
    let es = seen_in (standing_of v) v.measures in let w = voice_by m v in
    all_joined m (event_sounds i spread [] es) (voice_sounds (i + 1) spread vs)
    (event_sounds i spread [] (seen_in (standing_of w) w.measures)) (voice_sounds (i + 1) spread (map (voice_by m) vs))
    (subst (λ ds. AllHigher m (event_sounds i spread [] es) (event_sounds i spread [] ds))
    (sym (seen_in_moved m (standing_of v) v.measures))
    (events_higher m i spread [] es move (tt {0}) (seen_in_may m (standing_of v) v.measures own.0 own.1)))
    (voices_higher m (i + 1) spread vs move parts.1)

-- ---- a score
unmoved : (xs : List Sound) → AllZip (IsHigher (pos 0) (pos 0)) xs xs
unmoved [] = tt {0}
unmoved (x ∷ xs) = (
  record { voice = refl; event = refl; head = refl; written = omega (arith, ints); sounds = omega (arith, ints) },
  unmoved xs,
)

score_higher : (s t : Score) (header : Key) (by : ℤ)
    → CanMove s header by × (t ≡ moved_score s header by) → AreHigher by (sounds_of s) (sounds_of t)
unfolding move_for
score_higher s t header by moved =
    let m = move_from header by in
    let heads = voices_higher m 0 s.spread s.voices (move_is (sharps_in header.signs) by) moved.0.voices in
    record {
      letters = m.letters;
      heads = subst (λ (u : Score). AllHigher m (sounds_of s) (sounds_of u)) (sym moved.1) heads;
    }

pub moved_sounds_higher : MovedSoundsHigher
moved_sounds_higher s t header (pos zero) moved =
    subst (λ (o : Option Score). AreHigher (pos 0) (sounds_of s) (sounds_of (unwrap_or o s))) (sym (moved.same refl))
    (record { letters = pos 0; heads = unmoved (sounds_of s) })
moved_sounds_higher s t header by moved = score_higher s t header by (moved.higher (λ e. absurd (omega (arith, ints))))
