-- Moved scores. A head moves by letters, and an accidental before it becomes the one that is as many semitones
-- higher; a key moves by sharps. Beside each is the test whether it can be moved.
use Rattle.mus_score.specs.Limits.{highest_head, lowest_head}
use Rattle.std.specs.Prelude.{◌≡◌, ◌≢◌, ⊤, zero, suc, ℕ, ℤ, pos, negsuc, ◌+ℤ◌, ◌-ℤ◌, ◌*ℤ◌, ◌≤ℤ◌, ◌&&◌, nat_le, int_le}
use Rattle.std.specs.Prelude.{Bool, true, false, List, [], ◌∷◌, length, map, All, MatchOption, Option, Some, None}
use Rattle.std.specs.Prelude.{Result, Ok, Err, is_some, unwrap_or}
use Rattle.std.specs.Cmp.Lexicographic.{pointwise}
use Rattle.std.specs.Int.{int_div_euclid, int_rem_euclid}
use Rattle.std.specs.List.{list_all}
use Rattle.std.specs.Option.{option_map}
use Rattle.std.specs.Ordering.{int_eq}
use Rattle.mus_units.specs.Good.{same_letter}
use Rattle.mus_units.specs.Pitch.{height_of}
use Rattle.mus_units.specs.declared.key.Key.{Key}
use Rattle.mus_units.specs.declared.key.Sign.{Sign}
use Rattle.mus_units.specs.declared.note.Head.{Head}
use Rattle.mus_units.specs.declared.pitch.Alter.{Alter}
use Rattle.mus_units.specs.declared.pitch.Clef.{Clef}
use Rattle.mus_units.specs.declared.pitch.Letter.{Letter}
use Rattle.mus_units.specs.declared.pitch.Pitch.{Pitch}
use Rattle.mus_pitch.specs.{Circle.is_signature, Circle.signs_of, Steps.pitch_of_steps, Steps.steps}
use Rattle.mus_score.specs.declared.score.Event.{Event}
use Rattle.mus_score.specs.declared.score.Flat.{Flat}
use Rattle.mus_score.specs.declared.score.Measure.{Measure}
use Rattle.mus_score.specs.declared.score.Music.{Music}
use Rattle.mus_score.specs.declared.score.Music.TheOpen.{Music-F}
use Rattle.mus_score.specs.declared.score.Music.TheViews.{roll-Music}
use Rattle.mus_score.specs.declared.score.Music.TheFolds.{fold-Music}
use Rattle.mus_score.specs.declared.score.Score.{Score}
use Rattle.mus_score.specs.declared.score.Voice.{Voice}
use Rattle.mus_score.specs.GoodScore.{AreInReach, clef_at, events_of}
use Rattle.mus_transpose.specs.{declared.moves.Move.Move, declared.moves.MoveError.MoveError}

-- the semitones from C to a letter
abbrev pub half_steps_above_c : Letter → ℕ
half_steps_above_c Letter.C = 0
half_steps_above_c Letter.D = 2
half_steps_above_c Letter.E = 4
half_steps_above_c Letter.F = 5
half_steps_above_c Letter.G = 7
half_steps_above_c Letter.A = 9
half_steps_above_c Letter.B = 11

abbrev pub alter_of : Alter → ℤ
alter_of Alter.Flat2 = negsuc 1
alter_of Alter.Flat = negsuc 0
alter_of Alter.Natural = pos 0
alter_of Alter.Sharp = pos 1
alter_of Alter.Sharp2 = pos 2

-- the alteration by that many semitones, if there is one
abbrev pub alter_from : ℤ → Option Alter
alter_from (pos zero) = Some Alter.Natural
alter_from (pos (suc zero)) = Some Alter.Sharp
alter_from (pos (suc (suc zero))) = Some Alter.Sharp2
alter_from (negsuc zero) = Some Alter.Flat
alter_from (negsuc (suc zero)) = Some Alter.Flat2
alter_from _ = None

unfoldable pub semitones : Pitch → Alter → ℤ
semitones p a = (pos 12 *ℤ p.octave +ℤ pos (half_steps_above_c p.letter)) +ℤ alter_of a

abbrev pub Within : ℤ → ℤ → ℤ → Type 0
Within least most z = (least ≤ℤ z) × (z ≤ℤ most)

-- the key of -5 to 6 sharps that is seven fifths further for each semitone, modulo twelve fifths
abbrev pub new_sharps : ℤ → ℤ → ℤ
new_sharps sharps by = int_rem_euclid ((sharps +ℤ (pos 7 *ℤ by)) +ℤ pos 5) (pos 12) -ℤ pos 5

-- a fifth is seven semitones and four letters, an octave twelve and seven
abbrev pub octaves_between : ℤ → ℤ → ℤ
octaves_between change by = int_div_euclid ((pos 7 *ℤ change) -ℤ by) (pos 12)

abbrev pub move_by : ℤ → ℤ → Move
move_by change by =
    record { semitones = by; sharps = change; letters = (pos 4 *ℤ change) -ℤ (pos 7 *ℤ octaves_between change by) }

unfoldable pub move_for : ℤ → ℤ → Move
move_for sharps by = move_by (new_sharps sharps by -ℤ sharps) by

-- ---- heads
abbrev pub moved_steps : Move → Pitch → ℤ
moved_steps m p = steps p +ℤ m.letters

unfoldable pub moved_pitch : Move → Pitch → Pitch
moved_pitch m p = pitch_of_steps (moved_steps m p)

-- the moved pitch is in reach in at least one clef, from seven ledger lines below the lowest staff, G2, to seven
-- above the highest, E4: graces after the last event of a measure are in no clef of their own
abbrev pub is_near_staff : Move → Pitch → Bool
is_near_staff m p = int_le (pos 4) (moved_steps m p) && int_le (moved_steps m p) (pos 52)

-- the alteration at the moved pitch with which a head is that many semitones higher, if there is one
unfoldable pub moved_alter : Move → Pitch → Alter → Option Alter
moved_alter m p a = alter_from ((semitones p a +ℤ m.semitones) -ℤ semitones (moved_pitch m p) Alter.Natural)

-- an accidental that would be beyond a double one stays, but its score cannot be moved
abbrev pub moved_sign : Move → Pitch → Option Alter → Option Alter
moved_sign m p sign = option_map (λ a. unwrap_or (moved_alter m p a) a) sign

abbrev pub sign_moves : Move → Pitch → Option Alter → Bool
sign_moves m p sign = unwrap_or (option_map (λ a. is_some (moved_alter m p a)) sign) true

abbrev pub moved_head : Move → Head → Head
moved_head m h = record { pitch = moved_pitch m h.pitch; sign = moved_sign m h.pitch h.sign; tied = h.tied }

abbrev pub head_moves : Move → Head → Bool
head_moves m h = is_near_staff m h.pitch && sign_moves m h.pitch h.sign

-- ---- keys

-- the sharps of a key by its first accidental; each flat counts as one less
abbrev pub sharps_by : Alter → ℤ → ℤ
sharps_by Alter.Flat count = pos 0 -ℤ count
sharps_by _ count = count

abbrev pub sharps_in : List Sign → ℤ
sharps_in [] = pos 0
sharps_in (s ∷ signs) = sharps_by s.alter (pos (suc (length signs)))

abbrev pub same_sign : Sign → Sign → Bool
same_sign s t = same_letter s.letter t.letter && int_eq (alter_of s.alter) (alter_of t.alter)

-- a key on the circle of fifths has the accidentals of -7 to 7 sharps, in their order
abbrev pub on_circle : Key → Bool
on_circle k = nat_le (length k.signs) 7 && pointwise same_sign k.signs (signs_of (sharps_in k.signs))

abbrev pub moved_key : Move → Key → Key
moved_key m k = record { signs = signs_of (sharps_in k.signs +ℤ m.sharps) }

-- the key and the moved one are on the circle
abbrev pub key_may : Move → Key → Bool
key_may m k = on_circle k && is_signature (sharps_in k.signs +ℤ m.sharps)

-- ---- events, including graces
abbrev pub event_by : Move → Event → Event
event_by m e = record e {
  heads = map (moved_head m) e.heads;
  changes = record { clef = e.changes.clef; key = option_map (moved_key m) e.changes.key; meter = e.changes.meter };
}

abbrev pub event_may : Move → Event → Bool
event_may m e = list_all (head_moves m) e.heads && unwrap_or (option_map (key_may m) e.changes.key) true

-- ---- trees

-- a node with each event in it changed
abbrev pub changed_layer : {A : Type 0} → (Event → Event) → Music-F A → Music-F A
changed_layer g (Music-F.Note e) = Music-F.Note (g e)
changed_layer g (Music-F.Rest e) = Music-F.Rest (g e)
changed_layer g (Music-F.Grace body slash) = Music-F.Grace body slash
changed_layer g (Music-F.Tuplet p q body) = Music-F.Tuplet p q body

abbrev pub changed_step : (Event → Event) → Music-F Music → Music
changed_step g x = roll-Music (changed_layer g x)

abbrev pub changed : (Event → Event) → Music → Music
changed g = fold-Music Music (changed_step g)

abbrev pub changed_flat : (Event → Event) → Flat → Flat
changed_flat g f = record f { event = g f.event; graces = map g f.graces }

abbrev pub all_true : List Bool → Bool
all_true [] = true
all_true (b ∷ bs) = b && all_true bs

-- each event in a node passes a test, including graces
abbrev pub passing_step : (Event → Bool) → Music-F Bool → Bool
passing_step test (Music-F.Note e) = test e
passing_step test (Music-F.Rest e) = test e
passing_step test (Music-F.Grace body slash) = all_true body
passing_step test (Music-F.Tuplet p q body) = all_true body

abbrev pub all_pass : (Event → Bool) → Music → Bool
all_pass test = fold-Music Bool (passing_step test)

abbrev pub body_by : Move → List Music → List Music
body_by by body = map (changed (event_by by)) body

abbrev pub body_may : Move → List Music → Bool
body_may by body = all_true (map (all_pass (event_may by)) body)

-- ---- voices and scores
abbrev pub measure_by : Move → Measure → Measure
measure_by by x = record x { body = body_by by x.body }

abbrev pub voice_by : Move → Voice → Voice
voice_by by v = record v { key = moved_key by v.key; measures = map (measure_by by) v.measures }

abbrev pub voice_may : Move → Voice → Bool
voice_may by v = key_may by v.key && list_all (λ x. body_may by x.body) v.measures

abbrev pub score_by : Move → Score → Score
score_by by s = record s { voices = map (voice_by by) s.voices }

-- the result of a call: the moved value if all in it can be moved, or else no move
abbrev pub GivesIfMovable : {A : Type 0} → Bool → A → Result A MoveError → Type 0
GivesIfMovable may x (Ok r) = (may ≡ true) × (r ≡ x)
GivesIfMovable may x (Err MoveError.NoMove) = may ≡ false
GivesIfMovable may x (Err MoveError.Memory) = ⊤

-- ---- reach: the same as `AreInReach`, as a test
abbrev pub in_reach : Clef → Head → Bool
in_reach clef h = int_le lowest_head (height_of h.pitch clef) && int_le (height_of h.pitch clef) highest_head

abbrev pub are_in_reach : Clef → List Flat → Bool
are_in_reach before [] = true
are_in_reach before (f ∷ fs) =
    list_all (in_reach (clef_at before f.event)) f.event.heads
    && (list_all (λ g. list_all (in_reach (clef_at before f.event)) g.heads) f.graces
    && are_in_reach (clef_at before f.event) fs)

-- ---- what can be moved

-- the move of a tune whose header names this key
abbrev pub move_from : Key → ℤ → Move
move_from header by = move_for (sharps_in header.signs) by

abbrev pub moved_score : Score → Key → ℤ → Score
moved_score s header by = score_by (move_from header by) s

-- the header's key and each key of the score, before and after the move, are on the circle of fifths, no moved
-- accidental is beyond a double one, and each moved head is in reach
pub record CanMove (s : Score) (key : Key) (by : ℤ) : Type 0 where
  pub header : on_circle key ≡ true
  pub voices : list_all (voice_may (move_from key by)) s.voices ≡ true
  pub reach : All (λ v. AreInReach v.clef (events_of v.measures)) (moved_score s key by).voices

-- the result of a move by that many semitones: by none the score itself, and none if the score cannot be moved
pub record IsMoved (s : Score) (key : Key) (by : ℤ) (moved : Option Score) : Type 0 where
  pub same : by ≡ pos 0 → moved ≡ Some s
  pub higher : by ≢ pos 0
      → MatchOption moved (CanMove s key by → ⊥) (λ t. CanMove s key by × (t ≡ moved_score s key by))
