-- What a listener knows after the head of a system, a change and a bar.
use Rattle.std.proofs.Common.{◌≡◌, refl, ap, ◌∙◌, List, [], ◌∷◌, ◌++◌, map, append-nil, Bool, true, false, cond, not}
use Rattle.std.specs.Prelude.{ℤ, pos, Option, Some, None, unwrap_or, if◌then◌else◌}
use Rattle.std.specs.List.{find, list_any}
use Rattle.std.specs.Option.{option_map}
use Rattle.mus_units.specs.Good.{same_letter}
use Rattle.mus_units.specs.declared.key.Key.{Key}
use Rattle.mus_units.specs.declared.key.Sign.{Sign}
use Rattle.mus_units.specs.declared.key.Spread.{Spread}
use Rattle.mus_units.specs.declared.note.Head.{Head}
use Rattle.mus_units.specs.declared.pitch.Alter.{Alter}
use Rattle.mus_units.specs.declared.pitch.Clef.{Clef}
use Rattle.mus_units.specs.declared.pitch.Pitch.{Pitch}
use Rattle.mus_pitch.specs.Alteration.{key_sign}
use Rattle.mus_ink.specs.Drawing.{steps_dy}
use Rattle.mus_units.specs.Pitch.{clef_row}
use Rattle.mus_ink.specs.Signatures.{entry_dy}
use Rattle.mus_drawn.specs.declared.sounds.AlteredHead as score
use Rattle.ps_heard.specs.declared.column.Heard as page
use Rattle.ps_heard.specs.declared.column.HeardColumn.{HeardColumn}
use Rattle.ps_heard.specs.declared.column.Listener.{Listener}
use Rattle.ps_heard.specs.declared.column.HeardGlyph.{HeardGlyph}
use Rattle.ps_heard.specs.declared.column.Role.{Role}
use Rattle.ps_heard.specs.Ear.{hear_column}
use Rattle.ps_heard.specs.Hearing.{clef_after, entries, gives_key, heads_from, is_head, said_with_column}
use Rattle.law_voice_sound.specs.Noted.{change_notes, change_signs, clef_notes, entry_notes, head_column_notes}
use Rattle.law_voice_sound.specs.Noted.{naturals, new_signs, note}
use Rattle.law_voice_sound.proofs.Columns.{Hears, SameKey, column_law, shown_head}
use Rattle.law_voice_sound.proofs.Pitches.{entries_read}

-- a function that skips a sign and a clef skips those of a column
entries_passed : {A : Type 0} (f : List HeardGlyph → A)
    → ((a : Alter) (dy : ℤ) (ns : List HeardGlyph) → f (note (Role.Sign a) dy ∷ ns) ≡ f ns)
    → (c : Clef) (ss : List Sign)
    → f (entry_notes c ss) ≡ f []
entries_passed f one c [] = refl
entries_passed f one c (s ∷ ss) =
    one s.alter (entry_dy c s.alter s.letter) (entry_notes c ss) ∙ entries_passed f one c ss

-- for a column that shows a clef and signs of a key
abbrev opening : Option Clef → Clef → List Sign → List HeardGlyph
opening clef c ss = clef_notes clef ++ entry_notes c ss

opening_passed : {A : Type 0} (f : List HeardGlyph → A)
    → ((a : Alter) (dy : ℤ) (ns : List HeardGlyph) → f (note (Role.Sign a) dy ∷ ns) ≡ f ns)
    → ((new : Clef) (dy : ℤ) (ns : List HeardGlyph) → f (note (Role.Clef new) dy ∷ ns) ≡ f ns)
    → (clef : Option Clef) (c : Clef) (ss : List Sign) → f (opening clef c ss) ≡ f []
opening_passed f one other None c ss = entries_passed f one c ss
opening_passed f one other (Some new) c ss =
    other new (steps_dy (clef_row new).line) (entry_notes c ss) ∙ entries_passed f one c ss

clef_shown : (d : Clef) (clef : Option Clef) (c : Clef) (ss : List Sign)
    → clef_after d (opening clef c ss) ≡ unwrap_or clef d
clef_shown d None c ss = entries_passed (clef_after d) (λ a dy ns. refl) c ss
clef_shown d (Some new) c ss = entries_passed (clef_after new) (λ a dy ns. refl) c ss

signs_shown : (clef : Option Clef) (c : Clef) (ss : List Sign) → entries c (opening clef c ss) ≡ ss
signs_shown None c ss = entries_read c ss
signs_shown (Some new) c ss = entries_read c ss

opening_law : {ear : Listener} {c : Clef} {signs : List Sign} {said : List Head} {before : List score.AlteredHead}
    {all : List page.Heard} (spread : Spread) (leads : Bool) (clef : Option Clef)
    (c' : Clef) (ss signs' key : List Sign) (ties : List ℤ)
    → Hears ear c signs said before all → unwrap_or clef c ≡ c'
    → (if gives_key leads (opening clef c' ss) then ss else ear.key.signs) ≡ key
    → SameKey key signs'
    → Hears (hear_column spread ear (record { leads = leads; notes = opening clef c' ss; ties = ties })) c' signs' said
    before all
opening_law {ear} {c} {signs} {said} {before} {all} spread leads clef c' ss signs' key ties h clef_is key_is same =
    let col : HeardColumn = record { leads = leads; notes = opening clef c' ss; ties = ties } in
    column_law spread col c' signs' key said before all [] h (clef_shown c clef c' ss ∙ clef_is)
    (ap (λ t. if gives_key leads (opening clef c' ss) then t else ear.key.signs) (signs_shown clef c' ss) ∙ key_is) same
    (opening_passed (said_with_column c' col (map shown_head said)) (λ a dy ns. refl) (λ new dy ns. refl) clef c' ss)
    (opening_passed (heads_from spread col c' key ear.before (map shown_head said)) (λ a dy ns. refl)
    (λ new dy ns. refl) clef c' ss)
    h.before_is (append-nil all)

pub head_law : (spread : Spread) (ear : Listener) (c c' : Clef) (signs signs' : List Sign) (said : List Head)
    (before : List score.AlteredHead) (all : List page.Heard) (ties : List ℤ)
    → Hears ear c signs said before all
    → Hears (hear_column spread ear (record { leads = true; notes = head_column_notes c' signs'; ties = ties })) c'
    signs' said before all
head_law spread ear c c' signs signs' said before all ties h =
    opening_law spread true (Some c') c' signs' signs' signs' ties h refl refl (λ p. refl)

-- ---- a change
natural_key : (p : Pitch) (old : List Sign) → unwrap_or (key_sign p (naturals old)) Alter.Natural ≡ Alter.Natural
natural_key p [] = refl
natural_key p (s ∷ ss) = one (same_letter s.letter p.letter) (natural_key p ss)
  where
    one : (b : Bool) → unwrap_or (key_sign p (naturals ss)) Alter.Natural ≡ Alter.Natural
        → unwrap_or
        (option_map (λ t. t.alter)
        (cond b (Some (record { letter = s.letter; alter = Alter.Natural }))
        (find (λ t. same_letter t.letter p.letter) (naturals ss))))
        Alter.Natural
        ≡ Alter.Natural
    one true e = refl
    one false e = e

-- the key that is heard after a change: a column without heads gives it if it has a sign
abbrev key_left_after : List Sign → List Sign → List Sign
key_left_after key [] = key
key_left_after key (s ∷ ss) = s ∷ ss

key_given : (clef : Option Clef) (c : Clef) (ss key : List Sign)
    → (if gives_key false (opening clef c ss) then ss else key) ≡ key_left_after key ss
key_given None c [] key = refl
key_given (Some new) c [] key = refl
key_given None c (s ∷ ss) key =
    ap (λ b. if not b then s ∷ ss else key) (entries_passed (list_any (λ n. is_head n.role)) (λ a dy ns. refl) c ss)
key_given (Some new) c (s ∷ ss) key =
    ap (λ b. if not b then s ∷ ss else key) (entries_passed (list_any (λ n. is_head n.role)) (λ a dy ns. refl) c ss)

same_after_new : (key old new : List Sign) → SameKey key old → SameKey (key_left_after key (new_signs old new)) new
same_after_new key [] [] same p = same p
same_after_new key (s ∷ ss) [] same p = natural_key p (s ∷ ss)
same_after_new key old (s ∷ ss) same p = refl

same_after : (key old : List Sign) (change : Option Key) (now : Key)
    → now.signs ≡ old → SameKey key now.signs
    → SameKey (key_left_after key (change_signs old change)) (unwrap_or change now).signs
same_after key old None now e same p = same p
same_after key old (Some new) now e same p = same_after_new key old new.signs (rw (← e) same) p

pub change_law : (spread : Spread) (ear : Listener) (c : Clef) (now : Key) (old : List Sign) (clef : Option Clef)
    (key : Option Key) (said : List Head) (before : List score.AlteredHead) (all : List page.Heard) (ties : List ℤ)
    → Hears ear c now.signs said before all → now.signs ≡ old
    → Hears (hear_column spread ear
    (record { leads = false; notes = change_notes (unwrap_or clef c) old clef key; ties = ties }))
    (unwrap_or clef c) (unwrap_or key now).signs said before all
change_law spread ear c now old clef key said before all ties h e =
    let ss = change_signs old key in
    opening_law spread false clef (unwrap_or clef c) ss (unwrap_or key now).signs (key_left_after ear.key.signs ss) ties
    h
    refl
    (key_given clef (unwrap_or clef c) ss ear.key.signs) (same_after ear.key.signs old key now e h.key)

-- ---- a bar
pub bar_law : (spread : Spread) (ear : Listener) (c : Clef) (signs : List Sign) (said : List Head)
    (before : List score.AlteredHead) (all : List page.Heard) (ties : List ℤ)
    → Hears ear c signs said before all
    → Hears (hear_column spread ear (record { leads = false; notes = note Role.Bar (pos 0) ∷ []; ties = ties })) c signs
    [] before all
bar_law spread ear c signs said before all ties h =
    column_law spread (record { leads = false; notes = note Role.Bar (pos 0) ∷ []; ties = ties }) c signs ear.key.signs
    [] before all [] h refl refl h.key refl refl h.before_is (append-nil all)
