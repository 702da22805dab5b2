-- What the marks of each part say.
use Rattle.std.proofs.Common.{◌≡◌, refl, ℕ, zero, suc, ◌+◌, ◌*◌, ◌++◌, arith}
use Rattle.std.proofs.lemmas.Grind.{flat_map-append}
use Rattle.std.proofs.lemmas.List.{append-nil}
use Rattle.std.specs.Prelude.{ℤ, pos, Bool, true, false, List, [], ◌∷◌, Option, Some, None, length}
use Rattle.std.specs.List.{All}
use Rattle.mus_units.specs.declared.glyph.Glyph.{Glyph}
use Rattle.mus_units.specs.declared.key.Meter.{Meter}
use Rattle.mus_units.specs.declared.key.Sign.{Sign}
use Rattle.mus_units.specs.declared.key.Key.{Key}
use Rattle.mus_units.specs.declared.note.Bar.{Bar}
use Rattle.mus_units.specs.declared.note.Deco.{Deco}
use Rattle.mus_units.specs.declared.note.Head.{Head}
use Rattle.mus_units.specs.declared.pitch.Alter.{Alter}
use Rattle.mus_units.specs.declared.pitch.Clef.{Clef}
use Rattle.mus_units.specs.declared.value.Base.{Base}
use Rattle.mus_score.specs.declared.score.Changes.{Changes}
use Rattle.mus_score.specs.declared.score.Event.{Event}
use Rattle.mus_score.specs.declared.score.Look.{Look}
use Rattle.mus_score.specs.GoodScore.{IsInReach}
use Rattle.mus_stems.specs.declared.dots.Spot.{Spot}
use Rattle.mus_stems.specs.declared.plans.StemPlan.{StemPlan}
use Rattle.mus_stems.proofs.ColumnLaws.{signs_in_columns}
use Rattle.mus_ink.specs.declared.graces.Group.{Group}
use Rattle.mus_ink.specs.Bars.{bar_marks, glyph_if}
use Rattle.mus_ink.specs.Changes.{change_marks, head_marks, key_if, new_entries}
use Rattle.mus_ink.specs.Decos.{after_deco, body_marks, deco_marks, note_marks}
use Rattle.mus_ink.specs.Distances.{entry_step, grace_sign_side, signature_side}
use Rattle.mus_ink.specs.Drawing.{back, cut_dy, steps_dy}
use Rattle.mus_ink.specs.Graces.{at_end, grace_body, grace_head_ink, grace_marks}
use Rattle.mus_units.specs.Pitch.{clef_row}
use Rattle.mus_ink.specs.Kinds.{deco_glyph, head_glyph, sign_glyph}
use Rattle.mus_ink.specs.Notes.{dot_marks, heads_marks, ledger_marks, note_heads, sign_marks}
use Rattle.mus_ink.specs.Rests.{rest_dots, rest_marks, short_rests}
use Rattle.mus_ink.specs.Signatures.{entry_mark, entry_marks, meter_if, meter_marks}
use Rattle.mus_ink.specs.Stems.{flag_marks, flags_or_stubs, stem_marks, stub_marks}
use Rattle.mus_words.specs.declared.texts.TextPlace.{TextPlace}
use Rattle.mus_words.specs.Syllables.{syllables_from}
use Rattle.mus_words.specs.Texts.{above_from, below_from}
use Rattle.mus_drawn.specs.Drawn.{old_signs}
use Rattle.mus_drawn.proofs.Reaches.{near_of}
use Rattle.mus_slots.specs.declared.slots.Written.{Written}
use Rattle.mus_slots.specs.Staff.{written_marks}
use Rattle.ps_heard.specs.declared.column.Role.{Role}
use Rattle.ps_heard.specs.Columns.{noted}
use Rattle.ps_heard.specs.Roles.{role_of}
use Rattle.law_voice_sound.specs.Noted.{bar_notes, change_notes, change_signs, clef_note, entry_notes}
use Rattle.law_voice_sound.specs.Noted.{head_column_notes, head_notes, naturals, new_signs, note, sign_notes}
use Rattle.law_staff_columns.proofs.Forms.{AreShifted, AreSigned, drawn_notes}
use Rattle.law_staff_columns.proofs.Signed.{signs_placed}

-- ---- parts that say nothing
ledgers_quiet : (dys : List ℤ) → drawn_notes (ledger_marks dys) ≡ []
ledgers_quiet [] = refl
ledgers_quiet (dy ∷ dys) = ledgers_quiet dys

dots_quiet : (ss : List Spot) → drawn_notes (dot_marks ss) ≡ []
dots_quiet [] = refl
dots_quiet (s ∷ ss) = dots_quiet ss

flags_quiet : (up : Bool) (to : ℤ) (k n : ℕ) → drawn_notes (flag_marks up to k n) ≡ []
flags_quiet up to k zero = refl
flags_quiet up to k (suc n) = grind (arith, flags_quiet up to (k + 1) n)

stubs_quiet : (first up : Bool) (to : ℤ) (k n : ℕ) → drawn_notes (stub_marks first up to k n) ≡ []
stubs_quiet first up to k zero = refl
stubs_quiet first up to k (suc n) = grind (arith, stubs_quiet first up to (k + 1) n)

stems_quiet : (plan : StemPlan) (before after : ℕ) → drawn_notes (stem_marks plan before after) ≡ []
unfolding stem_marks flags_or_stubs
stems_quiet plan before after = grind (arith, flat_map-append, flags_quiet, stubs_quiet)

decos_quiet : (dy : ℤ) (ds : List Deco) → drawn_notes (deco_marks dy ds) ≡ []
decos_quiet dy [] = refl
decos_quiet dy (d ∷ ds) = grind (arith, flat_map-append, decos_quiet (after_deco dy (deco_glyph d)) ds)

shorts_quiet : (top : ℤ) (k n : ℕ) → drawn_notes (short_rests Glyph.R8 top k n) ≡ []
shorts_quiet top k zero = refl
shorts_quiet top k (suc n) = shorts_quiet top (k + 1) n

rest_dots_quiet : (raise : ℤ) (k n : ℕ) → drawn_notes (rest_dots raise k n) ≡ []
rest_dots_quiet raise k zero = refl
rest_dots_quiet raise k (suc n) = rest_dots_quiet raise (k + 1) n

rest_quiet : (raise : ℤ) (look : Look) (base : Base) (dots flags : ℕ)
    → drawn_notes (rest_marks raise look base dots flags) ≡ []
rest_quiet raise look base dots flags = grind (arith, flat_map-append, shorts_quiet, rest_dots_quiet)

meter_quiet : (dx : ℕ) (m : Option Meter) → drawn_notes (meter_if dx m) ≡ []
unfolding meter_marks
meter_quiet dx m = grind arith

-- a quiet glyph, if it is present
end_quiet : (b : Bool) (g : Glyph) (end : ℤ) → noted (role_of g end) end ≡ [] → drawn_notes (at_end b g end) ≡ []
end_quiet b g end quiet = grind (arith, quiet)

glyph_quiet : (b : Bool) (g : Glyph) → noted (role_of g (pos 0)) (pos 0) ≡ [] → drawn_notes (glyph_if b g) ≡ []
glyph_quiet b g quiet = grind (arith, quiet)

-- syllables and texts
syllables_quiet : (low : ℤ) (n : ℕ) (ws : List (Option (List ℕ))) → drawn_notes (syllables_from low n ws) ≡ []
syllables_quiet low n [] = refl
syllables_quiet low n (None ∷ ws) = syllables_quiet low (n + 1) ws
syllables_quiet low n (Some t ∷ ws) = grind (arith, flat_map-append, syllables_quiet low (n + 1) ws)

above_quiet : (high : ℤ) (k : ℕ) (ts : List (List ℕ)) → drawn_notes (above_from high k ts) ≡ []
above_quiet high k [] = refl
above_quiet high k (t ∷ ts) = above_quiet high (k + 1) ts

below_quiet : (low : ℤ) (verses k : ℕ) (ts : List (List ℕ)) → drawn_notes (below_from low verses k ts) ≡ []
below_quiet low verses k [] = refl
below_quiet low verses k (t ∷ ts) = below_quiet low verses (k + 1) ts

pub written_quiet : (place : TextPlace) (w : Written) → drawn_notes (written_marks place w) ≡ []
written_quiet place w = simp (flat_map-append, syllables_quiet, above_quiet, below_quiet)

-- ---- clefs and entries
clef_known : (c : Clef)
    → noted (role_of (clef_row c).glyph (steps_dy (clef_row c).line)) (steps_dy (clef_row c).line) ≡ clef_note c ∷ []
unfolding steps_dy cut_dy
clef_known c = grind arith

entry_known : (a : Alter) (dy : ℤ) → noted (role_of (sign_glyph a) dy) dy ≡ note (Role.Sign a) dy ∷ []
entry_known a dy = grind arith

entries_known : (c : Clef) (first k : ℕ) (ss : List Sign)
    → drawn_notes (entry_marks c false first k ss) ≡ entry_notes c ss
unfolding entry_mark
entries_known c first k [] = refl
entries_known c first k (s ∷ ss) = simp (entry_known, entries_known c first (k + 1) ss)

ends_known : (c : Clef) (first k : ℕ) (ss : List Sign)
    → drawn_notes (entry_marks c true first k ss) ≡ entry_notes c (naturals ss)
unfolding entry_mark
ends_known c first k [] = refl
ends_known c first k (s ∷ ss) = simp (ends_known c first (k + 1) ss)

pub head_known : (c : Clef) (signs : List Sign) (meter : Option Meter)
    → drawn_notes (head_marks c signs meter) ≡ head_column_notes c signs
unfolding head_marks
head_known c signs meter =
    let rest : drawn_notes
    (entry_marks c false signature_side 0 signs ++ meter_if (signature_side + entry_step * length signs) meter)
    ≡ entry_notes c signs =
    simp (flat_map-append, entries_known, meter_quiet, append-nil) in
    rw (clef_known, rest) refl

new_known : (c : Clef) (first : ℕ) (old new : List Sign)
    → drawn_notes (new_entries c first old new) ≡ entry_notes c (new_signs old new)
new_known c first old [] = ends_known c first 0 old
new_known c first old (s ∷ ss) = entries_known c first 0 (s ∷ ss)

key_known : (c : Clef) (first : ℕ) (old : Key) (new : Option Key)
    → drawn_notes (key_if c first (old_signs old new) new) ≡ entry_notes c (change_signs old.signs new)
key_known c first old new = grind (arith, new_known)

pub change_known : (c : Clef) (key : Key) (changes : Changes)
    → drawn_notes (change_marks c (old_signs key changes.key) changes)
    ≡ change_notes c key.signs changes.clef changes.key
unfolding change_marks
change_known c key changes = grind (arith, flat_map-append, clef_known, key_known, meter_quiet, append-nil)

pub bar_known : (b : Bar) → drawn_notes (bar_marks b) ≡ bar_notes b
unfolding bar_marks
bar_known b = simp (flat_map-append, glyph_quiet, append-nil)

-- ---- chords
signs_known : (c : Clef) (hs : List Head) (dxs : List (Option ℤ))
    → AreSigned hs dxs → drawn_notes (sign_marks c hs dxs) ≡ sign_notes c hs
signs_known c [] dxs signed = refl
signs_known c (h ∷ hs) [] signed = absurd signed
signs_known c (h ∷ hs) (None ∷ dxs) signed = rw signed.0 (signs_known c hs dxs signed.1)
signs_known c (h ∷ hs) (Some dx ∷ dxs) signed = grind (arith, flat_map-append, entry_known, signs_known c hs dxs signed)

one_head : (base : Base) (dy : ℤ) → noted (role_of (head_glyph base) dy) dy ≡ note Role.Head dy ∷ []
one_head base dy = grind arith

heads_known : (c : Clef) (base : Base) (hs : List Head) (dxs : List ℤ)
    → AreShifted hs dxs → drawn_notes (note_heads c (head_glyph base) hs dxs) ≡ head_notes Role.Head c hs
heads_known c base [] dxs shifted = refl
heads_known c base (h ∷ hs) [] shifted = absurd shifted
heads_known c base (h ∷ hs) (dx ∷ dxs) shifted = simp (one_head, heads_known c base hs dxs shifted)

body_known : (c : Clef) (raise : ℤ) (hs : List Head) (e : Event) (plan : StemPlan) (before after : ℕ)
    → AreSigned hs plan.signs → AreShifted hs plan.shifts
    → drawn_notes (body_marks c raise hs e plan before after) ≡ sign_notes c hs ++ head_notes Role.Head c hs
unfolding heads_marks
body_known c raise [] e plan before after signed shifted = rest_quiet raise e.look e.value.base e.value.dots plan.flags
body_known c raise (h ∷ hs) e plan before after signed shifted =
    simp (
      flat_map-append,
      signs_known c (h ∷ hs) plan.signs signed,
      ledgers_quiet,
      heads_known c e.value.base (h ∷ hs) plan.shifts shifted,
      dots_quiet,
      stems_quiet,
      append-nil,
    )

pub note_known : (c : Clef) (raise : ℤ) (e : Event) (plan : StemPlan) (before after : ℕ)
    → AreSigned e.heads plan.signs → AreShifted e.heads plan.shifts
    → drawn_notes (note_marks c raise e plan before after) ≡ sign_notes c e.heads ++ head_notes Role.Head c e.heads
unfolding note_marks
note_known c raise e plan before after signed shifted =
    simp (flat_map-append, body_known c raise e.heads e plan before after signed shifted, decos_quiet, append-nil)

graces_known : (c : Clef) (hs : List Head) → drawn_notes (grace_head_ink c hs) ≡ head_notes Role.Grace c hs
graces_known c [] = refl
graces_known c (h ∷ hs) = simp (graces_known c hs)

pub grace_known : (c : Clef) (group : Group) (first : Bool) (g : Event)
    → All (IsInReach c) g.heads
    → drawn_notes (grace_marks c group first g) ≡ sign_notes c g.heads ++ head_notes Role.Grace c g.heads
unfolding grace_marks grace_body
grace_known c group first g reach =
    let signs = signs_in_columns (back grace_sign_side) _ (near_of c g.heads reach) in
    simp (
      flat_map-append,
      signs_known c g.heads _ (signs_placed _ c g.heads _ signs),
      ledgers_quiet,
      graces_known,
      end_quiet,
      append-nil,
    )
