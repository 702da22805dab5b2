-- The staves of a tune that is laid out are at least the usual gap apart: each voice has one, and stacking keeps it.
use Rattle.std.proofs.Common.{◌≡◌, sym, subst, refl, ℕ, ℤ, pos, negsuc, zero, suc, ◌+ℤ◌, ◌-ℤ◌, ◌≤◌, Bool, true, false}
use Rattle.std.proofs.Common.{cond, not, List, [], ◌∷◌, ◌++◌, map, drop, filter, Option, Some, None, Ok}
use Rattle.std.proofs.Common.{slice_get, arith}
use Rattle.std.proofs.lemmas.Int.{ints}
use Rattle.std.proofs.lemmas.Option.{same_Some}
use Rattle.std.specs.List.{AllByRecursion, AllZip, flat_map}
use Rattle.std.specs.Option.{option_to_list}
use Rattle.abc_lines.specs.declared.book.Line.{Line}
use Rattle.abc_lines.specs.declared.book.TuneText.{TuneText}
use Rattle.abc_fields.specs.declared.defaults.Defaults.{Defaults}
use Rattle.abc_fields.specs.declared.header.Header.{Header}
use Rattle.abc_score.specs.declared.voices.ReadVoice.{ReadVoice}
use Rattle.abc_score.specs.Build.{IsScoreOf}
use Rattle.abc_score.specs.Score.{score_with, voice_by_header}
use Rattle.abc_score.specs.Voices.{voices_read}
use Rattle.lay_shared.specs.declared.drawing.SeatedVoice.{SeatedVoice}
use Rattle.lay_shared.specs.Drawn.{drawn_of, seated, seated_voice, sits_of, staff_gap}
use Rattle.mus_score.specs.declared.score.Score.{Score}
use Rattle.mus_score.specs.declared.score.Voice.{Voice}
use Rattle.mus_score.specs.Seats.{stands_lower, usual_gap}
use Rattle.mus_laid.specs.declared.laid.StaffMarks.{StaffMarks}
use Rattle.mus_laid.specs.declared.laid.SystemMarks.{SystemMarks}
use Rattle.mus_transpose.specs.declared.moves.Move.{Move}
use Rattle.mus_transpose.specs.Moved.{IsMoved, move_from, voice_by}
use Rattle.mus_units.specs.declared.key.Key.{Key}
use Rattle.lay_pages.specs.declared.stacking.Heights.{Heights}
use Rattle.lay_pages.specs.Stacking.{AreStavesStacked}
use Rattle.lay_tune.specs.Systems.{IsStack, gaps_between}
use Rattle.set_tune.specs.Terms.{Manner}
use Rattle.set_tune.specs.Setting.{HasScore, IsScoreDrawn}
use Rattle.set_tune.specs.Staves.{AreStavesApart, KeepStavesApart}
use Rattle.set_tune.proofs.Laid.{same_Ok}

-- ---- the voices
abbrev IsWide : Voice → Type 0
IsWide v = usual_gap ≤ v.gap

abbrev AreWide : List Voice → Type 0
AreWide vs = AllByRecursion IsWide vs

voices_wide : (header : Header) (n : ℕ) (vs : List ReadVoice) → AreWide (map (voice_by_header header n) vs)
unfolding voice_by_header
voices_wide header n [] = tt
voices_wide header n (v ∷ vs) = (omega arith, voices_wide header n vs)

score_wide : (header : Header) (flow : Bool) (vs : List ReadVoice) → AreWide (score_with header flow vs).voices
unfolding score_with
score_wide header flow vs = voices_wide header _ vs

-- as they are written
written_wide : (header : Header) (tune : TuneText) (flow : Bool) (s : Score)
    → IsScoreOf header tune flow s → AreWide s.voices
written_wide header tune flow s h = subst (λ (s : Score). AreWide s.voices) (sym h.value)
    (score_wide header flow (voices_read header h.items))

append_wide : (vs ws : List Voice) → AreWide vs → AreWide ws → AreWide (vs ++ ws)
append_wide [] ws h k = k
append_wide (v ∷ vs) ws h k = (h.0, append_wide vs ws h.1 k)

gap_wide : (leads : Bool) → usual_gap ≤ staff_gap leads
gap_wide true = omega arith
gap_wide false = omega arith

seat_wide : (at : SeatedVoice) (o : Option Voice) → AreWide (map (seated at) (option_to_list o))
seat_wide at None = tt
seat_wide at (Some v) = (gap_wide at.leads, tt)

seats_wide : (voices : List Voice) (sits : List SeatedVoice) → AreWide (flat_map (seated_voice voices) sits)
seats_wide voices [] = tt
seats_wide voices (at ∷ sits) =
    append_wide (seated_voice voices at) (flat_map (seated_voice voices) sits)
    (seat_wide at (slice_get voices at.place)) (seats_wide voices sits)

-- as they are drawn
drawn_wide : (staves : Option Line) (written drawn : Score)
    → IsScoreDrawn staves written (Ok drawn) → AreWide written.voices → AreWide drawn.voices
drawn_wide None written drawn draws h = subst (λ (s : Score). AreWide s.voices) (sym (same_Ok drawn written draws)) h
drawn_wide (Some line) written drawn (plan, spells, share, is) h =
    subst (λ (s : Score). AreWide s.voices) (sym is) (seats_wide written.voices (sits_of plan.staves))

move_wide : (by : Move) (vs : List Voice) → AreWide vs → AreWide (map (voice_by by) vs)
move_wide by [] h = tt
move_wide by (v ∷ vs) h = (h.0, move_wide by vs h.1)

-- as they are moved
moved_wide : (s t : Score) (key : Key) (by : ℤ) → IsMoved s key by (Some t) → AreWide s.voices → AreWide t.voices
moved_wide s t key (pos zero) is h = subst (λ (s : Score). AreWide s.voices) (sym (same_Some t s (is.same refl))) h
moved_wide s t key (pos (suc n)) is h = subst (λ (s : Score). AreWide s.voices) (sym (is.higher (λ e. cc)).1)
    (move_wide (move_from key (pos (suc n))) s.voices h)
moved_wide s t key (negsuc n) is h = subst (λ (s : Score). AreWide s.voices) (sym (is.higher (λ e. cc)).1)
    (move_wide (move_from key (negsuc n)) s.voices h)

-- ---- the gaps between staves
abbrev AreFar : List ℕ → Type 0
AreFar gaps = AllByRecursion (λ gap. usual_gap ≤ gap) gaps

some_far : (b : Bool) (v : Voice) (vs : List Voice)
    → IsWide v → AreFar (map (λ (v : Voice). v.gap) vs) → AreFar (map (λ (v : Voice). v.gap) (cond b (v ∷ vs) vs))
some_far true v vs wide h = (wide, h)
some_far false v vs wide h = h

gaps_far : (vs : List Voice) → AreWide vs → AreFar (map (λ (v : Voice). v.gap) (filter (λ v. not (stands_lower v)) vs))
gaps_far [] h = tt
gaps_far (v ∷ vs) h =
    some_far (not (stands_lower v)) v (filter (λ v. not (stands_lower v)) vs) h.0 (gaps_far vs h.1)

between_far : (vs : List Voice) → AreWide vs → AreFar (gaps_between vs)
between_far [] h = tt
between_far (v ∷ vs) h = gaps_far vs h.1

-- ---- the staves
first_base : (top : ℤ) (gaps : List ℕ) (staff : StaffMarks) (staves : List StaffMarks) (base : ℤ) (bases : List ℤ)
    (bottom : ℤ)
    → AreStavesStacked top gaps (staff ∷ staves) (base ∷ bases) bottom → base +ℤ staff.high ≡ top
first_base top [] staff [] base [] bottom h = h.0
first_base top (gap ∷ gaps) staff (next ∷ staves) base bases bottom h = h.0
first_base top _ staff _ base _ bottom h = absurd h

stacked_apart : (top : ℤ) (gaps : List ℕ) (staves : List StaffMarks) (bases : List ℤ) (bottom : ℤ)
    → AreFar gaps → AreStavesStacked top gaps staves bases bottom → AreStavesApart usual_gap staves bases
stacked_apart top [] [] [] bottom far h = tt
stacked_apart top [] (staff ∷ []) (base ∷ []) bottom far h = tt
stacked_apart top (gap ∷ gaps) (staff ∷ next ∷ staves) (base ∷ []) bottom far h = tt
stacked_apart top (gap ∷ gaps) (staff ∷ next ∷ staves) (base ∷ below ∷ bases) bottom far h =
    let under = first_base ((base +ℤ staff.low) -ℤ pos gap) gaps next staves below bases bottom h.1 in
    let wide = far.0 in (
      omega (arith, ints),
      stacked_apart ((base +ℤ staff.low) -ℤ pos gap) gaps (next ∷ staves) (below ∷ bases) bottom far.1 h.1,
    )
stacked_apart top _ _ _ bottom far h = absurd h

systems_apart : (s : Score) (systems : List SystemMarks) (heights : List Heights)
    → AreFar (gaps_between s.voices) → AllZip (IsStack s) systems heights → KeepStavesApart systems heights
systems_apart s [] [] far h = tt
systems_apart s (m ∷ ms) (h ∷ hs) far is = (
  stacked_apart (pos 0) (gaps_between s.voices) m.staves h.bases (pos 0 -ℤ h.height) far is.0.stacked,
  systems_apart s ms hs far is.1,
)
systems_apart s _ _ far is = absurd is

-- the staves of a laid out score of a tune
pub staves_apart : (tune : TuneText) (defaults : Defaults) (manner : Manner) (header : Header) (s : Score)
    (systems : List SystemMarks) (heights : List Heights)
    → HasScore tune defaults manner header s → AllZip (IsStack s) systems heights → KeepStavesApart systems heights
staves_apart tune defaults manner header s systems heights has stacked =
    let written = written_wide header tune manner.flow has.written has.is.value in
    let drawn = drawn_wide header.staves has.written has.drawn has.draws written in
    systems_apart s systems heights
    (between_far s.voices (moved_wide has.drawn s header.key manner.by has.moved drawn)) stacked
