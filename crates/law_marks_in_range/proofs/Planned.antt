-- The plan of each drawn event has its flags, and a shift for each of its heads.
use Rattle.std.proofs.Common.{◌≡◌, ◌∙◌, ℕ, ℤ, pos, ◌+◌, Bool, true, false, if◌then◌else◌, List, [], ◌∷◌, length, Option}
use Rattle.std.proofs.Common.{Some, None, refl}
use Rattle.std.proofs.lemmas.List.{length-map, length-replicate, length-set}
use Rattle.std.specs.List.{AllByRecursion, AllZip, slice_set}
use Rattle.std.specs.Prelude.{⊤, replicate}
use Rattle.mus_units.specs.{declared.note.Wish.Wish, declared.pitch.Clef.Clef}
use Rattle.mus_score.specs.declared.score.Flat.{Flat}
use Rattle.mus_score.specs.declared.score.Measure.{Measure}
use Rattle.mus_score.specs.declared.score.Voice.{Voice}
use Rattle.mus_score.specs.GoodScore.{clef_at}
use Rattle.mus_score.specs.Times.{flats_of}
use Rattle.mus_stems.specs.declared.heads.LastHead.{LastHead}
use Rattle.mus_stems.specs.declared.heads.HeadPosition.{HeadPosition}
use Rattle.mus_stems.specs.declared.plans.StemPlan.{StemPlan}
use Rattle.mus_stems.specs.declared.stills.StemInput.{StemInput}
use Rattle.mus_stems.specs.Heads.{Taken, gives_way, head_shift, shifted, shifts_of, stand_of, taken}
use Rattle.mus_stems.specs.Plans.{plan_of, stems_of}
use Rattle.mus_stems.specs.Stills.{clefs_from, flags_of, still_of, stills}
use Rattle.mus_drawn.specs.declared.drawn.DrawnMeasure.{DrawnMeasure}
use Rattle.mus_drawn.specs.declared.drawn.Style.{Style}
use Rattle.mus_drawn.specs.declared.standing.StaffState.{StaffState}
use Rattle.mus_drawn.specs.Drawn.{drawn_events, drawn_measure, drawn_measures, drawn_voice, standing_after}
use Rattle.mus_drawn.specs.Drawn.{staff_state_after, standing_of, style_of}
use Rattle.mus_slots.proofs.Filled.{IsPlannedEvent}
use Rattle.mus_slots.proofs.Plans.{all_planned}

-- ---- shifts
either_length : (b : Bool) (xs ys : List ℤ) (n : ℕ) → length xs ≡ n → length ys ≡ n → length (if b then xs else ys) ≡ n
either_length true xs ys n h g = h
either_length false xs ys n h g = g

shifted_length : (dx : ℤ) (b : Option LastHead) (ts : List Taken) (xs : List ℤ)
    → length (shifted dx b ts xs) ≡ length xs
shifted_length dx b [] xs = refl
shifted_length dx b (t ∷ ts) xs =
    either_length (gives_way b t.level)
    (shifted dx (Some (record { level = t.level; moved = true })) ts (slice_set xs t.place dx))
    (shifted dx (Some (record { level = t.level; moved = false })) ts xs) (length xs)
    (shifted_length dx (Some (record { level = t.level; moved = true })) ts (slice_set xs t.place dx)
    ∙ length-set xs t.place dx)
    (shifted_length dx (Some (record { level = t.level; moved = false })) ts xs)

shifts_length : (up : Bool) (ss : List HeadPosition) → length (shifts_of up ss) ≡ length ss
unfolding shifts_of
shifts_length up ss =
    shifted_length (head_shift up) None (taken up ss) (replicate (length ss) (pos 0))
    ∙ length-replicate (length ss) (pos 0)

-- ---- plans
record IsPlanned (e : StemInput) (p : StemPlan) : Type 0 where
  pub flags : p.flags ≡ flags_of e.base
  pub shifts : length p.shifts ≡ length e.stands

planned : (up : Bool) (to : ℤ) (group : ℕ) (e : StemInput) → IsPlanned e (plan_of up to group e)
unfolding plan_of
planned up to group e = record { flags = refl; shifts = shifts_length up e.stands }

all_known : (es : List StemInput) → AllByRecursion (λ e. ⊤) es
all_known [] = tt
all_known (e ∷ es) = (tt, all_known es)

stems_planned : (wish : Wish) (clef : Clef) (fs : List Flat)
    → AllZip IsPlanned (stills fs (clefs_from clef fs)) (stems_of wish fs (clefs_from clef fs))
stems_planned wish clef fs =
    all_planned (λ e. ⊤) IsPlanned (λ up to group e known. planned up to group e) wish fs (clefs_from clef fs)
    (all_known (stills fs (clefs_from clef fs)))

-- ---- drawn events
abbrev pub ArePlanned : List DrawnMeasure → Type 0
ArePlanned ds = AllByRecursion (λ d. ⊤ × AllByRecursion IsPlannedEvent d.events) ds

events_planned : (style : Style) (tick : ℕ) (now : StaffState) (fs : List Flat) (ps : List StemPlan)
    → AllZip IsPlanned (stills fs (clefs_from now.clef fs)) ps
    → AllByRecursion IsPlannedEvent (drawn_events style tick now fs ps)
unfolding still_of
events_planned style tick now [] ps h = tt
events_planned style tick now (f ∷ fs) [] h = tt
events_planned style tick now (f ∷ fs) (p ∷ ps) h = (
  record {
    flags = h.0.flags;
    shifts = h.0.shifts ∙ length-map f.event.heads (stand_of (clef_at now.clef f.event));
  },
  events_planned style (tick + f.duration) (standing_after now f.event.changes) fs ps h.1,
)

measures_planned : (style : Style) (now : StaffState) (ms : List Measure) → ArePlanned (drawn_measures style now ms)
unfolding drawn_measure
measures_planned style now [] = tt
measures_planned style now (m ∷ ms) =
    let fs = flats_of m.body in (
      (tt, events_planned style 0 now fs _ (stems_planned style.wish now.clef fs)),
      measures_planned style (staff_state_after now fs) ms,
    )

pub voice_planned : (v : Voice) → ArePlanned (drawn_voice v).measures
unfolding drawn_voice
voice_planned v = measures_planned (style_of v) (standing_of v) v.measures
