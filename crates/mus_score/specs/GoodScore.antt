-- Good scores: required by each call that takes a score or a voice, and guaranteed by each call that makes one.
use Rattle.mus_score.specs.Seats.{wide_gap}
use Rattle.mus_score.specs.Limits.{head_limit, highest_head, lowest_head, measure_limit}
use Rattle.std.specs.Prelude.{◌≡◌, ◌≢◌, ⊤, ℕ, suc, ◌≤◌, ◌<◌, ◌≤ℤ◌, List, [], ◌∷◌, length, map, sum, sum_by}
use Rattle.std.specs.Prelude.{flat_map, false, All, AllPairs, IfSome, unwrap_or}
use Rattle.std.specs.List.Sorted.{IsStrictlyIncreasing}
use Rattle.mus_units.specs.declared.note.Head.{Head}
use Rattle.mus_units.specs.declared.pitch.Clef.{Clef}
use Rattle.mus_units.specs.Good.{IsGoodKey, IsGoodMeter}
use Rattle.mus_units.specs.Pitch.{height_of}
use Rattle.mus_score.specs.declared.score.Event.{Event}
use Rattle.mus_score.specs.declared.score.Flat.{Flat}
use Rattle.mus_score.specs.declared.score.Measure.{Measure}
use Rattle.mus_score.specs.declared.score.Voice.{Voice}
use Rattle.mus_score.specs.declared.score.Score.{Score}
use Rattle.mus_score.specs.Good.{IsGoodBody, weight}
use Rattle.mus_score.specs.Seats.{is_lower}
use Rattle.mus_score.specs.Times.{flats_of}

-- the events of measures, in order
abbrev pub events_of : List Measure → List Flat
events_of ms = flat_map (λ m. flats_of m.body) ms

-- the clef at an event: the one that it names, or else the one before it
abbrev pub clef_at : Clef → Event → Clef
clef_at before e = unwrap_or e.changes.clef before

-- the heights within reach: up to seven ledger lines below or above the staff
abbrev pub IsInReach : Clef → Head → Type 0
IsInReach clef h = (lowest_head ≤ℤ height_of h.pitch clef) × (height_of h.pitch clef ≤ℤ highest_head)

-- the heads of an event and of its graces, in the clef at the event
abbrev pub AreInReach : Clef → List Flat → Type 0
AreInReach before [] = ⊤
AreInReach before (f ∷ fs) =
    let clef = clef_at before f.event in
    All (IsInReach clef) f.event.heads × All (λ g. All (IsInReach clef) g.heads) f.graces × AreInReach clef fs

-- ids count from n on
abbrev pub AreCounted : ℕ → List Flat → Type 0
AreCounted n [] = ⊤
AreCounted n (f ∷ fs) = (f.event.id ≡ n) × AreCounted (suc n) fs

-- the words of an event have an entry for each verse, and its changes name good keys and meters
pub record IsGoodEvent (verses : ℕ) (f : Flat) : Type 0 where
  pub words : length f.event.words ≡ verses
  pub key : IfSome f.event.changes.key IsGoodKey
  pub meter : IfSome f.event.changes.meter IsGoodMeter

-- the heads and rests of a voice, including those of graces
abbrev pub voice_weight : Voice → ℕ
voice_weight v = sum_by (λ m. sum (map weight m.body)) v.measures

pub record IsGoodVoice (v : Voice) : Type 0 where
  pub few_measures : length v.measures ≤ measure_limit
  pub few_verses : v.verses ≤ 8
  pub near : v.gap ≤ wide_gap
  pub few_heads : voice_weight v ≤ head_limit
  pub key : IsGoodKey v.key
  pub meter : IsGoodMeter v.meter
  pub bodies : All (λ m. IsGoodBody m.body) v.measures
  pub events : All (IsGoodEvent v.verses) (events_of v.measures)
  pub reach : AreInReach v.clef (events_of v.measures)
  pub ids : AreCounted 0 (events_of v.measures)

-- the first voice begins a staff
abbrev pub IsLed : List Voice → Type 0
IsLed [] = ⊤
IsLed (v ∷ vs) = is_lower v.seat ≡ false

pub record IsGoodScore (s : Score) : Type 0 where
  pub few_voices : length s.voices ≤ 16
  pub few_measures : s.measures ≤ measure_limit
  pub few_heads : sum_by voice_weight s.voices ≤ head_limit
  pub voices : All IsGoodVoice s.voices
  pub measures : All (λ v. length v.measures ≡ s.measures) s.voices
  pub ids : AllPairs (λ v w. v.id ≢ w.id) s.voices
  pub forced : All (λ b. (1 ≤ b) × (b < s.measures)) s.forced
  pub forced_rise : IsStrictlyIncreasing s.forced
  pub led : IsLed s.voices
