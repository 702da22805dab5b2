-- The tree and the events in a row have the same beats, and these determine onsets.
use Rattle.mus_score.specs.Limits.{head_limit}
use Rattle.std.proofs.Common.{◌≡◌, ◌∙◌, ℕ, ◌+◌, ◌*◌, ◌≤◌, List, [], ◌∷◌, ◌++◌, ap, map, refl, subst, sym, arith}
use Rattle.std.proofs.lemmas.List.{map-append}
use Rattle.std.proofs.lemmas.List.Sums.{sum_by-cons}
use Rattle.std.specs.List.{AllByRecursion, sum_by}
use Rattle.mus_score.specs.declared.score.Flat.{Flat}
use Rattle.mus_score.specs.declared.score.Music.{Music}
use Rattle.mus_score.specs.declared.score.Music.TheOpen.{Music-F}
use Rattle.mus_score.specs.declared.score.Music.TheFolds.{fold-roll-Music, ind-Music, map-Music}
use Rattle.mus_score.specs.declared.score.Music.TheViews.{roll-Music}
use Rattle.mus_score.specs.declared.times.PendingLeaf.{PendingLeaf}
use Rattle.mus_score.specs.Good.{IsGoodBody, longest_ticks, total_ticks}
use Rattle.mus_score.specs.Times.{InTuplets, Leafing, flats_of, in_row, leaves_step, leaves_within, no_pending_leaf}
use Rattle.mus_score.proofs.Bounds.{all_music, body_fits, flats_short, gathered}
use Rattle.mus_onsets.specs.declared.beats.Beat.{Beat}
use Rattle.mus_onsets.specs.Beats.{beat_of, beat_onsets, beats_in_row, beats_of, beats_step, beats_within}
use Rattle.mus_onsets.specs.Onsets.{event_onsets}

abbrev Agree : InTuplets (List Beat) → Leafing → Type 0
Agree b l = (qs ps : ℕ) (w : PendingLeaf) → map beat_of (l qs ps w).flats ≡ b qs ps

abbrev Agrees : Music → Type 0
Agrees m = Agree (beats_within m) (leaves_within m)

body_agrees : (ms : List Music)
    → AllByRecursion Agrees ms → Agree (beats_in_row (map beats_within ms)) (in_row (map leaves_within ms))
body_agrees [] all qs ps w = refl
body_agrees (m ∷ ms) all qs ps w =
    let first = leaves_within m qs ps w in let others = in_row (map leaves_within ms) qs ps first.waits in
    map-append beat_of first.flats others.flats ∙ ap (λ bs. bs ++ map beat_of others.flats) (all.0 qs ps w)
    ∙ ap (λ bs. beats_within m qs ps ++ bs) (body_agrees ms all.1 qs ps first.waits)

abbrev StepAgrees : Music-F Music → Type 0
StepAgrees x =
    Agree (beats_step (map-Music Music (InTuplets (List Beat)) beats_within x))
    (leaves_step (map-Music Music Leafing leaves_within x))

along : (x : Music-F Music) → StepAgrees x → Agrees (roll-Music x)
along x h =
    subst (λ b. Agree b (leaves_within (roll-Music x))) (sym (fold-roll-Music (InTuplets (List Beat)) beats_step x))
    (subst (λ l. Agree (beats_step (map-Music Music (InTuplets (List Beat)) beats_within x)) l)
    (sym (fold-roll-Music Leafing leaves_step x)) h)

step_agrees : (y : Music-F ((m : Music) × Agrees m))
    → StepAgrees (map-Music ((m : Music) × Agrees m) Music (λ e. e.0) y)
step_agrees (Music-F.Note e) qs ps w = refl
step_agrees (Music-F.Rest e) qs ps w = refl
step_agrees (Music-F.Grace ys slash) qs ps w = refl
step_agrees (Music-F.Tuplet p q ys) qs ps w = body_agrees (map (λ e. e.0) ys) (gathered Agrees ys) _ _ _

agrees : (m : Music) → Agrees m
agrees =
    ind-Music Agrees (λ x y is.
    subst (λ z. Agrees (roll-Music z)) is
    (along (map-Music ((m : Music) × Agrees m) Music (λ e. e.0) y) (step_agrees y)))

pub beats_agree : (ms : List Music) → beats_of ms ≡ beats_in_row (map beats_within ms) 1 1
beats_agree ms = body_agrees ms (all_music Agrees agrees ms) 1 1 no_pending_leaf

ticks_of : (fs : List Flat) → sum_by (λ b. b.ticks) (map beat_of fs) ≡ total_ticks fs
ticks_of [] = refl
ticks_of (f ∷ fs) =
    omega (
      arith,
      ticks_of fs,
      sum_by-cons (λ b. b.ticks) (beat_of f) (map beat_of fs),
      sum_by-cons (λ x. x.duration) f fs,
    )

pub beats_short : (ms : List Music) → IsGoodBody ms → sum_by (λ b. b.ticks) (beats_of ms) ≤ head_limit * longest_ticks
beats_short ms good = omega (arith, ticks_of (flats_of ms), flats_short ms good)

pub ruleset beats_bounds = (beats_agree, beats_short, body_fits)

onsets_same : (voice measure tick : ℕ) (before fs : List Flat)
    → tick ≡ total_ticks before → beat_onsets voice measure tick (map beat_of fs) ≡ event_onsets voice measure before fs
onsets_same voice measure tick before [] e = refl
onsets_same voice measure tick before (f ∷ fs) e =
    let sum = sum_by-cons (λ x. x.duration) f before in
    ap (λ n.
    record { voice = voice; measure = measure; event = f.event.id; tick = n }
    ∷ beat_onsets voice measure (tick + f.duration) (map beat_of fs))
    e
    ∙ ap (λ os. record { voice = voice; measure = measure; event = f.event.id; tick = total_ticks before } ∷ os)
    (onsets_same voice measure (tick + f.duration) (f ∷ before) fs (omega (arith, sum, e)))

pub body_onsets : (voice measure : ℕ) (ms : List Music)
    → beat_onsets voice measure 0 (beats_of ms) ≡ event_onsets voice measure [] (flats_of ms)
body_onsets voice measure ms = onsets_same voice measure 0 [] (flats_of ms) refl
