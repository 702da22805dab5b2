-- The same for voices whose stems have other ends: their columns, seats and texts are as they were.
use Rattle.std.proofs.Common.{◌≡◌, ◌∙◌, ℕ, ℤ, ◌+◌, ◌-◌, ◌≤◌, Bool, true, false, List, [], ◌∷◌, ◌++◌, length}
use Rattle.std.proofs.Common.{length-drop, length-take, map, take, drop, refl, sym, ap, subst, arith}
use Rattle.std.specs.List.{AllByRecursion, Contains, slice_range}
use Rattle.mus_score.specs.Seats.{is_lower}
use Rattle.mus_onsets.specs.declared.keys.ColumnKey.{ColumnKey}
use Rattle.mus_onsets.specs.Keys.{bar_key, event_keys, first_keys, head_key, keys_by}
use Rattle.mus_onsets.specs.Order.{Rises}
use Rattle.mus_stems.proofs.RunLaws.{all_append, all_drop, all_take}
use Rattle.mus_drawn.specs.declared.drawn.DrawnEvent.{DrawnEvent}
use Rattle.mus_drawn.specs.declared.drawn.DrawnMeasure.{DrawnMeasure}
use Rattle.mus_drawn.specs.declared.drawn.DrawnVoice.{DrawnVoice}
use Rattle.mus_time.specs.Columns.{events_columns, has_old, measures_columns, staff_columns}
use Rattle.mus_slots.proofs.KeysOf.{IsSeated, voice_keyed}
use Rattle.mus_bridges.specs.Ends.{event_ended, measure_ended, over, voice_ended}
use Rattle.mus_marks.proofs.Ending.{ended_length, flat_event, flat_measure, over_all, same_range}
use Rattle.mus_marks.proofs.Placed.{IsSlotted}

-- ---- columns
events_flat : (m : ℕ) (in_head : Bool) (es : List DrawnEvent)
    → events_columns m in_head (map flat_event es) ≡ events_columns m in_head es
events_flat m in_head [] = refl
events_flat m in_head (e ∷ es) =
    ap (λ ks. event_keys m e.tick in_head (has_old e) e.flat ++ ks) (events_flat m false es)

measures_flat : (lengths : List ℕ) (m : ℕ) (in_head : Bool) (ds : List DrawnMeasure)
    → measures_columns lengths m in_head (map flat_measure ds) ≡ measures_columns lengths m in_head ds
measures_flat lengths m in_head [] = refl
measures_flat lengths m in_head (d ∷ ds) =
    ap (λ ks. ks ++ bar_key lengths m ∷ measures_columns lengths (m + 1) false (map flat_measure ds))
    (events_flat m in_head d.events)
    ∙ ap (λ ks. events_columns m in_head d.events ++ bar_key lengths m ∷ ks) (measures_flat lengths (m + 1) false ds)

ended_columns : (lengths : List ℕ) (a b : ℕ) (ends : List (List ℤ)) (v : DrawnVoice)
    → measures_columns lengths a true (slice_range (voice_ended a ends v).measures a b)
    ≡ measures_columns lengths a true (slice_range v.measures a b)
ended_columns lengths a b ends v =
    same_range (measures_columns lengths a true) (measures_flat lengths a true) a b ends v

ended_staff : (lengths : List ℕ) (a b : ℕ) (ends : List (List ℤ)) (v : DrawnVoice)
    → staff_columns true lengths a b v ≡ staff_columns true lengths a b (voice_ended a ends v)
ended_staff lengths a b ends v =
    ap (λ ks. keys_by (is_lower v.seat) ((head_key a ∷ first_keys a v.first) ++ ks))
    (sym (ended_columns lengths a b ends v))

-- ---- seats, and the number of measures
ended_seated : (lower : Bool) (a : ℕ) (ends : List (List ℤ)) (v : DrawnVoice)
    → AllByRecursion (IsSeated lower) v.measures → AllByRecursion (IsSeated lower) (voice_ended a ends v).measures
ended_seated lower a ends v seated =
    all_append (IsSeated lower) (take a v.measures) (over measure_ended ends (drop a v.measures))
    (all_take (IsSeated lower) a v.measures seated)
    (over_all measure_ended (IsSeated lower)
    (λ own d h.
    (h.0, over_all event_ended (λ e. is_lower e.seat ≡ lower) (λ to e same. same) own d.events h.1))
    ends (drop a v.measures) (all_drop (IsSeated lower) a v.measures seated))

ended_some : (a b : ℕ) (ends : List (List ℤ)) (v : DrawnVoice)
    → 1 ≤ length (slice_range v.measures a b) → 1 ≤ length (slice_range (voice_ended a ends v).measures a b)
ended_some a b ends v some =
    let xs = v.measures in
    let ys = (voice_ended a ends v).measures in
    omega (
      arith,
      some,
      ended_length a ends v,
      length-drop a xs,
      length-take (b - a) (drop a xs),
      length-drop a ys,
      length-take (b - a) (drop a ys),
    )

module _ (keys : List ColumnKey) (lengths : List ℕ) (a b : ℕ) (ends : List (List ℤ)) (v : DrawnVoice) where
  pub ended_slotted : 1 ≤ length (slice_range v.measures a b)
      → AllByRecursion (IsSeated (is_lower v.seat)) v.measures → IsSlotted keys lengths a b v
      → IsSlotted keys lengths a b (voice_ended a ends v)
  ended_slotted some seated is =
      let w = voice_ended a ends v in
      record {
        keyed = λ first. voice_keyed first lengths a b w (ended_some a b ends v some)
            (ended_seated (is_lower v.seat) a ends v seated);
        rise = subst Rises (ended_staff lengths a b ends v) is.rise;
        inside = subst (AllByRecursion (Contains keys)) (ended_staff lengths a b ends v) is.inside;
      }
