-- A score of voices without faults is good.
use Rattle.mus_score.specs.Limits.{head_limit, measure_limit}
use Rattle.std.proofs.Common.{◌≡◌, ◌∙◌, refl, sym, ap, subst, ℕ, suc, ◌+◌, ◌≤◌, ◌<◌, List, [], ◌∷◌, map, sum_by, length}
use Rattle.std.proofs.Common.{le_trans, Bool, arith}
use Rattle.std.proofs.lemmas.List.Elements.{All-from_recursion, recursion_from_All, All-map}
use Rattle.std.proofs.lemmas.Option.{unwrap_or-slice_get}
use Rattle.std.proofs.lemmas.List.FromFn.{get_or-map-range_with_len, length-map-range_with_len}
use Rattle.std.proofs.lemmas.List.Sums.{sum_by-cons, sum_by-append}
use Rattle.std.proofs.lemmas.List.{length-map}
use Rattle.std.specs.{Prelude.flat_map, List.{All, AllByRecursion, range_with_len}, Str.bytes_eq}
use Rattle.abc_fields.specs.{declared.header.Header.Header, Headers.HasGoodValues}
use Rattle.abc_steps.specs.{declared.step.BodyItem.BodyItem, Good.{IsGoodForce, IsGoodPlacedStep}}
use Rattle.abc_items.specs.declared.voices.VoiceStart.{VoiceStart}
use Rattle.abc_items.specs.Good.{IsGoodItem}
use Rattle.abc_items.specs.Voices.{voice_ids, starts_of, unnamed_of}
use Rattle.abc_items.proofs.Laws.{steps_good}
use Rattle.mus_score.{proofs.Scores.{all_within_bars, distinct_pairs, rising_bars}, specs.Good.IsGoodBody}
use Rattle.mus_score.specs.GoodScore.{AreInReach, IsGoodScore, IsGoodVoice, events_of, voice_weight}
use Rattle.mus_score.specs.declared.score.Measure.{Measure}
use Rattle.abc_signs.specs.declared.written.TreeItem.{TreeItem}
use Rattle.abc_signs.specs.Signs.{HasDrawableValues, signs}
use Rattle.abc_signs.proofs.Drawn.{signs_drawn}
use Rattle.abc_events.specs.{Bars.{bar_of, bars_of}, Nesting.tree_of, Leaf.Leaf}
use Rattle.abc_events.specs.Leaves.{Words, leaves_from, leaves_of, words_of_event}
use Rattle.abc_events.specs.Measures.{leaves_in, measure_of_leaves, measures_in}
use Rattle.abc_words.proofs.FaultLaws.{few_verses}
use Rattle.abc_words.specs.Words.{event_words, music_rows, verse_sung, word_of}
use Rattle.abc_words.specs.declared.music.MusicRow.{MusicRow}
use Rattle.abc_words.specs.declared.verses.Verses.{Verses}
use Rattle.abc_words.specs.Verses.{rows_in, verse_count}
use Rattle.abc_score.proofs.Frames.{length_voice, lengths_agree, voices_apart, voices_led}
use Rattle.abc_score.proofs.Parts.{signs_count, signs_good, signs_reach, signs_sung}
use Rattle.abc_score.proofs.Clear.{IsClearVoice, few_measures, voices_clear}
use Rattle.abc_score.proofs.Rows.{leaf_rows, tree_weight, weight_of}
use Rattle.abc_score.proofs.Ids.{apart_read, few_read}
use Rattle.abc_score.proofs.Segments.{Rise, measures_sing, measures_weigh, weight_in}
use Rattle.abc_score.proofs.Weighing.{count, leaves_weigh, not_crowded, signs_weigh}
use Rattle.abc_score.proofs.Reaching.{voice_reach}
use Rattle.abc_score.proofs.Basics.{none_after}
use Rattle.abc_score.proofs.Forced.{forced_rise}
use Rattle.abc_score.proofs.Nested.{nested_good}
use Rattle.abc_score.proofs.Walks.{walk_whole}
use Rattle.abc_score.proofs.Full.{all_full}
use Rattle.abc_score.proofs.Cores.{CoresCount, CoresReach, IsGoodCore, count_of, events_of_cores, reach_of}
use Rattle.abc_score.proofs.Rising.{own_most, voice_rise}
use Rattle.abc_score.specs.Faults.{score_faults, voice_faults, voice_weights}
use Rattle.abc_score.specs.declared.voices.ReadVoice.{ReadVoice}
use Rattle.abc_score.specs.Voices.{voice_read, voices_read}
use Rattle.abc_score.specs.Score.{event_count, forced_of, most_measures, sung_notes_from, own_measures, score_of}
use Rattle.abc_score.specs.Score.{score_with, sung_words, voice_by_header}
use Rattle.abc_score.specs.Score.{written_measures}

-- ---- words

-- each event has an entry for each verse
each_words : (v : Verses) (ss : List TreeItem) (j : ℕ) → j < event_count ss
    → length (words_of_event (sung_words v ss) j) ≡ verse_count v
unfolding sung_words
each_words v ss j less =
    let rows = music_rows v (sung_notes_from 0 ss) in let verses = verse_count v in
    ap length
    (unwrap_or-slice_get _ j []
    ∙ get_or-map-range_with_len (event_words rows verses) 0 (event_count ss) j j [] less (omega arith))
    ∙ length-map-range_with_len (λ verse. word_of (verse_sung rows verse) j) 0 verses

-- leaves with the same words in each entry are the same
leaves_alike : (words others : List Words) (k id : ℕ) (ss : List TreeItem)
    → ((j : ℕ) → words_of_event words j ≡ words_of_event others j)
    → leaves_from words k id ss ≡ leaves_from others k id ss
leaves_alike words others k id [] same = refl
leaves_alike words others k id (TreeItem.Event w waiting ∷ ss) same =
    cc (same k, leaves_alike words others (k + 1) (id + length w.values) ss same)
leaves_alike words others k id (TreeItem.Opens measure p q r ∷ ss) same = cc (leaves_alike words others k id ss same)

no_words : (rows : List MusicRow) (events : List ℕ) (k : ℕ)
    → words_of_event [] k ≡ words_of_event (map (event_words rows 0) events) k
no_words rows (event ∷ events) (suc k) = no_words rows events k
no_words rows _ _ = refl

-- without verses it makes no difference whether each event has an empty list of words or none
pub leaves_unsung : (v : Verses) (ss : List TreeItem)
    → verse_count v ≡ 0 → leaves_of [] ss ≡ leaves_of (sung_words v ss) ss
unfolding sung_words
leaves_unsung v ss none =
    rw none (leaves_alike [] _ 0 0 ss
    (no_words (music_rows v (sung_notes_from 0 ss)) (range_with_len 0 (event_count ss))))

-- ---- a voice

-- properties of every voice as read: it begins with its own clef and with good values, and its steps are good
record IsWellRead (v : ReadVoice) : Type 0 where
  pub clef : v.first.clef ≡ v.start.clef
  pub first : IsGoodForce v.first
  pub steps : AllByRecursion IsGoodPlacedStep v.steps

module _ (header : Header) (n : ℕ) where
  -- what is known of a voice
  record IsKnown (v : ReadVoice) : Type 0 where
    pub read : IsWellRead v
    pub clear : IsClearVoice v
    pub own : own_measures v ≤ n

  abbrev words_in : ReadVoice → List Words
  words_in v = sung_words v.verses (signs v.first [] v.steps)

  abbrev leaves_with : ReadVoice → List Leaf
  leaves_with v = leaves_from (words_in v) 0 0 (signs v.first [] v.steps)

  rise_in : (v : ReadVoice) → IsKnown v → Rise 0 (length (bars_of v.steps n)) (leaves_with v)
  rise_in v is =
      let long : length (bars_of v.steps n) ≡ n = length-map-range_with_len (bar_of v.steps) 0 n in
      voice_rise (words_in v) v.first _ v.steps (omega (arith, long, is.own))

  leaves_light : (v : ReadVoice)
      → IsKnown v → sum_by weight_of (leaf_rows (leaves_with v)) ≤ sum_by count (voice_weights v)
  leaves_light v is =
      subst (λ k. k ≤ sum_by count (voice_weights v)) (sym (leaves_weigh (words_in v) 0 0 (signs v.first [] v.steps)))
      (signs_weigh v.first [] v.steps is.read.steps)

  weight_high : (v : ReadVoice)
      → IsKnown v → voice_weight (voice_by_header header n v) ≤ sum_by count (voice_weights v)
  unfolding voice_by_header written_measures
  weight_high v is =
      subst (λ k. k ≤ sum_by count (voice_weights v))
      (sym (measures_weigh (leaves_with v) (bars_of v.steps n) (rise_in v is))) (leaves_light v is)

  body_good : (v : ReadVoice)
      → IsKnown v → sum_by count (voice_weights v) ≤ head_limit → (k : ℕ)
      → IsGoodBody (tree_of (leaves_in k (leaves_with v)))
  body_good v is few k =
      let ls = leaves_in k (leaves_with v) in
      let drawn = recursion_from_All HasDrawableValues _ (signs_drawn v.first [] v.steps) in
      record {
        good = nested_good ls (all_full (words_in v) k v.first v.steps is.read.first is.read.steps is.clear.own drawn);
        few =
            subst (λ n. n ≤ head_limit) (sym (tree_weight ls))
            (le_trans (weight_in k (leaves_with v)) (le_trans (leaves_light v is) few));
      }

  voice_good : (v : ReadVoice)
      → HasGoodValues header → n ≤ measure_limit → IsKnown v → sum_by count (voice_weights v) ≤ head_limit
      → IsGoodVoice (voice_by_header header n v)
  unfolding voice_by_header written_measures
  voice_good v good most is few =
      let ss = signs v.first [] v.steps in
      let words = words_in v in
      let verses = verse_count v.verses in
      let ls = leaves_with v in let bars = bars_of v.steps n in let events = events_of (measures_in ls bars) in
      let whole = walk_whole v.first [] v.steps is.read.first tt is.read.steps is.clear.own in
      let sings = sym (measures_sing ls bars (rise_in v is) (signs_sung words 0 0 ss whole)) in
      let reach = signs_reach words 0 0 v.first.clef ss whole (voice_reach v.first v.steps is.clear.own) in
      let good_words = signs_good words verses 0 0 ss whole
      (λ j less. each_words v.verses ss j (omega (arith, less))) in
      record {
        few_measures = subst (λ k. k ≤ measure_limit) (sym (length_voice header n v)) most;
        few_verses = few_verses v.verses.list (rows_in v.verses) is.clear.verses;
        near = omega arith;
        few_heads = le_trans (weight_high v is) few;
        key = good.key;
        meter = good.meter;
        bodies =
            All-map (λ (m : Measure). IsGoodBody m.body) (measure_of_leaves ls bars) (range_with_len 0 _)
            (λ k d less. body_good v is few _);
        events = events_of_cores verses events (subst (AllByRecursion (IsGoodCore verses)) sings good_words);
        reach =
            subst (λ clef. AreInReach clef events) is.read.clef
            (reach_of v.first.clef events (subst (CoresReach v.first.clef) sings reach));
        ids = count_of 0 events (subst (CoresCount 0) sings (signs_count words 0 0 ss whole));
      }

  -- ---- all voices
  voices_good : (voices : List ReadVoice) → HasGoodValues header → n ≤ measure_limit → AllByRecursion IsKnown voices
      → sum_by count (flat_map voice_weights voices) ≤ head_limit
      → AllByRecursion IsGoodVoice (map (voice_by_header header n) voices)
  voices_good [] good most all few = tt
  voices_good (v ∷ voices) good most all few =
      let both = sum_by-append count (voice_weights v) (flat_map voice_weights voices) in (
        voice_good v good most all.0 (omega (arith, both, few)),
        voices_good voices good most all.1 (omega (arith, both, few)),
      )

  voices_weigh : (voices : List ReadVoice) → AllByRecursion IsKnown voices
      → sum_by voice_weight (map (voice_by_header header n) voices) ≤ sum_by count (flat_map voice_weights voices)
  voices_weigh [] all = omega arith
  voices_weigh (v ∷ voices) all =
      let first =
      sum_by-cons voice_weight (voice_by_header header n v) (map (voice_by_header header n) voices) in
      let both = sum_by-append count (voice_weights v) (flat_map voice_weights voices) in
      omega (arith, first, weight_high v all.0, voices_weigh voices all.1, both)

  all_known : (voices : List ReadVoice)
      → AllByRecursion IsWellRead voices → AllByRecursion IsClearVoice voices
      → AllByRecursion (λ (v : ReadVoice). own_measures v ≤ n) voices → AllByRecursion IsKnown voices
  all_known [] reads clears owns = tt
  all_known (v ∷ voices) reads clears owns =
      (record { read = reads.0; clear = clears.0; own = owns.0 }, all_known voices reads.1 clears.1 owns.1)

all_read : (header : Header) (items : List BodyItem) (starts : List VoiceStart)
    → HasGoodValues header → All IsGoodItem items
    → AllByRecursion IsWellRead (map (voice_read header items) starts)
all_read header items [] good given = tt
all_read header items (start ∷ starts) good given =
    let steps = steps_good start.id (bytes_eq start.id (unnamed_of header)) items given in (
      record {
        clef = refl;
        first = record { key = good.key; meter = good.meter; unit = good.unit };
        steps = recursion_from_All IsGoodPlacedStep _ steps;
      },
      all_read header items starts good given,
    )

pub good_score : (header : Header) (items : List BodyItem) (flow : Bool)
    → HasGoodValues header → All IsGoodItem items → length (voice_ids header items) ≤ 16
    → score_faults header items ≡ [] → IsGoodScore (score_of header items flow)
unfolding score_with
good_score header items flow good given few e =
    let voices = voices_read header items in let n = most_measures voices in
    let made = map (voice_by_header header n) voices in
    let clears = voices_clear voices e in let faults = flat_map voice_faults voices in
    let light = not_crowded (flat_map voice_weights voices) (none_after faults _ e) in
    let within = few_measures voices clears in let rise = forced_rise flow voices n in
    let known = all_known header n voices (all_read header items (starts_of header items) good given) clears
    (own_most voices) in
    record {
      few_voices = omega (arith, length-map voices (voice_by_header header n), few_read header items few);
      few_measures = within;
      few_heads = le_trans (voices_weigh header n voices known) light;
      voices = All-from_recursion IsGoodVoice made (voices_good header n voices good within known light);
      measures = lengths_agree header n voices;
      ids = distinct_pairs made (voices_apart header n voices (apart_read header items good));
      forced = all_within_bars n (forced_of flow voices n) rise;
      forced_rise = rising_bars n (forced_of flow voices n) rise;
      led = voices_led header n voices;
    }
