-- If each voice has a staff of its own, staff k of each system of a tune shows voice k, and together the systems
-- sound what the voice does.
use Rattle.std.proofs.Common.{◌≡◌, refl, sym, ap, ap₂, ◌∙◌, subst, ℕ, zero, suc, ◌+◌, ◌-◌, ◌≤◌, ◌<◌, cond, List, []}
use Rattle.std.proofs.Common.{◌∷◌, ◌++◌, length, map, take, drop, Some, None, arith}
use Rattle.std.proofs.Math.Seq.{take-add}
use Rattle.std.proofs.lemmas.Bool.{ne_eqb}
use Rattle.std.proofs.lemmas.List.{drop_all}
use Rattle.std.proofs.lemmas.List.Folds.{drop_split}
use Rattle.std.proofs.lemmas.List.Elements.{All-contains, All-head, All-tail}
use Rattle.std.proofs.lemmas.Option.{get_or_from_slice_get, none-some, same_Some, slice_get_within}
use Rattle.std.specs.Prelude.{All, Contains, flat_map, slice_get, slice_range}
use Rattle.std.specs.List.{range_with_len}
use Rattle.mus_units.specs.declared.note.Bar.{Bar}
use Rattle.mus_units.specs.declared.note.Head.{Head}
use Rattle.mus_onsets.specs.Onsets.{timeline_of}
use Rattle.mus_score.specs.declared.score.Measure.{Measure}
use Rattle.mus_score.specs.declared.score.Score.{Score}
use Rattle.mus_score.specs.declared.score.Seat.{Seat}
use Rattle.mus_score.specs.declared.score.Voice.{Voice}
use Rattle.mus_score.specs.GoodScore.{IsGoodScore, IsGoodVoice}
use Rattle.mus_score.specs.Seats.{grouped, is_lower, put_before}
use Rattle.mus_laid.specs.declared.laid.StaffMarks.{StaffMarks}
use Rattle.mus_drawn.specs.declared.drawn.DrawnVoice.{DrawnVoice}
use Rattle.mus_drawn.specs.declared.standing.StaffState.{StaffState}
use Rattle.mus_drawn.specs.Drawn.{drawn_voice, standing_of}
use Rattle.mus_marks.specs.System.{is_drawn_lower}
use Rattle.mus_marks.specs.Tilt.{tilted_staff}
use Rattle.lay_breaks.specs.Breaking.{RisesFrom, last_from}
use Rattle.ps_text.specs.declared.sheet.Staff.{Staff}
use Rattle.ps_text.specs.Ranks.{anchors, ranks}
use Rattle.set_staves.specs.Marks.{ShowsIn, called_marks}
use Rattle.law_staff_columns.specs.Ranked.{ranked_columns}
use Rattle.law_staff_columns.specs.Reported.{first_at}
use Rattle.ps_heard.specs.Hearing.{heard_of}
use Rattle.ps_heard.specs.Tunes.{columns_if, most_staves, heard_staff_columns, staff_heard, staves_heard}
use Rattle.law_voice_sound.specs.Clear.{IsClearScore, IsClearVoice}
use Rattle.law_voice_sound.specs.Columns.{last_through, standing_through, heard_system, systems_columns, heard_voice}
use Rattle.law_voice_sound.specs.Listened.{columns_heard}
use Rattle.law_voice_sound.specs.Sounds.{voice_heard}
use Rattle.law_voice_sound.proofs.ClearVoices.{clear_voice}
use Rattle.law_voice_sound.proofs.Listening.{heard_known, known_join}
use Rattle.law_staff_columns.proofs.Telling.{staff_known}
use Rattle.law_marks_apart.proofs.Laws.{columns_stand}
use Rattle.set_pages.proofs.Blocking.{columns_rise}
use Rattle.law_book_sound.{specs.Sounds.AreAlone, proofs.{Columns.columns_ranked, Tunes.{AreRead, AreReadAt}}}

-- ---- measures in parts
abbrev parted : {A : Type 0} → List A → ℕ → List ℕ → List (List A)
parted xs a [] = []
parted xs a (b ∷ bs) = slice_range xs a b ∷ parted xs b bs

parted_whole : {A : Type 0} (xs : List A) (a : ℕ) (bs : List ℕ)
    → RisesFrom a bs → last_from a bs ≡ length xs → flat_map (λ (part : List A). part) (parted xs a bs) ≡ drop a xs
parted_whole xs a [] rises ends = sym (drop_all a xs (omega (arith, ends)))
parted_whole xs a (b ∷ bs) rises ends =
    ap (λ more. slice_range xs a b ++ more) (parted_whole xs b bs rises.1 ends)
    ∙ sym (drop_split xs a b (omega (arith, rises.0)))

-- what is carried along through measures is carried through some of them, and then through those after them
module _ {S : Type 0} (through : S → List Measure → S) (none : (now : S) → through now [] ≡ now)
    (one : (now : S) (m : Measure) (ms : List Measure) → through now (m ∷ ms) ≡ through (through now (m ∷ [])) ms) where
  through_join : (now : S) (ms more : List Measure) → through now (ms ++ more) ≡ through (through now ms) more
  through_join now [] more = ap (λ now. through now more) (sym (none now))
  through_join now (m ∷ ms) more =
      one now m (ms ++ more)
      ∙ through_join (through now (m ∷ [])) ms more
      ∙ ap (λ now. through now more) (sym (one now m ms))

  through_parts : (now : S) (ms : List Measure) (a b : ℕ)
      → a < b → through now (take b ms) ≡ through (through now (take a ms)) (slice_range ms a b)
  through_parts now ms a b order =
      let sum : b ≡ a + (b - a) = omega (arith, order) in
      ap (λ n. through now (take n ms)) sum
      ∙ ap (through now) (take-add a (b - a) ms)
      ∙ through_join now (take a ms) (slice_range ms a b)

-- what is in force after the first measures of a voice, and the heads of the event before
abbrev now_at : Voice → ℕ → StaffState
now_at v a = standing_through (standing_of v) (take a v.measures)

abbrev last_at : Voice → ℕ → List Head
last_at v a = last_through [] (take a v.measures)

not_first : (a b : ℕ) (bar : Bar) → a < b → first_at b bar ≡ None
not_first a b bar order = ap (λ t. cond t (Some bar) None) (ne_eqb b 0 (λ e. absurd (omega (arith, order, e))))

-- ---- staff k is that of voice k
abbrev each_alone : List Voice → List (List DrawnVoice)
each_alone voices = map (λ v. drawn_voice v ∷ []) voices

alone_staves : (voices : List Voice)
    → All (λ (v : Voice). v.seat ≡ Seat.Alone) voices
    → grouped is_drawn_lower (map drawn_voice voices) ≡ each_alone voices
unfolding drawn_voice
alone_staves [] alone = refl
alone_staves (v ∷ []) alone = refl
alone_staves (v ∷ w ∷ voices) alone =
    let following = All-tail (λ (v : Voice). v.seat ≡ Seat.Alone) v (w ∷ voices) alone in
    ap (put_before is_drawn_lower (drawn_voice v)) (alone_staves (w ∷ voices) following)
    ∙ ap (λ seat.
    cond (is_lower seat) ((drawn_voice v ∷ drawn_voice w ∷ []) ∷ each_alone voices)
    ((drawn_voice v ∷ []) ∷ each_alone (w ∷ voices)))
    (All-head (λ (v : Voice). v.seat ≡ Seat.Alone) w voices following)

module _ (system : List Staff) (marks : List DrawnVoice → StaffMarks) where
  staff_of : (staves : List Staff) (voices : List Voice) (k : ℕ) (v : Voice)
      → ShowsIn system staves (map marks (each_alone voices)) → slice_get voices k ≡ Some v
      → (staff : Staff)
      × (slice_get staves k ≡ Some staff)
      × (ranks system staff ≡ Some (called_marks (marks (drawn_voice v ∷ []))))
  staff_of [] [] k v shows here = absurd (none-some v here)
  staff_of (staff ∷ staves) (w ∷ voices) zero v shows here = (
    staff,
    refl,
    subst (λ w. ranks system staff ≡ Some (called_marks (marks (drawn_voice w ∷ [])))) (same_Some w v here) shows.0,
  )
  staff_of (staff ∷ staves) (w ∷ voices) (suc k) v shows here = staff_of staves voices k v shows.1 here
  staff_of _ _ k v shows here = absurd shows

  staff_count : (staves : List Staff) (voices : List Voice)
      → ShowsIn system staves (map marks (each_alone voices)) → length staves ≡ length voices
  staff_count [] [] shows = refl
  staff_count (staff ∷ staves) (w ∷ voices) shows = ap suc (staff_count staves voices shows.1)
  staff_count _ _ shows = absurd shows

module _ (s : Score) (width : ℕ) (good : IsGoodScore s) (alone : AreAlone s) where
  -- the marks of a staff of measures a to b - 1
  abbrev marks_of : (a b : ℕ) (staves : List Staff) → AreReadAt s width a b staves → List DrawnVoice → StaffMarks
  marks_of a b staves read = tilted_staff read.marks.keys (timeline_of s).lengths read.placed.at a b

  shown_alone : (a b : ℕ) (staves : List Staff) (read : AreReadAt s width a b staves)
      → ShowsIn staves staves (map (marks_of a b staves read) (each_alone s.voices))
  shown_alone a b staves read =
      subst (ShowsIn staves staves)
      (read.set.tilted.staves ∙ ap (map (marks_of a b staves read)) (alone_staves s.voices alone)) read.symbols

  -- as many staves as voices, if there is a system
  count_staves : (a : ℕ) (breaks : List ℕ) (systems : List (List Staff))
      → AreRead s width a breaks systems
      → (most_staves systems ≤ length s.voices) × (1 ≤ length systems → most_staves systems ≡ length s.voices)
  count_staves a [] [] read = (omega arith, λ some. absurd (omega (arith, some)))
  count_staves a (b ∷ breaks) (staves ∷ systems) read =
      let more = (count_staves b breaks systems read.1).0 in
      let count = staff_count staves (marks_of a b staves read.0) staves s.voices (shown_alone a b staves read.0) in
      (omega arith, λ some. omega arith)
  count_staves a _ _ read = absurd read

  module _ (clear : IsClearScore s) (k : ℕ) (v : Voice) (here : slice_get s.voices k ≡ Some v) where
    is_voice : Contains s.voices v
    is_voice = (k, slice_get_within s.voices k v here, get_or_from_slice_get s.voices k v v here)

    of_voice : (P : Voice → Type 0) → All P s.voices → P v
    of_voice P all = All-contains P s.voices v all is_voice

    system_known : (a b : ℕ) (staves : List Staff)
        → AreReadAt s width a b staves
        → columns_heard (heard_staff_columns k staves)
        ≡ columns_heard (heard_system (first_at a v.first) (now_at v a) (last_at v a) (slice_range v.measures a b))
    system_known a b staves read =
        let at = read.placed.at in
        let keys = read.marks.keys in
        let stand = columns_stand s width a b read.marks read.placed read.set in
        let marks = marks_of a b staves read (drawn_voice v ∷ []) in
        let staff = staff_of staves (marks_of a b staves read) staves s.voices k v (shown_alone a b staves read) here in
        ap (λ o. columns_heard (columns_if (anchors staves) o)) staff.1
        ∙ ap columns_heard
        (columns_ranked staves staff.0 marks at staff.2 read.columns (columns_rise width (length keys) at stand))
        ∙ ap (λ n. columns_heard (ranked_columns n marks.marks)) stand.count_is
        ∙ staff_known s v keys at a b good is_voice (of_voice (λ v. v.seat ≡ Seat.Alone) alone) read.order read.within
        read.set.tilted.keys

    systems_known : (a : ℕ) (breaks : List ℕ) (systems : List (List Staff)) → AreRead s width a breaks systems
        → columns_heard (flat_map (heard_staff_columns k) systems)
        ≡ columns_heard (systems_columns (first_at a v.first) (now_at v a) (last_at v a) (parted v.measures a breaks))
    systems_known a [] [] read = refl
    systems_known a (b ∷ breaks) (staves ∷ systems) read =
        let part = slice_range v.measures a b in
        let goes_on : systems_columns (first_at b v.first) (now_at v b) (last_at v b) (parted v.measures b breaks)
        ≡ systems_columns None (standing_through (now_at v a) part) (last_through (last_at v a) part)
        (parted v.measures b breaks) =
        ap (λ first. systems_columns first (now_at v b) (last_at v b) (parted v.measures b breaks))
        (not_first a b v.first read.0.order)
        ∙ ap₂ (λ now prev. systems_columns None now prev (parted v.measures b breaks))
        (through_parts standing_through (λ now. refl) (λ now m ms. refl) (standing_of v) v.measures a b read.0.order)
        (through_parts last_through (λ prev. refl) (λ prev m ms. refl) [] v.measures a b read.0.order) in
        known_join (heard_staff_columns k staves) (flat_map (heard_staff_columns k) systems)
        ∙ ap₂ (λ xs ys. xs ++ ys) (system_known a b staves read.0)
        (systems_known b breaks systems read.1 ∙ ap columns_heard goes_on)
        ∙ sym (known_join (heard_system (first_at a v.first) (now_at v a) (last_at v a) part)
        (systems_columns None (standing_through (now_at v a) part) (last_through (last_at v a) part)
        (parted v.measures b breaks)))
    systems_known a _ _ read = absurd read

    staff_sounds : (breaks : List ℕ) (systems : List (List Staff))
        → RisesFrom 0 breaks → last_from 0 breaks ≡ s.measures → AreRead s width 0 breaks systems
        → staff_heard s.spread systems k ≡ voice_heard s.spread v
    staff_sounds breaks systems rises ends read =
        let part = parted v.measures 0 breaks in
        let whole = parted_whole v.measures 0 breaks rises
        (ends ∙ sym (of_voice (λ v. length v.measures ≡ s.measures) good.measures)) in
        sym (heard_known s.spread (flat_map (heard_staff_columns k) systems))
        ∙ ap (heard_of s.spread) (systems_known 0 breaks systems read)
        ∙ heard_known s.spread (heard_voice v part)
        ∙ clear_voice s.spread v part whole (of_voice IsGoodVoice good.voices) (of_voice IsClearVoice clear)

-- ---- staff after staff
by_place : {X Y : Type 0} (f : ℕ → Y) (g : X → Y) (i : ℕ) (xs : List X)
    → ((k j : ℕ) (x : X) → i + k ≡ j → slice_get xs k ≡ Some x → f j ≡ g x)
    → map f (range_with_len i (length xs)) ≡ map g xs
by_place f g i [] each = refl
by_place f g i (x ∷ xs) each =
    ap₂ (λ y ys. y ∷ ys) (each 0 i x (omega arith) refl)
    (by_place f g (i + 1) xs (λ k j y sum here. each (suc k) j y (omega (arith, sum)) here))

pub staves_sound : (s : Score) (width : ℕ) (breaks : List ℕ) (systems : List (List Staff))
    → IsGoodScore s → AreAlone s → IsClearScore s → RisesFrom 0 breaks → last_from 0 breaks ≡ s.measures
    → AreRead s width 0 breaks systems → 1 ≤ length systems
    → staves_heard s.spread systems ≡ map (voice_heard s.spread) s.voices
staves_sound s width breaks systems good alone clear rises ends read some =
    ap (λ n. map (staff_heard s.spread systems) (range_with_len 0 n))
    ((count_staves s width good alone 0 breaks systems read).1 some)
    ∙ by_place (staff_heard s.spread systems) (voice_heard s.spread) 0 s.voices (λ k j v sum here.
    let same : j ≡ k = omega (arith, sum) in
    staff_sounds s width good alone clear j v (ap (slice_get s.voices) same ∙ here) breaks systems rises ends read)
