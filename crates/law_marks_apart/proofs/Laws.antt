-- The columns of a system that is set rise within the width,
-- and boxes of marks in one lane of a staff stay apart there.
use Rattle.std.proofs.Common.{◌≡◌, ◌∙◌, sym, ap, subst, refl, ℕ, ◌^◌, ◌<◌, ◌≤◌, ◌==◌, List, [], ◌∷◌, length, map}
use Rattle.std.proofs.Common.{get_or, Option, Some, None, option_map, arith}
use Rattle.std.proofs.lemmas.Option.{get_or_from_slice_get, none-some, same_Some, slice_get-get_or, slice_get-map}
use Rattle.std.proofs.lemmas.Option.{slice_get_within}
use Rattle.std.proofs.lemmas.List.Elements.{All-from_recursion}
use Rattle.std.specs.List.{All, AllByRecursion, Contains, slice_get}
use Rattle.mus_score.specs.declared.score.Score.{Score}
use Rattle.mus_score.specs.declared.score.Voice.{Voice}
use Rattle.mus_score.specs.GoodScore.{IsGoodScore}
use Rattle.mus_score.specs.Seats.{grouped}
use Rattle.mus_onsets.specs.Onsets.{timeline_of}
use Rattle.mus_laid.specs.declared.laid.Laid.{Laid}
use Rattle.mus_laid.specs.declared.laid.StaffMarks.{StaffMarks}
use Rattle.mus_laid.specs.declared.laid.SystemMarks.{SystemMarks}
use Rattle.mus_laid.specs.Shapes.{staff_shape}
use Rattle.mus_drawn.specs.declared.drawn.DrawnVoice.{DrawnVoice}
use Rattle.mus_drawn.specs.Drawn.{drawn_voice}
use Rattle.mus_slots.proofs.Marks.{FitsVoice}
use Rattle.mus_marks.specs.Staff.{verses_on}
use Rattle.mus_marks.specs.System.{drawn_staves, is_drawn_lower}
use Rattle.mus_marks.proofs.Fitting.{staves_fit}
use Rattle.mus_marks.specs.Staff.{staff_marks}
use Rattle.lay_springs.specs.declared.margin.Placed.{Placed}
use Rattle.lay_springs.specs.Place.{length_at, reach_at}
use Rattle.lay_reaches.specs.Columns.{column_reach}
use Rattle.lay_reaches.proofs.Covering.{columns_cover}
use Rattle.law_marks_in_range.specs.Ranks.{AreMarksRanked}
use Rattle.law_marks_in_range.specs.Shown.{IsShown}
use Rattle.law_marks_in_range.proofs.Alike.{same_in}
use Rattle.lay_tune.specs.Spans.{IsSystemOf, column_length, score_gaps, system_columns, verses_of}
use Rattle.lay_tune.specs.Systems.{IsPlaced, IsSetSystem, StandWithin}
use Rattle.lay_tune.proofs.Within.{justified_within, placed_stand, system_count}
use Rattle.law_marks_apart.specs.Apart.{AreApart}
use Rattle.law_marks_apart.proofs.Alike.{same_apart}
use Rattle.law_marks_apart.proofs.EndKeys.{some_keys}
use Rattle.law_marks_apart.proofs.LaneGaps.{HasLane}
use Rattle.law_marks_apart.proofs.LaneMarks.{lane_of}
use Rattle.law_marks_apart.proofs.SystemColumns.{first_stands, last_stands}
use Rattle.law_marks_apart.proofs.Uncut.{StandBetween, staff_apart}

pub columns_stand : (s : Score) (width a b : ℕ) (m : SystemMarks) (p : Placed)
    → IsSetSystem s width a b m p → StandWithin width (length m.keys) p.at
columns_stand s width a b m p set =
    subst (λ keys. StandWithin width (length keys) p.at) set.alike.keys (placed_stand s width set.flat p set.placed)

-- the voices of a staff
made_of : {X Y : Type 0} (f : X → Y) (xs : List X) (k : ℕ) (y : Y)
    → slice_get (map f xs) k ≡ Some y → (x : X) × (slice_get xs k ≡ Some x) × (f x ≡ y)
made_of {X} f xs k y e = by (slice_get xs k) refl (sym (slice_get-map f xs k) ∙ e)
  where
    by : (o : Option X) → slice_get xs k ≡ o → option_map f o ≡ Some y → (x : X) × (slice_get xs k ≡ Some x) × (f x ≡ y)
    by None there h = absurd (none-some y h)
    by (Some x) there h = (x, there, same_Some (f x) y h)

good_at : {X : Type 0} (P : X → Type 0) (xs : List X) (k : ℕ) (x : X) → All P xs → slice_get xs k ≡ Some x → P x
good_at P xs k x good e = subst P (get_or_from_slice_get xs k x x e) (good k x (slice_get_within xs k x e))

module _ (s : Score) (width a b : ℕ) (m : SystemMarks) (p : Placed) (good : IsGoodScore s) (order : a < b)
    (within : b ≤ s.measures) (is : IsSystemOf s a b m) (placed : IsPlaced s width m p) (small : width < 2 ^ 20) where
  between : 1 ≤ length s.voices
      → StandBetween (length (system_columns s m)) (reach_at column_reach (system_columns s m)) (score_gaps s)
      (length_at column_length (system_columns s m) p.force) width p.at
  between some =
      let keys = some_keys s a b m.keys good order within some is.keys in
      let any : 0 < length (system_columns s m) = subst (λ n. 0 < n) (sym (system_count s m)) keys in
      record {
        apart = placed.apart;
        ends = justified_within (score_gaps s) width (m.b == s.measures) (system_columns s m) p any placed;
        first = first_stands s a b m good order within is some;
        last = last_stands s a b m good order within is some;
      }

  -- a score with a staff has a voice
  some_voice : (k : ℕ) (voices : List DrawnVoice) → slice_get (drawn_staves s) k ≡ Some voices → 1 ≤ length s.voices
  some_voice k voices e = by s.voices e
    where
      by : (vs : List Voice) → slice_get (grouped is_drawn_lower (map drawn_voice vs)) k ≡ Some voices → 1 ≤ length vs
      by [] h = absurd (none-some voices h)
      by (v ∷ vs) h = omega arith

  one_apart : (k : ℕ) (staff : StaffMarks)
      → slice_get m.staves k ≡ Some staff → AreMarksRanked (length m.keys) staff.marks → AreApart width p.at staff.marks
  one_apart k staff at ranked =
      let marks = staff_marks m.keys (timeline_of s).lengths a b in
      let voices = made_of marks (drawn_staves s) k staff (ap (λ staves. slice_get staves k) (sym is.staves) ∙ at) in
      let count = verses_on voices.0 in
      let fit = good_at (AllByRecursion FitsVoice) (drawn_staves s) k voices.0
      (All-from_recursion (AllByRecursion FitsVoice) (drawn_staves s) (staves_fit s good)) voices.1 in
      staff_apart m.staves (verses_of s) (system_columns s m) (length_at column_length (system_columns s m) p.force)
      width p.at (between (some_voice k voices.0 voices.1)) small
      (columns_cover m.staves (timeline_of s).lengths (verses_of s) m.keys) k count staff at
      (slice_get-map verses_on (drawn_staves s) k ∙ ap (option_map verses_on) voices.1)
      (subst (λ (found : StaffMarks). (x : Laid) → Contains found.marks x → HasLane count x.lane) voices.2
      (lane_of m.keys (timeline_of s).lengths a b voices.0 fit))
      (subst (λ n. AreMarksRanked n staff.marks) (sym (system_count s m)) ranked)

  all_apart : All (λ staff. AreMarksRanked (length m.keys) staff.marks) m.staves
      → All (λ staff. AreApart width p.at staff.marks) m.staves
  all_apart ranked k d l = one_apart k (get_or m.staves k d) (slice_get-get_or m.staves k d l) (ranked k d l)

-- the boxes of a set system, which are those of the marks that are called for
pub boxes_apart : (s : Score) (width a b : ℕ) (m : SystemMarks) (p : Placed)
    → IsGoodScore s → a < b → b ≤ s.measures → (set : IsSetSystem s width a b m p)
    → IsShown set.flat → width < 2 ^ 20 → All (λ staff. AreApart width p.at staff.marks) m.staves
boxes_apart s width a b m p good order within set shown small =
    same_in staff_shape (λ staff. AreApart width p.at staff.marks) (λ x y e. same_apart width p.at x.marks y.marks e)
    set.flat.staves m.staves set.alike.staves
    (all_apart s width a b set.flat p good order within set.called set.placed small shown.ranked)
