-- The staves of a system can be stacked.
use Rattle.std.specs.List.{AllByRecursion, filter, AllZip}
use Rattle.std.proofs.Common.{◌≡◌, ◌∙◌, refl, sym, ap, subst, ℕ, ◌-◌, ◌*◌, ◌≤◌, not, cond, Bool, true, false, ℤ, pos}
use Rattle.std.proofs.Common.{◌+ℤ◌, ◌-ℤ◌, ◌≤ℤ◌, List, [], ◌∷◌, ◌++◌, length, map, arith}
use Rattle.std.proofs.lemmas.Int.{ints, clamps}
use Rattle.std.proofs.lemmas.List.{length-map}
use Rattle.std.proofs.lemmas.List.Elements.{recursion_from_All}
use Rattle.mus_score.specs.declared.score.Score.{Score}
use Rattle.mus_score.specs.declared.score.Voice.{Voice}
use Rattle.mus_score.specs.GoodScore.{IsGoodScore, IsGoodVoice}
use Rattle.mus_score.specs.Seats.{stands_lower}
use Rattle.mus_onsets.specs.declared.keys.ColumnKey.{ColumnKey}
use Rattle.mus_onsets.specs.Onsets.{timeline_of}
use Rattle.mus_laid.specs.declared.laid.Laid.{Laid}
use Rattle.mus_laid.specs.declared.laid.StaffMarks.{StaffMarks}
use Rattle.mus_laid.specs.declared.laid.SystemMarks.{SystemMarks}
use Rattle.mus_laid.specs.Boxes.{staff_heights}
use Rattle.mus_laid.specs.Ranked.{by_columns}
use Rattle.mus_ink.specs.Drawing.{cut_dy}
use Rattle.mus_drawn.specs.declared.drawn.DrawnVoice.{DrawnVoice}
use Rattle.mus_slots.specs.Staff.{staff_laid}
use Rattle.mus_slots.specs.Voice.{slots_of_voices}
use Rattle.mus_marks.specs.Staff.{CoversLines, staff_marks, staff_over, verses_on}
use Rattle.mus_marks.specs.System.{drawn_staves}
use Rattle.mus_marks.specs.Tilt.{IsTilted, tilted_staff, voice_tilted}
use Rattle.mus_marks.proofs.Lines.{covers}
use Rattle.lay_pages.specs.declared.stacking.Heights.{Heights}
use Rattle.lay_pages.specs.Stacking.{AreStavesStacked}
use Rattle.lay_tune.specs.Systems.{IsStack, gaps_between}
use Rattle.lay_tune.proofs.Open.{gaps_count, staves_count}

-- a staff that covers its lines, and no more than 2^30 below and above its base line
record IsSound (staff : StaffMarks) : Type 0 where
  covers : CoversLines staff
  low : (pos 0 -ℤ pos 1073741824) ≤ℤ staff.low
  high : staff.high ≤ℤ pos 1073741824

not_below : (z : ℤ) → (pos 0 -ℤ pos 1073741824) ≤ℤ cut_dy z
unfolding cut_dy
not_below z = omega (arith, ints, clamps)

not_above : (z : ℤ) → cut_dy z ≤ℤ pos 1073741824
unfolding cut_dy
not_above z = omega (arith, ints, clamps)

over_sound : (all : List Laid) → IsSound (staff_over all)
unfolding staff_over
over_sound all =
    record { covers = covers all; low = not_below (staff_heights all).low; high = not_above (staff_heights all).high }

sound : (keys : List ColumnKey) (lengths : List ℕ) (a b : ℕ) (vs : List DrawnVoice)
    → IsSound (staff_marks keys lengths a b vs)
unfolding staff_marks
sound keys lengths a b vs =
    over_sound (staff_laid keys (verses_on vs) (slots_of_voices 0 lengths a b vs))

all_sound : (keys : List ColumnKey) (lengths : List ℕ) (at : List ℤ) (a b : ℕ) (staves : List (List DrawnVoice))
    → AllByRecursion IsSound (map (tilted_staff keys lengths at a b) staves)
all_sound keys lengths at a b [] = tt
all_sound keys lengths at a b (vs ∷ staves) =
    (sound keys lengths a b (map (voice_tilted keys at a b) vs), all_sound keys lengths at a b staves)

-- gaps are small
kept_near : (vs : List Voice)
    → AllByRecursion IsGoodVoice vs
    → AllByRecursion (λ g. g ≤ 1000) (map (λ v. v.gap) (filter (λ v. not (stands_lower v)) vs))
kept_near [] h = tt
kept_near (v ∷ vs) h = by (not (stands_lower v)) (kept_near vs h.1)
  where
    by : (b : Bool) → AllByRecursion (λ g. g ≤ 1000) (map (λ v. v.gap) (filter (λ v. not (stands_lower v)) vs))
        → AllByRecursion (λ g. g ≤ 1000)
        (map (λ v. v.gap) (cond b (v ∷ filter (λ v. not (stands_lower v)) vs) (filter (λ v. not (stands_lower v)) vs)))
    by true more = (h.0.near, more)
    by false more = more

gaps_near : (vs : List Voice) → AllByRecursion IsGoodVoice vs → AllByRecursion (λ g. g ≤ 1000) (gaps_between vs)
gaps_near [] h = tt
gaps_near (v ∷ vs) h = kept_near vs h.1

-- staves from a top on, and how low the last of them ends
stack_from : (top : ℤ) (gaps : List ℕ) (staves : List StaffMarks)
    → length gaps ≡ length staves - 1 → AllByRecursion IsSound staves → AllByRecursion (λ g. g ≤ 1000) gaps
    → (bases : List ℤ)
    × (bottom : ℤ)
    × AreStavesStacked top gaps staves bases bottom
    × (bottom ≤ℤ top)
    × (top ≤ℤ (bottom +ℤ pos (2147484648 * length staves)))
stack_from top [] [] e good near = ([], top, refl, omega (arith, ints), omega (arith, ints))
stack_from top [] (staff ∷ []) e good near =
    let low = good.0.low in let high = good.0.high in let under = good.0.covers.0 in let over = good.0.covers.1 in (
      (top -ℤ staff.high) ∷ [],
      (top -ℤ staff.high) +ℤ staff.low,
      (omega (arith, ints), refl),
      omega (arith, ints),
      omega (arith, ints),
    )
stack_from top [] (staff ∷ next ∷ more) e good near = absurd (omega (arith, e))
stack_from top (gap ∷ gaps) [] e good near = absurd (omega (arith, e))
stack_from top (gap ∷ gaps) (staff ∷ []) e good near = absurd (omega (arith, e))
stack_from top (gap ∷ gaps) (staff ∷ next ∷ more) e good near =
    let low = good.0.low in
    let high = good.0.high in
    let under = good.0.covers.0 in
    let over = good.0.covers.1 in
    let small = near.0 in
    let rest =
    stack_from (((top -ℤ staff.high) +ℤ staff.low) -ℤ pos gap) gaps (next ∷ more) (omega (arith, e)) good.1 near.1 in
    let below = rest.3 in
    let far = rest.4 in
    ((top -ℤ staff.high) ∷ rest.0, rest.1, (omega (arith, ints), rest.2), omega (arith, ints), omega (arith, ints))

-- the tilted marks of a good score have a stack
pub has_stack : (s : Score) (a b : ℕ) (at : List ℤ) (m : SystemMarks)
    → IsGoodScore s → IsTilted s (timeline_of s) a b at m → (h : Heights) × IsStack s m h
has_stack s a b at m good is =
    let staff = tilted_staff m.keys (timeline_of s).lengths at a b in
    let stack = stack_from (pos 0) (gaps_between s.voices) m.staves
    (gaps_count s m (gaps_between s.voices) staff refl is.staves)
    (subst (AllByRecursion IsSound) (sym is.staves) (all_sound m.keys (timeline_of s).lengths at a b (drawn_staves s)))
    (gaps_near s.voices (recursion_from_All IsGoodVoice s.voices good.voices)) in
    let low = stack.3 in
    let far = stack.4 in
    let count : length m.staves ≡ length (drawn_staves s) =
    ap (λ these. length these) is.staves ∙ length-map (drawn_staves s) staff in
    let few = good.few_voices in
    let bottom : stack.1 ≡ (pos 0 -ℤ (pos 0 -ℤ stack.1)) = omega (arith, ints) in (
      record { bases = stack.0; height = pos 0 -ℤ stack.1 },
      record {
        stacked = subst (AreStavesStacked (pos 0) (gaps_between s.voices) m.staves stack.0) bottom stack.2;
        low = omega (arith, ints, low);
        high = omega (arith, ints, far, count, few, staves_count s);
      },
    )

same_base : (top b c high : ℤ) → b +ℤ high ≡ top → c +ℤ high ≡ top → b ≡ c
same_base top b c high h k = omega (arith, ints)

-- base lines, and the bottom of the last staff
one_stack : (top : ℤ) (gaps : List ℕ) (staves : List StaffMarks) (bases others : List ℤ) (bottom floor : ℤ)
    → AreStavesStacked top gaps staves bases bottom → AreStavesStacked top gaps staves others floor
    → (bases ≡ others) × (bottom ≡ floor)
one_stack top [] [] [] [] bottom floor h k = (refl, h ∙ sym k)
one_stack top [] (staff ∷ []) (b ∷ []) (c ∷ []) bottom floor h k =
    let e = same_base top b c staff.high h.0 k.0 in (cc, h.1 ∙ (ap (λ x. x +ℤ staff.low) e ∙ sym k.1))
one_stack top (gap ∷ gaps) (staff ∷ next ∷ more) (b ∷ bs) (c ∷ cs) bottom floor h k =
    let e = same_base top b c staff.high h.0 k.0 in
    let rest = one_stack ((b +ℤ staff.low) -ℤ pos gap) gaps (next ∷ more) bs cs bottom floor h.1
    (subst (λ x. AreStavesStacked ((x +ℤ staff.low) -ℤ pos gap) gaps (next ∷ more) cs floor) (sym e) k.1) in
    (cc rest.0, rest.1)
one_stack top [] [] [] others bottom floor h k = absurd k
one_stack top [] (staff ∷ []) (b ∷ []) others bottom floor h k = absurd k
one_stack top (gap ∷ gaps) (staff ∷ next ∷ more) (b ∷ bs) others bottom floor h k = absurd k
one_stack top gaps staves bases others bottom floor h k = absurd h

abbrev heights_of : List ℤ → ℤ → Heights
heights_of bases height = record { bases = bases; height = height }

-- the staves of a system are stacked in only one way
pub one_stacked : (s : Score) (m : SystemMarks) (x y : Heights) → IsStack s m x → IsStack s m y → x ≡ y
one_stacked s m x y h k =
    let both = one_stack (pos 0) (gaps_between s.voices) m.staves x.bases y.bases (pos 0 -ℤ x.height)
    (pos 0 -ℤ y.height) h.stacked k.stacked in
    let bases = both.0 in
    let low = both.1 in
    let high : x.height ≡ y.height = omega (arith, ints, low) in
    let made : heights_of x.bases x.height ≡ heights_of y.bases y.height = cc in
    made

-- partners of things one by one are unique if each thing has one partner
pub one_zip : {X Y : Type 0} (P : X → Y → Type 0)
    → ((x : X) (y z : Y) → P x y → P x z → y ≡ z) → (xs : List X) (ys zs : List Y) → AllZip P xs ys → AllZip P xs zs
    → ys ≡ zs
one_zip P one [] [] [] h k = refl
one_zip P one [] [] (z ∷ zs) h k = absurd k
one_zip P one (x ∷ xs) (y ∷ ys) [] h k = absurd k
one_zip P one (x ∷ xs) (y ∷ ys) (z ∷ zs) h k =
    let first = one x y z h.0 k.0 in let more = one_zip P one xs ys zs h.1 k.1 in cc
one_zip P one _ _ zs h k = absurd h
