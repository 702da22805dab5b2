-- A system that a good score calls for can be shown.
use Rattle.std.proofs.Common.{◌≡◌, ◌∙◌, refl, sym, ap, subst, ℕ, ◌<◌, ◌≤◌, true, ◌==◌, get_or, inl, inr, List, [], ◌∷◌}
use Rattle.std.proofs.Common.{◌++◌, length, map, arith}
use Rattle.std.proofs.lemmas.Bool.Decides.{nat_tests}
use Rattle.std.proofs.lemmas.Grind.{flat_map-append}
use Rattle.std.proofs.lemmas.List.{length-map}
use Rattle.std.proofs.lemmas.List.Elements.{All-from_recursion, Contains-append_cases, Contains-append_left}
use Rattle.std.proofs.lemmas.List.Elements.{Contains-append_right, Contains-get_or, recursion_from_All}
use Rattle.std.proofs.lemmas.List.Folds.{flat_map-map, list_any_at}
use Rattle.std.specs.List.{AllByRecursion, Contains, flat_map, list_any}
use Rattle.std.specs.Prelude.{All, IsTrue}
use Rattle.mus_score.specs.{declared.score.Score.Score, GoodScore.IsGoodScore}
use Rattle.mus_score.specs.declared.score.Voice.{Voice}
use Rattle.mus_onsets.specs.declared.keys.ColumnKey.{ColumnKey}
use Rattle.mus_onsets.specs.Keys.{head_key, voice_keys}
use Rattle.mus_onsets.specs.Onsets.{timeline_of}
use Rattle.mus_onsets.specs.Order.{key_rank}
use Rattle.mus_onsets.proofs.RankLaws.{rank_at_place}
use Rattle.mus_laid.specs.declared.laid.Laid.{Laid}
use Rattle.mus_laid.specs.declared.laid.StaffMarks.{StaffMarks}
use Rattle.mus_laid.specs.declared.laid.SystemMarks.{SystemMarks}
use Rattle.mus_drawn.specs.declared.drawn.DrawnVoice.{DrawnVoice}
use Rattle.mus_drawn.specs.Drawn.{drawn_voice}
use Rattle.mus_time.proofs.Called.{staff_same}
use Rattle.mus_bridges.specs.Bridges.{bridges_of}
use Rattle.mus_slots.specs.Staff.{staff_laid}
use Rattle.mus_slots.specs.Voice.{slots_of_voices}
use Rattle.mus_slots.proofs.Marks.{FitsVoice, all_mapped}
use Rattle.mus_marks.specs.Staff.{staff_marks, staff_over, verses_on}
use Rattle.mus_marks.specs.System.{IsCall, drawn_staves, is_drawn_lower}
use Rattle.mus_marks.proofs.Fitting.{staves_fit}
use Rattle.mus_marks.proofs.Groups.{grouped_all, grouped_whole}
use Rattle.mus_marks.proofs.Placed.{IsReady, all_ready}
use Rattle.law_marks_in_range.specs.Ranks.{AreAnchored, IsRanked, marks_ranks, staves_ranks}
use Rattle.law_marks_in_range.specs.Shown.{IsShown}
use Rattle.law_marks_in_range.specs.Texts.{HasPrinted}
use Rattle.law_marks_in_range.proofs.Between.{AreBetween}
use Rattle.law_marks_in_range.proofs.Bridged.{voices_between}
use Rattle.law_marks_in_range.proofs.Planned.{voice_planned}
use Rattle.law_marks_in_range.proofs.Printed.{staff_printed}
use Rattle.law_marks_in_range.proofs.Staves.{IsInside, all_between, own_columns, staff_holds, staff_ranked}

-- what one member of a list has, others have through it
of_each : {X K N : Type 0} (f : X → List K) (g : X → List N) (k : K) (n : N) (xs : List X)
    → AllByRecursion (λ x. Contains (f x) k → Contains (g x) n) xs
    → Contains (flat_map f xs) k
    → Contains (flat_map g xs) n
of_each f g k n [] h (i, inside, is) = absurd (omega (arith, inside))
of_each f g k n (x ∷ xs) h has = elim (Contains-append_cases (f x) (flat_map f xs) k has) [
  | inl own ↦ Contains-append_left (g x) (flat_map g xs) n (h.0 own)
  | inr more ↦ Contains-append_right (g x) (flat_map g xs) n (of_each f g k n xs h.1 more)
]

over_groups : {X Y : Type 0} (f : X → List Y) (groups : List (List X))
    → flat_map f (flat_map (λ g. g) groups) ≡ flat_map (flat_map f) groups
over_groups f [] = refl
over_groups f (g ∷ groups) =
    flat_map-append f g (flat_map (λ g. g) groups) ∙ ap (λ t. flat_map f g ++ t) (over_groups f groups)

same_rank : (r : ℕ) → (r == r) ≡ true
same_rank r = grind (arith, nat_tests)

found : (n : ℕ) (ranks : List ℕ) → Contains ranks n → IsTrue (list_any (λ r. n == r) ranks)
found n ranks (i, inside, is) = list_any_at (λ r. n == r) ranks i n inside (ap (λ r. n == r) is ∙ same_rank n)

module _ (s : Score) (a b : ℕ) (m : SystemMarks) (good : IsGoodScore s) (rises : a < b) (within : b ≤ s.measures)
    (call : IsCall s (timeline_of s) a b m) where
  abbrev lengths : List ℕ
  lengths = (timeline_of s).lengths

  abbrev staff : List DrawnVoice → StaffMarks
  staff = staff_marks m.keys lengths a b

  inside_all : (vs : List Voice)
      → AllByRecursion (IsReady m.keys lengths a b) (map drawn_voice vs)
      → AllByRecursion (IsInside m.keys lengths a b) (map drawn_voice vs)
  inside_all [] ready = tt
  inside_all (v ∷ vs) ready =
      (record { keyed = ready.0.slotted.keyed; planned = voice_planned v }, inside_all vs ready.1)

  staves_inside : AllByRecursion (AllByRecursion (IsInside m.keys lengths a b)) (drawn_staves s)
  staves_inside =
      grouped_all is_drawn_lower (IsInside m.keys lengths a b) (map drawn_voice s.voices)
      (inside_all s.voices (all_ready s (timeline_of s) a b m.keys refl good rises within call.keys))

  abbrev Bridges : DrawnVoice → Type 0
  Bridges v = AreBetween m.keys (bridges_of lengths a b v)

  staves_between : AllByRecursion (AllByRecursion Bridges) (drawn_staves s)
  staves_between =
      grouped_all is_drawn_lower Bridges (map drawn_voice s.voices)
      (all_mapped Bridges drawn_voice s.voices
      (recursion_from_All (λ v. Bridges (drawn_voice v)) s.voices
      (voices_between s a b m.keys good rises within call.keys)))

  -- what holds of all marks of each staff, if Q holds of its voices
  each_staff : (Q : DrawnVoice → Type 0) (P : Laid → Type 0)
      → ((voices : List DrawnVoice)
      → AllByRecursion Q voices
      → AllByRecursion P (staff_laid m.keys (verses_on voices) (slots_of_voices 0 lengths a b voices)))
      → AllByRecursion (AllByRecursion Q) (drawn_staves s) → All (λ (t : StaffMarks). All P t.marks) m.staves
  unfolding staff_marks staff_over
  each_staff Q P holds known =
      subst (All (λ (t : StaffMarks). All P t.marks)) (sym call.staves)
      (All-from_recursion (λ (t : StaffMarks). All P t.marks) (map staff (drawn_staves s))
      (along (drawn_staves s) known))
    where
      along : (staves : List (List DrawnVoice))
          → AllByRecursion (AllByRecursion Q) staves
          → AllByRecursion (λ (t : StaffMarks). All P t.marks) (map staff staves)
      along [] h = tt
      along (voices ∷ staves) h =
          (All-from_recursion P (staff voices).marks (holds voices h.0), along staves h.1)

  each_holds : (k : ColumnKey)
      → Contains m.keys k → (staves : List (List DrawnVoice))
      → AllByRecursion (AllByRecursion (IsInside m.keys lengths a b)) staves
      → AllByRecursion
      (λ voices.
      Contains (flat_map (own_columns m.keys lengths a b) voices) k
      → Contains (marks_ranks (staff voices).marks) (key_rank m.keys k))
      staves
  unfolding staff_marks staff_over
  each_holds k inside [] h = tt
  each_holds k inside (voices ∷ staves) h =
      (staff_holds m.keys lengths a b k (verses_on voices) voices h.0 inside, each_holds k inside staves h.1)

  -- a column that is called for is called for by a staff
  staff_calls : (k : ColumnKey)
      → Contains m.keys k → Contains (flat_map (flat_map (own_columns m.keys lengths a b)) (drawn_staves s)) k
  staff_calls k inside =
      let own = own_columns m.keys lengths a b in let voices = map drawn_voice s.voices in
      subst (λ t. Contains t k) (over_groups own (drawn_staves s))
      (subst (λ t. Contains (flat_map own t) k) (sym (grouped_whole is_drawn_lower voices))
      (subst (λ t. Contains t k) (sym (flat_map-map own drawn_voice s.voices))
      (of_each (voice_keys lengths a b) (λ v. own (drawn_voice v)) k k s.voices
      (recursion_from_All _ s.voices (λ i d within'. subst (λ t. Contains t k) (staff_same lengths a b _)))
      (call.keys.only k inside))))

  staves_anchored : AreAnchored (length m.keys) (staves_ranks m.staves)
  staves_anchored i inside =
      let key = get_or m.keys i (head_key a) in
      let held = Contains-get_or m.keys i (head_key a) inside in
      let ranks = λ (voices : List DrawnVoice). marks_ranks (staff voices).marks in
      found i (staves_ranks m.staves)
      (subst (λ ns. Contains ns i)
      (sym
      (ap staves_ranks call.staves
      ∙ flat_map-map (λ (t : StaffMarks). marks_ranks t.marks) staff (drawn_staves s)))
      (subst (Contains (flat_map ranks (drawn_staves s))) (rank_at_place m.keys i (head_key a) call.keys.rise inside)
      (of_each (flat_map (own_columns m.keys lengths a b)) ranks key (key_rank m.keys key) (drawn_staves s)
      (each_holds key held (drawn_staves s) staves_inside) (staff_calls key held))))

  staves_some : 1 ≤ length s.voices → 1 ≤ length m.staves
  staves_some some =
      subst (λ (staves : List StaffMarks). 1 ≤ length staves) (sym call.staves)
      (by (drawn_staves s) (grouped_whole is_drawn_lower (map drawn_voice s.voices)))
    where
      by : (staves : List (List DrawnVoice))
          → flat_map (λ g. g) staves ≡ map drawn_voice s.voices → 1 ≤ length (map staff staves)
      by [] e =
          let long = ap (λ vs. length vs) e in
          let count = length-map s.voices drawn_voice in
          absurd (omega (arith, long, count, some))
      by (voices ∷ staves) e = omega arith

-- what a score with a voice calls for in some of its measures can be shown
pub call_shown : (s : Score) (a b : ℕ) (m : SystemMarks)
    → IsGoodScore s → 1 ≤ length s.voices → a < b → b ≤ s.measures → IsCall s (timeline_of s) a b m → IsShown m
call_shown s a b m good some rises within call =
    let lengths = (timeline_of s).lengths in
    let each = each_staff s a b m good rises within call in
    record {
      rises = let from = call.from in let to = call.to in omega (arith, rises);
      staves = staves_some s a b m good rises within call some;
      ranked =
          each (λ v. AreBetween m.keys (bridges_of lengths a b v)) (λ laid. IsRanked (length m.keys) laid.mark)
          (λ voices h. staff_ranked m.keys (verses_on voices) _ (all_between m.keys lengths a b 0 voices h))
          (staves_between s a b m good rises within call);
      anchored = staves_anchored s a b m good rises within call;
      texts =
          each FitsVoice (λ laid. HasPrinted laid.mark) (staff_printed m.keys lengths a b) (staves_fit s good);
    }
