-- Voices that are all tilted at once: what they keep, and their staves.
use Rattle.std.proofs.Common.{◌≡◌, ◌∙◌, ◌≤◌, ℕ, suc, ℤ, ◌+◌, ◌-◌, List, [], ◌∷◌, ◌++◌, length, take, drop, map, refl}
use Rattle.std.proofs.Common.{sym, ap, subst, arith}
use Rattle.std.proofs.lemmas.List.Elements.{All-map}
use Rattle.std.proofs.lemmas.Simd.{map-map}
use Rattle.std.specs.List.{All, prefix_len, slice_range}
use Rattle.mus_score.specs.Seats.{grouped}
use Rattle.mus_onsets.specs.declared.keys.ColumnKey.{ColumnKey}
use Rattle.mus_drawn.specs.declared.drawn.DrawnVoice.{DrawnVoice}
use Rattle.mus_marks.specs.Staff.{staff_marks}
use Rattle.mus_marks.specs.System.{is_drawn_lower}
use Rattle.mus_bridges.specs.Ends.{over, voice_ended}
use Rattle.mus_marks.specs.Tilt.{sloped_over, tilted_staff, voice_tilted}
use Rattle.mus_bridges.proofs.Ending.{over_take}
use Rattle.mus_marks.proofs.Ending.{over_drop, prefix_ended}
use Rattle.mus_marks.proofs.Groups.{group_turn, grouped_map, rest_from}

over_own : {A B : Type 0} (f : B → A → A) (g : A → B) (xs : List A) → over f (map g xs) xs ≡ map (λ x. f (g x) x) xs
over_own f g [] = refl
over_own f g (x ∷ xs) = ap (λ t. f (g x) x ∷ t) (over_own f g xs)

-- ---- the first staff of voices with other ends
ended_count : (a : ℕ) (ends : List (List (List ℤ))) (vs : List DrawnVoice)
    → length (over (voice_ended a) ends vs) ≡ length vs
ended_count a [] vs = refl
ended_count a (t ∷ ts) [] = refl
ended_count a (t ∷ ts) (v ∷ vs) = ap suc (ended_count a ts vs)

pub ended_turn : {B : Type 0} (a : ℕ) (f : List DrawnVoice → B) (ends : List (List (List ℤ))) (rest : List DrawnVoice)
    (n : ℕ) (out new whole : List B)
    → 1 ≤ length rest → n ≡ prefix_len is_drawn_lower (take (length rest - 1) (drop 1 rest))
    → new ≡ out ++ f (over (voice_ended a) ends (take (n + 1) rest)) ∷ []
    → out ++ map f (grouped is_drawn_lower (over (voice_ended a) ends rest)) ≡ whole
    → new
    ++ map f
    (grouped is_drawn_lower
    (over (voice_ended a) (drop (n + 1) ends) (take (length rest - (n + 1)) (drop (n + 1) rest))))
    ≡ whole
ended_turn a f ends rest n out new whole some prefix put so_far =
    let all = over (voice_ended a) ends rest in
    let count = ended_count a ends rest in
    let first = prefix
    ∙ ap (prefix_len is_drawn_lower) (rest_from 1 rest)
    ∙ sym (prefix_ended a (drop 1 ends) (drop 1 rest))
    ∙ ap (prefix_len is_drawn_lower)
    (sym (over_drop (voice_ended a) 1 ends rest) ∙ sym (rest_from 1 all)) in
    let taken = put ∙ ap (λ vs. out ++ f vs ∷ []) (sym (over_take (voice_ended a) (n + 1) ends rest)) in
    let left = ap (over (voice_ended a) (drop (n + 1) ends)) (rest_from (n + 1) rest)
    ∙ sym (over_drop (voice_ended a) (n + 1) ends rest)
    ∙ sym (rest_from (n + 1) all) in
    ap (λ vs. new ++ map f (grouped is_drawn_lower vs)) left
    ∙ group_turn is_drawn_lower f all n out new whole (omega (arith, some, count)) first taken so_far

module _ (keys : List ColumnKey) (at : List ℤ) (a b : ℕ) where
  pub all_tilted : (vs : List DrawnVoice) (ends : List (List (List ℤ)))
      → ends ≡ map (λ v. sloped_over keys at a (slice_range v.measures a b)) vs
      → over (voice_ended a) ends vs ≡ map (voice_tilted keys at a b) vs
  all_tilted vs ends are =
      ap (λ es. over (voice_ended a) es vs) are
      ∙ over_own (voice_ended a) (λ v. sloped_over keys at a (slice_range v.measures a b)) vs

  pub tilted_all : (P : DrawnVoice → Type 0) (vs ws : List DrawnVoice)
      → ws ≡ map (voice_tilted keys at a b) vs → All (λ v. P (voice_tilted keys at a b v)) vs → All P ws
  tilted_all P vs ws is each = subst (All P) (sym is) (All-map P (voice_tilted keys at a b) vs each)

  -- the staves of tilted voices are the tilted staves
  pub staves_tilted : (lengths : List ℕ) (vs : List DrawnVoice)
      → map (staff_marks keys lengths a b) (grouped is_drawn_lower (map (voice_tilted keys at a b) vs))
      ≡ map (tilted_staff keys lengths at a b) (grouped is_drawn_lower vs)
  staves_tilted lengths vs =
      ap (map (staff_marks keys lengths a b))
      (grouped_map (voice_tilted keys at a b) is_drawn_lower is_drawn_lower (λ v. refl) vs)
      ∙ map-map (staff_marks keys lengths a b) (map (voice_tilted keys at a b)) (grouped is_drawn_lower vs)
