-- Terms of a sum: the first term, and those after it.
use Rattle.std.{proofs.Common.{◌≡◌, refl, ℕ, suc, ◌+◌, List, [], ◌∷◌, arith, ◌==◌}, specs.List.slice_split}
use Rattle.abc_field.specs.{Numbers.{place_of_byte, before, from_first}, Meters.{is_plus, terms_after}}
use Rattle.abc_field.proofs.ReadLaws.{by_test}

-- the terms are the first term and those after it
pub split_cut : (s : List ℕ) → slice_split is_plus s ≡ before 43 s ∷ terms_after (from_first 43 s)
unfolding before from_first
split_cut [] = refl
split_cut (b ∷ s) =
    by_test (b == 43) (λ e. rw e refl)
    (λ e.
    let more : 1 + place_of_byte 43 s ≡ suc (place_of_byte 43 s) = omega arith in
    let same = split_cut s in
    rw (e, more, same) refl)
