-- Lists of bars.
use Rattle.std.proofs.Common.{◌≡◌, refl, sym, ap, ◌∙◌, ℕ, ◌+◌, ◌<◌, List, [], ◌∷◌, ◌++◌, Bool, false, Option, None}
use Rattle.std.proofs.Common.{reverse, slice_index_or, arith}
use Rattle.std.proofs.Math.Bool.{or_comm}
use Rattle.std.proofs.lemmas.List.{reverse-append}
use Rattle.std.proofs.lemmas.List.Folds.{list_any-append}
use Rattle.std.proofs.lemmas.List.FromFn.{map-range_with_len_more}
use Rattle.std.specs.Prelude.{map, ◌||◌}
use Rattle.std.specs.List.{list_any, range_with_len}
use Rattle.mus_units.specs.declared.note.Bar.{Bar}
use Rattle.abc_steps.specs.Looks.{Steps}
use Rattle.abc_steps.specs.Counts.{measures_begun}
use Rattle.abc_events.specs.Bars.{bars_at, bar_of, joined_or, missing_bar}

pub any_reverse : {X : Type 0} (p : X → Bool) (xs : List X) → list_any p (reverse xs) ≡ list_any p xs
any_reverse p [] = refl
any_reverse p (x ∷ xs) =
    ap (list_any p) (reverse-append (x ∷ []) xs)
    ∙ (list_any-append p (reverse xs) (x ∷ []) ∙ (ap (λ b. b || (p x || false)) (any_reverse p xs)
    ∙ (or_comm (list_any p xs) (p x || false) ∙ ap (λ b. b || list_any p xs) (or_comm (p x) false))))

pub bars_pushed : (steps : Steps) (n k own : ℕ) (all slice : List (Option Bar)) (bar : Bar) (bars bars' : List Bar)
    → k < n → slice ≡ all → own ≡ measures_begun (reverse steps)
    → ((begun : ℕ) → begun < n + 1 → slice_index_or all begun None ≡ bars_at begun (reverse steps))
    → bar ≡ joined_or (missing_bar own k) (slice_index_or slice (k + 1) None)
    → bars ≡ map (bar_of steps) (range_with_len 0 k) → bars' ≡ bars ++ bar ∷ []
    → bars' ≡ map (bar_of steps) (range_with_len 0 (k + 1))
bars_pushed steps n k own all slice bar bars bars' less same is_own at is so_far put =
    let made : bar ≡ bar_of steps k = is
    ∙ (ap (λ xs. joined_or (missing_bar own k) (slice_index_or xs (k + 1) None)) same
    ∙ (ap (λ o. joined_or (missing_bar o k) (slice_index_or all (k + 1) None)) is_own
    ∙ ap (joined_or (missing_bar (measures_begun (reverse steps)) k)) (at (k + 1) (omega arith)))) in
    put
    ∙ (ap (λ b. bars ++ b ∷ []) made
    ∙ (ap (λ bs. bs ++ bar_of steps k ∷ []) so_far ∙ sym (map-range_with_len_more (bar_of steps) 0 k k (omega arith))))
