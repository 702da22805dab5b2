-- The numbers of the tunes of a book.
use Rattle.std.proofs.Common.{◌≡◌, ℕ, suc, ◌+◌, ◌<◌, ◌≤◌, ◌^◌, ◌==◌, Bool, true, false, List, [], ◌∷◌, length, drop}
use Rattle.std.proofs.Common.{if◌then◌else◌, nat_eq, arith, sym, subst}
use Rattle.std.proofs.lemmas.List.{length-drop, length-map}
use Rattle.std.proofs.lemmas.List.Splits.{length-slice_split}
use Rattle.std.proofs.lemmas.List.Sums.{count_by-le-length}
use Rattle.std.specs.List.{slice_split, starts_with}
use Rattle.abc_lines.specs.declared.reading.LineContent.{LineContent}
use Rattle.abc_lines.specs.Books.{begins_tune, book_of, tune_at, tunes_after}
use Rattle.abc_lines.specs.Lines.{byte_order_mark, is_end, lines_of, reading, readings, without_last_empty}
use Rattle.abc_lines.specs.Lines.{without_mark}
use Rattle.set_tune.specs.Terms.{Terms}
use Rattle.set_book.specs.declared.outcome.Outcome.{Outcome}
use Rattle.set_book.specs.Outcomes.{AreOutcomes}
use Rattle.set_lists.specs.Laws.{BookRises, OrdinalsRise}

-- ---- a book has at most one line more than bytes
dropped : (lines : List (List ℕ)) → length (without_last_empty lines) ≤ length lines
dropped [] = omega arith
dropped (line ∷ []) = at (length line == 0)
  where
    at : (t : Bool) → length (if t then [] else line ∷ []) ≤ 1
    at true = omega arith
    at false = omega arith
dropped (line ∷ next ∷ more) = let l = dropped (next ∷ more) in omega (arith, l)

unmarked : (bytes : List ℕ) → length (without_mark bytes) ≤ length bytes
unmarked bytes = at (starts_with nat_eq bytes byte_order_mark)
  where
    at : (t : Bool) → length (if t then drop 3 bytes else bytes) ≤ length bytes
    at true = let l = length-drop 3 bytes in omega (arith, l)
    at false = omega arith

few_lines : (bytes : List ℕ) → length (readings bytes) ≤ length bytes + 1
unfolding readings
few_lines bytes =
    let mapped = length-map (lines_of bytes) reading in
    let l = dropped (slice_split is_end bytes) in
    let split = length-slice_split is_end bytes in
    let m = count_by-le-length is_end bytes in
    omega (arith, mapped, l, split, m)

module _ (terms : Terms) (all : List LineContent) where
  -- the outcomes of the tunes that begin after some lines, the first of which has a number past k
  rise_after : (before lines : List LineContent) (k : ℕ) (os : List Outcome)
      → k + length lines < 2 ^ 32 → AreOutcomes terms (tunes_after all (suc k) before lines) os → OrdinalsRise k os
  rise_after before [] k [] l h = tt
  rise_after before [] k (o ∷ os) l h = absurd h
  rise_after before (line ∷ more) k os l h =
      at (begins_tune line) os (λ ps g. rise_after (line ∷ before) more (suc k) ps (omega (arith, l)) g)
      (λ g. rise_after (line ∷ before) more k os (omega (arith, l)) g) h
    where
      at : (t : Bool) (ps : List Outcome)
          → ((qs : List Outcome)
          → AreOutcomes terms (tunes_after all (suc (suc k)) (line ∷ before) more) qs → OrdinalsRise (suc k) qs)
          → (AreOutcomes terms (tunes_after all (suc k) (line ∷ before) more) ps → OrdinalsRise k ps)
          → AreOutcomes terms
          (if t then tune_at all (suc k) (suc (length before)) ∷ tunes_after all (suc (suc k)) (line ∷ before) more
          else tunes_after all (suc k) (line ∷ before) more) ps → OrdinalsRise k ps
      at true [] further same h = absurd h
      at true (p ∷ ps) further same h =
          let e : p.ordinal ≡ suc k = h.0.ordinal in
          (omega (arith, e), omega (arith, e, l), subst (λ j. OrdinalsRise j ps) (sym e) (further ps h.1))
      at false ps further same h = same h

pub book_rises : BookRises
unfolding book_of
book_rises bytes terms os l h =
    rise_after terms (readings (without_mark bytes)) [] (readings (without_mark bytes)) 0 os
    (let m = few_lines (without_mark bytes) in let n = unmarked bytes in omega (arith, l, m, n)) h
