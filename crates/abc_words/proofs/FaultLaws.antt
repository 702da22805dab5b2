-- Verses, faults and numbers of verses, with one more verse at a time.
use Rattle.std.proofs.Common.{◌≡◌, ℕ, suc, ◌+◌, ◌≤◌, ◌<◌, List, [], ◌∷◌, ◌++◌, Bool, true, false, cond, length, map}
use Rattle.std.proofs.Common.{take, drop, get_or, refl, sym, ap, ◌∙◌, subst, arith, append_assoc, append-nil, drop-cons}
use Rattle.std.proofs.Common.{nat_le}
use Rattle.std.proofs.Math.Seq.{take-suc}
use Rattle.std.proofs.lemmas.Bool.{le-leb, lt-leb, leb-true, leb-false}
use Rattle.std.proofs.lemmas.List.Sums.{sum_by-append}
use Rattle.std.specs.Prelude.{Some, None, fold, max, ◌==◌}
use Rattle.std.specs.List.{range_with_len}
use Rattle.abc_words.specs.declared.verses.Verse.{Verse}
use Rattle.abc_words.specs.Verses.{number_on, most_on, too_many, faults_from, first_verse_fault}

pub number_more : (row : ℕ) (before : List Verse) (v : Verse)
    → number_on row (before ++ v ∷ []) ≡ number_on row before + cond (v.row == row) 1 0
number_more row before v =
    let both : number_on row (before ++ v ∷ []) ≡ number_on row before + (0 + cond (v.row == row) 1 0) =
    sum_by-append (λ (w : Verse). cond (w.row == row) 1 0) before (v ∷ []) in
    omega arith

pub fault_free : (before following : List Verse) (v : Verse)
    → number_on v.row before < 8 → faults_from before (v ∷ following) ≡ faults_from (before ++ v ∷ []) following
fault_free before following v few = rw (lt-leb 8 (number_on v.row before) few) refl

pub fault_here : (before following : List Verse) (v : Verse)
    → 8 ≤ number_on v.row before → first_verse_fault (faults_from before (v ∷ following)) ≡ Some (too_many v.line)
fault_here before following v many = rw (le-leb 8 (number_on v.row before) many) refl

-- a walk along the verses
pub one_taken : {X : Type 0} (xs : List X) (i : ℕ) (x : X)
    → i < length xs → x ≡ get_or xs i x → take (i + 1) xs ≡ take i xs ++ x ∷ []
one_taken xs i x inside here =
    ap (λ n. take n xs) (let e : i + 1 ≡ suc i = omega arith in e)
    ∙ (take-suc xs i x inside ∙ ap (λ y. take i xs ++ y ∷ []) (sym here))

pub one_left : {X : Type 0} (xs : List X) (i : ℕ) (x : X)
    → i < length xs → x ≡ get_or xs i x → drop i xs ≡ x ∷ drop (i + 1) xs
one_left xs i x inside here =
    drop-cons xs i x inside
    ∙ (ap (λ y. y ∷ drop (suc i) xs) (sym here) ∙ ap (λ n. x ∷ drop n xs) (let e : suc i ≡ i + 1 = omega arith in e))

pub faults_on : (verses : List Verse) (i : ℕ) (v : Verse)
    → i < length verses → v ≡ get_or verses i v → number_on v.row (take i verses) < 8
    → first_verse_fault (faults_from (take i verses) (drop i verses)) ≡ first_verse_fault (faults_from [] verses)
    → first_verse_fault (faults_from (take (i + 1) verses) (drop (i + 1) verses))
    ≡ first_verse_fault (faults_from [] verses)
faults_on verses i v inside here few so_far =
    ap (λ vs. first_verse_fault (faults_from vs (drop (i + 1) verses))) (one_taken verses i v inside here)
    ∙ (ap first_verse_fault (sym (fault_free (take i verses) (drop (i + 1) verses) v few))
    ∙ (ap (λ vs. first_verse_fault (faults_from (take i verses) vs)) (sym (one_left verses i v inside here)) ∙ so_far))

pub fault_found : (verses : List Verse) (i : ℕ) (v : Verse)
    → i < length verses → v ≡ get_or verses i v → 8 ≤ number_on v.row (take i verses)
    → first_verse_fault (faults_from (take i verses) (drop i verses)) ≡ first_verse_fault (faults_from [] verses)
    → Some (too_many v.line) ≡ first_verse_fault (faults_from [] verses)
fault_found verses i v inside here many so_far =
    sym (fault_here (take i verses) (drop (i + 1) verses) v many)
    ∙ (ap (λ vs. first_verse_fault (faults_from (take i verses) vs)) (sym (one_left verses i v inside here)) ∙ so_far)

pub counted_on : (verses : List Verse) (i k : ℕ) (v : Verse) (old new : ℕ) → i < length verses → v ≡ get_or verses i v
    → old ≡ number_on k (take i verses) → new ≡ old + cond (v.row == k) 1 0 → new ≡ number_on k (take (i + 1) verses)
counted_on verses i k v old new inside here so_far put =
    put
    ∙ (ap (λ n. n + cond (v.row == k) 1 0) so_far
    ∙ (sym (number_more k (take i verses) v) ∙ ap (number_on k) (sym (one_taken verses i v inside here))))

-- if there is no fault, no row has more than eight
AreFew : List Verse → Type 0
AreFew verses = (row : ℕ) → number_on row verses ≤ 8

few_more : (before : List Verse) (v : Verse) → AreFew before → number_on v.row before < 8 → AreFew (before ++ v ∷ [])
unfolding AreFew
few_more before v few less row = by_row (v.row == row) (λ e. same e) (number_more row before v) where
  same : (v.row == row) ≡ true → number_on row before < 8
  same e = let P : ℕ → Type 0 = λ r. number_on r before < 8 in subst P (grind (arith, e)) less

  by_row : (b : Bool) → (b ≡ true → number_on row before < 8)
      → number_on row (before ++ v ∷ []) ≡ number_on row before + cond b 1 0
      → number_on row (before ++ v ∷ []) ≤ 8
  by_row true same is = let under : number_on row before < 8 = same refl in omega arith
  by_row false same is = let within : number_on row before ≤ 8 = few row in omega arith

none_few : (before following : List Verse)
    → first_verse_fault (faults_from before following) ≡ None → AreFew before → AreFew (before ++ following)
unfolding AreFew
none_few before [] none few = subst AreFew (sym (append-nil before)) few
none_few before (v ∷ following) none few =
    by_test
    (λ (less : number_on v.row before < 8). subst AreFew (append_assoc before (v ∷ []) following)
    (none_few (before ++ v ∷ []) following (ap first_verse_fault (sym (fault_free before following v less)) ∙ none)
    (few_more before v few less)))
    (nat_le 8 (number_on v.row before)) refl where
      by_test : (number_on v.row before < 8 → AreFew (before ++ v ∷ following))
          → (b : Bool) → nat_le 8 (number_on v.row before) ≡ b → AreFew (before ++ v ∷ following)
      by_test goes_on true e =
          let wrong : Some (too_many v.line) ≡ None =
          sym (fault_here before following v (leb-true 8 (number_on v.row before) e)) ∙ none in
          absurd cc
      by_test goes_on false e = goes_on (leb-false 8 (number_on v.row before) e)

most_few : (number : ℕ → ℕ) (rows : List ℕ) (most : ℕ)
    → most ≤ 8 → ((row : ℕ) → number row ≤ 8) → fold max most (map number rows) ≤ 8
most_few number [] most few all = few
most_few number (row ∷ rows) most few all =
    most_few number rows (max most (number row)) (let here : number row ≤ 8 = all row in omega arith) all

pub few_verses : (verses : List Verse) (rows : ℕ)
    → first_verse_fault (faults_from [] verses) ≡ None → most_on rows verses ≤ 8
unfolding AreFew
few_verses verses rows none =
    most_few (λ row. number_on row verses) (range_with_len 0 rows) 0 (omega arith)
    (none_few [] verses none (λ row. omega arith))

-- the meaning of a count at a row
pub row_inside : (verses : List Verse) (rows i : ℕ) (v : Verse)
    → ((k : ℕ) (d : Verse) → k < length verses → (get_or verses k d).row < rows)
    → i < length verses → v ≡ get_or verses i v
    → v.row < rows
row_inside verses rows i v all inside here =
    let P : Verse → Type 0 = λ w. w.row < rows in subst P (sym here) (all i v inside)
