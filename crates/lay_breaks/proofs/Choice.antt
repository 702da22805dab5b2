-- The list on the way back through the table is the chosen one.
use Rattle.std.proofs.Common.{◌≡◌, ℕ, ◌+◌, ◌<◌, ◌≤◌, Bool, List, [], ◌∷◌, Option, Some, None, unwrap_or, refl, sym, ◌∙◌}
use Rattle.std.proofs.Common.{subst, arith, inl, inr, slice_index, slice_index_or}
use Rattle.std.proofs.lemmas.Bool.{cases_lt, cases_eq}
use Rattle.std.proofs.lemmas.Option.{none-some, same_Some}
use Rattle.lay_breaks.specs.Breaking.{LexAtMost}
use Rattle.lay_breaks.specs.Table.{top, IsLegalSpan, IsBack, sum_back, LeadsToBar, IsRow, IsLeastBack, IsBreakTable}
use Rattle.lay_breaks.specs.Table.{LeadsBack}

-- read from its end, r is the best list that ends at bar i, and the last of equals
pub record IsChosenBack (cost : ℕ → ℕ → Option ℕ) (forced : ℕ → Bool) (i : ℕ) (r : List ℕ) : Type 0 where
  pub back : IsBack cost forced r
  pub ends : top r ≡ i
  pub least : (s : List ℕ) → IsBack cost forced s → top s ≡ i → sum_back cost r ≤ sum_back cost s
  pub latest : (s : List ℕ) → IsBack cost forced s → top s ≡ i → sum_back cost s ≡ sum_back cost r → LexAtMost s r

module _ (cost : ℕ → ℕ → Option ℕ) (forced : ℕ → Bool) where
  -- a list that ends at bar 0 has no bars
  pub at_zero : (P : List ℕ → Type 0) → P [] → (s : List ℕ) → IsBack cost forced s → top s ≡ 0 → P s
  at_zero P p [] b e = p
  at_zero P p (x ∷ s) b e = let l : top s < x = b.0.rises in absurd (omega arith)

  pub chosen_zero : IsChosenBack cost forced 0 []
  chosen_zero = record {
    back = tt;
    ends = refl;
    least = λ s b e. omega arith;
    latest = λ s b e q. at_zero (λ s. LexAtMost s []) tt s b e;
  }

  -- a list that ends at bar i, past 0, leads there
  pub at_more : (m i : ℕ) (P : List ℕ → Type 0)
      → 0 < i → i ≤ m → ((r : List ℕ) → LeadsToBar cost forced m i r → P (i ∷ r)) → (s : List ℕ) → IsBack cost forced s
      → top s ≡ i
      → P s
  at_more m i P pos le p [] b e = absurd (omega arith)
  at_more m i P pos le p (x ∷ s) b e =
      let l : top s < x = b.0.rises in
      subst (λ x. P (x ∷ s)) (sym e)
      (p s (record { back = b.1; below = omega arith; span = subst (λ x. IsLegalSpan cost forced (top s) x) e b.0 }))

  -- what a settled row says of bar i
  pub row_none : (m i from : ℕ)
      → 0 < i → i ≤ m → IsRow cost forced m i None from → (s : List ℕ) → IsBack cost forced s → top s ≡ i → ⊥
  row_none m i from pos le h = at_more m i (λ s. ⊥) pos le h

  pub row_least : (m i v from : ℕ) → 0 < i → i ≤ m → IsRow cost forced m i (Some v) from → IsLeastBack cost forced i v
  row_least m i v from pos le h = record {
    way = (i ∷ h.way.0, (h.way.1.span, h.way.1.back), refl, h.way.3);
    least = at_more m i (λ s. v ≤ sum_back cost s) pos le h.least;
  }

  lex_under : (s r : List ℕ) → top s < top r → LexAtMost s r
  lex_under [] r l = tt
  lex_under (x ∷ s) [] l = absurd (omega arith)
  lex_under (x ∷ s) (y ∷ r) l = inl l

  -- the chosen list to the bar where the best way to bar i begins, and then i
  pub chosen_more : (m i v a : ℕ) (r : List ℕ)
      → 0 < i → i ≤ m → IsRow cost forced m i (Some v) a → IsChosenBack cost forced a r
      → IsChosenBack cost forced i (i ∷ r)
  chosen_more m i v a r pos le h c = record {
    back = (leads.span, c.back);
    ends = refl;
    least = λ s b e. rw is ((row_least m i v a pos le h).least s b e);
    latest =
        λ s b e q.
        at_more m i (λ s. sum_back cost s ≡ sum_back cost (i ∷ r) → LexAtMost s (i ∷ r)) pos le later s b e q;
  }
    where
      t : top r ≡ top h.way.0
      t = c.ends ∙ sym h.way.2

      leads : LeadsToBar cost forced m i r
      leads = record {
        back = c.back;
        below = let b : top h.way.0 < m = h.way.1.below in omega (arith, t);
        span = subst (λ t. IsLegalSpan cost forced t i) (sym t) h.way.1.span;
      }

      price : (s : List ℕ) → top s ≡ a → sum_back cost (i ∷ s) ≡ sum_back cost s + unwrap_or (cost a i) 0
      price s e = rw e refl

      is : sum_back cost (i ∷ r) ≡ v
      is =
          let p = price r c.ends in
          let p0 = price h.way.0 h.way.2 in
          let w : sum_back cost (i ∷ h.way.0) ≡ v = h.way.3 in
          let k = c.least h.way.0 h.way.1.back h.way.2 in let k' = h.least r leads in omega arith

      later : (s : List ℕ)
          → LeadsToBar cost forced m i s → sum_back cost (i ∷ s) ≡ sum_back cost (i ∷ r) → LexAtMost (i ∷ s) (i ∷ r)
      later s l q = inr (
        refl,
        elim (cases_lt (top s) a) [
          | inl lt ↦ lex_under s r (let e = c.ends in omega arith)
          | inr ge ↦
              let k : top s ≤ a = h.latest s l (q ∙ is) in
              let e : top s ≡ a = omega arith in
              let p = price r c.ends in
              let p' = price s e in
              c.latest s l.back e (omega arith)
        ],
      )

  -- what the table says of a bar whose spans have all been tried
  pub table_none : (n m i : ℕ) (ps : List (Option ℕ)) (fs : List ℕ)
      → i ≤ n → i ≤ m → slice_index_or ps i None ≡ None → IsBreakTable cost forced n m ps fs → (r : List ℕ)
      → IsBack cost forced r → top r ≡ i
      → ⊥
  table_none n m i ps fs le lm is h r b e = elim (cases_eq i 0) [
    | inl z ↦ none-some 0 (sym (subst (λ i. slice_index_or ps i None ≡ None) z is) ∙ h.zero_is)
    | inr z ↦ row_none m i (slice_index fs i) (omega arith) lm (rw is at (h.rows i (omega arith) le)) r b e
  ]

  zero_least : IsLeastBack cost forced 0 0
  zero_least = record { way = ([], tt, refl, refl); least = λ r b e. omega arith }

  pub table_some : (n m i v : ℕ) (ps : List (Option ℕ)) (fs : List ℕ)
      → i ≤ n → i ≤ m → slice_index_or ps i None ≡ Some v → IsBreakTable cost forced n m ps fs
      → IsLeastBack cost forced i v
  table_some n m i v ps fs le lm is h = elim (cases_eq i 0) [
    | inl z ↦
        let e : v ≡ 0 = same_Some v 0 (sym (subst (λ i. slice_index_or ps i None ≡ Some v) z is) ∙ h.zero_is) in
        subst (λ v. IsLeastBack cost forced i v) (sym e) (subst (λ i. IsLeastBack cost forced i 0) (sym z) zero_least)
    | inr z ↦ row_least m i v (slice_index fs i) (omega arith) lm (rw is at (h.rows i (omega arith) le))
  ]

  -- the list on the way back through the table is chosen
  pub follows_chosen : (n : ℕ) (ps : List (Option ℕ)) (fs : List ℕ)
      → IsBreakTable cost forced n n ps fs → (r : List ℕ) (i v : ℕ) → i ≤ n → slice_index_or ps i None ≡ Some v
      → LeadsBack fs i r
      → IsChosenBack cost forced i r
  follows_chosen n ps fs h [] i v le is f = subst (λ i. IsChosenBack cost forced i []) (sym f) chosen_zero
  follows_chosen n ps fs h (x ∷ r) i v le is f =
      let row = rw is at (h.rows i f.1 le) in
      let a : ℕ = slice_index fs i in
      let below : slice_index fs i < i = h.falls i f.1 le in
      subst (λ x. IsChosenBack cost forced i (x ∷ r)) (sym f.0)
      (chosen_more n i v (slice_index fs i) r f.1 le row
      (from (slice_index_or ps (slice_index fs i) None) refl
      (λ w e. follows_chosen n ps fs h r (slice_index fs i) w (omega arith) e f.2) row below))
    where
      from : (o : Option ℕ) → slice_index_or ps (slice_index fs i) None ≡ o
          → ((w : ℕ)
          → slice_index_or ps (slice_index fs i) None ≡ Some w → IsChosenBack cost forced (slice_index fs i) r)
          → IsRow cost forced n i (Some v) (slice_index fs i) → slice_index fs i < i
          → IsChosenBack cost forced (slice_index fs i) r
      from None e more row below =
          absurd (table_none n n (slice_index fs i) ps fs (omega arith) (omega arith) e h row.way.0 row.way.1.back
          row.way.2)
      from (Some w) e more row below = more w e
