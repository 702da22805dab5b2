-- From the table to all legal breakings.
use Rattle.std.proofs.Common.{◌≡◌, ℕ, ◌≤◌, Bool, false, List, reverse, Option, Some, None, IsSome, refl, sym, ◌∙◌, ap}
use Rattle.std.proofs.Common.{subst, arith, slice_index_or}
use Rattle.std.proofs.lemmas.List.{reverse-reverse}
use Rattle.lay_breaks.specs.Breaking.{IsLegal, sum_from, LexAtMost, IsPotential, IsChosen, IsReached, IsLeastSum}
use Rattle.lay_breaks.specs.Breaking.{NoneLegal}
use Rattle.lay_breaks.specs.Table.{top, IsBack, sum_back, IsBreakTable, LeadsBack, IsLeastBack}
use Rattle.lay_breaks.proofs.Ends.{back_legal, legal_back, sum_reverse}
use Rattle.lay_breaks.proofs.Choice.{IsChosenBack, table_none, table_some, follows_chosen}

module _ (cost : ℕ → ℕ → Option ℕ) (forced : ℕ → Bool) (free : forced 0 ≡ false) where
  -- what holds of each list of spans to bar i, read forwards, holds of each legal list
  pub every_legal : (i : ℕ) (P : List ℕ → Type 0)
      → ((r : List ℕ) → IsBack cost forced r → top r ≡ i → P (reverse r))
      → (bs : List ℕ) → IsLegal cost forced bs i
      → P bs
  every_legal i P p bs h =
      let b =
      legal_back cost forced (reverse bs) i (subst (λ bs. IsLegal cost forced bs i) (sym (reverse-reverse bs)) h) in
      subst P (reverse-reverse bs) (p (reverse bs) b.0 b.1)

  pub least_sum : (i v : ℕ) → IsLeastBack cost forced i v → IsLeastSum cost forced i v
  least_sum i v h = record {
    reached =
        (reverse h.way.0, back_legal cost forced free h.way.0 i h.way.1 h.way.2, sum_reverse cost h.way.0 ∙ h.way.3);
    least = every_legal i (λ bs. v ≤ sum_from cost 0 bs) (λ r b e. rw (sum_reverse cost r) (h.least r b e));
  }

  module _ (n : ℕ) (ps : List (Option ℕ)) (fs : List ℕ) (known : IsBreakTable cost forced n n ps fs) where
    pub potential : (i : ℕ) → i ≤ n → IsPotential cost forced i (slice_index_or ps i None)
    potential i le = at (slice_index_or ps i None) refl
      where
        at : (o : Option ℕ) → slice_index_or ps i None ≡ o → IsPotential cost forced i o
        at None e = every_legal i (λ bs. ⊥) (λ r b t. table_none cost forced n n i ps fs le le e known r b t)
        at (Some v) e = least_sum i v (table_some cost forced n n i v ps fs le le e known)

    pub none_at : slice_index_or ps n None ≡ None → NoneLegal cost forced n
    none_at e = rw e at (potential n (omega arith))

    -- the last bar with a potential is the last that is reached
    pub reached : (k : ℕ) → k ≤ n → IsSome (slice_index_or ps k None)
        → ((i : ℕ) → i ≤ n → IsSome (slice_index_or ps i None) → i ≤ k)
        → IsReached cost forced n k
    reached k le some greatest = record {
      within = le;
      legal = way (slice_index_or ps k None) some (potential k le);
      greatest = λ i bs l h. greatest i l (is (slice_index_or ps i None) bs h (potential i l));
    }
      where
        way : (o : Option ℕ) → IsSome o → IsPotential cost forced k o → (bs : List ℕ) × IsLegal cost forced bs k
        way None s p = cc
        way (Some v) s p = (p.reached.0, p.reached.1)

        is : {i : ℕ} (o : Option ℕ) (bs : List ℕ) → IsLegal cost forced bs i → IsPotential cost forced i o → IsSome o
        is None bs h p = absurd (p bs h)
        is (Some v) bs h p = refl

    module _ (v : ℕ) (some : slice_index_or ps n None ≡ Some v) (bs : List ℕ)
        (follows : LeadsBack fs n (reverse bs)) where
      back : IsChosenBack cost forced n (reverse bs)
      back = follows_chosen cost forced n ps fs known (reverse bs) n v (omega arith) some follows

      legal : IsLegal cost forced bs n
      legal =
          subst (λ bs. IsLegal cost forced bs n) (reverse-reverse bs)
          (back_legal cost forced free (reverse bs) n back.back back.ends)

      sum_is : sum_from cost 0 bs ≡ sum_back cost (reverse bs)
      sum_is = ap (sum_from cost 0) (sym (reverse-reverse bs)) ∙ sum_reverse cost (reverse bs)

      best : IsLeastBack cost forced n v
      best = table_some cost forced n n n v ps fs (omega arith) (omega arith) some known

      pub total : v ≡ sum_from cost 0 bs
      total =
          let s = sum_is in let l = best.least (reverse bs) back.back back.ends in
          let w = best.way.3 in let l' = back.least best.way.0 best.way.1 best.way.2 in omega arith

      pub chosen : IsChosen cost forced n bs
      chosen = record {
        legal = legal;
        least =
            subst (λ s. (other : List ℕ) → IsLegal cost forced other n → s ≤ sum_from cost 0 other) total
            (least_sum n v best).least;
        latest =
            every_legal n (λ other. sum_from cost 0 other ≡ sum_from cost 0 bs → LexAtMost (reverse other) (reverse bs))
            (λ r b e q. rw reverse-reverse (back.latest r b e (sym (sum_reverse cost r) ∙ (q ∙ sum_is))));
      }
