use Rattle.std.proofs.Common.{◌≡◌, subst, sym}
use Rattle.std.proofs.lemmas.List.Filters.{dedup_is}
use Rattle.std.proofs.lemmas.List.Kept.{Contains-dedup, Contains-from_dedup, IsStrictlySortedBy-dedup}
use Rattle.std.proofs.lemmas.List.Sorted.{Contains-permutation, IsPermutation-sym}
use Rattle.std.specs.List.{Contains}
use Rattle.mus_onsets.specs.contracts.keys.ColumnKeyOrd.TheImpl.Laws.{total-law, matches_eq-law}
use Rattle.mus_onsets.specs.contracts.keys.ColumnKeyEq.TheImpl.Laws.{laws-law}
use Rattle.mus_onsets.proofs.Rising.{rises_from_sorted, same_from_eq}
use Rattle.mus_onsets.proofs.columns.rising_keys.Goals as goal

pub returns : goal.returns
returns c =
    let is = dedup_is _ _ _ c.dedup.ensures.filtered in
    let moved = c.sort_unstable.ensures.permutation in
    let view : c.keys.inside.items.items ≡ c.args.keys = c.keys.view_is in
    record {
      rise =
          rw is (rises_from_sorted _
          (IsStrictlySortedBy-dedup total-law matches_eq-law _ c.sort_unstable.ensures.sorted));
      all =
          λ k h.
          rw is (Contains-dedup laws-law same_from_eq _ k
          (Contains-permutation _ _ k moved (subst (λ z. Contains z k) (sym view) h)));
      only =
          λ k h.
          subst (λ z. Contains z k) view
          (Contains-permutation _ _ k (IsPermutation-sym _ _ moved) (Contains-from_dedup _ _ k (rw is at h)));
    }
