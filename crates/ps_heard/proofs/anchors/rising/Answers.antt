use Rattle.std.proofs.Common.{◌≡◌, subst, sym, refl}
use Rattle.std.proofs.lemmas.Cmp.{int_cmp_total, int_eq_equiv}
use Rattle.std.proofs.lemmas.List.Filters.{dedup_is}
use Rattle.std.proofs.lemmas.List.Kept.{Contains-dedup, Contains-from_dedup, IsStrictlySortedBy-dedup}
use Rattle.std.proofs.lemmas.List.Sorted.{Contains-permutation, IsPermutation-sym}
use Rattle.std.specs.List.{Contains}
use Rattle.ps_heard.proofs.Places.{eq_is, rising_is}
use Rattle.ps_heard.proofs.anchors.rising.Goals as goal

pub returns-clause-rise : goal.returns-clause-rise
returns-clause-rise c =
    let is = dedup_is _ _ _ c.dedup.ensures.filtered in
    rw is (IsStrictlySortedBy-dedup int_cmp_total (λ x y. refl) _ c.sort_unstable.ensures.sorted)

pub returns-clause-value : goal.returns-clause-value
returns-clause-value c =
    let is = dedup_is _ _ _ c.dedup.ensures.filtered in
    let moved = c.sort_unstable.ensures.permutation in
    let view : c.numbers.inside.items.items ≡ c.args.numbers = c.numbers.view_is in
    rising_is c.args.numbers c.dedup.new.self.items (returns-clause-rise c)
    (λ w h.
    rw is (Contains-dedup int_eq_equiv eq_is _ w
    (Contains-permutation _ _ w moved (subst (λ z. Contains z w) (sym view) h))))
    (λ w h.
    subst (λ z. Contains z w) view
    (Contains-permutation _ _ w (IsPermutation-sym _ _ moved) (Contains-from_dedup _ _ w (rw is at h))))
